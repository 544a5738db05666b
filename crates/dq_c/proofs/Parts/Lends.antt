-- The code of `get_mut` lends what lies behind the pointer, and the part follows it. Assumes `Logic`.
use mathlib.Core.Path.{◌≡◌, refl, sym}
use Prim.Native.Nat.{ℕ}
use mathlib.Core.List.{List, [], ◌∷◌}
use seplogic.Ra.Ura.{Ura}
use base.Fraction.{full_share}
use base.Logic.{SProp, ent, sep}
use base.Fml.{Lft, GName, Share, Fml, ftrue, flft, fsep}
use mir.Raw.{raw as bare}
use mir.Syntax.{Fn, named, erased, mut, ty_ptr, ty_ref, local, value_local, place, deref, field, copy, rv_opd, addr_of, assign, seq, block, return}
use mir.Val.{Val, vptr}
use prog.Wp.{WpFn, Calls, Loops}
use types.Logic.{Logic, sem}
use types.Kit.{‵, ◌⊛◌, some, at_ret, ◌$◌, ◌∵◌, !, qed, by, move, keep, use1, drop, split, join, pick, fsplit, fsplit3, fjoin, suffices, frame, done, raw, later, await, group, fpack, rewrite}
use types.Part.{whole, sub, look_in}
use types.Run.{stop, fld, load, of_opd, first, blocks, exec, returns, enter, addr}
use types.ByLocal.{alloc_all, pass_all, free_all, look_at, get, through, sets, sets_last, env}
use contract.Monad.{fact}
use contract.Running.{tables}
use denote.Builtin.{RefMutOf}
use denote.Exit.{no}
use denote.Follow.{follows, Part as Lent, lends_Part}
use denote.Memory.{part_at, mem, cell_at, part_of}
use denote.Param.{layout}
use denote.RattleType.{owns}
use denote.RawPtr.{block_ptr}
use denote.Ref.{MutRef, MutBor, mut_vals, mut_Tells}
use denote.Signature.{plain, mut_ref_to}
use denote.Steps.{nothing, heard, opens}
use denote.Triple.Clauses.{Clauses, Ended}
use denote.Triple.Walked.{says, Stays, stay_dropped, walk_of, ends_at, Goes-spent_ref}
use Rattle.std.proofs.alloc.Calls.{token}
use Rattle.std.proofs.raw_atomic.Walks.{proved}
use Rattle.std.specs.Prelude.{Option, Some, IsSome}
use Rattle.std_alloc.proofs.VecSteps.Shapes.{after}
use Rattle.std_alloc.proofs.BoxSteps.Form.{X, D, τ, word, handle}
use Rattle.std_alloc.proofs.BoxSteps.Form as Box
use Rattle.std_alloc.proofs.BoxSteps.Steps.{box_out, box_in}
use Rattle.dq_c.proofs.Parts.{Part, Met, Fields, R, E, W, owned, some_of}

module _ (K : Part) where
  abbrev pub code : Fn
  code = record {
    lifetimes = 1;
    outlives = [];
    ty_params = [];
    givens = 0;
    params = 1;
    locals = local (ty_ref (named 0) mut (R K).written.ty) value_local ∷ local (ty_ref (named 0) mut (W K).written.ty) value_local ∷ local (ty_ref erased mut (R K).written.ty) value_local ∷ local ty_ptr value_local ∷ local ty_ptr value_local ∷ [];
    body = seq (block (seq (assign (place 3 []) (rv_opd (copy (place 1 (deref (layout (W K)) ∷ field 0 ∷ [])))))
        (seq (assign (place 4 []) (rv_opd (copy (place 3 [])))) (assign (place 2 []) (addr_of (place 4 (deref (layout (R K)) ∷ [])))))))
        (seq (assign (place 0 []) (rv_opd (copy (place 2 [])))) return);
  }

  -- the part after what lies behind its pointer was changed to w
  abbrev with : K.D → X (E K) → K.D
  with d w = K.made (K.ptr d) (K.alloc d) (Some w)

  abbrev pub ended : Ended
  ended = record { signature = record { lifetimes = 1; outlives = []; params = RefMutOf (0 ∷ []) tt (plain (λ _. W K)) (λ _. tt) ∷ []; result = RefMutOf (0 ∷ []) tt (plain (λ _. R K)) (λ _. tt) }; kept = (no, tt) }

  abbrev stayed : Stays ended.signature.params ended.kept
  stayed = (stay_dropped (mut_ref_to (0 ∷ []) tt (plain (λ _. W K))) no, tt)

  abbrev pub spec : {M : Type 1} {𝓤 : Ura M} (𝓛 : Logic 𝓤) → Clauses 𝓤 ended
  spec {𝓤 = 𝓤} 𝓛 κs a = record { ghost = Unit {0}; requires = λ _. fact 𝓤 (IsSome (K.value a.0.now)); ensures = λ _ r _. sep 𝓤 (sem 𝓛 (follows (W K) (R K) a.0.ghost_name r.ghost_name (with a.0.now))) (fact 𝓤 (Some r.now ≡ K.value a.0.now)) }

module _ (K : Part) {M : Type 1} {𝓤 : Ura M} (𝓛 : Logic 𝓤) (κ : Lft) (q : Share) (rb ro : ℕ) (γ : GName) (d : K.D) where
  open 𝓛 use {H, A}

  abbrev bound : (walk_of 𝓛 (ended K) (stayed K) (spec K 𝓛)).Ghost
  bound = (((κ, tt), (q, tt), tt, (record { ref_ptr = (rb, ro); ghost_name = γ; now = d }, tt), (vptr rb ro ∷ [], tt)), tt)

  abbrev Post : Val → SProp 𝓤
  Post = (walk_of 𝓛 (ended K) (stayed K) (spec K 𝓛)).post bound

  abbrev boxed : X (E K) → D (E K)
  boxed w = record { ptr = K.ptr d; alloc = K.alloc d; value = w }

  module _ (b o : ℕ) (hv : Val) where
    -- all of the part but what lies behind its pointer
    abbrev Rest : Fml
    Rest = fsep (fsep (token (E K).al (K.alloc d) (bare (τ (E K))) (block_ptr b o)) (handle (E K) (K.alloc d) hv)) (cell_at full_share (W K).mir (word (E K) hv b o ∷ []) rb ro)

    back : K.ptr d ≡ block_ptr b o → (w : X (E K)) → ent 𝓤 (sep 𝓤 (sem 𝓛 ((mem (R K)).own_at w b o)) (sem 𝓛 Rest)) (sem 𝓛 ((mem (W K)).own_at (with K d w) rb ro))
    unfolding part_of
    back at_b w =
        qed 𝓛 (‵ (part_at (Box.R (E K)) full_share w b o) ∷ ‵ Rest ∷ []) ∵
        move ! (1 ∷ []) $ fsplit ! $ fsplit ! $ move ! (3 ∷ []) $
        box_in (E K) ! (boxed w) b o w at_b refl $
        rewrite ! 0 (λ (t : Fields (X (E K))). ‵ (owned K t (word (E K) hv b o ∷ []))) (sym (K.is_made (K.ptr d) (K.alloc d) (Some w))) refl $
        move ! (1 ∷ 0 ∷ []) $ fjoin ! $
        fpack ! (List Val) (λ us. fsep (cell_at full_share (W K).mir us rb ro) ((W K).own_val (with K d w) us)) (word (E K) hv b o ∷ []) $ done !

    module _ (x : X (E K)) (is : K.value d ≡ Some x) where
      abbrev at : GName → MutBor (X (E K))
      at γ' = record { ref_ptr = (b, o); ghost_name = γ'; now = x }

      exits : (γ' : GName)
          → ent 𝓤 (sep 𝓤 (sem 𝓛 ((MutRef (named 0) κ (R K)).own_val (at γ') (vptr b o ∷ []))) (sep 𝓤 (A.lft κ q) (sem 𝓛 (follows (W K) (R K) γ γ' (with K d))))) (Post (vptr b o))
      exits γ' =
          qed 𝓛 (‵ ((MutRef (named 0) κ (R K)).own_val (at γ') (vptr b o ∷ [])) ∷ ‵ (flft κ q) ∷ ‵ (follows (W K) (R K) γ γ' (with K d)) ∷ []) ∵
          suffices ! _ (ends_at 𝓛 (ended K) (stayed K) (spec K 𝓛) bound (vptr b o) (at γ') (tt, tt) (tt, tt)) $
          nothing ! $ nothing ! $ fjoin ! $ join ! $ nothing ! $ move ! (2 ∷ 0 ∷ []) $ join ! $ join ! $ frame ! $ says ! (sym is) $ done !

  module _ (C : Calls 𝓤 H) (Λ : Loops 𝓤 H) where
    walk : ent 𝓤 ((walk_of 𝓛 (ended K) (stayed K) (spec K 𝓛)).pre bound) (WpFn 𝓤 H C Λ (code K) (vptr rb ro ∷ []) Post)
    walk =
        qed 𝓛 (((‵ (flft κ q) ⊛ ‵ ftrue) ⊛ ‵ (owns (MutRef (named 0) κ (W K) ∷ []) (record { ref_ptr = (rb, ro); ghost_name = γ; now = d }, tt) (vptr rb ro ∷ [], tt))) ∷ raw (fact 𝓤 (IsSome (K.value d))) ∷ []) ∵
        move ! (1 ∷ []) $ heard ! (IsSome (K.value d)) (λ held.
        let x = (some_of (K.value d) held).0 in
        let is = (some_of (K.value d) held).1 in
        split ! $
        enter ! C Λ (code K) (vptr rb ro ∷ []) _ $
        alloc_all ! (λ l. pass_all ! refl ((tt, tt), tt) $
        move ! (1 ∷ []) $ fsplit ! $ fsplit3 ! $ drop ! $ move ! (3 ∷ []) $ split ! $ move ! (2 ∷ 3 ∷ 0 ∷ []) $
        opens ! tt (W K) {h = d} rb ro (λ vs. move ! (1 ∷ []) $
        rewrite ! 0 (λ (o : Option (X (E K))). ‵ (owned K (K.ptr d, (K.alloc d, o)) vs)) is refl $
        box_out (E K) ! (boxed x) vs (λ b o hv at_b ws fa. move ! (1 ∷ 2 ∷ []) $ fjoin ! $ move ! (1 ∷ []) $
        rewrite ! 2 (λ (us : List Val). ‵ (cell_at full_share (W K).mir us rb ro)) ws refl $
        first ! $ blocks ! $
        sets ! (of_opd ! (load ! (through ! refl (fld ! refl (stop !))) (look_in ! 2 (sub ! 0 refl (whole !))))) refl (tt, tt) $
        sets ! (of_opd ! (get ! refl)) refl (tt, tt) $
        sets_last ! (addr ! (through ! refl (stop !))) refl (tt, tt) $
        exec ! C Λ (env (code K).locals l) (after 1 (code K).body) (at_ret (env (code K).locals l) Post) $
        sets ! (of_opd ! (get ! refl)) refl (tt, tt) $
        move ! (1 ∷ 2 ∷ []) $ fjoin ! $ move ! (2 ∷ 3 ∷ 4 ∷ 1 ∷ 0 ∷ []) $ group ! 5 $
        use1 𝓛 (later (some (λ (γ' : GName). raw (Lent 𝓛 (W K) (R K) (with K d) (named 0) κ q rb ro b o γ (sem 𝓛 (Rest b o hv)) (back b o hv at_b) x γ'))))
        (lends_Part 𝓛 (W K) (R K) (with K d) (named 0) κ q rb ro b o γ (sem 𝓛 (Rest b o hv)) (back b o hv at_b) ((W K).coded.code d) ((W K).coded.code d) x) $ await ! tt $ pick ! (λ γ'.
        returns ! (look_at ! 0 refl) $ free_all ! refl $
        keep ! (0 ∷ []) $ by ! (exits b o hv x is γ'))))))

pub meets : (K : Part) {M : Type 1} {𝓤 : Ura M} (𝓛 : Logic 𝓤) → Met 𝓛 (code K) (ended K) (spec K 𝓛)
meets K {𝓤 = 𝓤} 𝓛 𝓜 𝓡 k closed =
    let 𝓣 = tables 𝓤 𝓛.H 𝓜 𝓡 𝓡.env in
    proved 𝓛 (ended K) (stayed K) (spec K 𝓛) 𝓜 𝓡 (Goes-spent_ref 𝓛 1 (0 ∷ []) tt (plain (λ _. W K)), tt) k (code K) closed
    (λ κs. (mut_vals, tt)) (λ κs. (mut_Tells (named 0) κs.0 (W K), tt)) (λ κs qs bounds a g are.
    let r = a.0 in
    walk K 𝓛 κs.0 qs.0 r.ref_ptr.0 r.ref_ptr.1 r.ghost_name r.now 𝓣.C 𝓣.Λ)
