-- The code that moves a pointer and an allocator from one struct into another, and casts the pointer. Assumes `Logic`.
--     two ν         a struct of that name, of a pointer and an allocator
--     code to from  the code, from a struct of the one type to one of the other
--     moves         what a box of these two fields owns goes with them
--     of_meets, into_meets     `of` makes a part of a handle, and `into_handle` a handle of a part that holds a value
use mathlib.Core.Path.{◌≡◌, refl, sym, subst, ap}
use mathlib.Core.List.{List, [], ◌∷◌, ◌++◌}
use seplogic.Ra.Ura.{Ura}
use mir.Syntax.{Fn, Sym, Ty, ty_ptr, ty_struct, tcons, tnil, local, value_local, place, field, copy, rv_opd, assign, aggregate, seq, return}
use mir.Val.{Val}
use base.Logic.{SProp, ent, emp}
use base.Fml.{ftrue, fsep}
use prog.Wp.{WpFn, Calls, Loops}
use types.Logic.{Logic, sem}
use types.Kit.{Item, ‵, raw, ◌⊛◌, ◌$◌, ◌∵◌, !, qed, by, move, keep, drop, use1, join, split, fsplit, fjoin, suffices, rewrite, done}
use types.Part.{whole, sub, agg}
use types.Run.{stop, fld, no_more, and_then, of_opd, returns, enter}
use types.ByLocal.{alloc_all, pass_all, free_all, look_at, get, get_in, sets}
use contract.Monad.{fact}
use contract.Running.{tables}
use denote.Exit.{yes}
use denote.Param.{layout}
use denote.Signature.{plain}
use denote.Steps.{nothing, heard}
use denote.Triple.Clauses.{Clauses, Ended}
use denote.Triple.Walked.{says, Stays, stay_dropped, walk_of, ends_at, Goes-dropped}
use Rattle.std.proofs.raw_atomic.Walks.{proved_at}
use Rattle.std.specs.Prelude.{Option, Some, IsSome}
use Rattle.std_alloc.proofs.BoxSteps.Form.{D, B, X, word, box_typed}
use Rattle.std_alloc.proofs.BoxSteps.Steps.{box_out, box_in}
use Rattle.std_heap.specs.contracts.Global as Heap
use Rattle.dq_c.proofs.Parts.{Part, Met, Fields, R, E, W, Handle, owned, some_of}

abbrev two : Sym → Ty
two ν = ty_struct ν (tcons ty_ptr (tcons (layout Heap.the_row) tnil))

abbrev pub code : Ty → Ty → Fn
code to from = record {
  lifetimes = 0;
  outlives = [];
  ty_params = [];
  givens = 0;
  params = 1;
  locals = local to value_local ∷ local from value_local ∷ local ty_ptr value_local ∷ local (layout Heap.the_row) value_local ∷ local ty_ptr value_local ∷ [];
  body = seq (assign (place 2 []) (rv_opd (copy (place 1 (field 0 ∷ [])))))
      (seq (assign (place 3 []) (rv_opd (copy (place 1 (field 1 ∷ [])))))
      (seq (assign (place 4 []) (rv_opd (copy (place 2 []))))
      (seq (assign (place 0 []) (aggregate (copy (place 4 []) ∷ copy (place 3 []) ∷ []))) return)));
}

module _ (K : Part) {M : Type 1} {𝓤 : Ura M} (𝓛 : Logic 𝓤) (C : Calls 𝓤 𝓛.H) (Λ : Loops 𝓤 𝓛.H) where
  moves : (ν μ : Sym) (v : D (E K)) (vs : List Val) (Post : Val → SProp 𝓤)
      → ((w : Val) → ent 𝓤 (sem 𝓛 ((B (E K)).own_val v (w ∷ []))) (Post w))
      → ent 𝓤 (sem 𝓛 ((B (E K)).own_val v vs)) (WpFn 𝓤 𝓛.H C Λ (code (two ν) (two μ)) (vs ++ []) Post)
  moves ν μ v vs Post ends =
      qed 𝓛 (‵ ((B (E K)).own_val v vs) ∷ []) ∵
      box_out (E K) ! v vs (λ b o hv e ws fa. box_in (E K) ! v b o v.value e refl $
      let w = word (E K) hv b o in
      let Γ : List (Item 𝓤) = ‵ ((B (E K)).own_val v (w ∷ [])) ∷ [] in
      let Runs = λ (us : List Val). ent 𝓤 (types.Kit.⋆ 𝓛 Γ) (WpFn 𝓤 𝓛.H C Λ (code (two ν) (two μ)) (us ++ []) Post) in
      by ! (subst Runs (sym ws) (qed 𝓛 Γ ∵ enter ! C Λ (code (two ν) (two μ)) (w ∷ []) _ $
      alloc_all ! (λ ls. pass_all ! refl (box_typed (E K) hv b o fa, tt) $
      sets ! (of_opd ! (get_in ! (fld ! refl (stop !)) (sub ! 0 refl (whole !)))) refl (tt, tt) $
      sets ! (of_opd ! (get_in ! (fld ! refl (stop !)) (sub ! 1 refl (whole !)))) refl fa $
      sets ! (of_opd ! (get ! refl)) refl (tt, tt) $
      sets ! (agg ! (and_then ! (get ! refl) (and_then ! (get ! refl) (no_more !)))) refl (box_typed (E K) hv b o fa) $
      returns ! (look_at ! 0 refl) $ free_all ! refl $ by ! (ends w)))))

module _ (K : Part) where
  abbrev of_ended : Ended
  of_ended = record { signature = record { lifetimes = 0; outlives = []; params = plain (λ _. Handle K) ∷ []; result = plain (λ _. W K) }; kept = (yes, tt) }

  abbrev of_stayed : Stays of_ended.signature.params of_ended.kept
  of_stayed = (stay_dropped (plain (λ _. Handle K)) yes, tt)

  abbrev of_spec : {M : Type 1} {𝓤 : Ura M} → Clauses 𝓤 of_ended
  of_spec {𝓤 = 𝓤} κs a = record { ghost = Unit {0}; requires = λ _. emp 𝓤; ensures = λ _ r _. fact 𝓤 (K.value r ≡ Some a.0.value) }

  pub of_meets : {M : Type 1} {𝓤 : Ura M} (𝓛 : Logic 𝓤) → Met 𝓛 (code (layout (W K)) (layout (Handle K))) of_ended of_spec
  of_meets {𝓤 = 𝓤} 𝓛 𝓜 𝓡 k closed =
      let 𝓣 = tables 𝓤 𝓛.H 𝓜 𝓡 𝓡.env in
      proved_at 𝓛 of_ended of_stayed of_spec 𝓜 𝓡 (Goes-dropped 𝓛 0 (plain (λ _. Handle K)) yes (λ κs x f. refl), tt) k (code (layout (W K)) (layout (Handle K))) closed (λ z are.
      let h = z.0.3.0 in
      let v : D (E K) = record { ptr = h.ptr; alloc = h.alloc; value = h.value } in
      let made = K.made h.ptr h.alloc (Some h.value) in
      let is = K.is_made h.ptr h.alloc (Some h.value) in
      qed 𝓛 ((‵ ftrue ⊛ ‵ (fsep ((B (E K)).own_val v z.0.4.0) ftrue)) ∷ raw (emp 𝓤) ∷ []) ∵ split ! $ drop ! $ fsplit ! $ keep ! (0 ∷ []) $
      by ! (moves K 𝓛 𝓣.C 𝓣.Λ K.name _ v z.0.4.0 ((walk_of 𝓛 of_ended of_stayed of_spec).post z) (λ w.
      qed 𝓛 (‵ (owned K (h.ptr, (h.alloc, Some h.value)) (w ∷ [])) ∷ []) ∵ rewrite ! 0 (λ (t : Fields (R K).Denot). ‵ (owned K t (w ∷ []))) (sym is) refl $
      suffices ! _ (ends_at 𝓛 of_ended of_stayed of_spec z w made (tt, tt) (tt, tt)) $ says ! (ap (λ (t : Fields (R K).Denot). t.1.1) is) $
      nothing ! $ nothing ! $ fjoin ! $ join ! $ nothing ! $ join ! $ done !)))

  abbrev into_ended : Ended
  into_ended = record { signature = record { lifetimes = 0; outlives = []; params = plain (λ _. W K) ∷ []; result = plain (λ _. Handle K) }; kept = (yes, tt) }

  abbrev into_stayed : Stays into_ended.signature.params into_ended.kept
  into_stayed = (stay_dropped (plain (λ _. W K)) yes, tt)

  abbrev into_spec : {M : Type 1} {𝓤 : Ura M} → Clauses 𝓤 into_ended
  into_spec {𝓤 = 𝓤} κs a = record { ghost = Unit {0}; requires = λ _. fact 𝓤 (IsSome (K.value a.0)); ensures = λ _ r _. fact 𝓤 (Some r.value ≡ K.value a.0) }

  pub into_meets : {M : Type 1} {𝓤 : Ura M} (𝓛 : Logic 𝓤) → Met 𝓛 (code (layout (Handle K)) (layout (W K))) into_ended into_spec
  into_meets {𝓤 = 𝓤} 𝓛 𝓜 𝓡 k closed =
      let 𝓣 = tables 𝓤 𝓛.H 𝓜 𝓡 𝓡.env in
      proved_at 𝓛 into_ended into_stayed into_spec 𝓜 𝓡 (Goes-dropped 𝓛 0 (plain (λ _. W K)) yes (λ κs x f. refl), tt) k (code (layout (Handle K)) (layout (W K))) closed (λ z are.
      let d = z.0.3.0 in
      let vs = z.0.4.0 in
      qed 𝓛 ((‵ ftrue ⊛ ‵ (fsep (owned K (K.ptr d, (K.alloc d, K.value d)) vs) ftrue)) ∷ raw (fact 𝓤 (IsSome (K.value d))) ∷ []) ∵ move ! (1 ∷ []) $ heard ! (IsSome (K.value d)) (λ held.
      let s = some_of (K.value d) held in
      let v : D (E K) = record { ptr = K.ptr d; alloc = K.alloc d; value = s.0 } in
      split ! $ drop ! $ fsplit ! $ keep ! (0 ∷ []) $ rewrite ! 0 (λ (o : Option (X (E K))). ‵ (owned K (K.ptr d, (K.alloc d, o)) vs)) s.1 refl $
      by ! (moves K 𝓛 𝓣.C 𝓣.Λ _ K.name v vs ((walk_of 𝓛 into_ended into_stayed into_spec).post z) (λ w.
      qed 𝓛 (‵ ((Handle K).own_val (record { ptr = K.ptr d; alloc = K.alloc d; value = s.0 }) (w ∷ [])) ∷ []) ∵
      suffices ! _ (ends_at 𝓛 into_ended into_stayed into_spec z w (record { ptr = K.ptr d; alloc = K.alloc d; value = s.0 }) (tt, tt) (tt, tt)) $ says ! (sym s.1) $
      nothing ! $ nothing ! $ fjoin ! $ join ! $ nothing ! $ join ! $ done !))))
