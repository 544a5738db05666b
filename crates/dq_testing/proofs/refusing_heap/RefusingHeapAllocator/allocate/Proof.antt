-- It asks whether the allocation is granted, and then answers what the inner allocator answers, or refuses. Assumes `Logic`.
use Rattle.std.proofs.Common.{◌≡◌, ℕ, ◌^◌, ◌<◌, Bool, true, false, List, [], ◌∷◌, Ok, Err, refl, w64, Bor}
use mathlib.Core.Path.{sym, subst}
use lib.Dec.{T}
use seplogic.Ra.Ura.{Ura}
use mir.Syntax.{Ty, Fn}
use mir.Val.{Val, vbool, vint, vptr, has_ty, WT}
use mir.MapTy.{inst_fn}
use base.Logic.{SProp, ent, id⊢}
use base.Fml.{Lft, Share, ftrue, flft}
use prog.Memory.{Memory}
use prog.Routine.{Routine}
use prog.Wp.{Env, WpFn, Tables}
use types.Logic.{Logic}
use contract.BorrowLft.{◌⊑◌, ⊑_trans}
use contract.Monad.{Fun, fact}
use contract.Running.{tables, tables_of}
use sound.WpLaws.{fm_of}
use types.Part.{agg}
use types.Run.{stop, fld, lit, addr, no_more, and_then, of_opd, first, branches, exec, returns, enter}
use denote.Exit.{yes}
use denote.RattleType.{owns}
use denote.Ref.{shr_vals}
use denote.Opens.{unhide}
use denote.Param.{layout}
use denote.Plain.{uint_vals, uint_Tells}
use denote.Signature.{types_at}
use denote.Steps.{heard, nothing}
use denote.Triple.Call.{calls_at, calls_at_last}
use denote.Triple.Clauses.{Ended, Clauses}
use denote.Triple.Statement.{Triple}
use denote.Triple.Table.{cited}
use denote.Triple.Walked.{Stays, stay_dropped, walk_of, ends_at, Goes-dropped}
use denote.RawPtr.{block_ptr}
use types.Kit.{‵, raw, ◌⊛◌, Item, ⋆, some, later, given, at_ret, learn, pick, rewrite, ◌$◌, ◌∵◌, !, qed, by, move, keep, drop, use0, use1, use2, split, join, fsplit, fjoin, suffices, await, done}
use types.ByLocal.{alloc_all, pass_all, free_all, look_at, get, through, sets, sets_last, lands_as, lands_last, env}
use Rattle.std.specs.Allocator.{block_if_ok}
use Rattle.std.proofs.alloc.Shapes.{after}
use Rattle.std.proofs.alloc.Calls.{Al, seen, token, Answer, answer_val, Answer-typed, Answer-Ok, Answer-err, takes_key, Takes, at_takes, Answered, Takes-goes, Takes-gives, answers}
use Rattle.std.proofs.raw_atomic.Walks.{proved}
use Rattle.dq_testing.proofs.Asks.{Asks, at_asks, Asks-goes, Asks-gives}
use Rattle.dq_testing.proofs.Handed.{arguments, receiver, inner_at, grants_at, number, Asked}
use Rattle.dq_testing.proofs.refusing_heap.Grants.grants.Symbol as asks
use Rattle.dq_testing.proofs.refusing_heap.Grants.grants.Met as asks_met
use Rattle.dq_testing.specs.contracts.refusing_heap.RefusingHeap as heap
use Rattle.dq_testing.specs.contracts.refusing_heap.RefusingHeapAllocator.allocate as F
use Rattle.dq_testing.specs.contracts.refusing_heap.RefusingHeapAllocator.allocate.Key as key
use Rattle.dq_testing.proofs.refusing_heap.RefusingHeapAllocator.allocate.Statement as stated
use Rattle.dq_testing.proofs.refusing_heap.RefusingHeapAllocator.allocate.Code as code

module _ (Z : Al) where
  abbrev here : Fn
  here = inst_fn (arguments Z) code.function

  abbrev ended : Ended
  ended = F.ended Z.row Z.g Z.d Z.drops

  abbrev stayed : Stays ended.signature.params ended.kept
  stayed = (stay_dropped (receiver Z) yes, (stay_dropped number yes, (stay_dropped number yes, tt)))

module _ (Z : Al) {M : Type 1} {𝓤 : Ura M} (𝓛 : Logic 𝓤) (at_mem : Memory → SProp 𝓤) (run : Routine → Fun 𝓤) (𝓣 : Tables 𝓤 𝓛.H) (takes : Triple 𝓤 (𝓣.C (takes_key Z)) (Takes Z 𝓛 at_mem run)) (asked : Triple 𝓤 (𝓣.C asks.name) (Asks 𝓛 at_mem run)) where
  open 𝓛 use {H}

  abbrev held : Clauses 𝓤 (ended Z)
  held = F.clauses Z.row Z.g Z.d Z.drops 𝓛 at_mem run

  module _ (κ ρ : Lft) (q s : Share) (out : κ ⊑ ρ) (r : Bor (heap.the_row Z.row).Denot) (n a : ℕ) (τ : Ty) where
    abbrev bound : (walk_of 𝓛 (ended Z) (stayed Z) held).Ghost
    bound = (((κ, (ρ, tt)), (q, (s, tt)), (out, tt), (r, (n, (a, tt))), (shr_vals r, (vint w64 n ∷ [], (vint w64 a ∷ [], tt)))), τ)

    abbrev passed : List Val
    passed = vptr r.ref_ptr.0 r.ref_ptr.1 ∷ vint w64 n ∷ vint w64 a ∷ []

    abbrev Post : Val → SProp 𝓤
    Post = (walk_of 𝓛 (ended Z) (stayed Z) held).post bound

    abbrev left : Val → Answer.Denot → List (Item 𝓤)
    left v res = ‵ (Answer.own_val res (v ∷ [])) ∷ ‵ (block_if_ok (token Z r.now.inner) τ res) ∷ ‵ (flft κ q) ∷ (‵ (flft ρ s) ⊛ ‵ ftrue) ∷ []

    exits : (v : Val) (res : Answer.Denot) → ent 𝓤 (⋆ 𝓛 (left v res)) (Post v)
    exits v res = qed 𝓛 (left v res) ∵
        suffices ! _ (ends_at 𝓛 (ended Z) (stayed Z) held bound v res (tt, (tt, (tt, tt))) (tt, (tt, (tt, tt)))) $
        nothing ! $ nothing ! $ fjoin ! $ nothing ! $ fjoin ! $ nothing ! $ fjoin ! $ join ! $ move ! (2 ∷ 3 ∷ []) $ join ! $ join ! $ done !

    -- an answer as a value that is stored, which is told by an equation
    stored : {v : Val} (y : Bool) (b o : ℕ) → v ≡ answer_val y b o → T (has_ty (layout Answer) v) × WT v
    stored y b o e = subst (λ (z : Val). T (has_ty (layout Answer) z) × WT z) (sym e) (Answer-typed y b o)

    walk : n < 2 ^ 64 → a < 2 ^ 64 → ent 𝓤 ((walk_of 𝓛 (ended Z) (stayed Z) held).pre bound) (WpFn 𝓤 H 𝓣.C 𝓣.Λ (here Z) passed Post)
    walk fn fa =
        let h : Z.row.Denot = r.now.inner in
        let p : ℕ × ℕ = inner_at Z r.ref_ptr in
        let c : ℕ × ℕ = grants_at Z r.ref_ptr in
        let asking : (Asks 𝓛 at_mem run).Ghost = at_asks 𝓛 at_mem run κ q c r.now.grants in
        let taking : (Takes Z 𝓛 at_mem run).Ghost = at_takes Z 𝓛 at_mem run κ q p h n a τ in
        qed 𝓛 (((‵ (flft κ q) ⊛ ‵ (flft ρ s) ⊛ ‵ ftrue) ⊛ ‵ (owns (types_at (ended Z).signature.params bound.0.0) bound.0.3 bound.0.4)) ∷ (raw (fact 𝓤 (ρ ⊑ Z.row.lives)) ⊛ raw (fact 𝓤 (Asked τ n a))) ∷ []) ∵
        move ! (1 ∷ []) $ split ! $ heard ! (ρ ⊑ Z.row.lives) (λ le. heard ! (Asked τ n a) (λ said.
        split ! $ split ! $ move ! (2 ∷ []) $ fsplit ! $ fsplit ! $ move ! (1 ∷ []) $ unhide ! $ fsplit ! $ fsplit ! $ use1 𝓛 (‵ (seen Z κ p h)) (id⊢ 𝓤 _) $ move ! (1 ∷ []) $ fsplit ! $ keep ! (0 ∷ 6 ∷ 2 ∷ 7 ∷ []) $
        enter ! 𝓣.C 𝓣.Λ (here Z) passed _ $ alloc_all ! (λ l. pass_all ! refl ((tt, tt), ((tt, record { fits = fn }), ((tt, record { fits = fa }), tt))) $ let En : Env 𝓤 H = env (here Z).locals l in
        sets ! (addr ! (through ! refl (fld ! refl (stop !)))) refl (tt, tt) $
        use2 𝓛 (raw ((Asks 𝓛 at_mem run).pre asking)) (Asks-goes 𝓛 at_mem run κ q c r.now.grants) $
        calls_at ! (fm_of 𝓤 H 𝓛.laws 𝓣) (Asks 𝓛 at_mem run) asked asking (and_then ! (get ! refl) (no_more !)) (λ u.
        use1 𝓛 (later (some (λ (g : Bool). given (u ≡ vbool g) (‵ (flft κ q))))) (Asks-gives 𝓛 at_mem run κ q c r.now.grants u) $ await ! tt $ pick ! (λ g. learn ! (λ is. lands_as ! is refl (tt, tt) $
        first ! $ branches ! (get ! refl)
        (λ granted. move ! (1 ∷ []) $
        sets ! (addr ! (through ! refl (fld ! refl (stop !)))) refl (tt, tt) $
        use2 𝓛 (raw ((Takes Z 𝓛 at_mem run).pre taking)) (Takes-goes Z 𝓛 at_mem run κ q p h (⊑_trans κ ρ Z.row.lives out le) n a τ said.0 said.1 fn fa) $
        calls_at_last ! (fm_of 𝓤 H 𝓛.laws 𝓣) (Takes Z 𝓛 at_mem run) takes taking (and_then ! (get ! refl) (and_then ! (get ! refl) (and_then ! (get ! refl) (no_more !)))) (λ v.
        use1 𝓛 (later (raw (Answered Z 𝓛 at_mem run h τ v) ⊛ ‵ (flft κ q))) (Takes-gives Z 𝓛 at_mem run κ q p h n a τ v) $ await ! tt $ split ! $
        answers Z ! at_mem run h τ v
        (λ b o e. fjoin ! $ lands_last ! refl (stored true b o e) $
        exec ! 𝓣.C 𝓣.Λ En (after 3 (here Z).body) (at_ret En Post) $ sets ! (of_opd ! (get ! refl)) refl (stored true b o e) $ returns ! (look_at ! 0 refl) $ free_all ! refl $
        use0 𝓛 (‵ (Answer.own_val (Ok (block_ptr b o)) (answer_val true b o ∷ []))) (Answer-Ok 𝓛 b o) $ rewrite ! 0 (λ (z : Val). ‵ (Answer.own_val (Ok (block_ptr b o)) (z ∷ []))) (sym e) refl $ by ! (exits v (Ok (block_ptr b o))))
        (λ e. nothing ! $ lands_last ! refl (stored false 0 0 e) $
        exec ! 𝓣.C 𝓣.Λ En (after 3 (here Z).body) (at_ret En Post) $ sets ! (of_opd ! (get ! refl)) refl (stored false 0 0 e) $ returns ! (look_at ! 0 refl) $ free_all ! refl $
        use0 𝓛 (‵ (Answer.own_val (Err (record {})) (answer_val false 0 0 ∷ []))) (Answer-err 𝓛) $ rewrite ! 0 (λ (z : Val). ‵ (Answer.own_val (Err (record {})) (z ∷ []))) (sym e) refl $ by ! (exits v (Err (record {}))))))
        (λ refused. move ! (1 ∷ []) $ drop ! $ nothing ! $
        sets ! (agg ! (no_more !)) refl (tt, tt) $ sets_last ! (agg ! (and_then ! (lit ! tt) (and_then ! (get ! refl) (no_more !)))) refl (Answer-typed false 0 0) $
        exec ! 𝓣.C 𝓣.Λ En (after 3 (here Z).body) (at_ret En Post) $ sets ! (of_opd ! (get ! refl)) refl (Answer-typed false 0 0) $ returns ! (look_at ! 0 refl) $ free_all ! refl $
        use0 𝓛 (‵ (Answer.own_val (Err (record {})) (answer_val false 0 0 ∷ []))) (Answer-err 𝓛) $ by ! (exits (answer_val false 0 0) (Err (record {}))))))))))

pub allocate_spec : {M : Type 1} → stated.statement M
unfolding tables_of
allocate_spec 𝓤 𝓛 𝓜 𝓡 wired Y L g d d' met _ =
    let Z : Al = record { row = Y; laws = L; g = g; d = d; drops = d' } in
    proved 𝓛 (ended Z) (stayed Z) (F.clauses Y g d d' 𝓛 𝓜.mem 𝓡.returns) 𝓜 𝓡
    (Goes-dropped 𝓛 2 (receiver Z) yes (λ κs x f. refl), (Goes-dropped 𝓛 2 number yes (λ κs x f. refl), (Goes-dropped 𝓛 2 number yes (λ κs x f. refl), tt)))
    (key.name (arguments Z)) (here Z) (code.unfolded 𝓤 𝓛.H 𝓜 𝓡 wired (Y, tt) d d')
    (λ κs. (shr_vals, (uint_vals w64, (uint_vals w64, tt)))) (λ κs. ((λ r vs s. s.0), (uint_Tells w64, (uint_Tells w64, tt))))
    (λ κs qs bounds a τ are. walk Z 𝓛 𝓜.mem 𝓡.returns (tables_of 𝓤 𝓛.H 𝓜 (tables 𝓤 𝓛.H 𝓜 𝓡 𝓡.env)) (met.allocate d')
    (cited 𝓤 𝓛.H _ 𝓜 𝓡 𝓡.env asks.name (𝓡.env asks.name) refl (asks_met.met 𝓤 𝓛 𝓜 𝓡 (code.calls-dq_testing::refusing_heap::Grants::grants 𝓡.env wired)))
    κs.0 κs.1.0 qs.0 qs.1.0 bounds.0 a.0 a.1.0 a.1.1.0 τ are.1.0.1 are.1.1.0.1)
