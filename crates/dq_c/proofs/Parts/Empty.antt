-- The code of `empty` puts two fields together, and owns nothing. Assumes `Logic`.
use mathlib.Core.Path.{◌≡◌, refl, sym, subst, ap}
use mathlib.Core.List.{List, [], ◌∷◌, ◌++◌}
use lib.Dec.{lit<}
use seplogic.Ra.Ura.{Ura}
use mir.Syntax.{Fn, w64, local, value_local, place, int, copy, assign, aggregate, seq, return}
use mir.Val.{Val, vstruct, vcons, vnil}
use base.Logic.{ent, emp}
use base.Fml.{ftrue, fsep}
use prog.Wp.{WpFn}
use types.Logic.{Logic}
use types.Kit.{Item, ‵, raw, ◌⊛◌, ◌$◌, ◌∵◌, !, qed, by, move, drop, join, split, fsplit, fjoin, feq_i, fpack, suffices, rewrite, done}
use types.Part.{agg}
use types.Run.{lit, no_more, and_then, returns, enter}
use types.ByLocal.{alloc_all, pass_all, free_all, look_at, get, sets}
use contract.Monad.{fact}
use contract.Running.{tables}
use denote.Builtin.{RawPtr}
use denote.Exit.{yes}
use denote.Param.{layout}
use denote.RattleType.{Valss}
use denote.RawPtr.{null_ptr, ptr_val}
use denote.Signature.{plain}
use denote.Steps.{nothing}
use denote.Struct.Struct.{within}
use denote.Struct.Values.{intos}
use denote.Triple.Clauses.{Clauses, Ended}
use denote.Triple.Walked.{says, Stays, stay_dropped, walk_of, ends_at, Goes-dropped}
use Rattle.std.proofs.alloc.Calls.{handle_tells}
use Rattle.std.proofs.raw_atomic.Walks.{proved_at}
use Rattle.std.specs.Prelude.{None}
use Rattle.std_alloc.proofs.ResultValues.{and_tt}
use Rattle.std_heap.specs.contracts.Global as Heap
use Rattle.dq_c.proofs.Parts.{Part, Met, Fields, R, E, W, parts, shape, owned}

module _ (K : Part) where
  abbrev pub code : Fn
  code = record {
    lifetimes = 0;
    outlives = [];
    ty_params = [];
    givens = 0;
    params = 1;
    locals = local (layout (W K)) value_local ∷ local (layout Heap.the_row) value_local ∷ [];
    body = seq (assign (place 0 []) (aggregate (int w64 0 ∷ copy (place 1 []) ∷ []))) return;
  }

  abbrev pub ended : Ended
  ended = record { signature = record { lifetimes = 0; outlives = []; params = plain (λ _. Heap.the_row) ∷ []; result = plain (λ _. W K) }; kept = (yes, tt) }

  abbrev stayed : Stays ended.signature.params ended.kept
  stayed = (stay_dropped (plain (λ _. Heap.the_row)) yes, tt)

  abbrev pub spec : {M : Type 1} {𝓤 : Ura M} → Clauses 𝓤 ended
  spec {𝓤 = 𝓤} κs a = record { ghost = Unit {0}; requires = λ _. emp 𝓤; ensures = λ _ r _. fact 𝓤 (K.value r ≡ None) }

  pub meets : {M : Type 1} {𝓤 : Ura M} (𝓛 : Logic 𝓤) → Met 𝓛 code ended spec
  meets {𝓤 = 𝓤} 𝓛 𝓜 𝓡 k closed =
      let 𝓣 = tables 𝓤 𝓛.H 𝓜 𝓡 𝓡.env in
      proved_at 𝓛 ended stayed spec 𝓜 𝓡 (Goes-dropped 𝓛 0 (plain (λ _. Heap.the_row)) yes (λ κs x f. refl), tt) k code closed (λ z are.
      let Post = (walk_of 𝓛 ended stayed spec).post z in
      let a = z.0.3.0 in
      let made = K.made null_ptr a None in
      qed 𝓛 ((‵ ftrue ⊛ ‵ (fsep (Heap.the_row.own_val a z.0.4.0) ftrue)) ∷ raw (emp 𝓤) ∷ []) ∵
      split ! $ drop ! $ fsplit ! $
      handle_tells (E K).al ! a z.0.4.0 (λ h is fits.
      move ! (0 ∷ []) $
      let w = vstruct (vcons (ptr_val null_ptr) (vcons h vnil)) in
      let Γ : List (Item 𝓤) = ‵ (Heap.the_row.own_val a (h ∷ [])) ∷ ‵ ftrue ∷ raw (emp 𝓤) ∷ [] in
      let Runs = λ (us : List Val). ent 𝓤 (types.Kit.⋆ 𝓛 Γ) (WpFn 𝓤 𝓛.H 𝓣.C 𝓣.Λ code (us ++ []) Post) in
      by ! (subst Runs (sym is) (qed 𝓛 Γ ∵ move ! (1 ∷ 2 ∷ []) $ drop ! $ drop ! $ enter ! 𝓣.C 𝓣.Λ code (h ∷ []) _ $
      alloc_all ! (λ ls. pass_all ! refl (fits, tt) $
      sets ! (agg ! (and_then ! (lit ! tt) (and_then ! (get ! refl) (no_more !)))) refl (and_tt _ fits.0, (record { fits = lit< tt }, (fits.1, tt))) $
      returns ! (look_at ! 0 refl) $ free_all ! refl $
      suffices ! _ (ends_at 𝓛 ended stayed spec z w made (tt, tt) (tt, tt)) $ says ! (ap (λ (t : Fields (R K).Denot). t.1.1) (K.is_made null_ptr a None)) $
      nothing ! $ move ! (1 ∷ 0 ∷ []) $ fjoin ! $
      feq_i ! (List Val) (ptr_val null_ptr ∷ []) (ptr_val null_ptr ∷ []) refl $ fjoin ! $ feq_i ! (List Val) (w ∷ []) (w ∷ []) refl $ fjoin ! $
      fpack ! (Valss (RawPtr ∷ Heap.the_row ∷ [])) (within (shape K) (intos (parts K) (null_ptr, (a, tt))) (w ∷ [])) (ptr_val null_ptr ∷ [], (h ∷ [], tt)) $
      nothing ! $ move ! (1 ∷ 0 ∷ []) $ fjoin ! $
      rewrite ! 0 (λ (t : Fields (R K).Denot). ‵ (owned K t (w ∷ []))) (sym (K.is_made null_ptr a None)) refl $
      nothing ! $ nothing ! $ fjoin ! $ join ! $ nothing ! $ join ! $ done !)))))
