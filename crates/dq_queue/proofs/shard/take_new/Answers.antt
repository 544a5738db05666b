use Rattle.std.proofs.Common.{◌∙◌, List, refl, sym, subst, inl, inr, arith}
use Rattle.dq_words.specs.Claims.{Claimed}
use Rattle.dq_growing.specs.declared.cores.TakeError.TheVariants.{NoMemory, UsedNumber}
use Rattle.dq_words.specs.OpenCalls.{Open}
use Rattle.dq_queue.specs.Claims.{HasClaim}
use Rattle.dq_queue.proofs.Claims.{comes_not, was_ok}
use Rattle.dq_queue.proofs.shard.take_new.Goals as goal

pub returns-in-Ok-clause-fresh : goal.returns-in-Ok-clause-fresh
returns-in-Ok-clause-fresh g c =
    let P : List (Claimed Open) → Type 0 = λ l. ¬ HasClaim l c.args.claim.now.number in
    subst P (c.as_slice.ensures.value ∙ c.reserve.ensures.items) (c.knows.ensures.none c.if-knows.false)

pub returns-then-knows-clause-refused : goal.returns-then-knows-clause-refused
returns-then-knows-clause-refused g c =
    let P : List (Claimed Open) → Type 0 = λ l. HasClaim l c.args.claim.now.number in
    inr (inl (refl, subst P (c.as_slice.ensures.value ∙ c.reserve.ensures.items) (c.knows.ensures.has c.if-knows.true)))

pub returns-in-Err-clause-refused : goal.returns-in-Err-clause-refused
returns-in-Err-clause-refused g c =
    let P : List (Claimed Open) → Type 0 = λ l. ¬ HasClaim l c.args.claim.now.number in
    let none = subst P (c.as_slice.ensures.value ∙ c.reserve.ensures.items) (c.knows.ensures.none c.if-knows.false) in
    inr (inr (none, c.in-Err.ensures.refused))

pub returns-then-is_err-clause-takes : goal.returns-then-is_err-clause-takes
returns-then-is_err-clause-takes g c = comes_not c.args.sized.now.store c.args.core NoMemory

pub returns-then-knows-clause-takes : goal.returns-then-knows-clause-takes
returns-then-knows-clause-takes g c = comes_not c.args.sized.now.store c.args.core UsedNumber

pub push_reserved-requires : goal.push_reserved-requires
push_reserved-requires g c =
    let ok = was_ok c.reserve.result _ (sym c.is_err.ensures.value ∙ c.if-is_err.false) c.reserve.ensures.ok in
    let len = c.reserve.ensures.len in
    omega (arith, ok, len)
