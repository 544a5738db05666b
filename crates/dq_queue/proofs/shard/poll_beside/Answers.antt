use Rattle.std.proofs.Common.{Some, sym, ap, ◌∙◌, subst}
use Rattle.dq_growing.specs.Polls.{IfPieceOut}
use Rattle.dq_growing.specs.Sized.{SizedState}
use Rattle.dq_growing.specs.Store.{StoreState}
use Rattle.dq_words.specs.Seats.{Sat}
use Rattle.dq_queue.specs.Calls.{KeepsPromise, StorePolls}
use Rattle.dq_queue.specs.Claims.{BringsNoCore, IsOfItsWords}
use Rattle.dq_queue.specs.Words.{PromiseView}
use Rattle.dq_queue.proofs.Claims.{brings_none, still_its_words, polls_long}
use Rattle.dq_queue.proofs.Leaving.{numbers_kept}
use Rattle.dq_queue.proofs.Outs.{keeps_promise}
use Rattle.dq_queue.proofs.shard.poll_beside.Goals as goal

pub beside-requires : goal.beside-requires
beside-requires g c =
    let made = c.poll_some-answer in
    let s = c.args.sized.now.store in
    let t = made.new.self.store in
    let p : PromiseView = record { receipt = c.promise.inside.receipt; claim = c.promise.inside.claim } in
    let P : PromiseView → Type 0 = λ x. IsOfItsWords s x in
    let its : IsOfItsWords s p = subst P (sym c.promise.view_is) c.requires in
    λ i d at. still_its_words s t p (brings_none s t made.ensures.words (polls_long s t c.args.tick (Some c.args.most) made.result made.ensures.polls)) its i d
    (at.0, at.1 ∙ c.number-number.ensures)

pub returns-clause-polls : goal.returns-clause-polls
returns-clause-polls g c =
    let made = c.poll_some-answer in
    let s = c.args.sized.now.store in
    let P : StoreState _ Sat → Type 0 = λ t. StorePolls c.args.tick (Some c.args.most) made.result s t in
    subst P (sym (ap (λ (x : SizedState _ _). x.store) c.beside.ensures.same.0)) (made.ensures.polls, made.ensures.keeps, made.ensures.goes_out, made.ensures.holds, made.ensures.in_force, numbers_kept s made.new.self.store made.ensures.words)

pub returns-clause-cores : goal.returns-clause-cores
returns-clause-cores g c =
    let made = c.poll_some-answer in
    let s = c.args.sized.now.store in
    let P : StoreState _ Sat → Type 0 = λ t. BringsNoCore s t in
    subst P (sym (ap (λ (x : SizedState _ _). x.store) c.beside.ensures.same.0))
    (brings_none s made.new.self.store made.ensures.words (polls_long s made.new.self.store c.args.tick (Some c.args.most) made.result made.ensures.polls))

pub returns-clause-kept : goal.returns-clause-kept
returns-clause-kept g c =
    let made = c.poll_some-answer in
    let s = c.args.sized.now.store in
    let p : PromiseView = record { receipt = c.promise.inside.receipt; claim = c.promise.inside.claim } in
    let P : PromiseView → Type 0 = λ x. IfPieceOut made.result (KeepsPromise s.notes x) in
    subst P c.promise.view_is
    (keeps_promise c.outs_are_in_force.ensures s made.new.self.store c.args.tick (Some c.args.most) made.result p c.law.ensures.law made.ensures.polls made.ensures.words
    (λ i d at. c.beside.ensures.together i d (at.0, at.1 ∙ sym c.number-number.ensures))
    (λ i d at. let l = c.beside.ensures.lawful i d (at.0, at.1 ∙ sym c.number-number.ensures) in (l.0, l.1)))
