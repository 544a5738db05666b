use Rattle.std.proofs.Common.{◌≡◌, ◌-◌, sym, subst, ◌∙◌, get_or, arith}
use Rattle.std.proofs.lemmas.List.{take_at}
use Rattle.dq_bell.specs.Rolls.{RollState, StandsInLine, HasExchanged}
use Rattle.dq_bell.proofs.Taken.{leaves_roll, shorter_roll, roll_of, any_default}
use Rattle.dq_bell.proofs.roll.Roll.leave.Goals as goal

pub invariant_of-self : goal.invariant_of-self
invariant_of-self g c =
    let i = c.self.inside in
    let Q : RollState → Type 0 = λ r. StandsInLine r c.args.index in
    let stands : StandsInLine (roll_of i.indexes.items i.places.items i.count) c.args.index = subst Q (sym c.self.view_is) c.requires in
    let at : c.index-place.result.now ≡ get_or i.places.items c.args.index 0 = c.index-place.ensures ∙ any_default i.places.items c.args.index _ 0 stands.0 in
    let x : HasExchanged i.indexes.items i.places.items (get_or i.places.items c.args.index 0) (i.count - 1) c.exchange.new.indexes c.exchange.new.places = rw (← at, ← c.deref_mut.ensures.value, ← c.deref_mut-2.ensures.value) c.exchange.ensures.exchanged in
    rw (take_at c.exchange.new.indexes _ i.indexes.len (x.size ∙ sym i.indexes.ok.0), take_at c.exchange.new.places _ i.places.len (x.size2 ∙ sym i.places.ok.0))
    (shorter_roll _ _ _ _ i.count _ c.args.index c.self.invariant (let a = stands.1 in omega arith) stands x c.exchange.ensures.roll)

pub returns : goal.returns
returns g c =
    let i = c.self.inside in
    let Q : RollState → Type 0 = λ r. StandsInLine r c.args.index in
    let stands : StandsInLine (roll_of i.indexes.items i.places.items i.count) c.args.index = subst Q (sym c.self.view_is) c.requires in
    let at : c.index-place.result.now ≡ get_or i.places.items c.args.index 0 = c.index-place.ensures ∙ any_default i.places.items c.args.index _ 0 stands.0 in
    let x : HasExchanged i.indexes.items i.places.items (get_or i.places.items c.args.index 0) (i.count - 1) c.exchange.new.indexes c.exchange.new.places = rw (← at, ← c.deref_mut.ensures.value, ← c.deref_mut-2.ensures.value) c.exchange.ensures.exchanged in
    rw (take_at c.exchange.new.indexes _ i.indexes.len (x.size ∙ sym i.indexes.ok.0), take_at c.exchange.new.places _ i.places.len (x.size2 ∙ sym i.places.ok.0), ← c.self.view_is)
    (leaves_roll _ _ _ _ i.count _ c.args.index c.self.invariant (let a = stands.1 in omega arith) stands x)
