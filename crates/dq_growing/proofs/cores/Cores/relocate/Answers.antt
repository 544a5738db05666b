use Rattle.std.proofs.Common.{Ok, Err, sym, ◌∙◌, refl}
use Rattle.dq_growing.proofs.Moves.{taken_out, refuses, room_left, base_left, goes, then_words, other_key}
use Rattle.dq_growing.proofs.Aging.{all_age, removes_age, then_age}
use Rattle.dq_growing.proofs.cores.Cores.relocate.Goals as goal

pub returns-in-Err-clause-relocates : goal.returns-in-Err-clause-relocates
returns-in-Err-clause-relocates g c =
    refuses g.W.Words.shared c.args.self.now c.remove.new.self c.args.entry.now c.args.next c.in-Err.error (sym c.is_beyond.ensures ∙ c.if-is_beyond.false)
    c.in_default.ensures c.in-Err.ensures.removes

pub returns-in_default-of-clause-relocates : goal.returns-in_default-of-clause-relocates
returns-in_default-of-clause-relocates g c =
    let out = taken_out g.W.Words.shared c.args.self.now c.remove.new.self c.args.entry.now c.in-Ok.removed c.in-Ok.ensures.removes in (
      sym c.is_beyond.ensures ∙ c.if-is_beyond.false,
      c.in_default.ensures,
      (c.in-Ok.removed, c.remove.new.self, out, (sym c.of.ensures ∙ c.in_default-of.is, refl, refl, refl)),
    )

pub put_in_open-key-requires-clause-room : goal.put_in_open-key-requires-clause-room
put_in_open-key-requires-clause-room g c =
    let out = taken_out g.W.Words.shared c.args.self.now c.remove.new.self c.args.entry.now c.in-Ok.removed c.in-Ok.ensures.removes in
    room_left g.W.Words.shared c.args.self.now c.remove.new.self c.args.entry.now c.in-Ok.removed out c.in_default.ensures

pub returns-clause-goes_on : goal.returns-clause-goes_on
returns-clause-goes_on g c =
    let s = c.args.self.now in
    let m = c.remove.new.self in
    let id = c.args.entry.now in
    let d = c.in-Some-of.deadline in
    let p = c.put_in_open-key in
    let out = taken_out g.W.Words.shared s m id c.in-Ok.removed c.in-Ok.ensures.removes in
    goes s m p.new.self id c.in-Ok.removed.value p.result.0 d c.in-Ok.ensures.leaves c.in-Ok.ensures.past p.ensures.ahead
    (λ base b. base_left g.W.Words.shared s m id c.in-Ok.removed d base out c.in_default.ensures b) p.ensures.comes

pub returns-clause-begins : goal.returns-clause-begins
returns-clause-begins g c =
    let s = c.args.self.now in
    let m = c.remove.new.self in
    let id = c.args.entry.now in
    let d = c.in-Some-of.deadline in
    let b = c.put_in_open-key.ensures.begins in
    let out = taken_out g.W.Words.shared s m id c.in-Ok.removed c.in-Ok.ensures.removes in
    (b.0, b.1, (b.2.0, base_left g.W.Words.shared s m id c.in-Ok.removed d b.2.0 out c.in_default.ensures b.2.1, b.2.2))

pub returns-clause-relocates : goal.returns-clause-relocates
returns-clause-relocates g c =
    let out = taken_out g.W.Words.shared c.args.self.now c.remove.new.self c.args.entry.now c.in-Ok.removed c.in-Ok.ensures.removes in (
      sym c.is_beyond.ensures ∙ c.if-is_beyond.false,
      c.in_default.ensures,
      (c.in-Ok.removed, c.remove.new.self, out, (sym c.of.ensures ∙ c.in-Some-of.is, c.put_in_open-key.ensures.puts)),
    )

pub returns-clause-words : goal.returns-clause-words
returns-clause-words g c =
    then_words g.W.Words.origin g.W.Words.begun c.args.self.now c.remove.new.self c.put_in_open-key.new.self c.in-Ok.ensures.words c.put_in_open-key.ensures.words

pub returns-in-Err-clause-ages : goal.returns-in-Err-clause-ages
returns-in-Err-clause-ages g c =
    removes_age g.W.Words.shared c.args.self.now c.remove.new.self c.args.entry.now (Err c.in-Err.error) _ c.law.ensures c.in-Err.ensures.removes

pub returns-in_default-of-clause-ages : goal.returns-in_default-of-clause-ages
returns-in_default-of-clause-ages g c =
    removes_age g.W.Words.shared c.args.self.now c.remove.new.self c.args.entry.now (Ok c.in-Ok.removed) _ c.law.ensures c.in-Ok.ensures.removes

pub returns-clause-ages : goal.returns-clause-ages
returns-clause-ages g c =
    let m = c.remove.new.self in
    let one = removes_age g.W.Words.shared c.args.self.now m c.args.entry.now (Ok c.in-Ok.removed) _ c.law.ensures c.in-Ok.ensures.removes in
    then_age c.args.self.now m c.put_in_open-key.new.self one c.put_in_open-key.ensures.ages

pub returns-clause-fresh : goal.returns-clause-fresh
returns-clause-fresh g c id past =
    let m = c.remove.new.self in
    let one = removes_age g.W.Words.shared c.args.self.now m c.args.entry.now (Ok c.in-Ok.removed) _ c.law.ensures c.in-Ok.ensures.removes in
    other_key m id c.put_in_open-key.result.0.entry (one id past).0 c.put_in_open-key.ensures.ahead

pub returns-clause-past : goal.returns-clause-past
returns-clause-past g c =
    let p = c.put_in_open-key.ensures in
    ((p.ages c.args.entry.now c.in-Ok.ensures.past).0, p.past)

pub returns-then-is_beyond-clause-ages : goal.returns-then-is_beyond-clause-ages
returns-then-is_beyond-clause-ages g c = all_age c.args.self.now

pub returns-in-Some-clause-ages : goal.returns-in-Some-clause-ages
returns-in-Some-clause-ages g c = all_age c.args.self.now
