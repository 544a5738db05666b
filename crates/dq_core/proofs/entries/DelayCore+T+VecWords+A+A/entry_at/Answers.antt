use Rattle.dq_core.proofs.Ways.{core_of}
use Rattle.dq_core.proofs.Listings.{none_listed, ended_unlisted, live_listed}
use Rattle.dq_core.proofs.entries.DelayCore+T+VecWords+A+A.entry_at.Goals as goal

pub returns-in_default : goal.returns-in_default
returns-in_default g c =
    let s = c.self.inside in
    let b = core_of s.shard s.noted s.wheel s.slots s.words.known s.words.counts s.words in
    rw (← c.self.view_is) (none_listed b c.self.invariant.0 c.args.slot c.in_default.ensures)

pub returns-in_default-mark : goal.returns-in_default-mark
returns-in_default-mark g c =
    let s = c.self.inside in
    let b = core_of s.shard s.noted s.wheel s.slots s.words.known s.words.counts s.words in
    rw (← c.self.view_is)
    (ended_unlisted b c.self.invariant.0 c.args.slot _ c.word-word.result c.in-Some.ensures c.word-word.ensures c.in_default-mark.not-LiveMark)

pub returns : goal.returns
returns g c =
    let s = c.self.inside in
    let b = core_of s.shard s.noted s.wheel s.slots s.words.known s.words.counts s.words in
    let inside = rw (← c.self.view_is) at c.requires in
    rw (← c.self.view_is)
    (live_listed b c.self.invariant.0 c.args.slot _ _ c.word-word.result c.new-entry.result c.new.result inside c.in-Some.ensures c.word-word.ensures c.in-LiveMark.is c.new-entry.ensures c.new.ensures)
