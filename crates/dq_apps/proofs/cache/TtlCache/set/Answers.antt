use Rattle.std.proofs.Common.{◌∙◌, sym, inl}
use Rattle.std.proofs.lemmas.Bool.{false≢true}
use Rattle.dq_apps.proofs.Fronts.{set_no_memory, set_no_memory_seen, set_no_memory_worn, set_again, set_seen, set_others, set_refused, set_worn}
use Rattle.dq_apps.proofs.cache.TtlCache.set.Goals as goal

pub returns-in-Ok : goal.returns-in-Ok
returns-in-Ok g c =
    let done = c.in-Ok.ensures in
    record { sets = inl (done.puts, tt); seen = done.seen; others = done.others; refused = tt; worn = tt }

pub returns-then-not-wants_stamps : goal.returns-then-not-wants_stamps
returns-then-not-wants_stamps g c =
    let done = c.in-Err.ensures in
    record {
      sets = inl (done.puts, λ w. false≢true (sym c.if-not-wants_stamps.true ∙ c.wants_stamps.ensures.1 w));
      seen = tt;
      others = done.others;
      refused = done.refused;
      worn = λ w. absurd (false≢true (sym c.if-not-wants_stamps.true ∙ c.wants_stamps.ensures.1 w));
    }

pub returns-in-Err-refresh : goal.returns-in-Err-refresh
returns-in-Err-refresh g c =
    let b = c.args.self.now in
    let p = c.put.new.self in
    let back = c.in-Err.back in
    let eq = g.K.PartialEq.eq in
    let key = c.args.key in
    let value = c.args.value in
    let ttl = c.args.ttl in
    let now = c.args.now in
    let wants = c.wants_stamps.ensures.0 c.if-not-wants_stamps.false in
    let first = c.in-Err.ensures in
    let d = c.refresh.new.self in
    let f = c.in-Err-refresh.refused in
    let refused = c.in-Err-refresh.ensures.refreshes in
    let keeps = set_no_memory_seen eq b p key back.1 value back.2 ttl now back.0 wants first.puts first.refused.2 d f refused in
    record {
      sets = set_no_memory eq b p key back.1 value back.2 ttl now back.0 wants first.puts d f refused;
      seen = tt;
      others = λ q t apart later. keeps q t later;
      refused = (first.refused.0, first.refused.1, keeps);
      worn = set_no_memory_worn eq b p key back.1 value back.2 ttl now back.0 wants first.puts d f refused;
    }

pub returns : goal.returns
returns g c =
    let b = c.args.self.now in
    let p = c.put.new.self in
    let back = c.in-Err.back in
    let eq = g.K.PartialEq.eq in
    let key = c.args.key in
    let value = c.args.value in
    let ttl = c.args.ttl in
    let now = c.args.now in
    let wants = c.wants_stamps.ensures.0 c.if-not-wants_stamps.false in
    let first = c.in-Err.ensures in
    let mid = c.refresh.new.self in
    let d = c.put-2.new.self in
    let fresh = c.in_default.ensures.refreshes in
    let keeps = c.in_default.ensures.seen in
    let before = first.refused.2 in
    let r = c.put-2.result in
    let again = c.put-2.ensures in
    record {
      sets = set_again eq b p key back.1 value back.2 ttl now back.0 wants first.puts mid d fresh keeps before r again.puts;
      seen = set_seen eq b p key back.1 value back.2 ttl now back.0 wants first.puts mid d fresh keeps before r again.puts r again.seen;
      others = set_others eq b p key back.1 value back.2 ttl now back.0 wants first.puts mid d fresh keeps before r again.puts again.others;
      refused = set_refused eq b p key back.1 value back.2 ttl now back.0 wants first.puts mid d fresh keeps before r again.puts r again.refused;
      worn = set_worn eq b p key back.1 value back.2 ttl now back.0 wants first.puts mid d fresh keeps before r again.puts;
    }
