use Rattle.std.proofs.Common.{◌∙◌, sym, ap, inl}
use Rattle.std.proofs.lemmas.Bool.{false≢true}
use Rattle.dq_apps.specs.Cache.{value_seen}
use Rattle.dq_apps.proofs.Fronts.{no_memory, worn_wants, touch_no_memory, touch_no_memory_seen, touched, touched_seen, touched_others, touched_refused, touched_worn}
use Rattle.dq_apps.proofs.cache.TtlCache.touch.Goals as goal

pub returns-in-Ok : goal.returns-in-Ok
returns-in-Ok g c =
    let done = c.in-Ok.ensures in
    record { touches = inl (done.renews, tt); seen = done.seen; others = done.others; refused = tt; worn = tt }

pub returns-then-not-wants_stamps : goal.returns-then-not-wants_stamps
returns-then-not-wants_stamps g c =
    let done = c.in-Err.ensures in
    let e = c.in-Err.error in
    let eq = g.K.PartialEq.eq in
    record {
      touches = inl (done.renews, λ worn. false≢true (sym c.if-not-wants_stamps.true ∙ c.wants_stamps.ensures.1 (worn_wants e worn)));
      seen = tt;
      others = done.others;
      refused = λ q t later. ap (λ x. value_seen eq x q t) done.refused;
      worn = λ worn. absurd (false≢true (sym c.if-not-wants_stamps.true ∙ c.wants_stamps.ensures.1 (worn_wants e worn)));
    }

pub returns-in-Err-refresh : goal.returns-in-Err-refresh
returns-in-Err-refresh g c =
    let b = c.args.self.now in
    let e = c.in-Err.error in
    let eq = g.K.PartialEq.eq in
    let wants = c.wants_stamps.ensures.0 c.if-not-wants_stamps.false in
    let first = c.in-Err.ensures.renews in
    let f = c.in-Err-refresh.refused in
    let refused = c.in-Err-refresh.ensures.refreshes in
    record {
      touches = touch_no_memory eq b c.renew.new.self c.args.key.now c.args.ttl c.args.now e wants first c.refresh.new.self f refused;
      seen = tt;
      others = λ q t apart later. touch_no_memory_seen eq b c.renew.new.self c.args.key.now c.args.ttl c.args.now e wants first c.refresh.new.self f refused q t;
      refused = λ q t later. touch_no_memory_seen eq b c.renew.new.self c.args.key.now c.args.ttl c.args.now e wants first c.refresh.new.self f refused q t;
      worn = λ worn. absurd (no_memory f refused.0 (worn_wants f worn));
    }

pub returns : goal.returns
returns g c =
    let b = c.args.self.now in
    let e = c.in-Err.error in
    let eq = g.K.PartialEq.eq in
    let k = c.args.key.now in
    let ttl = c.args.ttl in
    let now = c.args.now in
    let wants = c.wants_stamps.ensures.0 c.if-not-wants_stamps.false in
    let first = c.in-Err.ensures.renews in
    let b1 = c.renew.new.self in
    let mid = c.refresh.new.self in
    let d = c.renew-2.new.self in
    let fresh = c.in_default.ensures.refreshes in
    let keeps = c.in_default.ensures.seen in
    let r = c.renew-2.result in
    let again = c.renew-2.ensures in
    record {
      touches = touched eq b b1 k ttl now e wants first mid d fresh keeps r again.renews;
      seen = touched_seen eq b b1 k ttl now e wants first mid d fresh keeps r again.renews r again.seen;
      others = touched_others eq b b1 k ttl now e wants first mid d fresh keeps r again.renews again.others;
      refused = touched_refused eq b b1 k ttl now e wants first mid d fresh keeps r again.renews r again.refused;
      worn = touched_worn eq b b1 k ttl now e wants first mid d fresh keeps r again.renews;
    }
