use Rattle.std.proofs.Common.{◌≡◌, arith}
use Rattle.dq_apps.specs.Sessions.{deadline_from}
use Rattle.dq_apps.proofs.Logins.{logged_in}
use Rattle.dq_apps.proofs.sessions.IdleSessions.login.Goals as goal

pub returns-clause-logs_in : goal.returns-clause-logs_in
returns-clause-logs_in g c =
    let deadline : c.deadline_from-deadline.result ≡ deadline_from c.args.self.now c.args.now = omega (arith, c.deadline_from-deadline.ensures, c.if-deadline-gt-LAST_TICK.false) in
    logged_in c.args.self.now c.args.route c.args.now _ _ c.args.name.now _ c.in-Ok.ensures deadline c.if-deadline-gt-LAST_TICK.false (rw (← c.self.view_is) c.insert_or_drop.ensures.inserts)
