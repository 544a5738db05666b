use Rattle.dq_ticks.proofs.Starts.{digits_tell_ticks, highest_differs, lap_start, start_digits}
use Rattle.dq_ticks.proofs.digits.starts_have_digits.Goals as goal

pub returns-clause-apart : goal.returns-clause-apart
returns-clause-apart c = digits_tell_ticks

pub returns-clause-highest : goal.returns-clause-highest
returns-clause-highest c = highest_differs

pub returns-clause-low : goal.returns-clause-low
returns-clause-low c = λ e place k i below k_in. start_digits e place k below k_in i

pub returns-clause-lap : goal.returns-clause-lap
returns-clause-lap c = lap_start
