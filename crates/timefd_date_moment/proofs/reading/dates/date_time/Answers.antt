use Rattle.std.proofs.Common.{inr}
use Rattle.timefd_date_moment.proofs.reading.dates.date_time.Goals as goal

-- there is a date, so the error is that of the time
pub returns-in-Err-time : goal.returns-in-Err-time
returns-in-Err-time c = inr ((c.in-Ok.date, c.in-Ok.ensures), c.in-Err-time.ensures)
