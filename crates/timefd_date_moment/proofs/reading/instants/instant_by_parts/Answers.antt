use Rattle.std.proofs.Common.{inl, inr}
use Rattle.timefd_date_moment.proofs.reading.instants.instant_by_parts.Goals as goal

-- there are a date and a time, so the error is that of the offset
pub returns-in-Err-offset : goal.returns-in-Err-offset
returns-in-Err-offset c = inr (
  (c.in-Ok.date, c.in-Ok.ensures),
  inr ((c.in-Ok-time_by_parts.time, c.in-Ok-time_by_parts.ensures), c.in-Err-offset.ensures),
)

-- there is a date, so the error is that of the time
pub returns-in-Err-time_by_parts : goal.returns-in-Err-time_by_parts
returns-in-Err-time_by_parts c = inr ((c.in-Ok.date, c.in-Ok.ensures), inl c.in-Err-time_by_parts.ensures)
