use Rattle.std.proofs.Common.{◌∙◌}
use Rattle.timefd_format.proofs.from_jiff.zones.moment_at.Goals as goal

pub returns : goal.returns
returns c = (
  c.to_datetime-datetime.result,
  c.to_datetime-datetime.ensures,
  c.plain_date.ensures,
  c.plain_time.ensures,
  c.plain_offset.ensures ∙ c.to_offset.ensures,
)
