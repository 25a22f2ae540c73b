use Rattle.std.proofs.Common.{ℤ, ◌∙◌, ap, subst, sym}
use Rattle.jiff_core.specs.declared.timestamp.Timestamp.{Timestamp}
use Rattle.timefd_format.specs.FromJiff.Zones.{IsOnClock}
use Rattle.timefd_format.proofs.from_jiff.zones.moment_in_zone.Goals as goal

pub returns-in-Ok : goal.returns-in-Ok
returns-in-Ok c =
    subst (λ (n : ℤ). IsOnClock c.args.zone.now n c.moment_at.result)
    (sym (c.in-Ok.ensures.value ∙ ap (λ (t : Timestamp). t.nanosecond) (sym c.to_plain.ensures)))
    c.moment_at.ensures
