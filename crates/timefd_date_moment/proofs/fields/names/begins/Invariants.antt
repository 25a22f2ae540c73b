use Rattle.std.proofs.Common.{◌≡◌, ◌-◌, ◌≤◌, drop, length}
use Rattle.timefd_date_moment.specs.Fields.Names as spec
use Rattle.timefd_date_moment.proofs.fields.names.begins.Given as goal

-- what is left decides
abbrev pub invariant-bytes : goal.invariant-bytes
invariant-bytes l = record {
  within : l.at ≤ length l.name;
  room : length l.name ≤ length l.text;
  left : spec.begins l.is_case_sensitive (drop l.at l.name) (drop l.at l.text)
      ≡ spec.begins l.is_case_sensitive l.name l.text;
}

abbrev pub decreases-bytes : goal.decreases-bytes
decreases-bytes l = length l.name - l.at
