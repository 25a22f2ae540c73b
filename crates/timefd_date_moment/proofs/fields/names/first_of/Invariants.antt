use Rattle.std.proofs.Common.{◌≡◌, ◌-◌, ◌≤◌, drop, length, map}
use Rattle.timefd_date_moment.specs.Fields.Names as spec
use Rattle.timefd_date_moment.proofs.fields.names.first_of.Given as goal

-- the names that are left decide
abbrev pub invariant-names : goal.invariant-names
invariant-names l = record {
  within : l.position ≤ length l.names;
  left : spec.name_from l.position l.is_case_sensitive (map (λ name. name.now) (drop l.position l.names)) l.text
      ≡ spec.name_from 0 l.is_case_sensitive (map (λ name. name.now) l.names) l.text;
}

abbrev pub decreases-names : goal.decreases-names
decreases-names l = length l.names - l.position
