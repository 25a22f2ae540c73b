use Rattle.std.proofs.Common.{◌≡◌, ◌+◌, ◌-◌, ◌≤◌, drop}
use Rattle.std.specs.List.{prefix_len}
use Rattle.timefd_date_moment.specs.Fields.Numbers.{is_space}
use Rattle.timefd_date_moment.proofs.fields.digits.leading_spaces.Given as goal

abbrev pub invariant-spaces : goal.invariant-spaces
invariant-spaces l = record {
  within : l.count ≤ l.most;
  left : l.count + prefix_len is_space (drop l.count l.text) ≡ prefix_len is_space l.text;
}

abbrev pub decreases-spaces : goal.decreases-spaces
decreases-spaces l = l.most - l.count
