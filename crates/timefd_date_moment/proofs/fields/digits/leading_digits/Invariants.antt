use Rattle.std.proofs.Common.{◌≡◌, ◌+◌, ◌-◌, ◌^◌, ◌<◌, ◌≤◌, drop, take}
use Rattle.std.specs.Char.{is_ascii_digit}
use Rattle.std.specs.List.{prefix_len}
use Rattle.std.specs.Str.Parse.{digits_value}
use Rattle.timefd_date_moment.proofs.fields.digits.leading_digits.Given as goal

-- This many digits are read, and the others are left.
abbrev pub invariant-digits : goal.invariant-digits
invariant-digits l = record {
  within : l.count ≤ l.most;
  few : l.most ≤ 23;
  left : l.count + prefix_len is_ascii_digit (drop l.count l.text) ≡ prefix_len is_ascii_digit l.text;
  value : l.value ≡ digits_value 10 (take l.count l.text);
  small : l.value < 10 ^ l.count;
}

abbrev pub decreases-digits : goal.decreases-digits
decreases-digits l = l.most - l.count
