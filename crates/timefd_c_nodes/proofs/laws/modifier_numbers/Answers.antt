use Rattle.std.proofs.Common.{refl}
use Rattle.timefd_c_nodes.proofs.laws.modifier_numbers.Goals as goal

pub returns : goal.returns
returns c = record {
  space = refl;
  zero = refl;
  none = refl;
  off = refl;
  on = refl;
  one = refl;
  two = refl;
  three = refl;
  four = refl;
  five = refl;
  six = refl;
  seven = refl;
  eight = refl;
  nine = refl;
  one_or_more = refl;
  prohibit = refl;
  discard = refl;
}
