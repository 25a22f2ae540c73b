use Rattle.std.proofs.Common.{refl}
use Rattle.timefd_c_nodes.proofs.laws.kind_numbers.Goals as goal

pub returns : goal.returns
returns c = record {
  literal = refl;
  component = refl;
  compound = refl;
  optional = refl;
  first = refl;
  composite = refl;
}
