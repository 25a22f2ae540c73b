use Rattle.std.proofs.Common.{refl}
use Rattle.timefd_web.proofs.laws.numbers.Goals as goal

pub returns : goal.returns
returns c = record {
  reported = refl;
  not_utf8 = refl;
  no_memory = refl;
  no_language = refl;
  out_of_range = refl;
}
