use Rattle.std.proofs.Common.{refl}
use Rattle.timefd_c.proofs.laws.numbers.Goals as goal

pub returns : goal.returns
returns c = record {
  version = refl;
  accepted = refl;
  refused = refl;
  not_utf8 = refl;
  no_memory = refl;
  unknown_kind = refl;
  unshown = refl;
  out_of_range = refl;
  no_conversion = refl;
  no_description = refl;
  unread = refl;
  contradiction = refl;
  missing = refl;
  date_not_utf8 = refl;
  version_1 = refl;
  version_2 = refl;
  version_3 = refl;
  strftime = refl;
  python = refl;
  c = refl;
  gnu = refl;
  chrono = refl;
  jiff = refl;
  ruby = refl;
  java = refl;
  go = refl;
  moment = refl;
  not_1 = refl;
  not_2 = refl;
  not_3 = refl;
  not_4 = refl;
}
