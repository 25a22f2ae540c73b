-- The numbers of the statuses that `web/timefd.mjs` expects.
use Rattle.std.specs.Prelude.{◌≡◌}
use Rattle.timefd_web.specs.declared.answer.TheConstants.{REPORTED, NOT_UTF8, NO_MEMORY, NO_LANGUAGE, OUT_OF_RANGE}

pub record Numbers : Type 0 where
  pub reported : REPORTED ≡ 0
  pub not_utf8 : NOT_UTF8 ≡ 1
  pub no_memory : NO_MEMORY ≡ 2
  pub no_language : NO_LANGUAGE ≡ 3
  pub out_of_range : OUT_OF_RANGE ≡ 4
