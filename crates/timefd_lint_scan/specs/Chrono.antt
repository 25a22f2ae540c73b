-- Directives of chrono and of jiff that the strftime of `time` doesn't have.
use Rattle.std.specs.Prelude.{Bool, true, false, ◌||◌, ◌==◌, [], ◌∷◌, codes, nat_eq, if◌then◌else◌}
use Rattle.std.specs.List.{list_any, starts_with}
use Rattle.timefd_lint_scan.specs.Bytes.{Text}

abbrev pub begins : Text → Text → Bool
begins text directive = starts_with nat_eq text directive

-- After the `%`: the digits of a fraction of a second, without a dot and with one; an offset with
-- colons or a zone's name; a date such as `8-Jul-2001`, the quarter, or a whole date and time.
abbrev pub begins_fraction : Text → Bool
begins_fraction text =
    begins text (codes "f") || begins text (codes "3f") || begins text (codes "6f")
    || begins text (codes "9f")

abbrev pub begins_dotted : Text → Bool
begins_dotted text =
    begins text (codes ".f") || begins text (codes ".3f") || begins text (codes ".6f")
    || begins text (codes ".9f")

abbrev pub begins_zone : Text → Bool
begins_zone text =
    begins text (codes "Z") || begins text (codes ":z") || begins text (codes "::z")
    || begins text (codes ":::z") || begins text (codes "#z")

abbrev pub begins_date : Text → Bool
begins_date text = begins text (codes "v") || begins text (codes "q") || begins text (codes "+")

abbrev pub begins_own : Text → Bool
begins_own text = begins_fraction text || begins_dotted text || begins_zone text || begins_date text

-- Whether such a directive follows a `%`. The byte after a `%` doesn't begin another directive.
abbrev mutual
  pub is_of_chrono : Text → Bool
  is_of_chrono [] = false
  is_of_chrono (b ∷ bytes) = if b == 37 then is_of_chrono_after bytes else is_of_chrono bytes

  pub is_of_chrono_after : Text → Bool
  is_of_chrono_after [] = false
  is_of_chrono_after (b ∷ bytes) =
      if begins_own (b ∷ bytes) then true else is_of_chrono bytes

-- After the `%`: a flag, a width, the digits of a fraction of a second, an offset with colons, or a
-- zone of jiff.
abbrev pub begins_of_jiff : Text → Bool
begins_of_jiff [] = false
begins_of_jiff (b ∷ bytes) = list_any (λ c. c == b) (codes "NQfqv.:Z^#+123456789")

abbrev mutual
  pub is_of_jiff : Text → Bool
  is_of_jiff [] = false
  is_of_jiff (b ∷ bytes) = if b == 37 then is_of_jiff_after bytes else is_of_jiff bytes

  pub is_of_jiff_after : Text → Bool
  is_of_jiff_after [] = false
  is_of_jiff_after (b ∷ bytes) =
      if begins_of_jiff (b ∷ bytes) then true else is_of_jiff bytes
