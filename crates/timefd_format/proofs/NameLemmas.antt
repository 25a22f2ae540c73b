-- The moments that usual names spell.
use Rattle.std.proofs.Common.{ℕ, ◌≡◌, ◌==◌, ◌∙◌, Bool, true, false, List, [], ◌∷◌, Option, Some, None, Result, Ok, Err, codes, nat_eq, refl, sym, ap, subst, arith}
use Rattle.std.specs.List.{ends_with}
use Rattle.std.specs.Str.{bytes_eq}
use Rattle.std.specs.Char.{is_ascii_digit}
use Rattle.std.proofs.lemmas.Grind.{common_steps}
use Rattle.std.proofs.lemmas.Bool.Decides.{nat_tests}
use Rattle.timefd_lang_component.specs.Tree.{Text}
use Rattle.timefd_format.specs.declared.from_jiff.annotated.Annotated.{Annotated}
use Rattle.timefd_format.specs.declared.from_jiff.annotated.Annotation.{Annotation}
use Rattle.timefd_date_moment.specs.declared.moment.Moment.{Moment}
use Rattle.timefd_format.specs.declared.names.GivenNames.{GivenNames}
use Rattle.timefd_format.specs.Moments.{IsChecked, IsNamed, IsOfText, IsOfWord, IsWritten}
use Rattle.timefd_format.specs.Seconds.{after_at}
use Rattle.timefd_format.specs.Spelled.{IsSpelled}

pub named : (names : GivenNames) (word : Text) (m : Moment) → IsSpelled word m
    → ends_with nat_eq word (codes "]") ≡ false → IsNamed names word (Ok m)
named names [] m spelled none = absurd (let digit = spelled.4 in cc)
named names (c ∷ cs) m spelled shut =
    let digit : is_ascii_digit c ≡ true = spelled.4 in
    let other : nat_eq c 110 ≡ false = grind (arith, nat_tests, common_steps, digit) in
    let mark : nat_eq c 64 ≡ false = grind (arith, nat_tests, common_steps, digit) in
    rw other (rw mark (rw spelled.1 (record { moment = m; zone = None }, (spelled.2, rw spelled.3 tt), rw shut refl)))
