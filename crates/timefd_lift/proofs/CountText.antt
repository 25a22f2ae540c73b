-- A count, written in decimal, is read as that count.
use Rattle.std.proofs.Common.{ℕ, ◌≡◌, ◌<◌, ◌≤◌, ◌^◌, ◌≢◌, true, false, [], ◌∷◌, ◌++◌, get_or, Some, Ok, codes, decimal, refl, sym, subst, arith}
use Rattle.std.specs.List.{list_all}
use Rattle.std.specs.Bool.{⊤}
use Rattle.std.specs.Str.Parse.{AllDigits, IsNumeral, digits_value, without_leading_plus, ParsesUnsigned}
use Rattle.std.proofs.lemmas.Bool.{and_from}
use Rattle.std.proofs.lemmas.Bool.Decides.{nat_tests}
use Rattle.std.proofs.lemmas.Fmt.{decimal_is_IsNumeral, first_decimal}
use Rattle.std.proofs.lemmas.Str.Parse.{digit_from_value, without_leading_plus_none}
use Rattle.std.specs.declared.num.NonZeroU16.{NonZeroU16}
use Rattle.timefd_lang_component.specs.Tree.{Text, component}
use Rattle.timefd_lang_component.specs.declared.component.Component.TheVariants.{Ignore}
use Rattle.timefd_language.specs.Bytes.{right, is_word_byte, ZeroOrMore, OneOrMore}
use Rattle.timefd_language.specs.Head.{head_text}
use Rattle.timefd_language.specs.declared.setting.Setting.{Setting}
use Rattle.timefd_language.specs.Values.{count_of}
use Rattle.timefd_language.specs.Verdict.{verdict}
use Rattle.timefd_language.proofs.Counts.{read_count}
use Rattle.timefd_lift.specs.Written.{in_brackets, component_text}
use Rattle.timefd_lift.proofs.Heads.{◌set_to◌, plain_head, IsShown}

word_byte : (b : ℕ) → 48 ≤ b → b ≤ 57 → is_word_byte b ≡ true
word_byte b low high = grind (arith, nat_tests)

digits_word : (digits : Text) → AllDigits 10 digits → ZeroOrMore is_word_byte digits
digits_word [] all = refl
digits_word (b ∷ digits) all =
    let range = digit_from_value b all.0 in
    and_from (is_word_byte b) (list_all is_word_byte digits) (word_byte b range.0 range.1)
    (digits_word digits all.1)

numeral_word : (digits : Text) → IsNumeral 10 digits → OneOrMore is_word_byte digits
numeral_word [] is = absurd (omega (arith, is.0))
numeral_word (b ∷ digits) is = digits_word (b ∷ digits) is.1

-- what `parse` returns for a number in decimal
parsed : (n : ℕ) → 0 < n → n < 2 ^ 16 → ParsesUnsigned {E = ⊤} 16 10 (decimal n) (Ok n)
parsed n some small =
    let numeral = decimal_is_IsNumeral n (omega arith) in
    let first : get_or (decimal n) 0 0 ≢ 43 =
    λ e. omega (arith, first_decimal n some (omega arith)) in
    let plain : without_leading_plus (decimal n) ≡ decimal n =
    without_leading_plus_none (decimal n) first in
    subst (λ ds. (IsNumeral 10 ds × (digits_value 10 ds < 2 ^ 16)) × (n ≡ digits_value 10 ds))
    (sym plain)
    ((numeral.0, subst (λ m. m < 2 ^ 16) (sym numeral.1) small), sym numeral.1)

count_read : (x : NonZeroU16) → x.value ≤ 65535
    → count_of (decimal x.value) ≡ Some (Setting.Count x)
count_read x small = sym (read_count {E = ⊤} (decimal x.value) (Ok x.value) x.value (Some x)
    (parsed x.value x.ok (omega arith)) refl refl)

ignore_read : (x : NonZeroU16) (close : ℕ) → count_of (decimal x.value) ≡ Some (Setting.Count x)
    → verdict true (plain_head (codes "ignore") (codes "count" set_to decimal x.value ∷ [])) []
    close ≡ Ok (component (Ignore (record { count = x })))
ignore_read x close e = rw e refl

ignore_read_two : (x : NonZeroU16) (close : ℕ)
    → count_of (decimal x.value) ≡ Some (Setting.Count x)
    → verdict false (plain_head (codes "ignore") (codes "count" set_to decimal x.value ∷ [])) []
    close ≡ Ok (component (Ignore (record { count = x })))
ignore_read_two x close e = rw e refl

ignore_spelled : (digits : Text) → in_brackets (codes "ignore count:") digits [] ≡ head_text
    (plain_head (codes "ignore") (codes "count" set_to digits ∷ [])) ++ right ∷ []
ignore_spelled digits = refl

pub ignore : (x : NonZeroU16) → x.value ≤ 65535
    → IsShown (component_text (Ignore (record { count = x }))) (Ignore (record { count = x }))
ignore x small =
    let numeral = decimal_is_IsNumeral x.value (omega arith) in
    record {
      head = plain_head (codes "ignore") (codes "count" set_to decimal x.value ∷ []);
      is = record {
        white = refl;
        name = refl;
        modifiers = (
          record { white = refl; key = refl; value = numeral_word (decimal x.value) numeral.0 },
          tt,
        );
      };
      spelled = ignore_spelled (decimal x.value);
      read = λ close. ignore_read x close (count_read x small);
      read_two = λ close. ignore_read_two x close (count_read x small);
    }
