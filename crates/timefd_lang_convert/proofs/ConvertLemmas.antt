-- For each conversion, the one text that a text is converted to.
use Rattle.std.proofs.Common.{◌≡◌, ◌∙◌, List, Result, Ok, Err, sym, ap, subst}
use Rattle.std.specs.Prelude.{MatchResult, string_bytes}
use Rattle.std.specs.declared.string.String.{String}
use Rattle.std.specs.declared.alloc.Global.{Global}
use Rattle.timefd_lang_fault.specs.BorrowedFaults.{IsMemory}
use Rattle.timefd_lang_fault.specs.declared.borrowed_parse_error.BorrowedParseError.{BorrowedParseError}
use Rattle.timefd_lang_component.specs.Tree.{Text, Tree, pack, trees}
use Rattle.timefd_lang_convert.specs.declared.conversion.Conversion.{Conversion}
use Rattle.timefd_lang_convert.specs.declared.conversion.Conversion.TheVariants.{OneToTwo, OneToThree, TwoToThree, ThreeToThree, StrftimeToThree}
use Rattle.timefd_lang_convert.specs.Conversions.{IsConversion}
use Rattle.timefd_language.specs.declared.description_version.DescriptionVersion.TheVariants.{Two, Three}
use Rattle.timefd_language.specs.Grammar.{Pieces, Spells, nesting_limit}
use Rattle.timefd_language.specs.Rewritten.{rewritten}
use Rattle.timefd_language.specs.Strftime.{SpellsStrftime}
use Rattle.timefd_language.proofs.LawLemmas.{one_answer_law}
use Rattle.timefd_lift.specs.Answers.{IsSpelledBy}
use Rattle.timefd_lift.specs.Modernized.{IsWrittenOf}
use Rattle.timefd_lift.specs.Written.{written}
use Rattle.timefd_lang_convert.specs.Printing.Printed.{printed, printed_all}

abbrev Answer : Type 0
Answer = Result (String Global) BorrowedParseError

-- this text, or memory ran out
abbrev Gives : Answer → Text → Type 0
Gives r text = MatchResult r (λ answer. string_bytes answer ≡ text) IsMemory

wanted : (r : Answer) (reported other : Text) → other ≡ reported → Gives r reported → Gives r other
wanted r reported other is gives = subst (Gives r) (sym is) gives

one_written : (text a b : Text) → IsWrittenOf text a → IsWrittenOf text b → a ≡ b
one_written text a b x y =
    x.2 ∙ ap written ((one_answer_law Two nesting_limit text).1.one_list x.0 y.0 x.1 y.1) ∙ sym y.2

same_written : (r : Answer) (text answer : Text) → IsWrittenOf text answer
    → MatchResult r (λ a. IsWrittenOf text (string_bytes a)) IsMemory → Gives r answer
same_written (Ok a) text answer is reported = one_written text (string_bytes a) answer reported is
same_written (Err e) text answer is reported = reported

pub one_to_two : (conversion : Conversion) (r : Answer) (text : Text) → conversion ≡ OneToTwo
    → ((ps : Pieces) → IsSpelledBy ps text → Gives r (rewritten ps))
    → (answer : Text) → IsConversion conversion text answer → Gives r answer
one_to_two conversion r text which spelled answer is =
    let one = subst (λ c. IsConversion c text answer) which is in
    wanted r (rewritten one.0) answer one.2 (spelled one.0 one.1)

pub one_to_three : (conversion : Conversion) (r : Answer) (text : Text) → conversion ≡ OneToThree
    → ((ps : Pieces) → IsSpelledBy ps text
    → MatchResult r (λ a. IsWrittenOf (rewritten ps) (string_bytes a)) IsMemory)
    → (answer : Text) → IsConversion conversion text answer → Gives r answer
one_to_three conversion r text which spelled answer is =
    let one = subst (λ c. IsConversion c text answer) which is in
    let first = one.1 in
    same_written r (rewritten first.0) answer
    (subst (λ between. IsWrittenOf between answer) first.2 one.2) (spelled first.0 first.1)

pub two_to_three : (conversion : Conversion) (r : Answer) (text : Text) → conversion ≡ TwoToThree
    → ((list : List Tree) → Spells Two nesting_limit 0 text list → Gives r (written list))
    → (answer : Text) → IsConversion conversion text answer → Gives r answer
two_to_three conversion r text which spelled answer is =
    let one = subst (λ c. IsConversion c text answer) which is in
    wanted r (written one.0) answer one.2 (spelled one.0 one.1)

pub three_to_three : (conversion : Conversion) (r : Answer) (text : Text)
    → conversion ≡ ThreeToThree
    → ((list : List Tree) → Spells Three nesting_limit 0 text list → Gives r (printed (pack list)))
    → (answer : Text) → IsConversion conversion text answer → Gives r answer
three_to_three conversion r text which spelled answer is =
    let one = subst (λ c. IsConversion c text answer) which is in
    wanted r (printed (pack one.0)) answer one.2 (spelled one.0 one.1)

pub strftime_to_three : (conversion : Conversion) (r : Answer) (text : Text)
    → conversion ≡ StrftimeToThree
    → ((list : List Tree) → SpellsStrftime text list → Gives r (printed_all (trees list)))
    → (answer : Text) → IsConversion conversion text answer → Gives r answer
strftime_to_three conversion r text which spelled answer is =
    let one = subst (λ c. IsConversion c text answer) which is in
    wanted r (printed_all (trees one.0)) answer one.2 (spelled one.0 one.1)
