-- Rules about runs, escapes and closing brackets.
use Rattle.std.specs.Prelude.{ℕ, [], ◌∷◌, IsTrue, IsFalse}
use Rattle.timefd_lang_component.specs.Tree.{Text, literal}
use Rattle.timefd_lang_fault.specs.Faults.{fault}
use Rattle.timefd_language.specs.declared.description_version.DescriptionVersion.{DescriptionVersion}
use Rattle.timefd_language.specs.declared.description_version.DescriptionVersion.TheVariants.{One, Three}
use Rattle.timefd_language.specs.Bytes.{left, backslash, right, is_special, is_run_byte, is_version_one, is_version_three, OneOrMore}
use Rattle.timefd_lang_fault.specs.Words.{expected_escape, expected_closing_escape}
use Rattle.timefd_language.specs.Grammar.{Spells}
use Rattle.timefd_language.specs.Broken.{Bad}

-- A run means the literal of its bytes.
abbrev pub RunIsLiteral : Type 0
RunIsLiteral = (v : DescriptionVersion) (limit n : ℕ) (bytes : Text)
    → OneOrMore (is_run_byte v) bytes → Spells v limit n bytes (literal bytes ∷ [])

-- In version 1 a backslash is a byte of a run.
abbrev pub BackslashInVersionOne : Type 0
BackslashInVersionOne = (limit n : ℕ)
    → Spells One limit n (backslash ∷ []) (literal (backslash ∷ []) ∷ [])

-- In version 1 `[[` means the literal `[`, at any depth.
abbrev pub DoubledBracket : Type 0
DoubledBracket = (limit n : ℕ)
    → Spells One limit n (left ∷ left ∷ []) (literal (left ∷ []) ∷ [])

-- In versions 2 and 3 a backslash and then `\`, `[` or `]` mean the literal of the second byte.
abbrev pub EscapedByte : Type 0
EscapedByte = (v : DescriptionVersion) (limit n b : ℕ) → IsFalse (is_version_one v)
    → IsTrue (is_special b)
    → Spells v limit n (backslash ∷ b ∷ []) (literal (b ∷ []) ∷ [])

-- A backslash before any other byte is reported at that byte.
abbrev pub EscapeWanted : Type 0
EscapeWanted = (v : DescriptionVersion) (limit n b : ℕ) (rest : Text)
    → IsFalse (is_version_one v) → IsFalse (is_special b)
    → Bad v limit n (backslash ∷ b ∷ rest) (fault expected_escape 1)

-- A backslash at the end is reported at the backslash.
abbrev pub EscapeWantedAtTheEnd : Type 0
EscapeWantedAtTheEnd = (v : DescriptionVersion) (limit n : ℕ) → IsFalse (is_version_one v)
    → Bad v limit n (backslash ∷ []) (fault expected_escape 0)

-- In versions 1 and 2 a `]` outside of brackets means the literal `]`.
abbrev pub ClosingIsLiteral : Type 0
ClosingIsLiteral = (v : DescriptionVersion) (limit : ℕ) → IsFalse (is_version_three v)
    → Spells v limit 0 (right ∷ []) (literal (right ∷ []) ∷ [])

-- In version 3 a `]` outside of brackets has to be escaped.
abbrev pub ClosingWantsEscape : Type 0
ClosingWantsEscape = (limit : ℕ) (rest : Text)
    → Bad Three limit 0 (right ∷ rest) (fault expected_closing_escape 0)
