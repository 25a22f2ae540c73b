-- Bytes of a source.
use Rattle.std.specs.Prelude.{ℕ, Bool, not, ◌&&◌, ◌||◌, ◌==◌, nat_le, List, Option, Some, None}
use Rattle.std.specs.Char.{is_ascii_alphanumeric}
use denote.Ref.{Bor}
use Rattle.timefd_lint_scan.specs.declared.class.ByteSet.{ByteSet}
use Rattle.timefd_lint_scan.specs.declared.class.ByteSet.TheVariants.{White, Skipped, Blank, Word, Bare, Aside, Line, Hash, Continuation, Quoted, Unquoted}

abbrev pub Text : Type 0
Text = List ℕ

-- `"`, `#`, `'`, `*`, `/`, `\`
abbrev pub quote : ℕ
quote = 34

abbrev pub hash : ℕ
hash = 35

abbrev pub apostrophe : ℕ
apostrophe = 39

abbrev pub star : ℕ
star = 42

abbrev pub slash : ℕ
slash = 47

abbrev pub backslash : ℕ
backslash = 92

-- the ends of a line
abbrev pub line_feed : ℕ
line_feed = 10

abbrev pub carriage_return : ℕ
carriage_return = 13

abbrev pub is_between : ℕ → ℕ → ℕ → Bool
is_between low high b = nat_le low b && nat_le b high

-- a space or a tab
abbrev pub is_blank : ℕ → Bool
is_blank b = (b == 32) || (b == 9)

abbrev pub is_line_end : ℕ → Bool
is_line_end b = (b == line_feed) || (b == carriage_return)

abbrev pub is_skipped : ℕ → Bool
is_skipped b = is_blank b || is_line_end b

abbrev pub is_white : ℕ → Bool
is_white b = is_skipped b || (b == 11) || (b == 12)

-- a letter, a digit or `_`, or a byte of a character that isn't ASCII
abbrev pub is_word : ℕ → Bool
is_word b = is_between 97 122 b || is_between 65 90 b || is_between 48 57 b || (b == 95) || nat_le 128 b

-- a byte of a TOML key without quotes: an ASCII letter or digit, `_`, `-`
abbrev pub is_bare : ℕ → Bool
is_bare b = is_ascii_alphanumeric b || (b == 95) || (b == 45)

-- a blank, a quote, `,`, `]` or `}`: what may be between the value of a key and a comment
abbrev pub is_aside : ℕ → Bool
is_aside b = is_blank b || (b == quote) || (b == apostrophe) || (b == 44) || (b == 93) || (b == 125)

-- a byte of a character of several bytes, after its first
abbrev pub is_continuation : ℕ → Bool
is_continuation b = is_between 128 191 b

abbrev pub class_test : ByteSet → ℕ → Bool
class_test White = is_white
class_test Skipped = is_skipped
class_test Blank = is_blank
class_test Word = is_word
class_test Bare = is_bare
class_test Aside = is_aside
class_test Line = λ b. not (b == line_feed)
class_test Hash = λ b. b == hash
class_test Continuation = is_continuation
class_test Unquoted = λ b. not (b == quote)
class_test Quoted = λ b. not ((b == apostrophe) || (b == line_feed))

-- a slice, as its bytes
abbrev pub seen : Option (Bor Text) → Option Text
seen None = None
seen (Some rest) = Some rest.now
