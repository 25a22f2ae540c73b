-- Examples in doc comments, as rustdoc compiles them: each is a source by itself.
use Rattle.std.specs.Prelude.{ℕ, zero, suc, ◌≡◌, ◌+◌, ◌-◌, ◌<◌, ◌⊎◌, Bool, true, false, not, ◌&&◌, ◌||◌, ◌==◌, nat_eq, nat_le, nat_lt, if◌then◌else◌, List, []}
use Rattle.std.specs.Prelude.{◌∷◌, ◌++◌, codes, bytes_eq, drop, get_or, length, take, Option, Some, None}
use Rattle.std.specs.List.{prefix_len, starts_with}
use Rattle.timefd_lint_scan.specs.declared.doc_tests.DocTest.{DocTest}
use Rattle.timefd_lint_scan.specs.declared.doc_tests.before.LineBefore.{LineBefore}
use Rattle.timefd_lint_scan.specs.declared.doc_tests.line.DocLine.{DocLine}
use Rattle.timefd_lint_scan.specs.declared.doc_tests.line.DocSide.{DocSide}
use Rattle.timefd_lint_scan.specs.declared.doc_tests.line.DocSide.TheVariants.{Outer, Inner}
use Rattle.timefd_lint_scan.specs.declared.doc_tests.place.DocPlace.{DocPlace}
use Rattle.timefd_lint_scan.specs.declared.doc_tests.place.DocPlace.TheVariants.{Outside, Example, Block}
use Rattle.timefd_lint_scan.specs.declared.doc_tests.fence.Fence.{Fence}
use Rattle.timefd_lint_scan.specs.declared.doc_tests.info.BlockLanguage.{BlockLanguage}
use Rattle.timefd_lint_scan.specs.declared.doc_tests.info.BlockLanguage.TheVariants.{Unsaid, Rust, Other, Failing}
use Rattle.timefd_lint_scan.specs.declared.piece.PlacedToken.{PlacedToken}
use Rattle.timefd_lint_scan.specs.After.{after_run}
use Rattle.timefd_lint_scan.specs.Bytes.{Text, is_white}
use Rattle.timefd_lint_scan.specs.Literals.{cut}
use Rattle.timefd_lint_scan.specs.Marks.{in_front}

-- Each byte of a code is that of the source at its position, or a space.
abbrev pub StandsAt : Text → ℕ → Text → Type 0
StandsAt source start code =
    (i : ℕ) → i < length code → (get_or code i 0 ≡ 32) ⊎ (get_or code i 0 ≡ get_or source (start + i) 0)

-- the code of a line that begins with its first byte that isn't white: the sign of a hidden line is a space, and so is the first of
-- two signs, which rustdoc leaves out
abbrev pub shown : Text → Text
shown [] = []
shown (b ∷ []) = if b == 35 then 32 ∷ [] else b ∷ []
shown (b ∷ next ∷ rest) = if b == 35 && (next == 35 || is_white next) then 32 ∷ next ∷ rest else b ∷ next ∷ rest

-- the code of a line of a comment, after the three bytes of its sign
abbrev pub code_of : Text → Text
code_of text = in_front text (after_run is_white text) ++ shown (after_run is_white text)

abbrev pub is_attribute : Text → Bool
is_attribute word =
    bytes_eq word (codes "should_panic") || bytes_eq word (codes "no_run") || bytes_eq word (codes "test_harness")
    || bytes_eq word (codes "standalone_crate") || starts_with nat_eq word (codes "ignore")

abbrev pub says_nothing : Text → Bool
says_nothing word = length word == 0 || starts_with nat_eq word (codes "edition")

abbrev pub with_word : BlockLanguage → Text → BlockLanguage
with_word Unsaid word =
    if bytes_eq word (codes "rust") || is_attribute word then Rust else Other
with_word Rust word = Rust
with_word Other word = if bytes_eq word (codes "rust") then Rust else Other
with_word Failing word = Failing

abbrev pub after_word : BlockLanguage → Text → BlockLanguage
after_word language word =
    if bytes_eq word (codes "compile_fail") then Failing
    else if says_nothing word then language
    else with_word language word

-- A byte of a word after a fence.
abbrev pub is_of_word : ℕ → Bool
is_of_word byte = not (byte == 44 || is_white byte)

abbrev pub word_end : Text → ℕ
word_end text = prefix_len is_of_word text

-- what the words of a text say, at most so many of them, after others
abbrev pub language_of : ℕ → BlockLanguage → Text → BlockLanguage
language_of zero language text = language
language_of (suc most) language [] = language
language_of (suc most) language (b ∷ bytes) =
    language_of most (after_word language (take (word_end (b ∷ bytes)) (b ∷ bytes))) (drop (word_end (b ∷ bytes) + 1) (b ∷ bytes))

abbrev pub takes : BlockLanguage → Bool
takes Unsaid = true
takes Rust = true
takes Other = false
takes Failing = false

-- A block with these words after its fence is an example of Rust that has to compile.
abbrev pub is_rust : Text → Bool
is_rust info = takes (language_of (length info) Unsaid info)

-- how many of these bytes a text begins with
abbrev pub count_of : ℕ → Text → ℕ
count_of sign text = prefix_len (λ byte. byte == sign) text

abbrev pub has_none : ℕ → Text → Bool
has_none sign [] = true
has_none sign (b ∷ bytes) = if b == sign then false else has_none sign bytes

-- the fence that a text begins with: three or more backticks without others after them in the line, or three or more tildes
abbrev pub opening_by : ℕ → Text → Option Fence
opening_by sign text =
    if nat_lt (count_of sign text) 3 then None
    else if sign == 126 || has_none sign (drop (count_of sign text) text) then Some (record { sign = sign; count = count_of sign text })
    else None

-- Only a fence stands in a line, which is as long as this one, or longer.
abbrev pub is_closing_by : Fence → Text → Bool
is_closing_by fence text =
    nat_le fence.count (count_of fence.sign text) && length (after_run is_white (drop (count_of fence.sign text) text)) == 0

abbrev pub opened_by : Option Fence → Text → DocPlace
opened_by None text = Outside
opened_by (Some fence) text = if is_rust (drop fence.count text) then Example fence else Block fence

abbrev pub sign_of : Text → ℕ
sign_of [] = 126
sign_of (b ∷ bytes) = if b == 96 then 96 else 126

-- a line from its first byte on that isn't white
abbrev pub code_in : Text → Text
code_in line = after_run is_white line

-- the place after a line that may open a block
abbrev pub opened : Text → DocPlace
opened text = opened_by (opening_by (sign_of text) text) text

-- the place after a line that stands at another
abbrev pub place_after : DocPlace → Text → DocPlace
place_after Outside line = opened (after_run is_white line)
place_after (Example fence) line =
    if is_closing_by fence (after_run is_white line) then Outside else Example fence
place_after (Block fence) line =
    if is_closing_by fence (after_run is_white line) then Outside else Block fence

-- A line of a doc comment: the item that it is about, and what stands after its sign.
pub record Line : Type 0 where
  pub piece : PlacedToken
  pub side : DocSide
  pub text : Text

abbrev pub read : DocLine → Line
read line = record { piece = line.piece; side = line.side; text = line.text.now }

abbrev pub read_any : Option DocLine → Option Line
read_any None = None
read_any (Some line) = Some (read line)

-- a comment as a line of a doc comment, if it is one: `///`, but not `////`, or `//!`
abbrev pub line_in : PlacedToken → Text → Option Line
line_in p comment =
    if starts_with nat_eq comment (codes "////") then None
    else if starts_with nat_eq comment (codes "///") then Some (record { piece = p; side = Outer; text = drop 3 comment })
    else if starts_with nat_eq comment (codes "//!") then Some (record { piece = p; side = Inner; text = drop 3 comment })
    else None

abbrev pub line_of : PlacedToken → Option Text → Option Line
line_of p None = None
line_of p (Some comment) = line_in p comment

-- the bytes between a line and the one before it
abbrev pub gap : Text → Option LineBefore → Line → Text
gap source None line = []
gap source (Some before) line = take (line.piece.start - before.end) (drop before.end source)

abbrev pub is_same : DocSide → DocSide → Bool
is_same Outer Outer = true
is_same Outer Inner = false
is_same Inner Outer = false
is_same Inner Inner = true

-- A line goes on with the doc comment of the line before it: only white bytes are between them.
abbrev pub goes_on : Text → LineBefore → Line → Bool
goes_on source before line =
    is_same before.side line.side && nat_le before.end line.piece.start
    && length (after_run is_white (gap source (Some before) line)) == 0

-- where a line stands: at the place after the line before it, if it goes on with the doc comment of that
abbrev pub place_of : Text → Option LineBefore → Line → DocPlace
place_of source None line = Outside
place_of source (Some before) line = if goes_on source before line then before.place else Outside

-- the place after a line
abbrev pub place_next : Text → Option LineBefore → Line → DocPlace
place_next source before line = place_after (place_of source before line) line.text

-- what the comment after this one may go on with: this one, if it is a line
abbrev pub after_comment : Text → Option LineBefore → Option Line → Option LineBefore
after_comment source before None = None
after_comment source before (Some line) =
    Some (record { side = line.side; end = line.piece.end; place = place_next source before line })

abbrev pub is_in_example : DocPlace → Bool
is_in_example Outside = false
is_in_example (Example fence) = true
is_in_example (Block fence) = false

-- A line of an example: it neither opens nor closes it.
abbrev pub is_line : Text → Option LineBefore → Line → Bool
is_line source before line = is_in_example (place_of source before line) && is_in_example (place_next source before line)

-- A line opens an example.
abbrev pub opens : Text → Option LineBefore → Line → Bool
opens source before line = not (is_in_example (place_of source before line)) && is_in_example (place_next source before line)

-- the code of a line after these bytes: three spaces are its sign
abbrev pub code_after : Text → Text → Text
code_after bytes text = bytes ++ 32 ∷ 32 ∷ 32 ∷ [] ++ code_of text

-- what a line of an example adds to it: the white bytes before it, and its code
abbrev pub line_code : Text → Option LineBefore → Line → Text
line_code source before line = code_after (gap source before line) line.text

-- the code that a comment begins with, before the code of the next ones
abbrev pub code_with : Text → Option LineBefore → Option Line → Text → Text
code_with source before None rest = []
code_with source before (Some line) rest = if is_line source before line then line_code source before line ++ rest else []

-- the code of the lines of an example that these comments begin with
abbrev pub code_from : Text → Option LineBefore → List PlacedToken → Text
code_from source before [] = []
code_from source before (c ∷ cs) =
    code_with source before (line_of c (cut source c)) (code_from source (after_comment source before (line_of c (cut source c))) cs)

-- an example: its code, and where that begins in the source
pub record TestCode : Type 0 where
  pub start : ℕ
  pub code : Text

abbrev pub test_of : DocTest → TestCode
test_of test = record { start = test.start; code = test.code.items }

-- the last of these examples has these bytes more
abbrev pub to_last : Text → List TestCode → List TestCode
to_last bytes [] = []
to_last bytes (e ∷ []) = record { start = e.start; code = e.code ++ bytes } ∷ []
to_last bytes (e ∷ next ∷ es) = e ∷ to_last bytes (next ∷ es)

-- these examples and one that begins at a position
abbrev pub with_opened : ℕ → List TestCode → List TestCode
with_opened start es = es ++ record { start = start; code = [] } ∷ []

-- these examples after a line that stands between two places, and has this code: it is of the last one, or opens another, or neither
abbrev pub with_line : DocPlace → DocPlace → ℕ → Text → List TestCode → List TestCode
with_line place next end code es =
    if not (is_in_example next) then es
    else if is_in_example place then to_last code es
    else with_opened end es

-- these examples after a comment more
abbrev pub with_comment : Text → Option LineBefore → Option Line → List TestCode → List TestCode
with_comment source before None es = es
with_comment source before (Some line) es =
    with_line (place_of source before line) (place_next source before line) line.piece.end (line_code source before line) es

-- the example that a comment opens, if it does, with the code of the comments after it: it begins where that comment ends
abbrev pub opened_in : Text → Option LineBefore → Option Line → Text → List TestCode
opened_in source before None code = []
opened_in source before (Some line) code =
    if opens source before line then record { start = line.piece.end; code = code } ∷ [] else []

-- the examples that these comments open, which follow others
abbrev pub tests_from : Text → Option LineBefore → List PlacedToken → List TestCode
tests_from source before [] = []
tests_from source before (c ∷ cs) =
    opened_in source before (line_of c (cut source c)) (code_from source (after_comment source before (line_of c (cut source c))) cs)
    ++ tests_from source (after_comment source before (line_of c (cut source c))) cs

-- the examples in these comments of a source, in order
abbrev pub tests_in : Text → List PlacedToken → List TestCode
tests_in source cs = tests_from source None cs
