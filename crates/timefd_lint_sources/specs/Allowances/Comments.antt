-- What a comment allows: `// timefd: allow unknown-name`, or with `#`.
use Rattle.std.specs.Prelude.{ℕ, ◌≡◌, ◌<◌, ◌⊎◌, ◌-◌, Bool, true, false, not, ◌&&◌, ◌||◌, ◌==◌, nat_lt, if◌then◌else◌, List, [], ◌∷◌, ◌++◌, bytes_eq, codes, drop, is_some, length, min, take, Option, Some, None}
use Rattle.timefd_lint_scan.specs.After.{after_run}
use Rattle.timefd_lint_scan.specs.Bytes.{Text, is_blank, is_white, is_word, class_test, line_feed}
use Rattle.timefd_lint_scan.specs.declared.class.ByteSet.TheVariants.{Line}
use Rattle.timefd_lint_scan.specs.Lines.{line_start}
use Rattle.timefd_lint_scan.specs.Marks.{after, in_front}
use Rattle.timefd_lint_sources.specs.declared.allowances.comment.Allowance.{Allowance}
use Rattle.timefd_lint_sources.specs.declared.allowances.comment.Reach.{Reach}
use Rattle.timefd_lint_sources.specs.declared.allowances.comment.CommentSign.{CommentSign}
use Rattle.timefd_lint_sources.specs.declared.allowances.comment.CommentSign.TheVariants.{Slashes, Hash}

-- the bytes of a text from one index to another
abbrev pub between : Text → ℕ → ℕ → Text
between text from to = take (to - from) (drop from text)

-- after what begins a comment
abbrev pub after_sign : CommentSign → Text → Option Text
after_sign Slashes text = after text (codes "//")
after_sign Hash text = after text (codes "#")

abbrev pub after_mark_in : Option Text → Option Text
after_mark_in None = None
after_mark_in (Some text) = after (after_run is_blank text) (codes "timefd:")

-- What follows `timefd:` in the comment that a text begins with; none if that is another comment, or none.
abbrev pub after_mark : CommentSign → Text → Option Text
after_mark sign text = after_mark_in (after_sign sign text)

-- A line has only a comment with `timefd:`.
abbrev pub is_mark_line : CommentSign → Text → Bool
is_mark_line sign text = is_some (after_mark sign (after_run is_blank text))

abbrev pub after_allow : Text → Option Text
after_allow text =
    if bytes_eq (in_front text (after_run is_word text)) (codes "allow") then Some (after_run is_word text)
    else None

abbrev pub allowing : Option Text → Option Text
allowing None = None
allowing (Some text) = after_allow (after_run is_blank text)

-- the text after `allow` in a comment
abbrev pub allowed_words : CommentSign → Text → Option Text
allowed_words sign comment = allowing (after_mark sign comment)

-- Codes are separated by white bytes and commas.
abbrev pub is_separator : ℕ → Bool
is_separator b = is_white b || (b == 44)

-- what follows the bytes at the front of a text that are no separators
abbrev pub after_word : Text → Text
after_word [] = []
after_word (b ∷ rest) = if is_separator b then b ∷ rest else after_word rest

-- the word that begins where this text does, which ends at an index of the source, after this byte
abbrev pub word_here : Reach → ℕ → ℕ → Text → List Allowance
word_here r end before text =
    if is_separator before && nat_lt (length (after_word text)) (length text) then
    (record {
      from = r.from;
      to = r.to;
      start = end - length text;
      end = end - length (after_word text);
    }) ∷ []
    else []

-- A word begins at each byte of a text that isn't a separator and follows one, and ends before the next one.
abbrev pub words : Reach → ℕ → ℕ → Text → List Allowance
words r end before [] = []
words r end before (b ∷ rest) = word_here r end before (b ∷ rest) ++ words r end b rest

-- The first line after a comment at whose end the text begins that doesn't only have such a comment; from its start to
-- the end of the source.
abbrev pub covered : CommentSign → Text → Text
covered sign [] = []
covered sign (b ∷ rest) =
    if (b == line_feed) && not (is_mark_line sign rest) then rest else covered sign rest

-- A later line of a text, from its start to the end of the text.
abbrev pub IsLaterLine : Text → Text → Type 0
IsLaterLine text line = (front : Text) × (text ≡ front ++ line_feed ∷ line)

-- It has something else than such a comment, and all later lines before it have only one.
pub record IsFirstOther (sign : CommentSign) (text line : Text) : Type 0 where
  pub is : IsLaterLine text line
  pub other : is_mark_line sign line ≡ false
  pub first : (l : Text) → IsLaterLine text l → length line < length l → is_mark_line sign l ≡ true

-- What a comment alone in its line is about: the first later line with something else, and nothing if there is none.
abbrev pub IsCovered : CommentSign → Text → Text → Type 0
IsCovered sign text line =
    IsFirstOther sign text line
    ⊎ ((line ≡ []) × ((l : Text) → IsLaterLine text l → is_mark_line sign l ≡ true))

abbrev pub ReachesFirstOther : Type 0
ReachesFirstOther = (sign : CommentSign) → (text : Text) → IsCovered sign text (covered sign text)

-- where the line of a position begins
abbrev pub line_begin : Text → ℕ → ℕ
line_begin source at = line_start source (min at (length source))

-- Only white bytes precede a position in its line.
abbrev pub is_alone : Text → ℕ → Bool
is_alone source at = length (after_run is_white (between source (line_begin source at) at)) == 0

-- A comment alone in its line reaches the next line that has something else, any other one its own line up to itself.
abbrev pub reach_of : CommentSign → Text → ℕ → ℕ → Reach
reach_of sign source at end =
    if is_alone source at then
    record {
      from = length source - length (covered sign (drop end source));
      to = length source - length (after_run (class_test Line) (covered sign (drop end source)));
    }
    else record { from = line_begin source at; to = at }

-- what precedes the first word
abbrev pub blank : ℕ
blank = 32

abbrev pub in_words : Reach → ℕ → Option Text → List Allowance
in_words r end None = []
in_words r end (Some text) = words r end blank text

-- what the comment in the bytes `at..end` of a source allows
abbrev pub in_comment : CommentSign → Text → ℕ → ℕ → List Allowance
in_comment sign source at end =
    in_words (reach_of sign source at end) end (allowed_words sign (between source at end))
