-- The comments in a file of TOML, JSON or YAML.
use Rattle.std.specs.Prelude.{ℕ, ◌-◌, Bool, true, not, ◌&&◌, ◌||◌, ◌==◌, if◌then◌else◌, List, [], ◌∷◌, ◌++◌, is_some, length, Option, Some, None, take}
use Rattle.timefd_lint_scan.specs.After.{after_run}
use Rattle.timefd_lint_scan.specs.Bytes.{Text, apostrophe, backslash, class_test, is_blank, is_word, line_feed, quote}
use Rattle.timefd_lint_scan.specs.declared.class.ByteSet.TheVariants.{Line}
use Rattle.timefd_lint_scan.specs.declared.keys.format.FileFormat.{FileFormat}
use Rattle.timefd_lint_scan.specs.declared.keys.format.FileFormat.TheVariants.{Toml, Json, Yaml}
use Rattle.timefd_lint_sources.specs.declared.allowances.comment.Allowance.{Allowance}
use Rattle.timefd_lint_sources.specs.declared.allowances.keyed.ByteState.{ByteState}
use Rattle.timefd_lint_sources.specs.declared.allowances.comment.CommentSign.{CommentSign}
use Rattle.timefd_lint_sources.specs.declared.allowances.comment.CommentSign.TheVariants.{Slashes, Hash}
use Rattle.timefd_lint_sources.specs.Allowances.Comments.{after_sign, in_comment}

abbrev pub sign_of : FileFormat → CommentSign
sign_of Toml = Hash
sign_of Json = Slashes
sign_of Yaml = Hash

-- A comment of YAML has white space in front of it; 0 is the start of a line.
abbrev pub may_follow : FileFormat → ℕ → Bool
may_follow Toml before = true
may_follow Json before = true
may_follow Yaml before = (before == 0) || is_blank before

-- A comment begins here, after this byte.
abbrev pub begins_comment : FileFormat → ℕ → Text → Bool
begins_comment format before text = may_follow format before && is_some (after_sign (sign_of format) text)

abbrev pub is_quote : ℕ → Bool
is_quote b = (b == quote) || (b == apostrophe)

-- A quote opens a string unless it is in a word, as in `it's`.
abbrev pub opens : ℕ → ℕ → Bool
opens before b = is_quote b && not (is_word before)

-- The byte before the next one in a string: 0 for one that is escaped. Only strings in double quotes have escapes.
abbrev pub is_escaped : ℕ → ℕ → Bool
is_escaped before opened = (before == backslash) && (opened == quote)

abbrev pub at_start : ByteState
at_start = record { before = 0; opened = 0 }

-- What is known after a byte outside of strings that begins no comment, after one inside of a string, and after either.
abbrev pub state_outside : ℕ → ℕ → ByteState
state_outside before b =
    if opens before b then record { before = 0; opened = b } else record { before = b; opened = 0 }

abbrev pub state_inside : ℕ → ℕ → ℕ → ByteState
state_inside before opened b =
    if is_escaped before opened then record { before = 0; opened = opened }
    else if b == opened then record { before = b; opened = 0 }
    else record { before = b; opened = opened }

abbrev pub state_after : ByteState → ℕ → ByteState
state_after state b =
    if state.opened == 0 then state_outside state.before b else state_inside state.before state.opened b

-- The comment in a line that this is the rest of: the first one that isn't in a string.
abbrev pub comment_in : FileFormat → ByteState → Text → Option Text
comment_in format state [] = None
comment_in format state (b ∷ rest) =
    if (state.opened == 0) && begins_comment format state.before (b ∷ rest) then Some (b ∷ rest)
    else comment_in format (state_after state b) rest

-- the line that a text begins with
abbrev pub line_of : Text → Text
line_of text = take (length text - length (after_run (class_test Line) text)) text

-- what the comment allows that a line ends with; the line ends at an index of the source
abbrev pub by_comment : FileFormat → Text → ℕ → Option Text → List Allowance
by_comment format source end None = []
by_comment format source end (Some comment) =
    in_comment (sign_of format) source (end - length comment) end

-- what the line allows that the rest of a source begins with
abbrev pub in_line : FileFormat → Text → Text → List Allowance
in_line format source rest =
    by_comment format source (length source - length (after_run (class_test Line) rest))
    (comment_in format at_start (line_of rest))

abbrev pub if_line : FileFormat → Text → ℕ → Text → List Allowance
if_line format source before rest = if before == line_feed then in_line format source rest else []

-- what each line allows of the rest of a source, which follows this byte
abbrev pub in_lines : FileFormat → Text → ℕ → Text → List Allowance
in_lines format source before [] = []
in_lines format source before (b ∷ rest) =
    if_line format source before (b ∷ rest) ++ in_lines format source b rest
