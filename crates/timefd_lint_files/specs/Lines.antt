-- What a line of a `.gitignore` file says.
use Rattle.std.specs.Prelude.{ℕ, ◌+◌, ◌-◌, Bool, true, false, not, ◌&&◌, ◌||◌, ◌==◌, if◌then◌else◌, [], ◌∷◌, length, take, slice_index, Option, Some, None}
use Rattle.timefd_lint_files.specs.declared.line.PatternLine.{PatternLine}
use Rattle.timefd_lint_files.specs.Matching.{Text, slash}

-- space, `!`, `#`, `\`
abbrev pub space : ℕ
space = 32

abbrev pub exclamation : ℕ
exclamation = 33

abbrev pub hash : ℕ
hash = 35

abbrev pub backslash : ℕ
backslash = 92

-- a line, without its address in memory
pub record Said : Type 0 where
  pub is_negated : Bool
  pub is_for_folders : Bool
  pub is_anchored : Bool
  pub text : Text

abbrev pub seen : PatternLine → Said
seen line = record {
  is_negated = line.is_negated;
  is_for_folders = line.is_for_folders;
  is_anchored = line.is_anchored;
  text = line.text.now;
}

abbrev pub seen_any : Option PatternLine → Option Said
seen_any None = None
seen_any (Some line) = Some (seen line)

-- A backslash quotes the next byte.
abbrev pub quotes : Bool → ℕ → Bool
quotes is_quoted byte = not is_quoted && (byte == backslash)

abbrev pub is_spare : Bool → ℕ → Bool
is_spare is_quoted byte = not is_quoted && (byte == space)

-- one more byte before those that are kept
abbrev pub one_kept : Bool → ℕ → ℕ
one_kept is_spare n = if (n == 0) && is_spare then 0 else n + 1

-- Trailing spaces are ignored unless they are quoted with a backslash: how many bytes are kept.
abbrev pub kept_count : Bool → Text → ℕ
kept_count is_quoted [] = 0
kept_count is_quoted (byte ∷ bytes) =
    one_kept (is_spare is_quoted byte) (kept_count (quotes is_quoted byte) bytes)

abbrev pub trimmed : Text → Text
trimmed line = take (kept_count false line) line

-- the last byte; 0 if there is none
abbrev pub last : Text → ℕ
last text = slice_index text (length text - 1)

-- without this byte at the end
abbrev pub without_last : ℕ → Text → Text
without_last byte text = if last text == byte then take (length text - 1) text else text

abbrev pub has_slash : Text → Bool
has_slash [] = false
has_slash (byte ∷ bytes) = (byte == slash) || has_slash bytes

abbrev pub without_first_slash : Text → Text
without_first_slash [] = []
without_first_slash (byte ∷ bytes) = if byte == slash then bytes else byte ∷ bytes

-- A slash at the beginning or in the middle makes the pattern relative to the folder of its file.
abbrev pub anchored : Bool → Bool → Text → Said
anchored is_negated is_for_folders line = record {
  is_negated = is_negated;
  is_for_folders = is_for_folders;
  is_anchored = has_slash line;
  text = without_first_slash line;
}

-- With a slash at the end the pattern matches folders alone.
abbrev pub unnegated : Bool → Text → Said
unnegated is_negated line = anchored is_negated (last line == slash) (without_last slash line)

-- A line that begins with `#` is a comment. A leading `!` negates the pattern.
abbrev pub said : Text → Option Said
said [] = None
said (byte ∷ bytes) =
    if byte == hash then None
    else if byte == exclamation then Some (unnegated true bytes)
    else Some (unnegated false (byte ∷ bytes))

abbrev pub line_of : Text → Option Said
line_of line = said (trimmed (without_last 13 line))
