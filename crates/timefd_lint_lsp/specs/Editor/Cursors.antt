-- The text of a description before a cursor.
use Rattle.std.specs.Prelude.{ℕ, ◌+◌, ◌==◌, nat_lt, List, [], ◌∷◌, Option, Some, None, if◌then◌else◌}
use Rattle.std.specs.List.{prefix_len}
use Rattle.timefd_parse.specs.Tree.{Text}
use Rattle.timefd_language.specs.Bytes.{is_key_byte}
use Rattle.timefd_lint_scan.specs.declared.description.SourceDescription.{SourceDescription}
use Rattle.timefd_lint_scan.specs.Found.{index_in_source}

-- how many bytes of a description come from positions that precede an index of its document
abbrev pub count_before : SourceDescription → ℕ → ℕ
count_before d index = prefix_len (λ p. nat_lt p index) d.unescaped.positions.items

-- How many bytes of a description precede a cursor: those that come from what precedes it. The next byte has to come
-- from where the cursor is, or the text has to end there. Otherwise the cursor is within an escape, or outside of
-- the text.
abbrev pub bytes_before : SourceDescription → ℕ → Option ℕ
bytes_before d index =
    if index_in_source d (count_before d index) == index then Some (count_before d index) else None

abbrev pub start_from : ℕ → ℕ → Text → ℕ
start_from start next [] = start
start_from start next (b ∷ bytes) =
    start_from (if is_key_byte b then start else next + 1) (next + 1) bytes

-- where the word begins that a text ends with: after the last byte that isn't one of a word
abbrev pub word_start : Text → ℕ
word_start bytes = start_from 0 0 bytes
