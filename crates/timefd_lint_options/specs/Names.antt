-- The words that name files.
use Rattle.std.specs.Prelude.{Bool, true, false, ◌||◌, ◌+◌, List, [], ◌∷◌, length, if◌then◌else◌}
use denote.Ref.{Bor}
use Rattle.timefd_parse.specs.Tree.{Text}
use Rattle.timefd_lint_options.specs.declared.names.NamedFiles.{NamedFiles}
use Rattle.timefd_lint_options.specs.Words.{is_input}

-- whether one of the names means the standard input
abbrev pub has_input : List (Bor Text) → Bool
has_input [] = false
has_input (name ∷ after) = if is_input name.now then true else has_input after

abbrev pub names_of : List (Bor Text) → NamedFiles
names_of words = record { count = length words; has_input = has_input words }

abbrev pub names_from : Text → List (Bor Text) → NamedFiles
names_from name after = record {
  count = length after + 1;
  has_input = is_input name || has_input after;
}
