-- What of the settings counts in a run.
use Rattle.std.specs.Prelude.{Bool, not, ◌&&◌, ◌||◌, ◌==◌, List, [], ◌∷◌, Option, Some, None, codes, length, if◌then◌else◌}
use Rattle.timefd_parse.specs.Tree.{Text}
use Rattle.timefd_lint_scan.specs.declared.keys.key.DescriptionKey.{DescriptionKey}
use Rattle.timefd_lint_options.specs.declared.config.keys.OwnedKey.{OwnedKey}
use Rattle.timefd_lint_options.specs.declared.settings.RunSettings.{RunSettings}
use Rattle.timefd_lint_options.specs.Settings.{reads_lines}
use Rattle.timefd_lang_warnings.specs.declared.levels.Levels.{Levels}
use Rattle.timefd_lint.specs.declared.rewriting.Rewriting.{Rewriting}

-- The keys of the file of settings count, unless files are mended or rewritten.
abbrev pub counted_keys : Option Rewriting → List OwnedKey → List OwnedKey
counted_keys None keys = keys
counted_keys (Some rewriting) keys = []

-- So do its levels.
abbrev pub counted_levels : Option Rewriting → Option Levels → Option Levels
counted_levels None levels = levels
counted_levels (Some rewriting) levels = None

-- The names of files and folders; without any the working directory, if lines would be read from a terminal and no
-- option is about these.
abbrev pub named_or_here : RunSettings → Bool → List Text → List Text
named_or_here s is_terminal names =
    if (length names == 0) && (is_terminal && not (reads_lines s)) then codes "." ∷ [] else names

abbrev pub rust_endings : List Text
rust_endings = codes ".rs" ∷ []

abbrev pub key_endings : List Text
key_endings = codes ".rs" ∷ codes ".toml" ∷ codes ".json" ∷ codes ".yaml" ∷ codes ".yml" ∷ []

-- How the names of the files below a folder end: those with keys are checked where there are keys, unless all
-- files are sources.
abbrev pub endings : RunSettings → List DescriptionKey → List Text
endings s keys = if (length keys == 0) || s.is_source then rust_endings else key_endings
