-- What `.gitignore` files say about a path: the last matching pattern decides, in the deepest file that has
-- one.
use Rattle.std.specs.Prelude.{Bool, true, false, ◌||◌, if◌then◌else◌, List, [], ◌∷◌, ◌++◌, drop, Option, Some, None}
use Rattle.timefd_lint_files.specs.declared.pattern.Pattern.{Pattern}
use Rattle.timefd_lint_files.specs.declared.ignore_file.IgnoreFile.{IgnoreFile}
use Rattle.timefd_lint_files.specs.declared.rules.PatternVerdict.{PatternVerdict}
use Rattle.timefd_lint_files.specs.declared.rules.PatternVerdict.TheVariants.{Ignored, Kept}
use Rattle.timefd_lint_files.specs.Matching.{Text}
use Rattle.timefd_lint_files.specs.Patterns.{applies}

-- A negated pattern keeps the paths that it matches.
abbrev pub verdict : Pattern → PatternVerdict
verdict pattern = if pattern.is_negated then Kept else Ignored

abbrev pub verdict_by : Pattern → Text → Bool → Option PatternVerdict
verdict_by pattern path is_folder = if applies pattern path is_folder then Some (verdict pattern) else None

-- the later one decides, if it says anything
abbrev pub later : Option PatternVerdict → Option PatternVerdict → Option PatternVerdict
later earlier None = earlier
later earlier (Some own) = Some own

-- The last matching pattern decides.
abbrev pub last_verdict : List Pattern → Text → Bool → Option PatternVerdict
last_verdict [] path is_folder = None
last_verdict (pattern ∷ patterns) path is_folder =
    later (verdict_by pattern path is_folder) (last_verdict patterns path is_folder)

-- A file's patterns match paths relative to its folder, which may be around those that the path names.
abbrev pub verdict_in : IgnoreFile → Text → Bool → Option PatternVerdict
verdict_in file path is_folder =
    last_verdict file.patterns.items (file.front.items ++ drop file.folder_len path) is_folder

-- The deepest file with a matching pattern decides. The deepest is the last.
abbrev pub deepest_verdict : List IgnoreFile → Text → Bool → Option PatternVerdict
deepest_verdict [] path is_folder = None
deepest_verdict (file ∷ files) path is_folder =
    later (verdict_in file path is_folder) (deepest_verdict files path is_folder)

abbrev pub ignores : Option PatternVerdict → Bool
ignores None = false
ignores (Some Ignored) = true
ignores (Some Kept) = false

abbrev pub is_ignored : List IgnoreFile → Text → Bool → Bool
is_ignored files path is_folder = ignores (deepest_verdict files path is_folder)

-- A walk passes over what is excluded, whatever these files say, and over what they ignore.
abbrev pub is_passed_over : List IgnoreFile → List IgnoreFile → Text → Bool → Bool
is_passed_over excluded ignores path is_folder = is_ignored excluded path is_folder || is_ignored ignores path is_folder
