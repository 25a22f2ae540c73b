-- The patterns of a `.gitignore` file.
use Rattle.std.specs.Prelude.{◌≡◌, Bool, true, false, not, ◌&&◌, List, ◌∷◌, Option, Some, None, IsTrue, ⊤}
use Rattle.timefd_lint_files.specs.declared.token.PatternToken.{PatternToken}
use Rattle.timefd_lint_files.specs.declared.token.PatternToken.TheVariants.{Folders}
use Rattle.timefd_lint_files.specs.declared.line.PatternLine.{PatternLine}
use Rattle.timefd_lint_files.specs.declared.pattern.Pattern.{Pattern}
use Rattle.timefd_lint_files.specs.Lines.{Said, line_of}
use Rattle.timefd_lint_files.specs.Matching.{Text, Matches, matches}
use Rattle.timefd_lint_files.specs.Tokens.{AreTokens}

-- A pattern that isn't anchored matches below any folder: its tokens are `**/` and then those of its text.
abbrev pub AreTokensOf : Bool → Text → List PatternToken → Type 0
AreTokensOf true text tokens = AreTokens true text tokens
AreTokensOf false text tokens =
    (more : List PatternToken) × (tokens ≡ Folders ∷ more) × AreTokens true text more

abbrev pub HasTokens : PatternLine → List PatternToken → Type 0
HasTokens line tokens = AreTokensOf line.is_anchored line.text.now tokens

-- The pattern says what the line says.
abbrev pub IsReadFrom : Option Said → Option Pattern → Type 0
IsReadFrom None None = ⊤
IsReadFrom None (Some pattern) = ⊥
IsReadFrom (Some said) None = ⊥
IsReadFrom (Some said) (Some pattern) =
    (pattern.is_negated ≡ said.is_negated) × (pattern.is_for_folders ≡ said.is_for_folders)
    × AreTokensOf said.is_anchored said.text pattern.tokens.items

abbrev pub IsRead : Text → Option Pattern → Type 0
IsRead line found = IsReadFrom (line_of line) found

-- A pattern for folders alone matches no file.
abbrev pub Applies : Pattern → Text → Bool → Type 0
Applies pattern path is_folder =
    (IsTrue pattern.is_for_folders → IsTrue is_folder) × Matches pattern.tokens.items path

-- `Applies` as a test
abbrev pub applies : Pattern → Text → Bool → Bool
applies pattern path is_folder =
    not (pattern.is_for_folders && not is_folder) && matches pattern.tokens.items path
