-- The last name of a path, and patterns that match it in any folder.
use Rattle.std.specs.Prelude.{Bool, true, false, not, ◌&&◌, ◌==◌, if◌then◌else◌, List, [], ◌∷◌}
use Rattle.timefd_lint_files.specs.declared.token.PatternToken.{PatternToken}
use Rattle.timefd_lint_files.specs.declared.token.PatternToken.TheVariants.{Byte, Any, OneOf, Star, Folders, Rest, Nothing}
use Rattle.timefd_lint_files.specs.Lines.{has_slash}
use Rattle.timefd_lint_files.specs.Matching.{Text, slash}

-- what follows the last slash; the whole path if there is none
abbrev pub file_name : Text → Text
file_name [] = []
file_name (byte ∷ bytes) =
    if has_slash bytes then file_name bytes else if byte == slash then bytes else byte ∷ bytes

-- whether the token matches no slash
abbrev pub is_within_name : PatternToken → Bool
is_within_name (Byte own) = not (own == slash)
is_within_name Any = true
is_within_name (OneOf class) = true
is_within_name Star = true
is_within_name Folders = false
is_within_name Rest = false
is_within_name Nothing = true

abbrev pub are_within_name : List PatternToken → Bool
are_within_name [] = true
are_within_name (token ∷ tokens) = is_within_name token && are_within_name tokens

abbrev pub is_folders : PatternToken → Bool
is_folders (Byte own) = false
is_folders Any = false
is_folders (OneOf class) = false
is_folders Star = false
is_folders Folders = true
is_folders Rest = false
is_folders Nothing = false

-- Any folders, and then what matches no slash.
abbrev pub are_of_name : List PatternToken → Bool
are_of_name [] = false
are_of_name (first ∷ after) = is_folders first && are_within_name after
