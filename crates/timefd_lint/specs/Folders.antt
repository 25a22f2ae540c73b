-- Folders that can't be walked, in words.
use Rattle.std.specs.Prelude.{[], ◌++◌, codes}
use Rattle.std.specs.declared.io.ErrorKind.{ErrorKind}
use Rattle.std.specs.declared.io.ErrorKind.TheVariants.{NotFound, PermissionDenied}
use Rattle.timefd_parse.specs.Tree.{Text}
use Rattle.timefd_lint_drawing.specs.Shown.{safe}
use Rattle.timefd_lint_files.specs.declared.walk_error.WalkReason.{WalkReason}
use Rattle.timefd_lint_files.specs.declared.walk_error.WalkReason.TheVariants.{Unread, TooDeep}

abbrev pub cause : ErrorKind → Text
cause NotFound = codes ": no such file"
cause PermissionDenied = codes ": permission denied"
cause kind = []

-- Why the sources below a folder aren't known: this folder, or this file in it, can't be read or is too deep.
abbrev pub sentence : Text → WalkReason → Text
sentence path (Unread kind) = codes "`" ++ (safe path ++ (codes "` can't be read" ++ cause kind))
sentence path TooDeep = codes "`" ++ (safe path ++ codes "` is more than 255 folders deep")
