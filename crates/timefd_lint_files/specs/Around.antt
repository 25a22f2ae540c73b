-- Paths of folders. Each name in them ends in a slash.
use Rattle.std.specs.Prelude.{ℕ, zero, suc, ◌≡◌, ◌+◌, ◌-◌, ◌≤◌, ◌==◌, ◌||◌, Bool, if◌then◌else◌, [], ◌∷◌, ◌++◌, length, codes, bytes_eq, string_bytes, ⊤}
use Rattle.std.specs.declared.io.ErrorKind.{ErrorKind}
use Rattle.timefd_lint_files.specs.declared.walk_error.WalkReason.TheVariants.{Unread, TooDeep}
use Rattle.timefd_lint_files.specs.declared.walk_error.WalkError.{WalkError}
use Rattle.timefd_lint_files.specs.declared.walk_error.WalkError.TheVariants.{Memory, Failed}
use Rattle.timefd_lint_files.specs.FileNames.{file_name}
use Rattle.timefd_lint_files.specs.Lines.{has_slash}
use Rattle.timefd_lint_files.specs.Matching.{Text, slash}
use Rattle.timefd_lint_files.specs.Starts.{is_absolute, path_of}

-- what comes before the last slash; nothing if there is none
abbrev pub before_slash : Text → Text
before_slash [] = []
before_slash (byte ∷ bytes) = if has_slash bytes then byte ∷ before_slash bytes else []

-- the folder of a path's last name; nothing, the working directory, if there is no slash
abbrev pub folder_of : Text → Text
folder_of path = if has_slash path then before_slash path ++ slash ∷ [] else []

-- Whether a path, without its slash at the end, is that of the working directory or of the root, or ends in `..`.
abbrev pub is_upward : Text → Bool
is_upward path = (length path == 0) || bytes_eq (file_name path) (codes "..")

-- the folder around a folder
abbrev pub around : Text → Text
around folder =
    if is_upward (before_slash folder) then folder ++ codes "../" else folder_of (before_slash folder)

-- the folder this many folders above one
abbrev pub up : ℕ → Text → Text
up zero folder = folder
up (suc steps) folder = up steps (around folder)

-- The file of this name in a folder, or in one of `above` folders around it, can't be read.
abbrev pub IsUnreadUpwards : (Text → ErrorKind → Type 0) → Text → ℕ → Text → WalkError → Type 0
IsUnreadUpwards fails name above folder Memory = ⊤
IsUnreadUpwards fails name above folder (Failed path (Unread kind)) = fails (string_bytes path) kind
    × ((steps : ℕ) × (steps ≤ above) × (string_bytes path ≡ up steps folder ++ name))
IsUnreadUpwards fails name above folder (Failed path TooDeep) = ⊥

abbrev pub one_if_slash : ℕ → ℕ
one_if_slash byte = if byte == slash then 1 else 0

abbrev pub slash_count : Text → ℕ
slash_count [] = 0
slash_count (byte ∷ bytes) = one_if_slash byte + slash_count bytes

-- How many folders are around a folder of this path, if the working directory has the path `here`, with a slash after
-- each name.
abbrev pub folders_around : Text → Text → ℕ
folders_around here folder =
    if is_absolute folder then slash_count folder - 1 else slash_count (path_of here folder)
