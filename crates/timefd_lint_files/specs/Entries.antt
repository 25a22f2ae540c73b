-- What a walk does with the entries of a folder.
use Rattle.std.specs.Prelude.{Bool, true, false, not, ◌&&◌, ◌||◌, ◌==◌, if◌then◌else◌, List, [], ◌∷◌, nat_eq, string_bytes}
use denote.Ref.{Bor}
use Rattle.std.specs.Cmp.Lexicographic.{pointwise}
use Rattle.std.specs.List.{ends_with}
use Rattle.timefd_lint_files.specs.declared.entry.FolderEntry.{FolderEntry}
use Rattle.timefd_lint_files.specs.declared.entry.EntryKind.{EntryKind}
use Rattle.timefd_lint_files.specs.declared.entry.EntryKind.TheVariants as kinds
use Rattle.timefd_lint_files.specs.declared.entry.EntryRole.{EntryRole}
use Rattle.timefd_lint_files.specs.declared.entry.EntryRole.TheVariants as roles
use Rattle.timefd_lint_files.specs.Matching.{Text}

-- A name that begins with a dot is hidden.
abbrev pub is_hidden : Text → Bool
is_hidden [] = false
is_hidden (byte ∷ bytes) = byte == 46

-- The name of a source has one of these endings.
abbrev pub is_source : List (Bor Text) → Text → Bool
is_source [] name = false
is_source (ending ∷ endings) name = ends_with nat_eq name ending.now || is_source endings name

abbrev pub role_of : List (Bor Text) → EntryKind → Text → EntryRole
role_of endings kinds.Folder name = if is_hidden name then roles.None else roles.Folder
role_of endings kinds.File name =
    if not (is_hidden name) && is_source endings name then roles.Source else roles.None
role_of endings kinds.Other name = roles.None

abbrev pub role : List (Bor Text) → FolderEntry → EntryRole
role endings entry = role_of endings entry.kind (string_bytes entry.name)

abbrev pub is_file : EntryKind → Bool
is_file kinds.File = true
is_file kinds.Folder = false
is_file kinds.Other = false

abbrev pub is_folder : EntryKind → Bool
is_folder kinds.File = false
is_folder kinds.Folder = true
is_folder kinds.Other = false

abbrev pub is_other : EntryKind → Bool
is_other kinds.File = false
is_other kinds.Folder = false
is_other kinds.Other = true

abbrev pub is_kind : EntryKind → EntryKind → Bool
is_kind kinds.File own = is_file own
is_kind kinds.Folder own = is_folder own
is_kind kinds.Other own = is_other own

abbrev pub is_entry : EntryKind → Text → FolderEntry → Bool
is_entry kind name entry = is_kind kind entry.kind && pointwise nat_eq (string_bytes entry.name) name

-- whether one of the entries has this kind and this name
abbrev pub has_entry : EntryKind → Text → List FolderEntry → Bool
has_entry kind name [] = false
has_entry kind name (entry ∷ entries) = is_entry kind name entry || has_entry kind name entries
