-- Which sources are below a folder.
use Rattle.std.specs.Prelude.{ℕ, zero, suc, ◌≡◌, ◌-◌, ◌==◌, nat_eq, Bool, true, false, not, ◌&&◌, if◌then◌else◌, List, [], ◌∷◌, ◌++◌, map, length, take, codes, Option, Some, None, String, string_bytes}
use denote.Ref.{Bor}
use Rattle.std.specs.Cmp.Lexicographic.{pointwise}
use Rattle.std.specs.List.Sorted.{IsPermutation, IsSortedByKey}
use Rattle.std.specs.String.{string_cmp}
use Rattle.std.specs.declared.alloc.Global.{Global}
use Rattle.timefd_lint_files.specs.declared.entry.FolderEntry.{FolderEntry}
use Rattle.timefd_lint_files.specs.declared.entry.EntryKind.{EntryKind}
use Rattle.timefd_lint_files.specs.declared.entry.EntryKind.TheVariants as kinds
use Rattle.timefd_lint_files.specs.declared.entry.EntryRole.{EntryRole}
use Rattle.timefd_lint_files.specs.declared.entry.EntryRole.TheVariants as roles
use Rattle.timefd_lint_files.specs.declared.start.Excluded.{Excluded}
use Rattle.timefd_lint_files.specs.declared.ignore_file.IgnoreFile.{IgnoreFile}
use Rattle.timefd_lint_files.specs.Entries.{has_entry, role}
use Rattle.timefd_lint_files.specs.IgnoreFiles.{IsReadAs, IsReadFrom}
use Rattle.timefd_lint_files.specs.Lines.{last}
use Rattle.timefd_lint_files.specs.Matching.{Text, slash}
use Rattle.timefd_lint_files.specs.Rules.{is_ignored, is_passed_over}
use Rattle.timefd_lint_files.specs.Starts.{path_below, start_below}

abbrev pub texts : List (String Global) → List Text
texts names = map string_bytes names

abbrev pub text_any : Option (String Global) → Option Text
text_any None = None
text_any (Some name) = Some (string_bytes name)

-- The entries are those of the folder, sorted by name.
abbrev pub AreListed : (List FolderEntry → Type 0) → List FolderEntry → Type 0
AreListed lists entries = (listed : List FolderEntry) × lists listed × IsPermutation listed entries
    × IsSortedByKey (λ (entry : FolderEntry). entry.name) string_cmp entries

-- the file of this name, whose patterns apply in a folder
abbrev pub IsOwn : (Text → Text → Type 0) → Text → Text → IgnoreFile → Type 0
IsOwn holds folder name file =
    (text : Text) × holds (folder ++ name) text × IsReadAs (length folder) text file

abbrev pub HasOwnIf : Bool → (Text → Text → Type 0) → Text → Text → List IgnoreFile → List IgnoreFile → Type 0
HasOwnIf false holds folder name above all = all ≡ above
HasOwnIf true holds folder name above all =
    (own : IgnoreFile) × IsOwn holds folder name own × (all ≡ above ++ own ∷ [])

-- whether a folder has an entry of this kind and name
abbrev pub FolderHas : (Text → List FolderEntry → Type 0) → Text → EntryKind → Text → Bool → Type 0
FolderHas lists folder kind name has =
    (entries : List FolderEntry) × lists folder entries × (has ≡ has_entry kind name entries)

-- whether `.git/info/` has the file `exclude`, if there is such a folder
abbrev pub InfoHasExclude : Bool → (Text → List FolderEntry → Type 0) → Text → Bool → Type 0
InfoHasExclude false lists folder has = has ≡ false
InfoHasExclude true lists folder has =
    FolderHas lists (folder ++ codes ".git/info/") kinds.File (codes "exclude") has

-- whether that file exists, if there is a folder `.git/`
abbrev pub RepositoryHas : Bool → (Text → List FolderEntry → Type 0) → Text → Bool → Type 0
RepositoryHas false lists folder has = has ≡ false
RepositoryHas true lists folder has = (has_info : Bool)
    × FolderHas lists (folder ++ codes ".git/") kinds.Folder (codes "info") has_info
    × InfoHasExclude has_info lists folder has

-- whether a folder with these entries has the exclude file of a repository
abbrev pub HasExclude : (Text → List FolderEntry → Type 0) → Text → List FolderEntry → Bool → Type 0
HasExclude lists folder entries has =
    RepositoryHas (has_entry kinds.Folder (codes ".git") entries) lists folder has

-- In a folder the files above it apply, then its exclude file, then its `.gitignore` file. Later ones
-- overrule earlier ones.
abbrev pub HasOwn : (Text → List FolderEntry → Type 0) → (Text → Text → Type 0) → Text → List FolderEntry
    → List IgnoreFile → List IgnoreFile → Type 0
HasOwn lists holds folder entries above all = (has_exclude : Bool) × (between : List IgnoreFile)
    × HasExclude lists folder entries has_exclude
    × HasOwnIf has_exclude holds folder (codes ".git/info/exclude") above between
    × HasOwnIf (has_entry kinds.File (codes ".gitignore") entries) holds folder (codes ".gitignore") between all

-- what a walk does with an entry: it passes over it, takes its name, or goes into the folder of this name
pub data Found : Type 0 where
  passed : Found
  taken : Text → Found
  entered : Text → Found

-- What is excluded or ignored is passed over, with all that is below it.
abbrev pub found_as : List IgnoreFile → List IgnoreFile → Text → EntryRole → Found
found_as excluded ignores path roles.None = passed
found_as excluded ignores path roles.Source =
    if is_passed_over excluded ignores path false then passed else taken path
found_as excluded ignores path roles.Folder =
    if is_passed_over excluded ignores path true then passed else entered (path ++ slash ∷ [])

abbrev pub found : List (Bor Text) → List IgnoreFile → List IgnoreFile → Text → FolderEntry → Found
found endings excluded ignores folder entry =
    found_as excluded ignores (folder ++ string_bytes entry.name) (role endings entry)

-- One more name, or none, and the folder to go into.
abbrev pub IsLeft : Found → List Text → List Text → Option Text → Type 0
IsLeft passed before after below = (after ≡ before) × (below ≡ None)
IsLeft (taken path) before after below = (after ≡ before ++ path ∷ []) × (below ≡ None)
IsLeft (entered path) before after below = (after ≡ before) × (below ≡ Some path)

abbrev pub IsLookedAt : List (Bor Text) → List IgnoreFile → List IgnoreFile → Text → FolderEntry → List Text → List Text
    → Option Text → Type 0
IsLookedAt endings excluded ignores folder entry before after below =
    IsLeft (found endings excluded ignores folder entry) before after below

-- the names that an entry gives, if folders give these
abbrev pub AreOf : (Text → List Text → Type 0) → Found → List Text → Type 0
AreOf Below passed names = names ≡ []
AreOf Below (taken path) names = names ≡ path ∷ []
AreOf Below (entered path) names = Below path names

-- Each item of a list gives names, and these are all of them, in order.
abbrev pub AllGive : {X : Type 0} → (X → List Text → Type 0) → List X → List Text → Type 0
AllGive Gives [] names = names ≡ []
AllGive Gives (x ∷ xs) names = (own : List Text) × (more : List Text)
    × Gives x own × AllGive Gives xs more × (names ≡ own ++ more)

-- the names that an entry of a folder gives, under the files that apply in it
abbrev pub Gives : List (Bor Text) → List IgnoreFile → (List IgnoreFile → Text → List Text → Type 0) → List IgnoreFile
    → Text → FolderEntry → List Text → Type 0
Gives endings excluded Below ignores folder entry names =
    AreOf (Below ignores) (found endings excluded ignores folder entry) names

-- The names of the sources below a folder that have one of these endings, in the order of the entries' names,
-- if no more than `depth` folders are nested in one another. What is excluded is passed over.
unfoldable pub IsWalk : List (Bor Text) → List IgnoreFile → (Text → List FolderEntry → Type 0) → (Text → Text → Type 0) → ℕ
    → List IgnoreFile → Text → List Text → Type 0
IsWalk endings excluded lists holds zero above folder names = ⊥
IsWalk endings excluded lists holds (suc depth) above folder names = (entries : List FolderEntry)
    × (ignores : List IgnoreFile) × AreListed (lists folder) entries × HasOwn lists holds folder entries above ignores
    × AllGive (Gives endings excluded (IsWalk endings excluded lists holds depth) ignores folder) entries names

-- The single file has the patterns of this text.
abbrev pub IsAlone : Text → ℕ → Text → List IgnoreFile → Type 0
IsAlone front folder_len text files =
    (file : IgnoreFile) × IsReadFrom front folder_len text file × (files ≡ file ∷ [])

-- The single file of what is excluded below a folder of this name.
abbrev pub AreExcluded : Excluded → Text → List IgnoreFile → Type 0
AreExcluded excluded folder files = IsAlone (start_below excluded folder).front
    (length folder - length (start_below excluded folder).rest) excluded.patterns.now files

-- The names of the sources below a folder, except what is excluded, where up to 255 folders are nested in one
-- another.
unfoldable pub IsWalkBut : List (Bor Text) → Excluded → (Text → List FolderEntry → Type 0) → (Text → Text → Type 0) → Text
    → List Text → Type 0
IsWalkBut endings excluded lists holds folder names = (files : List IgnoreFile) × AreExcluded excluded folder files
    × IsWalk endings files lists holds 255 [] folder names

-- the name of the standard input
abbrev pub is_input : Text → Bool
is_input name = pointwise nat_eq name (codes "-")

-- the name of a folder, with a slash at its end
abbrev pub as_folder : Text → Text
as_folder name = if last name == slash then name else name ++ slash ∷ []

-- The bytes of a path before these, which are its last ones.
abbrev pub front_of : Text → Text → Text
front_of path rest = take (length path - length rest) path

-- Whether a folder ends here whose name is excluded: before a slash, unless the path begins with it.
abbrev pub is_out_here : List IgnoreFile → Text → ℕ → Bool
is_out_here excluded front byte =
    (byte == slash) && (not (length front == 0) && is_ignored excluded front true)

-- Whether a folder that ends in these last bytes of a path is excluded, or the file of this path.
abbrev pub is_out_from : List IgnoreFile → Text → Text → Bool
is_out_from excluded path [] = is_ignored excluded path false
is_out_from excluded path (byte ∷ rest) =
    if is_out_here excluded (front_of path (byte ∷ rest)) byte then true else is_out_from excluded path rest

-- Whether a file is excluded, or a folder that it is in.
abbrev pub is_out : List IgnoreFile → Text → Bool
is_out excluded path = is_out_from excluded path path

abbrev pub unless_out : Bool → Text → List Text
unless_out out name = if out then [] else name ∷ []

-- A file that is excluded gives no name. Any other gives its own.
abbrev pub IsKept : Excluded → Text → List Text → Type 0
IsKept excluded name names = (files : List IgnoreFile) × IsAlone [] 0 excluded.patterns.now files
    × (names ≡ unless_out (is_out files (path_below excluded name)) name)

abbrev pub AreOfName : (Text → List Text → Type 0) → (Text → List Text → Type 0) → Text → Bool → List Text
    → Type 0
AreOfName Below Kept name false names = Kept name names
AreOfName Below Kept name true names = Below (as_folder name) names

-- The name of the standard input stays as it is.
abbrev pub AreOfNameOr : (Text → List Text → Type 0) → (Text → List Text → Type 0) → (Text → Bool → Type 0)
    → Text → Bool → List Text → Type 0
AreOfNameOr Below Kept folders name true names = names ≡ name ∷ []
AreOfNameOr Below Kept folders name false names =
    (is_folder : Bool) × folders name is_folder × AreOfName Below Kept name is_folder names

-- the names that a name of the command line gives
abbrev pub IsExpanded : (Text → List Text → Type 0) → (Text → List Text → Type 0) → (Text → Bool → Type 0)
    → Bor Text → List Text → Type 0
IsExpanded Below Kept folders name names = AreOfNameOr Below Kept folders name.now (is_input name.now) names

-- the names that all names give
abbrev pub AreExpanded : (Text → List Text → Type 0) → (Text → List Text → Type 0) → (Text → Bool → Type 0)
    → List (Bor Text) → List Text → Type 0
AreExpanded Below Kept folders given names = AllGive (IsExpanded Below Kept folders) given names
