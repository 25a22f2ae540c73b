-- What is found upwards for names, and which of them have the same.
use Rattle.std.specs.Prelude.{◌≡◌, ◌≢◌, Bool, true, false, if◌then◌else◌, List, [], ◌∷◌, ◌++◌, codes, Option, Some, None, string_bytes, ⊤}
use denote.Ref.{Bor}
use Rattle.std.specs.declared.io.ErrorKind.{ErrorKind}
use Rattle.timefd_lint_files.specs.declared.groups.NameGroup.{NameGroup}
use Rattle.timefd_lint_files.specs.declared.upwards.Nearest.{Nearest}
use Rattle.timefd_lint_files.specs.declared.walk_error.WalkError.{WalkError}
use Rattle.timefd_lint_files.specs.declared.walk_error.WalkError.TheVariants.{Memory, Failed}
use Rattle.timefd_lint_files.specs.Around.{IsUnreadUpwards, folder_of, folders_around}
use Rattle.timefd_lint_files.specs.Errors.{OneOf}
use Rattle.timefd_lint_files.specs.Matching.{Text}
use Rattle.timefd_lint_files.specs.Starts.{without_here}
use Rattle.timefd_lint_files.specs.Upwards.{IsNearest, Near}
use Rattle.timefd_lint_files.specs.Walks.{as_folder, is_input}

-- the folder of a file, and its text
pub record Site : Type 0 where
  pub folder : Text
  pub text : Text

abbrev pub site_of : Near → Site
site_of near = record { folder = near.folder; text = near.text }

abbrev pub site_if : Option Near → Option Site
site_if None = None
site_if (Some near) = Some (site_of near)

abbrev pub site : Nearest → Site
site found = record { folder = string_bytes found.folder; text = found.text.items }

abbrev pub site_any : Option Nearest → Option Site
site_any None = None
site_any (Some found) = Some (site found)

-- A folder's own path; the path of the folder of anything else.
abbrev pub folder_by : Bool → Text → Text
folder_by true name = without_here (as_folder name)
folder_by false name = without_here (folder_of name)

-- The working directory, if no name in the folder can be looked up.
abbrev pub if_open : Bool → Text → Text
if_open is_open folder = if is_open then folder else []

abbrev pub IsOpenOr : (Text → Bool → Type 0) → Text → Text → Type 0
IsOpenOr folders folder start =
    (is_open : Bool) × folders (folder ++ codes ".") is_open × (start ≡ if_open is_open folder)

-- The search for the standard input begins in the working directory.
abbrev pub IsStartOr : (Text → Bool → Type 0) → Text → Text → Bool → Type 0
IsStartOr folders name start true = start ≡ []
IsStartOr folders name start false = (is_folder : Bool) × folders name is_folder
    × IsOpenOr folders (folder_by is_folder name) start

-- the folder in which the search for a name begins
abbrev pub IsStart : (Text → Bool → Type 0) → Text → Text → Type 0
IsStart folders name start = IsStartOr folders name start (is_input name)

-- Where the nearest file of this name is, and its text, from the folder of a name upwards, if the working directory has
-- the path `here`. `None` if there is none.
abbrev pub IsFoundFor : (Text → Text → Type 0) → (Text → ErrorKind → Type 0) → (Text → Bool → Type 0) → Text → Text
    → Text → Option Site → Type 0
IsFoundFor holds fails folders file here name answer = (start : Text) × (near : Option Near)
    × IsStart folders name start
    × IsNearest holds fails folders file (folders_around here start) start near
    × (answer ≡ site_if near)

-- The file can't be read in the folder of a name, or in one around it.
abbrev pub IsUnreadFor : (Text → ErrorKind → Type 0) → (Text → Bool → Type 0) → Text → Text → Text → WalkError → Type 0
IsUnreadFor fails folders file here name Memory = ⊤
IsUnreadFor fails folders file here name (Failed path reason) = (start : Text) × IsStart folders name start
    × IsUnreadUpwards fails file (folders_around here start) start (Failed path reason)

-- The file can't be read for one of these names.
abbrev pub IsUnreadForOne : (Text → ErrorKind → Type 0) → (Text → Bool → Type 0) → Text → Text → List (Bor Text)
    → WalkError → Type 0
IsUnreadForOne fails folders file here names error =
    OneOf (λ name. IsUnreadFor fails folders file here name.now error) names

-- The file can't be read for one of these names, or without names for the standard input.
abbrev pub IsUnreadForAny : (Text → ErrorKind → Type 0) → (Text → Bool → Type 0) → Text → Text → List (Bor Text)
    → WalkError → Type 0
IsUnreadForAny fails folders file here [] error = IsUnreadFor fails folders file here (codes "-") error
IsUnreadForAny fails folders file here (name ∷ names) error =
    IsUnreadForOne fails folders file here (name ∷ names) error

-- Each of these names has this answer.
abbrev pub AllHave : (Text → Option Site → Type 0) → Option Site → List (Bor Text) → Type 0
AllHave Found answer [] = ⊤
AllHave Found answer (name ∷ names) = Found name.now answer × AllHave Found answer names

-- The names in front of the rest have this answer.
pub record HaveSame (Found : Text → Option Site → Type 0) (answer : Option Site) (names rest : List (Bor Text)) : Type 0 where
  pub front : List (Bor Text)
  pub whole : names ≡ front ++ rest
  pub each : AllHave Found answer front

-- The groups have these names, one after another, and each has what is found for all of its names.
abbrev pub AreGroupsOf : (Text → Option Site → Type 0) → List (Bor Text) → List NameGroup → Type 0
AreGroupsOf Found names [] = names ≡ []
AreGroupsOf Found names (group ∷ groups) = (others : List (Bor Text)) × (names ≡ group.names.now ++ others)
    × (group.names.now ≢ []) × AllHave Found (site_any group.found) group.names.now
    × AreGroupsOf Found others groups

-- Without names: one group, with what is found for the standard input.
abbrev pub AreGroups : (Text → Option Site → Type 0) → List (Bor Text) → List NameGroup → Type 0
AreGroups Found [] groups = (group : NameGroup) × (groups ≡ group ∷ []) × (group.names.now ≡ [])
    × Found (codes "-") (site_any group.found)
AreGroups Found (name ∷ names) groups = AreGroupsOf Found (name ∷ names) groups
