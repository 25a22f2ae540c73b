-- A file that is sought from a folder upwards.
use Rattle.std.specs.Prelude.{ℕ, zero, suc, ◌≡◌, ◌⊎◌, ◌+◌, ◌-◌, ◌==◌, Bool, true, false, if◌then◌else◌, [], ◌∷◌, ◌++◌, length, codes, Option, Some, None, Vec, string_bytes}
use Rattle.std.specs.declared.alloc.Global.{Global}
use Rattle.std.specs.declared.io.ErrorKind.{ErrorKind}
use Rattle.std.specs.declared.io.ErrorKind.TheVariants.{NotFound}
use Rattle.timefd_lint_files.specs.declared.upwards.Nearest.{Nearest}
use Rattle.timefd_lint_files.specs.Around.{around, slash_count}
use Rattle.timefd_lint_files.specs.Matching.{Text, slash}

abbrev pub is_absent : ErrorKind → Bool
is_absent NotFound = true
is_absent kind = false

-- the name of a folder, how many folders are around it, and the text of the file in it
pub record Near : Type 0 where
  pub folder : Text
  pub above : ℕ
  pub text : Text

abbrev pub seen : Nearest → Near
seen found = record { folder = string_bytes found.folder; above = found.above; text = found.text.items }

abbrev pub seen_any : Option Nearest → Option Near
seen_any None = None
seen_any (Some found) = Some (seen found)

abbrev pub items_any : Option (Vec ℕ Global) → Option Text
items_any None = None
items_any (Some text) = Some text.items

-- Reading a file fails because it is absent.
abbrev pub IsAbsent : (Text → ErrorKind → Type 0) → Text → Type 0
IsAbsent fails path = (kind : ErrorKind) × fails path kind × (is_absent kind ≡ true)

-- the text of a file, unless it is absent
abbrev pub IsTextOr : (Text → Text → Type 0) → (Text → ErrorKind → Type 0) → Text → Option Text → Type 0
IsTextOr holds fails path None = IsAbsent fails path
IsTextOr holds fails path (Some text) = holds path text

-- It is read, or fails for another reason.
abbrev pub IsThere : (Text → Text → Type 0) → (Text → ErrorKind → Type 0) → Text → Type 0
IsThere holds fails path = ((text : Text) × holds path text)
    ⊎ ((kind : ErrorKind) × fails path kind × (is_absent kind ≡ false))

abbrev pub IsThereOr : (Text → Text → Type 0) → (Text → ErrorKind → Type 0) → Text → Bool → Type 0
IsThereOr holds fails path false = IsAbsent fails path
IsThereOr holds fails path true = IsThere holds fails path

abbrev pub IfClosed : Type 0 → Option Near → Bool → Type 0
IfClosed Above answer false = answer ≡ None
IfClosed Above answer true = Above

-- in the folder around, unless no name in it can be looked up
abbrev pub IsAround : (Text → Bool → Type 0) → (Text → Option Near → Type 0) → Text → Option Near → Type 0
IsAround folders Above outer answer = (answers : Bool) × folders (outer ++ codes ".") answers
    × IfClosed (Above outer answer) answer answers

abbrev pub Unless : Type 0 → Option Near → Bool → Type 0
Unless Around answer true = answer ≡ None
Unless Around answer false = Around

-- above a folder that has no such file: nowhere if the folder has `.git`
abbrev pub IsBeyond : (Text → Text → Type 0) → (Text → ErrorKind → Type 0) → (Text → Bool → Type 0)
    → (Text → Option Near → Type 0) → Text → Option Near → Type 0
IsBeyond holds fails folders Above folder answer = (has : Bool) × IsThereOr holds fails (folder ++ codes ".git") has
    × Unless (IsAround folders Above (around folder) answer) answer has

abbrev pub IfAbsent : Type 0 → ℕ → Text → Option Near → Option Text → Type 0
IfAbsent Beyond above folder answer None = Beyond
IfAbsent Beyond above folder answer (Some text) =
    answer ≡ Some (record { folder = folder; above = above; text = text })

-- in the folder itself, if it has such a file
abbrev pub IsHereOr : (Text → Text → Type 0) → (Text → ErrorKind → Type 0) → Text → Type 0 → ℕ → Text → Option Near
    → Type 0
IsHereOr holds fails name Beyond above folder answer = (text : Option Text)
    × IsTextOr holds fails (folder ++ name) text × IfAbsent Beyond above folder answer text

-- The file of this name in a folder, or else in the nearest of the `above` folders around it that has one.
unfoldable pub IsNearest : (Text → Text → Type 0) → (Text → ErrorKind → Type 0) → (Text → Bool → Type 0) → Text → ℕ
    → Text → Option Near → Type 0
IsNearest holds fails folders name zero folder answer =
    IsHereOr holds fails name (answer ≡ None) zero folder answer
IsNearest holds fails folders name (suc above) folder answer =
    IsHereOr holds fails name (IsBeyond holds fails folders (IsNearest holds fails folders name above) folder answer)
    (suc above) folder answer

-- how many slashes are still to come after a byte
abbrev pub left_after : ℕ → ℕ → ℕ
left_after count byte = if byte == slash then count - 1 else count

-- what follows this many slashes
abbrev pub after_slashes : ℕ → Text → Text
after_slashes count [] = []
after_slashes count (byte ∷ bytes) =
    if count == 0 then byte ∷ bytes
    else after_slashes (left_after count byte) bytes

abbrev pub with_slash : Text → Text
with_slash text = if length text == 0 then text else text ++ slash ∷ []

-- The path of a folder from one that has `above` folders around it, by its path from the system's root.
abbrev pub front_below : Text → ℕ → Text
front_below here above = with_slash (after_slashes above here)

-- how many folders are around a folder, by its path from the system's root
abbrev pub folders_above : Text → ℕ
folders_above here = if length here == 0 then 0 else slash_count here + 1
