-- Why a walk over folders ends early.
use Rattle.std.specs.Prelude.{ℕ, ◌≡◌, ◌≤◌, ◌⊎◌, ◌∷◌, [], ◌++◌, ⊤, List, nat_eq, string_bytes}
use denote.Ref.{Bor}
use Rattle.std.specs.List.{Contains, count_by}
use Rattle.std.specs.declared.io.ErrorKind.{ErrorKind}
use Rattle.timefd_lint_files.specs.declared.system.FileError.{FileError}
use Rattle.timefd_lint_files.specs.declared.system.FileError.TheVariants as unread
use Rattle.timefd_lint_files.specs.declared.walk_error.WalkReason.{WalkReason}
use Rattle.timefd_lint_files.specs.declared.walk_error.WalkReason.TheVariants.{Unread, TooDeep}
use Rattle.timefd_lint_files.specs.declared.walk_error.WalkError.{WalkError}
use Rattle.timefd_lint_files.specs.declared.walk_error.WalkError.TheVariants.{Memory, Failed}
use Rattle.timefd_lint_files.specs.Matching.{Text, slash}
use Rattle.timefd_lint_files.specs.Walks.{as_folder}

-- The system reports this reason, or memory ran out.
abbrev pub IsReadError : (ErrorKind → Type 0) → FileError → Type 0
IsReadError fails unread.Memory = ⊤
IsReadError fails (unread.Failed kind) = fails kind

-- how many slashes a path has
abbrev pub slashes : Text → ℕ
slashes path = count_by (nat_eq slash) path

-- A path begins with the name of a folder, and at least `depth` slashes follow it: that many folders are
-- between the two.
abbrev pub IsBelow : Text → ℕ → Text → Type 0
IsBelow folder depth path = (rest : Text) × (path ≡ folder ++ rest) × (depth ≤ slashes rest)

-- The path is below one of these names.
abbrev pub IsBelowAny : List (Bor Text) → ℕ → Text → Type 0
IsBelowAny names depth path =
    (name : Bor Text) × Contains names name × IsBelow (as_folder name.now) depth path

-- A folder or a file below can't be read, or at least `depth` folders are around it.
abbrev pub IsReason : (Text → ErrorKind → Type 0) → (ℕ → Text → Type 0) → ℕ → Text → WalkReason → Type 0
IsReason fails Below depth path (Unread kind) = fails path kind × Below 0 path
IsReason fails Below depth path TooDeep = Below depth path

abbrev pub IsWalkError : (Text → ErrorKind → Type 0) → (ℕ → Text → Type 0) → ℕ → WalkError → Type 0
IsWalkError fails Below depth Memory = ⊤
IsWalkError fails Below depth (Failed path reason) =
    IsReason fails Below depth (string_bytes path) reason

-- A folder, or a folder or a file below it, can't be read.
abbrev pub IsUnread : (Text → ErrorKind → Type 0) → Text → WalkError → Type 0
IsUnread fails folder Memory = ⊤
IsUnread fails folder (Failed path (Unread kind)) =
    fails (string_bytes path) kind × IsBelow folder 0 (string_bytes path)
IsUnread fails folder (Failed path TooDeep) = ⊥

-- An error about a folder or a file has its name, unless there is no memory for that.
abbrev pub IsFailureOf : Text → WalkReason → WalkError → Type 0
IsFailureOf path reason Memory = ⊤
IsFailureOf path reason (Failed named why) = (string_bytes named ≡ path) × (why ≡ reason)

abbrev pub IsUnreadOf : Text → FileError → WalkError → Type 0
IsUnreadOf path unread.Memory error = error ≡ Memory
IsUnreadOf path (unread.Failed kind) error = IsFailureOf path (Unread kind) error

-- It is so of one of these.
abbrev pub OneOf : {X : Type 0} → (X → Type 0) → List X → Type 0
OneOf Is [] = ⊥
OneOf Is (one ∷ others) = Is one ⊎ OneOf Is others
