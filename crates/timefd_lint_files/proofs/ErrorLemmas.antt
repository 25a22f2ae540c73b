-- Errors of nested folders.
use Rattle.std.proofs.Common.{◌≡◌, ℕ, ◌+◌, ◌-◌, ◌<◌, List, [], ◌∷◌, ◌++◌, length, get_or, arith, string_bytes, sym, subst, ◌∙◌, append_assoc, append-nil, Bool, true, false, nat_eq, if◌then◌else◌}
use mathlib.Core.Bool.{cond}
use Rattle.std.proofs.lemmas.List.Elements.{Contains-get_or}
use Rattle.std.proofs.lemmas.List.Sums.{sum_by-append}
use Rattle.std.specs.Prelude.{Option, Some}
use denote.Ref.{Bor}
use Rattle.std.specs.declared.io.ErrorKind.{ErrorKind}
use Rattle.timefd_lint_files.specs.declared.entry.FolderEntry.{FolderEntry}
use Rattle.timefd_lint_files.specs.declared.entry.EntryRole.{EntryRole}
use Rattle.timefd_lint_files.specs.declared.entry.EntryRole.TheVariants as roles
use Rattle.timefd_lint_files.specs.declared.ignore_file.IgnoreFile.{IgnoreFile}
use Rattle.timefd_lint_files.specs.declared.system.FileError.{FileError}
use Rattle.timefd_lint_files.specs.declared.system.FileError.TheVariants as unread
use Rattle.timefd_lint_files.specs.declared.walk_error.WalkReason.{WalkReason}
use Rattle.timefd_lint_files.specs.declared.walk_error.WalkReason.TheVariants.{Unread, TooDeep}
use Rattle.timefd_lint_files.specs.declared.walk_error.WalkError.{WalkError}
use Rattle.timefd_lint_files.specs.declared.walk_error.WalkError.TheVariants.{Memory, Failed}
use Rattle.timefd_lint_files.specs.Entries.{role}
use Rattle.timefd_lint_files.specs.Errors.{IsBelow, IsBelowAny, IsFailureOf, IsReadError, IsUnread, IsUnreadOf, IsWalkError, slashes}
use Rattle.timefd_lint_files.specs.Matching.{Text, slash}
use Rattle.timefd_lint_files.specs.Rules.{is_passed_over}
use Rattle.timefd_lint_files.specs.Walks.{IsLeft, IsLookedAt, as_folder, entered, found_as, passed, taken}

-- what one byte adds to the slashes of a path
abbrev one_if_slash : ℕ → ℕ
one_if_slash byte = cond (nat_eq slash byte) 1 0

-- the folder that the walk goes into
entered_as : (excluded ignores : List IgnoreFile) (folder name : Text) (r : EntryRole) (before after : List Text) (path : Text)
    → IsLeft (found_as excluded ignores (folder ++ name) r) before after (Some path) → path ≡ (folder ++ name) ++ slash ∷ []
entered_as excluded ignores folder name roles.None before after path left = absurd cc
entered_as excluded ignores folder name roles.Source before after path left =
    cases_bool (is_passed_over excluded ignores (folder ++ name) false) left
  where
    cases_bool : (is : Bool) → IsLeft (if is then passed else taken (folder ++ name)) before after (Some path)
        → path ≡ (folder ++ name) ++ slash ∷ []
    cases_bool true left = absurd cc
    cases_bool false left = absurd cc
entered_as excluded ignores folder name roles.Folder before after path left =
    cases_bool (is_passed_over excluded ignores (folder ++ name) true) left
  where
    same : {own : Text} → ◌≡◌ {A = Option Text} (Some path) (Some own) → path ≡ own
    same e = cc

    cases_bool : (is : Bool) → IsLeft (if is then passed else entered ((folder ++ name) ++ slash ∷ [])) before after (Some path)
        → path ≡ (folder ++ name) ++ slash ∷ []
    cases_bool true left = absurd cc
    cases_bool false left = same left.1

-- What is below a folder is below the folder around it.
outside : (folder name path : Text) (depth : ℕ) → IsBelow (folder ++ name) depth path → IsBelow folder depth path
outside folder name path depth is =
    let all : slashes (name ++ is.0) ≡ slashes name + slashes is.0 = sum_by-append one_if_slash name is.0 in
    (name ++ is.0, is.1 ∙ append_assoc folder name is.0, omega (arith, all, is.2))

-- What is below a folder is one folder deeper below the folder around it.
around : (folder name path : Text) (depth : ℕ) → 0 < depth → IsBelow ((folder ++ name) ++ slash ∷ []) (depth - 1) path
    → IsBelow folder depth path
around folder name path depth some is =
    let after : Text = name ++ slash ∷ is.0 in
    let all : slashes after ≡ slashes name + slashes (slash ∷ is.0) = sum_by-append one_if_slash name (slash ∷ is.0) in
    let one : slashes (slash ∷ is.0) ≡ 1 + slashes is.0 = sum_by-append one_if_slash (slash ∷ []) is.0 in
    let cut : path ≡ folder ++ after =
    is.1 ∙ append_assoc (folder ++ name) (slash ∷ []) is.0 ∙ append_assoc folder name (slash ∷ is.0) in
    (after, cut, omega (arith, some, all, one, is.2))

as_deep : (fails : Text → ErrorKind → Type 0) (Below Other : ℕ → Text → Type 0) (depth more : ℕ) (e : WalkError)
    → ((path : Text) → Below 0 path → Other 0 path) → ((path : Text) → Below depth path → Other more path)
    → IsWalkError fails Below depth e → IsWalkError fails Other more e
as_deep fails Below Other depth more Memory each deep is = is
as_deep fails Below Other depth more (Failed path (Unread kind)) each deep is = (is.0, each (string_bytes path) is.1)
as_deep fails Below Other depth more (Failed path TooDeep) each deep is = deep (string_bytes path) is

-- What fails below an entered folder fails below the folder around it.
pub deeper : (fails : Text → ErrorKind → Type 0) (endings : List (Bor Text)) (excluded ignores : List IgnoreFile) (folder : Text) (entry : FolderEntry)
    (before after : List Text) (path named : Text) (below : Option Text) (depth : ℕ) (e : WalkError) → 0 < depth
    → IsLookedAt endings excluded ignores folder entry before after below → below ≡ Some path → named ≡ path
    → IsWalkError fails (IsBelow named) (depth - 1) e → IsWalkError fails (IsBelow folder) depth e
deeper fails endings excluded ignores folder entry before after path named below depth e some left is same error =
    let name = string_bytes entry.name in
    let own : path ≡ (folder ++ name) ++ slash ∷ [] = entered_as excluded ignores folder name (role endings entry) before after path
    (subst (λ (b : Option Text). IsLookedAt endings excluded ignores folder entry before after b) is left) in
    as_deep fails (IsBelow named) (IsBelow folder) (depth - 1) depth e
    (λ reported in_it. outside folder name reported 0 (outside (folder ++ name) (slash ∷ []) reported 0
    (subst (λ (f : Text). IsBelow f 0 reported) (same ∙ own) in_it)))
    (λ reported in_it. around folder name reported depth some
    (subst (λ (f : Text). IsBelow f (depth - 1) reported) (same ∙ own) in_it)) error

-- A folder at the limit can't be entered.
pub too_deep : (fails : Text → ErrorKind → Type 0) (folder : Text) (depth : ℕ) (e : WalkError) → depth ≡ 0
    → IsFailureOf folder TooDeep e → IsWalkError fails (IsBelow folder) depth e
too_deep fails folder depth Memory none is = is
too_deep fails folder depth (Failed path (Unread kind)) none is = absurd cc
too_deep fails folder depth (Failed path TooDeep) none is =
    ([], is.0 ∙ sym (append-nil folder), omega (arith, none))

-- What fails below one of the names fails below any of them.
pub below_any : (fails : Text → ErrorKind → Type 0) (names : List (Bor Text)) (at : ℕ) (d : Bor Text) (e : WalkError)
    → at < length names → IsWalkError fails (IsBelow (as_folder (get_or names at d).now)) 255 e
    → IsWalkError fails (IsBelowAny names) 255 e
below_any fails names at d e lt error =
    let name = get_or names at d in
    as_deep fails (IsBelow (as_folder name.now)) (IsBelowAny names) 255 255 e
    (λ path below. (name, Contains-get_or names at d lt, below))
    (λ path below. (name, Contains-get_or names at d lt, below)) error

-- What can't be read can't be read at any depth.
pub unread_error : (fails : Text → ErrorKind → Type 0) (folder : Text) (depth : ℕ) (e : WalkError)
    → IsUnread fails folder e → IsWalkError fails (IsBelow folder) depth e
unread_error fails folder depth Memory is = is
unread_error fails folder depth (Failed path (Unread kind)) is = is
unread_error fails folder depth (Failed path TooDeep) is = absurd is

same_kind : {one other : ErrorKind} → ◌≡◌ {A = WalkReason} (Unread one) (Unread other) → one ≡ other
same_kind e = cc

-- A folder or a file of this path can't be read.
pub unread_at : (fails : Text → ErrorKind → Type 0) (path : Text) (error : FileError) (e : WalkError)
    → IsReadError (fails path) error → IsUnreadOf path error e → IsUnread fails path e
unread_at fails path unread.Memory Memory why is = tt
unread_at fails path unread.Memory (Failed named reason) why is = absurd cc
unread_at fails path (unread.Failed kind) Memory why is = tt
unread_at fails path (unread.Failed kind) (Failed named (Unread reported)) why is = (
  subst (λ (p : Text). fails p reported) (sym is.0)
      (subst (λ (k : ErrorKind). fails path k) (sym (same_kind is.1)) why),
  ([], is.0 ∙ sym (append-nil path), omega arith),
)
unread_at fails path (unread.Failed kind) (Failed named TooDeep) why is = absurd cc

-- What can't be read below a folder can't be read below the folder around it.
pub unread_below : (fails : Text → ErrorKind → Type 0) (folder name path : Text) (e : WalkError)
    → path ≡ folder ++ name → IsUnread fails path e → IsUnread fails folder e
unread_below fails folder name path Memory same is = tt
unread_below fails folder name path (Failed reported (Unread kind)) same is = (
  is.0,
  outside folder name (string_bytes reported) 0
      (subst (λ (p : Text). IsBelow p 0 (string_bytes reported)) same is.1),
)
unread_below fails folder name path (Failed reported TooDeep) same is = absurd is

-- A file of a folder can't be read.
pub unread_in : (fails : Text → ErrorKind → Type 0) (folder name path : Text) (error : FileError) (e : WalkError)
    → path ≡ folder ++ name → IsReadError (fails path) error → IsUnreadOf path error e → IsUnread fails folder e
unread_in fails folder name path error e same why is =
    unread_below fails folder name path e same (unread_at fails path error e why is)
