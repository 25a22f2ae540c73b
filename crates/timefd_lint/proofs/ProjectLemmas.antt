-- What the files of settings say that were found for groups of names.
use Rattle.std.proofs.Common.{ℕ, ◌≡◌, ◌≢◌, ◌⊎◌, ◌<◌, ◌≤◌, ◌+◌, Bool, true, false, nat_eq, if◌then◌else◌, length, get_or, drop, arith, List, [], ◌∷◌, ◌++◌, Option, Some, None, MatchOption, codes, inl, inr, refl, sym, ap, subst, ◌∙◌, append_assoc, append-nil}
use Rattle.std.specs.Prelude.{String, option_map}
use Rattle.std.specs.Str.Pattern.{FindsCharPrefix}
use Rattle.std.proofs.lemmas.Bool.Decides.{eqb_tells}
use Rattle.std.proofs.lemmas.Str.Pattern.{strip_prefix_char}
use Rattle.std.specs.declared.alloc.Global.{Global}
use denote.Ref.{Bor}
use Rattle.timefd_parse.specs.Tree.{Text}
use Rattle.timefd_lint_files.specs.declared.groups.NameGroup.{NameGroup}
use Rattle.timefd_lint.specs.declared.projects.Named.{Named}
use Rattle.std.specs.declared.io.ErrorKind.{ErrorKind}
use Rattle.timefd_lint_files.specs.declared.upwards.Nearest.{Nearest}
use Rattle.timefd_lint_files.specs.declared.walk_error.WalkError.{WalkError}
use Rattle.timefd_lint_files.specs.Errors.{OneOf}
use Rattle.timefd_lint_files.specs.Groups.{AreGroups, IsFoundFor, IsUnreadFor, IsUnreadForAny, site_any}
use Rattle.timefd_lint_files.specs.Upwards.{front_below}
use Rattle.timefd_lint_files.proofs.OneOfLemmas.{IsOneTo}
use Rattle.timefd_lint.specs.declared.config.ConfigFailure.{ConfigFailure}
use Rattle.timefd_lint.specs.declared.config.ConfigFailure.TheVariants.{Memory, Wrong}
use Rattle.timefd_lint.specs.declared.config.Project.{Project}
use Rattle.timefd_lint.specs.Projects.{AreNamedBy, AreProjects, IsProject, IsProjectFor, below_root}
use Rattle.timefd_lint.specs.Unusable.{AreUnset, IsOneWrong, IsUnfound, IsUnset, IsWrongIn}

-- Those of the remaining groups are still to come.
abbrev pub AreNamedTo : Text → List NameGroup → List NameGroup → List Named → Type 0
AreNamedTo here all rest named =
    (more : List Named) → AreNamedBy here rest more → AreNamedBy here all (named ++ more)

pub none_named : (here : Text) (all : List NameGroup) (named : List Named) → named ≡ [] → AreNamedTo here all all named
none_named here all named none more are = subst (λ (ns : List Named). AreNamedBy here all (ns ++ more)) (sym none) are

pub one_named : (here : Text) (all rest after : List NameGroup) (group : NameGroup) (one : Named) (named new : List Named)
    → rest ≡ group ∷ after → one.names.now ≡ group.names.now → IsProject here group.found one.project
    → new ≡ named ++ one ∷ [] → AreNamedTo here all rest named → AreNamedTo here all after new
one_named here all rest after group one named new split same is pushed so_far more are =
    subst (AreNamedBy here all) (sym (append_assoc named (one ∷ []) more) ∙ ap (λ ns. ns ++ more) (sym pushed))
    (so_far (one ∷ more) (subst (λ (r : List NameGroup). AreNamedBy here r (one ∷ more)) (sym split) (same, is, are)))

pub all_named : (here : Text) (all rest : List NameGroup) (named : List Named) → rest ≡ []
    → AreNamedTo here all rest named → AreNamedBy here all named
all_named here all rest named none so_far =
    subst (AreNamedBy here all) (append-nil named)
    (so_far [] (subst (λ (r : List NameGroup). AreNamedBy here r []) (sym none) tt))

-- What the file says that was found for a name.
pub project_found : (holds : Text → Text → Type 0) (fails : Text → ErrorKind → Type 0) (folders : Text → Bool → Type 0)
    (here name front bytes : Text) (found seen : Option Nearest) (project : Project) → front ≡ front_below here 0
    → bytes ≡ front → IsFoundFor holds fails folders (codes ".timefd.toml") bytes name (site_any found) → seen ≡ found
    → IsProject here seen project → IsProjectFor holds fails folders here name project
project_found holds fails folders here name front bytes found seen project from same at known is = (
  found,
  subst (λ (f : Text). IsFoundFor holds fails folders (codes ".timefd.toml") f name (site_any found)) (same ∙ from) at,
  subst (λ (f : Option Nearest). IsProject here f project) known is,
)

-- What the files say that were found for names.
pub projects_found : (holds : Text → Text → Type 0) (fails : Text → ErrorKind → Type 0) (folders : Text → Bool → Type 0)
    (here front bytes : Text) (names : List (Bor Text)) (groups known : List NameGroup) (all : List Named)
    → front ≡ front_below here 0 → bytes ≡ front
    → AreGroups (IsFoundFor holds fails folders (codes ".timefd.toml") bytes) names groups → known ≡ groups
    → AreNamedBy here known all → AreProjects holds fails folders here names all
projects_found holds fails folders here front bytes names groups known all from same are known_are named = (
  groups,
  subst (λ (f : Text). AreGroups (IsFoundFor holds fails folders (codes ".timefd.toml") f) names groups) (same ∙ from) are,
  subst (λ (gs : List NameGroup). AreNamedBy here gs all) known_are named,
)

-- A file that is found for the first of the remaining groups can't be used.
pub wrong_first : (all rest after : List NameGroup) (group : NameGroup) (failure : ConfigFailure) → rest ≡ group ∷ after
    → IsWrongIn group.found failure
    → ((sentence : String Global) → IsOneTo (λ group. IsWrongIn group.found (Wrong sentence)) all rest)
    → IsOneWrong all failure
wrong_first all rest after group Memory split is so_far = tt
wrong_first all rest after group (Wrong sentence) split is so_far =
    so_far sentence (subst (OneOf (λ group. IsWrongIn group.found (Wrong sentence))) (sym split) (inl is))

pub none_kept : (all : List NameGroup) (failure : ConfigFailure) → failure ≡ Memory → IsOneWrong all failure
none_kept all failure is = subst (IsOneWrong all) (sym is) tt

-- A file that is sought for one of the names can't be read.
pub names_unread : (holds : Text → Text → Type 0) (fails : Text → ErrorKind → Type 0) (folders : Text → Bool → Type 0)
    (here front bytes : Text) (names : List (Bor Text)) (error : WalkError) (failure : ConfigFailure)
    → front ≡ front_below here 0 → bytes ≡ front → IsUnreadForAny fails folders (codes ".timefd.toml") bytes names error
    → IsUnfound error failure → AreUnset holds fails folders here names failure
names_unread holds fails folders here front bytes names error Memory from same unread said = tt
names_unread holds fails folders here front bytes names error (Wrong sentence) from same unread said =
    inl (
      error,
      subst (λ (f : Text). IsUnreadForAny fails folders (codes ".timefd.toml") f names error) (same ∙ from) unread,
      said,
    )

-- One that is found for them can't be used.
pub names_wrong : (holds : Text → Text → Type 0) (fails : Text → ErrorKind → Type 0) (folders : Text → Bool → Type 0)
    (here front bytes : Text) (names : List (Bor Text)) (groups known : List NameGroup) (failure : ConfigFailure)
    → front ≡ front_below here 0 → bytes ≡ front
    → AreGroups (IsFoundFor holds fails folders (codes ".timefd.toml") bytes) names groups → known ≡ groups
    → IsOneWrong known failure → AreUnset holds fails folders here names failure
names_wrong holds fails folders here front bytes names groups known Memory from same are known_are one = tt
names_wrong holds fails folders here front bytes names groups known (Wrong sentence) from same are known_are one =
    inr (
      groups,
      subst (λ (f : Text). AreGroups (IsFoundFor holds fails folders (codes ".timefd.toml") f) names groups) (same ∙ from) are,
      subst (λ (gs : List NameGroup). IsOneWrong gs (Wrong sentence)) known_are one,
    )

-- the same of one name
pub name_unread : (holds : Text → Text → Type 0) (fails : Text → ErrorKind → Type 0) (folders : Text → Bool → Type 0)
    (here name front bytes : Text) (error : WalkError) (failure : ConfigFailure) → front ≡ front_below here 0
    → bytes ≡ front → IsUnreadFor fails folders (codes ".timefd.toml") bytes name error → IsUnfound error failure
    → IsUnset holds fails folders here name failure
name_unread holds fails folders here name front bytes error Memory from same unread said = tt
name_unread holds fails folders here name front bytes error (Wrong sentence) from same unread said =
    inl (
      error,
      subst (λ (f : Text). IsUnreadFor fails folders (codes ".timefd.toml") f name error) (same ∙ from) unread,
      said,
    )

pub name_wrong : (holds : Text → Text → Type 0) (fails : Text → ErrorKind → Type 0) (folders : Text → Bool → Type 0)
    (here name front bytes : Text) (found : Option Nearest) (failure : ConfigFailure) → front ≡ front_below here 0
    → bytes ≡ front → IsFoundFor holds fails folders (codes ".timefd.toml") bytes name (site_any found)
    → IsWrongIn found failure → IsUnset holds fails folders here name failure
name_wrong holds fails folders here name front bytes found Memory from same at is = tt
name_wrong holds fails folders here name front bytes found (Wrong sentence) from same at is =
    inr (
      found,
      subst (λ (f : Text). IsFoundFor holds fails folders (codes ".timefd.toml") f name (site_any found)) (same ∙ from) at,
      is,
    )

-- Memory ran out.
pub names_not_kept : (holds : Text → Text → Type 0) (fails : Text → ErrorKind → Type 0) (folders : Text → Bool → Type 0)
    (here : Text) (names : List (Bor Text)) (failure : ConfigFailure) → failure ≡ Memory
    → AreUnset holds fails folders here names failure
names_not_kept holds fails folders here names failure is = subst (AreUnset holds fails folders here names) (sym is) tt

pub name_not_kept : (holds : Text → Text → Type 0) (fails : Text → ErrorKind → Type 0) (folders : Text → Bool → Type 0)
    (here name : Text) (failure : ConfigFailure) → failure ≡ Memory → IsUnset holds fails folders here name failure
name_not_kept holds fails folders here name failure is = subst (IsUnset holds fails folders here name) (sym is) tt

pub none_left : (rest : List NameGroup) → length rest < 1 → rest ≡ []
none_left [] few = refl
none_left (group ∷ rest) few = absurd (omega (arith, few))

other_byte : (byte : ℕ) (rest : Text) → byte ≢ 47
    → ((nat_eq byte 47 ≡ true) × (byte ≡ 47)) ⊎ ((nat_eq byte 47 ≡ false) × (byte ≢ 47))
    → None ≡ below_root (byte ∷ rest)
other_byte byte rest not_slash (inl is) = absurd (not_slash is.1)
other_byte byte rest not_slash (inr is) = sym (ap (λ t. if t then Some rest else None) is.0)

is_after_root : (path : Text) (r : Option (Bor Text))
    → MatchOption r ((rest : Text) → path ≢ 47 ∷ rest) (λ x. path ≡ 47 ∷ x.now)
    → option_map (λ below. below.now) r ≡ below_root path
is_after_root [] None none = refl
is_after_root (byte ∷ rest) None none =
    other_byte byte rest (λ is. none rest (ap (λ b. b ∷ rest) is)) (eqb_tells byte 47)
is_after_root path (Some x) is = sym (ap below_root is)

-- What follows the slash at the start of a path.
pub after_root : (path : Text) (r : Option (Bor Text))
    → MatchOption r (FindsCharPrefix 47 path None) (λ x. (n : ℕ) × FindsCharPrefix 47 path (Some n)
    × (x.now ≡ drop n path) × (length x.now + n ≡ length path)) → option_map (λ below. below.now) r ≡ below_root path
after_root path r found = is_after_root path r (strip_prefix_char 47 path r found (omega arith))
