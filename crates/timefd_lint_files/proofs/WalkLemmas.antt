-- The items so far, and the remaining ones.
use Rattle.std.proofs.Common.{◌≡◌, ℕ, ◌+◌, ◌<◌, suc, List, [], ◌∷◌, ◌++◌, length, get_or, drop, refl, sym, ap, subst, ◌∙◌, append_assoc, append-nil, add-one}
use Rattle.std.specs.Prelude.{Option, Some, None, Bool, true, codes}
use Rattle.std.proofs.Math.Seq.{drop-cons, drop-length}
use denote.Ref.{Bor}
use Rattle.timefd_lint_files.specs.declared.entry.FolderEntry.{FolderEntry}
use Rattle.timefd_lint_files.specs.declared.entry.EntryKind.TheVariants as kinds
use Rattle.timefd_lint_files.specs.declared.ignore_file.IgnoreFile.{IgnoreFile}
use Rattle.timefd_lint_files.specs.Entries.{has_entry}
use Rattle.timefd_lint_files.specs.Matching.{Text}
use Rattle.timefd_lint_files.specs.Walks.{AllGive, AreListed, AreOf, Found, Gives, HasExclude, HasOwn, HasOwnIf, IsLeft, IsLookedAt, IsOwn, IsWalk, entered, found, passed, taken}

-- Whatever names the remaining items give, the names so far and those together are the names of all.
pub record GoesOn {X : Type 0} (Give : X → List Text → Type 0) (items : List X) (at : ℕ) (before now : List Text) : Type 0 where
  pub own : List Text
  pub pushed : now ≡ before ++ own
  pub on : (more : List Text) → AllGive Give (drop at items) more → AllGive Give items (own ++ more)

pub at_first : {X : Type 0} (Give : X → List Text → Type 0) (items : List X) (before : List Text)
    → GoesOn Give items 0 before before
at_first Give items before = record {
  own = [];
  pushed = sym (append-nil before);
  on = λ more are. are;
}

pub one_more : {X : Type 0} (Give : X → List Text → Type 0) (items : List X) (x : X) (at : ℕ)
    (before now after names : List Text) → at < length items → x ≡ get_or items at x
    → GoesOn Give items at before now → Give x names → after ≡ now ++ names
    → GoesOn Give items (at + 1) before after
one_more {X} Give items x at before now after names lt read so_far are more =
    let cut : drop at items ≡ x ∷ drop (at + 1) items =
    rw add-one (drop-cons items at x lt ∙ ap (λ (y : X). y ∷ drop (suc at) items) (sym read)) in record {
      own = so_far.own ++ names;
      pushed = more ∙ ap (λ (ns : List Text). ns ++ names) so_far.pushed ∙ append_assoc before so_far.own names;
      on = λ rest all. rw append_assoc (so_far.on (names ++ rest) (rw cut (names, rest, are, all, refl)));
    }

pub at_last : {X : Type 0} (Give : X → List Text → Type 0) (items : List X) (at : ℕ) (before now : List Text)
    → at ≡ length items → GoesOn Give items at before now
    → (names : List Text) × (now ≡ before ++ names) × AllGive Give items names
at_last Give items at before now e so_far =
    (so_far.own, so_far.pushed, rw append-nil at (so_far.on [] (rw (e, drop-length) refl)))

no_folder : (Below : Text → List Text → Type 0) (f : Found) (before after : List Text) → IsLeft f before after None
    → (names : List Text) × AreOf Below f names × (after ≡ before ++ names)
no_folder Below passed before after left = ([], refl, left.0 ∙ sym (append-nil before))
no_folder Below (taken path) before after left = (path ∷ [], refl, left.0)
no_folder Below (entered path) before after left = absurd cc

-- an entry that is passed over, or whose name is taken
pub one_looked_at : (endings : List (Bor Text)) (excluded : List IgnoreFile)
    (Below : List IgnoreFile → Text → List Text → Type 0) (ignores held : List IgnoreFile) (folder : Text)
    (entries : List FolderEntry) (entry : FolderEntry) (at : ℕ) (before now after : List Text) (below : Option Text)
    → at < length entries → entry ≡ get_or entries at entry
    → GoesOn (Gives endings excluded Below ignores folder) entries at before now → held ≡ ignores
    → IsLookedAt endings excluded held folder entry now after below → below ≡ None
    → GoesOn (Gives endings excluded Below ignores folder) entries (at + 1) before after
one_looked_at endings excluded Below ignores held folder entries entry at before now after below lt read so_far same left none =
    let here : IsLookedAt endings excluded ignores folder entry now after None =
    subst (λ (b : Option Text). IsLookedAt endings excluded ignores folder entry now after b) none
    (subst (λ (files : List IgnoreFile). IsLookedAt endings excluded files folder entry now after below) same left) in
    let own = no_folder (Below ignores) (found endings excluded ignores folder entry) now after here in
    one_more (Gives endings excluded Below ignores folder) entries entry at before now after own.0 lt read so_far own.1 own.2

a_folder : (Below : Text → List Text → Type 0) (f : Found) (path : Text) (before after names : List Text)
    → IsLeft f before after (Some path) → Below path names → AreOf Below f names × (after ≡ before)
a_folder Below passed path before after names left is = absurd cc
a_folder Below (taken own) path before after names left is = absurd cc
a_folder Below (entered own) path before after names left is =
    (subst (λ (p : Text). Below p names) (same left.1) is, left.0)
  where
    same : {own path : Text} → ◌≡◌ {A = Option Text} (Some path) (Some own) → path ≡ own
    same e = cc

-- a folder that the walk goes into
pub one_walked : (endings : List (Bor Text)) (excluded : List IgnoreFile)
    (Below : List IgnoreFile → Text → List Text → Type 0) (ignores held inside : List IgnoreFile) (folder : Text)
    (entries : List FolderEntry) (entry : FolderEntry) (at : ℕ) (path name : Text) (before now between after names : List Text)
    (below : Option Text)
    → at < length entries → entry ≡ get_or entries at entry
    → GoesOn (Gives endings excluded Below ignores folder) entries at before now → held ≡ ignores → inside ≡ held
    → IsLookedAt endings excluded held folder entry now between below → below ≡ Some path → name ≡ path
    → Below inside name names → after ≡ between ++ names
    → GoesOn (Gives endings excluded Below ignores folder) entries (at + 1) before after
one_walked endings excluded Below ignores held inside folder entries entry at path name before now between after
    names below lt read so_far same kept left some named is more =
    let here : IsLookedAt endings excluded ignores folder entry now between (Some path) =
    subst (λ (b : Option Text). IsLookedAt endings excluded ignores folder entry now between b) some
    (subst (λ (files : List IgnoreFile). IsLookedAt endings excluded files folder entry now between below) same left) in
    let there : Below ignores path names =
    subst (λ (files : List IgnoreFile). Below files path names) (kept ∙ same)
    (subst (λ (p : Text). Below inside p names) named is) in
    let own = a_folder (Below ignores) (found endings excluded ignores folder entry) path now between names here there in
    one_more (Gives endings excluded Below ignores folder) entries entry at before now after names lt read so_far own.0
    (more ∙ ap (λ (ns : List Text). ns ++ names) own.1)

-- all entries of a folder
pub walked : (endings : List (Bor Text)) (excluded : List IgnoreFile) (lists : Text → List FolderEntry → Type 0) (holds : Text → Text → Type 0) (depth below : ℕ)
    (above ignores : List IgnoreFile) (folder : Text) (entries borrowed : List FolderEntry) (names : List Text)
    → depth ≡ suc below → AreListed (lists folder) entries → borrowed ≡ entries → HasOwn lists holds folder borrowed above ignores
    → AllGive (Gives endings excluded (IsWalk endings excluded lists holds below) ignores folder) entries names
    → IsWalk endings excluded lists holds depth above folder names
unfolding IsWalk
walked endings excluded lists holds depth below above ignores folder entries borrowed names deep listed same own are =
    rw deep (
      entries,
      ignores,
      listed,
      subst (λ (es : List FolderEntry). HasOwn lists holds folder es above ignores) same own,
      are,
    )

-- a folder that has a file of this name
pub with_own : (holds : Text → Text → Type 0) (folder name : Text) (is : Bool)
    (above all : List IgnoreFile) (own : IgnoreFile) → is ≡ true → IsOwn holds folder name own
    → all ≡ above ++ own ∷ [] → HasOwnIf is holds folder name above all
with_own holds folder name is above all own has read added = rw has (own, read, added)

-- a folder whose exclude file is added, if it has one, and then its own
pub with_both : (lists : Text → List FolderEntry → Type 0) (holds : Text → Text → Type 0) (folder : Text) (entries : List FolderEntry)
    (above between all : List IgnoreFile) (excludes is : Bool) → HasExclude lists folder entries excludes
    → HasOwnIf excludes holds folder (codes ".git/info/exclude") above between
    → is ≡ has_entry kinds.File (codes ".gitignore") entries
    → HasOwnIf is holds folder (codes ".gitignore") between all → HasOwn lists holds folder entries above all
with_both lists holds folder entries above between all excludes is reported added same own =
    (excludes, between, reported, added, subst (λ (b : Bool). HasOwnIf b holds folder (codes ".gitignore") between all) same own)
