-- What a name of the command line gives.
use Rattle.std.proofs.Common.{◌≡◌, ℕ, ◌+◌, ◌-◌, ◌<◌, List, [], ◌∷◌, ◌++◌, length, get_or, refl, sym, ap, ◌∙◌, subst, zero, suc, arith}
use Rattle.std.specs.Prelude.{Bool, true, false}
use denote.Ref.{Bor}
use Rattle.timefd_lint_files.specs.Matching.{Text}
use Rattle.timefd_lint_files.specs.declared.ignore_file.IgnoreFile.{IgnoreFile}
use Rattle.timefd_lint_files.specs.IgnoreFiles.{IsReadFrom}
use Rattle.timefd_lint_files.specs.declared.entry.FolderEntry.{FolderEntry}
use Rattle.timefd_lint_files.specs.Walks.{AreExcluded, AreExpanded, IsExpanded, IsWalk, IsAlone, IsWalkBut, as_folder, is_input}
use Rattle.timefd_lint_files.specs.Starts.{Begun, seen, start_below}
use Rattle.timefd_lint_files.specs.declared.start.Excluded.{Excluded}
use Rattle.timefd_lint_files.specs.declared.start.NameParts.{NameParts}
use Rattle.timefd_lint_files.proofs.WalkLemmas.{GoesOn}
use Rattle.timefd_lint_files.proofs.WalkLemmas as walks

-- a file that is pushed to an empty list
pub alone : (front text spelled : Text) (folder_len : ℕ) (file : IgnoreFile) (before files : List IgnoreFile)
    → IsReadFrom front folder_len spelled file → spelled ≡ text → before ≡ [] → files ≡ before ++ file ∷ []
    → IsAlone front folder_len text files
alone front text spelled folder_len file before files read same none is =
    (file, subst (λ (t : Text). IsReadFrom front folder_len t file) same read, is ∙ ap (λ fs. fs ++ file ∷ []) none)

-- a single file that is read for a folder
pub alone_below : (excluded : Excluded) (folder : Text) (start : NameParts) (cut : ℕ) (files : List IgnoreFile)
    → seen start ≡ start_below excluded folder
    → cut ≡ length folder - length start.rest.now → IsAlone start.front.now cut excluded.patterns.now files
    → AreExcluded excluded folder files
alone_below excluded folder start cut files is long are =
    subst (λ (b : Begun). IsAlone b.front (length folder - length b.rest) excluded.patterns.now files) is
    (subst (λ (k : ℕ). IsAlone start.front.now k excluded.patterns.now files) long are)

-- names below a folder, where these files say what is excluded
pub walked_but : (endings : List (Bor Text)) (but : Excluded) (lists : Text → List FolderEntry → Type 0)
    (holds : Text → Text → Type 0) (folder : Text) (excluded borrowed above : List IgnoreFile) (before after : List Text)
    → AreExcluded but folder excluded → borrowed ≡ excluded → above ≡ []
    → ((names : List Text) × (after ≡ before ++ names) × IsWalk endings borrowed lists holds 255 above folder names)
    → (names : List Text) × (after ≡ before ++ names) × IsWalkBut endings but lists holds folder names
unfolding IsWalkBut
walked_but endings but lists holds folder excluded borrowed above before after are same none found =
    let inside : IsWalk endings excluded lists holds 255 above folder found.0 =
    subst (λ (files : List IgnoreFile). IsWalk endings files lists holds 255 above folder found.0) same found.2 in
    let walked : IsWalk endings excluded lists holds 255 [] folder found.0 =
    subst (λ (files : List IgnoreFile). IsWalk endings excluded lists holds 255 files folder found.0) none inside in
    (found.0, found.1, (excluded, are, walked))

-- one more name
abbrev pub OneMore : (Text → List Text → Type 0) → (Text → List Text → Type 0) → (Text → Bool → Type 0) → Bor Text → List Text → List Text → Type 0
OneMore Below Kept folders name before after =
    (names : List Text) × (after ≡ before ++ names) × IsExpanded Below Kept folders name names

pub as_input : (Below Kept : Text → List Text → Type 0) (folders : Text → Bool → Type 0) (name : Bor Text)
    (before after : List Text) → is_input name.now ≡ true → after ≡ before ++ name.now ∷ []
    → OneMore Below Kept folders name before after
as_input Below Kept folders name before after is more = (name.now ∷ [], more, rw is refl)

pub as_file : (Below Kept : Text → List Text → Type 0) (folders : Text → Bool → Type 0) (name : Bor Text)
    (before after names : List Text) → is_input name.now ≡ false → folders name.now false
    → Kept name.now names → after ≡ before ++ names
    → OneMore Below Kept folders name before after
as_file Below Kept folders name before after names is reported kept more =
    (names, more, rw is (false, reported, kept))

pub as_walked : (Below Kept : Text → List Text → Type 0) (folders : Text → Bool → Type 0) (name : Bor Text)
    (folder : Text) (before after names : List Text) → is_input name.now ≡ false → folders name.now true
    → folder ≡ as_folder name.now → Below folder names → after ≡ before ++ names
    → OneMore Below Kept folders name before after
as_walked Below Kept folders name folder before after names is reported named below more =
    let here : Below (as_folder name.now) names = subst (λ (f : Text). Below f names) named below in
    (names, more, rw is (true, reported, here))

-- The names so far give these.
abbrev pub NamesGoOn : (Text → List Text → Type 0) → (Text → List Text → Type 0) → (Text → Bool → Type 0) → List (Bor Text) → ℕ → List Text → Type 0
NamesGoOn Below Kept folders names at now = GoesOn (IsExpanded Below Kept folders) names at [] now

pub at_first : (Below Kept : Text → List Text → Type 0) (folders : Text → Bool → Type 0) (names : List (Bor Text))
    (now : List Text) → now ≡ [] → NamesGoOn Below Kept folders names 0 now
at_first Below Kept folders names now none =
    subst (λ (ns : List Text). NamesGoOn Below Kept folders names 0 ns) (sym none)
    (walks.at_first (IsExpanded Below Kept folders) names [])

same_read : {X : Type 0} (xs : List X) (k : ℕ) (d e : X) → k < length xs → get_or xs k d ≡ get_or xs k e
same_read [] k d e lt = absurd (omega arith)
same_read (x ∷ xs) zero d e lt = refl
same_read (x ∷ xs) (suc k) d e lt = same_read xs k d e (omega arith)

pub one_more : (Below Kept : Text → List Text → Type 0) (folders : Text → Bool → Type 0) (names : List (Bor Text))
    (at : ℕ) (d : Bor Text) (now after : List Text) → at < length names → NamesGoOn Below Kept folders names at now
    → OneMore Below Kept folders (get_or names at d) now after → NamesGoOn Below Kept folders names (at + 1) after
one_more Below Kept folders names at d now after lt so_far more =
    let name = get_or names at d in
    walks.one_more (IsExpanded Below Kept folders) names name at [] now after more.0 lt
    (same_read names at d name lt) so_far more.2 more.1

pub at_last : (Below Kept : Text → List Text → Type 0) (folders : Text → Bool → Type 0) (names : List (Bor Text))
    (at : ℕ) (now all : List Text) → at ≡ length names → all ≡ now → NamesGoOn Below Kept folders names at now
    → AreExpanded Below Kept folders names all
at_last Below Kept folders names at now all e same so_far =
    let given = walks.at_last (IsExpanded Below Kept folders) names at [] now e so_far in
    rw (same, given.1) given.2
