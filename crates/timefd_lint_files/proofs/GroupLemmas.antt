-- What is found upwards for names.
use Rattle.std.proofs.Common.{◌≡◌, ◌≢◌, ◌≤◌, ◌<◌, ℕ, ◌-◌, get_or, Bool, true, false, List, [], ◌∷◌, ◌++◌, length, take, drop, refl, sym, ap, subst, ◌∙◌, append_assoc, append-nil, length-append, inl, arith}
use Rattle.std.proofs.Math.Seq.{drop-append_seam, take-append_seam, take-length}
use Rattle.std.specs.Prelude.{Option, Some, None, codes}
use denote.Ref.{Bor}
use Rattle.std.specs.declared.io.ErrorKind.{ErrorKind}
use Rattle.timefd_lint_files.specs.declared.groups.NameGroup.{NameGroup}
use Rattle.timefd_lint_files.specs.declared.upwards.Nearest.{Nearest}
use Rattle.timefd_lint_files.specs.declared.walk_error.WalkError.{WalkError}
use Rattle.timefd_lint_files.specs.declared.walk_error.WalkError.TheVariants.{Memory, Failed}
use Rattle.timefd_lint_files.specs.Around.{IsUnreadUpwards, folders_around}
use Rattle.timefd_lint_files.specs.Groups.{AllHave, AreGroups, AreGroupsOf, HaveSame, IsFoundFor, IsStart, IsStartOr, IsUnreadFor, IsUnreadForAny, IsUnreadForOne, Site, folder_by, if_open, site_any, site_if}
use Rattle.timefd_lint_files.specs.Matching.{Text}
use Rattle.timefd_lint_files.specs.Upwards.{IsNearest, seen_any}
use Rattle.timefd_lint_files.specs.Walks.{is_input}
use Rattle.timefd_lint_files.proofs.OneOfLemmas.{IsOneTo, of_after}

pub at_input : (folders : Text → Bool → Type 0) (name start : Text) → is_input name ≡ true → start ≡ []
    → IsStart folders name start
at_input folders name start is here = subst (IsStartOr folders name start) (sym is) here

by_folder : (folders : Text → Bool → Type 0) (name start folder opened : Text) (is_folder is_open : Bool)
    → is_input name ≡ false → folders name is_folder → folder ≡ folder_by is_folder name → opened ≡ folder
    → folders (opened ++ codes ".") is_open → start ≡ if_open is_open folder → IsStart folders name start
by_folder folders name start folder opened is_folder is_open is kind own same opens at =
    subst (IsStartOr folders name start) (sym is) (
      is_folder,
      kind,
      (
        is_open,
        subst (λ (f : Text). folders (f ++ codes ".") is_open) (same ∙ own) opens,
        at ∙ ap (if_open is_open) own,
      ),
    )

pub at_open : (folders : Text → Bool → Type 0) (name start folder opened : Text) (is_folder is_open : Bool)
    → is_input name ≡ false → folders name is_folder → folder ≡ folder_by is_folder name → opened ≡ folder
    → folders (opened ++ codes ".") is_open → is_open ≡ true → start ≡ folder → IsStart folders name start
at_open folders name start folder opened is_folder is_open is kind own same opens one at =
    by_folder folders name start folder opened is_folder is_open is kind own same opens (at ∙ rw one refl)

pub at_closed : (folders : Text → Bool → Type 0) (name start folder opened : Text) (is_folder is_open : Bool)
    → is_input name ≡ false → folders name is_folder → folder ≡ folder_by is_folder name → opened ≡ folder
    → folders (opened ++ codes ".") is_open → is_open ≡ false → start ≡ [] → IsStart folders name start
at_closed folders name start folder opened is_folder is_open is kind own same opens none at =
    by_folder folders name start folder opened is_folder is_open is kind own same opens (at ∙ rw none refl)

same_site : (found : Option Nearest) → site_any found ≡ site_if (seen_any found)
same_site None = refl
same_site (Some found) = refl

pub found_from : (holds : Text → Text → Type 0) (fails : Text → ErrorKind → Type 0) (folders : Text → Bool → Type 0)
    (file here name start begun : Text) (above : ℕ) (found : Option Nearest) → IsStart folders name start
    → begun ≡ start → above ≡ folders_around here begun → IsNearest holds fails folders file above begun (seen_any found)
    → IsFoundFor holds fails folders file here name (site_any found)
found_from holds fails folders file here name start begun above found at same around near = (
  begun,
  seen_any found,
  subst (IsStart folders name) (sym same) at,
  subst (λ (k : ℕ). IsNearest holds fails folders file k begun (seen_any found)) around near,
  same_site found,
)

pub unread_from : (fails : Text → ErrorKind → Type 0) (folders : Text → Bool → Type 0) (file here name start begun : Text)
    (above : ℕ) (e : WalkError) → IsStart folders name start → begun ≡ start → above ≡ folders_around here begun
    → IsUnreadUpwards fails file above begun e → IsUnreadFor fails folders file here name e
unread_from fails folders file here name start begun above Memory at same around is = tt
unread_from fails folders file here name start begun above (Failed path reason) at same around is = (
  begun,
  subst (IsStart folders name) (sym same) at,
  subst (λ (k : ℕ). IsUnreadUpwards fails file k begun (Failed path reason)) around is,
)

-- Splits some names into the first and the rest, like a pattern does.
pub split_names : (rest : List (Bor Text)) (n : ℕ) (d : Bor Text) → n ≡ length rest → 1 ≤ length rest
    → rest ≡ get_or rest 0 d ∷ take (n - 1) (drop 1 rest)
split_names [] n d same some = absurd (omega (arith, some))
split_names (name ∷ rest) n d same some =
    let few : n - 1 ≡ length rest = omega (arith, same) in
    sym (ap (λ k. name ∷ take k rest) few ∙ ap (λ r. name ∷ r) (take-length rest))

pub none_left : (rest : List (Bor Text)) → length rest < 1 → rest ≡ []
none_left [] few = refl
none_left (name ∷ rest) few = absurd (omega (arith, few))

-- None of the names was looked at yet.
pub none_yet : (Found : Text → Option Site → Type 0) (answer : Option Site) (names : List (Bor Text))
    → HaveSame Found answer names names
none_yet Found answer names = record { front = []; whole = refl; each = tt }

one_have : (Found : Text → Option Site → Type 0) (answer : Option Site) (front : List (Bor Text)) (name : Bor Text)
    → AllHave Found answer front → Found name.now answer → AllHave Found answer (front ++ name ∷ [])
one_have Found answer [] name each one = (one, tt)
one_have Found answer (first ∷ front) name each one = (each.0, one_have Found answer front name each.1 one)

-- one more name with the same
pub one_more : (Found : Text → Option Site → Type 0) (answer other : Option Site) (names rest after : List (Bor Text))
    (name : Bor Text) → rest ≡ name ∷ after → answer ≡ other → Found name.now other
    → HaveSame Found answer names rest → HaveSame Found answer names after
one_more Found answer other names rest after name split same found so_far = record {
  front = so_far.front ++ name ∷ [];
  whole = so_far.whole ∙ (ap (λ r. so_far.front ++ r) split ∙ sym (append_assoc so_far.front (name ∷ []) after));
  each = one_have Found answer so_far.front name so_far.each (subst (Found name.now) (sym same) found);
}

pub few_left : (Found : Text → Option Site → Type 0) (answer : Option Site) (names rest : List (Bor Text)) (left : ℕ)
    → left ≡ length rest → HaveSame Found answer names rest → left ≤ length names
few_left Found answer names rest left is same =
    omega (arith, is, ap (λ (ns : List (Bor Text)). length ns) same.whole, length-append same.front rest)

-- The file can't be read for the first of the remaining names.
pub unread_first : (fails : Text → ErrorKind → Type 0) (folders : Text → Bool → Type 0) (file here : Text)
    (names rest : List (Bor Text)) (d : Bor Text) (e : WalkError) → 1 ≤ length rest
    → IsUnreadFor fails folders file here (get_or rest 0 d).now e
    → IsOneTo (λ name. IsUnreadFor fails folders file here name.now e) names rest
    → IsUnreadForOne fails folders file here names e
unread_first fails folders file here names [] d e some is so_far = absurd (omega (arith, some))
unread_first fails folders file here names (name ∷ after) d e some is so_far = so_far (inl is)

-- It can't be read for one of those after it.
pub unread_later : (fails : Text → ErrorKind → Type 0) (folders : Text → Bool → Type 0) (file here : Text)
    (names rest : List (Bor Text)) (count : ℕ) (e : WalkError)
    → IsUnreadForOne fails folders file here (take count (drop 1 rest)) e
    → IsOneTo (λ name. IsUnreadFor fails folders file here name.now e) names rest
    → IsUnreadForOne fails folders file here names e
unread_later fails folders file here names rest count e is so_far =
    so_far (of_after (λ name. IsUnreadFor fails folders file here name.now e) rest count is)

-- Memory runs out at the first of the remaining names.
pub no_memory : (fails : Text → ErrorKind → Type 0) (folders : Text → Bool → Type 0) (file here : Text)
    (names rest : List (Bor Text)) (e : WalkError) → 1 ≤ length rest → e ≡ Memory
    → IsOneTo (λ name. IsUnreadFor fails folders file here name.now e) names rest
    → IsUnreadForOne fails folders file here names e
no_memory fails folders file here names [] e some is so_far = absurd (omega (arith, some))
no_memory fails folders file here names (name ∷ after) e some is so_far =
    so_far (inl (subst (IsUnreadFor fails folders file here name.now) (sym is) tt))

-- the groups so far: with those of the rest they are all groups
abbrev pub AreGroupsTo : (Text → Option Site → Type 0) → List (Bor Text) → List (Bor Text) → List NameGroup → Type 0
AreGroupsTo Found names rest groups =
    (more : List NameGroup) → AreGroupsOf Found rest more → AreGroupsOf Found names (groups ++ more)

pub no_group : (Found : Text → Option Site → Type 0) (names : List (Bor Text)) (groups : List NameGroup) → groups ≡ []
    → AreGroupsTo Found names names groups
no_group Found names groups none more are = subst (λ gs. AreGroupsOf Found names (gs ++ more)) (sym none) are

-- one more group
pub one_group : (Found : Text → Option Site → Type 0) (names rest after own others : List (Bor Text))
    (name : Bor Text) (found : Option Nearest) (left : ℕ) (groups new : List NameGroup)
    → rest ≡ name ∷ after → Found name.now (site_any found)
    → ((last : List (Bor Text)) × (left ≡ length last) × HaveSame Found (site_any found) after last)
    → own ≡ take (length rest - left) rest → others ≡ drop (length rest - left) rest
    → ((group : NameGroup) × (new ≡ groups ++ group ∷ []) × (group.names.now ≡ own) × (group.found ≡ found))
    → AreGroupsTo Found names rest groups → AreGroupsTo Found names others new
one_group Found names rest after own others name found left groups new split first run taken dropped added so_far
    more are =
    let last = run.0 in
    let same = run.2 in
    let group = added.0 in
    let front = name ∷ same.front in
    let whole : rest ≡ front ++ last = split ∙ ap (λ r. name ∷ r) same.whole in
    let long : length front ≡ length rest - left =
    omega (arith, run.1, ap (λ (ns : List (Bor Text)). length ns) whole, length-append front last) in
    let here : own ≡ front =
    taken ∙ (ap (λ k. take k rest) (sym long) ∙ (ap (take (length front)) whole ∙ take-append_seam front last)) in
    let there : others ≡ last =
    dropped ∙ (ap (λ k. drop k rest) (sym long) ∙ (ap (drop (length front)) whole ∙ drop-append_seam front last)) in
    let names_are : group.names.now ≡ front = added.2 ∙ here in
    let have : AllHave Found (site_any group.found) group.names.now =
    subst (λ (f : Option Nearest). AllHave Found (site_any f) group.names.now) (sym added.3)
    (subst (AllHave Found (site_any found)) (sym names_are) (first, same.each)) in
    let all : AreGroupsOf Found rest (group ∷ more) = (
      others,
      whole ∙ (ap (λ r. front ++ r) (sym there) ∙ ap (λ f. f ++ others) (sym names_are)),
      λ none. not_none same.front (sym names_are ∙ none),
      have,
      are,
    ) in
    subst (AreGroupsOf Found names) (sym (append_assoc groups (group ∷ []) more) ∙ ap (λ g. g ++ more) (sym added.1))
    (so_far (group ∷ more) all)
  where
    not_none : (front : List (Bor Text)) → ◌≡◌ {A = List (Bor Text)} (name ∷ front) [] → ⊥
    not_none front none = absurd cc

pub all_groups : (Found : Text → Option Site → Type 0) (names rest : List (Bor Text)) (groups : List NameGroup) → rest ≡ []
    → AreGroupsTo Found names rest groups → AreGroupsOf Found names groups
all_groups Found names rest groups none so_far =
    subst (AreGroupsOf Found names) (append-nil groups) (so_far [] none)

-- Some names are given.
pub some_named : (Found : Text → Option Site → Type 0) (names : List (Bor Text)) (groups : List NameGroup)
    → length names ≢ 0 → AreGroupsOf Found names groups → AreGroups Found names groups
some_named Found [] groups some are = absurd (some refl)
some_named Found (name ∷ names) groups some are = are

-- No name is given.
pub none_named : (Found : Text → Option Site → Type 0) (names : List (Bor Text)) (group : NameGroup)
    (before groups : List NameGroup) → length names ≡ 0 → group.names.now ≡ names → Found (codes "-") (site_any group.found)
    → before ≡ [] → groups ≡ before ++ group ∷ [] → AreGroups Found names groups
none_named Found [] group before groups none named found empty pushed =
    (group, pushed ∙ ap (λ b. b ++ group ∷ []) empty, named, found)
none_named Found (name ∷ names) group before groups none named found empty pushed = absurd (omega (arith, none))

-- The file can't be read for one of the names that are given.
pub unread_named : (fails : Text → ErrorKind → Type 0) (folders : Text → Bool → Type 0) (file here : Text)
    (names : List (Bor Text)) (e : WalkError) → length names ≢ 0 → IsUnreadForOne fails folders file here names e
    → IsUnreadForAny fails folders file here names e
unread_named fails folders file here [] e some is = absurd (some refl)
unread_named fails folders file here (name ∷ names) e some is = is

-- It can't be read for the standard input, if no name is given.
pub unread_input : (fails : Text → ErrorKind → Type 0) (folders : Text → Bool → Type 0) (file here : Text)
    (names : List (Bor Text)) (e : WalkError) → length names ≡ 0 → IsUnreadFor fails folders file here (codes "-") e
    → IsUnreadForAny fails folders file here names e
unread_input fails folders file here [] e none is = is
unread_input fails folders file here (name ∷ names) e none is = absurd (omega (arith, none))
