-- One more byte of a name whose folders may be excluded.
use Rattle.std.proofs.Common.{◌≡◌, ℕ, Bool, true, false, List, [], ◌∷◌, ◌++◌, refl, sym, ap, ◌∙◌, append-nil}
use Rattle.timefd_lint_files.specs.Matching.{Text}
use Rattle.timefd_lint_files.specs.declared.ignore_file.IgnoreFile.{IgnoreFile}
use Rattle.timefd_lint_files.specs.declared.start.Excluded.{Excluded}
use Rattle.timefd_lint_files.specs.Starts.{path_below}
use Rattle.timefd_lint_files.specs.Rules.{is_ignored}
use Rattle.timefd_lint_files.specs.Walks.{IsAlone, IsKept, front_of, is_out, is_out_from, is_out_here, unless_out}

pub goes_on : (excluded : List IgnoreFile) (name rest after front : Text) (byte : ℕ) (out : Bool) (all : Bool)
    → rest ≡ byte ∷ after → front ≡ front_of name rest → out ≡ is_out_here excluded front byte → out ≡ false
    → is_out_from excluded name rest ≡ all → is_out_from excluded name after ≡ all
goes_on excluded name rest after front byte out all split at is none so_far =
    let here : is_out_here excluded (front_of name (byte ∷ after)) byte ≡ false =
    ap (λ f. is_out_here excluded f byte) (sym (at ∙ ap (front_of name) split)) ∙ (sym is ∙ none) in
    let whole : is_out_from excluded name (byte ∷ after) ≡ is_out_from excluded name after = rw here refl in
    sym whole ∙ (ap (is_out_from excluded name) (sym split) ∙ so_far)

pub is_found : (excluded : List IgnoreFile) (name rest after front : Text) (byte : ℕ) (out : Bool) (all : Bool)
    → rest ≡ byte ∷ after → front ≡ front_of name rest → out ≡ is_out_here excluded front byte → out ≡ true
    → is_out_from excluded name rest ≡ all → true ≡ all
is_found excluded name rest after front byte out all split at is one so_far =
    let here : is_out_here excluded (front_of name (byte ∷ after)) byte ≡ true =
    ap (λ f. is_out_here excluded f byte) (sym (at ∙ ap (front_of name) split)) ∙ (sym is ∙ one) in
    let whole : is_out_from excluded name (byte ∷ after) ≡ true = rw here refl in
    sym whole ∙ (ap (is_out_from excluded name) (sym split) ∙ so_far)

pub at_last : (excluded : List IgnoreFile) (name rest : Text) (out all : Bool) → rest ≡ []
    → out ≡ is_ignored excluded name false → is_out_from excluded name rest ≡ all → out ≡ all
at_last excluded name rest out all none is so_far =
    is ∙ (ap (is_out_from excluded name) (sym none) ∙ so_far)

-- whether the file is excluded, by borrowed patterns and the bytes of its name
same_out : (name bytes : Text) (excluded borrowed : List IgnoreFile) (out answer : Bool) → borrowed ≡ excluded
    → bytes ≡ name → out ≡ is_out borrowed bytes → out ≡ answer → is_out excluded name ≡ answer
same_out name bytes excluded borrowed out answer same spelled is answered =
    sym (is ∙ (λ i. is_out (same i) (spelled i))) ∙ answered

-- whether the file of a name is excluded
named_out : (excluded : Excluded) (name path bytes : Text) (files borrowed : List IgnoreFile) (out answer : Bool)
    → borrowed ≡ files → bytes ≡ path → path ≡ path_below excluded name
    → out ≡ is_out borrowed bytes → out ≡ answer → is_out files (path_below excluded name) ≡ answer
named_out excluded name path bytes files borrowed out answer same read at is answered =
    ap (is_out files) (sym at) ∙ same_out path bytes files borrowed out answer same read is answered

-- A file that is kept adds its name, and one that is excluded adds none.
pub kept : (excluded : Excluded) (name path bytes : Text) (files borrowed : List IgnoreFile) (out : Bool)
    (old new : List Text) → IsAlone [] 0 excluded.patterns.now files → borrowed ≡ files → bytes ≡ path
    → path ≡ path_below excluded name → out ≡ is_out borrowed bytes
    → out ≡ false → new ≡ old ++ name ∷ []
    → (names : List Text) × (new ≡ old ++ names) × IsKept excluded name names
kept excluded name path bytes files borrowed out old new are same read at is stays more = (
  name ∷ [],
  more,
  (
    files,
    are,
    sym (ap (λ o. unless_out o name)
        (named_out excluded name path bytes files borrowed out false same read at is stays)),
  ),
)

pub out : (excluded : Excluded) (name path bytes : Text) (files borrowed : List IgnoreFile) (gone : Bool)
    (old new : List Text) → IsAlone [] 0 excluded.patterns.now files → borrowed ≡ files → bytes ≡ path
    → path ≡ path_below excluded name → gone ≡ is_out borrowed bytes
    → gone ≡ true → new ≡ old
    → (names : List Text) × (new ≡ old ++ names) × IsKept excluded name names
out excluded name path bytes files borrowed gone old new are same read at is one unchanged = (
  [],
  unchanged ∙ sym (append-nil old),
  (
    files,
    are,
    sym (ap (λ o. unless_out o name)
        (named_out excluded name path bytes files borrowed gone true same read at is one)),
  ),
)
