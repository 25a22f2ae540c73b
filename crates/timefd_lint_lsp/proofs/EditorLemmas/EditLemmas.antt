-- Edits that rewrite a description.
use Rattle.std.proofs.Common.{ℕ, ◌≡◌, Option, None, Some, List, [], ◌∷◌, ◌++◌, refl, sym, subst}
use Rattle.std.specs.Prelude.{OnOk, Result, Ok, Err, string_bytes}
use Rattle.timefd_parse.specs.Tree.{Text}
use Rattle.timefd_lint_lsp.proofs.EditorLemmas.EachLemmas.{both_added, none_added}
use Rattle.timefd_lint_lsp.specs.declared.editor.action.Edit.{Edit}
use Rattle.timefd_lint_lsp.specs.Editor.Each.{Adds}
use Rattle.timefd_lint_lsp.specs.Editor.Edits.{AreBodyEdits, AreEdits, AreSaid, AreVersionEdits, IsArgumentEdit, IsDigitEdit, IsOneEdit}
use Rattle.timefd_lint_lsp.specs.Editor.Positions.{range_of}
use Rattle.timefd_lint_scan.specs.declared.description.SourceDescription.{SourceDescription}
use Rattle.timefd_lint_scan.specs.declared.version.VersionPosition.TheVariants.{Digit, Unsaid, Call, Elsewhere}

pub same_version : (text : Text) (d : SourceDescription) (before : List Edit)
    → Adds (AreVersionEdits text d None) before before
same_version text d before = none_added (AreVersionEdits text d None) before refl

pub by_digit : {R E : Type 0} (text : Text) (d : SourceDescription) (at digit : ℕ) (before after : List Edit)
    (done : Result R E) → d.version ≡ Digit at
    → OnOk done (Adds (IsDigitEdit text at digit) before after)
    → OnOk done (Adds (AreVersionEdits text d (Some digit)) before after)
by_digit text d at digit before after done is added =
    subst (λ v. OnOk done (Adds (AreSaid text d.piece.start digit v) before after)) (sym is) added

pub by_argument : {R E : Type 0} (text : Text) (d : SourceDescription) (digit : ℕ) (before after : List Edit)
    (done : Result R E) → d.version ≡ Unsaid
    → OnOk done (Adds (IsArgumentEdit text d.piece.start digit) before after)
    → OnOk done (Adds (AreVersionEdits text d (Some digit)) before after)
by_argument text d digit before after done is added =
    subst (λ v. OnOk done (Adds (AreSaid text d.piece.start digit v) before after)) (sym is) added

pub by_call : (text : Text) (d : SourceDescription) (digit : ℕ) (before : List Edit) → d.version ≡ Call
    → Adds (AreVersionEdits text d (Some digit)) before before
by_call text d digit before is =
    subst (λ v. Adds (AreSaid text d.piece.start digit v) before before) (sym is)
    (none_added (AreSaid text d.piece.start digit Call) before refl)

pub elsewhere : (text : Text) (d : SourceDescription) (digit : ℕ) (before : List Edit) → d.version ≡ Elsewhere
    → Adds (AreVersionEdits text d (Some digit)) before before
elsewhere text d digit before is =
    subst (λ v. Adds (AreSaid text d.piece.start digit v) before before) (sym is)
    (none_added (AreSaid text d.piece.start digit Elsewhere) before refl)

pub same_body : (text : Text) (d : SourceDescription) (before : List Edit)
    → Adds (AreBodyEdits text d None) before before
same_body text d before = none_added (AreBodyEdits text d None) before refl

pub both : {R E : Type 0} (text : Text) (d : SourceDescription) (digit : Option ℕ) (body : Option Text)
    (before middle after : List Edit) (done : Result R E)
    → Adds (AreVersionEdits text d digit) before middle
    → OnOk done (Adds (AreBodyEdits text d body) middle after)
    → OnOk done (Adds (AreEdits text d digit body) before after)
both text d digit body before middle after (Ok x) first others =
    both_added (AreVersionEdits text d digit) (AreBodyEdits text d body) (AreEdits text d digit body)
    before middle after (λ one rest is are. (one, rest, is, are, refl)) first others
both text d digit body before middle after (Err e) first others = tt

pub pushed : (text : Text) (from to : ℕ) (e : Edit) (before after : List Edit)
    → e.range ≡ range_of text from to → after ≡ before ++ (e ∷ [])
    → Adds (IsOneEdit text from to (string_bytes e.text)) before after
pushed text from to e before after ranged whole =
    (e ∷ [], (e, record { range = ranged; text = refl }, refl), whole)

-- An edit, given by indices and a text that are equal to its own.
pub edited : {R E : Type 0} (text : Text) (from from' to to' : ℕ) (new new' : Text) (before after : List Edit)
    (done : Result R E) → from ≡ from' → to ≡ to' → new ≡ new'
    → OnOk done (Adds (IsOneEdit text from to new) before after)
    → OnOk done (Adds (IsOneEdit text from' to' new') before after)
edited text from from' to to' new new' before after done begins ends same added =
    subst (λ i. OnOk done (Adds (IsOneEdit text i to' new') before after)) begins
    (subst (λ i. OnOk done (Adds (IsOneEdit text from i new') before after)) ends
    (subst (λ t. OnOk done (Adds (IsOneEdit text from to t) before after)) same added))

pub other_body : {R E : Type 0} (text : Text) (d : SourceDescription) (body : Option Text) (new : Text)
    (before after : List Edit) (done : Result R E) → body ≡ Some new
    → OnOk done (Adds (AreBodyEdits text d (Some new)) before after)
    → OnOk done (Adds (AreBodyEdits text d body) before after)
other_body text d body new before after done is added =
    subst (λ b. OnOk done (Adds (AreBodyEdits text d b) before after)) (sym is) added
