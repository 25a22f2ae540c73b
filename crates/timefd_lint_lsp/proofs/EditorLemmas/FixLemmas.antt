-- One action that fixes all descriptions.
use Rattle.std.proofs.Common.{ℕ, ◌≡◌, ◌==◌, Bool, true, false, None, Some, List, [], ◌∷◌, ◌++◌, length, inl, inr, refl, sym, subst, ap, ◌∙◌, arith, eqb-true, eq-eqb}
use Rattle.std.proofs.lemmas.Bool.{true≢false}
use Rattle.std.specs.Prelude.{IsUtf8, codes, string_bytes}
use Rattle.std.specs.declared.alloc.Global.{Global}
use Rattle.std.specs.declared.vec.Vec.{Vec}
use Rattle.timefd_parse.specs.Tree.{Text}
use Rattle.timefd_lint_lsp.proofs.EditorLemmas.EachLemmas.{none_added, wanted}
use Rattle.timefd_lint_lsp.specs.declared.editor.action.Action.{Action}
use Rattle.timefd_lint_lsp.specs.declared.editor.action.ActionKind.TheVariants.{FixAll}
use Rattle.timefd_lint_lsp.specs.declared.editor.action.Edit.{Edit}
use Rattle.timefd_lint_lsp.specs.Editor.AllFixes.{AreAsOneAction, AreFixes, AreFixesTo, IsFixAll, IsWritable}
use Rattle.timefd_lint_lsp.specs.Editor.Each.{Adds, AreIf, AreOf}
use Rattle.timefd_lint_lsp.specs.Editor.Edits.{AreEdits}
use Rattle.timefd_lint_rewrite.specs.declared.cure.Fixes.TheVariants.{Sure}
use Rattle.timefd_lint_sources.specs.declared.rewriting.answer.NewParts.{NewParts}
use Rattle.timefd_lint_sources.specs.declared.rewriting.answer.Answer.TheVariants.{Stays, Becomes}
use Rattle.timefd_lint_sources.specs.declared.rewriting.change.Change.TheVariants.{Mended}
use Rattle.timefd_lint_sources.specs.declared.rewriting.outcome.Outcome.{Outcome}
use Rattle.timefd_lint_sources.specs.Rewriting.Written.{IsAnswer, items_of}
use Rattle.timefd_lint_scan.specs.declared.description.SourceDescription.{SourceDescription}

-- The body stays.
pub same_body : (text : Text) (d : SourceDescription) (rewritten : NewParts) (before after : List Edit)
    → rewritten.body ≡ None → Adds (AreEdits text d rewritten.digit None) before after
    → Adds (AreFixesTo text d rewritten) before after
same_body text d rewritten before after is (more, are, whole) =
    (more, inl (subst (λ b. AreEdits text d rewritten.digit (items_of b) more) (sym is) are), whole)

pub other_body : (text : Text) (d : SourceDescription) (rewritten : NewParts) (body : Vec ℕ Global) (new : Text)
    (before after : List Edit) → rewritten.body ≡ Some body → new ≡ body.items
    → Adds (AreEdits text d rewritten.digit (Some new)) before after → Adds (AreFixesTo text d rewritten) before after
other_body text d rewritten body new before after is same (more, are, whole) = (
  more,
  inl (subst (λ b. AreEdits text d rewritten.digit (items_of b) more) (sym is)
      (subst (λ t. AreEdits text d rewritten.digit (Some t) more) same are)),
  whole,
)

pub no_body : (text : Text) (d : SourceDescription) (rewritten : NewParts) (body : Vec ℕ Global) (before : List Edit)
    → rewritten.body ≡ Some body → ¬ IsUtf8 body.items → Adds (AreFixesTo text d rewritten) before before
no_body text d rewritten body before is not =
    none_added (AreFixesTo text d rewritten) before
    (inr ((λ utf8. not (subst (λ b. IsWritable (items_of b)) is utf8)), refl))

pub stays : (text : Text) (d : SourceDescription) (outcome : Outcome) (before : List Edit)
    → IsAnswer (Mended Sure) text d (Stays outcome) → Adds (AreFixes text d) before before
stays text d outcome before is =
    none_added (AreFixes text d) before (record { answer = Stays outcome; is = is; made = refl })

pub becomes : (text : Text) (d : SourceDescription) (rewritten : NewParts) (before after : List Edit)
    → IsAnswer (Mended Sure) text d (Becomes rewritten) → Adds (AreFixesTo text d rewritten) before after
    → Adds (AreFixes text d) before after
becomes text d rewritten before after is (more, made, whole) =
    (more, record { answer = Becomes rewritten; is = is; made = made }, whole)

empty_list : (edits : List Edit) → length edits ≡ 0 → edits ≡ []
empty_list [] none = refl
empty_list (e ∷ edits) none = absurd (omega (arith, none))

pub no_edits : (edits : Vec Edit Global) (empty : Bool) (before : List Action) → empty ≡ (edits.len == 0)
    → empty ≡ true → Adds (AreAsOneAction edits.items) before before
no_edits edits empty before is said =
    let none : edits.items ≡ [] =
    empty_list edits.items (sym edits.ok.0 ∙ eqb-true edits.len 0 (sym is ∙ said)) in
    subst (λ l. Adds (AreAsOneAction l) before before) (sym none) (none_added (AreAsOneAction []) before refl)

as_one : (edits : List Edit) (a : Action) (before after : List Action) → ¬ (length edits ≡ 0)
    → string_bytes a.title ≡ codes "Mend all format descriptions" → a.kind ≡ FixAll → a.edits.items ≡ edits
    → after ≡ before ++ (a ∷ []) → Adds (AreAsOneAction edits) before after
as_one [] a before after some title kind all whole = absurd (some refl)
as_one (e ∷ edits) a before after some title kind all whole = (a ∷ [], (a, title, kind, all, refl), whole)

pub some_edits : (edits : Vec Edit Global) (empty : Bool) (a : Action) (before after : List Action)
    → empty ≡ (edits.len == 0) → empty ≡ false → string_bytes a.title ≡ codes "Mend all format descriptions"
    → a.kind ≡ FixAll → a.edits ≡ edits → after ≡ before ++ (a ∷ [])
    → Adds (AreAsOneAction edits.items) before after
some_edits edits empty a before after is said title kind all whole =
    as_one edits.items a before after
    (λ none. true≢false (sym (eq-eqb edits.len 0 (edits.ok.0 ∙ none)) ∙ sym is ∙ said))
    title kind (ap (λ v. v.items) all) whole

pub all_fixed : (text : Text) (ds : List SourceDescription) (is_wanted : Bool) (empty edits : List Edit)
    (before after : List Action) → is_wanted ≡ true → empty ≡ [] → Adds (AreOf (AreFixes text) ds) empty edits
    → Adds (AreAsOneAction edits) before after → Adds (AreIf is_wanted (IsFixAll text ds)) before after
all_fixed text ds is_wanted empty edits before after said none (made, are, whole) (more, one, added) =
    let is : edits ≡ made = whole ∙ ap (λ l. l ++ made) none in
    wanted (IsFixAll text ds) is_wanted before after said
    (more, (made, are, subst (λ l. AreAsOneAction l more) is one), added)
