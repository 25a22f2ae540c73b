-- Notes on descriptions that have to be changed manually.
use Rattle.std.proofs.Common.{Bool, true, false, string_bytes, ℕ, ◌≡◌, ◌∙◌, ◌+◌, ◌-◌, ◌<◌, ◌++◌, ◌∷◌, [], min, List, Option, None, Some, inl, inr, refl, ap, arith, subst, sym, length, drop, length-drop}
use Rattle.std.specs.Prelude.{Result, Ok, Err, IfOk, IfSome, IsUtf8, String, option_map}
use Rattle.std.specs.List.{list_any}
use Rattle.std.specs.declared.alloc.Global.{Global}
use denote.Ref.{Bor}
use Rattle.timefd_parse.specs.Tree.{Text}
use Rattle.timefd_parse.specs.Faults.{Fault}
use Rattle.timefd_lint_rewrite.specs.declared.layout.Layout.{Layout}
use Rattle.timefd_lint_rewrite.specs.Layouts.{IsRefusedFor}
use Rattle.timefd_lint_scan.specs.declared.description.SourceDescription.{SourceDescription}
use Rattle.timefd_lint_scan.specs.declared.own_call.OwnCall.{OwnCall}
use Rattle.timefd_lint_scan.specs.DocLooks.{AreDescriptionsOf}
use Rattle.timefd_lint_sources.specs.Judged.{text_of}
use Rattle.timefd_lint_sources.specs.Rewriting.Changes.{layout_of}
use Rattle.timefd_lint_sources.specs.Rewriting.Written.{Becoming, IsLaidOutBy}
use Rattle.timefd_lint_sources.specs.declared.rewriting.change.Change.{Change}
use Rattle.timefd_lint_sources.specs.declared.rewriting.outcome.Outcome.{Outcome}
use Rattle.timefd_lint_drawing.specs.Positions.{column, line_number}
use Rattle.timefd_lint_drawing.specs.Shown.{safe}
use Rattle.timefd_lint.specs.Manual.{AddsNote, AddsReason, AreNotes, AreNotesIf, AreNotesOn, AreNotesTo, BecomesNothing, note, place, position, version_of, wants_hand}
use Rattle.timefd_lint.specs.Manual.Literals.{IsLiteralOf}
use Rattle.timefd_lint.specs.Manual.Reasons.{reason}

pub no_layout : (change : Change) (d : SourceDescription) (text : Text) → text ≡ text_of d
    → layout_of change d.dialect text ≡ None → BecomesNothing change d
no_layout change d text same none =
    inl (subst (λ (t : Text). layout_of change d.dialect t ≡ None) same none)

pub no_utf8 : (change : Change) (d : SourceDescription) (text : Text) → text ≡ text_of d → ¬ IsUtf8 text
    → BecomesNothing change d
no_utf8 change d text same none = inr (inl (subst (λ (t : Text). ¬ IsUtf8 t) same none))

-- Where the layout refuses the text, nothing becomes of it.
pub refused_by : {E : Type 0} (change : Change) (d : SourceDescription) (layout : Layout) (text : Text)
    (r : Result (Option (String Global)) E) → text ≡ text_of d → IsLaidOutBy change d layout
    → IfOk r (λ found. found ≡ None → (f : Fault) × IsRefusedFor layout text f)
    → IfOk r (λ found. found ≡ None → BecomesNothing change d)
refused_by change d layout text (Err e) same by is = tt
refused_by change d layout text (Ok found) same by is = λ none.
    inr (inr (layout, by, subst (λ (t : Text). (f : Fault) × IsRefusedFor layout t f) same (is none)))

-- The descriptions up to an index have their notes: those on the others decide.
pub record AreNotedTo (change : Change) (version name source : Text) (ds : List SourceDescription) (os : List Outcome)
    (index : ℕ) (notes : Text) : Type 0 where
  pub others : (last : Text) → AreNotesOn change version name source (drop index ds) (drop index os) notes last
      → AreNotesOn change version name source ds os [] last

pub none_yet : (change : Change) (version name source : Text) (ds : List SourceDescription) (os : List Outcome)
    (notes : Text) → notes ≡ [] → AreNotedTo change version name source ds os 0 notes
none_yet change version name source ds os notes none = record {
  others = λ last rest. subst (λ n. AreNotesOn change version name source ds os n last) none rest;
}

pub one_more : (change : Change) (version name source : Text) (ds : List SourceDescription) (os : List Outcome)
    (index : ℕ) (d : SourceDescription) (o : Outcome) (before after : Text)
    → drop index ds ≡ d ∷ drop (index + 1) ds → drop index os ≡ o ∷ drop (index + 1) os
    → AddsNote change version name source d o before after
    → AreNotedTo change version name source ds os index before
    → AreNotedTo change version name source ds os (index + 1) after
one_more change version name source ds os index d o before after is_d is_o added so_far = record {
  others = λ last rest. so_far.others last
      (subst (λ r. AreNotesOn change version name source r (drop index os) before last) (sym is_d)
      (subst (λ r. AreNotesOn change version name source (d ∷ drop (index + 1) ds) r before last) (sym is_o)
      (after, added, rest)));
}

stops : (change : Change) (version name source : Text) (ds : List SourceDescription) (os : List Outcome) (notes : Text)
    → min (length ds) (length os) ≡ 0 → AreNotesOn change version name source ds os notes notes
stops change version name source [] os notes none = refl
stops change version name source (d ∷ ds) [] notes none = refl
stops change version name source (d ∷ ds) (o ∷ os) notes none = absurd (omega (arith, none))

pub all_noted : (change : Change) (version name source : Text) (ds : List SourceDescription) (os : List Outcome)
    (count : ℕ) (notes : Text) → count ≡ min (length ds) (length os)
    → AreNotedTo change version name source ds os count notes
    → AreNotesOn change version name source ds os [] notes
all_noted change version name source ds os count notes is so_far = so_far.others notes
    (stops change version name source (drop count ds) (drop count os) notes
    (omega (arith, is, length-drop count ds, length-drop count os)))

pub placed_at : (name source : Text) (d : SourceDescription) (file shown : Text) (line col : ℕ) → file ≡ shown
    → shown ≡ safe name → line ≡ line_number 1 source d.piece.start → col ≡ column source d.piece.start
    → (text : Text) → text ≡ place file line col → text ≡ position name source d
placed_at name source d file shown line col same safely is_line is_col text is =
    is ∙ ap (λ f. place f line col) (same ∙ safely) ∙ ap (λ l. place (safe name) l col) is_line
    ∙ ap (place (safe name) (line_number 1 source d.piece.start)) is_col

-- The note on a description, and the texts that it is made of.
pub reasoned : (change : Change) (version name source : Text) (d : SourceDescription) (found : Option (String Global))
    (new : String Global) (text literal raw shown slice why shown_reason before after : Text) → found ≡ Some new
    → IfSome found (λ n. Becoming change d (string_bytes n)) → text ≡ string_bytes new
    → IsLiteralOf source d text literal → raw ≡ literal → shown ≡ safe raw → slice ≡ shown
    → why ≡ reason version source d slice → shown_reason ≡ why → after ≡ before ++ note name source d shown_reason
    → AddsReason change version name source d before after
reasoned change version name source d found new text literal raw shown slice why shown_reason before after is becoming same
    literally is_raw is_shown is_slice is_why is_reported noted =
    let said : shown_reason ≡ reason version source d (safe literal) =
    is_reported ∙ is_why ∙ ap (λ t. reason version source d t) (is_slice ∙ is_shown ∙ ap safe is_raw) in
    inl (
      string_bytes new,
      subst (λ f. IfSome f (λ n. Becoming change d (string_bytes n))) is becoming,
      (
        literal,
        subst (λ t. IsLiteralOf source d t literal) same literally,
        noted ∙ ap (λ w. before ++ note name source d w) said,
      ),
    )

version_is : (change : Change) (found : Option (Bor Text)) (version : Bor Text)
    → option_map (λ (v : Bor Text). v.now) found ≡ version_of change → found ≡ Some version
    → Some version.now ≡ version_of change
version_is change found version same is = sym (ap (λ f. option_map (λ (v : Bor Text). v.now) f) is) ∙ same

-- No description wants to be changed manually.
pub silent : (change : Change) (name source : Text) (own : List OwnCall) (outcomes : List Outcome) (found : Option (Bor Text))
    (version : Bor Text) (any : Bool) (notes : Text)
    → option_map (λ (v : Bor Text). v.now) found ≡ version_of change → found ≡ Some version
    → any ≡ list_any wants_hand outcomes → any ≡ false → notes ≡ []
    → AreNotes change name source own outcomes notes
silent change name source own outcomes found version any notes same is any_is none empty =
    subst (λ v. AreNotesTo v change name source own outcomes notes) (version_is change found version same is)
    (subst (λ b. AreNotesIf b change version.now name source own outcomes notes) (sym none ∙ any_is) empty)

-- Some description does.
pub noted_all : (change : Change) (name source : Text) (own : List OwnCall) (outcomes : List Outcome) (found : Option (Bor Text))
    (version : Bor Text) (any : Bool) (ds slice : List SourceDescription)
    → option_map (λ (v : Bor Text). v.now) found ≡ version_of change → found ≡ Some version
    → any ≡ list_any wants_hand outcomes → any ≡ true → AreDescriptionsOf source own ds → slice ≡ ds → (notes : Text)
    → AreNotesOn change version.now name source slice outcomes [] notes → AreNotes change name source own outcomes notes
noted_all change name source own outcomes found version any ds slice same is any_is some all sliced notes noted =
    subst (λ v. AreNotesTo v change name source own outcomes notes) (version_is change found version same is)
    (subst (λ b. AreNotesIf b change version.now name source own outcomes notes) (sym some ∙ any_is)
    (ds, all, subst (λ l. AreNotesOn change version.now name source l outcomes [] notes) sliced noted))
