-- What is offered for one description.
use Rattle.std.proofs.Common.{ℕ, ◌≡◌, Bool, true, false, Option, None, Some, List, [], ◌∷◌, ◌++◌, inl, inr, refl, sym, subst, ap, ◌∙◌}
use Rattle.std.proofs.lemmas.List.{append-nil}
use Rattle.std.specs.Prelude.{IfOk, IsUtf8, Result, Ok, Err, string_bytes}
use Rattle.std.specs.declared.alloc.Global.{Global}
use Rattle.std.specs.declared.vec.Vec.{Vec}
use Rattle.timefd_parse.specs.Tree.{Text}
use Rattle.timefd_lint_lsp.proofs.EditorLemmas.EachLemmas.{both_added, none_added, unwanted, wanted}
use Rattle.timefd_lint_lsp.specs.declared.editor.action.Action.{Action}
use Rattle.timefd_lint_lsp.specs.declared.editor.action.Edit.{Edit}
use Rattle.timefd_lint_lsp.specs.declared.editor.action.WantedActions.{WantedActions}
use Rattle.timefd_lint_lsp.specs.Editor.Actions.{AreActionsBy, AreActionsIn, AreActionsOf, AreMends, AreOffers, AreRewrites, IsBecoming, IsOffer, IsOfferOf, IsOneAction, kind_of, overlaps, title_of}
use Rattle.timefd_lint_lsp.specs.Editor.AllFixes.{IsFixAll, IsWritable}
use Rattle.timefd_lint_lsp.specs.Editor.Each.{Adds, AreIf, AreOf}
use Rattle.timefd_lint_lsp.specs.Editor.Edits.{AreEdits}
use Rattle.timefd_lint_rewrite.specs.declared.cure.Fixes.TheVariants as fixes
use Rattle.timefd_language.specs.declared.description_version.DescriptionVersion.TheVariants as versions
use Rattle.timefd_lint_sources.specs.declared.reported.Finder.TheVariants.{Rust, Keys}
use Rattle.timefd_lint_sources.specs.declared.reported.SourceText.{SourceText}
use Rattle.timefd_lint_scan.specs.declared.keys.format.FileFormat.{FileFormat}
use Rattle.timefd_lint_scan.specs.declared.keys.key.DescriptionKey.{DescriptionKey}
use denote.Ref.{Bor}
use Rattle.timefd_lint_sources.specs.declared.rewriting.answer.NewParts.{NewParts}
use Rattle.timefd_lint_sources.specs.declared.rewriting.answer.Answer.{Answer}
use Rattle.timefd_lint_sources.specs.declared.rewriting.answer.Answer.TheVariants.{Stays, Becomes}
use Rattle.timefd_lint_sources.specs.declared.rewriting.change.Change.{Change}
use Rattle.timefd_lint_sources.specs.declared.rewriting.change.Change.TheVariants.{Mended, Least}
use Rattle.timefd_lint_sources.specs.declared.rewriting.outcome.Outcome.{Outcome}
use Rattle.timefd_lint_sources.specs.Rewriting.Written.{IsAnswer, items_of}
use Rattle.timefd_lint_scan.specs.declared.description.SourceDescription.{SourceDescription}
use Rattle.timefd_lint_scan.specs.declared.own_call.OwnCall.{OwnCall}
use Rattle.timefd_lint_scan.specs.DocLooks.{AreDescriptionsOf}
use Rattle.timefd_lint_scan.specs.Found.{AllStandIn, AreInOrder}

pub same_text : (change : Change) (text : Text) (d : SourceDescription) (rewritten : NewParts) (before after : List Action)
    → rewritten.body ≡ None → Adds (IsOneAction change text d rewritten.digit None) before after
    → Adds (IsBecoming change text d rewritten true) before after
same_text change text d rewritten before after is added =
    subst (λ b. Adds (IsOneAction change text d rewritten.digit (items_of b)) before after) (sym is) added

pub other_text : (change : Change) (text : Text) (d : SourceDescription) (rewritten : NewParts) (body : Vec ℕ Global)
    (new : Text) (before after : List Action) → rewritten.body ≡ Some body → new ≡ body.items
    → Adds (IsOneAction change text d rewritten.digit (Some new)) before after
    → Adds (IsBecoming change text d rewritten true) before after
other_text change text d rewritten body new before after is same added =
    subst (λ b. Adds (IsOneAction change text d rewritten.digit (items_of b)) before after) (sym is)
    (subst (λ t. Adds (IsOneAction change text d rewritten.digit (Some t)) before after) same added)

pub no_text : (change : Change) (text : Text) (d : SourceDescription) (rewritten : NewParts) (body : Vec ℕ Global)
    (before : List Action) → rewritten.body ≡ Some body → ¬ IsUtf8 body.items
    → Adds (IsBecoming change text d rewritten false) before before
no_text change text d rewritten body before is not =
    none_added (IsBecoming change text d rewritten false) before
    ((λ utf8. not (subst (λ b. IsWritable (items_of b)) is utf8)), refl)

pub stays : (change : Change) (text : Text) (d : SourceDescription) (outcome : Outcome) (before : List Action)
    → IsAnswer change text d (Stays outcome) → Adds (IsOffer change text d false) before before
stays change text d outcome before is =
    none_added (IsOffer change text d false) before (record { answer = Stays outcome; is = is; offered = refl })

pub becomes : {E : Type 0} (change : Change) (text : Text) (d : SourceDescription) (rewritten : NewParts)
    (before after : List Action) (done : Result Bool E) → IsAnswer change text d (Becomes rewritten)
    → IfOk done (λ b. Adds (IsBecoming change text d rewritten b) before after)
    → IfOk done (λ b. Adds (IsOffer change text d b) before after)
becomes change text d rewritten before after (Ok b) is (more, offered, added) =
    (more, record { answer = Becomes rewritten; is = is; offered = offered }, added)
becomes change text d rewritten before after (Err e) is added = tt

pub surely : (text : Text) (d : SourceDescription) (before after : List Action) (done : Bool) → done ≡ true
    → Adds (IsOffer (Mended fixes.Sure) text d done) before after → Adds (AreMends text d) before after
surely text d before after done is (more, offered, whole) =
    (more, inl (subst (λ b. IsOffer (Mended fixes.Sure) text d b more) is offered), whole)

none_offered : (change : Change) (text : Text) (d : SourceDescription) (answer : Answer) (actions : List Action)
    → IsOfferOf change text d answer false actions → actions ≡ []
none_offered change text d (Stays outcome) actions none = none
none_offered change text d (Becomes rewritten) actions none = none.1

pub by_guesses : (text : Text) (d : SourceDescription) (before middle after : List Action) (first second : Bool)
    → first ≡ false → Adds (IsOffer (Mended fixes.Sure) text d first) before middle
    → Adds (IsOffer (Mended fixes.All) text d second) middle after → Adds (AreMends text d) before after
by_guesses text d before middle after first second is (none, sure, a) (more, guess, b) =
    let sure' : IsOffer (Mended fixes.Sure) text d false none =
    subst (λ x. IsOffer (Mended fixes.Sure) text d x none) is sure in
    let empty : none ≡ [] = none_offered (Mended fixes.Sure) text d sure'.answer none sure'.offered in (
      more,
      inr (second, subst (λ l. IsOffer (Mended fixes.Sure) text d false l) empty sure', guess),
      b ∙ ap (λ l. l ++ more) (a ∙ ap (λ l. before ++ l) empty ∙ append-nil before),
    )

pub rewritten : (text : Text) (d : SourceDescription) (before after : List Action) (is_wanted done : Bool)
    → is_wanted ≡ true → Adds (IsOffer (Least versions.Three) text d done) before after
    → Adds (AreIf is_wanted (AreRewrites text d)) before after
rewritten text d before after is_wanted done asked (more, offered, whole) =
    wanted (AreRewrites text d) is_wanted before after asked (more, (done, offered), whole)

pub mends_and_rewrites : (asked : WantedActions) (text : Text) (d : SourceDescription) (before middle after : List Action)
    → Adds (AreIf asked.fixes (AreMends text d)) before middle
    → Adds (AreIf asked.rewrites (AreRewrites text d)) middle after → Adds (AreOffers asked text d) before after
mends_and_rewrites asked text d before middle after first second =
    both_added (AreIf asked.fixes (AreMends text d)) (AreIf asked.rewrites (AreRewrites text d))
    (AreOffers asked text d) before middle after (λ one rest is are. (one, rest, is, are, refl)) first second

pub apart : (asked : WantedActions) (text : Text) (d : SourceDescription) (from to : ℕ) (before : List Action)
    → overlaps d.piece from to ≡ false → Adds (AreActionsIn asked text from to d) before before
apart asked text d from to before is =
    unwanted (AreOffers asked text d) (overlaps d.piece from to) before is

pub within : (asked : WantedActions) (text : Text) (d : SourceDescription) (from to : ℕ) (before after : List Action)
    → overlaps d.piece from to ≡ true → Adds (AreOffers asked text d) before after
    → Adds (AreActionsIn asked text from to d) before after
within asked text d from to before after is added =
    wanted (AreOffers asked text d) (overlaps d.piece from to) before after is added

pub by_rust : (s : SourceText) (asked : WantedActions) (from to : ℕ) (calls : Bor (List OwnCall)) (ds : List SourceDescription)
    (middle actions : List Action) → s.finder ≡ Rust calls → AreDescriptionsOf s.text.now calls.now ds → AllStandIn s.text.now ds → AreInOrder 0 ds
    → Adds (AreOf (AreActionsIn asked s.text.now from to) ds) [] middle
    → Adds (AreIf asked.fix_all (IsFixAll s.text.now ds)) middle actions → AreActionsOf asked from to s actions
by_rust s asked from to calls ds middle actions is all stand in_order (each, offered, first) (fix_all, fixed, second) =
    subst (λ f. AreActionsBy f asked from to s.text.now actions) (sym is) (record {
      descriptions = ds;
      all = all;
      stand = stand;
      in_order = in_order;
      each = each;
      fix_all = fix_all;
      offered = offered;
      fixed = fixed;
      whole = second ∙ ap (λ l. l ++ fix_all) first;
    })

pub by_keys : (s : SourceText) (asked : WantedActions) (from to : ℕ) (format : FileFormat) (keys : Bor (List DescriptionKey))
    (actions : List Action) → s.finder ≡ Keys format keys → actions ≡ [] → AreActionsOf asked from to s actions
by_keys s asked from to format keys actions is none =
    subst (λ f. AreActionsBy f asked from to s.text.now actions) (sym is) none

pub pushed : (change : Change) (text : Text) (d : SourceDescription) (digit : Option ℕ) (body : Option Text)
    (a : Action) (empty : List Edit) (before after : List Action) → empty ≡ []
    → string_bytes a.title ≡ title_of change → a.kind ≡ kind_of change
    → Adds (AreEdits text d digit body) empty a.edits.items → after ≡ before ++ (a ∷ [])
    → Adds (IsOneAction change text d digit body) before after
pushed change text d digit body a empty before after none title kind (more, are, whole) added = (
  a ∷ [],
  (
    a,
    record {
      title = title;
      kind = kind;
      edits = subst (λ e. AreEdits text d digit body e) (sym (whole ∙ ap (λ e. e ++ more) none)) are;
    },
    refl,
  ),
  added,
)
