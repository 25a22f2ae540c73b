-- What can be done to the descriptions of a source.
use Rattle.std.specs.Prelude.{ℕ, ◌≡◌, ◌&&◌, ◌⊎◌, Bool, true, false, nat_le, List, [], ◌∷◌, ◌++◌, codes, Option, string_bytes}
use Rattle.timefd_parse.specs.Tree.{Text}
use Rattle.timefd_lint_lsp.specs.declared.editor.action.Action.{Action}
use Rattle.timefd_lint_lsp.specs.declared.editor.action.ActionKind.{ActionKind}
use Rattle.timefd_lint_lsp.specs.declared.editor.action.ActionKind.TheVariants.{QuickFix, Guess, Rewrite}
use Rattle.timefd_lint_lsp.specs.declared.editor.action.WantedActions.{WantedActions}
use Rattle.timefd_lint_lsp.specs.Editor.AllFixes.{IsFixAll, IsWritable}
use Rattle.timefd_lint_lsp.specs.Editor.Each.{AreIf, AreOf}
use Rattle.timefd_lint_lsp.specs.Editor.Edits.{AreEdits}
use Rattle.timefd_lint_rewrite.specs.declared.cure.Fixes.TheVariants as fixes
use Rattle.timefd_language.specs.declared.description_version.DescriptionVersion.TheVariants as versions
use Rattle.timefd_lint_sources.specs.declared.reported.Finder.{Finder}
use Rattle.timefd_lint_sources.specs.declared.reported.Finder.TheVariants.{Rust, Keys}
use Rattle.timefd_lint_sources.specs.declared.reported.SourceText.{SourceText}
use Rattle.timefd_lint_sources.specs.declared.rewriting.answer.NewParts.{NewParts}
use Rattle.timefd_lint_sources.specs.declared.rewriting.answer.Answer.{Answer}
use Rattle.timefd_lint_sources.specs.declared.rewriting.answer.Answer.TheVariants.{Stays, Becomes}
use Rattle.timefd_lint_sources.specs.declared.rewriting.change.Change.{Change}
use Rattle.timefd_lint_sources.specs.declared.rewriting.change.Change.TheVariants.{Mended, Least, Normal}
use Rattle.timefd_lint_sources.specs.Rewriting.Written.{IsAnswer, items_of}
use Rattle.timefd_lint_scan.specs.declared.description.SourceDescription.{SourceDescription}
use Rattle.timefd_lint_scan.specs.declared.piece.PlacedToken.{PlacedToken}
use Rattle.timefd_lint_scan.specs.declared.own_call.OwnCall.{OwnCall}
use Rattle.timefd_lint_scan.specs.DocLooks.{AreDescriptionsOf}
use Rattle.timefd_lint_scan.specs.Found.{AllStandIn, AreInOrder}

abbrev pub kind_of : Change → ActionKind
kind_of (Mended fixes.Sure) = QuickFix
kind_of (Mended fixes.All) = Guess
kind_of (Least version) = Rewrite
kind_of Normal = Rewrite

abbrev pub title_of : Change → Text
title_of (Mended fixes.Sure) = codes "Mend the format description"
title_of (Mended fixes.All) = codes "Mend the format description by a guess"
title_of (Least version) = codes "Rewrite the format description in version 3"
title_of Normal = codes "Rewrite the format description in version 3"

-- A change is offered under its title, with these edits.
pub record IsAction (change : Change) (text : Text) (d : SourceDescription) (digit : Option ℕ) (body : Option Text)
    (a : Action) : Type 0 where
  pub title : string_bytes a.title ≡ title_of change
  pub kind : a.kind ≡ kind_of change
  pub edits : AreEdits text d digit body a.edits.items

abbrev pub IsOneAction : Change → Text → SourceDescription → Option ℕ → Option Text → List Action → Type 0
IsOneAction change text d digit body actions =
    (a : Action) × IsAction change text d digit body a × (actions ≡ a ∷ [])

-- What a description becomes is offered if it can be written. If the description stays, nothing is offered.
abbrev pub IsBecoming : Change → Text → SourceDescription → NewParts → Bool → List Action → Type 0
IsBecoming change text d rewritten true actions =
    IsOneAction change text d rewritten.digit (items_of rewritten.body) actions
IsBecoming change text d rewritten false actions = (¬ IsWritable (items_of rewritten.body)) × (actions ≡ [])

abbrev pub IsStaying : Bool → List Action → Type 0
IsStaying true actions = ⊥
IsStaying false actions = actions ≡ []

abbrev pub IsOfferOf : Change → Text → SourceDescription → Answer → Bool → List Action → Type 0
IsOfferOf change text d (Stays outcome) done actions = IsStaying done actions
IsOfferOf change text d (Becomes rewritten) done actions = IsBecoming change text d rewritten done actions

-- What the linter would make of the description by this change, and whether that is offered.
pub record IsOffer (change : Change) (text : Text) (d : SourceDescription) (done : Bool) (actions : List Action)
    : Type 0 where
  pub answer : Answer
  pub is : IsAnswer change text d answer
  pub offered : IsOfferOf change text d answer done actions

-- A description is fixed by a sure fix, or else by guesses.
abbrev pub AreMends : Text → SourceDescription → List Action → Type 0
AreMends text d actions = IsOffer (Mended fixes.Sure) text d true actions
    ⊎ ((done : Bool) × IsOffer (Mended fixes.Sure) text d false []
    × IsOffer (Mended fixes.All) text d done actions)

-- A description of an older version is rewritten in version 3.
abbrev pub AreRewrites : Text → SourceDescription → List Action → Type 0
AreRewrites text d actions = (done : Bool) × IsOffer (Least versions.Three) text d done actions

abbrev pub AreOffers : WantedActions → Text → SourceDescription → List Action → Type 0
AreOffers wanted text d actions = (mends : List Action) × (rewrites : List Action)
    × AreIf wanted.fixes (AreMends text d) mends × AreIf wanted.rewrites (AreRewrites text d) rewrites
    × (actions ≡ mends ++ rewrites)

-- whether a literal overlaps or touches these bytes
abbrev pub overlaps : PlacedToken → ℕ → ℕ → Bool
overlaps p from to = nat_le p.start to && nat_le from p.end

abbrev pub AreActionsIn : WantedActions → Text → ℕ → ℕ → SourceDescription → List Action → Type 0
AreActionsIn wanted text from to d actions = AreIf (overlaps d.piece from to) (AreOffers wanted text d) actions

-- What is wanted of all that can be done to the descriptions in a source of Rust, with these calls of its project, that overlap or touch these
-- bytes, one after another; and then one action that fixes all descriptions, if it is wanted. Each description
-- begins where the one before ends, or after that, so no edits overlap.
pub record AreRustActions (own : List OwnCall) (wanted : WantedActions) (from to : ℕ) (text : Text) (actions : List Action) : Type 0 where
  pub descriptions : List SourceDescription
  pub all : AreDescriptionsOf text own descriptions
  pub stand : AllStandIn text descriptions
  pub in_order : AreInOrder 0 descriptions
  pub each : List Action
  pub fix_all : List Action
  pub offered : AreOf (AreActionsIn wanted text from to) descriptions each
  pub fixed : AreIf wanted.fix_all (IsFixAll text descriptions) fix_all
  pub whole : actions ≡ each ++ fix_all

abbrev pub AreActionsBy : Finder → WantedActions → ℕ → ℕ → Text → List Action → Type 0
AreActionsBy (Rust calls) wanted from to text actions = AreRustActions calls.now wanted from to text actions
AreActionsBy (Keys format names) wanted from to text actions = actions ≡ []

-- In a file with keys nothing is offered.
abbrev pub AreActionsOf : WantedActions → ℕ → ℕ → SourceText → List Action → Type 0
AreActionsOf wanted from to s actions = AreActionsBy s.finder wanted from to s.text.now actions
