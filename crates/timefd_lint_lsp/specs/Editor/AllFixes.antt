-- One action that fixes all descriptions of a document.
use Rattle.std.specs.Prelude.{◌≡◌, ◌⊎◌, List, [], ◌∷◌, codes, Option, None, Some, IsUtf8, string_bytes, ⊤}
use Rattle.timefd_parse.specs.Tree.{Text}
use Rattle.timefd_lint_lsp.specs.declared.editor.action.Action.{Action}
use Rattle.timefd_lint_lsp.specs.declared.editor.action.ActionKind.TheVariants.{FixAll}
use Rattle.timefd_lint_lsp.specs.declared.editor.action.Edit.{Edit}
use Rattle.timefd_lint_lsp.specs.Editor.Each.{AreOf}
use Rattle.timefd_lint_lsp.specs.Editor.Edits.{AreEdits}
use Rattle.timefd_lint_rewrite.specs.declared.cure.Fixes.TheVariants.{Sure}
use Rattle.timefd_lint_sources.specs.declared.rewriting.answer.NewParts.{NewParts}
use Rattle.timefd_lint_sources.specs.declared.rewriting.answer.Answer.{Answer}
use Rattle.timefd_lint_sources.specs.declared.rewriting.answer.Answer.TheVariants.{Stays, Becomes}
use Rattle.timefd_lint_sources.specs.declared.rewriting.change.Change.TheVariants.{Mended}
use Rattle.timefd_lint_sources.specs.Rewriting.Written.{IsAnswer, items_of}
use Rattle.timefd_lint_scan.specs.declared.description.SourceDescription.{SourceDescription}

-- An editor can write a body if it is UTF-8.
abbrev pub IsWritable : Option Text → Type 0
IsWritable None = ⊤
IsWritable (Some body) = IsUtf8 body

-- the edits that write what a description becomes, unless an editor can't write it
abbrev pub AreFixesTo : Text → SourceDescription → NewParts → List Edit → Type 0
AreFixesTo text d rewritten edits = AreEdits text d rewritten.digit (items_of rewritten.body) edits
    ⊎ ((¬ IsWritable (items_of rewritten.body)) × (edits ≡ []))

abbrev pub AreFixesBy : Text → SourceDescription → Answer → List Edit → Type 0
AreFixesBy text d (Stays outcome) edits = edits ≡ []
AreFixesBy text d (Becomes rewritten) edits = AreFixesTo text d rewritten edits

-- The edits are those of the description's sure fix: none if it has no such fix.
pub record AreFixes (text : Text) (d : SourceDescription) (edits : List Edit) : Type 0 where
  pub answer : Answer
  pub is : IsAnswer (Mended Sure) text d answer
  pub made : AreFixesBy text d answer edits

-- One action has these edits. If there are none, there is no action.
abbrev pub AreAsOneAction : List Edit → List Action → Type 0
AreAsOneAction [] actions = actions ≡ []
AreAsOneAction (e ∷ edits) actions = (a : Action) × (string_bytes a.title ≡ codes "Mend all format descriptions")
    × (a.kind ≡ FixAll) × (a.edits.items ≡ e ∷ edits) × (actions ≡ a ∷ [])

-- One action has the sure fixes of all descriptions, one after another.
abbrev pub IsFixAll : Text → List SourceDescription → List Action → Type 0
IsFixAll text ds actions = (edits : List Edit) × AreOf (AreFixes text) ds edits × AreAsOneAction edits actions
