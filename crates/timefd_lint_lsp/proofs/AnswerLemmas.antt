-- The answer for a range of an open document.
use Rattle.std.proofs.Common.{◌≡◌, ℕ, Option, Some, String, refl, sym, subst}
use Rattle.std.specs.Prelude.{string_bytes}
use Rattle.std.specs.declared.alloc.Global.{Global}
use Rattle.std.specs.declared.vec.Vec.{Vec}
use Rattle.timefd_lint_lsp.specs.Editor.Actions.{AreActionsOf}
use Rattle.timefd_lint_lsp.specs.Editor.Positions.{index_of}
use Rattle.timefd_lint_lsp.specs.declared.editor.action.Action.{Action}
use Rattle.timefd_lint_lsp.specs.declared.editor.action.WantedActions.{WantedActions}
use Rattle.timefd_lint_lsp.specs.declared.editor.position.DocumentRange.{DocumentRange}
use Rattle.timefd_lint_sources.specs.declared.reported.SourceText.{SourceText}
use Rattle.timefd_lint_lsp.specs.Servers.{IsActionsAnswer, finder_of}
use Rattle.timefd_lint_lsp.specs.declared.documents.Document.{Document}
use Rattle.timefd_lint_lsp.specs.declared.reply.RequestAnswer.TheVariants as answers
use Rattle.timefd_lint_lsp.specs.declared.server.EditorSettings.{EditorSettings}

pub actions_of : (settings : EditorSettings) (found : Option Document) (document : Document) (uri : String Global)
    (range : DocumentRange) (wanted : WantedActions) (source : SourceText) (actions : Vec Action Global) (from to : ℕ)
    → found ≡ Some document
    → source.finder ≡ finder_of settings document.kind → source.text.now ≡ string_bytes document.text
    → from ≡ index_of source.text.now range.start → to ≡ index_of source.text.now range.end
    → AreActionsOf wanted from to source actions.items
    → IsActionsAnswer settings found uri range wanted (answers.Actions uri actions)
actions_of settings found document uri range wanted source actions from to is finder whole start end are =
    subst (λ o. IsActionsAnswer settings o uri range wanted (answers.Actions uri actions)) (sym is) (
      source,
      record { finder = finder; whole = whole },
      (
        actions,
        subst (λ n. AreActionsOf wanted n (index_of source.text.now range.end) source actions.items) start
            (subst (λ n. AreActionsOf wanted from n source actions.items) end are),
        refl,
      ),
    )
