-- What closing a document leads to, by whether it was open.
use Rattle.std.proofs.Common.{◌≡◌, ◌↔◌, ◌∙◌, Bool, true, false, ℕ, List, Option, Some, None, refl, sym}
use Rattle.std.proofs.lemmas.Bool.{true≢false}
use Rattle.std.specs.Prelude.{IsSome, IsTrue}
use Rattle.timefd_lint_lsp.specs.Servers.{IsTakenBack, IsTakenBackOf}
use Rattle.timefd_lint_lsp.specs.declared.documents.Document.{Document}
use Rattle.timefd_lint_lsp.specs.declared.server.SessionStep.{SessionStep}
use Rattle.timefd_lint_lsp.specs.declared.server.SessionStep.TheVariants.{Silent}

pub was_open : (found : Option Document) (closes : Bool) (name : List ℕ) (step : SessionStep) → IsTrue closes ↔ IsSome found
    → closes ≡ true → IsTakenBack name step → IsTakenBackOf found name step
was_open (Some document) closes name step same is taken = taken
was_open None closes name step same is taken = absurd (true≢false (sym (same.0 is)))

pub was_not_open : (found : Option Document) (closes : Bool) (name : List ℕ) (step : SessionStep)
    → IsTrue closes ↔ IsSome found → closes ≡ false → step ≡ Silent → IsTakenBackOf found name step
was_not_open (Some document) closes name step same is silent = absurd (true≢false (sym (same.1 refl) ∙ is))
was_not_open None closes name step same is silent = silent
