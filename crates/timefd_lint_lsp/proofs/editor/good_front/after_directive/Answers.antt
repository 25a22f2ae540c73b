use Rattle.std.proofs.Common.{◌≡◌, [], MatchOption, subst}
use Rattle.timefd_language.specs.Directives.StrftimeReading.{BeginsWithPiece}
use Rattle.timefd_lint_lsp.proofs.EditorLemmas.GoodFrontLemmas.{first_of_strftime}
use Rattle.timefd_lint_lsp.proofs.editor.good_front.after_directive.Goals as goal

pub returns-in-Ok-Some : goal.returns-in-Ok-Some
returns-in-Ok-Some c =
    first_of_strftime c.args.text.now c.in-Ok-Some.field-0-0-0 c.in-Ok-Some.rest.now
    (subst (λ r. MatchOption r (c.args.text.now ≡ []) (λ x. BeginsWithPiece c.args.text.now x.0 x.1.now))
    c.in-Ok-Some.field-0-is c.in-Ok-Some.ensures)
