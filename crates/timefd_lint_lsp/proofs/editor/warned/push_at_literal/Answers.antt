use Rattle.std.proofs.Common.{refl}
use Rattle.std.specs.Prelude.{string_bytes}
use Rattle.timefd_lint_lsp.proofs.EditorLemmas.WarningLemmas.{in_words}
use Rattle.timefd_lint_lsp.proofs.editor.warned.push_at_literal.Goals as goal

pub returns : goal.returns
returns c =
    in_words c.args.spot.text.now c.args.spot.description.now.piece.start c.args.spot.description.now.piece.end
    c.args.severity c.args.code.now c.args.code.now (string_bytes c.in_ok-message.message) c.args.message.now
    c.args.found.now.items c.push.new.found.items c.push.result refl c.in_ok-message.ensures.ok c.push.ensures
