use Rattle.timefd_lint_lsp.proofs.EditorLemmas.WarningLemmas.{in_words}
use Rattle.timefd_lang_warnings.specs.Codes.{name_of, sentence_of}
use Rattle.timefd_lint_lsp.proofs.editor.warned.push_reported.Goals as goal

pub returns : goal.returns
returns c =
    in_words c.args.spot.text.now c.args.spot.description.now.piece.start c.args.spot.description.now.piece.end
    c.args.severity c.name.result.now (name_of c.args.warning) c.sentence.result.now (sentence_of c.args.warning)
    c.args.found.now.items c.push_at_literal.new.found.items c.push_at_literal.result
    c.name.ensures c.sentence.ensures c.push_at_literal.ensures
