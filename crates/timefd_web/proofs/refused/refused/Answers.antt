use Rattle.std.proofs.Common.{rules, ◌≡◌}
use Rattle.timefd_parse.specs.Sentences.{error_sentence}
use Rattle.timefd_lint_drawing.specs.HelpText.{help_text}
use Rattle.timefd_web.proofs.RefusedLemmas.{refused_by}
use Rattle.timefd_web.proofs.refused.refused.Goals as goal

pub returns : goal.returns
returns c =
    let message : c.deref.result.now ≡ error_sentence c.args.diagnostic.now.fault = search rules in
    let help : c.deref-2.result.now ≡ help_text c.args.diagnostic.now.help = search rules in
    refused_by c.args.diagnostic.now c.code_of.result.now c.deref.result.now c.deref-2.result.now
    c.nearest.result.now c.object_of.result c.code_of.ensures.code message help c.nearest.ensures
    c.object_of.ensures
