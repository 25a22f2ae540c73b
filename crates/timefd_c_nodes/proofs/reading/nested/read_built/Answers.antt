use Rattle.std.proofs.Common.{subst}
use Rattle.timefd_lang_component.specs.Tree.{pack}
use Rattle.timefd_items.specs.Description.{description_tree}
use Rattle.timefd_language.specs.declared.description_version.DescriptionVersion.TheVariants.{Three}
use Rattle.timefd_parse.specs.Answers.{IsOutput}
use Rattle.timefd_language.specs.declared.description_version.Language.TheVariants.{Version}
use Rattle.timefd_c_nodes.proofs.ReadingLemmas.ReportLemmas.{accepted, tree_report}
use Rattle.timefd_c_nodes.proofs.reading.nested.read_built.Goals as goal

pub returns-in-Some : goal.returns-in-Some
returns-in-Some c =
    let f = c.in-Ok-Description.ensures.found in
    accepted (Version Three) c.args.limit c.args.text.now f.0 _ _ _ _ c.in-Some.report f.1
    (tree_report (description_tree c.in-Ok-Description.description) (pack f.0) _ _ _ _
    c.in-Some.report (subst (IsOutput Three f.0) c.in-Ok-Description.field-0-is f.2)
    c.in-Some.ensures)
