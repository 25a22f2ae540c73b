use Rattle.timefd_lang_node_list.specs.Views.{view_tree}
use Rattle.timefd_lang_convert.proofs.PrintingLemmas.AnswerLemmas.{answer-spells, found-spells-none}
use Rattle.timefd_lang_convert.proofs.printing.print.print_v3.Goals as goal

pub returns-in-Ok-clause-spelled : goal.returns-in-Ok-clause-spelled
returns-in-Ok-clause-spelled c = λ counts.
    answer-spells _ (view_tree c.args.view) c.reason.result c.reason.ensures c.in_default.is
    c.in-Ok.ensures counts

pub returns-in-Some-clause-all : goal.returns-in-Some-clause-all
returns-in-Some-clause-all c = λ text s.
    found-spells-none text (view_tree c.args.view) c.in-Some.reason c.in-Some.ensures s
