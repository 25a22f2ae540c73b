use Rattle.std.proofs.Common.{subst}
use Rattle.timefd_lang_node_list.specs.Views.{view_tree}
use Rattle.timefd_date_moment.specs.Fields.Reads as spec
use Rattle.timefd_date_moment.specs.Fields.Reads.{Fills}
use Rattle.timefd_date_moment.proofs.fields.read.fill_fields.Goals as goal

pub returns : goal.returns
returns c =
    subst (λ text. Fills (spec.fields_of (view_tree c.args.view) text) c.read-read.new.fields c.answer.result)
    c.as_bytes-bytes.ensures.value (c.answer.ensures _ c.read-read.ensures)
