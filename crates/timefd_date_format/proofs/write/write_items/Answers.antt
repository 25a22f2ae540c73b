use Rattle.std.proofs.Common.{length, subst}
use Rattle.timefd_lang_component.specs.Tree.{trees}
use Rattle.timefd_lang_node_list.specs.Item.Meaning.{item_trees}
use Rattle.timefd_date_format.specs.declared.cursor.WriteCursor.TheVariants as cursor
use Rattle.timefd_date_format.specs.Writes.{Writes}
use Rattle.timefd_date_format.specs.Written.{written_all}
use Rattle.timefd_date_format.proofs.OutcomeLemmas.{ends_utf8, placed}
use Rattle.timefd_date_format.proofs.Utf8Lemmas.{written_all_utf8}
use Rattle.timefd_date_format.proofs.write.write_items.Goals as goal

pub returns-in-At-clause-utf8 : goal.returns-in-At-clause-utf8
returns-in-At-clause-utf8 c = λ are.
    let what = written_all c.args.moment (trees (item_trees c.args.items.now)) in
    ends_utf8 what c.args.buffer.now c.write_all.new.buffer _
    (placed what c.args.buffer.now c.write_all.new.buffer _
    (subst (λ p. Writes what c.args.buffer.now (cursor.At (length c.args.buffer.now)) c.write_all.new.buffer p)
    c.in-At.is c.write_all.ensures))
    (written_all_utf8 c.args.moment (trees (item_trees c.args.items.now)) are)
