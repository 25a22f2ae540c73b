use Rattle.std.proofs.Common.{length, subst}
use Rattle.timefd_lang_node_list.specs.Views.{view_tree}
use Rattle.timefd_date_format.specs.declared.cursor.WriteCursor.TheVariants as cursor
use Rattle.timefd_date_format.specs.Writes.{Writes}
use Rattle.timefd_date_format.specs.Written.{written}
use Rattle.timefd_date_format.proofs.OutcomeLemmas.{ends_utf8, no_room, placed}
use Rattle.timefd_date_format.proofs.RoomLemmas.{enough}
use Rattle.timefd_date_format.proofs.write.write_description.Goals as goal

pub returns-in-NoRoom-clause-enough : goal.returns-in-NoRoom-clause-enough
returns-in-NoRoom-clause-enough c = λ room same.
    enough c.args.moment c.args.view c.args.buffer.now c.write_view.new.buffer room
    (no_room (written c.args.moment (view_tree c.args.view)) c.args.buffer.now c.write_view.new.buffer
    (subst (λ p. Writes (written c.args.moment (view_tree c.args.view)) c.args.buffer.now
    (cursor.At (length c.args.buffer.now)) c.write_view.new.buffer p) c.in-NoRoom.is c.write_view.ensures.writes))

pub returns-in-At-clause-utf8 : goal.returns-in-At-clause-utf8
returns-in-At-clause-utf8 c =
    ends_utf8 (written c.args.moment (view_tree c.args.view)) c.args.buffer.now c.write_view.new.buffer _
    (placed (written c.args.moment (view_tree c.args.view)) c.args.buffer.now c.write_view.new.buffer _
    (subst (λ p. Writes (written c.args.moment (view_tree c.args.view)) c.args.buffer.now
    (cursor.At (length c.args.buffer.now)) c.write_view.new.buffer p) c.in-At.is c.write_view.ensures.writes))
    c.write_view.ensures.utf8
