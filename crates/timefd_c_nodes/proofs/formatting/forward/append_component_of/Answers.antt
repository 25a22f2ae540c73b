use Rattle.std.proofs.Common.{subst}
use Rattle.std.specs.Prelude.{IfSome}
use Rattle.timefd_date_format.specs.Written.{shown}
use Rattle.timefd_date_format.specs.Appends.{TriesToAppend}
use Rattle.timefd_c_nodes.proofs.FormattingLemmas.ForwardLemmas.{again}
use Rattle.timefd_c_nodes.proofs.formatting.forward.append_component_of.Goals as goal

pub returns-in-None : goal.returns-in-None
returns-in-None c =
    again (shown c.args.moment.now c.args.component.now) c.args.room.now c.append_quickly.new.room c.append_again.new.room
    c.args.at c.append_again.result
    (subst (λ r. TriesToAppend (shown c.args.moment.now c.args.component.now) c.args.room.now c.args.at c.append_quickly.new.room r)
    c.in-None.is c.append_quickly.ensures)
    (subst (λ o. IfSome o (λ d. TriesToAppend (shown c.args.moment.now d) c.append_quickly.new.room c.args.at c.append_again.new.room c.append_again.result))
    c.requires.component c.append_again.ensures)
