use Rattle.timefd_c.proofs.FastLemmas.StepLemmas.{component_end}
use Rattle.timefd_c.proofs.fast.shown.append_end.Goals as goal

pub returns-clause-shown : goal.returns-clause-shown
returns-clause-shown c =
    component_end c.args.fields.now c.args.moment.now c.moment_of-same.result c.args.literals.now c.args.node.now
    c.args.component.now c.args.room.now c.append_quickly.new.room c.args.at c.append_quickly.result c.requires.moment
    c.moment_of-same.ensures c.requires.what c.requires.component c.append_quickly.ensures
