use Rattle.std.proofs.Common.{rules}
use Rattle.timefd_c.proofs.FastLemmas.WalkLemmas.{copied}
use Rattle.timefd_c.proofs.fast.write.write_through.Goals as goal

pub returns-clause-written : goal.returns-clause-written
returns-clause-written c =
    copied c.args.moment.now c.args.literals.now c.args.nodes.now c.args.fields.now c.append_nodes.new.room
    c.args.buffer.now c.copy_text.new.buffer c.in_ok-end.end c.requires.moment c.requires.range c.in_ok-end.ensures
    (search rules) c.if-buffer-end.false c.copy_text.ensures
