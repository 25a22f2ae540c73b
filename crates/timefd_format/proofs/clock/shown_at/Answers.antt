use Rattle.timefd_format.proofs.clock.shown_at.Goals as goal

pub returns-in-Ok : goal.returns-in-Ok
returns-in-Ok c = (c.args.unix, c.in-Ok.ensures)
