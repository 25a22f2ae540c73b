use Rattle.timefd_web.proofs.later.from_two.Goals as goal

pub want_of-requires : goal.want_of-requires
want_of-requires c = c.in-Err.ensures.spelled c.requires.0 c.requires.1
