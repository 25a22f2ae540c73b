use Rattle.std.proofs.Common.{inl}
use Rattle.timefd_format.proofs.bracket.with_offset_of.Goals as goal

pub returns-in-Ok : goal.returns-in-Ok
returns-in-Ok c = inl (c.in-Ok.offset, c.in-Ok.ensures, c.compared.ensures)
