use Rattle.std.proofs.Common.{subst}
use Rattle.timefd_format.proofs.description.of_strftime.Goals as goal
use Rattle.timefd_parse.specs.Reported.{MemoryAlone}

-- a text that spells a description has no fault
pub unreachable-requires : goal.unreachable-requires
unreachable-requires c =
    subst MemoryAlone c.in-Err-Invalid.field-0-is
    (c.in-Err-Invalid.ensures.spelled c.requires.0 c.requires.1)
