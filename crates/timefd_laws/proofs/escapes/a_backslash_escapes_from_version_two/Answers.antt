use Rattle.timefd_laws.proofs.EscapeLemmas.{escaped_byte}
use Rattle.timefd_laws.proofs.escapes.a_backslash_escapes_from_version_two.Goals as goal

pub returns : goal.returns
returns c = escaped_byte
