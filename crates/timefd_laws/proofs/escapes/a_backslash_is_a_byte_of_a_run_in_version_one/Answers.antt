use Rattle.timefd_laws.proofs.EscapeLemmas.{backslash_in_version_one}
use Rattle.timefd_laws.proofs.escapes.a_backslash_is_a_byte_of_a_run_in_version_one.Goals as goal

pub returns : goal.returns
returns c = backslash_in_version_one
