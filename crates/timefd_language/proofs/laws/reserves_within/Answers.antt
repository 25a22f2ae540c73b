use Rattle.timefd_language.proofs.Reserved.{reserves_within_law}
use Rattle.timefd_language.proofs.laws.reserves_within.Goals as goal

pub returns : goal.returns
returns c = reserves_within_law
