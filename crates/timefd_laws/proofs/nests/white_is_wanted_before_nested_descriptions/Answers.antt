use Rattle.timefd_laws.proofs.NestLemmas.{white_wanted}
use Rattle.timefd_laws.proofs.nests.white_is_wanted_before_nested_descriptions.Goals as goal

pub returns : goal.returns
returns c = white_wanted
