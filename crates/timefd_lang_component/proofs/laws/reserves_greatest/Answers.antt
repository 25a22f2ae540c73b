use Rattle.timefd_lang_component.proofs.Greatest.{reserves_greatest_law}
use Rattle.timefd_lang_component.proofs.laws.reserves_greatest.Goals as goal

pub returns : goal.returns
returns c = reserves_greatest_law
