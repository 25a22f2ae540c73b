use Rattle.timefd_c_nodes.proofs.FormattingLemmas.SoundLemmas.{written_sound}
use Rattle.timefd_c_nodes.proofs.formatting.laws.written_are_sound.Goals as goal

pub returns : goal.returns
returns c = written_sound
