use Rattle.timefd_laws.proofs.WordLemmas.{no_two_letters}
use Rattle.timefd_laws.proofs.words.each_letter_stands_once.Goals as goal

pub returns : goal.returns
returns c = no_two_letters
