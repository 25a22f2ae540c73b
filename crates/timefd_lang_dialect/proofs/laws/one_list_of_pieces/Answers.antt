use Rattle.timefd_lang_dialect.proofs.ReaderLemmas.{pieces_law}
use Rattle.timefd_lang_dialect.proofs.laws.one_list_of_pieces.Goals as goal

pub returns : goal.returns
returns c = pieces_law
