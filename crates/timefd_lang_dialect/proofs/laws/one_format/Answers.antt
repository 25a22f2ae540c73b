use Rattle.timefd_lang_dialect.proofs.FormatLemmas.{one_format_law}
use Rattle.timefd_lang_dialect.proofs.laws.one_format.Goals as goal

pub returns : goal.returns
returns c = one_format_law
