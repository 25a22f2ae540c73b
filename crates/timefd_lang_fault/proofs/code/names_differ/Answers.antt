use Rattle.timefd_lang_fault.proofs.CodeLemmas as lemmas
use Rattle.timefd_lang_fault.proofs.code.names_differ.Goals as goal

pub returns : goal.returns
returns c = lemmas.names_differ
