use Rattle.timefd_language.proofs.DirectiveLemmas.DirectiveLemmas.{run_leads_to}
use Rattle.timefd_language.proofs.strftime.count.after_run.Goals as goal

pub returns : goal.returns
returns c = run_leads_to _ _ _ _ _ c.cut.ensures.parts c.requires.2 c.requires.3 c.cut.ensures.utf8
