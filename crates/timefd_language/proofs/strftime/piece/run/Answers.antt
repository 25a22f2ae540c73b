use Rattle.timefd_language.proofs.DirectiveLemmas.DirectiveLemmas.{run_leads_to, run_leads}
use Rattle.timefd_language.proofs.strftime.piece.run.Goals as goal

pub returns : goal.returns
returns c = record {
  leads = run_leads _ _ _ _ _ c.cut.ensures.parts c.requires.2 c.requires.3;
  left = (run_leads_to _ _ _ _ _ c.cut.ensures.parts c.requires.2 c.requires.3 c.cut.ensures.utf8).left;
}
