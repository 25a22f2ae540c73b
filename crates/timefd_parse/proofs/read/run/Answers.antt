use Rattle.timefd_parse.proofs.ReadLemmas.{run_leads}
use Rattle.timefd_parse.proofs.read.run.Goals as goal

pub returns : goal.returns
returns c = λ limit n. run_leads _ limit n _ _ _ c.cut_run.ensures.parts c.requires
    c.cut_run.ensures.utf8
