use Rattle.timefd_lang_dialect.proofs.AskedLemmas.{all_run}
use Rattle.timefd_lang_dialect.proofs.reversed.push_run.Goals as goal

pub returns : goal.returns
returns c =
    all_run c.args.text.now _ _ c.characters.rest c.characters.invariant.1 (search) (search)
