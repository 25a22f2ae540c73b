use Rattle.timefd_lint_sources.proofs.FinderLemmas.{all_by_keys, by_keys}
use Rattle.timefd_lint_sources.proofs.source.descriptions_in.Goals as goal

pub returns-in_ok-descriptions_by-in-Keys-clause-stand :
    goal.returns-in_ok-descriptions_by-in-Keys-clause-stand
returns-in_ok-descriptions_by-in-Keys-clause-stand c =
    by_keys c.args.source c.in-Keys.format c.in-Keys.keys c.in_ok-descriptions_by-in-Keys.field-0.items
    c.in-Keys.is c.in_ok-descriptions_by-in-Keys.ensures.values

pub returns-in_ok-descriptions_by-in-Keys-clause-all :
    goal.returns-in_ok-descriptions_by-in-Keys-clause-all
returns-in_ok-descriptions_by-in-Keys-clause-all c =
    all_by_keys c.args.source c.in-Keys.format c.in-Keys.keys c.in_ok-descriptions_by-in-Keys.field-0.items
    c.in-Keys.is c.in_ok-descriptions_by-in-Keys.ensures.all
