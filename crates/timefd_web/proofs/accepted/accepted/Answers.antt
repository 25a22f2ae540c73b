use Rattle.timefd_web.proofs.ReportLemmas.{accepted_by}
use Rattle.timefd_web.proofs.accepted.accepted.Goals as goal

pub returns : goal.returns
returns c = λ list spells.
    accepted_by c.args.language c.args.moment c.args.text.now c.object_of.result list
    c.in_ok-explanation.explanation c.in_ok-written.written c.in_ok-later.later
    (c.in_ok-explanation.ensures.sum list spells)
    (c.in_ok-explanation.ensures.parts list spells) (c.in_ok-explanation.ensures.positions list spells)
    c.in_ok-explanation.ensures.examples
    (c.in_ok-written.ensures list spells)
    c.in_ok-later.ensures c.object_of.ensures
