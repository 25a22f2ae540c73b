use Rattle.timefd_lint_scan.proofs.DocLookLemmas.{with_examples}
use Rattle.timefd_lint_scan.proofs.doc_look.looked_at.Goals as goal

pub returns : goal.returns
returns c =
    with_examples c.args.source.now c.args.own.now c.in_ok-alone.alone c.in_ok-examples.examples.items c.deref.result.now
    c.together.result c.in_ok-alone.ensures c.in_ok-examples.ensures c.deref.ensures.value c.together.ensures
