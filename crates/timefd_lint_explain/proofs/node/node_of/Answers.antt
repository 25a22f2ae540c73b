use Rattle.timefd_lint_explain.proofs.PartLemmas.{piece_for}
use Rattle.timefd_lint_explain.proofs.node.node_of.Goals as goal

pub returns-clause-piece : goal.returns-clause-piece
returns-clause-piece c = λ d tree depth is bytes.
    piece_for c.args.what.now d tree _ depth bytes c.kind_of.ensures
    c.in_ok-words.ensures c.in_ok-example.ensures is
