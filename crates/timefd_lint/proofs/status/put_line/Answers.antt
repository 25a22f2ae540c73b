use Rattle.std.proofs.Common.{codes, subst}
use Rattle.std.proofs.lemmas.Result.{IfOk-weaker}
use Rattle.std.specs.Io.KnownBytes.{Appends}
use Rattle.timefd_lint.proofs.StatusLemmas.{in_a_line}
use Rattle.timefd_lint.proofs.status.put_line.Goals as goal

pub returns-clause-line : goal.returns-clause-line
returns-clause-line g c =
    let between = g.E.Sink.contents c.put_all.new.self in
    let later = g.E.Sink.contents c.put_all-2.new.self in
    IfOk-weaker c.put_all-3.result _ _
    (λ done third. in_a_line (codes "timefd_lint: ") c.args.sentence.now (codes "\n") (g.E.Sink.contents c.args.errors.now)
    between later (g.E.Sink.contents c.put_all-3.new.self) c.in_ok-put_all.ensures.bytes
    (subst (λ t. Appends between later t) c.as_bytes.ensures.value c.in_ok-put_all-2.ensures.bytes) third)
    c.put_all-3.ensures.bytes
