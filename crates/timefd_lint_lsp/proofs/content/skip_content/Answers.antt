use Rattle.std.proofs.Common.{◌++◌, take, arith}
use Rattle.std.proofs.KnownBytes.{Consumes-trans}
use Rattle.std.proofs.lemmas.Grind.{common_steps}
use Rattle.timefd_lint_lsp.proofs.content.skip_content.Goals as goal

pub pieces-preserved : goal.pieces-preserved
pieces-preserved g c =
    let read = c.pieces.invariant.read in
    let more = take c.in_ok-count.count c.read.new.buf in
    record {
      room = grind (arith, common_steps, c.read.auto.buf);
      most = grind (arith, common_steps, c.in_ok-count.ensures.within, c.read.auto.buf);
      read = (
        read.0 ++ more,
        grind (arith, common_steps, c.in_ok-count.ensures.within, c.read.auto.buf, read.1),
        Consumes-trans _ _ _ _ _ read.2 c.in_ok-count.ensures.moves,
      );
    }
