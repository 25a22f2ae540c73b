use Rattle.std.proofs.Common.{arith}
use Rattle.timefd_lang_dialect.proofs.SpotLemmas.{more_spots}
use Rattle.timefd_lang_dialect.proofs.spot.spots.Goals as goal

pub parts-preserved : goal.parts-preserved
parts-preserved c =
    let part = c.in_ok-part.ensures in (
      part.left.utf8,
      more_spots c.args.dialect c.args.format.now c.parts.rest.now c.parts.spots.items _
          c.in_ok-part.part c.parts.invariant.1 (omega (arith, part.left.shorter)) part
          c.in_ok-push_spot.ensures,
    )
