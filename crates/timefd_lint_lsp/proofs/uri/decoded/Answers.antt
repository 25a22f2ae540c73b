use Rattle.std.proofs.Common.{rules, arith, ◌≡◌, ◌++◌, ◌∷◌, []}
use Rattle.std.proofs.lemmas.Grind.{common_steps}
use Rattle.timefd_lint_lsp.proofs.UriLemmas.{one_piece}
use Rattle.timefd_lint_lsp.proofs.uri.decoded.Goals as goal

pub pieces-preserved : goal.pieces-preserved
pieces-preserved c =
    let pushed : c.push.new.self.items ≡ c.pieces.bytes.items ++ c.in-Some.piece.byte ∷ [] =
    first_of (search rules, grind (arith, common_steps)) in
    one_piece c.pieces.bytes.items c.push.new.self.items c.pieces.rest.now _ c.first_piece.result c.in-Some.piece
    c.first_piece.ensures.piece c.in-Some.is pushed c.pieces.invariant
