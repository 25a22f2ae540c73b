use Rattle.std.proofs.Common.{arith, rules, ℕ, ◌+◌, ◌-◌, ◌≤◌, ap, length, refl, subst}
use Rattle.timefd_lint_explain.specs.Shown.{IsWhat, texts}
use Rattle.timefd_lint_explain.proofs.NestedLemmas.{described_adds, nesting_end, nesting_first, nesting_more}
use Rattle.timefd_lint_explain.proofs.PieceLemmas.{first_adds, optional_adds, several_adds}
use Rattle.timefd_lint_explain.proofs.ShownLemmas.{piece_within}
use Rattle.timefd_lint_explain.proofs.NestedStandLemmas.{nested_ends, nesting_at_end, nesting_at_first, nesting_at_more}
use Rattle.timefd_lint_explain.proofs.StandLemmas.{described_at, first_at, optional_at, same_long, several_at, span_is, walked_at_end, walked_at_more, walked_at_within}
use Rattle.timefd_lint_explain.proofs.WalkLemmas.{walked_end, walked_more}
use Rattle.timefd_lint_explain.proofs.tree.+tree.Goals as goal

-- Descriptions.

pub push_described-returns-clause-parts : goal.push_described-returns-clause-parts
push_described-returns-clause-parts t c = λ d list is s.
    described_adds d c.args.depth c.saturating_add-inside.result c.args.inner.now list
    c.args.nodes.now.items c.push_description.new.nodes.items c.push_pieces.new.nodes.items is
    c.saturating_add-inside.ensures s (c.in_ok-push_description.ensures.parts d list is s)
    (λ k deeper. c.in_ok-push_pieces.ensures.parts k list deeper s)

pub push_nested-nested-init : goal.push_nested-nested-init
push_nested-nested-init t c = (
  search rules,
  c.after_head-rest.ensures.within,
  λ e. e,
  λ d tree is s n.
      nesting_first d c.args.text.now tree c.after_head-rest.result.now c.args.nodes.now.items
      c.after_head-rest.ensures.after s n,
  λ tree s n room.
      nesting_at_first c.args.start c.args.text.now tree c.after_head-rest.result.now c.args.nodes.now.items
      c.after_head-rest.ensures.after s n,
)

pub push_nested-nested-preserved : goal.push_nested-nested-preserved
push_nested-nested-preserved t c = (
  search rules,
  omega (arith, c.nested.invariant.1, c.in-Some.ensures.shorter),
  λ e. c.in_ok-push_described.ensures.examples (c.nested.invariant.2 e),
  λ d tree is s n.
      nesting_more d tree c.nested.rest.now c.in-Some.inner.now c.in-Some.after.now
      c.args.nodes.now.items c.nested.nodes.items c.push_described.new.nodes.items
      c.in-Some.ensures.found
      (λ white w x list all spells e. c.in-Some.ensures.nested white w x list all spells e)
      (λ list spells. c.in_ok-push_described.ensures.parts d list is spells)
      (c.nested.invariant.3 d tree is s n),
  λ tree s n room.
      let before = c.nested.invariant.4 tree s n room in
      let ends = nested_ends c.args.start tree c.args.text.now c.nested.rest.now c.in-Some.inner.now
      c.in-Some.after.now c.args.nodes.now.items c.nested.nodes.items c.in-Some.ensures.found before in
      let at : ℕ = c.args.start + (length c.args.text.now - (length c.in-Some.after.now + length c.in-Some.inner.now + 2)) in
      nesting_at_more c.args.start tree c.args.text.now c.nested.rest.now c.in-Some.inner.now
      c.in-Some.after.now at c.args.nodes.now.items c.nested.nodes.items c.push_described.new.nodes.items
      c.in-Some.ensures.found
      (λ white w x list all spells e. c.in-Some.ensures.nested white w x list all spells e) refl
      (λ list spells. c.in_ok-push_described.ensures.positions at list (omega (arith, ends, room))
      (omega (arith, ends, room)) spells) before,
)

pub push_nested-returns-clause-parts : goal.push_nested-returns-clause-parts
push_nested-returns-clause-parts t c = λ d tree is s n.
    nesting_end d tree c.nested.rest.now c.args.nodes.now.items c.nested.nodes.items
    (λ white w x list all spells e. c.in_default.ensures.nested white w x list all spells e)
    (c.nested.invariant.3 d tree is s n)

-- Pieces.

pub push_piece-returns-in-Optional-clause-parts : goal.push_piece-returns-in-Optional-clause-parts
push_piece-returns-in-Optional-clause-parts t c = λ d tree is s shown.
    optional_adds c.push_nested.result c.args.language c.args.piece.now.text.now d c.args.depth
    c.saturating_add-inside.result tree c.in_ok-node_of.field-0 c.args.nodes.now.items
    c.push.new.self.items c.push_nested.new.nodes.items is c.saturating_add-inside.ensures s
    c.in_ok-push.ensures.items
    (c.in_ok-node_of.ensures.piece d tree is shown.what shown.bytes) c.in-Optional.field-0
    (subst (λ w. IsWhat w tree) c.in-Optional.is shown.what)
    (λ k u deeper spells nests. c.push_nested.ensures.parts k u deeper spells nests)

pub push_piece-returns-in-First-clause-parts : goal.push_piece-returns-in-First-clause-parts
push_piece-returns-in-First-clause-parts t c = λ d tree is s shown.
    first_adds c.push_nested-in-First.result c.args.language c.args.piece.now.text.now d
    c.args.depth c.saturating_add-inside.result tree c.in_ok-node_of.field-0
    c.args.nodes.now.items c.push.new.self.items c.push_nested-in-First.new.nodes.items is
    c.saturating_add-inside.ensures s c.in_ok-push.ensures.items
    (c.in_ok-node_of.ensures.piece d tree is shown.what shown.bytes)
    (subst (λ w. IsWhat w tree) c.in-First.is shown.what)
    (λ k u deeper spells nests. c.push_nested-in-First.ensures.parts k u deeper spells nests)

pub push_piece-returns-in-Several-clause-parts : goal.push_piece-returns-in-Several-clause-parts
push_piece-returns-in-Several-clause-parts t c = λ d tree is s shown.
    several_adds c.push_members.result c.args.language c.args.piece.now.text.now d
    c.args.depth c.saturating_add-inside.result tree c.in_ok-node_of.field-0
    c.args.nodes.now.items c.push.new.self.items c.push_members.new.nodes.items is
    c.saturating_add-inside.ensures s c.in_ok-push.ensures.items
    (c.in_ok-node_of.ensures.piece d tree is shown.what shown.bytes)
    (subst (λ w. IsWhat w tree) c.in-Several.is shown.what)
    (λ k ts deeper spells. c.push_members.ensures.parts k ts deeper spells)

pub push_pieces-push_piece-requires : goal.push_pieces-push_piece-requires
push_pieces-push_piece-requires t c =
    let within : length c.index-shown-at.result.text.now ≤ length c.args.text.now =
    omega (
      arith,
      piece_within c.as_slice-shown.result.now c.pieces.at c.index-shown-at.result
          c.pieces-test.true c.index-shown-at.is,
      ap (λ xs. length (texts xs)) c.as_slice-shown.ensures.value,
      c.in_ok-pieces.ensures.within,
    ) in
    search rules

pub push_pieces-pieces-preserved : goal.push_pieces-pieces-preserved
push_pieces-pieces-preserved t c = (
  λ e. c.in_ok-push_piece.ensures.examples (c.pieces.invariant.0 e),
  λ d list is s.
      walked_more c.args.language d list c.as_slice-shown.result.now c.pieces.at
      c.index-shown-at.result c.args.nodes.now.items c.pieces.nodes.items
      c.push_piece.new.nodes.items c.pieces-test.true c.index-shown-at.is
      (λ tree spells shown. c.in_ok-push_piece.ensures.parts d tree is spells shown)
      (c.pieces.invariant.1 d list is s),
  λ list room s.
      let before = c.pieces.invariant.2 list room s in
      let within = walked_at_within c.args.language list c.args.begins c.args.text.now
      c.as_slice-shown.result.now c.pieces.at c.index-shown-at.result c.pieces.start c.args.nodes.now.items
      c.pieces.nodes.items c.pieces-test.true c.index-shown-at.is before in
      walked_at_more c.args.language list c.args.begins c.args.text.now c.as_slice-shown.result.now c.pieces.at
      c.index-shown-at.result c.pieces.start c.saturating_add-start.result c.args.nodes.now.items
      c.pieces.nodes.items c.push_piece.new.nodes.items c.pieces-test.true c.index-shown-at.is
      (omega (
        arith,
        within,
        room,
        same_long c.as_slice-shown.result.now c.pieces.at c.index-shown-at.result
            c.index-shown-at-in-pieces.result c.pieces-test.true c.index-shown-at.is,
      ))
      (λ tree spells shown. c.in_ok-push_piece.ensures.positions tree (omega (arith, within, room)) spells shown)
      before,
)

pub push_pieces-returns-clause-positions : goal.push_pieces-returns-clause-positions
push_pieces-returns-clause-positions t c = λ list room s.
    walked_at_end c.args.language list c.args.begins c.args.text.now c.as_slice-shown.result.now c.pieces.at
    c.pieces.start c.args.nodes.now.items c.pieces.nodes.items c.pieces-test.false
    (c.pieces.invariant.2 list room s)

pub push_pieces-returns-clause-parts : goal.push_pieces-returns-clause-parts
push_pieces-returns-clause-parts t c = λ d list is s.
    walked_end c.args.language d list c.as_slice-shown.result.now c.pieces.at
    c.args.nodes.now.items c.pieces.nodes.items c.pieces-test.false
    (c.pieces.invariant.1 d list is s)

-- Where the nodes are.

pub push_described-returns-clause-positions : goal.push_described-returns-clause-positions
push_described-returns-clause-positions t c = λ at list is room s.
    described_at list c.args.begins at c.args.inner.now c.args.nodes.now.items
    c.push_description.new.nodes.items c.push_pieces.new.nodes.items is s
    (c.in_ok-push_description.ensures.positions at is room)
    (c.in_ok-push_pieces.ensures.positions list (omega (arith, is, room)) s)

pub push_nested-returns-clause-positions : goal.push_nested-returns-clause-positions
push_nested-returns-clause-positions t c = λ tree room s n.
    nesting_at_end c.args.start tree c.args.text.now c.nested.rest.now c.args.nodes.now.items
    c.nested.nodes.items
    (λ white w x list all spells e. c.in_default.ensures.nested white w x list all spells e)
    (c.nested.invariant.4 tree s n room)

pub push_piece-returns-in-Optional-clause-positions : goal.push_piece-returns-in-Optional-clause-positions
push_piece-returns-in-Optional-clause-positions t c = λ tree room s shown.
    optional_at c.push_nested.result c.args.language c.args.piece.now.text.now c.args.start tree
    c.in_ok-node_of.field-0 c.args.nodes.now.items c.push.new.self.items c.push_nested.new.nodes.items s
    c.in_ok-push.ensures.items
    (span_is c.in_ok-node_of.field-0.start c.in_ok-node_of.field-0.end c.args.start
    (c.args.start + length c.args.piece.now.text.now) c.in_ok-node_of.ensures.start
    (omega (arith, c.in_ok-node_of.ensures.end, room))) c.in-Optional.field-0
    (subst (λ w. IsWhat w tree) c.in-Optional.is shown.what)
    (λ u spells nests. c.push_nested.ensures.positions u room spells nests)

pub push_piece-returns-in-First-clause-positions : goal.push_piece-returns-in-First-clause-positions
push_piece-returns-in-First-clause-positions t c = λ tree room s shown.
    first_at c.push_nested-in-First.result c.args.language c.args.piece.now.text.now c.args.start tree
    c.in_ok-node_of.field-0 c.args.nodes.now.items c.push.new.self.items c.push_nested-in-First.new.nodes.items s
    c.in_ok-push.ensures.items
    (span_is c.in_ok-node_of.field-0.start c.in_ok-node_of.field-0.end c.args.start
    (c.args.start + length c.args.piece.now.text.now) c.in_ok-node_of.ensures.start
    (omega (arith, c.in_ok-node_of.ensures.end, room)))
    (subst (λ w. IsWhat w tree) c.in-First.is shown.what)
    (λ u spells nests. c.push_nested-in-First.ensures.positions u room spells nests)

pub push_piece-returns-in-Several-clause-positions : goal.push_piece-returns-in-Several-clause-positions
push_piece-returns-in-Several-clause-positions t c = λ tree room s shown.
    several_at c.push_members.result c.args.language c.args.piece.now.text.now c.args.start tree
    c.in_ok-node_of.field-0 c.args.nodes.now.items c.push.new.self.items c.push_members.new.nodes.items s
    c.in_ok-push.ensures.items
    (span_is c.in_ok-node_of.field-0.start c.in_ok-node_of.field-0.end c.args.start
    (c.args.start + length c.args.piece.now.text.now) c.in_ok-node_of.ensures.start
    (omega (arith, c.in_ok-node_of.ensures.end, room)))
    (subst (λ w. IsWhat w tree) c.in-Several.is shown.what)
    (λ ts spells. c.push_members.ensures.positions ts spells)
