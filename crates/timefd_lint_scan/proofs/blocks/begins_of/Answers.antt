use Rattle.std.proofs.Common.{◌≡◌, ◌<◌, ◌≤◌, ◌∙◌, ◌+◌, arith, length, refl, rules, subst, sym}
use Rattle.timefd_lint_scan.proofs.BeginLemmas.{AreSoFar, begin_more, one_more}
use Rattle.timefd_lint_scan.proofs.blocks.begins_of.Goals as goal
use Rattle.timefd_lint_scan.proofs.blocks.begins_of.Goals.{then-is_declared+in_ok-push, else-is_declared}

pub loop-index-preserved : goal.loop-index-preserved
loop-index-preserved c =
    let below : c.loop-index.index < length c.args.pieces.now = first_of (search rules, omega (arith, c.loop-index-test.true)) in
    let late : c.loop-index.end ≤ c.index-pieces-index.result.start = omega (arith, c.start.ensures, c.if-start-end.false) in
    let long : c.index-pieces-index.result.start < c.index-pieces-index.result.end =
    omega (arith, c.start-else-start-end.ensures, c.end.ensures, c.if-end-start.false) in
    let kept : AreSoFar c.args.source.now c.args.pieces.now c.loop-index.index c.loop-index.end c.loop-index.openings.items
    c.if-is_declared.begins.items = elim c.if-is_declared.branch [
      | then-is_declared+in_ok-push w ↦
          subst (λ v. AreSoFar c.args.source.now c.args.pieces.now c.loop-index.index c.loop-index.end c.loop-index.openings.items v.items)
          (sym w.begins-is)
          (begin_more c.args.source.now c.args.pieces.now c.loop-index.index c.loop-index.end _ _ _ c.loop-index.openings.items
          c.loop-index.begins.items w.push.new.self.items below c.index-pieces-index.is late refl
          (λ st same. w.last_or.ensures st (w.deref.ensures.value ∙ same)) w.in_ok-push.ensures.items c.loop-index.invariant)
      | else-is_declared w ↦
          subst (λ v. AreSoFar c.args.source.now c.args.pieces.now c.loop-index.index c.loop-index.end c.loop-index.openings.items v.items)
          (sym w.begins-is) c.loop-index.invariant
    ] in
    subst (λ e. AreSoFar c.args.source.now c.args.pieces.now (c.loop-index.index + 1) e c.pass_on.new.openings.items c.if-is_declared.begins.items)
    (sym c.end-end.ensures)
    (one_more c.args.source.now c.args.pieces.now c.loop-index.index c.loop-index.end _ _
    c.loop-index.openings.items c.pass_on.new.openings.items c.if-is_declared.begins.items below c.index-pieces-index.is late
    long c.in_ok-pass_on.ensures kept)
