use Rattle.std.proofs.Common.{arith, refl, subst, sym}
use Rattle.std.proofs.lemmas.Result.{err_from_is_err_and}
use Rattle.timefd_lang_component.specs.Tree.{Text}
use Rattle.timefd_language.specs.Directives.StrftimeReading.{IsStrftimeFaultAt, LeadsTo}
use Rattle.timefd_language.proofs.DirectiveLemmas.DirectiveLemmas.{all_counted, counts_none, counts_more, counted_fault, leads_from}
use Rattle.timefd_language.proofs.strftime.count.count_of.Goals as goal
use Rattle.timefd_language.proofs.strftime.count.count_of.Goals.{in-Directive+in_ok-unread-in-Directive, in-Literal}

pub pieces-init : goal.pieces-init
pieces-init c = (c.utf8.text, omega arith, counts_none c.args.text.now)

pub returns-in-End : goal.returns-in-End
returns-in-End c = all_counted _ _ _ c.pieces.invariant.2 c.in-End.ensures

pub returns-in_err-unread-in-Directive : goal.returns-in_err-unread-in-Directive
returns-in_err-unread-in-Directive c =
    let p = err_from_is_err_and c.from_residual.result
    c.from_residual.ensures.1 in
    rw (p.1, p.2)
    (counted_fault _ c.pieces.rest.now _ _ c.pieces.invariant.2
    (subst (λ (t : Text). IsStrftimeFaultAt t c.in_err-unread-in-Directive.field-0.0)
    (sym c.in-Directive.ensures) c.in_err-unread-in-Directive.ensures))

pub pieces-preserved : goal.pieces-preserved
pieces-preserved c =
    let to : LeadsTo c.pieces.rest.now c.match-piece_start_of.unread.now =
    elim c.match-piece_start_of.branch [
      | in-Directive+in_ok-unread-in-Directive w ↦ leads_from _ _ _ _ w.in-Directive.ensures
          w.unread-is w.in_ok-unread-in-Directive.ensures
      | in-Literal w ↦ leads_from _ _ _ _ refl w.unread-is w.after_run-unread.ensures
    ] in (
      to.left.utf8,
      omega (arith, to.left.shorter, c.pieces.invariant.1),
      counts_more _ _ _ _ c.pieces.invariant.2 to,
    )
