use Rattle.std.proofs.Common.{List, map, sym, subst, arith, IsTrue}
use Rattle.std.proofs.lemmas.Result.{err_from_is_err_and}
use Rattle.timefd_lang_node_list.specs.declared.item.borrowed_format_item.BorrowedFormatItem.{BorrowedFormatItem}
use Rattle.timefd_lang_node_list.specs.Item.Meaning.{item_tree}
use Rattle.timefd_language.specs.Strings.{are_of_strings}
use Rattle.timefd_language.proofs.DirectiveLemmas.DirectiveLemmas.{Continues, IsNext, all_read, items_more, fault_after}
use Rattle.timefd_language.proofs.StringLemmas.{more_strings}
use Rattle.timefd_language.proofs.strftime.parsing.items.Goals as goal

pub returns-in_default-clause-found : goal.returns-in_default-clause-found
returns-in_default-clause-found c =
    all_read _ _ _ c.pieces.invariant.2 (subst (IsNext c.pieces.rest.now) c.in_default.is c.in_ok-piece.ensures)

pub returns-in_err-piece-clause-fault : goal.returns-in_err-piece-clause-fault
returns-in_err-piece-clause-fault c =
    let p = err_from_is_err_and c.from_residual-in_err-piece.result
    c.from_residual-in_err-piece.ensures.1 in
    rw (p.1, p.2)
    (fault_after _ c.pieces.rest.now _ _ c.pieces.invariant.2 c.in_err-piece.ensures)

pub pieces-preserved : goal.pieces-preserved
pieces-preserved c =
    let next = subst (IsNext c.pieces.rest.now) c.in-Some.is c.in_ok-piece.ensures in (
      next.left.utf8,
      omega (arith, next.left.shorter, c.pieces.invariant.1),
      subst (λ (read : List BorrowedFormatItem). Continues c.args.text.now (map item_tree read)
          c.in-Some.unread.now) (sym c.in_ok-push.ensures.items)
          (items_more _ _ _ c.pieces.items.items c.into_item.result _ c.into_item.ensures.tree
          c.pieces.invariant.2 next.leads),
      subst (λ (read : List BorrowedFormatItem). IsTrue (are_of_strings read))
          (sym c.in_ok-push.ensures.items)
          (more_strings c.pieces.items.items c.into_item.result c.pieces.invariant.3
          c.into_item.ensures.strings),
    )
