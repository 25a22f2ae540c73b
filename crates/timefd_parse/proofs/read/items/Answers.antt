use Rattle.std.proofs.Common.{◌∷◌, ◌++◌, [], map, IsTrue, false, arith, sym, subst}
use Rattle.std.proofs.lemmas.List.{map-append}
use Rattle.std.proofs.lemmas.Result.{err_from_is_err_and}
use Rattle.timefd_lang_node_list.specs.Item.Meaning.{item_tree}
use Rattle.timefd_language.specs.Bytes.{is_version_three}
use Rattle.timefd_language.specs.Strings.{are_of_strings}
use Rattle.timefd_items.specs.Builder.{built}
use Rattle.timefd_parse.specs.Read.{IsFaultIn, IsNext, PiecesToEnd}
use Rattle.timefd_parse.proofs.BuildingLemmas.{is_leaf, same_leaf}
use Rattle.timefd_parse.proofs.ReadLemmas.{Continues, continues_more, items_end, items_fault, memory_or, end_outside}
use Rattle.timefd_language.proofs.StringLemmas.{more_strings}
use Rattle.timefd_parse.proofs.NestedSpanLemmas.{continues_spans}
use Rattle.timefd_parse.proofs.read.items.Goals as goal

pub returns-in_err-piece : goal.returns-in_err-piece
returns-in_err-piece c =
    let p = err_from_is_err_and c.from_residual-in_err-piece.result
    c.from_residual-in_err-piece.ensures.1 in
    rw (p.1, p.2) (record {
      items = memory_or _ (IsFaultIn c.args.version c.args.limit 0 c.args.text.now)
          (λ f is. items_fault _ _ _ _ c.pieces.rest.now _ f c.pieces.invariant.before is)
          c.in_err-piece.field-0.0 c.in_err-piece.ensures.next;
      some = omega (arith, c.in_err-piece.ensures.some, c.pieces.invariant.within);
      span = continues_spans _ _ _ _ c.pieces.rest.now _ c.in_err-piece.field-0.0
          c.pieces.invariant.before c.in_err-piece.ensures.span;
    })

pub returns-in_default : goal.returns-in_default
returns-in_default c =
    let end = subst (IsNext c.args.version false c.args.limit 0 c.pieces.rest.now
    (built c.pieces.builder) (built c.next_piece.new.builder)) c.in_default.is c.in_ok-piece.ensures.next in
    record {
      items = (
        subst (PiecesToEnd c.args.version c.args.limit 0 c.args.text.now
            (map item_tree c.pieces.items.items)) (end_outside _ end.0)
            (items_end _ _ _ _ _ _ c.pieces.invariant.before end.0),
        c.pieces.invariant.strings,
      );
      some = tt;
      span = tt;
    }

pub pieces-preserved : goal.pieces-preserved
pieces-preserved c =
    let next = subst (IsNext c.args.version false c.args.limit 0 c.pieces.rest.now
    (built c.pieces.builder) (built c.next_piece.new.builder)) c.in-Some.is
    c.in_ok-piece.ensures.next in
    record {
      text = next.1.utf8;
      within = omega (arith, next.1.shorter, c.pieces.invariant.within);
      before =
          subst (λ items. Continues c.args.version c.args.limit 0 c.args.text.now
          (map item_tree items) c.in-Some.following.now) (sym c.in_ok-push.ensures.items)
          (subst (λ done. Continues c.args.version c.args.limit 0 c.args.text.now done
          c.in-Some.following.now) (sym
          (map-append item_tree c.pieces.items.items (c.into_item.result ∷ [])))
          (subst (λ tree. Continues c.args.version c.args.limit 0 c.args.text.now
          (map item_tree c.pieces.items.items ++ tree ∷ []) c.in-Some.following.now)
          (sym (same_leaf (is_version_three c.args.version) false (built c.pieces.builder)
          (built c.next_piece.new.builder) c.in-Some.piece next.0 (item_tree c.into_item.result)
          next.2 c.into_item.ensures.tree))
          (continues_more _ _ _ _ _ _ _ _ c.pieces.invariant.before next.1.leads)));
      strings = subst (λ items. IsTrue (are_of_strings items)) (sym c.in_ok-push.ensures.items)
          (more_strings _ _ c.pieces.invariant.strings c.into_item.ensures.string);
    }

pub into_item-requires : goal.into_item-requires
into_item-requires c =
    let next = subst (IsNext c.args.version false c.args.limit 0 c.pieces.rest.now
    (built c.pieces.builder) (built c.next_piece.new.builder)) c.in-Some.is
    c.in_ok-piece.ensures.next in
    is_leaf (is_version_three c.args.version) false (built c.pieces.builder)
    (built c.next_piece.new.builder) c.in-Some.piece next.0 c.requires next.2
