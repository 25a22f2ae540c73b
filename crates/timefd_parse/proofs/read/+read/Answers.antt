use Rattle.std.proofs.Common.{◌+◌, ◌≤◌, ◌==◌, IsTrue, not, rules, length, ap, subst, arith, lit<, [], ◌∷◌, ◌++◌, length-append, refl}
use Rattle.std.proofs.lemmas.Result.{err_from_is_err_and}
use Rattle.timefd_items.specs.Builder.{built}
use Rattle.timefd_lang_component.specs.Tree.{pack}
use Rattle.timefd_language.specs.Bytes.{left, right, is_version_three}
use Rattle.timefd_parse.specs.Read.{IsFaultIn, IsNext}
use Rattle.timefd_parse.proofs.BuildingLemmas.{built_none, built_more, built_there, built_within}
use Rattle.timefd_parse.proofs.ReadLemmas.{continues_more, members_end, items_fault, memory_or, closing_outside, fault_outside, doubled_leads, opening_leads, utf8_after, cut_shorter}
use Rattle.timefd_parse.proofs.NestedLemmas.{bracket_begins, after_within, no_bracket, no_closing, accepted, refuses, never_closed, at_limit, inner_fails, inner_cut_off, inner_read, nested_shorter, nested_fault, one_more}
use Rattle.timefd_parse.proofs.NestedSpanLemmas.{bracket_at, continues_spans, first_at, inside_spans, nested_at, nested_within, rest_at}
use Rattle.timefd_parse.proofs.read.+read.Goals as goal

pub bracket-returns-in-Some-clause-piece : goal.bracket-returns-in-Some-clause-piece
bracket-returns-in-Some-clause-piece g t c = (
  _,
  c.in-Some.ensures.leads c.args.limit c.args.around,
  c.component_piece.ensures _ _ _ c.in-Some.ensures.is_modern (λ three. refl),
)

pub bracket-inner-init : goal.bracket-inner-init
bracket-inner-init g t c =
    let e = c.in_ok-head.ensures.head in (
      e.1,
      omega (arith, after_within e.0.1),
      [],
      bracket_begins e.0.1,
      refl,
      built_none _ _,
      λ some. absurd (omega (arith, some)),
    )

pub nested-returns-then-around-limit-clause-nested : goal.nested-returns-then-around-limit-clause-nested
nested-returns-then-around-limit-clause-nested g t c =
    at_limit _ _ _ _ _ _ c.if-around-limit.true c.too_deep.ensures.fault

pub nested-returns-in-Err-clause-nested : goal.nested-returns-in-Err-clause-nested
nested-returns-in-Err-clause-nested g t c =
    let within : c.args.around ≤ c.args.limit = search rules in
    inner_fails _ _ _ _ _ _ _ _ (omega arith) (omega (arith, c.if-around-limit.false, within))
    c.in-Err.ensures.members c.enclosed.ensures.fault

pub nested-returns-in_default-clause-nested : goal.nested-returns-in_default-clause-nested
nested-returns-in_default-clause-nested g t c =
    let within : c.args.around ≤ c.args.limit = search rules in
    inner_cut_off _ _ _ _ _ _ _ _ _ (omega arith)
    (omega (arith, c.if-around-limit.false, within)) c.in-Ok.ensures.members.1
    (no_closing _ _ _ c.start_of.ensures c.in-Ok.ensures.members.1.4 c.in_default.not-Closing)
    c.unclosed.ensures.fault

pub nested-pack-requires-clause-there : goal.nested-pack-requires-clause-there
nested-pack-requires-clause-there g t c =
    let m = c.in-Ok.ensures.members in
    built_there _ _ _ m.0 _ m.3 m.2

-- the nested description reserves no more bytes than its text has
pub nested-pack-requires-clause-fits : goal.nested-pack-requires-clause-fits
nested-pack-requires-clause-fits g t c =
    let m = c.in-Ok.ensures.members in
    let builds : IsTrue (not (g.row.BUILDS == 0)) → IsTrue (is_version_three c.args.version) =
    search rules in
    λ on. omega (
      arith,
      built_within c.args.version (not (g.row.BUILDS == 0)) c.args.limit _ c.args.text.now _ _ _ m.0
          _ m.1 m.3 m.2 (builds on) on,
    )

pub nested-returns-clause-nested : goal.nested-returns-clause-nested
nested-returns-clause-nested g t c =
    let within : c.args.around ≤ c.args.limit = search rules in
    let m = c.in-Ok.ensures.members in (
      pack m.0,
      inner_read _ _ _ _ _ (omega arith)
          (omega (arith, c.if-around-limit.false, within)) m.1 c.in-Closing.ensures refl,
      c.in_ok-pack.ensures.built _ m.0 m.3 m.2,
    )

pub bracket-returns-in_err-following-in-Opening-clause-piece : goal.bracket-returns-in_err-following-in-Opening-clause-piece
bracket-returns-in_err-following-in-Opening-clause-piece g t c =
    let p = err_from_is_err_and c.from_residual-in_err-following-in-Opening.result
    c.from_residual-in_err-following-in-Opening.ensures.1 in
    rw (p.1, p.2) (nested_fault c.inner.invariant.3 _ _ c.in-Opening.ensures
    c.in_err-following-in-Opening.ensures.nested)

pub bracket-overflow_add-count : goal.bracket-overflow_add-count
bracket-overflow_add-count g t c = omega (arith, c.inner.invariant.1, ap length c.in-Opening.ensures)

pub bracket-inner-preserved : goal.bracket-inner-preserved
bracket-inner-preserved g t c =
    let n = c.in_ok-following-in-Opening.ensures.nested in (
      c.cut.ensures.utf8,
      omega (
        arith,
        c.inner.invariant.1,
        ap length c.in-Opening.ensures,
        nested_shorter _ _ n.1,
        cut_shorter _ _ _ _ c.cut.ensures.parts,
      ),
      c.inner.invariant.2 ++ n.0 ∷ [],
      one_more c.inner.invariant.3 c.in-Opening.ensures n.1 c.cut.ensures.parts,
      omega (arith, c.inner.invariant.4, length-append c.inner.invariant.2 (n.0 ∷ [])),
      built_more _ _ _ _ _ _ c.inner.invariant.5 n.2,
      λ some. first_at c.inner.invariant.3 _
          (λ more. c.inner.invariant.6 (omega (arith, more, c.inner.invariant.4)))
          c.in-Opening.ensures,
    )

pub bracket-verdict-requires : goal.bracket-verdict-requires
bracket-verdict-requires g t c = λ on. built_there _ _ _ _ _ c.inner.invariant.5
    c.inner.invariant.4 on

pub bracket-returns-in_err-piece-in-Closing-clause-piece : goal.bracket-returns-in_err-piece-in-Closing-clause-piece
bracket-returns-in_err-piece-in-Closing-clause-piece g t c =
    let p = err_from_is_err_and c.from_residual-in_err-piece-in-Closing.result
    c.from_residual-in_err-piece-in-Closing.ensures.1 in
    rw (p.1, p.2) (refuses c.inner.invariant.3 _ _ _ _ c.inner.invariant.4 c.inner.invariant.5 _
    c.in_err-piece-in-Closing.field-0.0 c.in-Closing.ensures
    c.in_err-piece-in-Closing.ensures.tree)

pub bracket-returns-in-Closing-clause-piece : goal.bracket-returns-in-Closing-clause-piece
bracket-returns-in-Closing-clause-piece g t c =
    let a = accepted c.inner.invariant.3 _ _ _ _ c.inner.invariant.4 c.inner.invariant.5 _
    (built c.verdict.new.builder) c.in_ok-piece-in-Closing.piece c.in-Closing.ensures
    c.in_ok-piece-in-Closing.ensures.tree in (
      a.0,
      record {
        leads = a.1;
        shorter = omega (arith, c.inner.invariant.1, ap length c.in-Closing.ensures);
        utf8 = utf8_after _ _ _ c.in-Closing.ensures (lit< tt) c.inner.invariant.0;
      },
      a.2,
    )

pub bracket-returns-in_default-start_of-clause-piece : goal.bracket-returns-in_default-start_of-clause-piece
bracket-returns-in_default-start_of-clause-piece g t c =
    never_closed c.inner.invariant.3 _
    (no_bracket _ _ c.start_of.ensures c.in_default-start_of.not-Opening c.in_default-start_of.not-Closing)
    c.unclosed.ensures.fault

pub members-returns-in_err-piece : goal.members-returns-in_err-piece
members-returns-in_err-piece g t c =
    let p = err_from_is_err_and c.from_residual.result c.from_residual.ensures.1 in
    rw (p.1, p.2) (record {
      members = memory_or _ (IsFaultIn c.args.version c.args.limit c.args.around c.args.text.now)
          (λ f is. items_fault _ _ _ _ c.pieces.rest.now _ f c.pieces.invariant.3 is)
          c.in_err-piece.field-0.0 c.in_err-piece.ensures.next;
      some = omega (arith, c.in_err-piece.ensures.some, c.pieces.invariant.1);
      invalid = c.in_err-piece.ensures.invalid;
      span = continues_spans _ _ _ _ c.pieces.rest.now _ c.in_err-piece.field-0.0 c.pieces.invariant.3
          c.in_err-piece.ensures.span;
    })

pub members-returns-in_default : goal.members-returns-in_default
members-returns-in_default g t c =
    let next = subst (IsNext c.args.version (not (g.row.BUILDS == 0)) c.args.limit
    c.args.around c.pieces.rest.now
    (built c.pieces.builder) (built c.next_piece.new.builder)) c.in_default.is
    c.in_ok-piece.ensures.next in
    record {
      members = members_end c.args.version (not (g.row.BUILDS == 0)) c.args.limit
          c.args.around c.args.text.now
          c.pieces.rest.now c.pieces.invariant.2 _ _ _ _ c.pieces.invariant.3 next.0
          c.pieces.invariant.4 c.pieces.invariant.5 next.1;
      some = tt;
      invalid = λ lax. tt;
      span = tt;
    }

pub members-overflow_add-count : goal.members-overflow_add-count
members-overflow_add-count g t c =
    let next = subst (IsNext c.args.version (not (g.row.BUILDS == 0)) c.args.limit
    c.args.around c.pieces.rest.now
    (built c.pieces.builder) (built c.next_piece.new.builder)) c.in-Some.is
    c.in_ok-piece.ensures.next in
    omega (arith, next.1.shorter, c.pieces.invariant.1)

pub members-pieces-preserved : goal.members-pieces-preserved
members-pieces-preserved g t c =
    let next = subst (IsNext c.args.version (not (g.row.BUILDS == 0)) c.args.limit
    c.args.around c.pieces.rest.now
    (built c.pieces.builder) (built c.next_piece.new.builder)) c.in-Some.is
    c.in_ok-piece.ensures.next in (
      next.1.utf8,
      omega (arith, next.1.shorter, c.pieces.invariant.1),
      c.pieces.invariant.2 ++ next.0 ∷ [],
      continues_more _ _ _ _ _ _ _ _ c.pieces.invariant.3 next.1.leads,
      omega (arith, c.pieces.invariant.4, length-append c.pieces.invariant.2 (next.0 ∷ [])),
      built_more _ _ _ _ _ _ c.pieces.invariant.5
          (c.in_ok-add.ensures.built (is_version_three c.args.version) (built c.pieces.builder)
          next.0 next.2),
    )

pub next_piece-returns-in_err-literal-in-Closing-2 : goal.next_piece-returns-in_err-literal-in-Closing-2
next_piece-returns-in_err-literal-in-Closing-2 g t c =
    let p = err_from_is_err_and c.from_residual.result c.from_residual.ensures.1 in
    rw (p.1, p.2) (record {
      next = fault_outside _ _ _ _ _ (omega (arith, c.if-around-gt0.false))
          (c.in_err-literal-in-Closing-2.ensures.escape c.args.limit);
      some = omega (arith, ap length c.in-Closing.ensures);
      invalid = λ lax. tt;
      span = c.in_err-literal-in-Closing-2.ensures.span;
    })

pub next_piece-returns-in_ok-literal-in-Closing-2 : goal.next_piece-returns-in_ok-literal-in-Closing-2
next_piece-returns-in_ok-literal-in-Closing-2 g t c = record {
  next = (
    _,
    closing_outside _ _ _ _ _ _ (omega (arith, c.if-around-gt0.false))
        (c.in_ok-literal-in-Closing-2.ensures.escape c.args.limit),
    (refl, λ three. refl),
  );
  some = tt;
  invalid = λ lax. tt;
  span = tt;
}

pub next_piece-returns-in-Some : goal.next_piece-returns-in-Some
next_piece-returns-in-Some g t c = record {
  next = (
    _,
    opening_leads _ _ _ _ _ _ _ c.in-Opening.ensures
        (c.in-Some.ensures.component.leads c.args.limit c.args.around),
    (refl, c.in-Some.ensures.component.is_modern, λ three. refl, λ three. c.in-Some.ensures.bytes),
  );
  some = tt;
  invalid = λ lax. tt;
  span = tt;
}

pub next_piece-returns-in-Some-doubled : goal.next_piece-returns-in-Some-doubled
next_piece-returns-in-Some-doubled g t c =
    let e = c.in-Some-doubled.ensures in
    record {
      next = (
        _,
        doubled_leads _ _ _ _ _ _ _ e.0 e.1 c.in-Opening.ensures e.2 e.3,
        (refl, λ three. refl),
      );
      some = tt;
      invalid = λ lax. tt;
      span = tt;
    }

pub next_piece-returns-in_ok-literal-in-Backslash : goal.next_piece-returns-in_ok-literal-in-Backslash
next_piece-returns-in_ok-literal-in-Backslash g t c =
    record {
      next = (
        _,
        c.in_ok-literal-in-Backslash.ensures.escape c.args.limit c.args.around,
        (refl, λ three. refl),
      );
      some = tt;
      invalid = λ lax. tt;
      span = tt;
    }

pub next_piece-returns-in-Other : goal.next_piece-returns-in-Other
next_piece-returns-in-Other g t c = record {
  next =
      (_, c.run.ensures c.args.limit c.args.around, (refl, λ three. refl));
  some = tt;
  invalid =
      λ lax. tt;
  span = tt;
}

-- Which bytes are at fault.

pub nested-returns-then-around-limit-clause-span : goal.nested-returns-then-around-limit-clause-span
nested-returns-then-around-limit-clause-span g t c = λ whole at ends.
    c.too_deep.ensures.span (is_version_three c.args.version) whole (nested_at whole _ ends)

pub nested-returns-in-Err-clause-span : goal.nested-returns-in-Err-clause-span
nested-returns-in-Err-clause-span g t c = λ whole at ends.
    c.enclosed.ensures.span (is_version_three c.args.version) whole at
    (inside_spans (is_version_three c.args.version) whole _ _ ends c.in-Err.ensures.span)

pub nested-returns-in_default-clause-span : goal.nested-returns-in_default-clause-span
nested-returns-in_default-clause-span g t c = λ whole at ends. c.unclosed.ensures.span (is_version_three c.args.version) whole at

pub bracket-returns-in_err-following-in-Opening-clause-span : goal.bracket-returns-in_err-following-in-Opening-clause-span
bracket-returns-in_err-following-in-Opening-clause-span g t c =
    let p = err_from_is_err_and c.from_residual-in_err-following-in-Opening.result
    c.from_residual-in_err-following-in-Opening.ensures.1 in
    rw (p.1, p.2) (c.in_err-following-in-Opening.ensures.span (left ∷ c.args.inside.now)
    (bracket_at c.args.inside.now _ refl) (nested_within c.inner.invariant.3 _ c.in-Opening.ensures))

pub bracket-returns-in_err-piece-in-Closing-clause-span : goal.bracket-returns-in_err-piece-in-Closing-clause-span
bracket-returns-in_err-piece-in-Closing-clause-span g t c =
    let p = err_from_is_err_and c.from_residual-in_err-piece-in-Closing.result
    c.from_residual-in_err-piece-in-Closing.ensures.1 in
    rw (p.1, p.2) (c.in_err-piece-in-Closing.ensures.span (left ∷ c.args.inside.now)
    (record {
      start = bracket_at c.args.inside.now _ refl;
      end = rest_at c.inner.invariant.3 right _ c.in-Closing.ensures (lit< tt);
      first = c.inner.invariant.6;
    })
    c.in_ok-head.ensures.span)

pub bracket-returns-in_default-start_of-clause-span : goal.bracket-returns-in_default-start_of-clause-span
bracket-returns-in_default-start_of-clause-span g t c =
    c.unclosed.ensures.span (is_version_three c.args.version) (left ∷ c.args.inside.now) (bracket_at c.args.inside.now _ refl)
