use Rattle.std.proofs.Common.{◌≡◌, ◌+◌, ◌<◌, ◌∷◌, [], None, length, lit<, refl, sym, subst, arith, false-eqb, eqb-true}
use Rattle.std.proofs.lemmas.Result.{err_from_is_err_and}
use Rattle.timefd_language.specs.Broken.{name_wanted_index}
use Rattle.timefd_parse.specs.ReadModifiers.{ReadsWord}
use Rattle.timefd_parse.proofs.HeadLemmas.{no_modifiers, nameless_fault, head_found, modifier_fault, modifiers_step, white_between, name_wanted_none, name_wanted_some}
use Rattle.timefd_language.specs.Bytes.{left, is_version_three}
use Rattle.timefd_language.specs.Slots.{WantsIn}
use Rattle.timefd_language.specs.Spans.{SpansVersion, version_extent}
use Rattle.timefd_language.proofs.SpanLemmas.{spans_byte}
use Rattle.timefd_parse.proofs.SpanLemmas.{head_before, head_joined, spans_there, stands_in, unfaulted, white_spans}
use Rattle.timefd_parse.proofs.head.read_head.Goals as goal
use Rattle.timefd_parse.proofs.head.read_head.Goals.{then-is_empty-2, else-is_empty-2}

pub returns-then-is_empty-clause-head : goal.returns-then-is_empty-clause-head
returns-then-is_empty-clause-head c = λ v limit n none.
    let position : c.if-is_empty-2.remaining + name_wanted_index c.cut.result.0.now ≡ length
    c.args.inside.now + 1 =
    elim c.if-is_empty-2.branch [
      | then-is_empty-2 w ↦ omega (
        arith,
        w.remaining-is,
        name_wanted_none c.cut.result.0.now (eqb-true _ 0 (sym w.if-is_empty-2.ensures)),
      )
      | else-is_empty-2 w ↦ omega (
        arith,
        w.remaining-is,
        name_wanted_some c.cut.result.0.now (false-eqb _ 0 w.if-is_empty-2.ensures),
      )
    ] in
    nameless_fault v limit n _ _ _ _ _ _ _ none c.cut.ensures.parts c.cut-2.ensures.parts
    (eqb-true _ 0 (sym c.if-is_empty.ensures)) position

pub modifiers-init : goal.modifiers-init
modifiers-init c = record {
  text = c.cut-2.ensures.utf8;
  before =
      no_modifiers _ _ _ _ c.cut-2.ensures.parts.stops c.requires;
  span = unfaulted 0 _ (SpansVersion (is_version_three c.args.version) (left ∷ c.args.inside.now)) (c.requires None 0).fault;
}

pub returns-in_err-modifier : goal.returns-in_err-modifier
returns-in_err-modifier c =
    let p = err_from_is_err_and c.from_residual.result c.from_residual.ensures.1 in
    rw (p.1, p.2)
    (record {
      head = λ v limit n none. modifier_fault v limit n _ _ _ _ _ _ _ _ _ _ _ _ c.cut.ensures.parts
          c.cut-2.ensures.parts (omega (arith, false-eqb _ 0 c.if-is_empty.ensures))
          c.modifiers.invariant.before
          c.cut-in-modifiers.ensures.parts c.in_err-modifier.ensures.modifier;
      span = spans_there (is_version_three c.args.version) (left ∷ c.args.inside.now) _ _
          (head_joined _ _ _ _ _ _ _ _ _ c.cut.ensures.parts.whole c.cut-2.ensures.parts.whole
          c.modifiers.invariant.before.whole c.cut-in-modifiers.ensures.parts.whole)
          (c.in_err-modifier.ensures.span _ (head_before (is_version_three c.args.version) _ _ _ _ _ _ _ _
          c.cut.ensures.parts c.cut-2.ensures.parts (omega (arith, false-eqb _ 0 c.if-is_empty.ensures))
          c.name_of-name.ensures c.modifiers.invariant.before.are
          (white_between _ _ _ _ _ c.modifiers.invariant.before.stops c.cut-in-modifiers.ensures.parts
          c.in_err-modifier.ensures.modifier.2.cut c.in_err-modifier.ensures.modifier.2.some)));
      fault = c.modifiers.invariant.span;
    })

pub returns-in_default-clause-head : goal.returns-in_default-clause-head
returns-in_default-clause-head c =
    let none = subst (ReadsWord c.cut-in-modifiers.result.1.now) c.in_default.is
    c.in_ok-modifier.ensures.modifier in
    let some : 0 < length c.cut-2.result.0.now =
    omega (arith, false-eqb _ 0 c.if-is_empty.ensures) in (
      head_found _ _ _ _ _ _ _ _ _ _ c.cut.ensures.parts c.cut-2.ensures.parts some
          c.modifiers.invariant.before c.cut-in-modifiers.ensures.parts none refl refl
          c.name_of-name.ensures,
      c.cut-in-modifiers.ensures.utf8,
    )

pub modifiers-preserved : goal.modifiers-preserved
modifiers-preserved c =
    let one = subst (ReadsWord c.cut-in-modifiers.result.1.now) c.in-Some.is
    c.in_ok-modifier.ensures.modifier in
    record {
      text = one.3;
      before =
          modifiers_step _ _ _ _ _ _ _ _ _ _ _ c.modifiers.invariant.before
          c.cut-in-modifiers.ensures.parts one.1 one.2 c.take.ensures.checks;
      span = c.take.ensures.span (left ∷ c.args.inside.now)
          (stands_in (is_version_three c.args.version) (left ∷ c.args.inside.now) _ _ _ _ _ _
          (head_joined _ _ _ _ _ _ _ _ _ c.cut.ensures.parts.whole c.cut-2.ensures.parts.whole
          c.modifiers.invariant.before.whole c.cut-in-modifiers.ensures.parts.whole)
          (head_before (is_version_three c.args.version) _ _ _ _ _ _ _ _ c.cut.ensures.parts c.cut-2.ensures.parts
          (omega (arith, false-eqb _ 0 c.if-is_empty.ensures)) c.name_of-name.ensures
          c.modifiers.invariant.before.are
          (white_between _ _ _ _ _ c.modifiers.invariant.before.stops c.cut-in-modifiers.ensures.parts
          one.1.cut one.1.some)) one.1 one.2)
          c.modifiers.invariant.span;
    }

pub returns-then-is_empty-clause-span : goal.returns-then-is_empty-clause-span
returns-then-is_empty-clause-span c =
    elim c.if-is_empty-2.branch [
      | then-is_empty-2 w ↦ spans_byte version_extent (WantsIn (is_version_three c.args.version))
          (left ∷ c.args.inside.now) [] left c.args.inside.now _ refl (lit< tt) refl
          (omega (arith, w.remaining-is)) refl tt
      | else-is_empty-2 w ↦ white_spans (is_version_three c.args.version) c.args.inside.now _ _ _
          c.cut.ensures.parts (omega (arith, false-eqb _ 0 w.if-is_empty-2.ensures))
          (omega (arith, w.remaining-is)) refl refl (λ front. tt)
    ]

pub returns-then-is_empty-clause-fault : goal.returns-then-is_empty-clause-fault
returns-then-is_empty-clause-fault c =
    unfaulted 0 _ (SpansVersion (is_version_three c.args.version) (left ∷ c.args.inside.now)) (c.requires None 0).fault

pub returns-in_default-clause-fault : goal.returns-in_default-clause-fault
returns-in_default-clause-fault c = c.modifiers.invariant.span
