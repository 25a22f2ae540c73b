use Rattle.std.proofs.Common.{◌≡◌, ◌∙◌, ◌<◌, ◌∷◌, ◌++◌, [], ap, append_assoc, append-nil, length, lit<, refl, sym, arith, false-eqb, eqb-true}
use Rattle.timefd_language.specs.Bytes.{is_key_byte, is_word_byte}
use Rattle.timefd_parse.proofs.ModifierLemmas.{one_or_more, no_word, word_of_parts, after_length, empty, misfit_no_colon, misfit_no_key, misfit_no_value}
use Rattle.timefd_language.specs.Bytes.{colon, is_version_three}
use Rattle.timefd_language.specs.Slots.{WantsIn}
use Rattle.timefd_language.specs.Spans.{version_extent}
use Rattle.timefd_language.proofs.SpanLemmas.{some_extent, spans_byte, spans_bytes}
use Rattle.timefd_parse.proofs.head.modifier.read_modifier.Goals as goal

pub returns-then-is_empty-clause-modifier : goal.returns-then-is_empty-clause-modifier
returns-then-is_empty-clause-modifier c = no_word _ _ _ c.cut.ensures.parts c.in_default.ensures
    (eqb-true _ 0 (sym c.if-is_empty.ensures))

pub returns-in_default-clause-modifier : goal.returns-in_default-clause-modifier
returns-in_default-clause-modifier c =
    misfit_no_colon _ _ _ _ c.cut.ensures.parts c.in_default.ensures
    (omega (arith, false-eqb _ 0 c.if-is_empty.ensures))
    (record { kind = sym c.key_rule.ensures.kind; position = omega arith })

pub returns-then-is_empty-2-clause-modifier : goal.returns-then-is_empty-2-clause-modifier
returns-then-is_empty-2-clause-modifier c =
    misfit_no_key _ _ _ _ _ _ _ c.cut.ensures.parts c.in-Some.ensures c.cut-2.ensures.parts
    (eqb-true _ 0 (sym c.if-is_empty-2.ensures))
    (record { kind = sym c.colon_rule.ensures.kind; position = omega arith })

pub returns-then-is_empty-3-clause-modifier : goal.returns-then-is_empty-3-clause-modifier
returns-then-is_empty-3-clause-modifier c =
    misfit_no_value _ _ _ _ _ _ _ c.cut.ensures.parts c.in-Some.ensures c.cut-2.ensures.parts
    (omega (arith, false-eqb _ 0 c.if-is_empty-2.ensures))
    (eqb-true _ 0 (sym c.if-is_empty-3.ensures))
    (record {
      kind = sym c.colon_rule-then-is_empty-3.ensures.kind;
      position = omega (
        arith,
        after_length _ _ _ _ c.cut.ensures.parts c.in-Some.ensures,
        ap length c.in-Some.ensures,
      );
    })

pub returns-clause-modifier : goal.returns-clause-modifier
returns-clause-modifier c = (
  _,
  word_of_parts _ _ _ _ _ _ c.cut.ensures.parts c.in-Some.ensures c.cut-2.ensures.parts,
  record {
    key = one_or_more is_key_byte c.cut.result.0.now
        (omega (arith, false-eqb _ 0 c.if-is_empty-2.ensures)) c.cut.ensures.parts.passes;
    value = one_or_more is_word_byte c.cut-2.result.0.now
        (omega (arith, false-eqb _ 0 c.if-is_empty-3.ensures)) c.cut-2.ensures.parts.passes;
    whole = refl;
    key_position = refl;
    value_position = omega (arith, after_length _ _ _ _ c.cut.ensures.parts c.in-Some.ensures);
  },
  c.cut-2.ensures.utf8,
)

-- The text stands after a head and white bytes. What follows, of this word, was wanted there.

pub returns-in_default-clause-span : goal.returns-in_default-clause-span
returns-in_default-clause-span c = λ front after.
    let parts = c.cut.ensures.parts in
    let some : 0 < length c.cut.result.0.now = omega (arith, false-eqb _ 0 c.if-is_empty.ensures) in
    spans_bytes (is_version_three c.args.version) (front ++ c.args.text.now) front c.cut.result.0.now
    c.cut.result.1.now _ (ap (λ t. front ++ t) parts.whole) (ap length parts.whole) refl
    (c.key_rule.ensures.wanted (is_version_three c.args.version) front after some)
    (ap version_extent c.key_rule.ensures.kind ∙ some_extent c.cut.result.0.now some)

pub returns-then-is_empty-2-clause-span : goal.returns-then-is_empty-2-clause-span
returns-then-is_empty-2-clause-span c = λ front after.
    let none : c.cut.result.0.now ≡ [] =
    empty c.cut.result.0.now (eqb-true _ 0 (sym c.if-is_empty-2.ensures)) in
    let whole : c.args.text.now ≡ colon ∷ c.in-Some.assigned.now =
    c.cut.ensures.parts.whole ∙ ap (λ t. t ++ c.cut.result.1.now) none ∙ c.in-Some.ensures in
    spans_byte version_extent (WantsIn (is_version_three c.args.version)) (front ++ c.args.text.now) front colon
    c.in-Some.assigned.now _ (ap (λ t. front ++ t) whole) (lit< tt)
    (ap version_extent c.colon_rule.ensures.kind) (ap length whole) refl
    (c.colon_rule.ensures.wanted front front after c.cut.ensures.parts.passes
    (sym (ap (λ t. front ++ t) none ∙ append-nil front)))

pub returns-then-is_empty-3-clause-span : goal.returns-then-is_empty-3-clause-span
returns-then-is_empty-3-clause-span c = λ front after.
    spans_byte version_extent (WantsIn (is_version_three c.args.version)) (front ++ c.args.text.now)
    (front ++ c.cut.result.0.now) colon c.in-Some.assigned.now _
    (ap (λ t. front ++ t) (c.cut.ensures.parts.whole ∙ ap (λ t. c.cut.result.0.now ++ t) c.in-Some.ensures)
    ∙ sym (append_assoc front c.cut.result.0.now (colon ∷ c.in-Some.assigned.now))) (lit< tt)
    (ap version_extent c.colon_rule-then-is_empty-3.ensures.kind) (ap length c.in-Some.ensures) refl
    (c.colon_rule-then-is_empty-3.ensures.wanted (front ++ c.cut.result.0.now) front after
    c.cut.ensures.parts.passes refl)
