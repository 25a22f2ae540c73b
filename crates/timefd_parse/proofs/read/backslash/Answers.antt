use Rattle.std.proofs.Common.{◌≡◌, ◌+◌, ◌∙◌, ◌∷◌, [], ap, length, lit<, refl, sym, arith, eqb-true, false-eqb}
use Rattle.timefd_language.specs.Broken.{escape_index}
use Rattle.timefd_parse.proofs.ReadLemmas.{escape_leads, escape_fault, escape_none, escape_some, special_escape, not_one}
use Rattle.timefd_language.specs.Bytes.{is_version_three, backslash}
use Rattle.timefd_language.specs.Slots.{WantsIn}
use Rattle.timefd_language.specs.Spans.{version_extent}
use Rattle.timefd_language.proofs.SpanLemmas.{spans_byte, spans_character}
use Rattle.timefd_parse.proofs.read.backslash.Goals as goal

pub returns-in-Some-clause-escape : goal.returns-in-Some-clause-escape
returns-in-Some-clause-escape c = λ limit n.
    let e = c.in-Some.ensures in
    escape_leads _ limit n _ _ _ _ _ (special_escape _ e.0 (not_one _ c.in_default.not-One) e.1) e.2
    (c.requires ∙ ap (λ t. 92 ∷ t) e.3) e.4

pub returns-then-is_empty-clause-escape : goal.returns-then-is_empty-clause-escape
returns-then-is_empty-clause-escape c = λ limit n.
    let e = eqb-true _ 0 (sym c.if-is_empty.ensures) in
    escape_fault _ limit n _ _ _ (not_one _ c.in_default.not-One) c.requires c.in_default-escaped.ensures
    (record {
      kind = refl;
      position = omega (arith, e, escape_none c.args.following.now e);
    })

pub returns-clause-escape : goal.returns-clause-escape
returns-clause-escape c = λ limit n.
    escape_fault _ limit n _ _ _ (not_one _ c.in_default.not-One) c.requires c.in_default-escaped.ensures
    (record {
      kind = refl;
      position = omega (arith, escape_some c.args.following.now (false-eqb _ 0 c.if-is_empty.ensures));
    })

-- the backslash itself
pub returns-then-is_empty-clause-span : goal.returns-then-is_empty-clause-span
returns-then-is_empty-clause-span c =
    spans_byte version_extent (WantsIn (is_version_three c.args.version)) c.args.text.now [] backslash
    c.args.following.now _ c.requires (lit< tt) refl
    (omega (arith, eqb-true _ 0 (sym c.if-is_empty.ensures))) refl tt

-- the character after it
pub returns-clause-span : goal.returns-clause-span
returns-clause-span c =
    spans_character version_extent (WantsIn (is_version_three c.args.version)) c.args.text.now (backslash ∷ [])
    c.args.following.now _ c.requires refl refl c.first_len.ensures.len c.first_len.ensures.within tt
