use Rattle.std.proofs.Common.{inr, option_map, refl, sym, ap, ◌≡◌, ◌∙◌, true, false, is_some}
use Rattle.std.proofs.lemmas.Bool.{true≢false}
use Rattle.timefd_language.specs.Lookup.{key_for}
use Rattle.timefd_parse.specs.Checked.{first_position}
use Rattle.timefd_parse.proofs.CheckLemmas.{at_unknown, at_again, at_good, at_bad_value, position_known}
use Rattle.timefd_language.specs.Bytes.{is_key_byte, is_version_three}
use Rattle.timefd_language.specs.Spans.{version_extent}
use Rattle.timefd_language.proofs.SlotLemmas.{some_bytes}
use Rattle.timefd_parse.proofs.SpanLemmas.{again_spans, key_spans, value_spans, value_wanted}
use Rattle.timefd_parse.proofs.head.modifiers.Modifiers.check.Goals as goal
use Rattle.timefd_parse.proofs.head.modifiers.Modifiers.check.Goals.{else-is_strict-via-then-is_strict+else-is_some, else-is_strict-via-else-is_strict}

pub returns-in_default-clause-checks : goal.returns-in_default-clause-checks
returns-in_default-clause-checks c = λ total ps p checks none is.
    at_unknown (is_version_three c.args.version) c.args.name total c.args.modifier ps p is _ _ _
    c.key_rule.ensures.kind c.known_key.ensures c.in_default.is

pub returns-then-is_some-clause-checks : goal.returns-then-is_some-clause-checks
returns-then-is_some-clause-checks c = λ total ps p checks none is.
    at_again (is_version_three c.args.version) c.args.name total c.args.modifier ps p is _ _ _ _ c.known_key.ensures
    c.in-Some.is (sym c.if-is_strict.ensures)
    (position_known _ _ _ _ (checks.positions none (sym c.if-is_strict.ensures) c.in-Some.key)
    (sym (c.if-is_some.ensures ∙ ap is_some c.of.ensures))) c.spelling.ensures

pub returns-in-Some-setting_of-clause-checks : goal.returns-in-Some-setting_of-clause-checks
returns-in-Some-setting_of-clause-checks c = λ total ps p checks none is.
    let new : (is_version_three c.args.version) ≡ true → is_some (first_position (key_for c.in-Some.key).key ps) ≡ false =
    λ exact. elim c.else-is_strict.branch [
      | else-is_strict-via-then-is_strict+else-is_some w ↦ position_known _ _ _ _
          (checks.positions none exact c.in-Some.key)
          (sym (w.if-is_some.ensures ∙ ap is_some w.of.ensures))
      | else-is_strict-via-else-is_strict w ↦ absurd (true≢false (sym exact ∙ sym w.if-is_strict.ensures))
    ] in
    at_good (is_version_three c.args.version) c.args.name total c.args.modifier ps p is _ _ _ _ c.known_key.ensures
    c.in-Some.is new c.setting_of.ensures c.in-Some-setting_of.is

pub returns-in-None-clause-checks : goal.returns-in-None-clause-checks
returns-in-None-clause-checks c = λ total ps p checks none is.
    let new : (is_version_three c.args.version) ≡ true → is_some (first_position (key_for c.in-Some.key).key ps) ≡ false =
    λ exact. elim c.else-is_strict.branch [
      | else-is_strict-via-then-is_strict+else-is_some w ↦ position_known _ _ _ _
          (checks.positions none exact c.in-Some.key)
          (sym (w.if-is_some.ensures ∙ ap is_some w.of.ensures))
      | else-is_strict-via-else-is_strict w ↦ absurd (true≢false (sym exact ∙ sym w.if-is_strict.ensures))
    ] in
    at_bad_value (is_version_three c.args.version) c.args.name total c.args.modifier ps p is _ _ _ _ c.known_key.ensures
    c.in-Some.is new c.setting_of.ensures c.in-None.is

pub returns-in_default-clause-span : goal.returns-in_default-clause-span
returns-in_default-clause-span c = λ text stands.
    key_spans (is_version_three c.args.version) text c.args.name c.args.modifier stands _ refl refl
    (ap version_extent c.key_rule.ensures.kind)
    (c.key_rule.ensures.wanted (is_version_three c.args.version) stands.before stands.after
    (some_bytes is_key_byte c.args.modifier.key.now stands.key))

pub returns-then-is_some-clause-span : goal.returns-then-is_some-clause-span
returns-then-is_some-clause-span c = λ text stands.
    again_spans (is_version_three c.args.version) text c.args.name c.args.modifier stands _ refl refl refl tt

pub returns-in-None-clause-span : goal.returns-in-None-clause-span
returns-in-None-clause-span c = λ text stands.
    value_spans (is_version_three c.args.version) text c.args.name c.args.modifier stands _ refl refl refl
    (inr (value_wanted (is_version_three c.args.version) text c.args.name c.args.modifier stands c.in-Some.key
    (sym (ap (option_map key_for) c.in-Some.is) ∙ c.known_key.ensures)))
