use Rattle.std.proofs.Common.{Some, None, ap, option_map, refl, sym, ◌∙◌}
use Rattle.timefd_lang_fault.specs.declared.rule.Slot.TheVariants as slots
use Rattle.timefd_language.specs.Bytes.{is_version_three}
use Rattle.timefd_language.specs.Lookup.{key_for}
use Rattle.timefd_parse.proofs.SpanLemmas.{no_value}
use Rattle.timefd_parse.proofs.head.modifiers.colon_rule.Goals as goal

pub returns-in-Some-clause-wanted : goal.returns-in-Some-clause-wanted
returns-in-Some-clause-wanted c = λ front at after keys whole.
    no_value (is_version_three c.args.version) front at c.args.name c.args.word.now (Some (slots.Value c.in-Some.key))
    after keys whole
    (Some c.in-Some.key, sym (ap (option_map key_for) c.in-Some.is) ∙ c.known_key.ensures, refl)

pub returns-in-None-clause-wanted : goal.returns-in-None-clause-wanted
returns-in-None-clause-wanted c = λ front at after keys whole.
    no_value (is_version_three c.args.version) front at c.args.name c.args.word.now None after keys whole
    (None, sym (ap (option_map key_for) c.in-None.is) ∙ c.known_key.ensures, refl)
