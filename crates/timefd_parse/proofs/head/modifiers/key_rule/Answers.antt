use Rattle.std.proofs.Common.{ap, inl, option_map, sym}
use Rattle.timefd_lang_fault.specs.declared.rule.Slot.TheVariants as slots
use Rattle.timefd_parse.proofs.head.modifiers.key_rule.Goals as goal

pub returns-in-Some-clause-wanted : goal.returns-in-Some-clause-wanted
returns-in-Some-clause-wanted c = λ strict front after some. inl (record {
  name = c.args.name;
  after = after;
  some = some;
  slot = ap (option_map slots.Key) (sym c.in-Some.is);
})

pub returns-in-None-clause-wanted : goal.returns-in-None-clause-wanted
returns-in-None-clause-wanted c = λ strict front after some. inl (record {
  name = c.args.name;
  after = after;
  some = some;
  slot = ap (option_map slots.Key) (sym c.in-None.is);
})
