use Rattle.std.proofs.Common.{false-eqb}
use Rattle.timefd_parse.proofs.BracketLemmas.{modified, modified_shorter, modifier_found, never_misfit}
use Rattle.timefd_parse.proofs.bracket.first_modifier.Goals as goal

pub returns-in-Ok-clause-found : goal.returns-in-Ok-clause-found
returns-in-Ok-clause-found c =
    modified _ _ _ c.in-Ok.modifier c.cut.ensures.parts (false-eqb _ 0 c.if-is_empty.ensures) c.in-Ok.ensures.modifier

pub returns-in-Ok-clause-modifiers : goal.returns-in-Ok-clause-modifiers
returns-in-Ok-clause-modifiers c = λ m after is stops whole.
    modifier_found _ _ _ m after c.in-Ok.modifier c.cut.ensures.parts is stops whole
    c.in-Ok.ensures.modifier

pub returns-in-Err-clause-modifiers : goal.returns-in-Err-clause-modifiers
returns-in-Err-clause-modifiers c = λ m after is stops whole.
    never_misfit _ _ _ m after c.in-Err.ensures.modifier.0 c.in-Err.ensures.modifier.1 _ _ c.cut.ensures.parts is
    stops whole c.in-Err.ensures.modifier.2 c.in-Err.ensures.modifier.3

pub returns-in-Ok-clause-shorter : goal.returns-in-Ok-clause-shorter
returns-in-Ok-clause-shorter c =
    modified_shorter _ c.in-Ok.modifier
    (modified _ _ _ c.in-Ok.modifier c.cut.ensures.parts (false-eqb _ 0 c.if-is_empty.ensures)
    c.in-Ok.ensures.modifier)
