use Rattle.std.proofs.Common.{refl}
use Rattle.timefd_parse.proofs.BracketLemmas.{cut_nested, inside_is, nested_at, nested_found, nested_shorter, never_broken_so, never_opened}
use Rattle.timefd_parse.proofs.bracket.first_nested.Goals as goal

pub returns-in_default : goal.returns-in_default
returns-in_default c = record {
  found = tt;
  shorter = tt;
  nested = λ white inner after list all s whole.
      never_opened c.start_of.result _ inner after c.start_of.ensures c.in_default.not-Opening
      (cut_nested _ _ _ white inner after c.cut.ensures.parts all whole);
}

pub returns-in-Ok-clause-found : goal.returns-in-Ok-clause-found
returns-in-Ok-clause-found c =
    nested_at c.args.version _ _ _ _ _ c.in-Ok.ensures.members.0 c.closed.result
    c.cut.ensures.parts c.in-Opening.ensures c.in-Ok.ensures.members.1 c.closed.ensures.closed

pub returns-in-Ok-clause-nested : goal.returns-in-Ok-clause-nested
returns-in-Ok-clause-nested c = λ white inner after list all s whole.
    nested_found c.args.version _ inner after list c.in-Ok.ensures.members.0 _ c.closed.result s
    (inside_is _ _ inner after c.in-Opening.ensures
    (cut_nested _ _ _ white inner after c.cut.ensures.parts all whole))
    c.in-Ok.ensures.members.1 c.closed.ensures.found

pub returns-clause-nested : goal.returns-clause-nested
returns-clause-nested c = λ white inner after list all s whole.
    never_broken_so c.args.version _ inner after list c.in-Err.field-0 s
    (inside_is _ _ inner after c.in-Opening.ensures
    (cut_nested _ _ _ white inner after c.cut.ensures.parts all whole))
    c.in-Err.ensures.members (c.in-Err.ensures.invalid refl)

pub returns-in-Ok-clause-shorter : goal.returns-in-Ok-clause-shorter
returns-in-Ok-clause-shorter c =
    nested_shorter c.args.version _ c.closed.result
    (nested_at c.args.version _ _ _ _ _ c.in-Ok.ensures.members.0 c.closed.result
    c.cut.ensures.parts c.in-Opening.ensures c.in-Ok.ensures.members.1 c.closed.ensures.closed)
