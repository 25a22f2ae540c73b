use Rattle.std.proofs.Common.{arith, ap, length, refl}
use Rattle.timefd_parse.proofs.ParseLemmas.{items_spelled, same_list, no_fault_in}
use Rattle.timefd_parse.proofs.borrowing.parse_items.Goals as goal

pub returns-in-Ok : goal.returns-in-Ok
returns-in-Ok c = record {
  found = (
    _,
    items_spelled _ _ _ _ _ c.in-Ok.ensures.items.0,
    (refl, c.in-Ok.ensures.items.1),
  );
  fault = tt;
  spelled = λ list s. (
    same_list _ _ _ _ _ list c.in-Ok.ensures.items.0 s,
    c.in-Ok.ensures.items.1,
  );
  refused = λ f h. no_fault_in _ _ _ _ _ f c.in-Ok.ensures.items.0 h;
  span = tt;
  empty = λ none. refl;
}

pub returns-in-Err : goal.returns-in-Err
returns-in-Err c = record {
  found = tt;
  fault = c.error_of.ensures.fault;
  spelled = c.error_of.ensures.spelled;
  refused = c.error_of.ensures.refused;
  span = c.error_of.ensures.span c.in-Err.ensures.span;
  empty = λ e. absurd (omega (arith, c.in-Err.ensures.some, ap length e));
}
