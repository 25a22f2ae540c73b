use Rattle.std.proofs.Common.{[], refl}
use Rattle.timefd_language.proofs.DirectiveLemmas.DirectiveLemmas.{counted_once, counted_unrefused, one}
use Rattle.timefd_language.specs.Strftime.{no_directives}
use Rattle.timefd_parse.proofs.language.strftime_amount.Goals as goal

pub returns-in-Ok : goal.returns-in-Ok
returns-in-Ok c = λ limit. record {
  read = record {
    found = c.in-Ok.ensures.found;
    fault = tt;
    spelled = λ list s. counted_once c.args.text.now _ c.in-Ok.ensures.found list s;
    refused = λ f h. counted_unrefused c.args.text.now _ c.in-Ok.ensures.found f h;
    span = tt;
    empty = λ none. refl;
  };
  memory = λ lax. tt;
}

pub returns-in-Err : goal.returns-in-Err
returns-in-Err c = λ limit. record {
  read = record {
    found = tt;
    fault = c.in-Err.ensures.fault;
    spelled = λ list s. (one c.args.text.now).not_both list _ s c.in-Err.ensures.fault;
    refused = λ f h. (one c.args.text.now).one_fault _ f c.in-Err.ensures.fault h;
    span = c.in-Err.ensures.span;
    empty = λ none. absurd
        ((one c.args.text.now).not_both [] _ (no_directives, tt, none, refl) c.in-Err.ensures.fault);
  };
  memory = λ lax. tt;
}
