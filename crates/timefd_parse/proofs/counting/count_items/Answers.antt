use Rattle.std.proofs.Common.{◌∙◌, [], length, ap, arith}
use Rattle.timefd_parse.proofs.AmountLemmas.{lax-amount}
use Rattle.timefd_parse.proofs.ParseLemmas.{is_amount, borrowed_assigned, borrowed_spelled, borrowed_refusal, borrowed_refused, spanned_version}
use Rattle.timefd_parse.proofs.counting.count_items.Goals as goal

pub returns-in-Ok : goal.returns-in-Ok
returns-in-Ok c =
    let m = c.in-Ok.ensures.count in
    is_amount c.args.version c.args.limit c.args.text.now m.0 [] c.in-Ok.count m.1
    (m.2 ∙ lax-amount c.args.version m.0 c.requires)

pub returns : goal.returns
returns c =
    let bad = c.in-Err.ensures.count in
    record {
      read = record {
        found = tt;
        fault = borrowed_assigned _ _ _ _ _ bad c.borrowed.ensures.borrows;
        spelled = λ list s. borrowed_spelled _ _ _ _ _ list bad c.borrowed.ensures.borrows s;
        refused = λ f h.
            borrowed_refused _ _ _ _ _ f bad c.in-Err.ensures.invalid c.borrowed.ensures.borrows h;
        span = spanned_version _ _ _ _ c.in-Err.ensures.span c.borrowed.ensures.span;
        empty = λ e. absurd (omega (arith, c.in-Err.ensures.some, ap length e));
      };
      memory = λ lax. borrowed_refusal _ _ _ _ _ bad c.in-Err.ensures.invalid c.borrowed.ensures.borrows;
    }
