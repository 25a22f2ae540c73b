use Rattle.std.proofs.Common.{rules}
use Rattle.timefd_format.proofs.HeaderLemmas.{is_done}
use Rattle.timefd_format.proofs.header.named_in.Goals as goal

pub returns-in-Err : goal.returns-in-Err
returns-in-Err c =
    is_done c.args.name.now c.args.header.now c.text_in.new.bytes.items c.fields.found c.fields.at
    c.in-Some.rest c.fields.more c.split_field-split.result c.eq-has_name.result c.named_step.result
    c.in-Err.error c.fields.invariant c.in-Some.is c.split_field-split.ensures c.in_ok-text_in.ensures
    (search rules) c.named_step.ensures c.in-Err.is
