use Rattle.timefd_format.specs.Days.{padded_day, padded_month, padded_year}
use Rattle.timefd_format.proofs.DayLemmas.{five_read_if}
use Rattle.timefd_format.proofs.fast.day.month_first.Goals as goal

pub returns : goal.returns
returns c =
    five_read_if padded_month c.args.between.now padded_day c.args.after.now padded_year
    c.as_bytes.result.now c.as_bytes-2.result.now c.args.text.now
    c.in_ok-len_1.len_1 c.in_ok-len_2.len_2 c.in_ok-len_3.len_3 c.in_ok-len_4.len_4 c.in_ok-len_5.len_5
    c.in_ok-len_1.numbers_1 c.in_ok-len_2.numbers_2 c.in_ok-len_3.numbers_3 c.in_ok-len_4.numbers_4 c.in_ok-len_5.numbers_5
    c.if_whole.result c.as_bytes.ensures.value c.as_bytes-2.ensures.value c.in_ok-len_1.ensures.reads c.in_ok-len_2.ensures.reads c.in_ok-len_3.ensures.reads
    c.in_ok-len_4.ensures.reads c.in_ok-len_5.ensures.reads c.if_whole.ensures.whole c.if_whole.ensures.same
