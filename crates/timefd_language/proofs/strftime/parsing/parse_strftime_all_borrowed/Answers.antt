use Rattle.timefd_language.specs.Strftime.{StrftimeFaultOf}
use Rattle.timefd_lang_fault.specs.Placed.{IsPlaced}
use Rattle.timefd_language.proofs.PlacedLemmas.{is_strftime_placed, borrowed_more}
use Rattle.timefd_language.proofs.ShortWords.{short_borrowed, short_strftime_fault}
use Rattle.timefd_language.proofs.DirectiveLemmas.DirectiveLemmas.{one}
use Rattle.timefd_language.proofs.strftime.parsing.parse_strftime_all_borrowed.Goals as goal

pub returns-in-Ok-clause-spelled : goal.returns-in-Ok-clause-spelled
returns-in-Ok-clause-spelled c = λ list s. (one c.args.s.now).one_list _ list c.in-Ok.ensures.found
    s

pub returns-in-Ok-clause-refused : goal.returns-in-Ok-clause-refused
returns-in-Ok-clause-refused c = λ f h. (one c.args.s.now).not_both _ f c.in-Ok.ensures.found h

pub returns-in-Err-clause-position : goal.returns-in-Err-clause-position
returns-in-Err-clause-position c =
    borrowed_more (StrftimeFaultOf c.args.s.now) (IsPlaced c.args.s.now)
    (is_strftime_placed c.args.s.now c.utf8.s) _ c.strftime_error.ensures.fault

pub returns-in-Err-clause-words : goal.returns-in-Err-clause-words
returns-in-Err-clause-words c =
    short_borrowed (StrftimeFaultOf c.args.s.now) (short_strftime_fault c.args.s.now) _
    c.strftime_error.ensures.fault
