use Rattle.timefd_lang_fault.specs.BorrowedFaults.{to_borrowed_fault}
use Rattle.timefd_language.proofs.PlacedLemmas.{is_strftime_placed}
use Rattle.timefd_language.proofs.ShortWords.{short_strftime_fault}
use Rattle.timefd_language.proofs.DirectiveLemmas.DirectiveLemmas.{borrowed_strftime_fault, spanned_strftime_fault}
use Rattle.timefd_language.proofs.strftime.count.count_strftime.Goals as goal

pub returns-in-Err-clause-fault : goal.returns-in-Err-clause-fault
returns-in-Err-clause-fault c =
    borrowed_strftime_fault c.args.s.now c.in-Err.fault c.of.result c.in-Err.ensures c.of.ensures.fault

pub returns-in-Err-clause-position : goal.returns-in-Err-clause-position
returns-in-Err-clause-position c =
    is_strftime_placed c.args.s.now c.utf8.s (to_borrowed_fault c.of.result)
    (borrowed_strftime_fault c.args.s.now c.in-Err.fault c.of.result c.in-Err.ensures c.of.ensures.fault)

pub returns-in-Err-clause-words : goal.returns-in-Err-clause-words
returns-in-Err-clause-words c =
    short_strftime_fault c.args.s.now (to_borrowed_fault c.of.result)
    (borrowed_strftime_fault c.args.s.now c.in-Err.fault c.of.result c.in-Err.ensures c.of.ensures.fault)

pub returns-in-Err-clause-span : goal.returns-in-Err-clause-span
returns-in-Err-clause-span c =
    spanned_strftime_fault c.args.s.now c.in-Err.fault c.of.result c.in-Err.ensures.6 c.of.ensures.borrowed
