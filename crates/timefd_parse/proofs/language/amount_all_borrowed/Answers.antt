use Rattle.std.proofs.Common.{IsFalse, sym, subst}
use Rattle.timefd_lang_fault.specs.BorrowedFaults.{HasShortFault, IsBorrowedOf}
use Rattle.timefd_lang_fault.specs.Placed.{IsPlaced}
use Rattle.timefd_language.proofs.PlacedLemmas.{borrowed_more}
use Rattle.timefd_language.proofs.ShortWords.{short_borrowed}
use Rattle.timefd_parse.specs.Language.{FaultIn, IsAmount}
use Rattle.timefd_parse.proofs.AmountLemmas.{if_err_more, placed_in, short_in}
use Rattle.timefd_parse.proofs.language.amount_all_borrowed.Goals as goal

pub returns-in-Version : goal.returns-in-Version
returns-in-Version c =
    let is : IsAmount c.args.language c.args.limit c.args.text.now c.version_amount.result =
    subst (λ l. IsAmount l c.args.limit c.args.text.now c.version_amount.result) (sym c.in-Version.is)
    c.version_amount.ensures in
    let assigned = FaultIn c.args.language c.args.limit c.args.text.now in
    record {
      found = is.read.found;
      fault = is.read.fault;
      spelled = is.read.spelled;
      refused = is.read.refused;
      position = if_err_more (IsBorrowedOf assigned) (IsBorrowedOf (IsPlaced c.args.text.now))
          (borrowed_more assigned (IsPlaced c.args.text.now)
          (placed_in c.args.language c.args.limit c.args.text.now c.utf8.text))
          c.version_amount.result is.read.fault;
      words = if_err_more (IsBorrowedOf assigned) HasShortFault
          (short_borrowed assigned (short_in c.args.language c.args.limit c.args.text.now))
          c.version_amount.result is.read.fault;
      span = is.read.span;
      memory = is.memory;
      empty = is.read.empty;
    }

pub returns-in-Strftime : goal.returns-in-Strftime
returns-in-Strftime c =
    let is : IsAmount c.args.language c.args.limit c.args.text.now c.strftime_amount.result =
    subst (λ l. IsAmount l c.args.limit c.args.text.now c.strftime_amount.result) (sym c.in-Strftime.is)
    (c.strftime_amount.ensures c.args.limit) in
    let assigned = FaultIn c.args.language c.args.limit c.args.text.now in
    record {
      found = is.read.found;
      fault = is.read.fault;
      spelled = is.read.spelled;
      refused = is.read.refused;
      position = if_err_more (IsBorrowedOf assigned) (IsBorrowedOf (IsPlaced c.args.text.now))
          (borrowed_more assigned (IsPlaced c.args.text.now)
          (placed_in c.args.language c.args.limit c.args.text.now c.utf8.text))
          c.strftime_amount.result is.read.fault;
      words = if_err_more (IsBorrowedOf assigned) HasShortFault
          (short_borrowed assigned (short_in c.args.language c.args.limit c.args.text.now))
          c.strftime_amount.result is.read.fault;
      span = is.read.span;
      memory = is.memory;
      empty = is.read.empty;
    }
