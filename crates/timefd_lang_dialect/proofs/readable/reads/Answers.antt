use Rattle.std.proofs.Common.{subst}
use Rattle.timefd_lang_dialect.specs.Answers.{IsRefusedFor}
use Rattle.timefd_lang_dialect.proofs.ReaderLemmas.{refused_reads}
use Rattle.timefd_lang_dialect.proofs.readable.reads.Goals as goal

pub returns-in-Err-Refused : goal.returns-in-Err-Refused
returns-in-Err-Refused c =
    refused_reads c.args.dialect c.args.text.now c.in-Err-Refused.field-0-0
    (subst (IsRefusedFor c.args.dialect c.args.text.now) c.in-Err-Refused.field-0-is
    c.in-Err-Refused.ensures.fault)
