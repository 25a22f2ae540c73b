use Rattle.std.proofs.Common.{Some, IsUtf8, subst, sym}
use Rattle.timefd_c.specs.Warnings.{Warns}
use Rattle.timefd_c.proofs.WarningLemmas.{accepting}
use Rattle.timefd_c.proofs.warnings.warn_of.Goals as goal

pub returns-in-Ok-amount_all_borrowed : goal.returns-in-Ok-amount_all_borrowed
returns-in-Ok-amount_all_borrowed c =
    let text = c.in-Ok.ensures.cases in
    let amount = c.in-Ok-amount_all_borrowed.ensures in
    let language = c.in-Some.language in
    let before = c.args.warnings.now in
    let after = c.accepted.new.warnings in
    let answer = c.accepted.result in
    record {
      warns =
          subst (λ l. Warns l c.args.bytes.now before after answer) (sym c.in-Some.is)
          (subst (λ bytes. Warns (Some language) bytes before after answer) text.0
          (accepting language c.in-Ok.text.now before after answer amount.found.0
          (subst IsUtf8 (sym text.0) text.1) amount.found.1
          (λ list spelled. c.accepted.ensures list spelled (amount.spelled list spelled))
          (λ f faulty. amount.refused f faulty)));
    }
