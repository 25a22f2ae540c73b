use Rattle.std.proofs.Common.{rules, refl, ◌≡◌, ◌≢◌, length}
use Rattle.std.proofs.Output.{has_written_of_eq}
use Rattle.timefd_lang_fault.proofs.SentenceLemmas.{unsupported-none, unsupported-some}
use Rattle.timefd_lang_fault.proofs.invalid_format_description.InvalidFormatDescriptionDisplay.fmt.Goals as goal

pub returns-in-MissingRequiredModifier-clause-writes : goal.returns-in-MissingRequiredModifier-clause-writes
returns-in-MissingRequiredModifier-clause-writes g c =
    λ plain ok. has_written_of_eq _ _ _ _ _ (rw c.in-MissingRequiredModifier.is refl)
    (c.write-in-MissingRequiredModifier.ensures.writes plain ok)

pub returns-then-is_empty-clause-writes : goal.returns-then-is_empty-clause-writes
returns-then-is_empty-clause-writes g c =
    let none : length c.in-NotSupported.context.now ≡ 0 = search rules in
    λ plain ok. has_written_of_eq _ _ _ _ _ (rw c.in-NotSupported.is (unsupported-none _ _ _ none))
    (c.write-then-is_empty.ensures.writes plain ok)

pub returns-else-is_empty-clause-writes : goal.returns-else-is_empty-clause-writes
returns-else-is_empty-clause-writes g c =
    let some : length c.in-NotSupported.context.now ≢ 0 = search rules in
    λ plain ok. has_written_of_eq _ _ _ _ _ (rw c.in-NotSupported.is (unsupported-some _ _ _ some))
    (c.write-else-is_empty.ensures.writes plain ok)
