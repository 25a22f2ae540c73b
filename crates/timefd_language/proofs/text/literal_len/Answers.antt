use Rattle.std.proofs.Common.{arith}
use Rattle.std.proofs.lemmas.Bool.Decides.{nat_tests}
use Rattle.timefd_language.specs.declared.description_version.DescriptionVersion.TheVariants.{One, Three}
use Rattle.timefd_language.specs.Bytes.{is_run_byte}
use Rattle.timefd_language.specs.Strftime.{is_plain}
use Rattle.timefd_language.proofs.CutLemmas.{front_len}
use Rattle.timefd_language.proofs.text.literal_len.Goals as goal

pub returns-in-Run : goal.returns-in-Run
returns-in-Run c =
    rw c.in-Run.is (front_len (is_run_byte Three) _ _ _ (λ b. grind (arith, nat_tests))
    c.len_before.ensures)

pub returns-in-RunWithBackslash : goal.returns-in-RunWithBackslash
returns-in-RunWithBackslash c = rw c.in-RunWithBackslash.is
    (front_len (is_run_byte One) _ _ _ (λ b. grind (arith, nat_tests))
    c.len_before-in-RunWithBackslash.ensures)

pub returns-in-Plain : goal.returns-in-Plain
returns-in-Plain c = rw c.in-Plain.is
    (front_len is_plain _ _ _ (λ b. grind (arith, nat_tests)) c.len_before-in-Plain.ensures)
