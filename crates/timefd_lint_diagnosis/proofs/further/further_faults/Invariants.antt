use Rattle.std.specs.Prelude.{option_map, string_bytes}
use Rattle.timefd_lang_fault.specs.Faults.{fault_of}
use Rattle.timefd_lint_diagnosis.specs.Further.{without}
use Rattle.timefd_lint_diagnosis.proofs.FurtherLemmas.{IsFoundTo}
use Rattle.timefd_lint_diagnosis.proofs.further.further_faults.Given as goal

-- What is wrong with the rest comes after what is found.
abbrev pub invariant-faults : goal.invariant-faults
invariant-faults l =
    IsFoundTo l.most l.count l.language (without l.language l.text (fault_of l.first.fault))
    (option_map string_bytes l.rest) l.found.items
