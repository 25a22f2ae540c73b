use Rattle.std.proofs.Common.{◌<◌, rules, ap, sym}
use Rattle.std.specs.Prelude.{option_map, string_bytes}
use Rattle.timefd_lang_fault.specs.Faults.{fault_of}
use Rattle.timefd_lint_diagnosis.specs.Further.{without}
use Rattle.timefd_lint_diagnosis.proofs.FurtherLemmas.{accepted_rest}
use Rattle.timefd_lint_diagnosis.proofs.further.further_faults.Goals as goal

pub returns-in_default-2 : goal.returns-in_default-2
returns-in_default-2 c =
    let below : c.faults.count < c.args.most = search rules in
    accepted_rest c.args.most c.faults.count c.args.language
    (without c.args.language c.args.text.now (fault_of c.args.first.now.fault))
    (option_map string_bytes c.faults.rest) c.faults.found.items (string_bytes c.in-Some.left)
    c.deref.result.now below (ap (option_map string_bytes) c.in-Some.is) c.deref.ensures
    (c.in_ok-diagnostic.ensures.accepted c.in_default-2.is) c.faults.invariant
