use Rattle.std.proofs.Common.{rules, arith}
use Rattle.std.proofs.lemmas.List.{nil_from_length}
use Rattle.timefd_description.specs.Guessing.Candidates.{entries}
use Rattle.timefd_description.specs.Guessing.Found.{texts}
use Rattle.timefd_description.proofs.GuessingLemmas.FoundLemmas.{all_found, first_found}
use Rattle.timefd_description.proofs.guessing.guessing.push_found.Goals as goal

pub candidates-preserved : goal.candidates-preserved
candidates-preserved c =
    first_found (entries c.args.candidates.now) (texts c.args.texts.now) c.candidates.rest.now _ _
    c.args.found.now.items c.candidates.found.items c.push_if.new.found.items (search rules)
    c.in-len1-up.len_at_least c.in_ok-push_if.ensures c.candidates.invariant

pub returns : goal.returns
returns c =
    all_found (entries c.args.candidates.now) (texts c.args.texts.now) c.candidates.rest.now
    c.args.found.now.items c.candidates.found.items
    (nil_from_length c.candidates.rest.now (omega (arith, c.in_default.len_below)))
    c.candidates.invariant
