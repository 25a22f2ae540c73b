use Rattle.std.proofs.Common.{rules, arith, []}
use Rattle.std.proofs.lemmas.List.{nil_from_length}
use Rattle.timefd_description.specs.Guessing.Candidates.{all_entries}
use Rattle.timefd_description.specs.Guessing.Found.{texts}
use Rattle.timefd_description.proofs.GuessingLemmas.FoundLemmas.{all_in_groups, first_group}
use Rattle.timefd_description.proofs.guessing.guessing.found_of_all.Goals as goal

pub groups-preserved : goal.groups-preserved
groups-preserved c =
    first_group all_entries (texts c.args.texts.now) c.groups.rest.now _ _ c.rows.result.now []
    c.groups.found.items c.push_found.new.found.items (search rules) c.in-len1-up.len_at_least
    c.rows.ensures c.in_ok-push_found.ensures c.groups.invariant

pub returns : goal.returns
returns c =
    all_in_groups all_entries (texts c.args.texts.now) c.groups.rest.now c.groups.found.items
    (nil_from_length c.groups.rest.now (omega (arith, c.in_default.len_below)))
    c.groups.invariant
