-- A rewritten text has no fault in version 2.
use Rattle.std.proofs.Common.{◌≡◌, List, refl, subst}
use Rattle.timefd_parse.specs.InvalidFormatDescription.{InvalidFormatDescription}
use Rattle.timefd_parse.specs.Tree.{Text, Tree}
use Rattle.timefd_parse.specs.DescriptionVersion.TheVariants.{Two}
use Rattle.timefd_parse.specs.ParseError.{ParseError}
use Rattle.timefd_parse.specs.ParseError.TheVariants.{Invalid}
use Rattle.timefd_parse.specs.Reported.{MemoryAlone}
use Rattle.timefd_parse.specs.Grammar.{Spells, items, nesting_limit}
use Rattle.timefd_lift.specs.Answers.{IsRewritten, HasItemsOf}

pub no_fault : (text answer read : Text) (e : ParseError) (f : InvalidFormatDescription)
    → read ≡ answer
    → IsRewritten text answer → HasItemsOf text answer
    → ((list : List Tree) → Spells Two nesting_limit 0 read list → MemoryAlone e) → e ≡ Invalid f
    → ⊥
no_fault text answer read e f same r has memory is =
    let two = has (items r.0) (r.0, r.1.0, r.1.1, refl) in
    subst MemoryAlone is (memory two.0 (rw same two.1))
