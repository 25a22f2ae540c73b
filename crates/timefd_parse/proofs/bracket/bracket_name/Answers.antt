use Rattle.std.proofs.Common.{ap, arith, eqb-true, length, sym}
use Rattle.timefd_parse.proofs.BracketLemmas.{never_nameless, same_name}
use Rattle.timefd_parse.proofs.ReadLemmas.{cut_shorter}
use Rattle.timefd_parse.proofs.bracket.bracket_name.Goals as goal

pub returns-then-is_empty-clause-heads : goal.returns-then-is_empty-clause-heads
returns-then-is_empty-clause-heads c = λ h after is stops whole.
    never_nameless _ _ _ _ _ _ h after (eqb-true _ 0 (sym c.if-is_empty.ensures)) c.in-Opening.ensures
    c.cut.ensures.parts c.cut-2.ensures.parts is stops whole

pub returns-clause-heads : goal.returns-clause-heads
returns-clause-heads c = λ h after is stops whole.
    let same = same_name _ _ _ _ _ _ h after c.in-Opening.ensures c.cut.ensures.parts
    c.cut-2.ensures.parts is stops whole in
    (same.front, same.rest)

pub returns-clause-shorter : goal.returns-clause-shorter
returns-clause-shorter c =
    omega (
      arith,
      ap length c.in-Opening.ensures,
      cut_shorter _ _ _ _ c.cut.ensures.parts,
      cut_shorter _ _ _ _ c.cut-2.ensures.parts,
    )
