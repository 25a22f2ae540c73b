use Rattle.std.proofs.Common.{arith, chars}
use Rattle.std.proofs.lemmas.Int.{clamps}
use Rattle.std.proofs.lemmas.Str.{IsUtf8-past_char, chars_past_char}
use Rattle.timefd_lint_diagnosis.proofs.LackingLemmas.{one_more_lack}
use Rattle.timefd_lint_diagnosis.proofs.nearest.lacking.Goals as goal

pub loop-character-preserved : goal.loop-character-preserved
loop-character-preserved c =
    let held = c.loop-character.invariant in (
      IsUtf8-past_char _ _ c.in-Some.character held.0 c.in-Some.ensures.steps.0,
      one_more_lack (chars c.args.other.now) _ _ c.in-Some.character c.loop-character.count
          c.lack_of.result _ _
          (chars_past_char _ _ c.in-Some.character held.0 c.in-Some.ensures.steps.0)
          c.lack_of.ensures (omega (arith, clamps)) held.1,
    )

pub returns : goal.returns
returns c = omega (arith, c.loop-character.invariant.1)
