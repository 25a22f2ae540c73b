use Rattle.timefd_lang_convert.proofs.PrintingLemmas.LiteralLemmas.{begun, one_escape}
use Rattle.timefd_lang_convert.proofs.printing.literal.push_literal.Goals as goal

pub loop-special-init : goal.loop-special-init
loop-special-init c = (
  c.cut_run.ensures.utf8,
  begun _ _ _ _ _ c.cut_run.ensures.parts c.in_ok-push_str.ensures.bytes,
  c.cut_run.ensures.parts.stops,
)

pub loop-special-preserved : goal.loop-special-preserved
loop-special-preserved c =
    let is = c.in-Some.ensures in (
      c.cut_run-in-Some.ensures.utf8,
      one_escape _ _ _ _ _ _ _ _ _ _ is.0 is.1 is.2 is.3 c.cut_run-in-Some.ensures.parts
          c.in_ok-push_str-2.ensures.bytes c.in_ok-push_str-3.ensures.bytes
          c.in_ok-push_str-4.ensures.bytes c.loop-special.invariant.1,
      c.cut_run-in-Some.ensures.parts.stops,
    )
