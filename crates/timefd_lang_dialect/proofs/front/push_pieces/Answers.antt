use Rattle.std.proofs.Common.{ℕ, ◌≡◌, ◌==◌, ◌<◌, ◌∙◌, sym, false, arith, length}
use Rattle.std.proofs.lemmas.Bool.Decides.{nat_tests}
use Rattle.timefd_lang_dialect.proofs.PlainLemmas.{run_taken}
use Rattle.timefd_lang_dialect.proofs.ReadingLemmas.{gives_steps}
use Rattle.timefd_lang_dialect.proofs.front.push_pieces.Goals as goal

pub returns-then-is_empty : goal.returns-then-is_empty
returns-then-is_empty c =
    gives_steps c.args.dialect c.args.text.now _ _ c.push_front.result c.push_front.ensures

pub returns : goal.returns
returns c =
    let cut = c.cut_plain.ensures in
    run_taken c.args.dialect c.args.text.now c.cut_plain.result.0.now c.cut_plain.result.1.now _ _
    c.whole.result cut.parts.whole cut.parts.passes cut.parts.stops cut.utf8
    (some (length c.cut_plain.result.0.now) (sym c.is_empty.ensures ∙ c.if-is_empty.false))
    c.in_ok-push_str.ensures.bytes c.whole.ensures.0 c.whole.ensures.1
  where
    some : (n : ℕ) → (n == 0) ≡ false → 0 < n
    some n e = grind (arith, nat_tests)
