use Rattle.std.proofs.Common.{◌∙◌, sym, arith}
use Rattle.timefd_lang_dialect.proofs.CharacterLemmas.{quoted_step}
use Rattle.timefd_lang_dialect.proofs.quote.quote_step.Goals as goal

pub returns-then-not-begins_with : goal.returns-then-not-begins_with
returns-then-not-begins_with c =
    let first = c.in-Some.ensures in (
      quoted_step c.args.text.now c.in-Some.character.now c.in-Some.after.now first
          (omega (arith, first.left.shorter))
          (sym c.begins_with.ensures ∙ c.if-not-begins_with.true),
      first.character,
      first.left,
    )
