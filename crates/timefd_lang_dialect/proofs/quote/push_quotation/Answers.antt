use Rattle.std.proofs.Common.{◌∙◌, ◌++◌, append_assoc, ap, sym, arith, string_bytes}
use Rattle.timefd_lang_dialect.specs.Quotes.{escaped, quotation}
use Rattle.timefd_lang_dialect.specs.QuoteSteps.{with_front}
use Rattle.timefd_lang_dialect.proofs.CharacterLemmas.{escaped_append, with_front-append, with_front-none, with_front-some}
use Rattle.timefd_lang_dialect.proofs.quote.push_quotation.Goals as goal

pub returns-in-End : goal.returns-in-End
returns-in-End c =
    let i = c.characters.invariant in
    i.3 ∙ ap (λ x. with_front i.1 (quotation x)) c.in-End.ensures ∙ with_front-none i.1

pub returns-in-Closing : goal.returns-in-Closing
returns-in-Closing c =
    let i = c.characters.invariant in (
      i.1,
      i.3 ∙ ap (with_front i.1) c.in-Closing.ensures.0
          ∙ with_front-some i.1 c.in-Closing.after.now,
      i.2,
      record {
        shorter = omega (arith, i.4, c.in-Closing.ensures.1.shorter);
        utf8 = c.in-Closing.ensures.1.utf8;
      },
    )

pub characters-preserved : goal.characters-preserved
characters-preserved c =
    let i = c.characters.invariant in
    let s = c.in-Character.ensures in
    let front = c.in-Character.character.now in (
      s.2.utf8,
      i.1 ++ front,
      c.in_ok-push_char-in-Character.ensures ∙ ap (λ x. x ++ escaped front) i.2
          ∙ append_assoc _ (escaped i.1) (escaped front)
          ∙ ap (λ x. string_bytes c.args.answer.now ++ x) (sym (escaped_append i.1 front)),
      i.3 ∙ ap (with_front i.1) s.0
          ∙ sym (with_front-append i.1 front (quotation c.in-Character.after.now)),
      omega (arith, i.4, s.2.shorter),
    )
