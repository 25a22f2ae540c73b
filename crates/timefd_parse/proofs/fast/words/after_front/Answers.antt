use Rattle.std.proofs.Common.{◌++◌, length, sym, ap, ◌∙◌, subst, IsUtf8}
use Rattle.std.proofs.lemmas.Str.{IsUtf8-drop}
use Rattle.timefd_parse.proofs.BareLemmas.{word_before, word_ends}
use Rattle.timefd_parse.proofs.fast.words.after_front.Goals as goal

pub range_from-requires : goal.range_from-requires
range_from-requires c _ =
    word_ends c.args.text.now c.args.word.now (c.requires c.if-is_there.true) c.utf8.text c.utf8.word

pub returns-then-is_there : goal.returns-then-is_there
returns-then-is_there c = (
  word_before c.args.text.now c.args.word.now (c.requires c.if-is_there.true)
      ∙ ap (λ t. c.args.word.now ++ t) (sym c.range_from.ensures.value),
  subst IsUtf8 (sym c.range_from.ensures.value)
      (IsUtf8-drop c.args.text.now (length c.args.word.now) c.utf8.text
      (word_ends c.args.text.now c.args.word.now (c.requires c.if-is_there.true) c.utf8.text
      c.utf8.word)),
)
