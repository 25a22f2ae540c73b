use Rattle.timefd_lang_dialect.proofs.CharacterLemmas.{literal_more}
use Rattle.timefd_lang_dialect.proofs.character.push_literal.Goals as goal

pub characters-preserved : goal.characters-preserved
characters-preserved c = (
  c.in-Some.ensures.left.utf8,
  literal_more _ _ _ _ _ _ c.in-Some.ensures c.characters.invariant.1
      c.in_ok-push_char.ensures,
)
