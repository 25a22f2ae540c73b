use Rattle.timefd_lang_dialect.proofs.AskedLemmas.{doubled_more}
use Rattle.timefd_lang_dialect.proofs.quoted.push_doubled.Goals as goal

pub characters-preserved : goal.characters-preserved
characters-preserved c = (
  c.in-Some.ensures.left.utf8,
  doubled_more c.args.mark _ _ _ _ _ _ c.in-Some.ensures c.characters.invariant.1
      c.in_ok-push_marked.ensures,
)
