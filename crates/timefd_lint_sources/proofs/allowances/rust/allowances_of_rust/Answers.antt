use Rattle.timefd_lint_sources.proofs.CommentLemmas.{by_comments}
use Rattle.timefd_lint_sources.proofs.allowances.rust.allowances_of_rust.Goals as goal

pub returns : goal.returns
returns c =
    by_comments c.args.source.now c.as_bytes.result.now c.in_ok-comments.comments.items c.deref.result.now
    c.new-found.result.items c.push_tokens.new.found.items c.in_ok-comments.ensures c.as_bytes.ensures.value
    c.deref.ensures.value c.new-found.ensures.items c.in_ok-push_tokens.ensures
