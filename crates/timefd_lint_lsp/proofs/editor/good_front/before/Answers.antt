use Rattle.timefd_parse.proofs.FirstPieceLemmas.{boundary, joined_again}
use Rattle.timefd_lint_lsp.proofs.editor.good_front.before.Goals as goal

pub split_at-requires : goal.split_at-requires
split_at-requires c = boundary c.args.text.now c.args.rest.now c.requires c.utf8.rest

pub returns : goal.returns
returns c = joined_again c.args.text.now _ c.args.rest.now c.requires c.split_at.ensures.front
