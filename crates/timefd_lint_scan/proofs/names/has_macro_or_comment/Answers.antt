use Rattle.timefd_lint_scan.proofs.names.has_macro_or_comment.Goals as goal

pub returns : goal.returns
returns c none = record {
  format_description = c.has.ensures c.if-has.false;
  attribute = c.has-2.ensures c.if-has-2.false;
  timefd = c.has-3.ensures none;
}
