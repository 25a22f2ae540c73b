use Rattle.timefd_lint_scan.proofs.names.has_percent_escape.Goals as goal

pub returns : goal.returns
returns c none = record {
  hex = c.has.ensures c.if-has.false;
  number = c.has-2.ensures none;
}
