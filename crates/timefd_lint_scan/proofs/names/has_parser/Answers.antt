use Rattle.timefd_lint_scan.proofs.names.has_parser.Goals as goal

pub returns : goal.returns
returns c none = record {
  parse_borrowed = c.has.ensures c.if-has.false;
  parse_owned = c.has-2.ensures c.if-has-2.false;
  parse_strftime = c.has-3.ensures none;
}
