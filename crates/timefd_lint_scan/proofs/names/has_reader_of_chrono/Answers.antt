use Rattle.timefd_lint_scan.proofs.names.has_reader_of_chrono.Goals as goal

pub returns : goal.returns
returns c none = record {
  parse_from_str = c.has.ensures c.if-has.false;
  datetime_from_str = c.has-2.ensures c.if-has-2.false;
  parse_and_remainder = c.has-3.ensures none;
}
