use Rattle.timefd_lint_scan.proofs.names.has_call_of_chrono.Goals as goal

pub returns : goal.returns
returns c none = record {
  reader = c.has_reader_of_chrono.ensures c.if-has_reader_of_chrono.false;
  items = c.has.ensures c.if-has.false;
  local = c.has-2.ensures c.if-has-2.false;
  utc = c.has-3.ensures c.if-has-3.false;
  format = c.has_format.ensures none;
}
