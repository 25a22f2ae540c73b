use Rattle.timefd_lint_scan.proofs.names.has_call_of_jiff.Goals as goal

pub returns : goal.returns
returns c none = record {
  strftime = c.has.ensures c.if-has.false;
  strptime = c.has-2.ensures c.if-has-2.false;
  strtime = c.has-3.ensures c.if-has-3.false;
  broken_down = c.has-4.ensures none;
}
