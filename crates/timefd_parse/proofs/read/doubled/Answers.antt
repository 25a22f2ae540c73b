use Rattle.std.proofs.Common.{lit<}
use Rattle.timefd_parse.proofs.ReadLemmas.{after_first}
use Rattle.timefd_parse.proofs.read.doubled.Goals as goal

pub split_at-requires : goal.split_at-requires
split_at-requires c = after_first _ _ _ c.in-One-Opening.ensures (lit< tt) c.utf8.inside
