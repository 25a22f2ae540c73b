use Rattle.timefd_parse.proofs.FirstPieceLemmas.{boundary, joined_again}
use Rattle.timefd_parse.proofs.leading.in_front.Goals as goal

pub split_at-requires : goal.split_at-requires
split_at-requires c = boundary _ _ c.requires c.utf8.rest

pub returns : goal.returns
returns c = joined_again _ _ _ c.requires c.split_at.ensures.front
