use Rattle.std.proofs.Common.{◌≡◌, [], MatchOption, subst}
use Rattle.timefd_parse.specs.FirstPiece.{IsAfterFirst}
use Rattle.timefd_parse.proofs.FirstPieceLemmas.{begins_list, ends_with, is_first, not_broken, nothing_spelled}
use Rattle.timefd_parse.proofs.leading.first_piece.Goals as goal

pub in_front-requires : goal.in_front-requires
in_front-requires c =
    ends_with c.args.language _ _
    (subst (λ r. MatchOption r (c.args.text.now ≡ [])
    (λ after. IsAfterFirst c.args.language c.args.text.now after.now)) c.in-Ok-Some.field-0-is
    c.in-Ok-Some.ensures.found)

pub returns-in-Ok-Some-clause-found : goal.returns-in-Ok-Some-clause-found
returns-in-Ok-Some-clause-found c =
    is_first c.args.language _ _ _
    (subst (λ r. MatchOption r (c.args.text.now ≡ [])
    (λ after. IsAfterFirst c.args.language c.args.text.now after.now)) c.in-Ok-Some.field-0-is
    c.in-Ok-Some.ensures.found) c.in_front.ensures

pub returns-in-Ok-Some-clause-spelled : goal.returns-in-Ok-Some-clause-spelled
returns-in-Ok-Some-clause-spelled c = λ list s.
    begins_list c.args.language _ _ _ list
    (subst (λ r. MatchOption r (c.args.text.now ≡ [])
    (λ after. IsAfterFirst c.args.language c.args.text.now after.now)) c.in-Ok-Some.field-0-is
    c.in-Ok-Some.ensures.found) c.in_front.ensures s

pub returns-in-Ok-None-clause-spelled : goal.returns-in-Ok-None-clause-spelled
returns-in-Ok-None-clause-spelled c = λ list s.
    nothing_spelled c.args.language _ list
    (subst (λ r. MatchOption r (c.args.text.now ≡ [])
    (λ after. IsAfterFirst c.args.language c.args.text.now after.now)) c.in-Ok-None.field-0-is
    c.in-Ok-None.ensures.found) s

pub returns-in-Err-clause-spelled : goal.returns-in-Err-clause-spelled
returns-in-Err-clause-spelled c = λ list s.
    not_broken c.args.language _ _ list c.in-Err.ensures.fault c.in-Err.ensures.memory s
