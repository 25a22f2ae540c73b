use Rattle.std.proofs.Common.{rules, ◌∙◌, ◌++◌, ap}
use Rattle.timefd_parse.proofs.FirstPieceLemmas.{boundary, joined_again, nothing_spelled}
use Rattle.timefd_lint_explain.proofs.LeafLemmas.{empty_text, leaf_begins, leaf_ends, leaf_shown}
use Rattle.timefd_lint_explain.proofs.pieces.first_shown.Goals as goal

pub returns-then-is_empty-clause-spelled : goal.returns-then-is_empty-clause-spelled
returns-then-is_empty-clause-spelled c = λ list s.
    let none = empty_text c.args.text.now (search rules) in
    (nothing_spelled c.args.language c.args.text.now list none s, none)

pub split_at-requires : goal.split_at-requires
split_at-requires c =
    let leads = c.in-Some.ensures.leads in
    boundary c.args.text.now c.in-Some.after.now
    (leaf_ends c.in-Version.version c.args.text.now c.in-Some.after.now _ leads) leads.utf8

pub returns-in-Some-clause-joined : goal.returns-in-Some-clause-joined
returns-in-Some-clause-joined c =
    ap (λ t. t ++ c.in-Some.after.now) c.in_ok-item_piece.ensures.0
    ∙ joined_again c.args.text.now _ c.in-Some.after.now
    (leaf_ends c.in-Version.version c.args.text.now c.in-Some.after.now _ c.in-Some.ensures.leads)
    c.split_at.ensures.front

pub returns-in-Some-clause-spelled : goal.returns-in-Some-clause-spelled
returns-in-Some-clause-spelled c = λ list s.
    leaf_begins c.args.language c.in-Version.version c.args.text.now _ c.in-Some.after.now _ _ list
    c.in-Version.is c.in-Some.ensures.leads
    (joined_again c.args.text.now _ c.in-Some.after.now
    (leaf_ends c.in-Version.version c.args.text.now c.in-Some.after.now _ c.in-Some.ensures.leads)
    c.split_at.ensures.front)
    c.in_ok-item_piece.ensures.0 s

pub returns-in-Some-clause-shows : goal.returns-in-Some-clause-shows
returns-in-Some-clause-shows c = λ tree s.
    leaf_shown c.args.language c.in-Version.version c.args.text.now _ c.in-Some.after.now _ tree _
    c.in-Version.is c.in-Some.ensures.leads
    (joined_again c.args.text.now _ c.in-Some.after.now
    (leaf_ends c.in-Version.version c.args.text.now c.in-Some.after.now _ c.in-Some.ensures.leads)
    c.split_at.ensures.front)
    c.in_ok-item_piece.ensures s
