-- The lines of a diff, written one after another.
use Rattle.std.proofs.Common.{ℕ, zero, suc, ◌≡◌, ◌<◌, ◌≤◌, ◌+◌, ◌-◌, ◌++◌, ◌∷◌, Bool, true, false, [], List, Option, append-nil, codes, drop, get_or, length, map, min, take, refl, sym, ap, subst, ◌∙◌, arith}
use Rattle.std.proofs.KnownBytes.{Appends-nil, Appends-trans}
use Rattle.std.proofs.lemmas.List.{drop_all, drop_more, drop-map, get_or-drop, length-drop, length-map, map_more, take_min, take_rest, take-map}
use Rattle.std.specs.Io.KnownBytes.{Appends}
use Rattle.std.specs.List.{list_any}
use Rattle.timefd_parse.specs.Tree.{Text}
use Rattle.timefd_lint_rewrite.specs.Diffs.{AreSideBySide, Line, WritesDiff, added, begins, body, changes, end_from, file_header, hunk, hunk_at, hunk_header, hunks_from, is_shown, line_of, lines_of, marked, pending, range, shown}
use Rattle.timefd_lint_rewrite.specs.declared.pairs.Pair.{Pair}

-- Writing what is left after what is written gives all.
pub record Leaves (all left : Text) (before between : Option Text) : Type 0 where
  pub gives : (after : Option Text) → Appends between after left → Appends before after all

pub all_left : (all : Text) (before : Option Text) → Leaves all all before before
all_left all before = record { gives = λ after sent. sent }

pub one_more : (all left part more : Text) (before between next : Option Text) → left ≡ part ++ more
    → Leaves all left before between → Appends between next part → Leaves all more before next
one_more all left part more before between next split so_far sent = record {
  gives = λ after rest. so_far.gives after
      (subst (λ l. Appends between after l) (sym split)
      (Appends-trans between next after part more sent rest));
}

pub none_left : (all left : Text) (before after : Option Text) → left ≡ []
    → Leaves all left before after → Appends before after all
none_left all left before after none so_far =
    so_far.gives after (subst (λ l. Appends after after l) (sym none) (Appends-nil after))

pub in_turn : (before between after : Option Text) (first second : Text) → Appends before between first
    → Appends between after second → Appends before after (first ++ second)
in_turn before between after first second sent more =
    Appends-trans before between after first second sent more

-- Hunks.

pub hunks_step : (lines : List Line) (n at : ℕ) → at < n
    → hunks_from lines (n - at) at ≡ hunk_at lines at ++ hunks_from lines (n - (at + 1)) (at + 1)
hunks_step lines n at within =
    let left : n - at ≡ suc (n - (at + 1)) = omega arith in
    ap (λ k. hunks_from lines k at) left

pub hunks_end : (lines : List Line) (n at : ℕ) → n ≤ at → hunks_from lines (n - at) at ≡ []
hunks_end lines n at past =
    let left : n - at ≡ 0 = omega arith in
    ap (λ k. hunks_from lines k at) left

pub no_hunk : (lines : List Line) (at : ℕ) (is : Bool) (before : Option Text) → is ≡ begins lines at
    → is ≡ false → Appends before before (hunk_at lines at)
no_hunk lines at is before begun none =
    let opened : hunk_at lines at ≡ [] = rw (sym begun ∙ none) refl in
    subst (λ text. Appends before before text) (sym opened) (Appends-nil before)

pub lines_between : (pairs : List Pair) (n at : ℕ)
    → lines_of (take n (drop at pairs)) ≡ take n (drop at (lines_of pairs))
lines_between pairs n at =
    sym (take-map line_of n (drop at pairs)) ∙ ap (λ ls. take n ls) (sym (drop-map line_of at pairs))

the_hunk : (pairs : List Pair) (at end : ℕ) → begins (lines_of pairs) at ≡ true
    → end ≡ end_from (lines_of pairs) (length pairs - at) at
    → hunk (at + 1) (lines_of (take (end - at) (drop at pairs))) ≡ hunk_at (lines_of pairs) at
the_hunk pairs at end some is =
    let opened : hunk_at (lines_of pairs) at
    ≡ hunk (at + 1) (take (end_from (lines_of pairs) (length (lines_of pairs) - at) at - at)
    (drop at (lines_of pairs))) = rw some refl in
    ap (hunk (at + 1)) (lines_between pairs (end - at) at)
    ∙ ap (λ e. hunk (at + 1) (take (e - at) (drop at (lines_of pairs)))) is
    ∙ ap (λ n. hunk (at + 1) (take (end_from (lines_of pairs) (n - at) at - at) (drop at (lines_of pairs))))
    (sym (length-map pairs line_of))
    ∙ sym opened

pub a_hunk : (pairs : List Pair) (at end : ℕ) (is : Bool) (before after : Option Text)
    → is ≡ begins (lines_of pairs) at → is ≡ true
    → end ≡ end_from (lines_of pairs) (length pairs - at) at
    → Appends before after (hunk (at + 1) (lines_of (take (end - at) (drop at pairs))))
    → Appends before after (hunk_at (lines_of pairs) at)
a_hunk pairs at end is before after begun some last sent =
    subst (λ text. Appends before after text) (the_hunk pairs at end (sym begun ∙ some) last) sent

lines_near : (pairs : List Pair) (n at : ℕ)
    → lines_of (take (min n (length (drop at pairs))) (drop at pairs))
    ≡ take n (drop at (lines_of pairs))
lines_near pairs n at =
    ap lines_of (take_min n (drop at pairs)) ∙ lines_between pairs n at

pub near : (pairs : List Pair) (at start count : ℕ) (is : Bool) → start ≡ at - 3
    → count ≡ min (at + 3 + 1 - start) (length (take (length pairs - start) (drop start pairs)))
    → is ≡ list_any changes (lines_of (take count (take (length pairs - start) (drop start pairs))))
    → is ≡ is_shown (lines_of pairs) at
near pairs at start count is start_is count_is any =
    let width : at + 3 + 1 - start ≡ at + 4 - (at - 3) = omega (arith, start_is) in
    any ∙ ap (λ ps. list_any changes (lines_of (take count ps))) (take_rest pairs start)
    ∙ ap (λ n. list_any changes (lines_of (take n (drop start pairs))))
    (count_is ∙ ap (λ ps. min (at + 3 + 1 - start) (length ps)) (take_rest pairs start))
    ∙ ap (list_any changes) (lines_near pairs (at + 3 + 1 - start) start)
    ∙ ap (λ n. list_any changes (take n (drop start (lines_of pairs)))) width
    ∙ ap (λ f. list_any changes (take (at + 4 - (at - 3)) (drop f (lines_of pairs)))) start_is

-- The end of a hunk.

pub goes_on : (lines : List Line) (n at : ℕ) → at < n → is_shown lines at ≡ true
    → end_from lines (n - at) at ≡ end_from lines (n - (at + 1)) (at + 1)
goes_on lines n at within is =
    let left : n - at ≡ suc (n - (at + 1)) = omega arith in
    ap (λ k. end_from lines k at) left ∙ rw is refl

pub ends_here : (lines : List Line) (n at : ℕ) → at < n → is_shown lines at ≡ false
    → end_from lines (n - at) at ≡ at
ends_here lines n at within is =
    let left : n - at ≡ suc (n - (at + 1)) = omega arith in
    ap (λ k. end_from lines k at) left ∙ rw is refl

pub ends_last : (lines : List Line) (n at : ℕ) → n ≤ at → end_from lines (n - at) at ≡ at
ends_last lines n at past =
    let left : n - at ≡ 0 = omega arith in
    ap (λ k. end_from lines k at) left

-- The lines of a hunk.

pub body_step : (changed : List Line) (pairs : List Pair) (at : ℕ) (d : Pair) → at < length pairs
    → body changed (lines_of (drop at pairs))
    ≡ shown changed (line_of (get_or pairs at d))
    ++ body (pending changed (line_of (get_or pairs at d))) (lines_of (drop (at + 1) pairs))
body_step changed pairs at d within =
    ap (λ ps. body changed (lines_of ps)) (drop_more pairs at d within)

still_pending : (pairs : List Pair) (start at : ℕ) (d : Pair) → start ≤ at → at < length pairs
    → lines_of (take (at + 1 - start) (drop start pairs))
    ≡ lines_of (take (at - start) (drop start pairs)) ++ line_of (get_or pairs at d) ∷ []
still_pending pairs start at d first within =
    let one : at + 1 - start ≡ at - start + 1 = omega arith in
    let place : start + (at - start) ≡ at = omega arith in
    let short : at - start < length (drop start pairs) =
    omega (arith, length-drop start pairs) in
    ap (λ n. lines_of (take n (drop start pairs))) one
    ∙ map_more line_of (drop start pairs) (at - start) d short
    ∙ ap (λ p. lines_of (take (at - start) (drop start pairs)) ++ line_of p ∷ [])
    (get_or-drop start pairs (at - start) d ∙ ap (λ i. get_or pairs i d) place)

pending_changed : (changed : List Line) (line : Line) → changes line ≡ true
    → pending changed line ≡ changed ++ line ∷ []
pending_changed changed line is = rw is refl

pending_kept : (changed : List Line) (line : Line) → changes line ≡ false → pending changed line ≡ []
pending_kept changed line is = rw is refl

pub one_changes : (pairs : List Pair) (start at : ℕ) (d : Pair) → start ≤ at → at < length pairs
    → changes (line_of (get_or pairs at d)) ≡ true
    → body (lines_of (take (at - start) (drop start pairs))) (lines_of (drop at pairs))
    ≡ shown (lines_of (take (at - start) (drop start pairs))) (line_of (get_or pairs at d))
    ++ body (lines_of (take (at + 1 - start) (drop start pairs))) (lines_of (drop (at + 1) pairs))
one_changes pairs start at d first within is =
    body_step (lines_of (take (at - start) (drop start pairs))) pairs at d within
    ∙ ap (λ ls. shown (lines_of (take (at - start) (drop start pairs))) (line_of (get_or pairs at d))
    ++ body ls (lines_of (drop (at + 1) pairs)))
    (pending_changed (lines_of (take (at - start) (drop start pairs))) (line_of (get_or pairs at d)) is
    ∙ sym (still_pending pairs start at d first within))

pub one_stays : (pairs : List Pair) (start at : ℕ) (d : Pair) → at < length pairs
    → changes (line_of (get_or pairs at d)) ≡ false
    → body (lines_of (take (at - start) (drop start pairs))) (lines_of (drop at pairs))
    ≡ shown (lines_of (take (at - start) (drop start pairs))) (line_of (get_or pairs at d))
    ++ body (lines_of (take (at + 1 - (at + 1)) (drop (at + 1) pairs))) (lines_of (drop (at + 1) pairs))
one_stays pairs start at d within is =
    let none : at + 1 - (at + 1) ≡ 0 = omega arith in
    body_step (lines_of (take (at - start) (drop start pairs))) pairs at d within
    ∙ ap (λ ls. shown (lines_of (take (at - start) (drop start pairs))) (line_of (get_or pairs at d))
    ++ body ls (lines_of (drop (at + 1) pairs)))
    (pending_kept (lines_of (take (at - start) (drop start pairs))) (line_of (get_or pairs at d)) is
    ∙ sym (ap (λ n. lines_of (take n (drop (at + 1) pairs))) none))

pub none_follows : (pairs : List Pair) (start at : ℕ) → at ≡ length pairs
    → body (lines_of (take (at - start) (drop start pairs))) (lines_of (drop at pairs))
    ≡ added (lines_of (take (length pairs - start) (drop start pairs))) ++ []
none_follows pairs start at is =
    ap (λ n. body (lines_of (take (n - start) (drop start pairs))) (lines_of (drop n pairs))) is
    ∙ ap (λ ps. body (lines_of (take (length pairs - start) (drop start pairs))) (lines_of ps))
    (drop_all (length pairs) pairs (omega arith))
    ∙ sym (append-nil (added (lines_of (take (length pairs - start) (drop start pairs)))))

pub added_more : (rest more : List Pair) (pair : Pair) → rest ≡ pair ∷ more
    → added (lines_of rest) ≡ marked (codes "+") pair.new.now ++ added (lines_of more)
added_more rest more pair split = ap (λ ps. added (lines_of ps)) split

pub changed_shown : (changed : List Line) (line : Line) (is : Bool) (before after : Option Text)
    → is ≡ changes line → is ≡ true → Appends before after (marked (codes "-") line.old)
    → Appends before after (shown changed line)
changed_shown changed line is before after same is_true sent =
    let opened : shown changed line ≡ marked (codes "-") line.old = rw (sym same ∙ is_true) refl in
    subst (λ text. Appends before after text) (sym opened) sent

pub kept_shown : (changed : List Line) (line : Line) (is : Bool) (before between after : Option Text)
    → is ≡ changes line → is ≡ false → Appends before between (added changed)
    → Appends between after (marked (codes " ") line.old) → Appends before after (shown changed line)
kept_shown changed line is before between after same is_false first sent =
    let opened : shown changed line ≡ added changed ++ marked (codes " ") line.old =
    rw (sym same ∙ is_false) refl in
    subst (λ text. Appends before after text) (sym opened)
    (Appends-trans before between after (added changed) (marked (codes " ") line.old) first sent)

-- The whole.

pub a_header : (first : ℕ) (pairs : List Pair) (text slice : Text) (before between after : Option Text)
    → text ≡ range first (length pairs) → slice ≡ text → Appends before between (hunk_header slice)
    → Appends between after (body [] (lines_of pairs))
    → Appends before after (hunk first (lines_of pairs))
a_header first pairs text slice before between after is same header sent =
    Appends-trans before between after (hunk_header (range first (length (lines_of pairs))))
    (body [] (lines_of pairs))
    (subst (λ r. Appends before between (hunk_header r))
    (same ∙ is ∙ ap (range first) (sym (length-map pairs line_of))) header)
    sent

pub whole : (name old new : Text) (pairs slice : List Pair) (before between after : Option Text)
    → AreSideBySide old new (lines_of pairs) → slice ≡ pairs
    → Appends before between (file_header name)
    → Appends between after (hunks_from (lines_of slice) (length slice) 0)
    → WritesDiff name old new before after
whole name old new pairs slice before between after are same names sent = (
  lines_of pairs,
  are,
  Appends-trans before between after (file_header name)
      (hunks_from (lines_of pairs) (length (lines_of pairs)) 0) names
      (subst (λ n. Appends between after (hunks_from (lines_of pairs) n 0))
      (sym (length-map pairs line_of))
      (subst (λ ps. Appends between after (hunks_from (lines_of ps) (length ps) 0)) same sent)),
)
