-- Lines that are rewritten, one after another.
use Rattle.std.proofs.Common.{◌≡◌, ◌≢◌, ◌+◌, ◌≤◌, ℕ, Bool, true, false, List, [], ◌∷◌, ◌++◌, Option, Some, None, Result, Ok, Err, refl, sym, ap, subst, ◌∙◌, append-nil, arith, length, length-append, take, drop, ◌-◌, nat_eq}
use Rattle.std.specs.Prelude.{All, IfOk, OnOk, IsUtf8, count_by, if◌then◌else◌}
use Rattle.std.specs.Cmp.Lexicographic.{pointwise, pointwise_decides}
use Rattle.std.specs.Io.KnownBytes.{Appends, Keeps}
use Rattle.std.proofs.KnownBytes.{Appends-nil, Appends-trans, Appends-kept}
use Rattle.std.proofs.lemmas.List.Elements.{All-append, All-cons}
use Rattle.std.proofs.lemmas.List.Sums.{count_by-le-length, sum_by-append}
use Rattle.std.proofs.lemmas.Grind.{flat_map-append}
use Rattle.std.proofs.lemmas.List.{take_rest}
use Rattle.std.proofs.lemmas.Bool.{true≢false}
use Rattle.std.proofs.lemmas.Bool.Decides.{Decides-eqb}
use denote.Ref.{Bor}
use Rattle.timefd_parse.specs.Tree.{Text}
use Rattle.timefd_lint_rewrite.specs.declared.counts.Counts.{Counts}
use Rattle.timefd_lint_rewrite.specs.declared.counts.LineOutcome.{LineOutcome}
use Rattle.timefd_lint_rewrite.specs.declared.counts.LineOutcome.TheVariants.{PassedOver, Same, Rewritten, Refused, NotText, NotALine}
use Rattle.timefd_lint_rewrite.specs.declared.line_change.LineChange.{LineChange}
use Rattle.timefd_lint_rewrite.specs.declared.rewrite.RewriteError.{RewriteError}
use Rattle.timefd_lint_rewrite.specs.declared.rewrite.RewriteError.TheVariants.{Memory, Read, Write}
use Rattle.timefd_lint_rewrite.specs.LineChanges.{IsChanged, IsUnchangeable}
use Rattle.timefd_lint_rewrite.specs.Lines.{AreLinesUpTo, has_newline, is_passed_over, without_newline}
use Rattle.timefd_lint_rewrite.specs.Rewriting.{AreCutShort, AreFront, AreRewritten, AreWritten, IsNext, IsPlaced, IsUnwritten, Placed, Positions, PositionsAnswer, counts_of, is_refusing, is_rewriting, lines_of, positions_of, with_one}
use Rattle.timefd_lint_rewrite.proofs.LineLemmas.{all_lines, front_lines, no_line, up_to_more}

other_text : (a b : Text) → pointwise nat_eq a b ≡ false → a ≢ b
other_text a b differs same =
    true≢false (sym ((pointwise_decides Decides-eqb a b).1 same) ∙ differs)

-- An answer with the line's end replaces the line.
pub answer_placed : (line answer text : Text) (before between after : Option Text)
    (r : Result LineOutcome RewriteError)
    → text ≡ without_newline line → pointwise nat_eq answer text ≡ false
    → has_newline answer ≡ false
    → Appends before between answer → IfOk r (λ o. o ≡ Rewritten)
    → OnOk r (Appends between after (take (length line - length text) (drop (length text) line)))
    → IfOk r (PositionsAnswer line answer before after)
answer_placed line answer text before between after (Ok o) is other one first outcome second =
    let rest = take (length line - length text) (drop (length text) line) in
    subst (λ x. PositionsAnswer line answer before after x) (sym outcome) (
      answer ++ rest,
      (
        subst (λ t. answer ≢ t) is (other_text answer text other),
        one,
        ap (λ e. answer ++ e)
            (take_rest line (length text) ∙ ap (λ t. drop (length t) line) is),
      ),
      Appends-trans before between after answer rest first second,
    )
answer_placed line answer text before between after (Err e) is other one first outcome second =
    tt

-- The answer for a converted text replaces the line, or the line stays.
pub converted_placed : (change : LineChange) (comment : Option (Bor Text))
    (line text string answer : Text) (before after : Option Text) (r : Result LineOutcome RewriteError)
    → text ≡ without_newline line → false ≡ is_passed_over comment text → string ≡ text
    → IsChanged change string answer
    → IfOk r (PositionsAnswer line answer before after)
    → IfOk r (Positions change comment line before after)
converted_placed change comment line text string answer before after (Ok o) is looked_at
    same_text means reported =
    let converted : IsChanged change (without_newline line) answer =
    subst (λ t. IsChanged change t answer) (same_text ∙ is) means in
    by o reported converted
  where
    by : (o : LineOutcome) → PositionsAnswer line answer before after o
        → IsChanged change (without_newline line) answer
        → Positions change comment line before after o
    by PassedOver placed converted = absurd placed.1
    by Same placed converted = (
      placed.0,
      record {
        passed_over = looked_at ∙ ap (is_passed_over comment) is;
        stands = (
          subst (IsChanged change (without_newline line)) placed.1.0 converted,
          placed.1.1,
        );
      },
      placed.2,
    )
    by Rewritten placed converted = (
      placed.0,
      record {
        passed_over = looked_at ∙ ap (is_passed_over comment) is;
        stands = (answer, converted, placed.1.0, placed.1.1, placed.1.2);
      },
      placed.2,
    )
    by Refused placed converted = absurd placed.1
    by NotText placed converted = absurd placed.1
    by NotALine placed converted = (
      placed.0,
      record {
        passed_over = looked_at ∙ ap (is_passed_over comment) is;
        stands = (answer, converted, placed.1.0, placed.1.1);
      },
      placed.2,
    )
converted_placed change comment line text string answer before after (Err e) is looked_at
    same_text means reported = tt

-- A line that is refused stays.
pub refused_placed : (change : LineChange) (comment : Option (Bor Text))
    (line text string : Text) (before after : Option Text) (r : Result LineOutcome RewriteError)
    → text ≡ without_newline line → false ≡ is_passed_over comment text
    → string ≡ text → IsUtf8 text → IsUnchangeable change string
    → IfOk r (λ o. o ≡ Refused) → OnOk r (Appends before after line)
    → IfOk r (Positions change comment line before after)
refused_placed change comment line text string before after (Ok o) is looked_at same_text
    utf8 refused outcome same =
    subst (λ x. Positions change comment line before after x) (sym outcome) (
      line,
      record {
        passed_over = looked_at ∙ ap (is_passed_over comment) is;
        stands = (
          subst (λ t. IsUtf8 t) is utf8,
          subst (λ t. IsUnchangeable change t) (same_text ∙ is) refused,
          refl,
        );
      },
      same,
    )
refused_placed change comment line text string before after (Err error) is looked_at
    same_text utf8 refused outcome same = tt

-- A line that isn't UTF-8 stays.
pub no_text_placed : (change : LineChange) (comment : Option (Bor Text)) (line text : Text)
    (before after : Option Text) (r : Result LineOutcome RewriteError)
    → text ≡ without_newline line → false ≡ is_passed_over comment text → ¬ IsUtf8 text
    → IfOk r (λ o. o ≡ NotText) → OnOk r (Appends before after line)
    → IfOk r (Positions change comment line before after)
no_text_placed change comment line text before after (Ok o) is looked_at no_text outcome same =
    subst (λ x. Positions change comment line before after x) (sym outcome) (
      line,
      record {
        passed_over = looked_at ∙ ap (is_passed_over comment) is;
        stands = (subst (λ t. ¬ IsUtf8 t) is no_text, refl);
      },
      same,
    )
no_text_placed change comment line text before after (Err e) is looked_at no_text outcome
    same = tt

-- The lines so far, and what is left of the reader.
pub record AreUpTo (change : LineChange) (comment : Option (Bor Text))
    (bytes rest before after : Option Text) (counts : Counts) : Type 0 where
  pub placed : List Placed
  pub are_written : AreWritten change comment before after placed
  pub front : AreLinesUpTo bytes (lines_of placed) rest
  pub counted : counts ≡ counts_of placed

pub none_yet : (change : LineChange) (comment : Option (Bor Text)) (bytes known : Option Text)
    (counts : Counts) → counts ≡ counts_of []
    → AreUpTo change comment bytes bytes known known counts
none_yet change comment bytes known counts none = record {
  placed = [];
  are_written =
      record { each = λ k d below. absurd (omega (arith, below)); written = Appends-nil known };
  front = no_line bytes;
  counted = none;
}

-- One more line.
only : (p : Placed) (P : Placed → Type 0) → P p → All P (p ∷ [])
only p P is = All-cons P p [] is (λ k d below. absurd (omega (arith, below)))

one_counted : (b : Bool) (n : ℕ) → n + (0 + (if b then 1 else 0)) ≡ (if b then n + 1 else n)
one_counted true n = refl
one_counted false n = omega arith

counts_more : (placed : List Placed) (p : Placed)
    → with_one (counts_of placed) p.outcome ≡ counts_of (placed ++ p ∷ [])
counts_more placed p = rw (
  length-append placed (p ∷ []),
  sum_by-append (λ (q : Placed). if is_rewriting q.outcome then 1 else 0) placed (p ∷ []),
  sum_by-append (λ (q : Placed). if is_refusing q.outcome then 1 else 0) placed (p ∷ []),
  one_counted (is_rewriting p.outcome) (count_by (λ (q : Placed). is_rewriting q.outcome) placed),
  one_counted (is_refusing p.outcome) (count_by (λ (q : Placed). is_refusing q.outcome) placed),
) refl

lines_more : (placed : List Placed) (p : Placed)
    → lines_of placed ++ p.line ∷ [] ≡ lines_of (placed ++ p ∷ [])
lines_more [] p = refl
lines_more (q ∷ placed) p = ap (λ ls. q.line ∷ ls) (lines_more placed p)

positions_more : (placed : List Placed) (p : Placed)
    → positions_of placed ++ p.position ≡ positions_of (placed ++ p ∷ [])
positions_more placed p =
    sym (flat_map-append (λ (q : Placed). q.position) placed (p ∷ [])
    ∙ ap (λ position. positions_of placed ++ position) (append-nil p.position))

pub one_more : (change : LineChange) (comment : Option (Bor Text))
    (bytes rest next before between after : Option Text) (counts all : Counts)
    (o : Option LineOutcome) (outcome : LineOutcome) → o ≡ Some outcome
    → AreUpTo change comment bytes rest before between counts
    → IsNext change comment rest next between after o
    → all ≡ with_one counts outcome
    → AreUpTo change comment bytes next before after all
one_more change comment bytes rest next before between after counts all o outcome is so_far
    found sum =
    let more = subst (λ x. IsNext change comment rest next between after x) is found in
    let p : Placed = record { line = more.0; outcome = outcome; position = more.2.0 } in
    record {
      placed = so_far.placed ++ p ∷ [];
      are_written = record {
        each = All-append (IsPlaced change comment) so_far.placed (p ∷ [])
            so_far.are_written.each (only p (IsPlaced change comment) more.2.1);
        written = subst (λ m. Appends before after m) (positions_more so_far.placed p)
            (Appends-trans before between after _ _ so_far.are_written.written more.2.2);
      };
      front = subst (λ ls. AreLinesUpTo bytes ls next) (lines_more so_far.placed p)
          (up_to_more bytes rest next more.0 (lines_of so_far.placed) more.1 so_far.front);
      counted = sum ∙ ap (λ c. with_one c outcome) so_far.counted ∙ counts_more so_far.placed p;
    }

-- At most as many lines are rewritten or refused as there are.
pub rewritten_within : (change : LineChange) (comment : Option (Bor Text))
    (bytes rest before after : Option Text) (counts : Counts)
    → AreUpTo change comment bytes rest before after counts → counts.rewritten ≤ counts.lines
rewritten_within change comment bytes rest before after counts so_far =
    rw (so_far.counted)
    (count_by-le-length (λ (q : Placed). is_rewriting q.outcome) so_far.placed)

pub refused_within : (change : LineChange) (comment : Option (Bor Text))
    (bytes rest before after : Option Text) (counts : Counts)
    → AreUpTo change comment bytes rest before after counts → counts.refused ≤ counts.lines
refused_within change comment bytes rest before after counts so_far =
    rw (so_far.counted)
    (count_by-le-length (λ (q : Placed). is_refusing q.outcome) so_far.placed)

-- The end of the reader.
kept : (change : LineChange) (comment : Option (Bor Text)) (before between after : Option Text)
    (placed : List Placed) → AreWritten change comment before between placed
    → Keeps between after → AreWritten change comment before after placed
kept change comment before between after placed are same = record {
  each = are.each;
  written = Appends-kept before between after (positions_of placed) are.written same;
}

pub at_end : (change : LineChange) (comment : Option (Bor Text))
    (bytes rest next before between after : Option Text) (counts : Counts) (o : Option LineOutcome)
    → o ≡ None → AreUpTo change comment bytes rest before between counts
    → IsNext change comment rest next between after o
    → AreRewritten change comment bytes before after counts
at_end change comment bytes rest next before between after counts o is so_far found =
    let last = subst (λ x. IsNext change comment rest next between after x) is found in
    record {
      placed = so_far.placed;
      are_written =
          kept change comment before between after so_far.placed so_far.are_written last.1;
      all_lines = all_lines bytes rest (lines_of so_far.placed) so_far.front last.0;
      counted = so_far.counted;
    }

-- A run that is cut short.
front : (change : LineChange) (comment : Option (Bor Text))
    (bytes rest before between after : Option Text) (counts : Counts)
    → AreUpTo change comment bytes rest before between counts → Keeps between after
    → AreFront change comment bytes before after
front change comment bytes rest before between after counts so_far same = record {
  placed = so_far.placed;
  are_written =
      kept change comment before between after so_far.placed so_far.are_written same;
  lines_in_front = front_lines bytes rest (lines_of so_far.placed) so_far.front;
}

pub cut_short : (change : LineChange) (comment : Option (Bor Text))
    (bytes rest before between after : Option Text) (counts : Counts) (e : RewriteError)
    → AreUpTo change comment bytes rest before between counts → IsUnwritten between after e
    → AreCutShort change comment bytes before after e
cut_short change comment bytes rest before between after counts Memory so_far same =
    front change comment bytes rest before between after counts so_far same
cut_short change comment bytes rest before between after counts Read so_far same =
    front change comment bytes rest before between after counts so_far same
cut_short change comment bytes rest before between after counts Write so_far same = tt

pub too_long : (change : LineChange) (comment : Option (Bor Text))
    (bytes rest before after : Option Text) (counts : Counts)
    → AreUpTo change comment bytes rest before after counts
    → AreCutShort change comment bytes before after Read
too_long change comment bytes rest before after counts so_far = record {
  placed = so_far.placed;
  are_written = so_far.are_written;
  lines_in_front = front_lines bytes rest (lines_of so_far.placed) so_far.front;
}
