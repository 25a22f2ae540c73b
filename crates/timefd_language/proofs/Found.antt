-- Each text is read, and the reading is a correct one.
use Rattle.std.proofs.Common.{ℕ, zero, suc, ◌≡◌, ◌<◌, ◌≤◌, ◌==◌, Bool, true, false, [], ◌∷◌, ◌++◌, length, length-append, refl, sym, ◌∙◌, ap, subst, arith, Result, Ok, Err, eqb-true}
use Rattle.std.specs.List.{list_all}
use Rattle.std.proofs.lemmas.Bool.{both_ways, and_parts, or_from}
use Rattle.timefd_language.specs.declared.description_version.DescriptionVersion.{DescriptionVersion}
use Rattle.timefd_lang_component.specs.Tree.{Text, Tree}
use Rattle.timefd_language.specs.Bytes.{left, right, is_white, is_word_byte, is_run_byte, ZeroOrMore, StopsBefore}
use Rattle.timefd_lang_fault.specs.Faults.{Fault}
use Rattle.timefd_language.specs.Head.{Head, IsHead, head_text}
use Rattle.timefd_language.specs.Grammar.{spelling, nested_text, Pieces, no_pieces, run, escape, closing, bracket, Nested, no_nested, nested, ArePieces, AreNested, BeginsNoRun, bracket_verdict}
use Rattle.timefd_language.specs.Broken.{unclosed, IsBroken, IsWholeBefore, is_bracket_byte}
use Rattle.timefd_language.specs.Front.{Stop, ended, closed, broke, Reading}
use Rattle.timefd_language.proofs.Reader.{Start, at_end, at_run, at_closing, at_escape, at_head, at_outer_closing, at_broken, start_of, NestedStart, no_more, at_limit, at_inner, nested_start_of, reading, NestedStop, over, over_limit, inner_broke, inner_ended, NestedReading, Closed, whole, fails, judged, ended_by, stopped_by, closed_of, with_bracket, continued, inner_continued, inner_read, nested_continued, read, read_nested}
use Rattle.timefd_language.proofs.Spans.{span-exact}
use Rattle.timefd_language.proofs.Before.{before, nested_before, head_before, broken_before, before-is, nested_before-is, head_before-is}
use Rattle.timefd_language.proofs.Sizes.{length_one, length_more}
use Rattle.timefd_language.proofs.HeadFound.{NoWord}
use Rattle.timefd_language.proofs.StartFound.{StartIs, start_is, NestedStartIs, nested_start_is}
use Rattle.timefd_language.proofs.Readings.{stop_text, reading_text, IsReading}

-- a reading of the text
pub record ReadingOf (v : DescriptionVersion) (limit n : ℕ) (text : Text) (r : Reading) : Type 0
  where
    pub is : IsReading v limit n r
    pub whole : text ≡ reading_text r

abbrev pub nested_stop_text : NestedStop → Text
nested_stop_text (over white rest) = white ++ rest
nested_stop_text (over_limit white rest) = white ++ left ∷ rest
nested_stop_text (inner_broke white front b) = white ++ left ∷ before front (broken_before b)
nested_stop_text (inner_ended white front) = white ++ left ∷ before front []

abbrev pub IsNestedStop : DescriptionVersion → ℕ → ℕ → NestedStop → Type 0
IsNestedStop v limit n (over white rest) = ZeroOrMore is_white white × StopsBefore is_white rest
    × StopsBefore (λ b. b == left) rest
IsNestedStop v limit n (over_limit white rest) = ZeroOrMore is_white white × (n ≡ limit)
IsNestedStop v limit n (inner_broke white front b) = ZeroOrMore is_white white × (n < limit)
    × ArePieces v limit (suc n) front × IsBroken v limit (suc n) b
IsNestedStop v limit n (inner_ended white front) = ZeroOrMore is_white white × (n < limit)
    × ArePieces v limit (suc n) front

pub record NestedOf (v : DescriptionVersion) (limit n : ℕ) (text : Text) (r : NestedReading) : Type
    0 where
  pub front : AreNested v limit n r.front
  pub stop : IsNestedStop v limit n r.stop
  pub whole : text ≡ nested_before r.front (nested_stop_text r.stop)

abbrev pub ClosedIs : DescriptionVersion → ℕ → ℕ → Text → Closed → Type 0
ClosedIs v limit n text (whole h ns white tree rest) =
    IsHead h × AreNested v limit n ns × ZeroOrMore is_white white
    × (bracket_verdict v h ns white ≡ Ok tree)
    × (text ≡ head_before h (nested_before ns (white ++ right ∷ rest)))
ClosedIs v limit n text (fails b) = IsBroken v limit n b × (text ≡ broken_before b)

-- Brackets.

judged_is : (v : DescriptionVersion) (limit n : ℕ) (h : Head) (ns : Nested) (white rest : Text)
    (r : Result Tree Fault) → IsHead h → AreNested v limit n ns
    → ZeroOrMore is_white white → bracket_verdict v h ns white ≡ r
    → ClosedIs v limit n (head_before h (nested_before ns (white ++ right ∷ rest)))
    (judged h ns white rest r)
judged_is v limit n h ns white rest (Ok tree) ih an w e = (ih, an, w, e, refl)
judged_is v limit n h ns white rest (Err f) ih an w e = ((ih, an, w, e), refl)

no_bracket : (b : ℕ) → (b == left) ≡ false → (b == right) ≡ false → is_bracket_byte b ≡ false
no_bracket b l r = or_from (b == left) (b == right) l r

-- without a nested description, no word follows the white bytes
whole_before_at : (ns : Nested) (white rest : Text) → ZeroOrMore is_white white
    → StopsBefore is_white rest → NoWord (nested_before ns (white ++ rest)) → IsWholeBefore ns rest
whole_before_at no_nested white rest w s no_word =
    subst (λ c. StopsBefore is_word_byte c.rest) (span-exact is_white white rest w s)
    no_word.after_white
whole_before_at (nested white' ps ns) white rest w s no_word = tt

ended_by_is : (v : DescriptionVersion) (limit n : ℕ) (h : Head) (ns : Nested) (white rest : Text)
    → IsHead h → AreNested v limit n ns
    → ZeroOrMore is_white white → StopsBefore is_white rest → StopsBefore (λ b. b == left) rest
    → IsWholeBefore ns rest
    → ClosedIs v limit n (head_before h (nested_before ns (white ++ rest)))
    (ended_by v h ns white rest)
ended_by_is v limit n h ns white [] ih an w s l wh = ((ih, an, w, tt, tt, wh), refl)
ended_by_is v limit n h ns white (b ∷ rest) ih an w s l wh = by (b == right) refl
  where
    by : (t : Bool) → (b == right) ≡ t
        → ClosedIs v limit n (head_before h (nested_before ns (white ++ b ∷ rest)))
        (elim t [
          | true ↦ judged h ns white rest (bracket_verdict v h ns white)
          | false ↦ fails
              (unclosed h ns white (b ∷ rest))
        ])
    by true e =
        subst (λ x. ClosedIs v limit n (head_before h (nested_before ns (white ++ x ∷ rest)))
        (judged h ns white rest (bracket_verdict v h ns white)))
        (sym (eqb-true b right e)) (judged_is v limit n h ns white rest
        (bracket_verdict v h ns white) ih an w refl)
    by false e = ((ih, an, w, s, no_bracket b l e, wh), refl)

stopped_by_is : (v : DescriptionVersion) (limit n : ℕ) (h : Head) (ns : Nested) (stop : NestedStop)
    → IsHead h → AreNested v limit n ns
    → IsNestedStop v limit n stop → NoWord (nested_before ns (nested_stop_text stop))
    → ClosedIs v limit n (head_before h (nested_before ns (nested_stop_text stop)))
    (stopped_by v h ns stop)
stopped_by_is v limit n h ns (over white rest) ih an is no_word =
    ended_by_is v limit n h ns white rest ih an is.0 is.1 is.2
    (whole_before_at ns white rest is.0 is.1 no_word)
stopped_by_is v limit n h ns (over_limit white rest) ih an is no_word = ((ih, an, is.0, is.1), refl)
stopped_by_is v limit n h ns (inner_broke white front b) ih an is no_word =
    ((ih, an, is.0, is.1, is.2, is.3), refl)
stopped_by_is v limit n h ns (inner_ended white front) ih an is no_word =
    ((ih, an, is.0, is.1, is.2), refl)

closed_of_is : (v : DescriptionVersion) (limit n : ℕ) (h : Head) (after : Text) (r : NestedReading)
    → IsHead h → NoWord after → NestedOf v limit n after r
    → ClosedIs v limit n (head_before h after) (closed_of v h r)
unfolding closed_of
closed_of_is v limit n h after r ih no_word is =
    subst (λ x. ClosedIs v limit n (head_before h x) (stopped_by v h r.front r.stop)) (sym is.whole)
    (stopped_by_is v limit n h r.front r.stop ih is.front is.stop (subst NoWord is.whole no_word))

-- One step.

begins_no_run : (ps : Pieces) (v : DescriptionVersion) (limit n : ℕ) (tail : Text)
    → ArePieces v limit n ps → StopsBefore (is_run_byte v) (before ps tail) → BeginsNoRun ps
begins_no_run no_pieces v limit n tail are s = tt
begins_no_run (run [] rest) v limit n tail are s = absurd are.0
begins_no_run (run (b ∷ bytes) rest) v limit n tail are s =
    absurd (both_ways (is_run_byte v b) s
    (and_parts (is_run_byte v b) (list_all (is_run_byte v) bytes) are.0).0)
begins_no_run (escape a b rest) v limit n tail are s = tt
begins_no_run (closing rest) v limit n tail are s = tt
begins_no_run (bracket h ns white tree rest) v limit n tail are s = tt

-- Shorter texts are read correctly.
abbrev pub ReadsBelow : DescriptionVersion → ℕ → ℕ → Text → (Text → Reading) → Type 0
ReadsBelow v limit n text next = (t : Text) → length t < length text
    → ReadingOf v limit n t (next t)

abbrev pub ReadsNestedBelow : DescriptionVersion → ℕ → ℕ → Text → (Text → NestedReading) → Type 0
ReadsNestedBelow v limit n text into = (t : Text) → length t < length text
    → NestedOf v limit n t (into t)

head_shorter : (h : Head) (t : Text) → length t < length (head_before h t)
head_shorter h t = omega (arith, ap length (head_before-is h t), length-append (head_text h) t)

nested_longer : (ns : Nested) (t : Text) → length t ≤ length (nested_before ns t)
nested_longer ns t = omega (
  arith,
  ap length (nested_before-is ns t),
  length-append (nested_text ns) t,
)

pieces_longer : (ps : Pieces) (t : Text) → length t ≤ length (before ps t)
pieces_longer ps t = omega (arith, ap length (before-is ps t), length-append (spelling ps) t)

with_bracket_is : (v : DescriptionVersion) (limit n : ℕ) (text : Text) (next : Text
    → Reading) (c : Closed) → ClosedIs v limit n text c → ReadsBelow v limit n text next
    → ReadingOf v limit n text (with_bracket next c)
with_bracket_is v limit n text next (whole h ns white tree rest) is more = found (more rest shorter)
  where
    shorter : length rest < length text
    shorter = omega (
      arith,
      ap length is.4,
      head_shorter h (nested_before ns (white ++ right ∷ rest)),
      nested_longer ns (white ++ right ∷ rest),
      length_more white (right ∷ rest),
    )

    found : ReadingOf v limit n rest (next rest)
        → ReadingOf v limit n text (with_bracket next (whole h ns white tree rest))
    found r = record {
      is = record { front = (is.0, is.1, is.2, is.3, r.is.front); stop = r.is.stop };
      whole = is.4 ∙ ap (λ x. head_before h (nested_before ns (white ++ right ∷ x))) r.whole;
    }
with_bracket_is v limit n text next (fails b) is more =
    record { is = record { front = tt; stop = is.0 }; whole = is.1 }

continued_is : (v : DescriptionVersion) (limit n : ℕ) (text : Text) (next : Text
    → Reading) (into : Text → NestedReading) (s : Start)
    → StartIs v limit n text s → ReadsBelow v limit n text next
    → ReadsNestedBelow v limit n text into
    → ReadingOf v limit n text (continued v next into s)
continued_is v limit n text next into at_end is more inner =
    record { is = record { front = tt; stop = tt }; whole = is }
continued_is v limit n text next into (at_run bytes rest) is more inner =
    found (more rest (omega (arith, ap length is.2, length_one (is_run_byte v) bytes rest is.0)))
  where
    found : ReadingOf v limit n rest (next rest)
        → ReadingOf v limit n text (continued v next into (at_run bytes rest))
    found r = record {
      is = record {
        front = (
          is.0,
          begins_no_run (next rest).front v limit n (stop_text (next rest).stop)
              r.is.front (subst (StopsBefore (is_run_byte v)) r.whole is.1),
          r.is.front,
        );
        stop = r.is.stop;
      };
      whole = is.2 ∙ ap (λ x. bytes ++ x) r.whole;
    }
continued_is v limit n text next into (at_closing rest) is more inner =
    record { is = record { front = tt; stop = is.0 }; whole = is.1 }
continued_is v limit n text next into (at_escape a b rest) is more inner =
    found (more rest (omega (arith, ap length is.1)))
  where
    found : ReadingOf v limit n rest (next rest)
        → ReadingOf v limit n text (continued v next into (at_escape a b rest))
    found r = record {
      is = record { front = (is.0, r.is.front); stop = r.is.stop };
      whole =
          is.1 ∙ ap (λ x. a ∷ b ∷ x) r.whole;
    }
continued_is v limit n text next into (at_head h rest) is more inner =
    with_bracket_is v limit n text next (closed_of v h (into rest))
    (subst (λ x. ClosedIs v limit n x (closed_of v h (into rest))) (sym is.2)
    (closed_of_is v limit n h rest (into rest) is.0 is.1
    (inner rest (omega (arith, ap length is.2, head_shorter h rest)))))
    more
continued_is v limit n text next into (at_outer_closing rest) is more inner =
    found (more rest (omega (arith, ap length is.2)))
  where
    found : ReadingOf v limit n rest (next rest)
        → ReadingOf v limit n text (continued v next into (at_outer_closing rest))
    found r = record {
      is = record { front = (is.0, is.1, r.is.front); stop = r.is.stop };
      whole =
          is.2 ∙ ap (λ x. right ∷ x) r.whole;
    }
continued_is v limit n text next into (at_broken b) is more inner =
    record { is = record { front = tt; stop = is.0 }; whole = is.1 }

inner_continued_is : (v : DescriptionVersion) (limit n : ℕ) (text white : Text) (next : Text
    → NestedReading) (front : Pieces) (stop : Stop)
    → ZeroOrMore is_white white → n < limit → IsReading v limit (suc n) (reading front stop)
    → text ≡ white ++ left ∷ before front (stop_text stop)
    → ReadsNestedBelow v limit n text next
    → NestedOf v limit n text (inner_continued next white front stop)
inner_continued_is v limit n text white next front ended w below is e more =
    record { front = tt; stop = (w, below, is.front); whole = e }
inner_continued_is v limit n text white next front (closed rest) w below is e more =
    found (more rest (omega (
      arith,
      ap length e,
      length_more white (left ∷ before front (right ∷ rest)),
      pieces_longer front (right ∷ rest),
    )))
  where
    found : NestedOf v limit n rest (next rest)
        → NestedOf v limit n text (inner_continued next white front (closed rest))
    found r = record {
      front = (w, below, is.front, r.front);
      stop = r.stop;
      whole =
          e ∙ ap (λ x. white ++ left ∷ before front (right ∷ x)) r.whole;
    }
inner_continued_is v limit n text white next front (broke b) w below is e more =
    record { front = tt; stop = (w, below, is.front, is.stop); whole = e }

nested_continued_is : (v : DescriptionVersion) (limit n : ℕ) (text : Text) (inner : Text
    → Reading) (next : Text → NestedReading) (s : NestedStart)
    → NestedStartIs limit n text s → (n < limit → ReadsBelow v limit (suc n) text inner)
    → ReadsNestedBelow v limit n text next
    → NestedOf v limit n text (nested_continued inner next s)
nested_continued_is v limit n text inner next (no_more white rest) is deeper more =
    record { front = tt; stop = (is.0, is.1, is.2); whole = is.3 }
nested_continued_is v limit n text inner next (at_limit white rest) is deeper more =
    record { front = tt; stop = (is.0, is.1); whole = is.2 }
nested_continued_is v limit n text inner next (at_inner white rest) is deeper more =
    found (deeper is.1 rest (omega (arith, ap length is.2, length_more white (left ∷ rest))))
  where
    found : ReadingOf v limit (suc n) rest (inner rest)
        → NestedOf v limit n text (inner_read next white (inner rest))
    found r = inner_continued_is v limit n text white next (inner rest).front (inner rest).stop is.0
        is.1 r.is (is.2 ∙ ap (λ x. white ++ left ∷ x) r.whole) more

mutual
  unfolding read read_nested

  pub found : (k : ℕ) (v : DescriptionVersion) (limit n : ℕ) (text : Text) → n ≤ limit
      → length text < k → ReadingOf v limit n text (read k v limit n text)
  found zero v limit n text within enough = absurd (omega arith)
  found (suc k) v limit n text within enough =
      continued_is v limit n text (λ t. read k v limit n t) (λ t. read_nested k v limit n t)
      (start_of k v n text)
      (start_is k v limit n text (omega arith))
      (λ t below. found k v limit n t within (omega arith))
      (λ t below. nested_found k v limit n t within (omega arith))

  pub nested_found : (k : ℕ) (v : DescriptionVersion) (limit n : ℕ) (text : Text) → n ≤ limit
      → length text < k → NestedOf v limit n text (read_nested k v limit n text)
  nested_found zero v limit n text within enough = absurd (omega arith)
  nested_found (suc k) v limit n text within enough =
      nested_continued_is v limit n text (λ t. read k v limit (suc n) t)
      (λ t. read_nested k v limit n t) (nested_start_of limit n text)
      (nested_start_is limit n text within)
      (λ deeper t below. found k v limit (suc n) t (omega arith) (omega arith))
      (λ t below. nested_found k v limit n t within (omega arith))
