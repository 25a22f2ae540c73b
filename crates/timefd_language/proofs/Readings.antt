-- A text has one reading.
use Rattle.std.proofs.Common.{ℕ, zero, suc, pred, ◌≡◌, ◌+◌, ◌<◌, ◌≤◌, ◌==◌, [], ◌∷◌, ◌++◌, length, refl, sym, ◌∙◌, ap, arith, Err}
use Rattle.std.proofs.lemmas.Bool.{or_parts}
use Rattle.timefd_language.specs.declared.description_version.DescriptionVersion.{DescriptionVersion}
use Rattle.timefd_lang_component.specs.Tree.{Text}
use Rattle.timefd_language.specs.Bytes.{left, right, is_white, is_run_byte, ZeroOrMore, StopsBefore}
use Rattle.timefd_lang_fault.specs.Faults.{Fault}
use Rattle.timefd_language.specs.Head.{Head, IsHead}
use Rattle.timefd_language.specs.Grammar.{Pieces, no_pieces, Nested, no_nested, ArePieces, AreNested, bracket_verdict}
use Rattle.timefd_language.specs.Broken.{Broken, bare_closing, half_escape, nameless, ill_modified, too_deep, broken_inside, cut_off, unclosed, refused, IsBroken, IsWholeBefore, is_bracket_byte}
use Rattle.timefd_language.specs.Front.{Stop, ended, closed, broke, Reading, IsStop}
use Rattle.timefd_language.proofs.Reader.{at_end, at_broken, start_of, at_inner, at_limit, reading, NestedStop, over, over_limit, inner_broke, inner_ended, nested_reading, fails, judged, closed_of, ended_by, inner_read, read, read_nested}
use Rattle.timefd_language.proofs.Before.{before, nested_before, head_before, broken_before}
use Rattle.timefd_language.proofs.StartExact.{start-bare, start-half, start-nameless, start-misfit, start-head, nested_start-inner, nested_start-limit}
use Rattle.timefd_language.proofs.Complete.{size, nested_size, read-from, read_nested-from, read-bracket, pieces_read, nested_read, none_read, closed_read, whole_before}
use Rattle.timefd_language.proofs.Sizes.{size_fits, broken_size, broken_size_fits}

-- A broken text doesn't begin with a run.
broken_stops : (b : Broken) (v : DescriptionVersion) (limit n : ℕ) → IsBroken v limit n b
    → StopsBefore (is_run_byte v) (broken_before b)
broken_stops (bare_closing rest) v limit n is = refl
broken_stops (half_escape rest) v limit n is = is.0
broken_stops (nameless white rest) v limit n is = refl
broken_stops (ill_modified h white word rest) v limit n is = refl
broken_stops (too_deep h ns white rest) v limit n is = refl
broken_stops (broken_inside h ns white front inner) v limit n is = refl
broken_stops (cut_off h ns white front) v limit n is = refl
broken_stops (unclosed h ns white rest) v limit n is = refl
broken_stops (refused h ns white f rest) v limit n is = refl

end-start : (k : ℕ) (v : DescriptionVersion) (n : ℕ) → start_of k v n [] ≡ at_end
unfolding start_of
end-start k v n = refl

-- the end
end_read : (v : DescriptionVersion) (limit n j : ℕ) → 1 ≤ j
    → read j v limit n [] ≡ reading no_pieces ended
end_read v limit n zero e = absurd (omega arith)
end_read v limit n (suc j) e = read-from j v limit n [] at_end (end-start j v n)

-- Nested descriptions that stop.

limit_read : (v : DescriptionVersion) (limit n : ℕ) (white rest : Text) → ZeroOrMore is_white white
    → n ≡ limit
    → (j : ℕ) → 1 ≤ j → read_nested j v limit n (white ++ left ∷ rest) ≡ nested_reading no_nested
    (over_limit white rest)
limit_read v limit n white rest w e zero p = absurd (omega arith)
limit_read v limit n white rest w e (suc j) p =
    read_nested-from j v limit n (white ++ left ∷ rest) (at_limit white rest)
    (nested_start-limit limit n white rest w e)

inner_read-at : (v : DescriptionVersion) (limit n : ℕ) (white text : Text) (front : Pieces)
    (stop : Stop) (m : ℕ) → ZeroOrMore is_white white → n < limit
    → ((k : ℕ) → m ≤ k → read k v limit (suc n) text ≡ reading front stop)
    → (j : ℕ) → suc m ≤ j → read_nested j v limit n (white ++ left ∷ text)
    ≡ inner_read (λ t. read_nested (pred j) v limit n t) white (reading front stop)
inner_read-at v limit n white text front stop m w below inner zero p = absurd (omega arith)
inner_read-at v limit n white text front stop m w below inner (suc j) p =
    read_nested-from j v limit n (white ++ left ∷ text) (at_inner white text)
    (nested_start-inner limit n white text w below)
    ∙ ap (inner_read (λ t. read_nested j v limit n t) white) (inner j (omega arith))

-- A bracket whose nested descriptions stop like this is broken.
fails_read : (k : ℕ) (v : DescriptionVersion) (limit n : ℕ) (h : Head) (ns : Nested)
    (white rest : Text) (stop : NestedStop) (m : ℕ) (b : Broken)
    → IsHead h → AreNested v limit n ns → ZeroOrMore is_white white → StopsBefore is_white rest
    → IsWholeBefore ns rest
    → ((j : ℕ) → m ≤ j → read_nested j v limit n (white ++ rest) ≡ nested_reading no_nested stop)
    → closed_of v h (nested_reading ns stop) ≡ fails b
    → 2 + length h.modifiers + nested_size ns + m ≤ k
    → read k v limit n (head_before h (nested_before ns (white ++ rest))) ≡ reading no_pieces
    (broke b)
fails_read zero v limit n h ns white rest stop m b ih an w s t next e enough = absurd (omega arith)
fails_read (suc k) v limit n h ns white rest stop m b ih an w s t next e enough =
    read-bracket k v limit n h (head_before h (nested_before ns (white ++ rest)))
    (nested_before ns (white ++ rest)) (nested_reading ns stop) (fails b)
    (start-head k v n h ns white rest limit ih (omega arith) an w s t)
    (nested_read ns v limit n (white ++ rest) stop m an next k (omega arith))
    e

closed_of-unclosed : (v : DescriptionVersion) (h : Head) (ns : Nested) (white rest : Text)
    → StopsBefore is_bracket_byte rest
    → closed_of v h (nested_reading ns (over white rest)) ≡ fails (unclosed h ns white rest)
unfolding closed_of
closed_of-unclosed v h ns white [] s = refl
closed_of-unclosed v h ns white (b ∷ rest) s =
    rw ((or_parts (b == left) (b == right) s).1, ended_by) refl

closed_of-refused : (v : DescriptionVersion) (h : Head) (ns : Nested) (white rest : Text)
    (f : Fault) → bracket_verdict v h ns white ≡ Err f
    → closed_of v h (nested_reading ns (over white (right ∷ rest))) ≡ fails
    (refused h ns white f rest)
unfolding closed_of
closed_of-refused v h ns white rest f e = ap (judged h ns white rest) e

closed_of-limit : (v : DescriptionVersion) (h : Head) (ns : Nested) (white rest : Text)
    → closed_of v h (nested_reading ns (over_limit white rest)) ≡ fails (too_deep h ns white rest)
unfolding closed_of
closed_of-limit v h ns white rest = refl

closed_of-inside : (v : DescriptionVersion) (h : Head) (ns : Nested) (white : Text) (front : Pieces)
    (b : Broken) → closed_of v h (nested_reading ns (inner_broke white front b)) ≡ fails
    (broken_inside h ns white front b)
unfolding closed_of
closed_of-inside v h ns white front b = refl

closed_of-cut : (v : DescriptionVersion) (h : Head) (ns : Nested) (white : Text) (front : Pieces)
    → closed_of v h (nested_reading ns (inner_ended white front)) ≡ fails (cut_off h ns white front)
unfolding closed_of
closed_of-cut v h ns white front = refl

not_left_at : (rest : Text) → StopsBefore is_bracket_byte rest → StopsBefore (λ b. b == left) rest
not_left_at [] s = tt
not_left_at (b ∷ rest) s = (or_parts (b == left) (b == right) s).0

start_read : (k : ℕ) (v : DescriptionVersion) (limit n : ℕ) (text : Text) (b : Broken)
    → ((j : ℕ) → start_of j v n text ≡ at_broken b) → 1 ≤ k
    → read k v limit n text ≡ reading no_pieces (broke b)
start_read zero v limit n text b e p = absurd (omega arith)
start_read (suc k) v limit n text b e p = read-from k v limit n text (at_broken b) (e k)

pub broken_read : (b : Broken) (v : DescriptionVersion) (limit n : ℕ) → IsBroken v limit n b
    → (k : ℕ) → broken_size b ≤ k → read k v limit n (broken_before b) ≡ reading no_pieces (broke b)
broken_read (bare_closing rest) v limit n is k enough =
    start_read k v limit n _ _ (λ j. start-bare j v n rest is.0 is.1) enough
broken_read (half_escape rest) v limit n is k enough =
    start_read k v limit n _ _ (λ j. start-half j v n rest is.0 is.1) enough
broken_read (nameless white rest) v limit n is k enough =
    start_read k v limit n _ _ (λ j. start-nameless j v n white rest is.0 is.1 is.2 is.3) enough
broken_read (ill_modified h white word rest) v limit n is zero enough = absurd (omega arith)
broken_read (ill_modified h white word rest) v limit n is (suc k) enough =
    read-from k v limit n _ (at_broken (ill_modified h white word rest))
    (start-misfit k v n h white word rest is.0 (omega arith) is.1 is.2 is.3)
broken_read (too_deep h ns white rest) v limit n is k enough =
    fails_read k v limit n h ns white (left ∷ rest) (over_limit white rest) 1
    (too_deep h ns white rest) is.0 is.1 is.2 refl (whole_before ns left rest refl)
    (limit_read v limit n white rest is.2 is.3) (closed_of-limit v h ns white rest) (omega arith)
broken_read (broken_inside h ns white front inner) v limit n is k enough =
    fails_read k v limit n h ns white (left ∷ before front (broken_before inner))
    (inner_broke white front inner) (suc (size front + broken_size inner))
    (broken_inside h ns white front inner)
    is.0 is.1 is.2 refl (whole_before ns left (before front (broken_before inner)) refl)
    (inner_read-at v limit n white (before front (broken_before inner)) front (broke inner)
    (size front + broken_size inner) is.2 is.3
    (pieces_read front v limit (suc n) (broken_before inner) (broke inner) (broken_size inner) is.4
    (broken_stops inner v limit (suc n) is.5)
    (broken_read inner v limit (suc n) is.5)))
    (closed_of-inside v h ns white front inner) (omega arith)
broken_read (cut_off h ns white front) v limit n is k enough =
    fails_read k v limit n h ns white (left ∷ before front []) (inner_ended white front)
    (suc (size front + 1)) (cut_off h ns white front)
    is.0 is.1 is.2 refl (whole_before ns left (before front []) refl)
    (inner_read-at v limit n white (before front []) front ended (size front + 1) is.2 is.3
    (pieces_read front v limit (suc n) [] ended 1 is.4 tt (end_read v limit (suc n))))
    (closed_of-cut v h ns white front) (omega arith)
broken_read (unclosed h ns white rest) v limit n is k enough =
    fails_read k v limit n h ns white rest (over white rest) 1 (unclosed h ns white rest) is.0 is.1
    is.2 is.3 is.5
    (none_read v limit n white rest is.2 is.3 (not_left_at rest is.4))
    (closed_of-unclosed v h ns white rest is.4) (omega arith)
broken_read (refused h ns white f rest) v limit n is k enough =
    fails_read k v limit n h ns white (right ∷ rest) (over white (right ∷ rest)) 1
    (refused h ns white f rest) is.0 is.1 is.2 refl (whole_before ns right rest refl)
    (none_read v limit n white (right ∷ rest) is.2 refl refl)
    (closed_of-refused v h ns white rest f is.3) (omega arith)

-- Readings.

abbrev pub stop_text : Stop → Text
stop_text ended = []
stop_text (closed rest) = right ∷ rest
stop_text (broke b) = broken_before b

abbrev pub reading_text : Reading → Text
reading_text r = before r.front (stop_text r.stop)

pub record IsReading (v : DescriptionVersion) (limit n : ℕ) (r : Reading) : Type 0 where
  pub front : ArePieces v limit n r.front
  pub stop : IsStop v limit n r.stop

stop_read : (front : Pieces) (stop : Stop) (v : DescriptionVersion) (limit n k : ℕ)
    → ArePieces v limit n front → IsStop v limit n stop
    → length (before front (stop_text stop)) < k
    → read k v limit n (before front (stop_text stop)) ≡ reading front stop
stop_read front ended v limit n k are is enough =
    pieces_read front v limit n [] ended 1 are tt (end_read v limit n) k
    (omega (arith, size_fits front v limit n [] are))
stop_read front (closed rest) v limit zero k are is enough = absurd (omega arith)
stop_read front (closed rest) v limit (suc n) k are is enough =
    pieces_read front v limit (suc n) (right ∷ rest) (closed rest) 1 are refl
    (closed_read v limit n rest) k
    (omega (arith, size_fits front v limit (suc n) (right ∷ rest) are))
stop_read front (broke b) v limit n k are is enough =
    pieces_read front v limit n (broken_before b) (broke b) (broken_size b) are
    (broken_stops b v limit n is) (broken_read b v limit n is) k
    (omega (
      arith,
      size_fits front v limit n (broken_before b) are,
      broken_size_fits b v limit n is,
    ))

-- Every reading of a text is the one that `read` finds.
pub reading_read : (v : DescriptionVersion) (limit n k : ℕ) (r : Reading) → IsReading v limit n r
    → length (reading_text r) < k → read k v limit n (reading_text r) ≡ r
reading_read v limit n k r is enough = stop_read r.front r.stop v limit n k is.front is.stop enough

-- So a text has at most one reading.
pub one_reading : (v : DescriptionVersion) (limit n : ℕ) (r s : Reading) → IsReading v limit n r
    → IsReading v limit n s → reading_text r ≡ reading_text s → r ≡ s
one_reading v limit n r s ir is e =
    sym (reading_read v limit n (suc (length (reading_text r))) r ir (omega arith))
    ∙ ap (read (suc (length (reading_text r))) v limit n) e
    ∙ reading_read v limit n (suc (length (reading_text r))) s is (omega (arith, ap length e))
