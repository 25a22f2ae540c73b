-- A text that is put together from pieces is read as those pieces.
use Rattle.std.proofs.Common.{ℕ, zero, suc, ◌≡◌, ◌+◌, ◌≤◌, ◌==◌, false, ◌∷◌, ◌++◌, length, refl, ◌∙◌, ap, arith, Ok}
use Rattle.timefd_language.specs.declared.description_version.DescriptionVersion.{DescriptionVersion}
use Rattle.timefd_language.specs.declared.description_version.DescriptionVersion.TheVariants.{One, Two, Three}
use Rattle.timefd_lang_component.specs.Tree.{Text, Tree}
use Rattle.timefd_language.specs.Bytes.{left, right, is_white, is_word_byte, is_run_byte, ZeroOrMore, StopsBefore}
use Rattle.timefd_language.specs.Head.{Head}
use Rattle.timefd_language.specs.Grammar.{Pieces, no_pieces, run, escape, closing, bracket, Nested, no_nested, nested, ArePieces, AreNested, BeginsNoRun, bracket_verdict}
use Rattle.timefd_language.specs.Broken.{IsWholeBefore}
use Rattle.timefd_language.specs.Front.{Stop, closed}
use Rattle.timefd_language.proofs.Reader.{Start, at_run, at_closing, at_escape, at_head, at_outer_closing, start_of, NestedStart, no_more, at_inner, nested_start_of, reading, NestedStop, over, NestedReading, nested_reading, Closed, whole, judged, closed_of, with_bracket, continued, inner_read, nested_continued, read, read_nested}
use Rattle.timefd_language.proofs.Before.{before, nested_before, head_before}
use Rattle.timefd_language.proofs.StartExact.{start-run, start-escape, start-outer_closing, start-closing, start-head, nested_start-none, nested_start-inner}

-- How many steps are enough.
abbrev mutual
  pub size : Pieces → ℕ
  size no_pieces = 0
  size (run bytes rest) = suc (size rest)
  size (escape a b rest) = suc (size rest)
  size (closing rest) = suc (size rest)
  size (bracket h ns white tree rest) =
      suc (suc (length h.modifiers + (nested_size ns + size rest)))

  pub nested_size : Nested → ℕ
  nested_size no_nested = 0
  nested_size (nested white ps ns) = suc (suc (size ps + nested_size ns))

-- One step.

pub read-from : (k : ℕ) (v : DescriptionVersion) (limit n : ℕ) (text : Text) (s : Start)
    → start_of k v n text ≡ s
    → read (suc k) v limit n text ≡ continued v (λ t. read k v limit n t)
    (λ t. read_nested k v limit n t) s
unfolding read
read-from k v limit n text s e = ap
    (continued v (λ t. read k v limit n t) (λ t. read_nested k v limit n t)) e

pub read_nested-from : (k : ℕ) (v : DescriptionVersion) (limit n : ℕ) (text : Text)
    (s : NestedStart) → nested_start_of limit n text ≡ s
    → read_nested (suc k) v limit n text ≡ nested_continued (λ t. read k v limit (suc n) t)
    (λ t. read_nested k v limit n t) s
unfolding read_nested
read_nested-from k v limit n text s e =
    ap (nested_continued (λ t. read k v limit (suc n) t) (λ t. read_nested k v limit n t)) e

pub closed_of-at : (v : DescriptionVersion) (h : Head) (r : NestedReading)
    → closed_of v h r ≡ closed_of v h (nested_reading r.front r.stop)
closed_of-at v h r = refl

-- A bracket whose nested descriptions are read as r.
pub read-bracket : (k : ℕ) (v : DescriptionVersion) (limit n : ℕ) (h : Head) (text after : Text)
    (r : NestedReading) (c : Closed)
    → start_of k v n text ≡ at_head h after → read_nested k v limit n after ≡ r
    → closed_of v h r ≡ c
    → read (suc k) v limit n text ≡ with_bracket (λ t. read k v limit n t) c
read-bracket k v limit n h text after r c e f g =
    read-from k v limit n text (at_head h after) e
    ∙ ap (λ x. with_bracket (λ t. read k v limit n t) (closed_of v h x)) f
    ∙ ap (with_bracket (λ t. read k v limit n t)) g

closed_of-tree : (v : DescriptionVersion) (h : Head) (ns : Nested) (white rest : Text) (tree : Tree)
    → bracket_verdict v h ns white ≡ Ok tree
    → closed_of v h (nested_reading ns (over white (right ∷ rest))) ≡ whole h ns white tree rest
unfolding closed_of
closed_of-tree v h ns white rest tree e = ap (judged h ns white rest) e

-- no run follows a run
stops_after : (ps : Pieces) (v : DescriptionVersion) (limit n : ℕ) (tail : Text)
    → ArePieces v limit n ps → BeginsNoRun ps → StopsBefore (is_run_byte v) tail
    → StopsBefore (is_run_byte v) (before ps tail)
stops_after no_pieces v limit n tail are ends s = s
stops_after (run bytes rest) v limit n tail are ends s = absurd ends
stops_after (escape a b rest) One limit n tail are ends s = rw (are.0.0) refl
stops_after (escape a b rest) Two limit n tail are ends s = rw (are.0.0) refl
stops_after (escape a b rest) Three limit n tail are ends s = rw (are.0.0) refl
stops_after (closing rest) v limit n tail are ends s = refl
stops_after (bracket h ns white tree rest) v limit n tail are ends s = refl

pub whole_before : (ns : Nested) (b : ℕ) (rest : Text) → is_word_byte b ≡ false
    → IsWholeBefore ns (b ∷ rest)
whole_before no_nested b rest e = e
whole_before (nested white ps ns) b rest e = tt

-- no further nested description
pub none_read : (v : DescriptionVersion) (limit n : ℕ) (white rest : Text)
    → ZeroOrMore is_white white → StopsBefore is_white rest → StopsBefore (λ b. b == left) rest
    → (j : ℕ) → 1 ≤ j → read_nested j v limit n (white ++ rest) ≡ nested_reading no_nested
    (over white rest)
none_read v limit n white rest w s t zero e = absurd (omega arith)
none_read v limit n white rest w s t (suc j) e =
    read_nested-from j v limit n (white ++ rest) (no_more white rest)
    (nested_start-none limit n white rest w s t)

-- the `]` of a nested description
pub closed_read : (v : DescriptionVersion) (limit n : ℕ) (rest : Text) (j : ℕ) → 1 ≤ j
    → read j v limit (suc n) (right ∷ rest) ≡ reading no_pieces (closed rest)
closed_read v limit n rest zero e = absurd (omega arith)
closed_read v limit n rest (suc j) e =
    read-from j v limit (suc n) (right ∷ rest) (at_closing rest)
    (start-closing j v (suc n) rest (omega arith))

-- If the tail is read as no pieces and a stop, pieces before it are read as those pieces and that stop.
mutual
  pub pieces_read : (ps : Pieces) (v : DescriptionVersion) (limit n : ℕ) (tail : Text) (stop : Stop)
      (m : ℕ)
      → ArePieces v limit n ps → StopsBefore (is_run_byte v) tail
      → ((j : ℕ) → m ≤ j → read j v limit n tail ≡ reading no_pieces stop)
      → (k : ℕ) → size ps + m ≤ k → read k v limit n (before ps tail) ≡ reading ps stop
  pieces_read no_pieces v limit n tail stop m are s next k enough = next k (omega arith)
  pieces_read (run bytes rest) v limit n tail stop m are s next zero enough = absurd (omega arith)
  pieces_read (run bytes rest) v limit n tail stop m are s next (suc k) enough =
      read-from k v limit n (bytes ++ before rest tail) (at_run bytes (before rest tail))
      (start-run k v n bytes (before rest tail) are.0
      (stops_after rest v limit n tail are.2 are.1 s))
      ∙ ap (λ r. reading (run bytes r.front) r.stop)
      (pieces_read rest v limit n tail stop m are.2 s next k (omega arith))
  pieces_read (escape a b rest) v limit n tail stop m are s next zero enough = absurd (omega arith)
  pieces_read (escape a b rest) v limit n tail stop m are s next (suc k) enough =
      read-from k v limit n (a ∷ b ∷ before rest tail) (at_escape a b (before rest tail))
      (start-escape k v n a b (before rest tail) are.0)
      ∙ ap (λ r. reading (escape a b r.front) r.stop)
      (pieces_read rest v limit n tail stop m are.1 s next k (omega arith))
  pieces_read (closing rest) v limit n tail stop m are s next zero enough = absurd (omega arith)
  pieces_read (closing rest) v limit n tail stop m are s next (suc k) enough =
      read-from k v limit n (right ∷ before rest tail) (at_outer_closing (before rest tail))
      (start-outer_closing k v n (before rest tail) are.0 are.1)
      ∙ ap (λ r. reading (closing r.front) r.stop)
      (pieces_read rest v limit n tail stop m are.2 s next k (omega arith))
  pieces_read (bracket h ns white tree rest) v limit n tail stop m are s next zero enough =
      absurd (omega arith)
  pieces_read (bracket h ns white tree rest) v limit n tail stop m are s next (suc k) enough =
      read-bracket k v limit n h
      (head_before h (nested_before ns (white ++ right ∷ before rest tail)))
      (nested_before ns (white ++ right ∷ before rest tail))
      (nested_reading ns (over white (right ∷ before rest tail)))
      (whole h ns white tree (before rest tail))
      (start-head k v n h ns white (right ∷ before rest tail) limit are.0 (omega arith) are.1 are.2
      refl (whole_before ns right (before rest tail) refl))
      (nested_read ns v limit n (white ++ right ∷ before rest tail)
      (over white (right ∷ before rest tail)) 1 are.1
      (none_read v limit n white (right ∷ before rest tail) are.2 refl refl) k (omega arith))
      (closed_of-tree v h ns white (before rest tail) tree are.3)
      ∙ ap (λ r. reading (bracket h ns white tree r.front) r.stop)
      (pieces_read rest v limit n tail stop m are.4 s next k (omega arith))

  pub nested_read : (ns : Nested) (v : DescriptionVersion) (limit n : ℕ) (tail : Text)
      (stop : NestedStop) (m : ℕ)
      → AreNested v limit n ns
      → ((j : ℕ) → m ≤ j → read_nested j v limit n tail ≡ nested_reading no_nested stop)
      → (k : ℕ) → nested_size ns + m ≤ k
      → read_nested k v limit n (nested_before ns tail) ≡ nested_reading ns stop
  nested_read no_nested v limit n tail stop m are next k enough = next k (omega arith)
  nested_read (nested white ps ns) v limit n tail stop m are next zero enough = absurd (omega arith)
  nested_read (nested white ps ns) v limit n tail stop m are next (suc k) enough =
      read_nested-from k v limit n (white ++ left ∷ before ps (right ∷ nested_before ns tail))
      (at_inner white (before ps (right ∷ nested_before ns tail)))
      (nested_start-inner limit n white (before ps (right ∷ nested_before ns tail)) are.0 are.1)
      ∙ ap (inner_read (λ t. read_nested k v limit n t) white)
      (pieces_read ps v limit (suc n) (right ∷ nested_before ns tail)
      (closed (nested_before ns tail)) 1 are.2 refl
      (closed_read v limit n (nested_before ns tail)) k (omega arith))
      ∙ ap (λ r. nested_reading (nested white ps r.front) r.stop)
      (nested_read ns v limit n tail stop m are.3 next k (omega arith))
