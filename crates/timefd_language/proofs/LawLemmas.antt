-- The laws.
use Rattle.std.proofs.Common.{MatchResult, ℕ, suc, ◌≡◌, ◌≤◌, inl, inr, List, ◌++◌, length, refl, sym, ◌∙◌, ap, subst, arith, append-nil}
use Rattle.timefd_language.specs.declared.description_version.DescriptionVersion.{DescriptionVersion}
use Rattle.timefd_lang_component.specs.Tree.{Text, Tree}
use Rattle.timefd_lang_fault.specs.Faults.{Fault}
use Rattle.timefd_language.specs.Fault.{raised}
use Rattle.timefd_language.specs.Grammar.{Pieces, spelling, items, Spells}
use Rattle.timefd_language.specs.Broken.{broken_fault, FaultOf}
use Rattle.timefd_language.specs.Front.{Stop, ended, closed, broke, text_after, Reading, Reads}
use Rattle.timefd_language.specs.Laws.{IsAnswered, OneAnswer, OneCut, OneReading}
use Rattle.timefd_language.proofs.Reader.{reading, read, answer_from, answer_of}
use Rattle.timefd_language.proofs.Before.{before-is, broken_before-is}
use Rattle.timefd_language.proofs.Readings.{stop_text, reading_text, IsReading, one_reading}
use Rattle.timefd_language.proofs.Found.{ReadingOf, found}

stop_text-is : (stop : Stop) → stop_text stop ≡ text_after stop
stop_text-is ended = refl
stop_text-is (closed rest) = refl
stop_text-is (broke b) = broken_before-is b

reading_text-is : (r : Reading) → reading_text r ≡ spelling r.front ++ text_after r.stop
reading_text-is r = before-is r.front (stop_text r.stop) ∙
    ap (λ x. spelling r.front ++ x) (stop_text-is r.stop)

is_reading : (v : DescriptionVersion) (limit n : ℕ) (text : Text) (r : Reading)
    → Reads v limit n text r → IsReading v limit n r
is_reading v limit n text r h = record { front = h.front; stop = h.stop }

pub one_read : (v : DescriptionVersion) (limit n : ℕ) (text : Text) (r s : Reading)
    → Reads v limit n text r → Reads v limit n text s → r ≡ s
one_read v limit n text r s h k =
    one_reading v limit n r s (is_reading v limit n text r h) (is_reading v limit n text s k)
    (reading_text-is r ∙ sym h.whole ∙ k.whole ∙ sym (reading_text-is s))

pub reads_found : (v : DescriptionVersion) (limit n : ℕ) (text : Text) (r : Reading)
    → ReadingOf v limit n text r → Reads v limit n text r
reads_found v limit n text r h = record {
  front = h.is.front;
  stop = h.is.stop;
  whole =
      h.whole ∙ reading_text-is r;
}

pub some_reading : (v : DescriptionVersion) (limit n : ℕ) (text : Text) → n ≤ limit
    → Reads v limit n text (read (suc (length text)) v limit n text)
some_reading v limit n text within =
    reads_found v limit n text _ (found (suc (length text)) v limit n text within (omega arith))

pub one_reading_law : OneReading
one_reading_law v limit n text within = (
  read (suc (length text)) v limit n text,
  some_reading v limit n text within,
  λ s h. one_read v limit n text _ s (some_reading v limit n text within) h,
)

pub one_cut_law : OneCut
one_cut_law v limit n ps qs are are' e =
    ap (λ r. r.front) (one_read v limit n (spelling ps) (reading ps ended) (reading qs ended)
    (record { front = are; stop = tt; whole = sym (append-nil (spelling ps)) })
    (record { front = are'; stop = tt; whole = e ∙ sym (append-nil (spelling qs)) }))

-- Answers.

spelled_reads : (v : DescriptionVersion) (limit : ℕ) (text : Text) (list : List Tree)
    (h : Spells v limit 0 text list) → Reads v limit 0 text (reading h.0 ended)
spelled_reads v limit text list h =
    record { front = h.1; stop = tt; whole = h.2 ∙ sym (append-nil (spelling h.0)) }

fault_reads : (v : DescriptionVersion) (limit : ℕ) (text : Text) (f : Fault)
    (h : FaultOf v limit text f) → Reads v limit 0 text (reading h.0 (broke h.1))
fault_reads v limit text f h = record { front = h.2; stop = h.3; whole = h.4 }

-- the fault of a reading that stops at a broken text
fault_after : Pieces → Stop → Fault → Fault
fault_after front ended f = f
fault_after front (closed rest) f = f
fault_after front (broke b) f = raised (broken_fault b) (length (spelling front))

breaks : Stop → Type 0
breaks ended = ⊥
breaks (closed rest) = ⊥
breaks (broke b) = Unit {0}

answered : (v : DescriptionVersion) (limit : ℕ) (text : Text) (front : Pieces) (stop : Stop)
    → Reads v limit 0 text (reading front stop) → IsAnswered v limit text
answered v limit text front ended h =
    inl (items front, (front, h.front, h.whole ∙ append-nil (spelling front), refl))
answered v limit text front (closed rest) h = absurd (omega (arith, h.stop))
answered v limit text front (broke b) h =
    inr (
      raised (broken_fault b) (length (spelling front)),
      (front, b, h.front, h.stop, h.whole, refl),
    )

pub one_answer_law : OneAnswer
unfolding fault_after breaks
one_answer_law v limit text = (
  answered v limit text _ _ (some_reading v limit 0 text (omega arith)),
  record {
    one_list = λ a b h k. h.3 ∙ ap (λ r. items r.front)
        (one_read v limit 0 text _ _ (spelled_reads v limit text a h)
        (spelled_reads v limit text b k)) ∙ sym k.3;
    one_fault = λ f g h k.
        h.5 ∙ ap (λ r. fault_after r.front r.stop f)
        (one_read v limit 0 text _ _ (fault_reads v limit text f h)
        (fault_reads v limit text g k)) ∙ sym k.5;
    not_both = λ a f h k. subst (λ r. breaks r.stop)
        (one_read v limit 0 text _ _ (fault_reads v limit text f k)
        (spelled_reads v limit text a h)) tt;
  },
)

-- The answer that the worked rows compute is the answer.

answer_from_is : (v : DescriptionVersion) (limit : ℕ) (text : Text) (front : Pieces) (stop : Stop)
    → Reads v limit 0 text (reading front stop)
    → MatchResult (answer_from front stop) (λ list. Spells v limit 0 text list)
    (λ f. FaultOf v limit text f)
answer_from_is v limit text front ended h =
    (front, h.front, h.whole ∙ append-nil (spelling front), refl)
answer_from_is v limit text front (closed rest) h = absurd (omega (arith, h.stop))
answer_from_is v limit text front (broke b) h = (front, b, h.front, h.stop, h.whole, refl)

pub answer_is : (v : DescriptionVersion) (limit : ℕ) (text : Text)
    → MatchResult (answer_of v limit text) (λ list. Spells v limit 0 text list)
    (λ f. FaultOf v limit text f)
unfolding answer_of
answer_is v limit text = answer_from_is v limit text _ _ (some_reading v limit 0 text (omega arith))
