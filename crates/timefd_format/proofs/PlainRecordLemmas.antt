-- Records without quotes.
use Rattle.std.proofs.Common.{ℕ, zero, suc, ◌≡◌, ◌≢◌, ◌∙◌, ◌+◌, ◌<◌, ◌≤◌, ◌++◌, Bool, true, false, List, [], ◌∷◌, All, Option, Some, None, Result, Ok, Err, length, take, drop, get_or, nat_eq, refl, sym, ap, subst, arith, append_assoc, eqb-true, eq-eqb, get_or-take, zero-le, length-append, length-take}
use Rattle.std.specs.Prelude.{⊤, ◌==◌, ◌&&◌, ◌||◌, not}
use Rattle.std.proofs.lemmas.Bool.Decides.{nat_tests}
use Rattle.std.proofs.lemmas.List.{take_more}
use Rattle.std.proofs.lemmas.List.Elements.{All-from_get_or, All-head, All-push, All-tail, All-weaker}
use Rattle.std.specs.Io.KnownBytes.{Consumes}
use Rattle.memchr.specs.Find.{IsFirstByte, Passes, is_byte, is_byte2}
use Rattle.timefd_lang_component.specs.Tree.{Text}
use Rattle.timefd_format.specs.declared.quoting.FieldQuoting.{FieldQuoting}
use Rattle.timefd_format.specs.declared.quoting.FieldQuoting.TheVariants.{Start, Bare, Inside, Closed}
use Rattle.timefd_format.specs.Fields.{after, after_all, is_inside}
use Rattle.timefd_format.specs.RecordBatches.{IsPlainRecord}
use Rattle.timefd_format.specs.Records.{IsNextRecord, ends_record, is_open, left_from, record_from}
use Rattle.timefd_format.proofs.PlainLemmas.{IsOutside, stays}

-- neither a newline nor a quote
abbrev pub IsInner : ℕ → Type 0
IsInner b = (b ≢ 10) × (b ≢ 34)

-- The record up to the first newline, if that comes before a quote.

pub newline_within : (text : Text) (k : ℕ) → IsFirstByte (is_byte2 10 34) text (Some k) → k + 1 ≤ length text
newline_within text k found = omega (arith, found.0.high)

either_by : (a b : Bool) → b ≡ true → (a || b) ≡ true
either_by true b is = refl
either_by false b is = is

inner_by : (text : Text) (i : ℕ) → ¬ Passes (is_byte2 10 34) text i → IsInner (get_or text i 0)
inner_by text i none = (
  λ is. none (rw (eq-eqb (get_or text i 0) 10 is) refl),
  λ is. none (either_by (get_or text i 0 == 10) (get_or text i 0 == 34) (eq-eqb (get_or text i 0) 34 is)),
)

pub up_to_newline : (text : Text) (k : ℕ) → IsFirstByte (is_byte2 10 34) text (Some k) → get_or text k 0 ≡ 10
    → IsPlainRecord (take (k + 1) text)
up_to_newline text k found newline =
    let inside : k < length text = found.0.high in (
      take k text,
      All-from_get_or IsInner (take k text) 0 (λ i small.
          let below : i < k = omega (arith, small, length-take k text) in
          subst IsInner (sym (get_or-take k text i 0 below)) (inner_by text i (found.0.before i zero-le below))),
      take_more text k 0 inside ∙ ap (λ b. take k text ++ b ∷ []) newline,
    )

-- A record without quotes is the next record.

goes_on : (q : FieldQuoting) (b : ℕ) → b ≢ 10 → ends_record q b ≡ false
goes_on q b other = let e : (b == 10) ≡ false = grind (arith, nat_tests, other) in rw e refl

shut : (q : FieldQuoting) → IsOutside q → is_inside q ≡ false
shut Start out = refl
shut Bare out = refl
shut Inside out = absurd out
shut Closed out = absurd out

ends : (q : FieldQuoting) → IsOutside q → ends_record q 10 ≡ true
ends q out = rw (shut q out) refl

taken : (q : FieldQuoting) (text rest : Text) → IsOutside q → All IsInner text
    → (record_from q (text ++ 10 ∷ rest) ≡ text ++ 10 ∷ []) × (left_from q (text ++ 10 ∷ rest) ≡ rest)
taken q [] rest out plain = (rw (ends q out) refl, rw (ends q out) refl)
taken q (b ∷ bs) rest out plain =
    let first = All-head IsInner b bs plain in
    let more = taken (after q b) bs rest (stays q b out first.1) (All-tail IsInner b bs plain) in
    let same : ends_record q b ≡ false = goes_on q b first.0 in
    (rw same (ap (λ t. b ∷ t) more.0), rw same more.1)

pub is_next : (left rest : Option Text) (row : Text) → IsPlainRecord row → Consumes left rest row
    → IsNextRecord left row rest
is_next None rest row plain consumed = tt
is_next (Some x) None row plain consumed = absurd consumed
is_next (Some x) (Some y) row plain consumed =
    let joined : x ≡ plain.0 ++ 10 ∷ y =
    consumed ∙ ap (λ r. r ++ y) plain.2 ∙ append_assoc plain.0 (10 ∷ []) y in
    let cut = taken Start plain.0 y tt plain.1 in (
      λ empty. absurd (omega (arith, ap length empty, ap length plain.2, length-append plain.0 (10 ∷ []))),
      plain.2 ∙ sym (ap (record_from Start) joined ∙ cut.0),
      ap Some (sym (ap (left_from Start) joined ∙ cut.1)),
    )

stays_outside : (q : FieldQuoting) (text : Text) → IsOutside q → All (λ b. b ≢ 34) text → IsOutside (after_all q text)
stays_outside q [] out plain = out
stays_outside q (b ∷ bs) out plain =
    stays_outside (after q b) bs (stays q b out (All-head (λ x. x ≢ 34) b bs plain)) (All-tail (λ x. x ≢ 34) b bs plain)

pub without_quotes : (row : Text) → IsPlainRecord row → All (λ b. b ≢ 34) row
without_quotes row plain =
    subst (All (λ b. b ≢ 34)) (sym plain.2)
    (All-push (λ b. b ≢ 34) plain.0 10 (All-weaker IsInner (λ b. b ≢ 34) (λ b is. is.1) plain.0 plain.1) (λ is. absurd cc))

pub is_closed : (row : Text) → IsPlainRecord row → is_open row ≡ false
is_closed row plain = shut (after_all Start row) (stays_outside Start row tt (without_quotes row plain))
