-- Each format has an answer.
use Rattle.std.proofs.Common.{ℕ, zero, suc, ◌≡◌, ◌+◌, ◌-◌, ◌<◌, ◌≤◌, ◌==◌, cond, nat_lt, Bool, true, false, [], ◌∷◌, length, length-drop, drop, Option, Some, None, refl, inl, inr, arith}
use Rattle.std.specs.Prelude.{IfSome, ⊤}
use Rattle.std.specs.List.{prefix_len}
use Rattle.std.proofs.lemmas.Bool.Decides.{nat_tests}
use Rattle.timefd_lang_component.specs.Tree.{Text}
use Rattle.timefd_lang_dialect.specs.declared.dialect.Dialect.{Dialect}
use Rattle.timefd_lang_dialect.specs.declared.dialect.Quoting.{Quoting}
use Rattle.timefd_lang_dialect.specs.declared.dialect.Quoting.TheVariants.{Unquoted, Apostrophes, Brackets}
use Rattle.timefd_lang_dialect.specs.Dialects.{quoting_of}
use Rattle.timefd_lang_dialect.specs.Laws.{HasAnswer}
use Rattle.timefd_lang_dialect.specs.Quotes.{continues, apostrophe, with_byte, quotation, after_apostrophe, closing}
use Rattle.timefd_lang_dialect.specs.Reading.{Piece, Front, ended, piece, refused_for, front_meant, front_row, front_quotation, front_closing, front_quote, front_of}
use Rattle.timefd_lang_dialect.specs.Rows.{Entry, Meaning, written, refused, longest}
use Rattle.timefd_lang_dialect.specs.Tables.{rows_of}
use Rattle.timefd_lang_dialect.proofs.RowLemmas.{IsFit, has_bytes, all_have_bytes, longest_fits}
use Rattle.timefd_language.specs.Bytes.{left}

-- the front is a piece that fewer than `n` bytes follow, or is refused
abbrev pub IsStep : ℕ → Front → Type 0
IsStep n ended = ⊥
IsStep n (piece p rest) = length rest < n
IsStep n (refused_for reason) = ⊤

-- Quotes.

with_byte-rest : (n b : ℕ) (found : Option (Text × Text)) → IfSome found (λ x. length x.1 ≤ n)
    → IfSome (with_byte b found) (λ x. length x.1 ≤ suc n)
with_byte-rest n b None le = tt
with_byte-rest n b (Some x) le = omega (arith, le)

choose : (t : Bool) (n : ℕ) (a b : Option (Text × Text)) → IfSome a (λ x. length x.1 ≤ n)
    → IfSome b (λ x. length x.1 ≤ n) → IfSome (cond t a b) (λ x. length x.1 ≤ n)
choose true n a b is_a is_b = is_a
choose false n a b is_a is_b = is_b

up : (n : ℕ) (found : Option (Text × Text)) → IfSome found (λ x. length x.1 ≤ n)
    → IfSome found (λ x. length x.1 ≤ suc n)
up n None le = tt
up n (Some x) le = omega (arith, le)

mutual
  quotation_rest : (text : Text) → IfSome (quotation text) (λ x. length x.1 ≤ length text)
  quotation_rest [] = tt
  quotation_rest (b ∷ rest) =
      choose (b == apostrophe) (suc (length rest)) (after_apostrophe rest)
      (with_byte b (quotation rest))
      (up (length rest) (after_apostrophe rest) (after_rest rest))
      (with_byte-rest (length rest) b (quotation rest) (quotation_rest rest))

  after_rest : (text : Text) → IfSome (after_apostrophe text) (λ x. length x.1 ≤ length text)
  after_rest [] = omega arith
  after_rest (b ∷ rest) =
      choose (b == apostrophe) (suc (length rest)) (with_byte b (quotation rest))
      (Some ([], b ∷ rest))
      (with_byte-rest (length rest) b (quotation rest) (quotation_rest rest)) (omega arith)

-- What is at the front.

dropped : (n : ℕ) (text : Text) → 0 < n → 0 < length text → length (drop n text) < length text
dropped n text some there = omega (arith, length-drop n text, some, there)

step_meaning : (meaning : Meaning) (n : ℕ) (rest : Text) → length rest < n
    → IsStep n (front_meant meaning rest)
step_meaning (written text range) n rest less = less
step_meaning (refused reason) n rest less = tt

step_row : (found : Option Entry) (text : Text) → IfSome found (IsFit has_bytes text)
    → 0 < length text → IsStep (length text) (front_row found text)
step_row None [] fits there = absurd (omega (arith, there))
step_row None (b ∷ rest) fits there =
    dropped (1 + prefix_len continues rest) (b ∷ rest) (omega arith) there
step_row (Some row) text fits there =
    step_meaning row.meaning (length text) (drop (length row.text) text)
    (dropped (length row.text) text (some (length row.text) fits.0) there)
  where
    some : (n : ℕ) → nat_lt 0 n ≡ true → 0 < n
    some n e = grind (arith, nat_tests)

step_quotation : (n : ℕ) (found : Option (Text × Text)) → IfSome found (λ x. length x.1 ≤ n)
    → IsStep (suc n) (front_quotation found)
step_quotation n None le = tt
step_quotation n (Some x) le = omega (arith, le)

step_closing : (found : Option ℕ) (rest : Text) (other : Front)
    → IsStep (suc (length rest)) other
    → IsStep (suc (length rest)) (front_closing found rest other)
step_closing None rest other good = good
step_closing (Some index) rest other good = omega (arith, length-drop (index + 1) rest)

either : (n : ℕ) (t : Bool) (one other : Front) → IsStep n one → IsStep n other
    → IsStep n (cond t one other)
either n true one other a b = a
either n false one other a b = b

step_quote : (quoting : Quoting) (b : ℕ) (rest : Text) (other : Front)
    → IsStep (suc (length rest)) other
    → IsStep (suc (length rest)) (front_quote quoting b rest other)
step_quote Unquoted b rest other good = good
step_quote Apostrophes b rest other good =
    either (suc (length rest)) (b == apostrophe) (front_quotation (quotation rest)) other
    (step_quotation (length rest) (quotation rest) (quotation_rest rest)) good
step_quote Brackets b rest other good =
    either (suc (length rest)) (b == left) (front_closing (closing rest) rest other) other
    (step_closing (closing rest) rest other good) good

pub step_front : (dialect : Dialect) (b : ℕ) (rest : Text)
    → IsStep (suc (length rest)) (front_of dialect (b ∷ rest))
step_front dialect b rest =
    step_quote (quoting_of dialect) b rest _
    (step_row (longest (rows_of dialect) (b ∷ rest)) (b ∷ rest)
    (longest_fits has_bytes (b ∷ rest) (rows_of dialect) (all_have_bytes dialect)) (omega arith))

-- Answers.

one_more : (dialect : Dialect) (text : Text) (p : Piece) (rest : Text)
    → front_of dialect text ≡ piece p rest → length rest < length text → HasAnswer dialect rest
    → HasAnswer dialect text
one_more dialect text p rest is less (inl means) = inl (p ∷ means.0, (rest, is, means.1))
one_more dialect text p rest is less (inr refusal) =
    let at = refusal.2 in
    inr (
      refusal.0,
      refusal.1 + (length text - length rest),
      (p ∷ at.0, at.1, (rest, is, at.2), at.3, omega (arith, at.4, less)),
    )

by_front : (dialect : Dialect) (text : Text) (front : Front) → front_of dialect text ≡ front
    → IsStep (length text) front
    → ((p : Piece) (rest : Text) → length rest < length text → HasAnswer dialect rest)
    → HasAnswer dialect text
by_front dialect text ended is step more = absurd step
by_front dialect text (piece p rest) is step more =
    one_more dialect text p rest is step (more p rest step)
by_front dialect text (refused_for reason) is step more =
    inr (reason, 0, ([], text, refl, is, omega arith))

within : (n : ℕ) (dialect : Dialect) (text : Text) → length text ≤ n → HasAnswer dialect text
within n dialect [] le = inl ([], refl)
within zero dialect (b ∷ rest) le = absurd (omega (arith, le))
within (suc n) dialect (b ∷ rest) le =
    by_front dialect (b ∷ rest) (front_of dialect (b ∷ rest)) refl (step_front dialect b rest)
    (λ p after less. within n dialect after (omega (arith, le, less)))

pub answer_law : (dialect : Dialect) (text : Text) → HasAnswer dialect text
answer_law dialect text = within (length text) dialect text (omega arith)
