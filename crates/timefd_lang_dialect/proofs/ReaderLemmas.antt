-- The pieces that a format means, and which dialects read it.
use Rattle.std.proofs.Common.{ℕ, zero, suc, ◌≡◌, ◌<◌, ◌≤◌, ◌==◌, cond, Bool, true, false, List, [], ◌∷◌, ◌++◌, append-nil, append_assoc, length, length-drop, drop, Some, None, refl, sym, ap, ◌∙◌, subst, arith, string_bytes}
use Rattle.std.specs.List.{filter}
use Rattle.timefd_lang_component.specs.Tree.{Text}
use Rattle.timefd_lang_dialect.specs.declared.dialect.Dialect.{Dialect}
use Rattle.timefd_lang_dialect.specs.declared.error.RefusedPart.{RefusedPart}
use Rattle.timefd_lang_dialect.specs.declared.reading.Converted.{Converted}
use Rattle.timefd_lang_dialect.specs.declared.reason.Reason.{Reason}
use Rattle.timefd_lang_dialect.specs.Answers.{IsConverted}
use Rattle.timefd_lang_dialect.specs.Laws.{OneListOfPieces}
use Rattle.timefd_lang_dialect.specs.Reading.{Piece, piece, refused_for, front_of, Leads, Means, RefusedAt}
use Rattle.timefd_lang_dialect.specs.Readers.{has_component, has_component_after, and_more, pieces_from, pieces_below, some_component, reads}
use Rattle.timefd_lang_dialect.proofs.ExistsLemmas.{IsStep, step_front}

-- A piece has bytes in the format.
front_less : (dialect : Dialect) (text : Text) (p : Piece) (after : Text)
    → front_of dialect text ≡ piece p after → length after < length text
front_less dialect [] p after is = cc
front_less dialect (b ∷ rest) p after is =
    subst (IsStep (suc (length rest))) is (step_front dialect b rest)

fewer : (n m k : ℕ) → k < m → m < suc n → k < n
fewer n m k a b = omega (arith, a, b)

means_below : (n : ℕ) (dialect : Dialect) (text : Text) (ps : List Piece) → Means dialect text ps
    → length text < n → pieces_below n dialect text ≡ Some ps
means_below zero dialect text ps means less = absurd (omega (arith, less))
means_below (suc n) dialect text [] means less =
    subst (λ t. pieces_below (suc n) dialect t ≡ Some []) (sym means) refl
means_below (suc n) dialect text (p ∷ ps) means less =
    ap (pieces_from (pieces_below n dialect)) means.1
    ∙ ap (λ o. and_more o p)
    (means_below n dialect means.0 ps means.2
    (fewer n (length text) (length means.0) (front_less dialect text p means.0 means.1) less))

refused_below : (n : ℕ) (dialect : Dialect) (text : Text) (ps : List Piece) (rest : Text)
    (reason : Reason) → Leads dialect text ps rest → front_of dialect rest ≡ refused_for reason
    → length text < n → pieces_below n dialect text ≡ None
refused_below zero dialect text ps rest reason leads is less = absurd (omega (arith, less))
refused_below (suc n) dialect text [] rest reason leads is less =
    ap (pieces_from (pieces_below n dialect)) (ap (front_of dialect) leads ∙ is)
refused_below (suc n) dialect text (p ∷ ps) rest reason leads is less =
    ap (pieces_from (pieces_below n dialect)) leads.1
    ∙ ap (λ o. and_more o p)
    (refused_below n dialect leads.0 ps rest reason leads.2 is
    (fewer n (length text) (length leads.0) (front_less dialect text p leads.0 leads.1) less))

pub pieces_law : (dialect : Dialect) (text : Text) → OneListOfPieces dialect text
pieces_law dialect text = record {
  meant = λ ps means. means_below (suc (length text)) dialect text ps means (omega arith);
  refused =
      λ reason index at. refused_below (suc (length text)) dialect text at.0 at.1 reason at.2 at.3
      (omega arith);
}

-- What an answer says of the pieces.

pub converted_reads : (dialect : Dialect) (text : Text) (answer : Converted) (is : Bool)
    → IsConverted dialect text answer → is ≡ has_component (string_bytes answer.text)
    → is ≡ reads text dialect
converted_reads dialect text answer is converted e =
    e ∙ ap has_component converted.2
    ∙ sym (ap some_component ((pieces_law dialect text).meant converted.0 converted.1))

pub refused_reads : (dialect : Dialect) (text : Text) (refusal : RefusedPart)
    → RefusedAt dialect text refusal.reason refusal.index → false ≡ reads text dialect
refused_reads dialect text refusal at =
    sym (ap some_component ((pieces_law dialect text).refused refusal.reason refusal.index at))

-- One more dialect.

pub one_kept : (test : Dialect → Bool) (dialect : Dialect) (old new : List Dialect)
    → test dialect ≡ true → new ≡ old ++ dialect ∷ [] → new ≡ old ++ filter test (dialect ∷ [])
one_kept test dialect old new is e =
    e ∙ ap (λ xs. old ++ xs) (sym (by (test dialect) is))
  where
    by : (t : Bool) → t ≡ true → cond t (dialect ∷ []) [] ≡ dialect ∷ []
    by true is = refl
    by false is = cc

pub none_kept : (test : Dialect → Bool) (dialect : Dialect) (old : List Dialect)
    → test dialect ≡ false → old ≡ old ++ filter test (dialect ∷ [])
none_kept test dialect old is =
    sym (ap (λ xs. old ++ xs) (by (test dialect) is) ∙ append-nil old)
  where
    by : (t : Bool) → t ≡ false → cond t (dialect ∷ []) [] ≡ []
    by true is = cc
    by false is = refl

pub one_more : (test : Dialect → Bool) (dialect : Dialect) (rest old new whole : List Dialect)
    → old ++ filter test (dialect ∷ rest) ≡ whole → new ≡ old ++ filter test (dialect ∷ [])
    → new ++ filter test rest ≡ whole
one_more test dialect rest old new whole so_far e =
    ap (λ xs. xs ++ filter test rest) e ∙ append_assoc old (filter test (dialect ∷ [])) (filter test rest)
    ∙ ap (λ xs. old ++ xs) (by (test dialect)) ∙ so_far
  where
    by : (t : Bool) → cond t (dialect ∷ []) [] ++ filter test rest
        ≡ cond t (dialect ∷ filter test rest) (filter test rest)
    by true = refl
    by false = refl

-- What an escape leaves.

skipped : (bytes : Text) → has_component (drop 1 bytes) ≡ has_component_after bytes
skipped [] = refl
skipped (b ∷ bytes) = refl

pub component_after : (b : ℕ) (bytes rest : Text) → (b == 91) ≡ false → (b == 92) ≡ true
    → rest ≡ drop 1 bytes → has_component (b ∷ bytes) ≡ has_component rest
component_after b bytes rest e f is =
    rw e (rw f (sym (skipped bytes) ∙ ap has_component (sym is)))

pub component_other : (b : ℕ) (bytes : Text) → (b == 91) ≡ false → (b == 92) ≡ false
    → has_component (b ∷ bytes) ≡ has_component bytes
component_other b bytes e f = rw e (rw f refl)

pub shorter_after : (bytes rest : Text) → rest ≡ drop 1 bytes → length rest ≤ length bytes
shorter_after bytes rest is = omega (arith, ap length is, length-drop 1 bytes)
