-- The format that a description asks for, so far and as a whole; and that it asks for one at most.
use Rattle.std.proofs.Common.{ℕ, ◌≡◌, ◌<◌, ◌-◌, Bool, true, false, List, [], ◌∷◌, ◌++◌, append-nil, append_assoc, length, Some, refl, sym, ap, ◌∙◌, subst, arith, string_bytes}
use Rattle.std.specs.Borrow.{Bor}
use Rattle.timefd_lang_component.specs.Tree.{Text}
use Rattle.timefd_lang_dialect.specs.declared.dialect.Dialect.{Dialect}
use Rattle.timefd_lang_dialect.specs.declared.error.RefusedPart.{RefusedPart}
use Rattle.timefd_lang_dialect.specs.declared.reading.Converted.{Converted}
use Rattle.timefd_lang_dialect.specs.declared.row.Row.{Row}
use Rattle.timefd_lang_dialect.specs.Answers.{IsConverted}
use Rattle.timefd_lang_dialect.specs.Asked.{run_of, quoted, ends_literal, AsksBy, AsksFront, AsksTo, AsksFor, joined_parts}
use Rattle.timefd_lang_dialect.specs.AskedSteps.{TakesLiteral, TakesRun}
use Rattle.timefd_lang_dialect.specs.Back.{IsMerged, LacksAt, MeansText}
use Rattle.timefd_lang_dialect.specs.BackSteps.{IsAfter}
use Rattle.timefd_lang_dialect.specs.Best.{chosen, own_text, Lacks}
use Rattle.timefd_lang_dialect.specs.Laws.{OneFormat}
use Rattle.timefd_lang_dialect.specs.Reading.{RefusedAt, text_of}
use Rattle.timefd_lang_dialect.specs.Rows.{Entry, entry_of, meaning_of}
use Rattle.timefd_lang_dialect.proofs.BackLemmas.{rest_within}
use Rattle.timefd_lang_dialect.proofs.LawLemmas.{one_meaning_law, not_both_law}

pub literal_taken : (dialect : Dialect) (text literal old new : Text) (rest : Bor (List ℕ))
    → TakesRun text [] literal rest → new ≡ old ++ quoted dialect literal
    → TakesLiteral dialect text old new rest
literal_taken dialect text literal old new rest t x = record {
  appended = x ∙ ap (λ l. old ++ quoted dialect l) t.appended;
  rest_is = t.rest_is;
  after = t.after;
}

-- the parts in front of the rest are those of the format
pub record HasAsked (dialect : Dialect) (description rest format : Text) : Type 0 where
  pub parts : List Text
  pub asked : AsksTo dialect description parts rest
  pub written : format ≡ joined_parts parts
  pub front : Text
  pub whole : description ≡ front ++ rest

pub nothing_asked : (dialect : Dialect) (description : Text) → HasAsked dialect description description []
nothing_asked dialect description =
    record { parts = []; asked = refl; written = refl; front = []; whole = refl }

asks_more : (dialect : Dialect) (text : Text) (ps : List Text) (p rest after : Text)
    → AsksTo dialect text ps rest → AsksFront dialect rest p after
    → AsksTo dialect text (ps ++ p ∷ []) after
asks_more dialect text [] p rest after asks one =
    (after, subst (λ t. AsksFront dialect t p after) (sym asks) one, refl)
asks_more dialect text (q ∷ ps) p rest after asks one =
    (asks.0, asks.1, asks_more dialect asks.0 ps p rest after asks.2 one)

joined_more : (ps : List Text) (p : Text) → joined_parts (ps ++ p ∷ []) ≡ joined_parts ps ++ p
joined_more [] p = append-nil p
joined_more (q ∷ ps) p =
    ap (λ x. q ++ x) (joined_more ps p) ∙ sym (append_assoc q (joined_parts ps) p)

asked_more : (dialect : Dialect) (description rest format next part : Text) (after : Bor (List ℕ))
    → HasAsked dialect description rest format → AsksFront dialect rest part after.now
    → next ≡ format ++ part → IsAfter rest after → HasAsked dialect description after.now next
asked_more dialect description rest format next part after so_far one x is = record {
  parts = so_far.parts ++ part ∷ [];
  asked = asks_more dialect description so_far.parts part rest after.now so_far.asked one;
  written = x ∙ ap (λ f. f ++ part) so_far.written ∙ sym (joined_more so_far.parts part);
  front = so_far.front ++ is.taken;
  whole =
      so_far.whole ∙ ap (λ t. so_far.front ++ t) is.whole
      ∙ sym (append_assoc so_far.front is.taken after.now);
}

-- one more bracket
pub row_more : (dialect : Dialect) (description rest format next : Text) (row : Row) (after : Bor (List ℕ))
    → HasAsked dialect description rest format → 0 < length rest → ends_literal rest ≡ true
    → Some (entry_of row) ≡ chosen dialect rest → next ≡ format ++ row.text.now
    → rest ≡ own_text (meaning_of row.verdict) ++ after.now → IsAfter rest after
    → HasAsked dialect description after.now next
row_more dialect description rest format next row after so_far there ends is x whole leaves =
    asked_more dialect description rest format next row.text.now after so_far (
      there,
      subst (λ t. AsksBy t dialect rest row.text.now after.now) (sym ends)
          (entry_of row, sym is, refl, whole),
    ) x leaves

-- one more literal
pub literal_more : (dialect : Dialect) (description rest format next : Text) (after : Bor (List ℕ))
    → HasAsked dialect description rest format → 0 < length rest → ends_literal rest ≡ false
    → TakesLiteral dialect rest format next after → HasAsked dialect description after.now next
literal_more dialect description rest format next after so_far there goes t =
    asked_more dialect description rest format next (quoted dialect (run_of rest).literal) after so_far (
      there,
      subst (λ b. AsksBy b dialect rest (quoted dialect (run_of rest).literal) after.now) (sym goes)
          (refl, t.rest_is),
    ) t.appended t.after

pub all_asked : (dialect : Dialect) (description rest format : Text)
    → HasAsked dialect description rest format → rest ≡ [] → AsksFor dialect description format
all_asked dialect description rest format so_far e =
    (so_far.parts, subst (AsksTo dialect description so_far.parts) e so_far.asked, so_far.written)

-- a bracket for which the dialect has no directive
pub lacking : (dialect : Dialect) (description rest format : Text) (index : ℕ)
    → HasAsked dialect description rest format → 0 < length rest → ends_literal rest ≡ true
    → Lacks dialect rest → index ≡ length description - length rest
    → LacksAt dialect description index
lacking dialect description rest format index so_far there ends lacks is = record {
  front = so_far.front;
  rest = rest;
  whole = so_far.whole;
  at_index = omega (arith, is, rest_within description so_far.front rest so_far.whole);
  lacks = lacks;
  there = there;
  bracket = ends;
  parts = so_far.parts;
  asked = so_far.asked;
}

-- A format that is asked for and that the dialect reads otherwise.

pub refused_merged : (dialect : Dialect) (description format : Text) (refusal : RefusedPart)
    → AsksFor dialect description format → RefusedAt dialect format refusal.reason refusal.index
    → IsMerged dialect description
refused_merged dialect description format refusal asks at =
    (format, asks, λ m. not_both_law dialect format m.0 refusal.reason refusal.index m.1 at)

pub other_merged : (dialect : Dialect) (description format : Text) (answer : Converted)
    → AsksFor dialect description format → IsConverted dialect format answer
    → ¬ (string_bytes answer.text ≡ description) → IsMerged dialect description
other_merged dialect description format answer asks is other = (
  format,
  asks,
  λ m. other
      (is.2 ∙ ap text_of (one_meaning_law dialect format is.0 m.0 is.1 m.1) ∙ sym m.2),
)

-- A description asks for one format at most.

none_asks : (dialect : Dialect) (text part after : Text) → text ≡ [] → ¬ (AsksFront dialect text part after)
none_asks dialect text part after e one = omega (arith, ap length e, one.0)

cancel : (a r s : Text) → a ++ r ≡ a ++ s → r ≡ s
cancel [] r s e = e
cancel (x ∷ a) r s e = cancel a r s (tail_same e)
  where
    tail_same : x ∷ (a ++ r) ≡ x ∷ (a ++ s) → a ++ r ≡ a ++ s
    tail_same e = cc

some_same : (row other : Entry) → Some row ≡ Some other → row ≡ other
some_same row other e = cc

one_by : (t : Bool) (dialect : Dialect) (text p r q s : Text) → AsksBy t dialect text p r
    → AsksBy t dialect text q s → (p ≡ q) × (r ≡ s)
one_by true dialect text p r q s a b =
    let row : a.0 ≡ b.0 = some_same a.0 b.0 (sym a.1 ∙ b.1) in (
      a.2 ∙ ap (λ e. e.text) row ∙ sym b.2,
      cancel (own_text b.0.meaning) r s
          (subst (λ e. own_text e.meaning ++ r ≡ text) row (sym a.3) ∙ b.3),
    )
one_by false dialect text p r q s a b = (a.0 ∙ sym b.0, a.1 ∙ sym b.1)

asks_once : (dialect : Dialect) (text : Text) (ps qs : List Text) → AsksTo dialect text ps []
    → AsksTo dialect text qs [] → ps ≡ qs
asks_once dialect text [] [] a b = refl
asks_once dialect text [] (q ∷ qs) a b = absurd (none_asks dialect text q b.0 a b.1)
asks_once dialect text (p ∷ ps) [] a b = absurd (none_asks dialect text p a.0 b a.1)
asks_once dialect text (p ∷ ps) (q ∷ qs) a b =
    let one = one_by (ends_literal text) dialect text p a.0 q b.0 a.1.1 b.1.1 in
    ap (λ x. x ∷ ps) one.0
    ∙ ap (λ x. q ∷ x) (asks_once dialect a.0 ps qs a.2
    (subst (λ t. AsksTo dialect t qs []) (sym one.1) b.2))

one_asked : (dialect : Dialect) (text f g : Text) → AsksFor dialect text f → AsksFor dialect text g
    → f ≡ g
one_asked dialect text f g a b =
    a.2 ∙ ap joined_parts (asks_once dialect text a.0 b.0 a.1 b.1) ∙ sym b.2

pub one_format_law : (dialect : Dialect) (description : Text) → OneFormat dialect description
one_format_law dialect description = record {
  one_format = one_asked dialect description;
  meant =
      λ format asks means merged. merged.2
      (subst (λ f. MeansText dialect f description) (one_asked dialect description format merged.0 asks merged.1) means);
}
