-- Literals: one byte that is escaped, or a run of others.
use Rattle.std.proofs.Common.{ℕ, ◌≡◌, ◌⊎◌, ◌&&◌, inl, inr, cond, not, Bool, true, false, [], ◌∷◌, ◌++◌, Option, Some, None, refl, sym, ap, ◌∙◌, append_assoc, arith}
use Rattle.std.specs.List.{list_all}
use Rattle.std.proofs.lemmas.Bool.{and_parts, both_ways, false≢true}
use Rattle.std.proofs.lemmas.Bool.Decides.{nat_tests}
use Rattle.timefd_lang_component.specs.Tree.{Text}
use Rattle.timefd_language.specs.declared.description_version.DescriptionVersion.TheVariants.{Three}
use Rattle.timefd_language.specs.Bytes.{backslash, is_special, is_run_byte, OneOrMore, StopsBefore}
use Rattle.timefd_language.specs.Cut.{IsCut}
use Rattle.timefd_lang_convert.specs.declared.printing.error.Unspelled.{Unspelled}
use Rattle.timefd_lang_convert.specs.declared.printing.error.Unspelled.TheVariants.{MixedLiteral, NeighbouringLiterals}
use Rattle.timefd_lang_convert.specs.Printing.Printed.{escaped}
use Rattle.timefd_lang_convert.specs.Printing.Reasons.{is_escape, is_plain, literal_reason}

not_special : (b : ℕ) → is_run_byte Three b ≡ true → is_special b ≡ false
not_special b e = grind (arith, nat_tests)

pub plain_step : (b : ℕ) (bytes : Text) → is_special b ≡ false
    → escaped (b ∷ bytes) ≡ b ∷ escaped bytes
plain_step b bytes e = ap (λ t. cond t (backslash ∷ b ∷ escaped bytes) (b ∷ escaped bytes)) e

pub special_step : (b : ℕ) (bytes : Text) → is_special b ≡ true
    → escaped (b ∷ bytes) ≡ backslash ∷ b ∷ escaped bytes
special_step b bytes e = ap (λ t. cond t (backslash ∷ b ∷ escaped bytes) (b ∷ escaped bytes)) e

-- a front that needs no escape
pub plain_front : (front rest : Text) → is_plain front ≡ true
    → escaped (front ++ rest) ≡ front ++ escaped rest
plain_front [] rest e = refl
plain_front (b ∷ front) rest e =
    let p = and_parts (is_run_byte Three b) (is_plain front) e in
    plain_step b (front ++ rest) (not_special b p.0) ∙
    ap (λ x. b ∷ x) (plain_front front rest p.1)

pub plain_escaped : (bytes : Text) → is_plain bytes ≡ true → escaped bytes ≡ bytes
plain_escaped [] e = refl
plain_escaped (b ∷ bytes) e =
    let p = and_parts (is_run_byte Three b) (is_plain bytes) e in
    plain_step b bytes (not_special b p.0) ∙ ap (λ x. b ∷ x) (plain_escaped bytes p.1)

abbrev pub is_end : Text → Bool
is_end [] = true
is_end (b ∷ bytes) = false

-- What a literal is, if there is no reason against it.

escape_is : (bytes : Text) → is_escape bytes ≡ true
    → (b : ℕ) × (bytes ≡ b ∷ []) × (is_special b ≡ true)
escape_is [] e = absurd (false≢true e)
escape_is (b ∷ []) e = (b, refl, e)
escape_is (b ∷ c ∷ bytes) e = absurd (false≢true e)

chosen : (escape plain after_run : Bool)
    → cond escape None (cond (not plain) (Some MixedLiteral) (cond after_run
    (Some NeighbouringLiterals) None)) ≡ None
    → (escape ≡ true) ⊎ ((escape ≡ false) × (plain ≡ true) × (after_run ≡ false))
chosen true plain after_run e = inl refl
chosen false false after_run e = absurd cc
chosen false true true e = absurd cc
chosen false true false e = inr (refl, refl, refl)

abbrev pub IsEscape : Text → Type 0
IsEscape bytes = (b : ℕ) × (bytes ≡ b ∷ []) × (is_special b ≡ true)

pub record IsRun (after_run : Bool) (bytes : Text) : Type 0 where
  pub some : OneOrMore (is_run_byte Three) bytes
  pub plain : is_plain bytes ≡ true
  pub no_escape : is_escape bytes ≡ false
  pub first : after_run ≡ false

pub literal_is : (after_run : Bool) (bytes : Text) → literal_reason after_run bytes ≡ None
    → IsEscape bytes ⊎ IsRun after_run bytes
literal_is after_run [] e = absurd cc
literal_is after_run (b ∷ bytes) e =
    by (chosen (is_escape (b ∷ bytes)) (is_plain (b ∷ bytes)) after_run e)
  where
    by : (is_escape (b ∷ bytes) ≡ true) ⊎ ((is_escape (b ∷ bytes) ≡ false)
        × (is_plain (b ∷ bytes) ≡ true) × (after_run ≡ false))
        → IsEscape (b ∷ bytes) ⊎ IsRun after_run (b ∷ bytes)
    by (inl escape) = inl (escape_is (b ∷ bytes) escape)
    by (inr run) = inr (record {
      some = run.1;
      plain = run.1;
      no_escape = run.0;
      first = run.2;
    })

-- Literals of a text.

pub escape_none : (after_run : Bool) (b : ℕ) → is_special b ≡ true
    → literal_reason after_run (b ∷ []) ≡ None
escape_none after_run b e =
    ap (λ t. cond t None (cond (not (is_plain (b ∷ []))) (Some MixedLiteral) (cond after_run
    (Some NeighbouringLiterals) None))) e

-- a run isn't an escape
pub run_no_escape : (bytes : Text) → OneOrMore (is_run_byte Three) bytes → is_escape bytes ≡ false
run_no_escape [] some = absurd some
run_no_escape (b ∷ []) some =
    not_special b (and_parts (is_run_byte Three b) true some).0
run_no_escape (b ∷ c ∷ bytes) some = refl

pub run_none : (bytes : Text) → OneOrMore (is_run_byte Three) bytes
    → literal_reason false bytes ≡ None
run_none [] some = absurd some
run_none (b ∷ bytes) some =
    rw (run_no_escape (b ∷ bytes) some, some) refl

-- Cuts.

append_all : (test : ℕ → Bool) (front rest : Text) → list_all test front ≡ true
    → list_all test (front ++ rest) ≡ list_all test rest
append_all test [] rest e = refl
append_all test (b ∷ front) rest e =
    let p = and_parts (test b) (list_all test front) e in
    ap (λ t. t && list_all test (front ++ rest)) p.0 ∙ append_all test front rest p.1

-- if the text is plain, no front of it is left out
pub cut_plain : (text front rest : Text) (t : Bool) → IsCut (is_run_byte Three) text front rest
    → t ≡ is_end rest → t ≡ is_plain text
cut_plain text front rest t cut is =
    is ∙ by rest cut.stops ∙ sym (append_all (is_run_byte Three) front rest cut.passes)
    ∙ ap is_plain (sym cut.whole)
  where
    by : (bytes : Text) → StopsBefore (is_run_byte Three) bytes → is_end bytes ≡ is_plain bytes
    by [] stops = refl
    by (b ∷ bytes) stops = ap (λ x. x && is_plain bytes) (sym stops)

-- if no escape follows a cut, nothing does
pub nothing_left : (rest : Text) → StopsBefore (is_run_byte Three) rest
    → StopsBefore is_special rest → rest ≡ []
nothing_left [] run special = refl
nothing_left (b ∷ rest) run special = absurd (both_ways (is_run_byte Three b) run (no_escape b special))
  where
    no_escape : (c : ℕ) → is_special c ≡ false → is_run_byte Three c ≡ true
    no_escape c e = grind (arith, nat_tests)

-- a cut at the front, and what is left
pub cut_written : (text front rest : Text) → IsCut (is_run_byte Three) text front rest
    → escaped text ≡ front ++ escaped rest
cut_written text front rest cut = ap escaped cut.whole ∙ plain_front front rest cut.passes

-- the front is written
pub begun : (old new text front rest : Text) → IsCut (is_run_byte Three) text front rest
    → new ≡ old ++ front → new ++ escaped rest ≡ old ++ escaped text
begun old new text front rest cut one =
    ap (λ x. x ++ escaped rest) one ∙ append_assoc old front (escaped rest)
    ∙ ap (λ x. old ++ x) (sym (cut_written text front rest cut))

-- an escape and the front after it are written
pub one_escape : (old first second new whole rest special after front last : Text) (b : ℕ)
    → is_special b ≡ true → special ≡ b ∷ [] → rest ≡ b ∷ after
    → IsCut (is_run_byte Three) after front last → first ≡ old ++ backslash ∷ []
    → second ≡ first ++ special → new ≡ second ++ front → old ++ escaped rest ≡ whole
    → new ++ escaped last ≡ whole
one_escape old first second new whole rest special after front last b is one text cut a bb c so_far =
    begun second new after front last cut c
    ∙ ap (λ x. x ++ escaped after) (bb ∙ ap (λ x. x ++ special) a
    ∙ ap (λ x. (old ++ backslash ∷ []) ++ x) one
    ∙ append_assoc old (backslash ∷ []) (b ∷ []))
    ∙ append_assoc old (backslash ∷ b ∷ []) (escaped after)
    ∙ ap (λ x. old ++ x) (sym (special_step b after is) ∙ ap escaped (sym text)) ∙ so_far
