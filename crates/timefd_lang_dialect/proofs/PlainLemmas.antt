-- A run of literal bytes.
use Rattle.std.proofs.Common.{ℕ, zero, suc, ◌≡◌, ◌+◌, ◌<◌, ◌≤◌, ◌==◌, cond, Bool, true, false, List, [], ◌∷◌, ◌++◌, length, length-append, length-drop, take, drop, take-append-drop, None, refl, sym, ap, ◌∙◌, subst, inl, inr, arith, IsUtf8}
use Rattle.std.specs.Prelude.{◌&&◌, not}
use Rattle.std.specs.List.{prefix_len}
use Rattle.std.specs.Str.{IsCharBoundary}
use Rattle.std.proofs.lemmas.Bool.{cases_Bool, cases_lt, and_parts}
use Rattle.std.proofs.lemmas.Bool.Decides.{nat_tests}
use Rattle.std.proofs.lemmas.List.{take-append-le, drop-append-le}
use Rattle.std.proofs.lemmas.List.Sums.{prefix_len-le-length, prefix_len_stops}
use Rattle.std.proofs.lemmas.Str.{IsUtf8-drop}
use Rattle.timefd_lang_component.specs.Tree.{Text}
use Rattle.timefd_language.specs.Bytes.{is_special, left, ZeroOrMore, StopsBefore}
use Rattle.timefd_lang_dialect.specs.declared.dialect.Dialect.{Dialect}
use Rattle.timefd_lang_dialect.specs.declared.dialect.Dialect.TheVariants.{Python, C, Gnu, Chrono, Jiff, Ruby, Java, Go, Moment}
use Rattle.timefd_lang_dialect.specs.declared.front.FrontStep.{FrontStep}
use Rattle.timefd_lang_dialect.specs.declared.limits.Limits.{Limits}
use Rattle.timefd_lang_dialect.specs.declared.row.Range.TheVariants.{Years0To9999}
use Rattle.timefd_lang_dialect.specs.Dialects.{quoting_of}
use Rattle.timefd_lang_dialect.specs.Limits.{narrowed, limits_from}
use Rattle.timefd_lang_dialect.specs.Plain.{is_plain}
use Rattle.timefd_lang_dialect.specs.Quotes.{escaped, continues, char_len, apostrophe}
use Rattle.timefd_lang_dialect.specs.Reading.{Piece, Front, piece, literal, front_quote, front_row, front_of, Leads, text_of}
use Rattle.timefd_lang_dialect.specs.Rows.{Entry, stands, longest}
use Rattle.timefd_lang_dialect.specs.Steps.{TakesAll}
use Rattle.timefd_lang_dialect.specs.Tables.{rows_of}
use Rattle.timefd_lang_dialect.specs.Python.{python_groups}
use Rattle.timefd_lang_dialect.specs.C.{c_groups}
use Rattle.timefd_lang_dialect.specs.CPadded.{c_padded}
use Rattle.timefd_lang_dialect.specs.CMarked.{c_marked}
use Rattle.timefd_lang_dialect.specs.Gnu.{gnu_groups}
use Rattle.timefd_lang_dialect.specs.GnuPadded.{gnu_padded}
use Rattle.timefd_lang_dialect.specs.GnuMarked.{gnu_marked}
use Rattle.timefd_lang_dialect.specs.Chrono.{chrono_groups}
use Rattle.timefd_lang_dialect.specs.Jiff.{jiff_groups}
use Rattle.timefd_lang_dialect.specs.JiffPadded.{jiff_padded}
use Rattle.timefd_lang_dialect.specs.JiffMarked.{jiff_marked}
use Rattle.timefd_lang_dialect.specs.Ruby.{ruby_groups}
use Rattle.timefd_lang_dialect.specs.RubyPadded.{ruby_padded}
use Rattle.timefd_lang_dialect.specs.RubyMarked.{ruby_marked}
use Rattle.timefd_lang_dialect.specs.Java.{java_groups}
use Rattle.timefd_lang_dialect.specs.JavaRefused.{java_refused}
use Rattle.timefd_lang_dialect.specs.Go.{go_groups}
use Rattle.timefd_lang_dialect.specs.Moment.{moment_groups}
use Rattle.timefd_lang_dialect.specs.MomentEscaped.{moment_escaped}
use Rattle.timefd_lang_dialect.proofs.RowLemmas.{all_pass, row_stands}

-- No row begins with a literal byte.

abbrev begins_plain : (ℕ → Bool) → Text → Bool
begins_plain test [] = true
begins_plain test (b ∷ bytes) = test b

abbrev is_marked : Dialect → Entry → Bool
is_marked dialect row = not (begins_plain (is_plain dialect) row.text)

all_marked : (dialect : Dialect) → all_pass (is_marked dialect) (rows_of dialect) ≡ true
unfolding python_groups c_groups c_padded c_marked gnu_groups gnu_padded gnu_marked chrono_groups
    jiff_groups jiff_padded jiff_marked ruby_groups ruby_padded ruby_marked java_groups java_refused
    go_groups moment_groups moment_escaped
all_marked Python = refl
all_marked C = refl
all_marked Gnu = refl
all_marked Chrono = refl
all_marked Jiff = refl
all_marked Ruby = refl
all_marked Java = refl
all_marked Go = refl
all_marked Moment = refl

not_begun : (dialect : Dialect) (b : ℕ) (own after rest : Text) → b ∷ rest ≡ own ++ after
    → not (begins_plain (is_plain dialect) own) ≡ true → ¬ (is_plain dialect b ≡ true)
not_begun dialect b [] after rest e marked plain = cc
not_begun dialect b (c ∷ own) after rest e marked plain =
    differ (is_plain dialect c) (subst (λ x. is_plain dialect x ≡ true) (first e) plain) marked
  where
    first : b ∷ rest ≡ c ∷ own ++ after → b ≡ c
    first e = cc

    differ : (t : Bool) → t ≡ true → ¬ (not t ≡ true)
    differ true is e = cc
    differ false is e = cc

none_from : (dialect : Dialect) (b : ℕ) (rest : Text) (rows : List Entry)
    → all_pass (is_marked dialect) rows ≡ true → is_plain dialect b ≡ true
    → longest rows (b ∷ rest) ≡ None
none_from dialect b rest [] pass plain = refl
none_from dialect b rest (row ∷ rows) pass plain =
    let p = and_parts (is_marked dialect row) _ pass in
    elim (cases_Bool (stands row (b ∷ rest))) [
      | inl is ↦ absurd (not_begun dialect b row.text (drop (length row.text) (b ∷ rest)) rest
          (row_stands row (b ∷ rest) is) p.0 plain)
      | inr not ↦ rw not (none_from dialect b rest rows p.1 plain)
    ]

no_row : (dialect : Dialect) (b : ℕ) (rest : Text) → is_plain dialect b ≡ true
    → longest (rows_of dialect) (b ∷ rest) ≡ None
no_row dialect b rest plain =
    none_from dialect b rest (rows_of dialect) (all_marked dialect) plain

-- No quotation begins with a literal byte.

plain_is_not_special : (dialect : Dialect) (b : ℕ) → is_plain dialect b ≡ true
    → is_special b ≡ false
plain_is_not_special dialect b e = by (is_special b) _ e
  where
    by : (s t : Bool) → not s && t ≡ true → s ≡ false
    by true t e = cc
    by false t e = refl

no_apostrophe : (b : ℕ) → is_plain Java b ≡ true → (b == apostrophe) ≡ false
no_apostrophe b e = grind (arith, nat_tests)

no_bracket : (b : ℕ) → is_special b ≡ false → (b == left) ≡ false
no_bracket b e = grind (arith, nat_tests)

no_quote : (dialect : Dialect) (b : ℕ) (rest : Text) (other : Front) → is_plain dialect b ≡ true
    → front_quote (quoting_of dialect) b rest other ≡ other
no_quote Python b rest other e = refl
no_quote C b rest other e = refl
no_quote Gnu b rest other e = refl
no_quote Chrono b rest other e = refl
no_quote Jiff b rest other e = refl
no_quote Ruby b rest other e = refl
no_quote Java b rest other e = rw (no_apostrophe b e) refl
no_quote Go b rest other e = refl
no_quote Moment b rest other e = rw (no_bracket b (plain_is_not_special Moment b e)) refl

-- so it begins a literal character
plain_front : (dialect : Dialect) (b : ℕ) (rest : Text) → is_plain dialect b ≡ true
    → front_of dialect (b ∷ rest)
    ≡ piece (literal (take (char_len (b ∷ rest)) (b ∷ rest))) (drop (char_len (b ∷ rest)) (b ∷ rest))
plain_front dialect b rest e =
    no_quote dialect b rest _ e
    ∙ ap (λ o. front_row o (b ∷ rest)) (no_row dialect b rest e)

-- A run ends where a character ends.

high_is_plain : (dialect : Dialect) (b : ℕ) → 128 ≤ b → b < 192 → is_plain dialect b ≡ true
high_is_plain Python b low high = grind (arith, nat_tests)
high_is_plain C b low high = grind (arith, nat_tests)
high_is_plain Gnu b low high = grind (arith, nat_tests)
high_is_plain Chrono b low high = grind (arith, nat_tests)
high_is_plain Jiff b low high = grind (arith, nat_tests)
high_is_plain Ruby b low high = grind (arith, nat_tests)
high_is_plain Java b low high = grind (arith, nat_tests)
high_is_plain Go b low high = grind (arith, nat_tests)
high_is_plain Moment b low high = grind (arith, nat_tests)

not_plain : (dialect : Dialect) (b : ℕ) → is_plain dialect b ≡ false → 128 ≤ b → 192 ≤ b
not_plain dialect b e low = elim (cases_lt b 192) [
  | inl high ↦ absurd (differ (is_plain dialect b) (high_is_plain dialect b low high) e)
  | inr past ↦ past
]
  where
    differ : (t : Bool) → t ≡ true → ¬ (t ≡ false)
    differ t is e = cc

pub plain_boundary : (dialect : Dialect) (text : Text) (n : ℕ)
    → n ≡ prefix_len (is_plain dialect) text → IsCharBoundary text n
plain_boundary dialect text n is = rw is (
  prefix_len-le-length (is_plain dialect) text,
  λ below high. not_plain dialect _ (prefix_len_stops (is_plain dialect) text 0 below) high,
)

pub plain_utf8 : (dialect : Dialect) (text rest : Text) (n : ℕ)
    → n ≡ prefix_len (is_plain dialect) text → IsUtf8 text → rest ≡ drop n text → IsUtf8 rest
plain_utf8 dialect text rest n is utf8 e =
    rw e (IsUtf8-drop text n utf8 (plain_boundary dialect text n is))

continuing_is_plain : (dialect : Dialect) (b : ℕ) → is_plain dialect b ≡ false
    → continues b ≡ false
continuing_is_plain dialect b e = elim (cases_Bool (continues b)) [
  | inl is ↦ absurd (differ (is_plain dialect b) (high_is_plain dialect b (low b is) (high b is)) e)
  | inr not ↦ not
]
  where
    low : (b : ℕ) → continues b ≡ true → 128 ≤ b
    low b is = grind (arith, nat_tests)

    high : (b : ℕ) → continues b ≡ true → b < 192
    high b is = grind (arith, nat_tests)

    differ : (t : Bool) → t ≡ true → ¬ (t ≡ false)
    differ t is e = cc

stops_continuing : (dialect : Dialect) (rest : Text) → StopsBefore (is_plain dialect) rest
    → StopsBefore continues rest
stops_continuing dialect [] stops = tt
stops_continuing dialect (b ∷ rest) stops = continuing_is_plain dialect b stops

prefix_of_front : (test : ℕ → Bool) (front rest : Text) → StopsBefore test rest
    → prefix_len test (front ++ rest) ≡ prefix_len test front
prefix_of_front test [] [] stops = refl
prefix_of_front test [] (b ∷ rest) stops = rw stops refl
prefix_of_front test (b ∷ front) rest stops = by (test b) (prefix_of_front test front rest stops)
  where
    by : (t : Bool) → prefix_len test (front ++ rest) ≡ prefix_len test front
        → cond t (1 + prefix_len test (front ++ rest)) 0 ≡ cond t (1 + prefix_len test front) 0
    by true e = ap (λ n. 1 + n) e
    by false e = refl

-- A run is pieces that write the bytes of the run.

record Run (dialect : Dialect) (run rest : Text) : Type 0 where
  pieces : List Piece
  leads : Leads dialect (run ++ rest) pieces rest
  written : text_of pieces ≡ run
  within : (limits : Limits) → limits_from limits pieces ≡ limits

plain_escaped : (dialect : Dialect) (run : Text) → ZeroOrMore (is_plain dialect) run
    → escaped run ≡ run
plain_escaped dialect [] all = refl
plain_escaped dialect (b ∷ run) all =
    let p = and_parts (is_plain dialect b) _ all in
    rw (plain_is_not_special dialect b p.0) (ap (λ x. b ∷ x) (plain_escaped dialect run p.1))

taken_plain : (test : ℕ → Bool) (n : ℕ) (run : Text) → ZeroOrMore test run
    → ZeroOrMore test (take n run)
taken_plain test zero run all = refl
taken_plain test (suc n) [] all = refl
taken_plain test (suc n) (b ∷ run) all =
    let p = and_parts (test b) _ all in rw p.0 (taken_plain test n run p.1)

dropped_plain : (test : ℕ → Bool) (n : ℕ) (run : Text) → ZeroOrMore test run
    → ZeroOrMore test (drop n run)
dropped_plain test zero run all = all
dropped_plain test (suc n) [] all = refl
dropped_plain test (suc n) (b ∷ run) all = dropped_plain test n run (and_parts (test b) _ all).1

-- the first character of a run
first_char : (dialect : Dialect) (b : ℕ) (run rest : Text) (k : ℕ)
    → is_plain dialect b ≡ true → k ≡ prefix_len continues run → StopsBefore continues rest
    → front_of dialect (b ∷ run ++ rest) ≡ piece (literal (b ∷ take k run)) (drop k run ++ rest)
first_char dialect b run rest k plain is stops =
    plain_front dialect b (run ++ rest) plain ∙ cut
  where
    len : char_len (b ∷ run ++ rest) ≡ suc k
    len = omega (arith, ap (λ n. 1 + n) (prefix_of_front continues run rest stops), is)

    within : k ≤ length run
    within = omega (arith, is, prefix_len-le-length continues run)

    cut : piece (literal (take (char_len (b ∷ run ++ rest)) (b ∷ run ++ rest)))
        (drop (char_len (b ∷ run ++ rest)) (b ∷ run ++ rest))
        ≡ piece (literal (b ∷ take k run)) (drop k run ++ rest)
    cut = ap (λ n. piece (literal (take n (b ∷ run ++ rest))) (drop n (b ∷ run ++ rest))) len
        ∙ ap (λ x. piece (literal (b ∷ x)) (drop k (run ++ rest))) (take-append-le k run rest within)
        ∙ ap (λ x. piece (literal (b ∷ take k run)) x) (drop-append-le k run rest within)

run_within : (n : ℕ) (dialect : Dialect) (run rest : Text) → length run ≤ n
    → ZeroOrMore (is_plain dialect) run → StopsBefore (is_plain dialect) rest
    → Run dialect run rest
run_within n dialect [] rest le all stops =
    record { pieces = []; leads = refl; written = refl; within = λ limits. refl }
run_within zero dialect (b ∷ run) rest le all stops = absurd (omega (arith, le))
run_within (suc n) dialect (b ∷ run) rest le all stops =
    let k = prefix_len continues run in
    let p = and_parts (is_plain dialect b) _ all in
    let more = run_within n dialect (drop k run) rest (omega (arith, le, length-drop k run))
    (dropped_plain (is_plain dialect) k run p.1) stops in
    let front = b ∷ take k run in
    record {
      pieces = literal front ∷ more.pieces;
      leads = (
        drop k run ++ rest,
        first_char dialect b run rest k p.0 refl (stops_continuing dialect rest stops),
        more.leads,
      );
      written =
          ap (λ x. x ++ text_of more.pieces) (plain_escaped dialect front
          (rw p.0 (taken_plain (is_plain dialect) k run p.1)))
          ∙ ap (λ x. front ++ x) more.written
          ∙ ap (λ x. b ∷ x) (take-append-drop k run);
      within = more.within;
    }

pub run_taken : (dialect : Dialect) (text run rest old new : Text) (step : FrontStep)
    → text ≡ run ++ rest → ZeroOrMore (is_plain dialect) run
    → StopsBefore (is_plain dialect) rest → IsUtf8 rest → 0 < length run → new ≡ old ++ run
    → step.rest.now ≡ rest → step.range ≡ Years0To9999 → TakesAll dialect text old new step
run_taken dialect text run rest old new step whole all stops utf8 some is step_rest step_range =
    let found = run_within (length run) dialect run rest (omega arith) all stops in
    record {
      taken = found.pieces;
      leads = rw (whole, step_rest) found.leads;
      appended = is ∙ ap (λ x. old ++ x) (sym found.written);
      range = λ limits. found.within limits ∙ ap (λ r. narrowed r limits) (sym step_range);
      left = rw (whole, step_rest) (record { shorter = shorter run rest some; utf8 = utf8 });
    }
  where
    shorter : (a b : Text) → 0 < length a → length b < length (a ++ b)
    shorter a b some = omega (arith, length-append a b, some)
