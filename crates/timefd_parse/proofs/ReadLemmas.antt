-- Pieces, read one at a time.
use Rattle.std.proofs.Common.{◌≡◌, ℕ, ◌+◌, ◌<◌, ◌≤◌, Bool, List, [], ◌∷◌, ◌++◌, length, get_or, take, drop, IsTrue, IsFalse, IsUtf8, refl, sym, ap, ◌∙◌, subst, arith, append_assoc, append-nil, length-append}
use Rattle.std.specs.List.{list_all}
use Rattle.std.proofs.lemmas.Bool.{and_parts, true≢false}
use Rattle.std.proofs.lemmas.Str.{IsUtf8-drop, IsCharBoundary-after_ascii}
use Rattle.std.specs.Str.{IsCharBoundary}
use Rattle.timefd_language.specs.declared.description_version.DescriptionVersion.{DescriptionVersion}
use Rattle.timefd_language.specs.declared.description_version.DescriptionVersion.TheVariants.{One, Two, Three}
use Rattle.timefd_lang_fault.specs.declared.read_error.Fault as code_fault
use Rattle.timefd_lang_fault.specs.declared.read_error.ReadError.{ReadError}
use Rattle.timefd_lang_fault.specs.declared.read_error.ReadError.TheVariants as errors
use Rattle.timefd_lang_component.specs.Tree.{Text, Tree, literal}
use Rattle.timefd_lang_fault.specs.Faults.{fault}
use Rattle.timefd_language.specs.Bytes.{left, right, backslash, is_special, is_run_byte, is_version_one, is_version_three, OneOrMore, StopsBefore}
use Rattle.timefd_lang_fault.specs.Words.{expected_escape, expected_closing_escape}
use Rattle.timefd_language.specs.Grammar.{Pieces, no_pieces, run, escape, closing, bracket, ArePieces, BeginsNoRun, IsEscape, spelling, items}
use Rattle.timefd_language.specs.Broken.{bare_closing, half_escape, broken_fault, escape_index}
use Rattle.timefd_language.specs.Cut.{IsCut}
use Rattle.timefd_parse.specs.Pieces.{IsBuilt}
use Rattle.timefd_lang_fault.specs.RuleKinds.{rule_kind}
use Rattle.timefd_lang_fault.specs.ReadErrors.{IsFault, MemoryOr}
use Rattle.timefd_language.specs.FaultMeaning.{IsFaultAt}
use Rattle.timefd_parse.specs.Read.{Leads, LeadsOn, IsFaultIn, PiecesToEnd, AreMembers, IsEnd, BeginsRun}

-- Runs.

begins_no_run : (v : DescriptionVersion) (limit n : ℕ) (front : Pieces) (rest tail : Text)
    → ArePieces v limit n front → rest ≡ spelling front ++ tail → StopsBefore (is_run_byte v) rest
    → BeginsNoRun front
begins_no_run v limit n no_pieces rest tail are e stops = tt
begins_no_run v limit n (run [] front) rest tail are e stops = absurd are.0
begins_no_run v limit n (run (b ∷ bytes) front) rest tail are e stops =
    absurd (true≢false (sym (and_parts (is_run_byte v b) (list_all (is_run_byte v) bytes) are.0).0 ∙
    subst (StopsBefore (is_run_byte v)) e stops))
begins_no_run v limit n (escape a b front) rest tail are e stops = tt
begins_no_run v limit n (closing front) rest tail are e stops = tt
begins_no_run v limit n (bracket h ns white tree front) rest tail are e stops = tt

run_some : (v : DescriptionVersion) (text front rest : Text) (b : ℕ) (more : Text)
    → IsCut (is_run_byte v) text front rest → text ≡ b ∷ more → IsTrue (is_run_byte v b)
    → OneOrMore (is_run_byte v) front
run_some v text [] rest b more is e passes =
    absurd (true≢false (sym passes ∙ subst (StopsBefore (is_run_byte v)) (sym is.whole ∙ e)
    is.stops))
run_some v text (c ∷ front) rest b more is e passes = is.passes

some_length : (test : ℕ → Bool) (front : Text) → OneOrMore test front → 0 < length front
some_length test [] some = absurd some
some_length test (b ∷ front) some = omega arith

pub run_leads : (v : DescriptionVersion) (limit n : ℕ) (text bytes rest : Text)
    → IsCut (is_run_byte v) text bytes rest → BeginsRun v text → IsUtf8 rest
    → LeadsOn v limit n text (literal bytes) rest
run_leads v limit n text bytes rest is begins utf8 =
    let some = run_some v text bytes rest begins.0 begins.1 is begins.2 begins.3 in
    record {
      leads = λ front tail are f. (
        run bytes front,
        (some, begins_no_run v limit n front rest tail are f is.stops, are),
        is.whole ∙ ap (λ t. bytes ++ t) f ∙ sym (append_assoc bytes (spelling front) tail),
        refl,
      );
      shorter = omega (
        arith,
        ap length is.whole,
        length-append bytes rest,
        some_length (is_run_byte v) bytes some,
      );
      utf8 = utf8;
    }

-- Versions.

pub not_one : (v : DescriptionVersion) → (v ≡ One → ⊥) → IsFalse (is_version_one v)
not_one One other = absurd (other refl)
not_one Two other = refl
not_one Three other = refl

pub not_three : (v : DescriptionVersion) → (v ≡ Three → ⊥) → IsFalse (is_version_three v)
not_three One other = refl
not_three Two other = refl
not_three Three other = absurd (other refl)

-- Escapes.

pub escape_leads : (v : DescriptionVersion) (limit n : ℕ) (text : Text) (a b : ℕ)
    (special rest : Text) → IsEscape v a b → special ≡ b ∷ [] → text ≡ a ∷ b ∷ rest → IsUtf8 rest
    → LeadsOn v limit n text (literal special) rest
escape_leads v limit n text a b special rest is s e utf8 = record {
  leads = λ front tail are f. (
    escape a b front,
    (is, are),
    e ∙ ap (λ t. a ∷ b ∷ t) f,
    ap (λ t. literal t ∷ items front) (sym s),
  );
  shorter = omega (arith, ap length e);
  utf8 = utf8;
}

pub special_escape : (v : DescriptionVersion) (b : ℕ) → IsFalse (is_version_one v)
    → IsTrue (is_special b) → IsEscape v backslash b
special_escape One b later is = absurd (true≢false later)
special_escape Two b later is = (refl, is)
special_escape Three b later is = (refl, is)

pub escape_fault : (v : DescriptionVersion) (limit n : ℕ) (text after : Text) (f : code_fault.Fault)
    → IsFalse (is_version_one v) → text ≡ backslash ∷ after → StopsBefore is_special after
    → IsFault (1 + length after) f (fault expected_escape (escape_index after))
    → IsFaultAt v limit n text f
escape_fault v limit n text after f later e stops is = (
  half_escape after,
  (later, stops),
  e,
  record { kind = is.kind; position = omega (arith, is.position, ap length e) },
)

pub escape_none : (text : Text) → length text ≡ 0 → escape_index text ≡ 0
escape_none [] e = refl
escape_none (b ∷ text) e = absurd (omega arith)

pub escape_some : (text : Text) → (length text ≡ 0 → ⊥) → escape_index text ≡ 1
escape_some [] e = absurd (e refl)
escape_some (b ∷ text) e = refl

-- A `]` that closes nothing.

pub closing_leads : (v : DescriptionVersion) (limit : ℕ) (text special rest : Text)
    → IsFalse (is_version_three v) → special ≡ right ∷ [] → text ≡ right ∷ rest → IsUtf8 rest
    → LeadsOn v limit 0 text (literal special) rest
closing_leads v limit text special rest earlier s e utf8 = record {
  leads = λ front tail are f. (
    closing front,
    (earlier, refl, are),
    e ∙ ap (λ t. right ∷ t) f,
    ap (λ t. literal t ∷ items front) (sym s),
  );
  shorter = omega (arith, ap length e);
  utf8 = utf8;
}

pub closing_fault : (limit : ℕ) (text rest : Text) (f : code_fault.Fault) → text ≡ right ∷ rest
    → IsFault (length text) f (fault expected_closing_escape 0) → IsFaultAt Three limit 0 text f
closing_fault limit text rest f e is = (bare_closing rest, (refl, refl), e, is)

pub closing_fault_of : (v : DescriptionVersion) (limit : ℕ) (text rest : Text)
    (f : code_fault.Fault) → v ≡ Three → text ≡ right ∷ rest
    → expected_closing_escape ≡ rule_kind f.rule → f.remaining ≡ length text
    → IsFaultAt v limit 0 text f
closing_fault_of v limit text rest f is e kind at =
    subst (λ w. IsFaultAt w limit 0 text f) (sym is)
    (closing_fault limit text rest f e (record { kind = kind; position = omega (arith, at) }))

-- cutting after a first byte that is ASCII

pub after_first : (text : Text) (b : ℕ) (rest : Text) → text ≡ b ∷ rest → b < 128 → IsUtf8 text
    → IsCharBoundary text 1
after_first text b rest e ascii utf8 =
    IsCharBoundary-after_ascii text 0 utf8 (omega (arith, ap length e))
    (subst (λ t. get_or t 0 0 < 128) (sym e) ascii)

pub first_is : (text front : Text) (b : ℕ) (rest : Text) → text ≡ b ∷ rest → front ≡ take 1 text
    → front ≡ b ∷ []
first_is text front b rest e f = f ∙ ap (take 1) e

pub utf8_after_first : (text : Text) (b : ℕ) (rest : Text) → text ≡ b ∷ rest → b < 128
    → IsUtf8 text → IsUtf8 (drop 1 text)
utf8_after_first text b rest e ascii utf8 =
    IsUtf8-drop text 1 utf8 (after_first text b rest e ascii utf8)

pub utf8_after : (text : Text) (b : ℕ) (rest : Text) → text ≡ b ∷ rest → b < 128 → IsUtf8 text
    → IsUtf8 rest
utf8_after text b rest e ascii utf8 =
    subst IsUtf8 (ap (drop 1) e) (utf8_after_first text b rest e ascii utf8)

pub rest_is : (text back : Text) (b : ℕ) (rest : Text) → text ≡ b ∷ rest → back ≡ drop 1 text
    → text ≡ b ∷ back
rest_is text back b rest e f = e ∙ ap (λ t. b ∷ t) (sym (ap (drop 1) e) ∙ sym f)

-- What was read of a text so far: what the rest begins with, the text has after the trees.
abbrev pub Continues : DescriptionVersion → ℕ → ℕ → Text → List Tree → Text → Type 0
Continues v limit n text done rest =
    (front : Pieces) (tail : Text) → ArePieces v limit n front → rest ≡ spelling front ++ tail
    → (whole : Pieces) × ArePieces v limit n whole × (text ≡ spelling whole ++ tail)
    × (items whole ≡ done ++ items front)

pub continues_first : (v : DescriptionVersion) (limit n : ℕ) (text : Text)
    → Continues v limit n text [] text
continues_first v limit n text = λ front tail are e. (front, are, e, refl)

pub continues_more : (v : DescriptionVersion) (limit n : ℕ) (text : Text) (done : List Tree)
    (rest after : Text) (tree : Tree) → Continues v limit n text done rest
    → Leads v limit n rest tree after → Continues v limit n text (done ++ tree ∷ []) after
continues_more v limit n text done rest after tree before leads = λ front tail are e.
    let a = leads front tail are e in
    let w = before a.0 tail a.1 a.2 in (
      w.0,
      w.1,
      w.2,
      w.3 ∙ ap (λ ts. done ++ ts) a.3 ∙
          sym (append_assoc done (tree ∷ []) (items front)),
    )

pub items_end : (v : DescriptionVersion) (limit n : ℕ) (text rest : Text) (done : List Tree)
    → Continues v limit n text done rest → IsEnd n rest → PiecesToEnd v limit n text done rest
items_end v limit n text rest done before end =
    let w = before no_pieces rest tt refl in
    (w.0, w.1, w.2, w.3 ∙ append-nil done, end)

-- all members, with what is built
pub members_end : (v : DescriptionVersion) (builds : Bool) (limit n : ℕ) (text rest : Text)
    (done old built new : List Tree) (count : ℕ) → Continues v limit n text done rest → IsEnd n rest
    → count ≡ length done → IsBuilt builds old built done → new ≡ built
    → AreMembers v builds limit n text old new count rest
members_end v builds limit n text rest done old built new count before end counted are same =
    (done, items_end v limit n text rest done before end, counted, λ on. same ∙ are on)

pub items_fault : (v : DescriptionVersion) (limit n : ℕ) (text rest : Text) (done : List Tree)
    (f : code_fault.Fault) → Continues v limit n text done rest → IsFaultAt v limit n rest f
    → IsFaultIn v limit n text f
items_fault v limit n text rest done f before bad =
    let w = before no_pieces rest tt refl in (
      w.0,
      bad.0,
      w.1,
      bad.1,
      w.2 ∙ ap (λ t. spelling w.0 ++ t) bad.2,
      subst (λ t. IsFault (length t) f (broken_fault bad.0)) bad.2 bad.3,
    )

pub end_outside : (rest : Text) → IsEnd 0 rest → rest ≡ []
end_outside [] end = refl
end_outside (b ∷ rest) end = absurd (omega (arith, end.1))

pub memory_or : (P Q : code_fault.Fault → Type 0) → ((f : code_fault.Fault) → P f → Q f)
    → (e : ReadError) → MemoryOr P e → MemoryOr Q e
memory_or P Q more (errors.Invalid f) is = more f is
memory_or P Q more errors.Memory is = tt

pub cut_shorter : (test : ℕ → Bool) (text front rest : Text) → IsCut test text front rest
    → length rest ≤ length text
cut_shorter test text front rest is = omega (arith, ap length is.whole, length-append front rest)

-- a `]` outside nested descriptions, from what the calls ensure

pub closing_outside : (v : DescriptionVersion) (limit n : ℕ) (text : Text) (tree : Tree)
    (rest : Text) → n ≡ 0 → LeadsOn v limit 0 text tree rest → LeadsOn v limit n text tree rest
closing_outside v limit n text tree rest outside leads =
    subst (λ k. LeadsOn v limit k text tree rest) (sym outside) leads

pub fault_outside : (v : DescriptionVersion) (limit n : ℕ) (text : Text) (f : code_fault.Fault)
    → n ≡ 0 → IsFaultAt v limit 0 text f → IsFaultAt v limit n text f
fault_outside v limit n text f outside bad =
    subst (λ k. IsFaultAt v limit k text f) (sym outside) bad

-- `[[` in version 1
pub doubled_leads : (v : DescriptionVersion) (limit n : ℕ) (text inside byte rest : Text) → v ≡ One
    → byte ≡ left ∷ [] → text ≡ left ∷ inside → inside ≡ left ∷ rest → IsUtf8 rest
    → LeadsOn v limit n text (literal byte) rest
doubled_leads v limit n text inside byte rest one s opening doubled utf8 =
    escape_leads v limit n text left left byte rest
    (subst (λ w. IsEscape w left left) (sym one) (refl, refl)) s
    (opening ∙ ap (λ t. left ∷ t) doubled) utf8

-- a bracket that is read by what it has inside
pub opening_leads : (v : DescriptionVersion) (limit n : ℕ) (text inside : Text) (tree : Tree)
    (rest : Text) → text ≡ left ∷ inside → LeadsOn v limit n (left ∷ inside) tree rest
    → LeadsOn v limit n text tree rest
opening_leads v limit n text inside tree rest opening leads =
    subst (λ t. LeadsOn v limit n t tree rest) (sym opening) leads
