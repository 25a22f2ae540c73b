-- What written bodies denote.
use Rattle.std.proofs.Common.{ℕ, zero, suc, ◌≡◌, ◌≤◌, ◌<◌, ◌-◌, ◌+◌, ◌*◌, ◌/◌, ◌%◌, ◌==◌, ◌&&◌, not, Bool, true, false, nat_le, List, [], ◌∷◌, ◌++◌, length}
use Rattle.std.proofs.Common.{replicate, inl, inr, get_or, take, Option, Some, None, IsTrue, refl, sym, ap, subst, ◌∙◌}
use Rattle.std.proofs.Common.{append_assoc, append-nil, length-append, arith}
use Rattle.std.specs.List.{list_all}
use Rattle.std.proofs.lemmas.Bool.{cases_Bool, and_from}
use Rattle.std.proofs.lemmas.Bool.Decides.{nat_tests}
use Rattle.std.proofs.lemmas.List.{take_more}
use Rattle.timefd_lint_scan.specs.declared.class.ByteSet.TheVariants.{Hash}
use Rattle.timefd_lint_scan.specs.declared.token.Encoding.{Encoding}
use Rattle.timefd_lint_scan.specs.declared.token.Encoding.TheVariants.{Str, Bytes, C}
use Rattle.timefd_lint_scan.specs.declared.token.LiteralKind.{LiteralKind}
use Rattle.timefd_lint_scan.specs.declared.token.LiteralKind.TheVariants.{Escaped, Raw}
use Rattle.timefd_lint_scan.specs.declared.unescape.Unescaped as whole
use Rattle.timefd_lint_scan.specs.Bytes.{Text, quote, hash, backslash, carriage_return, class_test}
use Rattle.timefd_lint_scan.specs.After.{after_run, hashes}
use Rattle.timefd_lint_scan.specs.Escapes.{Part, Placed, placed_any, before, all_at, byte_of, escape_by, hex_digit, high_by, is_allowed, itself, letter}
use Rattle.timefd_lint_scan.specs.Escapes.{low_by, byte_value, part_of, unescaped}
use Rattle.timefd_lint_scan.specs.Grammar.{IsBody, closing, is_body, is_raw_body}
use Rattle.timefd_lint_scan.specs.Written.{AddsPiece, IsBodyFor, IsWritten, closes, closes_nowhere, has_body, is_plain, is_shown, may_stand_raw, text_alone}
use Rattle.timefd_lint_scan.proofs.UnescapeLemmas.{one_step}

both_true : (a b : Bool) → (a && b) ≡ true → (a ≡ true) × (b ≡ true)
both_true true b e = (refl, e)
both_true false b e = absurd cc

not_true : (a : Bool) → not a ≡ true → a ≡ false
not_true true e = absurd cc
not_true false e = refl

-- a text with bytes before it
text_before : (t text : Text) (positions : List ℕ) (r : Option Placed) → text_alone r ≡ Some text
    → text_alone (before t positions r) ≡ Some (t ++ text)
text_before t text positions None e = absurd cc
text_before t text positions (Some p) e = let same : p.text ≡ text = cc in ap (λ (x : Text). Some (t ++ x)) same

-- one part that denotes a byte, and what follows it
step : (kind : LiteralKind) (end steps head b : ℕ) (tail rest text : Text)
    → part_of kind head (tail ++ rest) ≡ Some (record { stands = b ∷ []; rest = rest })
    → text_alone (unescaped steps kind end rest) ≡ Some text
    → text_alone (unescaped (suc steps) kind end (head ∷ (tail ++ rest))) ≡ Some (b ∷ text)
step kind end steps head b tail rest text reads so_far =
    ap text_alone (one_step kind end steps head (tail ++ rest) (Some (record { stands = b ∷ []; rest = rest })) (sym reads))
    ∙ text_before (b ∷ []) text (all_at (end - length (head ∷ (tail ++ rest))) (b ∷ [])) (unescaped steps kind end rest) so_far

all_written : (e : Encoding) (end steps : ℕ) (text body : Text) → length body ≤ steps → IsWritten e text body
    → text_alone (unescaped steps (Escaped e) end body) ≡ Some text
all_written e end zero [] body enough is = subst (λ (x : Text). text_alone (unescaped 0 (Escaped e) end x) ≡ Some []) (sym is) refl
all_written e end (suc steps) [] body enough is =
    subst (λ (x : Text). text_alone (unescaped (suc steps) (Escaped e) end x) ≡ Some []) (sym is) refl
all_written e end zero (b ∷ text) body enough (piece, rest, writes, whole, more) =
    absurd (omega (arith, ap length (whole ∙ ap (λ (x : Text). x ++ rest) writes.whole)))
all_written e end (suc steps) (b ∷ text) body enough (piece, rest, writes, whole, more) =
    let is : body ≡ writes.head ∷ (writes.tail ++ rest) = whole ∙ ap (λ (x : Text). x ++ rest) writes.whole in
    subst (λ (x : Text). text_alone (unescaped (suc steps) (Escaped e) end x) ≡ Some (b ∷ text)) (sym is)
    (step (Escaped e) end steps writes.head b writes.tail rest text (writes.reads rest)
    (all_written e end steps text rest (omega (arith, enough, ap length is, length-append writes.tail rest)) more))

all_bodies : (e : Encoding) (text body : Text) → IsWritten e text body → IsTrue (is_body body)
all_bodies e [] body is = subst (λ (x : Text). IsTrue (is_body x)) (sym is) refl
all_bodies e (b ∷ text) body (piece, rest, writes, whole, more) =
    let is : body ≡ writes.head ∷ (writes.tail ++ rest) = whole ∙ ap (λ (x : Text). x ++ rest) writes.whole in
    subst (λ (x : Text). is_body x ≡ true) (sym is) (writes.keeps rest ∙ all_bodies e text rest more)

pub escaped_body : (e : Encoding) (text body : Text) → IsWritten e text body → IsBodyFor (Escaped e) text body
escaped_body e text body is = record {
  stands = all_written e (length body) (length body) text body (omega arith) is;
  closes = λ rest. all_bodies e text body is;
}

pub none_written : (e : Encoding) → IsWritten e [] []
none_written e = refl

pub one_more : (e : Encoding) (text : Text) (b : ℕ) (body more : Text) → IsWritten e text body
    → AddsPiece e b body more → IsWritten e (text ++ b ∷ []) more
one_more e [] b body more is (piece, writes, added) =
    (piece, [], writes, added ∙ ap (λ (x : Text). x ++ piece) is ∙ sym (append-nil piece), refl)
one_more e (c ∷ text) b body more (first, rest, first_writes, whole, is) (piece, writes, added) = (
  first,
  rest ++ piece,
  first_writes,
  added ∙ ap (λ (x : Text). x ++ piece) whole ∙ append_assoc first rest piece,
  one_more e text b rest (rest ++ piece) is (piece, writes, refl),
)

pub byte_more : (e : Encoding) (text : Text) (i b : ℕ) (body more : Text) → i < length text
    → b ≡ get_or text i 0 → IsWritten e (take i text) body → AddsPiece e b body more
    → IsWritten e (take (i + 1) text) more
byte_more e text i b body more below is so_far added =
    subst (λ (x : Text). IsWritten e x more)
    (sym (take_more text i 0 below ∙ ap (λ (x : ℕ). take i text ++ x ∷ []) (sym is)))
    (one_more e (take i text) b body more so_far added)

-- The three ways in which a byte is written.
abbrev found : ℕ → Text → Option Part
found b rest = Some (record { stands = b ∷ []; rest = rest })

pub letter_adds : (e : Encoding) (b c : ℕ) (body more : Text) → letter c ≡ Some b
    → more ≡ body ++ (backslash ∷ c ∷ []) → AddsPiece e b body more
letter_adds e b c body more is added = (
  backslash ∷ c ∷ [],
  record {
    head = backslash;
    tail = c ∷ [];
    whole = refl;
    reads = λ rest. subst (λ (x : Option ℕ). escape_by e c rest x ≡ found b rest) (sym is) refl;
    keeps = λ rest. refl;
  },
  added,
)

plain_tests : (b : ℕ) → is_plain b ≡ true
    → ((b == quote) ≡ false) × (((b == backslash) ≡ false) × ((b == carriage_return) ≡ false))
plain_tests b e =
    let one = both_true (not (b == quote)) (not (b == backslash) && not (b == carriage_return)) e in
    let two = both_true (not (b == backslash)) (not (b == carriage_return)) one.1 in
    (not_true (b == quote) one.0, (not_true (b == backslash) two.0, not_true (b == carriage_return) two.1))

itself_reads : (b : ℕ) (rest : Text) → (b == carriage_return) ≡ false → Some (itself b rest) ≡ found b rest
itself_reads b rest e = rw e refl

plain_keeps : (b : ℕ) (rest : Text) → (b == quote) ≡ false → (b == backslash) ≡ false
    → is_body (b ∷ rest) ≡ is_body rest
plain_keeps b [] q e = rw (e, q) refl
plain_keeps b (c ∷ rest) q e = rw (e, q) refl

pub plain_adds : (e : Encoding) (b : ℕ) (body more : Text) → is_plain b ≡ true
    → more ≡ body ++ (b ∷ []) → AddsPiece e b body more
plain_adds e b body more plain added =
    let tests = plain_tests b plain in (
      b ∷ [],
      record {
        head = b;
        tail = [];
        whole = refl;
        reads = λ rest. rw (tests.1.0) (itself_reads b rest tests.1.1);
        keeps = λ rest. plain_keeps b rest tests.0 tests.1.0;
      },
      added,
    )

number : (e : Encoding) (b high low : ℕ) (rest : Text) → hex_digit high ≡ Some (b / 16)
    → hex_digit low ≡ Some (b % 16) → is_allowed e b ≡ true
    → byte_of e (high ∷ low ∷ rest) ≡ found b rest
number e b high low rest h l allowed =
    let value : b / 16 * 16 + b % 16 ≡ b = omega arith in
    let after : low_by e (b / 16) rest (hex_digit low) ≡ found b rest =
    subst (λ (x : Option ℕ). low_by e (b / 16) rest x ≡ found b rest) (sym l)
    (subst (λ (x : ℕ). byte_value e x rest ≡ found b rest) (sym value) (rw allowed refl)) in
    subst (λ (x : Option ℕ). high_by e (low ∷ rest) x ≡ found b rest) (sym h) after

is_small : (e : Encoding) (b : ℕ) → b < 256 → is_shown e b ≡ false → is_allowed e b ≡ true
is_small Str b below hidden = grind (arith, nat_tests)
is_small Bytes b below hidden = refl
is_small C b below hidden = refl

pub number_adds : (e : Encoding) (b high low : ℕ) (body more : Text) → b < 256 → is_shown e b ≡ false
    → hex_digit high ≡ Some (b / 16) → hex_digit low ≡ Some (b % 16)
    → is_plain high ≡ true → is_plain low ≡ true
    → more ≡ body ++ (backslash ∷ 120 ∷ high ∷ low ∷ []) → AddsPiece e b body more
number_adds e b high low body more below hidden h l high_plain low_plain added =
    let highs = plain_tests high high_plain in
    let lows = plain_tests low low_plain in (
      backslash ∷ 120 ∷ high ∷ low ∷ [],
      record {
        head = backslash;
        tail = 120 ∷ high ∷ low ∷ [];
        whole = refl;
        reads = λ rest. number e b high low rest h l (is_small e b below hidden);
        keeps = λ rest. plain_keeps high (low ∷ rest) highs.0 highs.1.0 ∙ plain_keeps low rest lows.0 lows.1.0;
      },
      added,
    )

-- Raw bodies.
raw_tests : (e : Encoding) (b : ℕ) → may_stand_raw e b ≡ true → (b == carriage_return) ≡ false
raw_tests e b is = not_true (b == carriage_return) (both_true (not (b == carriage_return)) _ is).0

raw_stands : (e : Encoding) (n end steps : ℕ) (text : Text) → length text ≤ steps
    → list_all (may_stand_raw e) text ≡ true
    → text_alone (unescaped steps (Raw e n) end text) ≡ Some text
raw_stands e n end zero [] enough all = refl
raw_stands e n end (suc steps) [] enough all = refl
raw_stands e n end zero (b ∷ text) enough all = absurd (omega arith)
raw_stands e n end (suc steps) (b ∷ text) enough all =
    let tests = both_true (may_stand_raw e b) (list_all (may_stand_raw e) text) all in
    step (Raw e n) end steps b b [] text text (itself_reads b text (raw_tests e b tests.0))
    (raw_stands e n end steps text (omega arith) tests.1)

run_ends : (text after : Text)
    → after_run (class_test Hash) (text ++ (quote ∷ after)) ≡ after_run (class_test Hash) text ++ (quote ∷ after)
run_ends [] after = refl
run_ends (b ∷ text) after = elim (cases_Bool (b == hash)) [
  | inl pass ↦ rw pass (run_ends text after)
  | inr fail ↦ rw fail refl
]

hashes_end : (text after : Text) → hashes (text ++ (quote ∷ after)) ≡ hashes text
hashes_end text after = rw (
  run_ends text after,
  length-append text (quote ∷ after),
  length-append (after_run (class_test Hash) text) (quote ∷ after),
) (omega arith)

raw_closes : (n : ℕ) (text after : Text) → closes_nowhere n text ≡ true
    → IsTrue (is_raw_body n text (quote ∷ after))
raw_closes n [] after e = refl
raw_closes n (b ∷ text) after e =
    let tests = both_true (not ((b == quote) && nat_le n (hashes text))) (closes_nowhere n text) e in
    and_from _ _ (rw (hashes_end text after) tests.0) (raw_closes n text after tests.1)

pub raw_body : (e : Encoding) (n : ℕ) (text body : Text) → has_body (Raw e n) text ≡ true
    → body ≡ text → IsBodyFor (Raw e n) text body
raw_body e n text body fits same =
    let tests = both_true (list_all (may_stand_raw e) text) (closes_nowhere n text) fits in
    subst (IsBodyFor (Raw e n) text) (sym same) (record {
      stands = raw_stands e n (length text) (length text) text (omega arith) tests.0;
      closes = λ rest. raw_closes n text (replicate n hash ++ rest) tests.1;
    })

-- Reading a body back.
closed : (kind : LiteralKind) (body : Text) → closes kind body ≡ true → (rest : Text) → IsBody kind body (closing kind ++ rest)
closed (Escaped e) body is rest = is
closed (Raw e n) body is rest = raw_closes n body (replicate n hash ++ rest) is

pub read_back : (kind : LiteralKind) (text body : Text) (r : Option whole.Unescaped) (u : whole.Unescaped)
    → closes kind body ≡ true → placed_any r ≡ unescaped (length body) kind (length body) body
    → r ≡ Some u → u.text.items ≡ text → IsBodyFor kind text body
read_back kind text body r u is read which same = record {
  stands = ap text_alone (sym read ∙ ap placed_any which) ∙ ap (λ (t : Text). Some t) same;
  closes = closed kind body is;
}
