-- Literals that a description asks for, so far and as a whole.
use Rattle.std.proofs.Common.{ℕ, suc, ◌≡◌, ◌+◌, ◌<◌, ◌==◌, cond, Bool, true, false, List, [], ◌∷◌, ◌++◌, append_assoc, take-append-drop, length, length-append, take, drop, refl, sym, ap, ◌∙◌, subst, arith, IsUtf8}
use Rattle.std.specs.Borrow.{Bor}
use Rattle.std.specs.List.{prefix_len, slice_index}
use Rattle.std.proofs.lemmas.Bool.{and_parts}
use Rattle.std.proofs.lemmas.Bool.Decides.{nat_tests}
use Rattle.timefd_lang_component.specs.Tree.{Text}
use Rattle.timefd_language.specs.Bytes.{left, backslash, ZeroOrMore}
use Rattle.timefd_language.proofs.CutLemmas.{cut_at_prefix}
use Rattle.timefd_lang_dialect.specs.Asked.{Run, run, and_byte, run_of, escaped_run, doubled, ends_literal}
use Rattle.timefd_lang_dialect.specs.AskedSteps.{and_bytes, TakesBytes, TakesCharacter, TakesRun}
use Rattle.timefd_lang_dialect.specs.Quotes.{continues, char_len, IsCharacter}
use Rattle.timefd_lang_dialect.specs.QuoteSteps.{IsFirst}

pub between : (old a b c one two new : Text) → one ≡ old ++ a → two ≡ one ++ b → new ≡ two ++ c
    → new ≡ old ++ (a ++ (b ++ c))
between old a b c one two new x y z =
    z ∙ ap (λ t. t ++ c) (y ∙ ap (λ t. t ++ b) x) ∙ append_assoc (old ++ a) b c
    ∙ append_assoc old a (b ++ c)

-- Marks that are written twice.

differ : (b m : ℕ) → continues b ≡ true → continues m ≡ false → (b == m) ≡ false
differ b m e f = grind (arith, nat_tests)

same : (b m : ℕ) → (b == m) ≡ true → b ≡ m
same b m e = grind (arith, nat_tests)

doubled_continued : (m : ℕ) (bytes : Text) → continues m ≡ false → ZeroOrMore continues bytes
    → doubled m bytes ≡ bytes
doubled_continued m [] e all = refl
doubled_continued m (b ∷ bytes) e all =
    let p = and_parts (continues b) _ all in
    rw (differ b m p.0 e) (ap (λ t. b ∷ t) (doubled_continued m bytes e p.1))

pub doubled_mark : (m : ℕ) (character old mid new text : Text) → IsCharacter character
    → continues m ≡ false → (slice_index character 0 == m) ≡ true → text ≡ m ∷ []
    → mid ≡ old ++ text → new ≡ mid ++ character → new ≡ old ++ doubled m character
doubled_mark m [] old mid new text is mark e one x y = absurd is
doubled_mark m (b ∷ bytes) old mid new text is mark e one x y =
    y ∙ ap (λ t. t ++ b ∷ bytes) (x ∙ ap (λ t. old ++ t) one) ∙ append_assoc old (m ∷ []) (b ∷ bytes)
    ∙ ap (λ t. old ++ t) (sym twice)
  where
    twice : doubled m (b ∷ bytes) ≡ m ∷ b ∷ bytes
    twice = rw e (ap (λ t. m ∷ b ∷ t) (doubled_continued m bytes mark is))

pub doubled_other : (m : ℕ) (character old new : Text) → IsCharacter character
    → continues m ≡ false → (slice_index character 0 == m) ≡ false → new ≡ old ++ character
    → new ≡ old ++ doubled m character
doubled_other m [] old new is mark e x = absurd is
doubled_other m (b ∷ bytes) old new is mark e x =
    x ∙ ap (λ t. old ++ t) (sym once)
  where
    once : doubled m (b ∷ bytes) ≡ b ∷ bytes
    once = rw e (ap (λ t. b ∷ t) (doubled_continued m bytes mark is))

doubled_append : (m : ℕ) (a b : Text) → doubled m (a ++ b) ≡ doubled m a ++ doubled m b
doubled_append m [] b = refl
doubled_append m (x ∷ a) b = by (x == m) (doubled_append m a b)
  where
    by : (t : Bool) → doubled m (a ++ b) ≡ doubled m a ++ doubled m b
        → cond t (m ∷ x ∷ doubled m (a ++ b)) (x ∷ doubled m (a ++ b))
        ≡ cond t (m ∷ x ∷ doubled m a) (x ∷ doubled m a) ++ doubled m b
    by true more = ap (λ y. m ∷ x ∷ y) more
    by false more = ap (λ y. x ∷ y) more

whole_first : (text front rest : Text) → IsFirst text front rest → front ++ rest ≡ text
whole_first text front rest f =
    ap (λ x. x ++ rest) f.front_is ∙ ap (λ x. take (char_len text) text ++ x) f.rest_is
    ∙ take-append-drop (char_len text) text

pub doubled_more : (m : ℕ) (now next text rest front whole : Text) → IsFirst text front rest
    → now ++ doubled m text ≡ whole → next ≡ now ++ doubled m front
    → next ++ doubled m rest ≡ whole
doubled_more m now next text rest front whole f so_far one =
    ap (λ x. x ++ doubled m rest) one ∙ append_assoc now (doubled m front) (doubled m rest)
    ∙ ap (λ x. now ++ x) (sym (doubled_append m front rest) ∙ ap (doubled m) (whole_first text front rest f))
    ∙ so_far

-- Characters of a literal of version 3.

not_left : (b : ℕ) → continues b ≡ true → (b == left) ≡ false
not_left b e = grind (arith, nat_tests)

not_backslash : (b : ℕ) → continues b ≡ true → (b == backslash) ≡ false
not_backslash b e = grind (arith, nat_tests)

run_bytes : (bytes rest : Text) → ZeroOrMore continues bytes
    → run_of (bytes ++ rest) ≡ and_bytes bytes (run_of rest)
run_bytes [] rest all = refl
run_bytes (b ∷ bytes) rest all =
    let p = and_parts (continues b) _ all in
    rw (not_left b p.0) (rw (not_backslash b p.0) (ap (and_byte b) (run_bytes bytes rest p.1)))

run_char : (b : ℕ) (bytes rest : Text) → (b == left) ≡ false → (b == backslash) ≡ false
    → ZeroOrMore continues bytes → run_of (b ∷ bytes ++ rest) ≡ and_bytes (b ∷ bytes) (run_of rest)
run_char b bytes rest e f all = rw e (rw f (ap (and_byte b) (run_bytes bytes rest all)))

run_first : (b : ℕ) (rest : Text) → (b == left) ≡ false → (b == backslash) ≡ false
    → run_of (b ∷ rest)
    ≡ and_bytes (take (char_len (b ∷ rest)) (b ∷ rest)) (run_of (drop (char_len (b ∷ rest)) (b ∷ rest)))
run_first b rest e f =
    let more : 1 + prefix_len continues rest ≡ suc (prefix_len continues rest) = omega arith in
    let cut = cut_at_prefix continues rest _ _ (prefix_len continues rest) refl refl refl in
    rw more (ap (λ x. run_of (b ∷ x)) cut.whole ∙ run_char b (take (prefix_len continues rest) rest)
    (drop (prefix_len continues rest) rest) e f cut.passes)

escaped_first : (b : ℕ) (rest : Text) → escaped_run (b ∷ rest)
    ≡ and_bytes (take (char_len (b ∷ rest)) (b ∷ rest)) (run_of (drop (char_len (b ∷ rest)) (b ∷ rest)))
escaped_first b rest =
    let more : 1 + prefix_len continues rest ≡ suc (prefix_len continues rest) = omega arith in
    let cut = cut_at_prefix continues rest _ _ (prefix_len continues rest) refl refl refl in
    rw more (ap (λ x. and_byte b (run_of x)) cut.whole
    ∙ ap (and_byte b) (run_bytes (take (prefix_len continues rest) rest) (drop (prefix_len continues rest) rest) cut.passes))

plain_run : (text front rest : Text) → IsFirst text front rest → ends_literal text ≡ false
    → (slice_index text 0 == backslash) ≡ false → run_of text ≡ and_bytes front (run_of rest)
plain_run [] front rest f goes e = cc
plain_run (b ∷ bytes) front rest f goes e =
    rw (f.front_is, f.rest_is) (run_first b bytes goes e)

escaped_is : (text front rest : Text) → IsFirst text front rest
    → escaped_run text ≡ and_bytes front (run_of rest)
escaped_is [] front rest f = absurd (omega (arith, f.left.shorter))
escaped_is (b ∷ bytes) front rest f = rw (f.front_is, f.rest_is) (escaped_first b bytes)

-- a character that is no escape
pub plain_taken : (text front old new : Text) (rest : Bor (List ℕ)) → IsFirst text front rest.now
    → ends_literal text ≡ false → (slice_index text 0 == backslash) ≡ false → new ≡ old ++ front
    → TakesCharacter text old new rest
plain_taken text front old new rest f goes e x = record {
  bytes = record {
    bytes = front;
    run = plain_run text front rest.now f goes e;
    appended = x;
    taken = front;
    whole = sym (whole_first text front rest.now f);
    utf8 = f.left.utf8;
  };
  shorter = f.left.shorter;
}

-- the character after a backslash
pub after_taken : (text front old new : Text) (rest : Bor (List ℕ)) → IsFirst text front rest.now
    → new ≡ old ++ front → TakesBytes (escaped_run text) text old new rest
after_taken text front old new rest f x = record {
  bytes = front;
  run = escaped_is text front rest.now f;
  appended = x;
  taken = front;
  whole = sym (whole_first text front rest.now f);
  utf8 = f.left.utf8;
}

-- a backslash at the end
pub end_taken : (old new : Text) (rest : Bor (List ℕ)) → rest.now ≡ [] → IsUtf8 rest.now
    → new ≡ old ++ (92 ∷ []) → TakesBytes (escaped_run rest.now) rest.now old new rest
end_taken old new rest e utf8 x = record {
  bytes = 92 ∷ [];
  run = subst (λ t. escaped_run t ≡ and_bytes (92 ∷ []) (run_of t)) (sym e) refl;
  appended = x;
  taken = [];
  whole = refl;
  utf8 = utf8;
}

escape_run : (b : ℕ) (text after : Text) → text ≡ b ∷ after → (b == backslash) ≡ true
    → run_of text ≡ escaped_run after
escape_run b text after whole e =
    ap run_of (whole ∙ ap (λ x. x ∷ after) (same b backslash e))

pub escape_taken : (b : ℕ) (text after old new : Text) (rest : Bor (List ℕ)) → text ≡ b ∷ after
    → (b == backslash) ≡ true → TakesBytes (escaped_run after) after old new rest
    → TakesCharacter text old new rest
escape_taken b text after old new rest whole e takes = record {
  bytes = record {
    bytes = takes.bytes;
    run = escape_run b text after whole e ∙ takes.run;
    appended = takes.appended;
    taken = b ∷ takes.taken;
    whole = whole ∙ ap (λ x. b ∷ x) takes.whole;
    utf8 = takes.utf8;
  };
  shorter = less (length text) (length after) (length takes.taken) (length rest.now)
      (ap length whole) (ap length takes.whole ∙ length-append takes.taken rest.now);
}
  where
    less : (n m k r : ℕ) → n ≡ suc m → m ≡ k + r → r < n
    less n m k r x y = omega (arith, x, y)

-- A literal as a whole.

and_bytes-append : (a b : Text) (r : Run) → and_bytes (a ++ b) r ≡ and_bytes a (and_bytes b r)
and_bytes-append [] b r = refl
and_bytes-append (x ∷ a) b r = ap (and_byte x) (and_bytes-append a b r)

and_bytes-run : (a rest : Text) → and_bytes a (run [] rest) ≡ run a rest
and_bytes-run [] rest = refl
and_bytes-run (x ∷ a) rest = ap (and_byte x) (and_bytes-run a rest)

-- these bytes of the literal are appended, and the rest of it follows
pub record HasRun (text old now rest : Text) : Type 0 where
  pub bytes : Text
  pub run_is : run_of text ≡ and_bytes bytes (run_of rest)
  pub appended : now ≡ old ++ bytes
  pub taken : Text
  pub whole : text ≡ taken ++ rest
  pub shorter : length rest < length text

pub run_begun : (text old new : Text) (rest : Bor (List ℕ)) → TakesCharacter text old new rest
    → HasRun text old new rest.now
run_begun text old new rest t = record {
  bytes = t.bytes.bytes;
  run_is = t.bytes.run;
  appended = t.bytes.appended;
  taken = t.bytes.taken;
  whole = t.bytes.whole;
  shorter = t.shorter;
}

pub run_more : (text old now next rest : Text) (after : Bor (List ℕ)) → HasRun text old now rest
    → TakesCharacter rest now next after → HasRun text old next after.now
run_more text old now next rest after so_far t = record {
  bytes = so_far.bytes ++ t.bytes.bytes;
  run_is =
      so_far.run_is ∙ ap (and_bytes so_far.bytes) t.bytes.run
      ∙ sym (and_bytes-append so_far.bytes t.bytes.bytes (run_of after.now));
  appended =
      t.bytes.appended ∙ ap (λ x. x ++ t.bytes.bytes) so_far.appended
      ∙ append_assoc old so_far.bytes t.bytes.bytes;
  taken = so_far.taken ++ t.bytes.taken;
  whole =
      so_far.whole ∙ ap (λ x. so_far.taken ++ x) t.bytes.whole
      ∙ sym (append_assoc so_far.taken t.bytes.taken after.now);
  shorter = omega (arith, so_far.shorter, t.shorter);
}

ended_run : (rest : Text) → ends_literal rest ≡ true → run_of rest ≡ run [] rest
ended_run [] e = refl
ended_run (b ∷ rest) e = rw e refl

pub all_run : (text old now : Text) (rest : Bor (List ℕ)) → HasRun text old now rest.now
    → IsUtf8 rest.now → ends_literal rest.now ≡ true → TakesRun text old now rest
all_run text old now rest so_far utf8 e =
    let is : run_of text ≡ run so_far.bytes rest.now =
    so_far.run_is ∙ ap (and_bytes so_far.bytes) (ended_run rest.now e)
    ∙ and_bytes-run so_far.bytes rest.now in
    record {
      appended = so_far.appended ∙ ap (λ x. old ++ x) (sym (ap (λ r. r.literal) is));
      rest_is = sym (ap (λ r. r.rest) is);
      after = record {
        taken = so_far.taken;
        whole = so_far.whole;
        left = record { shorter = so_far.shorter; utf8 = utf8 };
      };
    }
