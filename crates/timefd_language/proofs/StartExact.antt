-- A text that begins with something known is read as that.
use Rattle.std.proofs.Common.{ℕ, zero, suc, ◌≡◌, ◌<◌, ◌==◌, ◌||◌, false, [], ◌∷◌, ◌++◌, length, refl, sym, ◌∙◌, ap, arith, IsTrue, IsFalse, lt-ltb, le-ltb}
use Rattle.std.specs.List.{list_all}
use Rattle.std.proofs.lemmas.Bool.{and_parts, or_parts, false≢true}
use Rattle.timefd_language.specs.declared.description_version.DescriptionVersion.{DescriptionVersion}
use Rattle.timefd_language.specs.declared.description_version.DescriptionVersion.TheVariants.{One, Two, Three}
use Rattle.timefd_lang_component.specs.Tree.{Text}
use Rattle.timefd_language.specs.Bytes.{left, right, backslash, is_white, is_special, is_word_byte, is_run_byte, is_version_one, is_version_three, ZeroOrMore, OneOrMore, StopsBefore}
use Rattle.timefd_language.specs.Head.{Head, IsHead}
use Rattle.timefd_language.specs.Grammar.{Nested, no_nested, nested, IsEscape, AreNested}
use Rattle.timefd_language.specs.Broken.{Misfit, IsMisfit, bare_closing, half_escape, nameless, ill_modified, BeginsNoEscape, IsWholeBefore}
use Rattle.timefd_language.proofs.Reader.{cut, span, at_run, at_closing, at_escape, at_head, at_outer_closing, at_broken, start_of, run_start, left_start, left_start_one, backslash_start, right_start, head_start, no_more, at_limit, at_inner, nested_start_of, nested_at}
use Rattle.timefd_language.proofs.Spans.{span-exact, stops_one, stops_zero, white-not_special, word-not_special}
use Rattle.timefd_language.proofs.Before.{misfit_before, head_before, nested_before}
use Rattle.timefd_language.proofs.HeadExact.{head_after, head_start-nameless, head_start-misfit, head_start-whole}

pub start-run : (k : ℕ) (v : DescriptionVersion) (n : ℕ) (bytes rest : Text)
    → OneOrMore (is_run_byte v) bytes → StopsBefore (is_run_byte v) rest
    → start_of k v n (bytes ++ rest) ≡ at_run bytes rest
unfolding start_of
start-run k v n [] rest h s = absurd h
start-run k v n (b ∷ bytes) rest h s =
    let p = and_parts (is_run_byte v b) (list_all (is_run_byte v) bytes) h in
    rw (p.0, start_of) (ap (run_start b) (span-exact (is_run_byte v) bytes rest p.1 s))

pub start-escape : (k : ℕ) (v : DescriptionVersion) (n a b : ℕ) (rest : Text) → IsEscape v a b
    → start_of k v n (a ∷ b ∷ rest) ≡ at_escape a b rest
unfolding start_of left_start left_start_one backslash_start
start-escape k One n a b rest h = rw (h.0, h.1) refl
start-escape k Two n a b rest h = rw (h.0) (rw (h.1, backslash_start) refl)
start-escape k Three n a b rest h = rw (h.0) (rw (h.1, backslash_start) refl)

pub start-outer_closing : (k : ℕ) (v : DescriptionVersion) (n : ℕ) (rest : Text)
    → IsFalse (is_version_three v) → n ≡ 0 → start_of k v n (right ∷ rest) ≡ at_outer_closing rest
unfolding start_of right_start
start-outer_closing k v (suc n) rest h e = absurd (omega arith)
start-outer_closing k One zero rest h e = refl
start-outer_closing k Two zero rest h e = refl
start-outer_closing k Three zero rest h e = absurd (false≢true (sym h))

pub start-bare : (k : ℕ) (v : DescriptionVersion) (n : ℕ) (rest : Text)
    → IsTrue (is_version_three v) → n ≡ 0
    → start_of k v n (right ∷ rest) ≡ at_broken (bare_closing rest)
unfolding start_of right_start
start-bare k v (suc n) rest h e = absurd (omega arith)
start-bare k One zero rest h e = absurd (false≢true h)
start-bare k Two zero rest h e = absurd (false≢true h)
start-bare k Three zero rest h e = refl

pub start-closing : (k : ℕ) (v : DescriptionVersion) (n : ℕ) (rest : Text) → 0 < n
    → start_of k v n (right ∷ rest) ≡ at_closing rest
unfolding start_of right_start
start-closing k v zero rest h = absurd (omega arith)
start-closing k v (suc n) rest h = refl

pub start-half : (k : ℕ) (v : DescriptionVersion) (n : ℕ) (rest : Text) → IsFalse (is_version_one v)
    → StopsBefore is_special rest → start_of k v n (backslash ∷ rest) ≡ at_broken (half_escape rest)
unfolding start_of backslash_start
start-half k One n rest h s = absurd (false≢true (sym h))
start-half k Two n [] h s = refl
start-half k Two n (b ∷ rest) h s = rw (s, backslash_start) refl
start-half k Three n [] h s = refl
start-half k Three n (b ∷ rest) h s = rw (s, backslash_start) refl

-- Brackets.

pub start-left : (k : ℕ) (v : DescriptionVersion) (n : ℕ) (text : Text) → BeginsNoEscape v text
    → start_of k v n (left ∷ text) ≡ head_start k text
unfolding start_of left_start left_start_one
start-left k One n [] h = refl
start-left k One n (b ∷ text) h = rw (h, left_start_one) refl
start-left k Two n text h = refl
start-left k Three n text h = refl

not_left : (b : ℕ) → is_special b ≡ false → (b == left) ≡ false
not_left b h =
    (or_parts (b == left) (b == right) (or_parts (b == left || b == right) (b == backslash) h).0).0

pub head_begins_no_escape : (v : DescriptionVersion) (h : Head) (tail : Text) → IsHead h
    → BeginsNoEscape v (head_after h tail)
head_begins_no_escape One h tail ih =
    stops_zero is_white (λ b. b == left) (λ b e. not_left b (white-not_special b e)) h.white _
    ih.white
    (stops_one is_word_byte (λ b. b == left) (λ b e. not_left b (word-not_special b e)) h.name _
    ih.name)
head_begins_no_escape Two h tail ih = tt
head_begins_no_escape Three h tail ih = tt

pub start-nameless : (k : ℕ) (v : DescriptionVersion) (n : ℕ) (white rest : Text)
    → ZeroOrMore is_white white → StopsBefore is_white rest → StopsBefore is_word_byte rest
    → BeginsNoEscape v (white ++ rest)
    → start_of k v n (left ∷ (white ++ rest)) ≡ at_broken (nameless white rest)
start-nameless k v n white rest w s t e = start-left k v n (white ++ rest) e ∙
    head_start-nameless k white rest w s t

pub start-misfit : (k : ℕ) (v : DescriptionVersion) (n : ℕ) (h : Head) (white : Text) (m : Misfit)
    (rest : Text) → IsHead h → length h.modifiers < k
    → OneOrMore is_white white → IsMisfit m → StopsBefore is_word_byte rest
    → start_of k v n (head_before h (white ++ misfit_before m rest)) ≡ at_broken
    (ill_modified h white m rest)
start-misfit k v n h white m rest ih below w im s =
    start-left k v n (head_after h (white ++ misfit_before m rest))
    (head_begins_no_escape v h _ ih)
    ∙ head_start-misfit k h white m rest ih below w im s

pub start-head : (k : ℕ) (v : DescriptionVersion) (n : ℕ) (h : Head) (ns : Nested)
    (white rest : Text) (limit : ℕ) → IsHead h → length h.modifiers < k
    → AreNested v limit n ns → ZeroOrMore is_white white → StopsBefore is_white rest
    → IsWholeBefore ns rest
    → start_of k v n (head_before h (nested_before ns (white ++ rest))) ≡ at_head h
    (nested_before ns (white ++ rest))
start-head k v n h no_nested white rest limit ih below an w s t =
    start-left k v n (head_after h (white ++ rest)) (head_begins_no_escape v h _ ih) ∙
    head_start-whole k h white rest ih below w s t
start-head k v n h (nested white' ps ns) white rest limit ih below an w s t =
    start-left k v n (head_after h _) (head_begins_no_escape v h _ ih) ∙
    head_start-whole k h white' (left ∷ _) ih below an.0 refl refl

-- Nested descriptions.

nested_start-at : (limit n : ℕ) (text white rest : Text) → span is_white text ≡ cut white rest
    → nested_start_of limit n text ≡ nested_at limit n white rest
unfolding nested_start_of
nested_start-at limit n text white rest e = rw e refl

pub nested_start-none : (limit n : ℕ) (white rest : Text) → ZeroOrMore is_white white
    → StopsBefore is_white rest → StopsBefore (λ b. b == left) rest
    → nested_start_of limit n (white ++ rest) ≡ no_more white rest
nested_start-none limit n white [] w s t =
    nested_start-at limit n (white ++ []) white [] (span-exact is_white white [] w s)
nested_start-none limit n white (b ∷ rest) w s t =
    nested_start-at limit n (white ++ b ∷ rest) white (b ∷ rest)
    (span-exact is_white white (b ∷ rest) w s) ∙ rw (t, nested_at) refl

pub nested_start-inner : (limit n : ℕ) (white rest : Text) → ZeroOrMore is_white white → n < limit
    → nested_start_of limit n (white ++ left ∷ rest) ≡ at_inner white rest
nested_start-inner limit n white rest w below =
    nested_start-at limit n (white ++ left ∷ rest) white (left ∷ rest)
    (span-exact is_white white (left ∷ rest) w refl) ∙ rw (lt-ltb n limit below, nested_at) refl

pub nested_start-limit : (limit n : ℕ) (white rest : Text) → ZeroOrMore is_white white → n ≡ limit
    → nested_start_of limit n (white ++ left ∷ rest) ≡ at_limit white rest
nested_start-limit limit n white rest w e =
    nested_start-at limit n (white ++ left ∷ rest) white (left ∷ rest)
    (span-exact is_white white (left ∷ rest) w refl) ∙
    rw (le-ltb n limit (omega arith), nested_at) refl
