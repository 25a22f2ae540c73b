-- A word begins between two characters.
use Rattle.std.proofs.Common.{ℕ, ◌≡◌, ◌+◌, ◌<◌, Bool, true, false, [], ◌∷◌, ◌++◌, IsUtf8, length, get_or, refl, sym, subst, ap, arith, append_assoc, length-append}
use Rattle.std.proofs.Math.Seq.{get_or-append_seam}
use Rattle.std.proofs.lemmas.Bool.Decides.{nat_tests}
use Rattle.std.proofs.lemmas.Str.{IsCharBoundary-after_ascii, IsCharBoundary-start}
use Rattle.std.specs.Prelude.{if◌then◌else◌}
use Rattle.std.specs.Str.{IsCharBoundary}
use Rattle.timefd_parse.specs.Tree.{Text}
use Rattle.timefd_language.specs.Bytes.{is_key_byte}
use Rattle.timefd_lint_lsp.specs.Editor.Cursors.{start_from, word_start}

-- A byte that isn't one of a word is ASCII.
ends_ascii : (b : ℕ) → is_key_byte b ≡ false → b < 128
ends_ascii b is = grind (arith, nat_tests)

after_byte : (front rest : Text) (b : ℕ) → IsUtf8 (front ++ b ∷ rest) → b < 128
    → IsCharBoundary (front ++ b ∷ rest) (length front + 1)
after_byte front rest b utf8 ascii =
    let there : get_or (front ++ b ∷ rest) (length front) 0 ≡ b = get_or-append_seam front b rest 0 in
    let within : length front < length (front ++ b ∷ rest) =
    omega (arith, length-append front (b ∷ rest)) in
    IsCharBoundary-after_ascii (front ++ b ∷ rest) (length front) utf8 within
    (subst (λ n. n < 128) (sym there) ascii)

reaches : (text front rest : Text) (start : ℕ) → text ≡ front ++ rest → IsUtf8 text → IsCharBoundary text start
    → IsCharBoundary text (start_from start (length front) rest)
reaches text front [] start whole utf8 at = at
reaches text front (b ∷ rest) start whole utf8 at =
    by (is_key_byte b) refl (λ from there. reaches text (front ++ b ∷ []) rest from next utf8 there)
  where
    next : text ≡ (front ++ b ∷ []) ++ rest
    next = subst (λ t. text ≡ t) (sym (append_assoc front (b ∷ []) rest)) whole

    long : length (front ++ b ∷ []) ≡ length front + 1
    long = length-append front (b ∷ [])

    by : (k : Bool) → is_key_byte b ≡ k
        → ((from : ℕ) → IsCharBoundary text from
        → IsCharBoundary text (start_from from (length (front ++ b ∷ [])) rest))
        → IsCharBoundary text (start_from (if k then start else length front + 1) (length front + 1) rest)
    by true is later = subst (λ n. IsCharBoundary text (start_from start n rest)) long (later start at)
    by false is later =
        subst (λ n. IsCharBoundary text (start_from (length front + 1) n rest)) long
        (later (length front + 1)
        (subst (λ t. IsCharBoundary t (length front + 1)) (sym whole)
        (after_byte front rest b (subst IsUtf8 whole utf8) (ends_ascii b is))))

pub at_boundary : (text bytes : Text) (start : ℕ) → IsUtf8 text → bytes ≡ text → start ≡ word_start bytes
    → IsCharBoundary text start
at_boundary text bytes start utf8 same is =
    subst (λ n. IsCharBoundary text n) (sym (subst (λ t. start ≡ word_start t) same is))
    (reaches text [] text 0 refl utf8 (IsCharBoundary-start text utf8))
