-- The printed text of a strftime text has at most 53 bytes for each of its bytes.
use Rattle.std.proofs.Common.{ℕ, ◌≡◌, ◌≤◌, ◌+◌, ◌*◌, ◌||◌, ◌==◌, cond, Bool, true, false, List, [], ◌∷◌, ◌++◌, nat_le, length, length-append, refl, sym, ap, subst, eqb-true, leb-true, arith}
use Rattle.timefd_lang_component.specs.Tree.{Text, Tree, trees}
use Rattle.timefd_language.specs.Bytes.{backslash, is_special}
use Rattle.timefd_language.specs.Letters.{Flag, unflagged, flagged, letters, item_of}
use Rattle.timefd_language.specs.Strftime.{is_flag, flag_text, IsFlag, Directives, no_directives, plain, directive, directives_text, directive_items, AreDirectives, SpellsStrftime}
use Rattle.timefd_language.proofs.Lookup.{Each, each-passes}
use Rattle.timefd_language.proofs.ModernPieces.{item_has}
use Rattle.timefd_lang_convert.specs.Printing.Printed.{escaped, printed, printed_all}

-- Letters: computed for each letter with each flag.

abbrev is_short : Tree → Bool
is_short t = nat_le (length (printed t)) 106

abbrev AreShort : Flag → Type 0
AreShort f = Each (λ l. is_short (l.item f) ≡ true) letters

letters_short : (f : Flag) → IsFlag f → AreShort f
letters_short unflagged is =
    each-passes (λ l. is_short (l.item unflagged)) (λ l. is_short (l.item unflagged) ≡ true)
    (λ l e. e) letters refl
letters_short (flagged b) is = by (b == 95) (b == 45) (b == 48) refl refl refl is
  where
    same : (c : ℕ) → b ≡ c → AreShort (flagged c) → AreShort (flagged b)
    same c e all = subst (λ x. AreShort (flagged x)) (sym e) all

    by : (t u v : Bool) → (b == 95) ≡ t → (b == 45) ≡ u → (b == 48) ≡ v → t || u || v ≡ true
        → AreShort (flagged b)
    by true u v is_t is_u is_v one = same 95 (eqb-true b 95 is_t)
        (each-passes (λ l. is_short (l.item (flagged 95))) (λ l. is_short (l.item (flagged 95)) ≡ true)
        (λ l e. e) letters refl)
    by false true v is_t is_u is_v one = same 45 (eqb-true b 45 is_u)
        (each-passes (λ l. is_short (l.item (flagged 45))) (λ l. is_short (l.item (flagged 45)) ≡ true)
        (λ l e. e) letters refl)
    by false false true is_t is_u is_v one = same 48 (eqb-true b 48 is_v)
        (each-passes (λ l. is_short (l.item (flagged 48))) (λ l. is_short (l.item (flagged 48)) ≡ true)
        (λ l e. e) letters refl)
    by false false false is_t is_u is_v one = absurd cc

-- Literals.

either : (test : Bool) (x y : Text) (n : ℕ) → length x ≤ n → length y ≤ n
    → length (cond test x y) ≤ n
either true x y n left_fits right_fits = left_fits
either false x y n left_fits right_fits = right_fits

escaped-length : (bytes : Text) → length (escaped bytes) ≤ 2 * length bytes
escaped-length [] = omega arith
escaped-length (b ∷ bytes) =
    let more = escaped-length bytes in
    either (is_special b) (backslash ∷ b ∷ escaped bytes) (b ∷ escaped bytes) _
    (omega (arith, more)) (omega (arith, more))

-- All pieces.

directives-length : (ds : Directives) → AreDirectives ds
    → length (printed_all (trees (directive_items ds))) ≤ 53 * length (directives_text ds)
unfolding item_of
directives-length no_directives are = omega arith
directives-length (plain bytes rest) are =
    omega (
      arith,
      length-append (escaped bytes) (printed_all (trees (directive_items rest))),
      length-append bytes (directives_text rest),
      escaped-length bytes,
      directives-length rest are.2,
    )
directives-length (directive f b tree rest) are =
    omega (
      arith,
      length-append (printed tree) (printed_all (trees (directive_items rest))),
      length-append (flag_text f) (b ∷ directives_text rest),
      leb-true (length (printed tree)) 106
          (item_has (λ t. is_short t ≡ true) letters f b tree (letters_short f are.0) are.2),
      directives-length rest are.3,
    )

pub printed-length : (text answer : Text) (list : List Tree) → SpellsStrftime text list
    → answer ≡ printed_all (trees list) → length answer ≤ 53 * length text
printed-length text answer list s is =
    omega (
      arith,
      ap length is,
      ap (λ x. length (printed_all (trees x))) s.3,
      ap length s.2,
      directives-length s.0 s.1,
    )
