-- Rules about strftime.
use Rattle.std.proofs.Common.{ℕ, ◌≡◌, ◌≢◌, ◌==◌, ◌||◌, ◌+◌, Bool, true, false, codes, if◌then◌else◌, List, [], ◌∷◌, ◌++◌, length, append-nil, Some, None, eqb-true, refl, sym, ap, ◌∙◌}
use Rattle.std.proofs.lemmas.Bool.{or_parts}
use Rattle.timefd_lang_component.specs.Tree.{Text}
use Rattle.timefd_lang_fault.specs.Faults.{fault, not_supported, invalid_name}
use Rattle.timefd_language.specs.Distinct.{letters_in}
use Rattle.timefd_language.specs.Fault.{raised}
use Rattle.timefd_language.specs.Letters.{Flag, unflagged, flagged, Letter, letters, is_one_of, item_in, item_of}
use Rattle.timefd_language.specs.Strftime.{flag_text, name_of, unknown_kind, no_directives, plain, directive, directives_text, IsAfter, cut_short, unknown}
use Rattle.timefd_laws.specs.Directives.{PlainIsLiteral, LetterIsItem, LetterWanted, LetterWantedAfterFlag, ModifierO, LetterZ, UnknownLetter}

pub plain_is_literal : PlainIsLiteral
plain_is_literal bytes are =
    (plain bytes no_directives, (are, tt, tt), sym (append-nil bytes), refl)

pub letter_is_item : LetterIsItem
letter_is_item f b tree flag after is =
    (directive f b tree no_directives, (flag, after, is, tt), refl, refl)

pub letter_wanted : LetterWanted
letter_wanted front are = (front, cut_short unflagged, are, tt, refl, refl)

pub letter_wanted_after_flag : LetterWantedAfterFlag
letter_wanted_after_flag front b are flag = (front, cut_short (flagged b), are, flag, refl, refl)

no_item_O : (f : Flag) → item_of f 79 ≡ None
unfolding item_of
no_item_O f = refl

no_item_Z : (f : Flag) → item_of f 90 ≡ None
unfolding item_of
no_item_Z f = refl

after_O : (f : Flag) → IsAfter f 79
after_O unflagged = refl
after_O (flagged b) = tt

after_Z : (f : Flag) → IsAfter f 90
after_Z unflagged = refl
after_Z (flagged b) = tt

pub modifier_O : ModifierO
modifier_O front f rest are flag =
    (front, unknown f 79 rest, are, (flag, after_O f, no_item_O f), refl, refl)

pub letter_Z : LetterZ
letter_Z front f rest are flag =
    (front, unknown f 90 rest, are, (flag, after_Z f, no_item_Z f), refl, refl)

-- Other letters.

is_one_of-append : (b : ℕ) (x y : Text) → is_one_of b (x ++ y) ≡ false
    → (is_one_of b x ≡ false) × (is_one_of b y ≡ false)
is_one_of-append b [] y e = (refl, e)
is_one_of-append b (c ∷ x) y e =
    let p = or_parts (b == c) (is_one_of b (x ++ y)) e in
    let q = is_one_of-append b x y p.1 in
    (ap (λ t. t || is_one_of b x) p.0 ∙ q.0, q.1)

no_item_in : (ls : List Letter) (f : Flag) (b : ℕ) → is_one_of b (letters_in ls) ≡ false
    → item_in ls f b ≡ None
no_item_in [] f b e = refl
no_item_in (l ∷ ls) f b e =
    let p = is_one_of-append b l.letters (letters_in ls) e in
    ap (λ t. elim t [ true ↦ Some (l.item f) | false ↦ item_in ls f b ]) p.0
    ∙ no_item_in ls f b p.1

no_item_of : (f : Flag) (b : ℕ) → is_one_of b (letters_in letters) ≡ false → item_of f b ≡ None
unfolding item_of
no_item_of f b e = no_item_in letters f b e

differ : (a b : ℕ) → a ≢ b → (a == b) ≡ false
differ a b other = by (a == b) refl
  where
    by : (t : Bool) → (a == b) ≡ t → t ≡ false
    by true e = absurd (other (eqb-true a b e))
    by false e = refl

other_kind : (b : ℕ) → b ≢ 79 → b ≢ 90 → invalid_name (name_of b) ≡ unknown_kind b
other_kind b o z =
    sym (ap (λ t. if t then not_supported (codes "modifier") []
    else if b == 90 then not_supported (codes "component") [] else invalid_name (name_of b))
    (differ b 79 o)
    ∙ ap (λ t. if t then not_supported (codes "component") [] else invalid_name (name_of b))
    (differ b 90 z))

pub unknown_letter : UnknownLetter
unknown_letter front f b rest are flag after none o z = (
  front,
  unknown f b rest,
  are,
  (flag, after, no_item_of f b none),
  refl,
  ap (λ kind. raised (fault kind (1 + length (flag_text f))) (length (directives_text front)))
      (other_kind b o z),
)
