-- `==` of faults.
use Rattle.std.proofs.Common.{refl, true, ◌≡◌, ◌&&◌, ◌∙◌, ap, eqb-true, eq-eqb, nat_eq, ℕ, subst, string_bytes}
use Rattle.std.specs.Cmp.Lexicographic.{pointwise, pointwise_decides}
use Rattle.std.proofs.lemmas.Bool.Decides.{Decides-eqb}
use Rattle.std.proofs.lemmas.Bool.{and_parts, and_from, false≢true}
use Rattle.timefd_lang_fault.specs.declared.invalid_format_description.InvalidFormatDescription.{InvalidFormatDescription}
use Rattle.timefd_lang_fault.specs.declared.invalid_format_description.InvalidFormatDescription.TheVariants.{UnclosedOpeningBracket, InvalidComponentName, InvalidModifier, MissingComponentName, MissingRequiredModifier, Expected, NotSupported, DuplicateModifier, InvalidModifierCombination}
use Rattle.timefd_lang_fault.specs.Equality.{same_fault}
use Rattle.timefd_lang_fault.specs.Faults.{Text, Kind, Fault, fault, fault_of, unclosed_bracket, invalid_name, invalid_modifier, missing_name, missing_modifier, expected, not_supported, duplicate_modifier, invalid_combination}
use Rattle.timefd_lang_fault.specs.Laws.{FaultEquality}

text_same : (a : Text) → pointwise nat_eq a a ≡ true
text_same a = (pointwise_decides Decides-eqb a a).1 refl

text_sound : (a b : Text) → pointwise nat_eq a b ≡ true → a ≡ b
text_sound a b e = (pointwise_decides Decides-eqb a b).0 e

-- one text and an index
worded : (kind : Text → Kind) (a b : Text) (i j : ℕ) → (pointwise nat_eq a b && nat_eq i j) ≡ true
    → fault (kind a) i ≡ fault (kind b) j
worded kind a b i j e =
    let p = and_parts (pointwise nat_eq a b) (nat_eq i j) e in
    ap (λ t. fault (kind t) i) (text_sound a b p.0) ∙ ap (fault (kind b)) (eqb-true i j p.1)

-- two texts and an index
worded_twice : (kind : Text → Text → Kind) (a b c d : Text) (i j : ℕ)
    → (pointwise nat_eq a b && (pointwise nat_eq c d && nat_eq i j)) ≡ true
    → fault (kind a c) i ≡ fault (kind b d) j
worded_twice kind a b c d i j e =
    let p = and_parts (pointwise nat_eq a b) (pointwise nat_eq c d && nat_eq i j) e in
    ap (λ t. fault (kind t c) i) (text_sound a b p.0) ∙ worded (kind b) c d i j p.1

fault_sound : (a b : InvalidFormatDescription) → same_fault a b ≡ true → fault_of a ≡ fault_of b
fault_sound (UnclosedOpeningBracket i) (UnclosedOpeningBracket j) e =
    ap (fault unclosed_bracket) (eqb-true i j e)
fault_sound (InvalidComponentName a i) (InvalidComponentName b j) e =
    worded invalid_name (string_bytes a) (string_bytes b) i j e
fault_sound (InvalidModifier a i) (InvalidModifier b j) e =
    worded invalid_modifier (string_bytes a) (string_bytes b) i j e
fault_sound (MissingComponentName i) (MissingComponentName j) e =
    ap (fault missing_name) (eqb-true i j e)
fault_sound (MissingRequiredModifier a i) (MissingRequiredModifier b j) e =
    worded missing_modifier a.now b.now i j e
fault_sound (Expected a i) (Expected b j) e = worded expected a.now b.now i j e
fault_sound (NotSupported a c i) (NotSupported b d j) e =
    worded_twice not_supported a.now b.now c.now d.now i j e
fault_sound (DuplicateModifier a i) (DuplicateModifier b j) e =
    worded duplicate_modifier a.now b.now i j e
fault_sound (InvalidModifierCombination a c i) (InvalidModifierCombination b d j) e =
    worded_twice invalid_combination a.now b.now c.now d.now i j e
fault_sound _ _ e = absurd (false≢true e)

texts_same : (a b : Text) → a ≡ b → pointwise nat_eq a b ≡ true
texts_same a b e = subst (λ t. pointwise nat_eq a t ≡ true) e (text_same a)

same_positions : (k l : Kind) (i j : ℕ) → fault k i ≡ fault l j → nat_eq i j ≡ true
same_positions k l i j e = eq-eqb i j (ap (λ (f : Fault). f.index) e)

one_text : (a b : Text) (k l : Kind) (i j : ℕ) → a ≡ b → fault k i ≡ fault l j
    → (pointwise nat_eq a b && nat_eq i j) ≡ true
one_text a b k l i j p e = and_from (pointwise nat_eq a b) (nat_eq i j) (texts_same a b p)
    (same_positions k l i j e)

two_texts : (a b c d : Text) (k l : Kind) (i j : ℕ) → a ≡ b → c ≡ d → fault k i ≡ fault l j
    → (pointwise nat_eq a b && (pointwise nat_eq c d && nat_eq i j)) ≡ true
two_texts a b c d k l i j p q e =
    and_from (pointwise nat_eq a b) (pointwise nat_eq c d && nat_eq i j) (texts_same a b p)
    (one_text c d k l i j q e)

kinds : (f g : Fault) → f ≡ g → f.kind ≡ g.kind
kinds f g e = ap (λ (h : Fault). h.kind) e

fault_same : (a b : InvalidFormatDescription) → fault_of a ≡ fault_of b → same_fault a b ≡ true
fault_same (UnclosedOpeningBracket i) (UnclosedOpeningBracket j) e = same_positions _ _ i j e
fault_same (InvalidComponentName a i) (InvalidComponentName b j) e =
    let k = kinds _ _ e in one_text (string_bytes a) (string_bytes b) _ _ i j (cc) e
fault_same (InvalidModifier a i) (InvalidModifier b j) e =
    let k = kinds _ _ e in one_text (string_bytes a) (string_bytes b) _ _ i j (cc) e
fault_same (MissingComponentName i) (MissingComponentName j) e = same_positions _ _ i j e
fault_same (MissingRequiredModifier a i) (MissingRequiredModifier b j) e =
    let k = kinds _ _ e in one_text a.now b.now _ _ i j (cc) e
fault_same (Expected a i) (Expected b j) e = let k = kinds _ _ e in
    one_text a.now b.now _ _ i j (cc) e
fault_same (NotSupported a c i) (NotSupported b d j) e =
    let k = kinds _ _ e in two_texts a.now b.now c.now d.now _ _ i j (cc) (cc) e
fault_same (DuplicateModifier a i) (DuplicateModifier b j) e =
    let k = kinds _ _ e in one_text a.now b.now _ _ i j (cc) e
fault_same (InvalidModifierCombination a c i) (InvalidModifierCombination b d j) e =
    let k = kinds _ _ e in two_texts a.now b.now c.now d.now _ _ i j (cc) (cc) e
fault_same a b e = let k = kinds (fault_of a) (fault_of b) e in absurd (cc)

pub fault_equality_law : FaultEquality
fault_equality_law a b = (fault_sound a b, fault_same a b)
