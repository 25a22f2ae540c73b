-- Classes of bytes, and runs of them.
use Rattle.std.specs.Prelude.{ℕ, ◌+◌, Bool, true, false, not, ◌&&◌, ◌||◌, ◌==◌, nat_le, if◌then◌else◌, List, [], ◌∷◌, map, Option, Some, None, IsTrue, IsFalse, ⊤}
use Rattle.std.specs.List.{list_all}
use Rattle.timefd_lang_component.specs.Tree.{Text}
use Rattle.timefd_language.specs.declared.description_version.DescriptionVersion.{DescriptionVersion}
use Rattle.timefd_language.specs.declared.description_version.DescriptionVersion.TheVariants.{One, Two, Three}

-- `[`, `\`, `]`, `:`, `+`
abbrev pub left : ℕ
left = 91

abbrev pub backslash : ℕ
backslash = 92

abbrev pub right : ℕ
right = 93

abbrev pub colon : ℕ
colon = 58

abbrev pub plus : ℕ
plus = 43

abbrev pub is_white : ℕ → Bool
is_white b = (b == 9) || (b == 10) || (b == 12) || (b == 13) || (b == 32)

-- a byte that can be escaped
abbrev pub is_special : ℕ → Bool
is_special b = (b == left) || (b == right) || (b == backslash)

abbrev pub is_word_byte : ℕ → Bool
is_word_byte b = not (is_special b) && not (is_white b)

-- a byte of a key: the first colon of a word ends its key
abbrev pub is_key_byte : ℕ → Bool
is_key_byte b = not (b == colon) && is_word_byte b

abbrev pub is_version_one : DescriptionVersion → Bool
is_version_one One = true
is_version_one Two = false
is_version_one Three = false

abbrev pub is_version_three : DescriptionVersion → Bool
is_version_three One = false
is_version_three Two = false
is_version_three Three = true

-- a byte of a literal; a backslash is one in version 1 only
abbrev pub is_run_byte : DescriptionVersion → ℕ → Bool
is_run_byte v b = not (is_special b) || ((b == backslash) && is_version_one v)

-- bytes that all pass the test
abbrev pub ZeroOrMore : (ℕ → Bool) → Text → Type 0
ZeroOrMore test bytes = IsTrue (list_all test bytes)

abbrev pub OneOrMore : (ℕ → Bool) → Text → Type 0
OneOrMore test [] = ⊥
OneOrMore test (b ∷ bytes) = ZeroOrMore test (b ∷ bytes)

-- the text is empty, or its first byte doesn't pass
abbrev pub StopsBefore : (ℕ → Bool) → Text → Type 0
StopsBefore test [] = ⊤
StopsBefore test (b ∷ bytes) = IsFalse (test b)

-- turns A to Z into a to z
abbrev pub lowered : ℕ → ℕ
lowered b = if nat_le 65 b && nat_le b 90 then b + 32 else b

abbrev pub equal : Text → Text → Bool
equal [] [] = true
equal [] (_ ∷ _) = false
equal (_ ∷ _) [] = false
equal (a ∷ x) (b ∷ y) = (a == b) && equal x y

-- how names, keys and values are compared: exactly in version 3, ignoring ASCII case in versions 1 and 2
abbrev pub same : Bool → Text → Text → Bool
same true a b = equal a b
same false a b = equal (map lowered a) (map lowered b)

-- the first of a list with this name
abbrev pub named : {A : Type 0} → (A → Text) → Bool → Text → List A → Option A
named name strict text [] = None
named name strict text (x ∷ xs) = elim (same strict (name x) text)
    [ true ↦ Some x | false ↦ named name strict text xs ]
