-- A text of version 1 rewritten byte by byte. Brackets end at their first `]`.
use Rattle.std.specs.Prelude.{◌≡◌, ◌<◌, Bool, false, ◌&&◌, ◌||◌, ◌==◌, ◌⊎◌, if◌then◌else◌, [], ◌∷◌, ◌++◌, length, IsTrue}
use Rattle.std.specs.Str.{IsUtf8}
use Rattle.timefd_lang_component.specs.Tree.{Text}
use Rattle.timefd_language.specs.Bytes.{left, right, backslash, is_special}

abbrev mutual
  -- literals, with their escapes, up to the next component
  pub outside : Text → Text
  outside [] = []
  outside (b ∷ bytes) =
      if b == left then after_left bytes
      else if is_special b then backslash ∷ b ∷ outside bytes
      else b ∷ outside bytes

  -- after a `[`, which begins a component unless it is doubled
  pub after_left : Text → Text
  after_left [] = left ∷ []
  after_left (b ∷ bytes) =
      if b == left then backslash ∷ left ∷ outside bytes
      else left ∷ b ∷ (if b == right then outside bytes else inside bytes)

  -- a component, as it is
  pub inside : Text → Text
  inside [] = []
  inside (b ∷ bytes) = b ∷ (if b == right then outside bytes else inside bytes)

-- the front of the text, outside of components, is written with an escape
abbrev pub is_escaped : Text → Bool
is_escaped [] = false
is_escaped (b ∷ []) = (b == right) || (b == backslash)
is_escaped (b ∷ c ∷ bytes) = (b == right) || (b == backslash) || ((b == left) && (c == left))

abbrev pub EndsOrIsEscaped : Text → Type 0
EndsOrIsEscaped text = (text ≡ []) ⊎ IsTrue (is_escaped text)

-- the front of the text is written as this escape, and the rest follows
pub record IsEscape (text escape rest : Text) : Type 0 where
  pub written : outside text ≡ escape ++ outside rest
  pub utf8 : IsUtf8 rest
  pub shorter : length rest < length text
