-- How it is found what a word after a text should be, by what precedes it.
use Rattle.std.specs.Prelude.{ℕ, ◌≡◌, ◌==◌, Bool, not, List, ◌∷◌, ◌++◌, Option, MatchOption}
use Rattle.std.specs.Borrow.{Bor}
use Rattle.timefd_parse.specs.Tree.{Text}
use Rattle.timefd_language.specs.Bytes.{left, is_word_byte, ZeroOrMore, StopsBefore}
use Rattle.timefd_language.specs.Head.{Head, Modifier, IsModifier, AreModifiers, modifier_text, modifiers_text}
use Rattle.timefd_language.specs.Slots.{EndsInHead}

abbrev pub is_inside : ℕ → Bool
is_inside b = not (b == left)

-- the end of a text from its last `[` on
pub record IsLastBracket (front bracket : Text) : Type 0 where
  pub before : Text
  pub inside : Text
  pub whole : front ≡ before ++ bracket
  pub opens : bracket ≡ left ∷ inside
  pub last : ZeroOrMore is_inside inside

abbrev pub BeginsNoModifier : Text → Type 0
BeginsNoModifier text =
    (m : Modifier) (after : Text) → IsModifier m → StopsBefore is_word_byte after
    → text ≡ modifier_text m ++ after → ⊥

-- The text is modifiers, and then this.
pub record IsAfterSome (text after : Text) : Type 0 where
  pub modifiers : List Modifier
  pub are : AreModifiers modifiers
  pub whole : text ≡ modifiers_text modifiers ++ after
  pub stops : StopsBefore is_word_byte after

-- what doesn't begin with a further modifier
pub record IsAfterAll (text after : Text) : Type 0 where
  pub some : IsAfterSome text after
  pub none : BeginsNoModifier after

-- No modifier follows, and no bracket.
pub record EndsHead (between : Text) : Type 0 where
  pub inside : ZeroOrMore is_inside between
  pub stops : StopsBefore is_word_byte between
  pub none : BeginsNoModifier between

-- a head's name, and what follows its modifiers
abbrev pub NamesHead : Text → Option (Bor (List ℕ) × Bor (List ℕ)) → Type 0
NamesHead front found =
    (h : Head) (between : Text) → EndsHead between → EndsInHead front h between
    → MatchOption found ⊥ (λ head. (head.0.now ≡ h.name) × (head.1.now ≡ between))

abbrev pub IsNamedHead : Text → Text → Text → Type 0
IsNamedHead front name between =
    (h : Head) × (name ≡ h.name) × EndsInHead front h between
