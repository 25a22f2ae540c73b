-- The laws of the definitions.
use Rattle.std.specs.Prelude.{ℕ, ◌≡◌, ◌≤◌, ◌↔◌, true, length}
use Rattle.timefd_lang_component.specs.declared.component.Component.{Component}
use Rattle.timefd_lang_component.specs.Tree.{Text, Tree}
use Rattle.timefd_lang_component.specs.Modern.{modern}
use Rattle.timefd_lang_component.specs.Reserved.{reserve}
use Rattle.timefd_lang_component.specs.Texts.{Renders}
use Rattle.timefd_lang_component.specs.Equality.{same_component}

-- A modern component is its own modern form.
abbrev pub ModernTwice : Type 0
ModernTwice = (c : Component) → modern (modern c) ≡ modern c

-- Some text with this property has k bytes, and none has more.
pub record IsGreatest (Has : Text → Type 0) (k : ℕ) : Type 0 where
  pub reached : (text : Text) × Has text × (length text ≡ k)
  pub most : (text : Text) → Has text → length text ≤ k

-- A tree reserves the length of its longest rendering.
abbrev pub ReservesGreatest : Type 0
ReservesGreatest = (t : Tree) → IsGreatest (Renders t) (reserve t)

-- Two components are `==` exactly if their variants and fields are equal.
abbrev pub ComponentEquality : Type 0
ComponentEquality = (a b : Component) → (same_component a b ≡ true) ↔ (a ≡ b)
