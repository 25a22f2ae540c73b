-- Marks in a text that some language reads as a component: two adjacent bytes.
use Rattle.std.specs.Prelude.{ℕ, Bool, true, false, ◌&&◌, ◌||◌, ◌==◌, nat_le, if◌then◌else◌, [], ◌∷◌}
use Rattle.timefd_lang_component.specs.Tree.{Text}
use Rattle.timefd_lang_warnings.specs.declared.mark.ComponentMark.{ComponentMark}

-- a to z
abbrev pub is_small : ℕ → Bool
is_small b = nat_le 97 b && nat_le b 122

-- A to Z
abbrev pub is_capital : ℕ → Bool
is_capital b = nat_le 65 b && nat_le b 90

-- Y, y, M, D or H
abbrev pub is_pattern : ℕ → Bool
is_pattern b = (b == 89) || (b == 121) || (b == 77) || (b == 68) || (b == 72)

-- `%` before a letter, `[` or `{` before a small one, or a letter of patterns twice
abbrev pub is_mark : ComponentMark → ℕ → ℕ → Bool
is_mark ComponentMark.Percent a b = (a == 37) && (is_small b || is_capital b)
is_mark ComponentMark.Bracket a b = (a == 91) && is_small b
is_mark ComponentMark.Brace a b = (a == 123) && is_small b
is_mark ComponentMark.Twice a b = (a == b) && is_pattern a

abbrev pub is_at : ComponentMark → ℕ → Text → Bool
is_at mark a [] = false
is_at mark a (b ∷ bytes) = is_mark mark a b

abbrev pub is_somewhere : ComponentMark → Text → Bool
is_somewhere mark [] = false
is_somewhere mark (b ∷ bytes) = if is_at mark b bytes then true else is_somewhere mark bytes
