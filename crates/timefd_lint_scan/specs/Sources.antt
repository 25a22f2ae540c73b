-- The tokens of a source, in order.
use Rattle.std.specs.Prelude.{ℕ, ◌≡◌, ◌-◌, List, [], ◌∷◌, length, Some}
use Rattle.timefd_lint_scan.specs.declared.piece.PlacedToken.{PlacedToken}
use Rattle.timefd_lint_scan.specs.Bytes.{Text}
use Rattle.timefd_lint_scan.specs.Tokens.{first}

-- A text at the end of a source of this length is these tokens, one after another, and nothing else.
abbrev pub AreTokens : ℕ → Text → List PlacedToken → Type 0
AreTokens len text [] = text ≡ []
AreTokens len text (p ∷ ps) = (rest : Text)
    × (first text ≡ Some (record { token = p.token; rest = rest }))
    × (p.start ≡ len - length text)
    × (p.end ≡ len - length rest)
    × AreTokens len rest ps
