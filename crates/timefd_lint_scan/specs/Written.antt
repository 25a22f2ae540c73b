-- Texts that are written as the bodies of literals.
use Rattle.std.specs.Prelude.{ℕ, ◌≡◌, Bool, true, not, ◌&&◌, ◌==◌, nat_le, nat_lt, [], ◌∷◌, ◌++◌, length, Option, Some, None}
use Rattle.std.specs.List.{list_all}
use Rattle.timefd_lint_scan.specs.declared.token.Encoding.{Encoding}
use Rattle.timefd_lint_scan.specs.declared.token.Encoding.TheVariants.{Str, Bytes, C}
use Rattle.timefd_lint_scan.specs.declared.token.LiteralKind.{LiteralKind}
use Rattle.timefd_lint_scan.specs.declared.token.LiteralKind.TheVariants.{Escaped, Raw}
use Rattle.timefd_lint_scan.specs.Bytes.{Text, quote, backslash, carriage_return}
use Rattle.timefd_lint_scan.specs.After.{hashes}
use Rattle.timefd_lint_scan.specs.Escapes.{Placed, part_of, unescaped}
use Rattle.timefd_lint_scan.specs.Grammar.{IsBody, closing, is_body}

abbrev pub text_alone : Option Placed → Option Text
text_alone None = None
text_alone (Some p) = Some p.text

-- what a body denotes, wherever it is
abbrev pub text_in : LiteralKind → Text → Option Text
text_in kind body = text_alone (unescaped (length body) kind (length body) body)

-- A body denotes a text, and between its quotes it is the body of a literal by the grammar, whatever
-- follows.
pub record IsBodyFor (kind : LiteralKind) (text body : Text) : Type 0 where
  pub stands : text_in kind body ≡ Some text
  pub closes : (rest : Text) → IsBody kind body (closing kind ++ rest)

-- Whether a literal can denote a byte: a C string has no 0.
abbrev pub may_stand : Encoding → ℕ → Bool
may_stand Str b = true
may_stand Bytes b = true
may_stand C b = not (b == 0)

-- Whether a byte may be in a literal as it is: a byte string has only ASCII.
abbrev pub is_itself : Encoding → ℕ → Bool
is_itself Str b = true
is_itself Bytes b = nat_lt b 128
is_itself C b = true

-- Whether a byte can be in a raw literal: a carriage return can't.
abbrev pub may_stand_raw : Encoding → ℕ → Bool
may_stand_raw e b = not (b == carriage_return) && (may_stand e b && is_itself e b)

-- whether no quote of a text is followed by as many `#` as close a raw literal
abbrev pub closes_nowhere : ℕ → Text → Bool
closes_nowhere n [] = true
closes_nowhere n (b ∷ bytes) = not ((b == quote) && nat_le n (hashes bytes)) && closes_nowhere n bytes

-- Whether a literal of this kind can denote a text.
abbrev pub has_body : LiteralKind → Text → Bool
has_body (Escaped e) text = list_all (may_stand e) text
has_body (Raw e n) text = list_all (may_stand_raw e) text && closes_nowhere n text

-- whether this can be the body of a literal, whatever follows it
abbrev pub closes : LiteralKind → Text → Bool
closes (Escaped e) body = is_body body
closes (Raw e n) body = closes_nowhere n body

-- no quote, backslash or carriage return
abbrev pub is_plain : ℕ → Bool
is_plain b = not (b == quote) && (not (b == backslash) && not (b == carriage_return))

-- A piece of a body with escapes denotes one byte, and whatever follows it stays a body.
pub record Writes (e : Encoding) (b : ℕ) (piece : Text) : Type 0 where
  pub head : ℕ
  pub tail : Text
  pub whole : piece ≡ head ∷ tail
  pub reads : (rest : Text) → part_of (Escaped e) head (tail ++ rest) ≡ Some (record { stands = b ∷ []; rest = rest })
  pub keeps : (rest : Text) → is_body (head ∷ (tail ++ rest)) ≡ is_body rest

-- A body has such a piece for each byte of a text, in order.
abbrev pub IsWritten : Encoding → Text → Text → Type 0
IsWritten e [] body = body ≡ []
IsWritten e (b ∷ text) body = (piece : Text) × (rest : Text)
    × Writes e b piece × (body ≡ piece ++ rest) × IsWritten e text rest

-- one more piece
abbrev pub AddsPiece : Encoding → ℕ → Text → Text → Type 0
AddsPiece e b body more = (piece : Text) × Writes e b piece × (more ≡ body ++ piece)

-- One more byte in a literal of this kind: in a raw one as it is, else as a piece that denotes it.
abbrev pub AddsByte : LiteralKind → ℕ → Text → Text → Type 0
AddsByte (Escaped e) b body more = AddsPiece e b body more
AddsByte (Raw e n) b body more = more ≡ body ++ b ∷ []

-- whether a byte that has no letter is written as it is
abbrev pub is_shown : Encoding → ℕ → Bool
is_shown Str b = nat_le 32 b && not (b == 0x7F)
is_shown Bytes b = nat_le 32 b && nat_lt b 0x7F
is_shown C b = nat_le 32 b && not (b == 0x7F)
