-- The string literals, as Rust's reference defines them.
use Rattle.std.specs.Prelude.{ℕ, ◌≡◌, Bool, true, not, ◌&&◌, ◌==◌, nat_le, if◌then◌else◌, [], ◌∷◌, ◌++◌, replicate, Some, IsTrue}
use Rattle.timefd_lint_scan.specs.declared.token.Encoding.{Encoding}
use Rattle.timefd_lint_scan.specs.declared.token.Encoding.TheVariants.{Str, Bytes, C}
use Rattle.timefd_lint_scan.specs.declared.token.LiteralKind.{LiteralKind}
use Rattle.timefd_lint_scan.specs.declared.token.LiteralKind.TheVariants.{Escaped, Raw}
use Rattle.timefd_lint_scan.specs.declared.token.Token.TheVariants.{Literal}
use Rattle.timefd_lint_scan.specs.Bytes.{Text, quote, hash, backslash}
use Rattle.timefd_lint_scan.specs.After.{hashes}
use Rattle.timefd_lint_scan.specs.Tokens.{first}

-- Between the quotes of a string: a byte follows each backslash, and none of the others is a quote.
abbrev pub is_body : Text → Bool
is_body [] = true
is_body (b ∷ []) = not (b == backslash) && not (b == quote)
is_body (b ∷ c ∷ bytes) =
    if b == backslash then is_body bytes else not (b == quote) && is_body (c ∷ bytes)

-- Between the quotes of a raw string: no quote is followed by as many `#` as close it.
abbrev pub is_raw_body : ℕ → Text → Text → Bool
is_raw_body n [] after = true
is_raw_body n (b ∷ bytes) after =
    not ((b == quote) && nat_le n (hashes (bytes ++ after))) && is_raw_body n bytes after

-- what a literal begins with: `b`, `c`
abbrev pub letters : Encoding → Text
letters Str = []
letters Bytes = 98 ∷ []
letters C = 99 ∷ []

abbrev pub opening : LiteralKind → Text
opening (Escaped e) = letters e ++ (quote ∷ [])
opening (Raw e n) = letters e ++ (114 ∷ (replicate n hash ++ (quote ∷ [])))

abbrev pub closing : LiteralKind → Text
closing (Escaped e) = quote ∷ []
closing (Raw e n) = quote ∷ replicate n hash

abbrev pub IsBody : LiteralKind → Text → Text → Type 0
IsBody (Escaped e) body after = IsTrue (is_body body)
IsBody (Raw e n) body after = IsTrue (is_raw_body n body after)

-- a literal, before what follows it
pub record IsLiteral (kind : LiteralKind) (text rest : Text) : Type 0 where
  pub body : Text
  pub whole : text ≡ opening kind ++ body ++ closing kind
  pub is : IsBody kind body (closing kind ++ rest)

-- What is read as a literal is one.
abbrev pub ReadAsLiterals : Type 0
ReadAsLiterals = (text rest : Text) (kind : LiteralKind)
    → first text ≡ Some (record { token = Literal kind; rest = rest })
    → (front : Text) × (text ≡ front ++ rest) × IsLiteral kind front rest
