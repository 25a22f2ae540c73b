-- The text of a literal in a source.
use Rattle.std.specs.Prelude.{ℕ, ◌≡◌, ◌≤◌, ◌-◌, ◌&&◌, nat_le, nat_lt, if◌then◌else◌, [], ◌∷◌, length, take, drop, Option, Some, None}
use Rattle.timefd_lint_scan.specs.declared.class.ByteSet.TheVariants.{Unquoted}
use Rattle.timefd_lint_scan.specs.declared.piece.PlacedToken.{PlacedToken}
use Rattle.timefd_lint_scan.specs.declared.token.LiteralKind.{LiteralKind}
use Rattle.timefd_lint_scan.specs.declared.token.LiteralKind.TheVariants.{Escaped, Raw}
use Rattle.timefd_lint_scan.specs.Bytes.{Text, class_test}
use Rattle.timefd_lint_scan.specs.After.{after_run}
use Rattle.timefd_lint_scan.specs.Escapes.{Placed, unescaped}

abbrev pub hash_count : LiteralKind → ℕ
hash_count (Escaped e) = 0
hash_count (Raw e n) = n

-- from after the opening quote up to the closing one
abbrev pub inner : LiteralKind → Text → Option Text
inner kind [] = None
inner kind (b ∷ bytes) =
    if nat_lt (hash_count kind) (length bytes) then Some (take (length bytes - hash_count kind - 1) bytes)
    else None

-- what is between the quotes of a literal
abbrev pub body : LiteralKind → Text → Option Text
body kind literal = inner kind (after_run (class_test Unquoted) literal)

-- the bytes of a token
abbrev pub cut : Text → PlacedToken → Option Text
cut source p =
    if nat_le p.start p.end && nat_le p.end (length source) then Some (take (p.end - p.start) (drop p.start source))
    else None

abbrev pub body_text : LiteralKind → ℕ → Option Text → Option Placed
body_text kind end None = None
body_text kind end (Some bytes) = unescaped (length bytes) kind end bytes

abbrev pub text_of : LiteralKind → ℕ → Option Text → Option Placed
text_of kind end None = None
text_of kind end (Some literal) = body_text kind end (body kind literal)

-- the position of the closing quote
abbrev pub body_end : PlacedToken → LiteralKind → ℕ
body_end p kind = p.end - hash_count kind - 1

abbrev pub literal_text : Text → PlacedToken → LiteralKind → Option Placed
literal_text source p kind = text_of kind (body_end p kind) (cut source p)

abbrev pub inside_of : LiteralKind → Option Text → Option Text
inside_of kind None = None
inside_of kind (Some literal) = body kind literal

-- what is between the quotes of a literal of the source
abbrev pub inside : Text → PlacedToken → LiteralKind → Option Text
inside source p kind = inside_of kind (cut source p)

-- The source has these bytes before the position `end`.
pub record EndsAt (source : Text) (end : ℕ) (bytes : Text) : Type 0 where
  pub within : end ≤ length source
  pub are : bytes ≡ take (length bytes) (drop (end - length bytes) source)
