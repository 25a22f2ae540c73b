-- The texts of tokens.
use Rattle.std.specs.Prelude.{ℕ, ◌+◌, ◌-◌, Bool, true, false, ◌||◌, nat_le, if◌then◌else◌, List, [], ◌∷◌, codes, drop, bytes_eq, Option, Some, None}
use Rattle.std.specs.List.{slice_get}
use Rattle.timefd_lint_scan.specs.declared.piece.PlacedToken.{PlacedToken}
use Rattle.timefd_lint_scan.specs.declared.token.Token.{Token}
use Rattle.timefd_lint_scan.specs.declared.token.Token.TheVariants.{White, Comment, Word, Lifetime, Character, Literal, Sign, Unclosed}
use Rattle.timefd_lint_scan.specs.Bytes.{Text}
use Rattle.timefd_lint_scan.specs.Literals.{cut}

abbrev pub or_empty : Option Text → Text
or_empty None = []
or_empty (Some text) = text

-- the text of a token
abbrev pub text_of : Text → PlacedToken → Text
text_of source p = or_empty (cut source p)

abbrev pub word : Text → Option PlacedToken → Text
word source None = []
word source (Some p) = or_empty (cut source p)

-- the text of the token at an index; empty if there is none
abbrev pub text_at : Text → List PlacedToken → ℕ → Text
text_at source ps i = word source (slice_get ps i)

abbrev pub but_first : List PlacedToken → List PlacedToken
but_first [] = []
but_first (p ∷ ps) = ps

-- the tokens after the one at an index
abbrev pub tokens_after : List PlacedToken → ℕ → List PlacedToken
tokens_after ps i = but_first (drop i ps)

-- the text of the token `ahead` tokens after the one at an index
abbrev pub text_after : Text → List PlacedToken → ℕ → ℕ → Text
text_after source ps i ahead = text_at source ps (i + ahead)

-- the text of the token `back` tokens before the one at an index
abbrev pub text_before : Text → List PlacedToken → ℕ → ℕ → Text
text_before source ps i back = if nat_le back i then text_at source ps (i - back) else []

abbrev pub is_word_token : Token → Bool
is_word_token White = false
is_word_token Comment = false
is_word_token Word = true
is_word_token Lifetime = false
is_word_token Character = false
is_word_token (Literal kind) = false
is_word_token Sign = false
is_word_token Unclosed = false

abbrev pub is_word_piece : Option PlacedToken → Bool
is_word_piece None = false
is_word_piece (Some p) = is_word_token p.token

-- The token at an index is a word.
abbrev pub is_word_at : List PlacedToken → ℕ → Bool
is_word_at ps i = is_word_piece (slice_get ps i)

abbrev pub position_of_any : Option PlacedToken → ℕ
position_of_any None = 0
position_of_any (Some p) = p.start

-- where the token at an index begins; 0 if there is none
abbrev pub position_at : List PlacedToken → ℕ → ℕ
position_at ps i = position_of_any (slice_get ps i)

abbrev pub is_opening : Text → Bool
is_opening text = bytes_eq text (codes "(") || bytes_eq text (codes "[") || bytes_eq text (codes "{")

abbrev pub is_closing : Text → Bool
is_closing text = bytes_eq text (codes ")") || bytes_eq text (codes "]") || bytes_eq text (codes "}")
