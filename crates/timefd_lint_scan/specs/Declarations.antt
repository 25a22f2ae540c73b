-- Whether a name is declared again between two positions.
use Rattle.std.specs.Prelude.{ℕ, ◌-◌, Bool, true, false, not, ◌&&◌, ◌||◌, ◌==◌, nat_le, if◌then◌else◌, List, [], ◌∷◌, codes, bytes_eq}
use Rattle.timefd_lint_scan.specs.declared.piece.PlacedToken.{PlacedToken}
use Rattle.timefd_lint_scan.specs.declared.token.Token.{Token}
use Rattle.timefd_lint_scan.specs.Bytes.{Text}
use Rattle.timefd_lint_scan.specs.Words.{is_closing, is_word_token, text_at, text_of}

-- The word after this one is a name that is being declared.
abbrev pub is_declaring : Text → Bool
is_declaring word =
    bytes_eq word (codes "let") || bytes_eq word (codes "const") || bytes_eq word (codes "static")
    || bytes_eq word (codes "fn") || bytes_eq word (codes "mut")

-- This token may be between a name and the end of its pattern.
abbrev pub goes_on : Token → Text → Bool
goes_on token text =
    is_closing text || bytes_eq text (codes ",") || bytes_eq text (codes ".") || bytes_eq text (codes "&")
    || (is_word_token token && not (is_declaring text))

-- A pattern whose names are valid immediately ends before this: `|`, `@`, `in`, `=>`.
abbrev pub ends_pattern : Text → Text → List PlacedToken → Bool
ends_pattern source text after =
    bytes_eq text (codes "|") || bytes_eq text (codes "@") || bytes_eq text (codes "in")
    || (bytes_eq text (codes "=") && bytes_eq (text_at source after 0) (codes ">"))

-- A pattern that a value is assigned to ends before this: `=`, but not `=>` and `==`.
abbrev pub ends_assigned : Text → Text → List PlacedToken → Bool
ends_assigned source text after =
    bytes_eq text (codes "=") && not (bytes_eq (text_at source after 0) (codes ">"))
    && not (bytes_eq (text_at source after 0) (codes "="))

abbrev pub most_tokens : ℕ
most_tokens = 16

-- A name before these tokens may be in a pattern whose names are valid immediately: the pattern ends within
-- the next `left` tokens, or goes on after them.
abbrev pub is_in_pattern : Text → ℕ → List PlacedToken → Bool
is_in_pattern source left [] = false
is_in_pattern source left (p ∷ ps) =
    if left == 0 then true
    else if ends_pattern source (text_of source p) ps then true
    else if goes_on p.token (text_of source p) then is_in_pattern source (left - 1) ps
    else false

-- A name before these tokens is in a pattern that a value is assigned to, which ends within the next `left`
-- tokens.
abbrev pub is_assigned : Text → ℕ → List PlacedToken → Bool
is_assigned source left [] = false
is_assigned source left (p ∷ ps) =
    if left == 0 then false
    else if ends_assigned source (text_of source p) ps then true
    else if goes_on p.token (text_of source p) then is_assigned source (left - 1) ps
    else false

-- A statement ends or a block begins among these tokens before a position. From there on a name is valid that
-- a value was assigned to before these tokens.
abbrev pub has_begun : Text → ℕ → List PlacedToken → Bool
has_begun source position [] = false
has_begun source position (p ∷ ps) =
    if nat_le position p.start then false
    else if bytes_eq (text_of source p) (codes ";") || bytes_eq (text_of source p) (codes "{") then true
    else has_begun source position ps

-- `name: T`
abbrev pub has_type : Text → List PlacedToken → Bool
has_type source after =
    bytes_eq (text_at source after 0) (codes ":") && not (bytes_eq (text_at source after 1) (codes ":"))

-- A name between `before` and `after` may be declared there, so that it is valid at a later position. If
-- that isn't certain, it is assumed.
abbrev pub is_declared : Text → ℕ → Text → List PlacedToken → Bool
is_declared source position before after =
    if bytes_eq before (codes "let") || is_assigned source most_tokens after then has_begun source position after
    else is_declaring before || bytes_eq before (codes "|") || bytes_eq before (codes "ref")
    || has_type source after || is_in_pattern source most_tokens after

-- One of these tokens may declare a name before a position. The word `before` precedes the tokens.
abbrev pub is_declared_before : Text → Text → ℕ → Text → List PlacedToken → Bool
is_declared_before source name position before [] = false
is_declared_before source name position before (p ∷ ps) =
    if nat_le position p.start then false
    else if bytes_eq (text_of source p) name && is_declared source position before ps then true
    else is_declared_before source name position (text_of source p) ps

-- These tokens declare an item or a variable with this name.
abbrev pub is_named : Text → Text → ℕ → Text → List PlacedToken → Bool
is_named source name position before [] = false
is_named source name position before (p ∷ ps) =
    if nat_le position p.start then false
    else if bytes_eq (text_of source p) name && is_declaring before then true
    else is_named source name position (text_of source p) ps
