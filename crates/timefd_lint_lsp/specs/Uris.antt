-- Paths that URIs name.
use Rattle.std.specs.Prelude.{ℕ, ◌+◌, ◌-◌, ◌*◌, ◌==◌, ◌&&◌, Bool, nat_lt, not, if◌then◌else◌, List, [], ◌∷◌, codes, Option, Some, None}
use Rattle.std.specs.declared.alloc.Global.{Global}
use Rattle.std.specs.declared.vec.Vec.{Vec}
use Rattle.timefd_lint_lsp.specs.declared.uri.DecodedByte as got

abbrev pub Text : Type 0
Text = List ℕ

abbrev pub items_any : Option (Vec ℕ Global) → Option Text
items_any None = None
items_any (Some bytes) = Some bytes.items

-- what follows a text, if another one begins with it
abbrev pub after_front : Text → Text → Option Text
after_front [] text = Some text
after_front (byte ∷ front) [] = None
after_front (byte ∷ front) (first ∷ text) = if first == byte then after_front front text else None

abbrev pub or_all : Option Text → Text → Text
or_all (Some rest) text = rest
or_all None text = text

-- A path begins with a slash.
abbrev pub rooted : Text → Option Text
rooted [] = None
rooted (byte ∷ bytes) = if byte == 47 then Some (byte ∷ bytes) else None

-- The path comes after the name of this host, or after none.
abbrev pub after_host : Option Text → Option Text
after_host None = None
after_host (Some rest) = rooted (or_all (after_front (codes "localhost") rest) rest)

-- the path of a `file` URI, as it is written
abbrev pub local_part : Text → Option Text
local_part uri = after_host (after_front (codes "file://") uri)

abbrev pub is_within : ℕ → ℕ → ℕ → Bool
is_within low high byte = not (nat_lt byte low) && not (nat_lt high byte)

-- the number that a digit of base 16 stands for
abbrev pub digit : ℕ → Option ℕ
digit byte =
    if is_within 48 57 byte then Some (byte - 48)
    else if is_within 65 70 byte then Some (byte - 55)
    else if is_within 97 102 byte then Some (byte - 87)
    else None

abbrev pub of_digits : Option ℕ → Option ℕ → Option ℕ
of_digits (Some high) (Some low) = Some (16 * high + low)
of_digits (Some high) None = None
of_digits None low = None

-- the byte of two digits
abbrev pub byte_of : ℕ → ℕ → Option ℕ
byte_of high low = of_digits (digit high) (digit low)

-- a byte, and what comes after it
pub record Piece : Type 0 where
  pub byte : ℕ
  pub rest : Text

abbrev pub seen : got.DecodedByte → Piece
seen piece = record { byte = piece.byte; rest = piece.rest.now }

abbrev pub piece_of : Option ℕ → Text → Option Piece
piece_of None rest = None
piece_of (Some byte) rest = Some (record { byte = byte; rest = rest })

-- The byte that a text begins with: two digits after a percent sign, or itself.
abbrev pub first_piece : Text → Option Piece
first_piece [] = None
first_piece (first ∷ []) = if first == 37 then None else piece_of (Some first) []
first_piece (first ∷ (high ∷ [])) = if first == 37 then None else piece_of (Some first) (high ∷ [])
first_piece (first ∷ (high ∷ (low ∷ rest))) =
    if first == 37 then piece_of (byte_of high low) rest else piece_of (Some first) (high ∷ low ∷ rest)

abbrev pub in_front : Option ℕ → Option Text → Option Text
in_front None text = None
in_front (Some byte) None = None
in_front (Some byte) (Some text) = Some (byte ∷ text)

-- the bytes that a text stands for; none if two digits don't follow each percent sign
abbrev pub decoded : Text → Option Text
decoded [] = Some []
decoded (first ∷ []) = if first == 37 then None else in_front (Some first) (decoded [])
decoded (first ∷ (high ∷ [])) = if first == 37 then None else in_front (Some first) (decoded (high ∷ []))
decoded (first ∷ (high ∷ (low ∷ rest))) =
    if first == 37 then in_front (byte_of high low) (decoded rest)
    else in_front (Some first) (decoded (high ∷ (low ∷ rest)))

abbrev pub decoded_any : Option Text → Option Text
decoded_any None = None
decoded_any (Some part) = decoded part

-- the path on this machine that a URI names
abbrev pub path_of : Text → Option Text
path_of uri = decoded_any (local_part uri)
