-- The length of a content, as said by the head before it.
use Rattle.std.specs.Prelude.{ℕ, ◌+◌, ◌-◌, ◌*◌, ◌^◌, Bool, true, false, ◌&&◌, ◌||◌, List, [], ◌∷◌, Option, Some, None, codes, drop, nat_eq, nat_lt, nat_le, unwrap_or, is_some, if◌then◌else◌}
use Rattle.std.specs.Char.{to_ascii_lowercase}

-- whether bytes begin with a lower-case letter, or with its upper-case form
abbrev pub begins_with_letter : List ℕ → ℕ → Bool
begins_with_letter [] letter = false
begins_with_letter (byte ∷ after) letter = nat_eq (to_ascii_lowercase byte) letter

-- whether the bytes begin with a name in lower case, in upper or lower case
abbrev pub begins_with : List ℕ → List ℕ → Bool
begins_with [] bytes = true
begins_with (letter ∷ letters) bytes =
    if begins_with_letter bytes letter then begins_with letters (drop 1 bytes) else false

abbrev pub is_named : List ℕ → Bool
is_named bytes = begins_with (codes "content-length:") bytes

-- the number with one more digit; a number of at least 2^40 takes none
abbrev pub with_digit : Option ℕ → ℕ → Option ℕ
with_digit value byte =
    if nat_lt byte 48 || nat_lt 57 byte || nat_le (2 ^ 40) (unwrap_or value 0) then None
    else Some (unwrap_or value 0 * 10 + (byte - 48))

-- a space or a tab
abbrev pub is_white : ℕ → Bool
is_white byte = nat_eq byte 32 || nat_eq byte 9

-- whether nothing but white space comes before the end of the line
abbrev pub ends_line : List ℕ → Bool
ends_line [] = false
ends_line (byte ∷ after) = if is_white byte then ends_line after else nat_eq byte 13

-- the number so far, followed by the digits up to white space or the end of the line
abbrev pub number_from : Option ℕ → List ℕ → Option ℕ
number_from value [] = None
number_from value (byte ∷ after) =
    if is_some (with_digit value byte) then number_from (with_digit value byte) after
    else if ends_line (byte ∷ after) then value
    else None

abbrev pub number : List ℕ → Option ℕ
number bytes = number_from None bytes

abbrev pub after_white : List ℕ → Option ℕ
after_white [] = number []
after_white (byte ∷ after) =
    if is_white byte then after_white after else number (byte ∷ after)

-- the number after the first colon
abbrev pub value_of : List ℕ → Option ℕ
value_of [] = None
value_of (byte ∷ after) = if nat_eq byte 58 then after_white after else value_of after

abbrev pub length_from : Bool → List ℕ → Option ℕ
length_from begins_line [] = None
length_from begins_line (byte ∷ after) =
    if begins_line && is_named (byte ∷ after) then value_of (byte ∷ after)
    else length_from (nat_eq byte 10) after

-- the number in the first line with the name
abbrev pub length_in : List ℕ → Option ℕ
length_in head = length_from true head
