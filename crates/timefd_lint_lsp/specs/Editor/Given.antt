-- The keys that a bracket already has.
use Rattle.std.specs.Prelude.{ℕ, ◌==◌, Bool, true, false, ◌&&◌, ◌||◌, nat_le, nat_lt, List, [], ◌∷◌, length, slice_index, take, if◌then◌else◌}
use Rattle.timefd_parse.specs.Tree.{Text}
use Rattle.timefd_language.specs.Bytes.{colon, is_special, is_white, left, same}

-- whether a text begins with a word, as the version compares words
abbrev pub begins : Bool → Text → Text → Bool
begins strict word text = nat_le (length word) (length text) && same strict word (take (length word) text)

-- whether the byte at an index is a colon
abbrev pub is_colon : Text → ℕ → Bool
is_colon text index = nat_lt index (length text) && (slice_index text index == colon)

-- whether a text begins with a key and its colon
abbrev pub begins_key : Bool → Text → Text → Bool
begins_key strict key text = begins strict key text && is_colon text (length key)

-- whether a key follows a byte, which is white then
abbrev pub has_key : Bool → Text → ℕ → Text → Bool
has_key strict key b after = is_white b && begins_key strict key after

-- whether a key is given up to a byte, which other bytes follow: a bracket begins with none
abbrev pub given_by : Bool → Text → Bool → ℕ → Text → Bool
given_by strict key given b after = if b == left then false else given || has_key strict key b after

abbrev pub given_from : Bool → Text → Bool → Text → Bool
given_from strict key given [] = given
given_from strict key given (b ∷ after) = given_from strict key (given_by strict key given b after) after

-- whether a key is given in the bracket that a text ends in
abbrev pub is_given_before : Bool → Text → Text → Bool
is_given_before strict key text = given_from strict key false text

-- whether a key is given in a text before its first bracket or backslash
abbrev pub is_given_after : Bool → Text → Text → Bool
is_given_after strict key [] = false
is_given_after strict key (b ∷ after) =
    if is_special b then false else if has_key strict key b after then true else is_given_after strict key after
