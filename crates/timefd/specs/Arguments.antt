-- What the words after the program's name ask for.
use Rattle.std.specs.Prelude.{ℕ, Bool, ◌&&◌, nat_le, List, [], ◌∷◌, length, Option, Some, None, option_map, codes, bytes_eq, if◌then◌else◌}
use Rattle.std.specs.Option.{option_and_then}
use Rattle.std.specs.Str.{all_ascii_digits}
use Rattle.std.specs.Str.Parse.{digits_value}
use Rattle.timefd_parse.specs.Tree.{Text}
use Rattle.timefd_parse.specs.Grammar.{nesting_limit}
use Rattle.timefd.specs.declared.kind.Kind.{Kind}
use Rattle.timefd.specs.declared.kind.Kind.TheVariants.{One, Two, Three, Strftime}

abbrev pub kind_named : Text → Option Kind
kind_named word =
    if bytes_eq word (codes "1") then Some One
    else if bytes_eq word (codes "2") then Some Two
    else if bytes_eq word (codes "3") then Some Three
    else if bytes_eq word (codes "strftime") then Some Strftime
    else None

-- one to three decimal digits of a value that is no more than the nesting limit
abbrev pub is_limit : Text → Bool
is_limit word =
    nat_le 1 (length word) && nat_le (length word) 3
    && all_ascii_digits word && nat_le (digits_value 10 word) nesting_limit

abbrev pub limit_named : Text → Option ℕ
limit_named word = if is_limit word then Some (digits_value 10 word) else None

-- Strftime nests nothing, and takes no limit.
abbrev pub with_limit : Option ℕ → Kind → Option (Kind × ℕ)
with_limit limit One = option_map (λ n. (One, n)) limit
with_limit limit Two = option_map (λ n. (Two, n)) limit
with_limit limit Three = option_map (λ n. (Three, n)) limit
with_limit limit Strftime = None

-- the kind, and how many nested descriptions there may be around one another
abbrev pub arguments : List Text → Option (Kind × ℕ)
arguments [] = None
arguments (word ∷ []) = option_map (λ kind. (kind, nesting_limit)) (kind_named word)
arguments (word ∷ limit ∷ []) = option_and_then (with_limit (limit_named limit)) (kind_named word)
arguments (word ∷ limit ∷ other ∷ words) = None
