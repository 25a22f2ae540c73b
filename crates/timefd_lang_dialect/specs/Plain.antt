-- Bytes that are literal wherever they occur.
use Rattle.std.specs.Prelude.{ℕ, ◌==◌, ◌&&◌, ◌||◌, nat_le, not, Bool}
use Rattle.timefd_lang_dialect.specs.declared.dialect.Dialect.{Dialect}
use Rattle.timefd_lang_dialect.specs.declared.dialect.Dialect.TheVariants.{Python, C, Gnu, Chrono, Jiff, Ruby, Java, Go, Moment}
use Rattle.timefd_language.specs.Bytes.{is_special}

abbrev pub is_letter : ℕ → Bool
is_letter b = (nat_le 65 b && nat_le b 90) || (nat_le 97 b && nat_le b 122)

-- an apostrophe, or a byte that Java reserves
abbrev pub is_java_mark : ℕ → Bool
is_java_mark b = (((b == 35) || (b == 39)) || (b == 123)) || (b == 125)

-- `,`, `-`, `.`, and digits up to `6`
abbrev pub is_go_mark : ℕ → Bool
is_go_mark b = (nat_le 44 b && nat_le b 46) || (nat_le 48 b && nat_le b 54)

-- `J`, `M`, `P`, `Z`, `_` and `p`
abbrev pub is_go_letter : ℕ → Bool
is_go_letter b =
    ((((b == 74) || (b == 77)) || (b == 80)) || (b == 90)) || ((b == 95) || (b == 112))

-- a byte that a line's end begins with; two of these ends begin with 226
abbrev pub is_line_end : ℕ → Bool
is_line_end b = ((b == 10) || (b == 13)) || (b == 226)

-- a row or a quote can begin with the byte
abbrev pub may_begin : Dialect → ℕ → Bool
may_begin Python b = b == 37
may_begin C b = b == 37
may_begin Gnu b = b == 37
may_begin Chrono b = b == 37
may_begin Jiff b = b == 37
may_begin Ruby b = b == 37
may_begin Java b = is_letter b || is_java_mark b
may_begin Go b = is_go_mark b || is_go_letter b
may_begin Moment b = is_letter b || is_line_end b

abbrev pub is_plain : Dialect → ℕ → Bool
is_plain dialect b = not (is_special b) && not (may_begin dialect b)
