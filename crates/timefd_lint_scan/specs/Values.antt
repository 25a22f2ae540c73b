-- Whether a token is a whole value of what is around it: of an argument, a block, an arm, an array.
use Rattle.std.specs.Prelude.{ℕ, ◌-◌, Bool, not, ◌&&◌, ◌||◌, if◌then◌else◌, List, codes, bytes_eq}
use Rattle.timefd_lint_scan.specs.declared.piece.PlacedToken.{PlacedToken}
use Rattle.timefd_lint_scan.specs.Bytes.{Text}
use Rattle.timefd_lint_scan.specs.Words.{is_closing, is_opening, text_before, text_after}

-- An equals sign after this token is part of a comparison or of an operator.
abbrev pub is_operator : Text → Bool
is_operator text =
    bytes_eq text (codes "=") || bytes_eq text (codes "!") || bytes_eq text (codes "<")
    || bytes_eq text (codes ">") || bytes_eq text (codes "+") || bytes_eq text (codes "|")

-- A token is the first one in the closure of `unwrap_or_else(|| ..)`.
abbrev pub begins_fallback : Text → List PlacedToken → ℕ → Bool
begins_fallback source ps i =
    bytes_eq (text_before source ps i 1) (codes "|") && bytes_eq (text_before source ps i 2) (codes "|")
    && bytes_eq (text_before source ps i 3) (codes "(") && bytes_eq (text_before source ps i 4) (codes "unwrap_or_else")

-- A value may begin after an opening bracket, `,`, `;`, `}`, `in`, `=>`, `=` and `unwrap_or_else(||`.
abbrev pub begins_value : Text → List PlacedToken → ℕ → Bool
begins_value source ps i =
    is_opening (text_before source ps i 1) || bytes_eq (text_before source ps i 1) (codes ",")
    || bytes_eq (text_before source ps i 1) (codes ";") || bytes_eq (text_before source ps i 1) (codes "}")
    || bytes_eq (text_before source ps i 1) (codes "in")
    || (bytes_eq (text_before source ps i 1) (codes ">") && bytes_eq (text_before source ps i 2) (codes "="))
    || (bytes_eq (text_before source ps i 1) (codes "=") && not (is_operator (text_before source ps i 2)))
    || begins_fallback source ps i

-- These methods pass a text on as it is.
abbrev pub hands_on : Text → Bool
hands_on method =
    bytes_eq method (codes "as_ref") || bytes_eq method (codes "as_str") || bytes_eq method (codes "into")
    || bytes_eq method (codes "to_string") || bytes_eq method (codes "to_owned")
    || bytes_eq method (codes "clone") || bytes_eq method (codes "iter") || bytes_eq method (codes "into_iter")

abbrev pub ends : Text → Bool
ends text = is_closing text || bytes_eq text (codes ",") || bytes_eq text (codes ";")

-- The value of a token is only said to be a text, and ends then: `as &str`.
abbrev pub is_said_a_text : Text → List PlacedToken → ℕ → Bool
is_said_a_text source ps i =
    bytes_eq (text_after source ps i 1) (codes "as") && bytes_eq (text_after source ps i 2) (codes "&")
    && bytes_eq (text_after source ps i 3) (codes "str") && ends (text_after source ps i 4)

-- A value may end before a closing bracket, `,` and `;`, or go on with `.as_ref()` or `as &str`.
abbrev pub ends_value : Text → List PlacedToken → ℕ → Bool
ends_value source ps i =
    ends (text_after source ps i 1)
    || (bytes_eq (text_after source ps i 1) (codes ".") && hands_on (text_after source ps i 2)
    && bytes_eq (text_after source ps i 3) (codes "(") && bytes_eq (text_after source ps i 4) (codes ")")
    && ends (text_after source ps i 5))
    || is_said_a_text source ps i

-- where a value begins that may be borrowed, `&F`, or dereferenced, `*f`
abbrev pub borrowed_at : Text → List PlacedToken → ℕ → ℕ
borrowed_at source ps i =
    if bytes_eq (text_before source ps i 1) (codes "&") || bytes_eq (text_before source ps i 1) (codes "*") then i - 1
    else i

abbrev pub is_begun : Text → List PlacedToken → ℕ → Bool
is_begun source ps i = begins_value source ps (borrowed_at source ps i)

-- A token is a whole value.
abbrev pub is_value : Text → List PlacedToken → ℕ → Bool
is_value source ps i = is_begun source ps i && ends_value source ps i
