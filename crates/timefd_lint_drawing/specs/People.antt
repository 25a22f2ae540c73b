-- What people see of a text at a terminal.
use Rattle.std.specs.Prelude.{ℕ, ◌≡◌, Bool, true, not, ◌&&◌, ◌||◌, ◌==◌, nat_le, List, [], ◌∷◌, chars, length, slice_index, if◌then◌else◌, ⊤}
use Rattle.std.specs.Str.{encode_utf8_all}
use Rattle.std.specs.Str.Lossy.{utf8_lossy}
use Rattle.timefd_lang_component.specs.Tree.{Text}
use Rattle.timefd_lint_drawing.specs.Shown.{is_hidden, is_printable, shown}

-- The digits of red, yellow and blue.
abbrev pub is_color : ℕ → Bool
is_color c = (c == 49) || ((c == 51) || (c == 54))

-- What follows an escape that ends colours, `[0m`, and one that begins a colour, `[1;31m`.
abbrev pub begins_plain : List ℕ → Bool
begins_plain after_span =
    nat_le 3 (length after_span) && ((slice_index after_span 0 == 91) && ((slice_index after_span 1 == 48)
    && (slice_index after_span 2 == 109)))

abbrev pub begins_bold : List ℕ → Bool
begins_bold after_span =
    nat_le 6 (length after_span) && ((slice_index after_span 0 == 91) && ((slice_index after_span 1 == 49)
    && ((slice_index after_span 2 == 59) && ((slice_index after_span 3 == 51)
    && (is_color (slice_index after_span 4) && (slice_index after_span 5 == 109))))))

abbrev pub begins_color : List ℕ → Bool
begins_color after_span = begins_plain after_span || begins_bold after_span

-- Whether an escape begins a colour of messages, if there are colours.
abbrev pub is_paint : Bool → ℕ → List ℕ → Bool
is_paint colored c after_span = colored && ((c == 27) && begins_color after_span)

-- What people see of a character that others follow: a newline ends the line, an escape begins or ends a
-- colour, and any other character is shown as it is or by a visible one.
abbrev pub seen_of : Bool → ℕ → List ℕ → ℕ
seen_of colored c after_span = if (c == 10) || is_paint colored c after_span then c else shown c

abbrev pub all_seen_of : Bool → List ℕ → List ℕ
all_seen_of colored [] = []
all_seen_of colored (c ∷ after_span) = seen_of colored c after_span ∷ all_seen_of colored after_span

-- What people see of bytes, with U+FFFD for what isn't UTF-8.
abbrev pub for_people : Bool → Text → Text
for_people colored text = encode_utf8_all (all_seen_of colored (chars (utf8_lossy text)))

-- A byte that they see as it is.
abbrev pub is_plain : ℕ → Bool
is_plain b = (b == 10) || is_printable b

-- Each character of a text is seen as it is: it isn't hidden, or it ends a line, or begins or ends a colour.
abbrev pub AllSeen : Bool → List ℕ → Type 0
AllSeen colored [] = ⊤
AllSeen colored (c ∷ after_span) =
    ((not (is_hidden c) || ((c == 10) || is_paint colored c after_span)) ≡ true)
    × AllSeen colored after_span
