-- Which characters a terminal would obey or hide, and which characters replace them.
use Rattle.std.specs.Prelude.{ℕ, ◌+◌, ◌-◌, Bool, List, [], ◌∷◌, ◌++◌, map, length, take, drop, chars, codes, nat_le, nat_lt, ◌==◌, ◌&&◌, if◌then◌else◌}
use Rattle.std.specs.List.{list_any}
use Rattle.std.specs.Str.{IsUtf8, NonePass, encode_utf8_all}
use Rattle.timefd_lang_component.specs.Tree.{Text}

-- Whether a code is in a range, which includes both ends.
abbrev pub is_between : ℕ × ℕ → ℕ → Bool
is_between ends c = nat_le ends.0 c && nat_le c ends.1

-- Control characters, line and paragraph separators, characters that change the direction of text, and those
-- that are ignored if they can't be shown, variation selectors among them.
abbrev pub hidden_ranges : List (ℕ × ℕ)
hidden_ranges =
    (0x0, 0x1F) ∷ (0x7F, 0x9F) ∷ (0xAD, 0xAD) ∷ (0x34F, 0x34F) ∷ (0x61C, 0x61C) ∷ (0x115F, 0x1160)
    ∷ (0x17B4, 0x17B5) ∷ (0x180B, 0x180F) ∷ (0x200B, 0x200F) ∷ (0x2028, 0x202E) ∷ (0x2060, 0x206F)
    ∷ (0x3164, 0x3164) ∷ (0xFE00, 0xFE0F) ∷ (0xFEFF, 0xFEFF) ∷ (0xFFA0, 0xFFA0) ∷ (0xFFF0, 0xFFFB)
    ∷ (0x1BCA0, 0x1BCA3) ∷ (0x1D173, 0x1D17A) ∷ (0xE0000, 0xE0FFF) ∷ []

abbrev pub is_hidden : ℕ → Bool
is_hidden c = list_any (λ ends. is_between ends c) hidden_ranges

-- A byte that a terminal shows as it is: a printing one of ASCII.
abbrev pub is_printable : ℕ → Bool
is_printable b = is_between (0x20, 0x7E) b

-- The picture of a control character of ASCII, and the replacement character for any other hidden one.
abbrev pub shown : ℕ → ℕ
shown c =
    if nat_lt c 0x20 then 0x2400 + c
    else if c == 0x7F then 0x2421
    else if is_hidden c then 0xFFFD
    else c

abbrev pub safe : Text → Text
safe text = encode_utf8_all (map shown (chars text))

-- The first or last characters of a text, with a mark if some are left out.
abbrev pub cut_end : ℕ → Text → Text
cut_end most text =
    if nat_lt most (length (chars text))
    then encode_utf8_all (take most (chars text)) ++ codes ".."
    else text

abbrev pub cut_start : ℕ → Text → Text
cut_start most text =
    if nat_lt most (length (chars text))
    then codes ".." ++ encode_utf8_all (drop (length (chars text) - most) (chars text))
    else text

-- How many characters are shown of the text before a span, of the span, and of the text after it; and how
-- many of a word in a sentence.
abbrev pub most_shown : ℕ
most_shown = 40

abbrev pub most_of_a_word : ℕ
most_of_a_word = 80

-- No character of a safe text is hidden.
abbrev pub NoneIsHidden : Type 0
NoneIsHidden = (text : Text) → IsUtf8 text → NonePass is_hidden (chars (safe text))
