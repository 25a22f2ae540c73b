-- What is written of a text and around it, and what is written instead of it.
use Rattle.std.specs.Prelude.{ℕ, ◌≡◌, Bool, ◌||◌, nat_eq, List, [], ◌∷◌, ◌++◌, codes, Option, if◌then◌else◌, IsTrue, ⊤}
use Rattle.std.specs.Io.KnownBytes.{Appends}
use Rattle.std.specs.List.{list_any, starts_with}
use Rattle.timefd_lang_component.specs.Tree.{Text}
use Rattle.timefd_format.specs.declared.frame.LineFrame.{LineFrame}
use Rattle.timefd_format.specs.declared.frame.LineFrame.TheVariants.{Line, Field}
use Rattle.timefd_format.specs.declared.otherwise.Otherwise.{Otherwise}
use Rattle.timefd_format.specs.declared.otherwise.Otherwise.TheVariants as otherwise
use Rattle.timefd_format.specs.declared.outcome.RunError.{RunError}
use Rattle.timefd_format.specs.declared.outcome.RunError.TheVariants as stops

-- In a field with quotes each quote is doubled.
abbrev pub doubled_byte : ℕ → Text
doubled_byte b = if nat_eq b 34 then 34 ∷ 34 ∷ [] else b ∷ []

abbrev pub doubled : Text → Text
doubled [] = []
doubled (b ∷ bs) = doubled_byte b ++ doubled bs

abbrev pub quoted : Text → Text
quoted text = codes "\"" ++ (doubled text ++ codes "\"")

abbrev pub is_quoted : Text → Bool
is_quoted field = starts_with nat_eq field (codes "\"")

-- a comma, a quote, or a byte that ends a line
abbrev pub wants_quotes : ℕ → Bool
wants_quotes b = nat_eq b 44 || nat_eq b 34 || nat_eq b 10 || nat_eq b 13

-- A text that replaces a field has quotes if the field had some, or if the text needs them.
abbrev pub field_of : Text → Text → Text
field_of old text =
    if is_quoted old || list_any wants_quotes text then quoted text else text

-- a text with what is written around it
abbrev pub framed : LineFrame → Text → Text
framed Line text = text ++ codes "\n"
framed (Field cell) text =
    cell.front.now ++ (field_of cell.field.now text ++ cell.after.now)

-- a text as it was read
abbrev pub kept : LineFrame → Text → Text
kept Line text = text ++ codes "\n"
kept (Field cell) text = cell.front.now ++ (cell.field.now ++ cell.after.now)

-- nothing, on a line of its own or as a field
abbrev pub emptied : LineFrame → Text
emptied Line = codes "\n"
emptied (Field cell) = cell.front.now ++ cell.after.now

-- What is written instead of a moment that has no text. If the run should fail there, it doesn't go
-- on.
abbrev pub Replaces : Otherwise → LineFrame → Text → Option Text → Option Text → Type 0
Replaces otherwise.Nothing frame text before after = after ≡ before
Replaces otherwise.Keep frame text before after = Appends before after (kept frame text)
Replaces otherwise.Empty frame text before after = Appends before after (emptied frame)
Replaces otherwise.Fail frame text before after = ⊥

-- A run ends early only if memory ran out, or if the output has failed, or at a moment without a text, where
-- `--else fail` asks for that.
abbrev pub EndsOnlyAsAsked : Otherwise → Bool → RunError → Type 0
EndsOnlyAsAsked o failed stops.Memory = ⊤
EndsOnlyAsAsked o failed stops.Write = IsTrue failed
EndsOnlyAsAsked o failed stops.Refused = o ≡ otherwise.Fail

-- Memory ran out, or the output has failed.
abbrev pub IsFailure : Bool → RunError → Type 0
IsFailure failed stops.Memory = ⊤
IsFailure failed stops.Write = IsTrue failed
IsFailure failed stops.Refused = ⊥

-- The output has failed.
abbrev pub IsWriteFailure : Bool → RunError → Type 0
IsWriteFailure failed error = (error ≡ stops.Write) × IsTrue failed
