-- What a step over quoted text does.
use Rattle.std.specs.Prelude.{ℕ, ◌≡◌, ◌<◌, ◌+◌, List, [], ◌∷◌, ◌++◌, take, drop, length, Option, Some, None}
use Rattle.std.specs.Borrow.{Bor}
use Rattle.std.specs.Str.{IsUtf8}
use Rattle.timefd_lang_component.specs.Tree.{Text}
use Rattle.timefd_lang_dialect.specs.declared.quote.QuoteStep.{QuoteStep}
use Rattle.timefd_lang_dialect.specs.declared.quote.QuoteStep.TheVariants.{End, Closing, Character}
use Rattle.timefd_lang_dialect.specs.Quotes.{escaped, char_len, IsCharacter, with_byte, quotation, closing}

-- what was quoted, with these bytes in front of it
abbrev pub with_front : Text → Option (Text × Text) → Option (Text × Text)
with_front [] found = found
with_front (b ∷ bytes) found = with_byte b (with_front bytes found)

-- the rest is shorter than the text
pub record IsLess (text rest : Text) : Type 0 where
  pub shorter : length rest < length text
  pub utf8 : IsUtf8 rest

-- the text is a character and the rest
pub record IsFirst (text front rest : Text) : Type 0 where
  pub front_is : front ≡ take (char_len text) text
  pub rest_is : rest ≡ drop (char_len text) text
  pub character : IsCharacter front
  pub left : IsLess text rest

abbrev pub IsQuoteStep : Text → QuoteStep → Type 0
IsQuoteStep text End = text ≡ []
IsQuoteStep text (Closing after) =
    (quotation text ≡ Some ([], after.now)) × IsLess text after.now
IsQuoteStep text (Character character after) =
    (quotation text ≡ with_front character.now (quotation after.now))
    × IsCharacter character.now × IsLess text after.now

-- what is quoted is appended to a text and the rest follows it, or nothing closes the quotation
abbrev pub AppendsQuotation : Text → Text → Text → Option (Bor (List ℕ)) → Type 0
AppendsQuotation after old new None = quotation after ≡ None
AppendsQuotation after old new (Some rest) =
    (bytes : Text) × (quotation after ≡ Some (bytes, rest.now)) × (new ≡ old ++ escaped bytes)
    × IsLess after rest.now

abbrev pub IsBracketed : Text → Option (Bor (List ℕ) × Bor (List ℕ)) → Type 0
IsBracketed after None = closing after ≡ None
IsBracketed after (Some x) =
    (index : ℕ) × (closing after ≡ Some index) × (x.0.now ≡ take index after)
    × (x.1.now ≡ drop (index + 1) after) × IsLess after x.1.now
