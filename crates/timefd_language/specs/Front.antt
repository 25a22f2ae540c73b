-- What follows the pieces that a text begins with.
use Rattle.std.specs.Prelude.{ℕ, ◌<◌, ◌≡◌, [], ◌∷◌, ◌++◌, ⊤}
use Rattle.timefd_language.specs.declared.description_version.DescriptionVersion.{DescriptionVersion}
use Rattle.timefd_lang_component.specs.Tree.{Text}
use Rattle.timefd_language.specs.Bytes.{right}
use Rattle.timefd_language.specs.Grammar.{Pieces, spelling, ArePieces}
use Rattle.timefd_language.specs.Broken.{Broken, broken_text, IsBroken}

-- the end of the text, the `]` of a nested description and the text after it, or a broken text
pub data Stop : Type 0 where
  ended : Stop
  closed : Text → Stop
  broke : Broken → Stop

abbrev pub text_after : Stop → Text
text_after ended = []
text_after (closed rest) = right ∷ rest
text_after (broke b) = broken_text b

abbrev pub IsStop : DescriptionVersion → ℕ → ℕ → Stop → Type 0
IsStop v limit n ended = ⊤
IsStop v limit n (closed rest) = 0 < n
IsStop v limit n (broke b) = IsBroken v limit n b

pub record Reading : Type 0 where
  pub front : Pieces
  pub stop : Stop

-- The text is these pieces and what stops them.
pub record Reads (v : DescriptionVersion) (limit n : ℕ) (text : Text) (r : Reading) : Type 0 where
  pub front : ArePieces v limit n r.front
  pub stop : IsStop v limit n r.stop
  pub whole : text ≡ spelling r.front ++ text_after r.stop
