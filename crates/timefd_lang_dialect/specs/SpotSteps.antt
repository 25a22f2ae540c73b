-- What a step over the parts of a format does.
use Rattle.std.specs.Prelude.{◌≡◌}
use Rattle.timefd_lang_component.specs.Tree.{Text}
use Rattle.timefd_lang_dialect.specs.declared.spot.FormatPart.{FormatPart}
use Rattle.timefd_lang_dialect.specs.QuoteSteps.{IsLess}
use Rattle.timefd_lang_dialect.specs.Traps.{Said}

-- the part at the front of the text, and the rest
pub record IsPart (said : Said) (text : Text) (part : FormatPart) : Type 0 where
  pub role : part.role ≡ said.role
  pub rest : part.rest.now ≡ said.rest
  pub left : IsLess text part.rest.now
