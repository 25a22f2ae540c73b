-- What a step over a format does.
use Rattle.std.specs.Prelude.{◌≡◌, List, ◌++◌, Result, MatchResult, ⊤}
use Rattle.timefd_lang_component.specs.Tree.{Text}
use Rattle.timefd_lang_dialect.specs.declared.dialect.Dialect.{Dialect}
use Rattle.timefd_lang_dialect.specs.declared.front.FrontStep.{FrontStep}
use Rattle.timefd_lang_dialect.specs.declared.front.Stop.{Stop}
use Rattle.timefd_lang_dialect.specs.declared.front.Stop.TheVariants.{Refused, Memory}
use Rattle.timefd_lang_dialect.specs.declared.limits.Limits.{Limits}
use Rattle.timefd_lang_dialect.specs.Limits.{narrowed, limits_from}
use Rattle.timefd_lang_dialect.specs.QuoteSteps.{IsLess}
use Rattle.timefd_lang_dialect.specs.Reading.{Piece, Front, piece, refused_for, front_of, Leads, text_of}

-- the front is a piece, the rest follows it, and the text of the piece is appended
pub record Takes (front : Front) (text old new : Text) (step : FrontStep) : Type 0 where
  pub taken : Piece
  pub is : front ≡ piece taken step.rest.now
  pub appended : new ≡ old ++ taken.text
  pub range : taken.range ≡ step.range
  pub left : IsLess text step.rest.now

abbrev pub IsStop : Front → Stop → Type 0
IsStop front (Refused reason) = front ≡ refused_for reason
IsStop front (Memory e) = ⊤

abbrev pub GivesStep : Front → Text → Text → Text → Result FrontStep Stop → Type 0
GivesStep front text old new r = MatchResult r (Takes front text old new) (IsStop front)

-- the text is pieces and then the rest, and the texts of the pieces are appended
pub record TakesAll (dialect : Dialect) (text old new : Text) (step : FrontStep) : Type 0 where
  pub taken : List Piece
  pub leads : Leads dialect text taken step.rest.now
  pub appended : new ≡ old ++ text_of taken
  pub range : (limits : Limits) → limits_from limits taken ≡ narrowed step.range limits
  pub left : IsLess text step.rest.now

abbrev pub GivesSteps : Dialect → Text → Text → Text → Result FrontStep Stop → Type 0
GivesSteps dialect text old new r =
    MatchResult r (TakesAll dialect text old new) (IsStop (front_of dialect text))
