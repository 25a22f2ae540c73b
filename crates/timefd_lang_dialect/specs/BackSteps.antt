-- What a step over a description leaves of it.
use Rattle.std.specs.Prelude.{ℕ, ◌≡◌, List, ◌++◌}
use Rattle.std.specs.Borrow.{Bor}
use Rattle.timefd_lang_component.specs.Tree.{Text}
use Rattle.timefd_lang_dialect.specs.QuoteSteps.{IsLess}

-- the text is a front with bytes, and then the rest
pub record IsAfter (text : Text) (rest : Bor (List ℕ)) : Type 0 where
  pub taken : Text
  pub whole : text ≡ taken ++ rest.now
  pub left : IsLess text rest.now
