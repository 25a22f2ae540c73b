-- The rest of a text meets a bound.
use Rattle.std.specs.Prelude.{◌≡◌, [], ⊤}
use Rattle.timefd_date_moment.specs.Fields.Laws.{HasNoDigit}
use Rattle.timefd_lang_component.specs.Tree.{Text}
use Rattle.timefd_lang_warnings.specs.declared.settled.bound.Bound.{Bound}

abbrev pub IsBounded : Bound → Text → Type 0
IsBounded Bound.Anything rest = ⊤
IsBounded Bound.NoDigit rest = HasNoDigit rest
IsBounded Bound.End rest = rest ≡ []
IsBounded Bound.Never rest = ⊥
