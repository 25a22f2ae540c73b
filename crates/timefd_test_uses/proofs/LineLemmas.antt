-- One line of a text.
use Rattle.std.proofs.Common.{ℕ, ◌≡◌, ◌∙◌, List, [], Option, Some, None, get_or, ap, sym}
use Rattle.std.specs.Prelude.{slice_get, option_map, unwrap_or}
use Rattle.std.proofs.lemmas.Option.{get_or_from_slice_get, unwrap_or-slice_get}
use denote.Ref.{Bor}
use Rattle.timefd_parse.specs.Tree.{Text}

-- the line that was found, or the empty text
pub line_or_none : (lines : List Text) (n : ℕ) (r : Option (Bor Text)) (empty : Bor Text)
    → option_map (λ x. x.now) r ≡ slice_get lines n → empty.now ≡ []
    → (unwrap_or r empty).now ≡ get_or lines n []
line_or_none lines n (Some x) empty found none =
    sym (get_or_from_slice_get lines n x.now [] (sym found))
line_or_none lines n None empty found none =
    none ∙ ap (λ o. unwrap_or o []) found ∙ unwrap_or-slice_get lines n []
