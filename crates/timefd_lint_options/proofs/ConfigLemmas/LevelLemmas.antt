-- One more entry of the table of levels, and one more warning.
use Rattle.std.proofs.Common.{◌≡◌, List, [], ◌∷◌, refl, sym, ap, ◌∙◌, string_bytes}
use Rattle.std.specs.Prelude.{Result, Ok}
use Rattle.timefd_lang_warnings.specs.declared.warning.Warning.{Warning}
use Rattle.timefd_lang_warnings.specs.Codes.{all}
use Rattle.timefd_lang_warnings.specs.Levels.{level_of, with_level}
use Rattle.toml.specs.View.{members_view, view}
use Rattle.toml.proofs.Views.{Entry}
use Rattle.timefd_lint_options.specs.Config.Faults.{Fault}
use Rattle.timefd_lint_options.specs.Config.Levels.{Levels, chosen, over, then_all, with_entries, with_entry}

-- an entry that sets a level, and the remaining ones
pub is_set : (levels more : Levels) (e : Entry) (after rest : List Entry) (whole : Result Levels Fault)
    → rest ≡ e ∷ after → with_entry levels (string_bytes e.0) (view e.1) ≡ Ok more
    → with_entries levels (members_view rest) ≡ whole → with_entries more (members_view after) ≡ whole
is_set levels more e after rest whole split set so_far =
    ap (then_all (λ l. with_entries l (members_view after))) (sym set)
    ∙ (ap (λ es. with_entries levels (members_view es)) (sym split) ∙ so_far)

-- these levels, with those of the remaining warnings chosen
abbrev pub chosen_among : Levels → Levels → Levels → List Warning → Levels
chosen_among own file levels [] = levels
chosen_among own file levels (w ∷ ws) =
    chosen_among own file (with_level levels w (chosen (level_of own w) (level_of file w))) ws

pub at_first : (own file : Levels) → chosen_among own file file all ≡ over own file
at_first own file = refl

pub one_more : (own file levels more : Levels) (w : Warning) (after left : List Warning) → left ≡ w ∷ after
    → more ≡ with_level levels w (chosen (level_of own w) (level_of file w))
    → chosen_among own file levels left ≡ over own file → chosen_among own file more after ≡ over own file
one_more own file levels more w after left split set so_far =
    ap (λ l. chosen_among own file l after) set
    ∙ (ap (chosen_among own file levels) (sym split) ∙ so_far)

pub at_last : (own file levels : Levels) (left : List Warning) → left ≡ []
    → chosen_among own file levels left ≡ over own file → levels ≡ over own file
at_last own file levels left none so_far = ap (chosen_among own file levels) (sym none) ∙ so_far
