-- The first word of each key sets its default of version 3.
use Rattle.std.proofs.Common.{◌≡◌, refl, List, [], ◌∷◌, ◌++◌, true}
use Rattle.timefd_language.specs.declared.setting.Setting.{Setting}
use Rattle.timefd_language.specs.declared.setting.Settings.{Settings}
use Rattle.timefd_language.specs.Settings.{defaults, with}
use Rattle.timefd_language.specs.Values.{Values, words, numbers, Key}
use Rattle.timefd_language.specs.Names.{Row, rows}

abbrev first_of_values : Values → List Setting
first_of_values (words []) = []
first_of_values (words (v ∷ vs)) = v.sets ∷ []
first_of_values numbers = []

abbrev first_settings : List Key → List Setting
first_settings [] = []
first_settings (k ∷ ks) = first_of_values k.values ++ first_settings ks

abbrev all_first : List Row → List Setting
all_first [] = []
all_first (r ∷ rs) = first_settings r.keys ++ all_first rs

abbrev with_all : Settings → List Setting → Settings
with_all s [] = s
with_all s (v ∷ vs) = with_all (with s v) vs

first_words_are_defaults : with_all (defaults true) (all_first rows) ≡ defaults true
first_words_are_defaults = refl
