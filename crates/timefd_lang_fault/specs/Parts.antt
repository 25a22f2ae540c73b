-- The sentences of faults, part by part.
use Rattle.std.specs.Prelude.{ℕ, ◌++◌, codes, List, [], ◌∷◌, map}
use Rattle.std.specs.Borrow.{Bor}
use Rattle.timefd_lang_fault.specs.Faults.{Text, Kind, unclosed_bracket, invalid_name, invalid_modifier, missing_name, missing_modifier, expected, not_supported, duplicate_modifier, invalid_combination}

-- texts one after another
abbrev pub joined : List Text → Text
joined [] = []
joined (t ∷ []) = t
joined (t ∷ u ∷ ts) = t ++ joined (u ∷ ts)

abbrev pub texts : List (Bor (List ℕ)) → List Text
texts parts = map (λ p. p.now) parts

-- what is not supported, and in what, with the index as it is written
abbrev pub not_supported_with : Text → Text → Text → Text
not_supported_with what [] index = what ++ (codes " is not supported at byte index " ++ index)
not_supported_with what (c ∷ cs) index =
    what ++ (codes " is not supported in " ++ ((c ∷ cs) ++ (codes " at byte index " ++ index)))

-- the key that is not valid, and with what
abbrev pub combination_with : Text → Text → Text → Text
combination_with key context index =
    codes "the `" ++ (key ++ (codes "` modifier is not valid at byte index "
    ++ (index ++ (codes " " ++ context))))

-- the sentence of a fault of this kind, with its index as it is written
abbrev pub sentence_with : Kind → Text → Text
sentence_with unclosed_bracket index = codes "unclosed opening bracket at byte index " ++ index
sentence_with (invalid_name name) index =
    codes "invalid component name `" ++ (name ++ (codes "` at byte index " ++ index))
sentence_with (invalid_modifier value) index =
    codes "invalid modifier `" ++ (value ++ (codes "` at byte index " ++ index))
sentence_with missing_name index = codes "missing component name at byte index " ++ index
sentence_with (missing_modifier key) index =
    codes "missing required modifier `"
    ++ (key ++ (codes "` for component at byte index " ++ index))
sentence_with (expected what) index =
    codes "expected " ++ (what ++ (codes " at byte index " ++ index))
sentence_with (not_supported what context) index = not_supported_with what context index
sentence_with (duplicate_modifier key) index =
    codes "duplicate modifier `" ++ (key ++ (codes "` at byte index " ++ index))
sentence_with (invalid_combination key context) index =
    combination_with key context index
