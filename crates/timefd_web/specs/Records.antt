-- Objects in a list, and fields that are true or false.
use Rattle.std.specs.Prelude.{◌++◌, Bool, true, false, List, [], ◌∷◌, codes, flat_map}
use Rattle.timefd_parse.specs.Tree.{Text}

-- an object after a comma
abbrev pub after_comma : {X : Type 0} → (X → Text) → X → Text
after_comma object x = codes "," ++ object x

-- objects in a list
abbrev pub listed : {X : Type 0} → (X → Text) → List X → Text
listed object [] = codes "[]"
listed object (x ∷ xs) = codes "[" ++ (object x ++ (flat_map (after_comma object) xs ++ codes "]"))

abbrev pub truth_field : Text → Bool → Text
truth_field front true = front ++ codes "true"
truth_field front false = front ++ codes "false"
