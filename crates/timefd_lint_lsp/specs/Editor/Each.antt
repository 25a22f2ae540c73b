-- What is reported about several things, one after another.
use Rattle.std.specs.Prelude.{◌≡◌, Bool, true, false, List, [], ◌∷◌, ◌++◌}

-- What is reported about each of these, one after another, and nothing else.
abbrev pub AreOf : {X Y : Type 0} → (X → List Y → Type 0) → List X → List Y → Type 0
AreOf Is [] reported = reported ≡ []
AreOf {Y = Y} Is (x ∷ xs) reported =
    (one : List Y) × (rest : List Y) × Is x one × AreOf Is xs rest × (reported ≡ one ++ rest)

-- The new reports follow the old ones.
abbrev pub Adds : {Y : Type 0} → (List Y → Type 0) → List Y → List Y → Type 0
Adds {Y} Is old new = (more : List Y) × Is more × (new ≡ old ++ more)

-- These are the reports if they are wanted, and otherwise there are none.
abbrev pub AreIf : {Y : Type 0} → Bool → (List Y → Type 0) → List Y → Type 0
AreIf true Is reported = Is reported
AreIf false Is reported = reported ≡ []
