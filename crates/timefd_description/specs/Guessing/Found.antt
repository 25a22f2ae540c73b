-- Which candidates read all texts and write them back.
use Rattle.std.specs.Prelude.{ℕ, ◌≡◌, ◌⊎◌, ◌+◌, ◌++◌, Bool, true, false, All, List, [], ◌∷◌, take, Option, Some, None, Result, Ok, Err, ⊤}
use denote.Ref.{Bor}
use Rattle.timefd_parse.specs.Tree.{Text, Tree, pack}
use Rattle.timefd_lang_fault.specs.Faults.{Fault}
use Rattle.timefd_date_format.specs.Written.{written}
use Rattle.timefd_description.specs.Guessing.Candidates.{Entry}
use Rattle.timefd_description.specs.declared.guessing.guessing.Guess.{Guess}
use Rattle.timefd_language.specs.Broken.{FaultOf}
use Rattle.timefd_language.specs.Grammar.{Spells, nesting_limit}
use Rattle.timefd_language.specs.declared.description_version.DescriptionVersion.TheVariants.{Three}
use Rattle.timefd_date_moment.specs.declared.moment.Moment.{Moment}
use Rattle.timefd_date_moment.specs.Fields.Reads.{fields_of}
use Rattle.timefd_date_moment.specs.declared.fields.fault.ReadError.{ReadError}
use Rattle.timefd_date_moment.specs.declared.fields.fields.Fields.{Fields}
use Rattle.timefd_date_moment.specs.Reading.Values.{IsMomentOf}
use Rattle.timefd_date_moment.specs.declared.reading.error.ValueError.{ValueError}

abbrev pub texts : List (Bor Text) → List Text
texts [] = []
texts (text ∷ more) = text.now ∷ texts more

-- the moment of a text that was read, if its fields determine one
abbrev pub IsRead : Result Fields ReadError → Option Moment → Type 0
IsRead (Ok f) (Some m) = IsMomentOf f (Ok m)
IsRead (Ok f) None = (e : ValueError) × IsMomentOf f (Err e)
IsRead (Err u) (Some m) = ⊥
IsRead (Err u) None = ⊤

-- whether writing the moment gives this text
abbrev pub IsWritten : Tree → Moment → Text → Bool → Type 0
IsWritten tree m text true = written m tree ≡ Ok text
IsWritten tree m text false = ¬ (written m tree ≡ Ok text)

abbrev pub IsWrittenOf : Tree → Option Moment → Text → Bool → Type 0
IsWrittenOf tree None text same = same ≡ false
IsWrittenOf tree (Some m) text same = IsWritten tree m text same

-- whether the text is read as a whole, and writing the moment that it shows gives the text again
abbrev pub ComesBack : Tree → Text → Bool → Type 0
ComesBack tree text found =
    (m : Option Moment) × IsRead (fields_of tree text) m × IsWrittenOf tree m text found

-- whether each text comes back
abbrev pub AllComeBack : Tree → List Text → Bool → Type 0
AllComeBack tree [] found = found ≡ true
AllComeBack tree (text ∷ more) found =
    (ComesBack tree text true × AllComeBack tree more found)
    ⊎ (ComesBack tree text false × (found ≡ false))

abbrev pub one_if : Bool → ℕ
one_if true = 1
one_if false = 0

-- how many texts come back
abbrev pub Counts : Tree → List Text → ℕ → Type 0
Counts tree [] n = n ≡ 0
Counts tree (text ∷ more) n =
    (one : Bool) × (others : ℕ) × ComesBack tree text one × Counts tree more others
    × (n ≡ one_if one + others)

-- what holds of the tree that a description of version 3 spells, or otherwise if it spells none
abbrev pub OfDescription : Text → (Tree → Type 0) → Type 0 → Type 0
OfDescription description Holds otherwise =
    ((list : List Tree) × Spells Three nesting_limit 0 description list × Holds (pack list))
    ⊎ ((f : Fault) × FaultOf Three nesting_limit description f × otherwise)

-- whether the description reads each text and writes it back
abbrev pub ReadsAll : Text → List Text → Bool → Type 0
ReadsAll description all found =
    OfDescription description (λ tree. AllComeBack tree all found) (found ≡ false)

-- how many texts the description reads and writes back
abbrev pub ReadBy : Text → List Text → ℕ → Type 0
ReadBy description all n = OfDescription description (λ tree. Counts tree all n) (n ≡ 0)

-- how many are read with day and month swapped
abbrev pub AreUndecided : Option Text → List Text → ℕ → Type 0
AreUndecided None all n = n ≡ 0
AreUndecided (Some swapped) all n = ReadBy swapped all n

abbrev pub IsGuess : Entry → List Text → Guess → Type 0
IsGuess row all guess =
    (guess.description.now ≡ row.text) × AreUndecided row.swapped all guess.undecided

-- A candidate is offered exactly if it reads all texts.
abbrev pub IsOffered : Bool → Entry → List Text → List Guess → Type 0
IsOffered true row all front = (guess : Guess) × (front ≡ guess ∷ []) × IsGuess row all guess
IsOffered false row all front = front ≡ []

-- the candidate is appended if it reads all texts
abbrev pub Appends : Entry → List Text → List Guess → List Guess → Type 0
Appends row all old new =
    (reads : Bool) × (front : List Guess) × ReadsAll row.text all reads × IsOffered reads row all front
    × (new ≡ old ++ front)

-- the candidates that read all texts, in order
abbrev pub AreFound : List Entry → List Text → List Guess → Type 0
AreFound [] all found = found ≡ []
AreFound (row ∷ rows) all found =
    (reads : Bool) × (front more : List Guess) × ReadsAll row.text all reads
    × IsOffered reads row all front × AreFound rows all more × (found ≡ front ++ more)

-- the candidates that read all texts are appended
abbrev pub Adds : List Entry → List Text → List Guess → List Guess → Type 0
Adds rows all old new = (more : List Guess) × AreFound rows all more × (new ≡ old ++ more)

-- the first twelve of them
abbrev pub AreGuesses : List Entry → List Text → List Guess → Type 0
AreGuesses rows all guesses =
    (found : List Guess) × AreFound rows all found × (guesses ≡ take 12 found)

-- The text is read as a moment as a whole, and writing that moment gives the text again.
abbrev pub IsReadBack : Tree → Text → Type 0
IsReadBack tree text =
    (m : Moment) × IsRead (fields_of tree text) (Some m) × (written m tree ≡ Ok text)

-- The description reads each text and writes it back.
abbrev pub ReadsBack : List Text → Guess → Type 0
ReadsBack all guess =
    (list : List Tree) × Spells Three nesting_limit 0 guess.description.now list
    × All (IsReadBack (pack list)) all
