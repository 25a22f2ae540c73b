-- The laws of the languages.
use Rattle.std.specs.Prelude.{ℕ, ◌≡◌, ◌≢◌, ◌+◌, ◌≤◌, ◌⊎◌, List, ◌++◌, length, IsFalse}
use Rattle.timefd_language.specs.declared.description_version.DescriptionVersion.{DescriptionVersion}
use Rattle.timefd_language.specs.declared.description_version.DescriptionVersion.TheVariants.{One, Two, Three}
use Rattle.timefd_lang_component.specs.Tree.{Text, Tree, joined, pack, trees}
use Rattle.timefd_lang_component.specs.Modern.{AreModern}
use Rattle.timefd_language.specs.Bytes.{is_version_three}
use Rattle.timefd_language.specs.Recased.{Recased}
use Rattle.timefd_language.specs.Relaxed.{IsFlat, AreStandard, relaxed}
use Rattle.timefd_lang_fault.specs.Faults.{Fault}
use Rattle.timefd_language.specs.Fault.{raised}
use Rattle.timefd_lang_fault.specs.Words.{too_highly_nested}
use Rattle.timefd_language.specs.Grammar.{Pieces, ArePieces, spelling, items, Spells}
use Rattle.timefd_language.specs.Broken.{FaultOf}
use Rattle.timefd_language.specs.Rewritten.{rewritten}
use Rattle.timefd_lang_component.specs.Reserved.{reserve, tree_count}
use Rattle.timefd_language.specs.Front.{Reading, Reads}
use Rattle.timefd_language.specs.Strftime.{Directives, AreDirectives, directives_text, SpellsStrftime, StrftimeFaultOf}

-- A text spells a list, or it has a fault.
abbrev pub IsAnswered : DescriptionVersion → ℕ → Text → Type 0
IsAnswered v limit text = ((list : List Tree) × Spells v limit 0 text list)
    ⊎ ((f : Fault) × FaultOf v limit text f)

-- A text has at most one answer: at most one list, at most one fault, and not both.
pub record HasOneAnswer (v : DescriptionVersion) (limit : ℕ) (text : Text) : Type 0 where
  pub one_list : (a b : List Tree) → Spells v limit 0 text a → Spells v limit 0 text b → a ≡ b
  pub one_fault : (f g : Fault) → FaultOf v limit text f → FaultOf v limit text g → f ≡ g
  pub not_both : (a : List Tree) (f : Fault) → Spells v limit 0 text a → FaultOf v limit text f → ⊥

abbrev pub OneAnswer : Type 0
OneAnswer = (v : DescriptionVersion) (limit : ℕ) (text : Text) → IsAnswered v limit text
    × HasOneAnswer v limit text

-- A text can be cut into pieces in at most one way.
abbrev pub OneCut : Type 0
OneCut = (v : DescriptionVersion) (limit n : ℕ) (ps qs : Pieces) → ArePieces v limit n ps
    → ArePieces v limit n qs
    → spelling ps ≡ spelling qs → ps ≡ qs

-- Inside of as many nested descriptions as the limit allows, each text is pieces and then what stops
-- them (the end, a `]` or a broken text), in exactly one way.
abbrev pub OneReading : Type 0
OneReading = (v : DescriptionVersion) (limit n : ℕ) (text : Text) → n ≤ limit
    → (r : Reading) × Reads v limit n text r × ((s : Reading) → Reads v limit n text s → r ≡ s)

-- Two texts that spell items spell, when joined, the items of the first and then those of the
-- second. Literals that meet become one.
abbrev pub Joining : Type 0
Joining = (v : DescriptionVersion) (limit : ℕ) (s t : Text) (a b : List Tree) → Spells v limit 0 s a
    → Spells v limit 0 t b
    → (c : List Tree) × Spells v limit 0 (s ++ t) c × (joined c ≡ joined (a ++ b))

-- A fault in what follows a spelled text is shifted by the length of that text.
abbrev pub Shift : Type 0
Shift = (v : DescriptionVersion) (limit : ℕ) (s t : Text) (a : List Tree) (f : Fault)
    → Spells v limit 0 s a → FaultOf v limit t f
    → FaultOf v limit (s ++ t) (raised f (length s))

-- Strftime.

abbrev pub StrftimeIsAnswered : Text → Type 0
StrftimeIsAnswered text = ((list : List Tree) × SpellsStrftime text list)
    ⊎ ((f : Fault) × StrftimeFaultOf text f)

pub record HasOneStrftimeAnswer (text : Text) : Type 0 where
  pub one_list : (a b : List Tree) → SpellsStrftime text a → SpellsStrftime text b → a ≡ b
  pub one_fault : (f g : Fault) → StrftimeFaultOf text f → StrftimeFaultOf text g → f ≡ g
  pub not_both : (a : List Tree) (f : Fault) → SpellsStrftime text a → StrftimeFaultOf text f → ⊥

abbrev pub OneStrftimeAnswer : Type 0
OneStrftimeAnswer = (text : Text) → StrftimeIsAnswered text × HasOneStrftimeAnswer text

abbrev pub OneStrftimeCut : Type 0
OneStrftimeCut = (a b : Directives) → AreDirectives a → AreDirectives b
    → directives_text a ≡ directives_text b → a ≡ b

abbrev pub StrftimeJoining : Type 0
StrftimeJoining = (s t : Text) (a b : List Tree) → SpellsStrftime s a → SpellsStrftime t b
    → (c : List Tree) × SpellsStrftime (s ++ t) c × (joined c ≡ joined (a ++ b))

abbrev pub StrftimeShift : Type 0
StrftimeShift = (s t : Text) (a : List Tree) (f : Fault) → SpellsStrftime s a → StrftimeFaultOf t f
    → StrftimeFaultOf (s ++ t) (raised f (length s))

-- Limits.

-- What a text spells with one limit, it spells with every greater limit. The same holds of every
-- fault except that a description is nested too deeply.
abbrev pub GreaterLimit : Type 0
GreaterLimit = (v : DescriptionVersion) (low high : ℕ) (text : Text) → low ≤ high
    → ((list : List Tree) → Spells v low 0 text list → Spells v high 0 text list)
    × ((f : Fault) → FaultOf v low text f → f.kind ≢ too_highly_nested → FaultOf v high text f)

-- From version 1 to version 2.

-- A text of version 1, once it is rewritten, spells the same in version 2, up to how literals are
-- split.
abbrev pub Lifting : Type 0
Lifting = (limit : ℕ) (ps : Pieces) → ArePieces One limit 0 ps
    → (list : List Tree) × Spells Two limit 0 (rewritten ps) list
    × (joined list ≡ joined (items ps))

-- Reserved bytes.

-- A text of version 3 is at least as long as the bytes that it reserves, and has at most one tree
-- more than it has bytes.
abbrev pub ReservesWithin : Type 0
ReservesWithin = (limit n : ℕ) (text : Text) (list : List Tree) → Spells Three limit n text list
    → (reserve (pack list) ≤ length text) × (tree_count (pack list) ≤ length text + 1)

-- Case.

-- In versions 1 and 2 the case of letters in heads makes no difference.
abbrev pub Recasing : Type 0
Recasing = (v : DescriptionVersion) (limit n : ℕ) (ps qs : Pieces) → IsFalse (is_version_three v)
    → ArePieces v limit n ps → Recased ps qs
    → ArePieces v limit n qs × (items qs ≡ items ps)

-- From version 3 to version 2.

-- A text of version 3 without nested descriptions is a text of version 2 too, piece by piece.
abbrev pub Relaxing : Type 0
Relaxing = (limit : ℕ) (ps : Pieces) → ArePieces Three limit 0 ps → IsFlat ps
    → ArePieces Two limit 0 (relaxed ps) × (spelling (relaxed ps) ≡ spelling ps) × AreStandard ps

-- Modern components.

-- All components of a text are modern.
abbrev pub Modernity : Type 0
Modernity = (v : DescriptionVersion) (limit n : ℕ) (text : Text) (list : List Tree)
    → Spells v limit n text list → AreModern (trees list)

abbrev pub StrftimeModernity : Type 0
StrftimeModernity = (text : Text) (list : List Tree) → SpellsStrftime text list
    → AreModern (trees list)
