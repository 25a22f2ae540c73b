-- How what is read of a text relates to the grammar.
use Rattle.std.specs.Prelude.{ℕ, suc, Bool, ◌≡◌, ◌+◌, ◌≤◌, ◌<◌, ◌⊎◌, List, [], ◌∷◌, ◌++◌, length, map, Option, Some, None, Result, MatchResult, IsTrue, ⊤}
use Rattle.std.specs.Borrow.{Bor}
use Rattle.std.specs.Str.{IsUtf8}
use Rattle.std.specs.declared.vec.Vec.{Vec}
use Rattle.std.specs.declared.alloc.Global.{Global}
use Rattle.timefd_lang_node_list.specs.declared.item.borrowed_format_item.BorrowedFormatItem.{BorrowedFormatItem}
use Rattle.timefd_lang_fault.specs.Faults.{Fault, fault, unclosed_bracket}
use Rattle.timefd_lang_node_list.specs.Item.Meaning.{item_tree}
use Rattle.timefd_lang_component.specs.Modern.{modern}
use Rattle.timefd_lang_component.specs.declared.component.Component.{Component}
use Rattle.timefd_lang_component.specs.Reserved.{reserve_all}
use Rattle.timefd_lang_component.specs.Tree.{Text, Tree, component, literal, pack, trees}
use Rattle.timefd_language.specs.declared.description_version.DescriptionVersion.{DescriptionVersion}
use Rattle.timefd_language.specs.declared.description_version.DescriptionVersion.TheVariants.{Three}
use Rattle.timefd_lang_fault.specs.declared.read_error.Fault as code_fault
use Rattle.timefd_lang_fault.specs.declared.read_error.ReadError as code_error
use Rattle.timefd_lang_fault.specs.declared.read_error.ReadError.TheVariants as errors
use Rattle.timefd_parse.specs.declared.piece.Piece.{Piece}
use Rattle.timefd_language.specs.Bytes.{left, right, is_run_byte, is_version_three}
use Rattle.timefd_language.specs.Fault.{enclosed}
use Rattle.timefd_lang_fault.specs.Words.{too_highly_nested}
use Rattle.timefd_language.specs.Grammar.{Pieces, ArePieces, spelling, items}
use Rattle.timefd_language.specs.Broken.{Broken, IsBroken, broken_text, broken_fault}
use Rattle.timefd_parse.specs.Pieces.{IsBuilt, IsPiece}
use Rattle.timefd_language.specs.Strings.{are_of_strings}
use Rattle.timefd_lang_fault.specs.ReadErrors.{IsFault, MemoryOr}
use Rattle.timefd_language.specs.FaultMeaning.{IsFaultAt}

-- the text begins with a byte of a run
abbrev pub BeginsRun : DescriptionVersion → Text → Type 0
BeginsRun v text = (b : ℕ) × (rest : Text) × (text ≡ b ∷ rest) × IsTrue (is_run_byte v b)

abbrev pub BeginsClosing : Text → Type 0
BeginsClosing text = (rest : Text) × (text ≡ right ∷ rest)

-- The text is a piece, which is this tree, and the rest: what the rest begins with, the text has
-- after that piece.
abbrev pub Leads : DescriptionVersion → ℕ → ℕ → Text → Tree → Text → Type 0
Leads v limit n text tree rest =
    (front : Pieces) (tail : Text) → ArePieces v limit n front → rest ≡ spelling front ++ tail
    → (whole : Pieces) × ArePieces v limit n whole × (text ≡ spelling whole ++ tail)
    × (items whole ≡ tree ∷ items front)

-- the text is a piece and the rest, as the code reads it: less text is left
pub record LeadsOn (v : DescriptionVersion) (limit n : ℕ) (text : Text) (tree : Tree)
    (rest : Text) : Type 0 where
  pub leads : Leads v limit n text tree rest
  pub shorter : length rest < length text
  pub utf8 : IsUtf8 rest

-- after a `[` the text begins with what makes a bracket this component, which is modern
pub record IsBare (v : DescriptionVersion) (inside : Text) (c : Component) (rest : Text) : Type 0
  where
    pub leads : (limit n : ℕ) → LeadsOn v limit n (left ∷ inside) (component c) rest
    pub is_modern : modern c ≡ c

-- a literal and the rest, or the fault of a text that doesn't begin with a piece
abbrev pub ReadsEscape : DescriptionVersion → ℕ → ℕ → Text
    → Result (Bor (List ℕ) × Bor (List ℕ)) code_fault.Fault → Type 0
ReadsEscape v limit n text r = MatchResult r (λ x. LeadsOn v limit n text (literal x.0.now) x.1.now)
    (IsFaultAt v limit n text)

-- The text begins with a piece, and the rest follows it. The lists are the trees that a reader that
-- builds had built before it read the piece, and after.
abbrev pub BeginsWithPiece : DescriptionVersion → Bool → ℕ → ℕ → Text → List Tree → List Tree
    → Piece × Bor (List ℕ) → Type 0
BeginsWithPiece v builds limit n text old new x =
    (tree : Tree) × LeadsOn v limit n text tree x.1.now
    × IsPiece (is_version_three v) builds old new x.0 tree

-- the piece and the rest, or an error, which may be that memory ran out
abbrev pub ReadsPiece : DescriptionVersion → Bool → ℕ → ℕ → Text → List Tree → List Tree
    → Result (Piece × Bor (List ℕ)) code_error.ReadError → Type 0
ReadsPiece v builds limit n text old new r =
    MatchResult r (BeginsWithPiece v builds limit n text old new)
    (MemoryOr (IsFaultAt v limit n text))

-- the end of the text, or the `]` of a nested description
abbrev pub IsEnd : ℕ → Text → Type 0
IsEnd n [] = ⊤
IsEnd n (b ∷ rest) = (b ≡ right) × (0 < n)

abbrev pub IsNext : DescriptionVersion → Bool → ℕ → ℕ → Text → List Tree → List Tree
    → Option (Piece × Bor (List ℕ)) → Type 0
IsNext v builds limit n text old new None = IsEnd n text × (new ≡ old)
IsNext v builds limit n text old new (Some x) = BeginsWithPiece v builds limit n text old new x

-- the next piece, if there is one
abbrev pub ReadsNext : DescriptionVersion → Bool → ℕ → ℕ → Text → List Tree → List Tree
    → Result (Option (Piece × Bor (List ℕ))) code_error.ReadError → Type 0
ReadsNext v builds limit n text old new r =
    MatchResult r (IsNext v builds limit n text old new) (MemoryOr (IsFaultAt v limit n text))

-- pieces, and then a construct that begins no piece, with its fault
abbrev pub IsFaultIn : DescriptionVersion → ℕ → ℕ → Text → code_fault.Fault → Type 0
IsFaultIn v limit n text f =
    (front : Pieces) × (b : Broken) × ArePieces v limit n front × IsBroken v limit n b
    × (text ≡ spelling front ++ broken_text b) × IsFault (length (broken_text b)) f (broken_fault b)

-- pieces up to the end, which are these trees
abbrev pub PiecesToEnd : DescriptionVersion → ℕ → ℕ → Text → List Tree → Text → Type 0
PiecesToEnd v limit n text read rest =
    (front : Pieces) × ArePieces v limit n front × (text ≡ spelling front ++ rest)
    × (items front ≡ read) × IsEnd n rest

-- The pieces of a whole text of version 3, of which these trees are built. The others reserve this
-- many bytes.
abbrev pub AreCounted : ℕ → Text → List Tree → ℕ → Type 0
AreCounted limit text built bytes =
    (list : List Tree) × PiecesToEnd Three limit 0 text list []
    × (bytes + reserve_all (trees built) ≡ reserve_all (trees list))
    × (length built ≤ length list)

-- this many pieces; a reader that builds has built their trees
abbrev pub AreMembers : DescriptionVersion → Bool → ℕ → ℕ → Text → List Tree → List Tree → ℕ → Text
    → Type 0
AreMembers v builds limit n text old new count rest =
    (list : List Tree) × PiecesToEnd v limit n text list rest × (count ≡ length list)
    × IsBuilt builds old new list

abbrev pub ReadsMembers : DescriptionVersion → Bool → ℕ → ℕ → Text → List Tree → List Tree
    → Result (ℕ × Bor (List ℕ)) code_error.ReadError → Type 0
ReadsMembers v builds limit n text old new r =
    MatchResult r (λ x. AreMembers v builds limit n text old new x.0 x.1.now)
    (MemoryOr (IsFaultIn v limit n text))

-- The text after the `[` of a nested description, which is this tree, and what follows its `]`.
abbrev pub IsNested : DescriptionVersion → ℕ → ℕ → Text → Tree → Text → Type 0
IsNested v limit n text tree rest =
    (inner : Pieces) × (n < limit) × ArePieces v limit (suc n) inner
    × (text ≡ spelling inner ++ right ∷ rest) × (tree ≡ pack (items inner))

-- The faults after the `[` of a nested description: it is one too many, the text ends in it, or it
-- has a fault. The bracket around it begins `start` bytes before the end of the text.

abbrev pub IsTooDeep : ℕ → ℕ → Text → code_fault.Fault → Type 0
IsTooDeep limit n text f = (n ≡ limit) × IsFault (length text + 1) f (fault too_highly_nested 0)

abbrev pub IsCutOff : DescriptionVersion → ℕ → ℕ → ℕ → Text → code_fault.Fault → Type 0
IsCutOff v limit n start text f =
    (inner : Pieces) × (n < limit) × ArePieces v limit (suc n) inner × (text ≡ spelling inner)
    × IsFault start f (fault unclosed_bracket 0)

abbrev pub IsBrokenInside : DescriptionVersion → ℕ → ℕ → ℕ → Text → code_fault.Fault → Type 0
IsBrokenInside v limit n start text f =
    (inner : Pieces) × (b : Broken) × (n < limit) × ArePieces v limit (suc n) inner
    × IsBroken v limit (suc n) b
    × (text ≡ spelling inner ++ broken_text b)
    × ((k : ℕ) → k + length (broken_text b) ≡ start
    → IsFault start f (enclosed (broken_fault b).kind (broken_fault b).index k))

abbrev pub IsNestedFault : DescriptionVersion → ℕ → ℕ → ℕ → Text → code_fault.Fault → Type 0
IsNestedFault v limit n start text f = IsTooDeep limit n text f
    ⊎ (IsCutOff v limit n start text f ⊎ IsBrokenInside v limit n start text f)

-- a nested description, whose tree a reader that builds has built
abbrev pub IsBuiltNested : DescriptionVersion → Bool → ℕ → ℕ → Text → List Tree → List Tree → Text
    → Type 0
IsBuiltNested v builds limit n text old new rest =
    (tree : Tree) × IsNested v limit n text tree rest × IsBuilt builds old new (tree ∷ [])

abbrev pub ReadsNested : DescriptionVersion → Bool → ℕ → ℕ → ℕ → Text → List Tree → List Tree
    → Result (Bor (List ℕ)) code_error.ReadError → Type 0
ReadsNested v builds limit n start text old new r =
    MatchResult r (λ x. IsBuiltNested v builds limit n text old new x.now)
    (MemoryOr (IsNestedFault v limit n start text))

-- the items of a whole text
abbrev pub ReadsItems : DescriptionVersion → ℕ → Text
    → Result (Vec BorrowedFormatItem Global) code_error.ReadError → Type 0
ReadsItems v limit text r =
    MatchResult r (λ x. PiecesToEnd v limit 0 text (map item_tree x.items) []
    × IsTrue (are_of_strings x.items)) (MemoryOr (IsFaultIn v limit 0 text))

-- The fault of a bracket with this fault inside it. The bracket begins a text with this many bytes.
abbrev pub IsEnclosed : ℕ → code_error.ReadError → code_error.ReadError → Type 0
IsEnclosed start errors.Memory r = r ≡ errors.Memory
IsEnclosed start (errors.Invalid f) r =
    MemoryOr (λ f'. (g : Fault) (total k : ℕ) → IsFault total f g → k + total ≡ start
    → IsFault start f' (enclosed g.kind g.index k)) r
