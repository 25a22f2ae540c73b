-- What a part of a description means, or what is wrong there.
use Rattle.std.specs.Prelude.{ℕ, ◌+◌, ◌≡◌, ◌⊎◌, Bool, true, false, ◌&&◌, nat_le, nat_lt, List, [], ◌∷◌, ◌++◌, Option, None, Some, codes, decimal, string_bytes, if◌then◌else◌, IsTrue}
use Rattle.timefd_parse.specs.Tree.{Text, Tree, trees}
use Rattle.timefd_lint_diagnosis.specs.declared.diagnostic.Diagnostic.{Diagnostic}
use Rattle.timefd_lint_diagnosis.specs.Diagnoses.{IsDiagnosed}
use Rattle.timefd_lint_drawing.specs.Shown.{safe}
use Rattle.timefd_lint_lsp.specs.declared.editor.fault_hover.Hover.{Hover}
use Rattle.timefd_lint_lsp.specs.Editor.FaultHovers.{IsFaultHover, is_at_fault}
use Rattle.timefd_lint_lsp.specs.Editor.GoodFronts.{IsGoodFront}
use Rattle.timefd_lint_lsp.specs.Editor.Positions.{range_of}
use Rattle.timefd_lint_explain.specs.declared.node.ShownNode.{ShownNode}
use Rattle.timefd_lint_explain.specs.Examples.{Examples, HasExample}
use Rattle.timefd_lint_explain.specs.Parts.{AreParts, all_parts}
use Rattle.timefd_lint_explain.specs.Stands.{NodesStand}
use Rattle.timefd_language.specs.Grammar.{nesting_limit}
use Rattle.timefd_lint_sources.specs.declared.reported.ItemEnd.{ItemEnd}
use Rattle.timefd_lint_sources.specs.declared.reported.ItemEnd.TheVariants.{PassedOver, Accepted, Converted, Refused, NotText, Allowed, UnreadCall, UnreadValue, WrongComment}
use Rattle.timefd_lint_sources.specs.declared.reported.SourceText.{SourceText}
use Rattle.timefd_lint_sources.specs.Judged.{IsEndOf, IsJudged, language_in, text_of}
use Rattle.timefd_lint_sources.specs.Reported.{AllFound, AreAllOf, IsFound}
use Rattle.timefd_language.specs.declared.description_version.Language.{Language}
use Rattle.timefd_parse.specs.Language.{SpellsIn}
use Rattle.timefd_lint_scan.specs.declared.description.SourceDescription.{SourceDescription}
use Rattle.timefd_lint_scan.specs.declared.piece.PlacedToken.{PlacedToken}
use Rattle.timefd_lint_scan.specs.Found.{AreInOrder, index_in_source}

abbrev pub example_in : Text → Text
example_in [] = []
example_in (b ∷ bytes) = codes ", as `" ++ (safe (b ∷ bytes) ++ codes "`")

-- what a node is, how many bytes it reserves, and an example of what it writes
abbrev pub words_on : ShownNode → Text
words_on n =
    string_bytes n.words ++ (codes "\nat most " ++ (decimal n.bytes ++ (codes " bytes" ++ example_in (string_bytes n.example))))

-- It is at the bytes of the document that the node comes from.
pub record IsHoverOf (document : Text) (d : SourceDescription) (n : ShownNode) (h : Hover) : Type 0 where
  pub range : h.range ≡ range_of document (index_in_source d n.start) (index_in_source d n.end)
  pub text : string_bytes h.text ≡ words_on n

-- whether a literal covers an index of its document
abbrev pub is_at : PlacedToken → ℕ → Bool
is_at p index = nat_le p.start index && nat_lt index p.end

-- the first description whose literal covers the index
abbrev pub first_at : List SourceDescription → ℕ → Option SourceDescription
first_at [] index = None
first_at (d ∷ ds) index = if is_at d.piece index then Some d else first_at ds index

abbrev pub index_from : ℕ → ℕ → List ℕ → ℕ → ℕ
index_from at next [] position = at
index_from at next (other ∷ positions) position =
    index_from (if nat_le other position then next else at) (next + 1) positions position

-- the last of these positions that isn't after `position`
abbrev pub index_in : List ℕ → ℕ → ℕ
index_in positions position = index_from 0 0 positions position

-- the byte of a description that is at an index of its document, or the last one before that index
abbrev pub byte_at : SourceDescription → ℕ → ℕ
byte_at d index = index_in d.unescaped.positions.items index

-- whether a node covers a byte of the description
abbrev pub covers : ShownNode → ℕ → Bool
covers n at = nat_le n.start at && nat_lt at n.end

abbrev pub innermost_from : Option ShownNode → List ShownNode → ℕ → Option ShownNode
innermost_from inner [] at = inner
innermost_from inner (n ∷ ns) at = innermost_from (if covers n at then Some n else inner) ns at

-- the last node that covers it: a node comes before the nodes inside it
abbrev pub innermost : List ShownNode → ℕ → Option ShownNode
innermost ns at = innermost_from None ns at

-- What is shown at an index of a document is a part of a description whose literal covers the index, and the
-- part covers the byte at it. It has an example: for a component, what the formatter writes for the component
-- that the words name.
pub record IsHoverIn (s : SourceText) (index : ℕ) (h : Hover) : Type 0 where
  pub description : SourceDescription
  pub node : ShownNode
  pub found : IsFound s description
  pub stands : IsTrue (is_at description.piece index)
  pub covered : IsTrue (covers node (byte_at description index))
  pub example : HasExample node
  pub shown : IsHoverOf s.text.now description node h

-- What is shown at an index of a document is the fault of a description whose literal covers the index, and the
-- fault is there.
pub record IsFaultIn (s : SourceText) (index : ℕ) (h : Hover) : Type 0 where
  pub description : SourceDescription
  pub fault : Diagnostic
  pub found : IsFound s description
  pub stands : IsTrue (is_at description.piece index)
  pub diagnosed : IsDiagnosed (language_in description) (text_of description) fault
  pub at : IsTrue (is_at_fault description fault index)
  pub shown : IsFaultHover s.text.now description fault h

abbrev pub IsPartOrFault : SourceText → ℕ → Hover → Type 0
IsPartOrFault s index h = IsHoverIn s index h ⊎ IsFaultIn s index h

-- The nodes are the parts of what a text spells, at their positions.
pub record AreNodesOf (language : Language) (text : Text) (nodes : List ShownNode) : Type 0 where
  pub parts : (list : List Tree) → SpellsIn language nesting_limit text list → AreParts (all_parts 0 (trees list)) nodes
  pub positions : (list : List Tree) → SpellsIn language nesting_limit text list → NodesStand language (trees list) text nodes
  pub examples : Examples nodes

abbrev pub IsShownOf : Text → SourceDescription → Option ShownNode → Option Hover → Type 0
IsShownOf document d None found = found ≡ None
IsShownOf document d (Some n) None = ⊥
IsShownOf document d (Some n) (Some h) = IsHoverOf document d n h

-- The innermost node at a byte is shown, if there is one.
abbrev pub IsShownIn : Text → SourceDescription → Text → ℕ → Option Hover → Type 0
IsShownIn document d text at found = (nodes : List ShownNode) × AreNodesOf (language_in d) text nodes
    × IsShownOf document d (innermost nodes at) found

-- of the pieces that precede the one at fault
abbrev pub IsShownBefore : Text → SourceDescription → Text → ℕ → Option Hover → Type 0
IsShownBefore document d text at found = (front : Text) × IsGoodFront (language_in d) text front
    × IsShownIn document d front at found

abbrev pub IsFaultShown : Text → SourceDescription → Diagnostic → Option Hover → Type 0
IsFaultShown document d g None = ⊥
IsFaultShown document d g (Some h) = IsFaultHover document d g h

abbrev pub IsShownRefusedIf : Bool → Text → SourceDescription → Text → Diagnostic → ℕ → Option Hover → Type 0
IsShownRefusedIf true document d text g index found = IsFaultShown document d g found
IsShownRefusedIf false document d text g index found = IsShownBefore document d text (byte_at d index) found

-- A fault is shown at its bytes, and elsewhere what precedes the piece that has it.
abbrev pub IsShownRefused : Text → SourceDescription → Text → Diagnostic → ℕ → Option Hover → Type 0
IsShownRefused document d text g index found =
    IsShownRefusedIf (is_at_fault d g index) document d text g index found

-- In an accepted description the part is shown, in a refused one the fault or a part before it, and in any other
-- nothing.
abbrev pub IsShownBy : Text → SourceDescription → Text → ℕ → ItemEnd → Option Hover → Type 0
IsShownBy document d text index PassedOver found = found ≡ None
IsShownBy document d text index (Accepted warned) found = IsShownIn document d text (byte_at d index) found
IsShownBy document d text index (Converted count) found = ⊥
IsShownBy document d text index Refused found = (g : Diagnostic) × IsDiagnosed (language_in d) text g
    × IsShownRefused document d text g index found
IsShownBy document d text index NotText found = found ≡ None
IsShownBy document d text index (Allowed left) found = ⊥
IsShownBy document d text index UnreadCall found = ⊥
IsShownBy document d text index UnreadValue found = ⊥
IsShownBy document d text index WrongComment found = ⊥

abbrev pub IsShownWhere : Text → SourceDescription → Text → ℕ → Option Hover → Type 0
IsShownWhere document d text index found = (end : ItemEnd) × IsJudged None (language_in d) text end
    × IsShownBy document d text index end found

-- what is shown at an index of the document that has the description, by how its check ends
pub record IsShownOn (document : Text) (d : SourceDescription) (index : ℕ) (h : Option Hover) : Type 0 where
  pub end : ItemEnd
  pub is : IsEndOf None d end
  pub shown : IsShownBy document d (text_of d) index end h

abbrev pub IsShownOfAny : Text → Option SourceDescription → ℕ → Option Hover → Type 0
IsShownOfAny document None index found = found ≡ None
IsShownOfAny document (Some d) index found = IsShownOn document d index found

-- It is about the first description of a source whose literal covers the index.
pub record IsShownAt (s : SourceText) (index : ℕ) (h : Option Hover) : Type 0 where
  pub descriptions : List SourceDescription
  pub all : AreAllOf s descriptions
  pub stand : AllFound s descriptions
  pub in_order : AreInOrder 0 descriptions
  pub shown : IsShownOfAny s.text.now (first_at descriptions index) index h
