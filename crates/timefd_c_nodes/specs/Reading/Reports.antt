-- What is reported and written for a description that is read as nodes.
use Rattle.std.specs.Prelude.{ℕ, ◌≡◌, ◌*◌, ◌^◌, ◌<◌, ◌≤◌, ◌++◌, ◌↔◌, ⊤, Bool, true, false, IsTrue, IfOk, IsOk, List, MatchResult, Result, [], ◌∷◌, length, drop}
use Rattle.std.specs.Result.{IfErr}
use Rattle.timefd_lang_fault.specs.declared.borrowed_parse_error.BorrowedParseError.{BorrowedParseError}
use Rattle.timefd_lang_fault.specs.BorrowedFaults.{IsBorrowed, IsBorrowedOf, IsMemory}
use Rattle.timefd_lang_component.specs.Reserved.{reserve, reserve_all}
use Rattle.timefd_lang_component.specs.Tree.{Text, Tree, trees, pack}
use Rattle.timefd_lang_node_list.specs.Nodes.{kept_bytes}
use Rattle.timefd_lang_node_list.specs.Views.{walked, walked_all}
use Rattle.timefd_language.specs.declared.description_version.DescriptionVersion.TheVariants.{One, Two, Three}
use Rattle.timefd_language.specs.declared.description_version.Language.{Language}
use Rattle.timefd_language.specs.declared.description_version.Language.TheVariants.{Version, Strftime}
use Rattle.timefd_lang_fault.specs.Faults.{Fault}
use Rattle.timefd_parse.specs.Language.{FaultIn, SpellsIn, amount}
use Rattle.timefd_c_nodes.specs.declared.node.RawNode.{RawNode}
use Rattle.timefd_c_nodes.specs.Encoding.{node_for, nodes_by, own_text, texts_of}
use Rattle.timefd_c_nodes.specs.declared.reading.report.ReadReport.{ReadReport}

-- All parts of a description, each after its members: the parts of the items one after another, or in
-- version 3 those of the one tree that the items are packed to.
abbrev pub parts : Language → List Tree → List Tree
parts (Version One) list = walked_all (trees list)
parts (Version Two) list = walked_all (trees list)
parts (Version Three) list = walked (pack list)
parts Strftime list = walked_all (trees list)

-- the trees side by side: the items, or in version 3 the one tree that they are packed to
abbrev pub tops : Language → List Tree → List Tree
tops (Version One) list = list
tops (Version Two) list = list
tops (Version Three) list = pack list ∷ []
tops Strftime list = list

-- the length of the longest rendering: what all trees side by side reserve together, at most the greatest
-- `usize`
abbrev pub longest : Language → List Tree → ℕ
longest (Version One) list = kept_bytes (reserve_all (trees list))
longest (Version Two) list = kept_bytes (reserve_all (trees list))
longest (Version Three) list = reserve (pack list)
longest Strftime list = kept_bytes (reserve_all (trees list))

-- These parts, each with one node and these bytes, are reported. If both buffers have room, they begin with
-- the nodes and literals.
pub record ReportsParts {A : Type 0} (node : ℕ → ℕ → A → RawNode) (own : A → Text) (all : List A)
    (counted greatest : ℕ) (nodes_before nodes_after : List RawNode) (before after : Text) (r : ReadReport)
    : Type 0 where
  pub value : r.value ≡ counted
  pub bytes : r.bytes ≡ greatest
  pub nodes : r.nodes ≡ length all
  pub literals : r.literals ≡ length (texts_of own all)
  pub room : IsTrue r.written ↔ ((length all ≤ length nodes_before)
      × (length (texts_of own all) ≤ length before))
  pub nodes_written : IsTrue r.written
      → nodes_after ≡ nodes_by node own 0 0 all ++ drop (length all) nodes_before
  pub literals_written : IsTrue r.written
      → after ≡ texts_of own all ++ drop (length (texts_of own all)) before

-- The trees are reported, each with its own node and bytes.
abbrev pub Reports : List Tree → ℕ → ℕ → List RawNode → List RawNode → Text → Text → ReadReport → Type 0
Reports ts counted greatest nodes_before nodes_after before after r =
    ReportsParts node_for own_text ts counted greatest nodes_before nodes_after before after r

-- the report on a text that spells the list in the language
abbrev pub IsReport : Language → List Tree → List RawNode → List RawNode → Text → Text → ReadReport → Type 0
IsReport language list nodes_before nodes_after before after r =
    Reports (parts language list) (amount language list) (longest language list) nodes_before
    nodes_after before after r

-- What is read from a text of the language, with at most `limit` nested descriptions around one another: an
-- accepted text spells the list and is reported, and a refused text has the fault that the rules assign. A
-- text that spells a list is accepted, unless memory runs out, and a text with a fault is refused for it.
-- The empty text takes no memory.
pub record IsReadAs (language : Language) (limit : ℕ) (text : Text)
    (IsReported : List Tree → ReadReport → Type 0) (r : Result ReadReport BorrowedParseError) : Type 0 where
  pub found : IfOk r (λ x. (list : List Tree) × SpellsIn language limit text list × IsReported list x)
  pub fault : IfErr r (IsBorrowedOf (FaultIn language limit text))
  pub spelled : (list : List Tree) → SpellsIn language limit text list
      → MatchResult r (IsReported list) IsMemory
  pub refused : (f : Fault) → FaultIn language limit text f
      → MatchResult r (λ _. ⊥) (IsBorrowed f)
  pub empty : text ≡ [] → IsOk r

-- What is read is reported part by part.
abbrev pub IsRead : Language → ℕ → Text → List RawNode → List RawNode → Text → Text
    → Result ReadReport BorrowedParseError → Type 0
IsRead language limit text nodes_before nodes_after before after r =
    IsReadAs language limit text
    (λ list x. IsReport language list nodes_before nodes_after before after x) r

-- A `usize` counts the nodes of a text of strftime with `len` bytes: one for each letter, or up to fourteen
-- for two bytes.
abbrev pub IsCounted : Bool → ℕ → Type 0
IsCounted true len = ⊤
IsCounted false len = 7 * len < 2 ^ 64

-- A text with `len` bytes takes no memory, and a `usize` counts its nodes. What version 3 nests takes some.
abbrev pub TakesNone : Language → ℕ → Type 0
TakesNone (Version One) len = ⊤
TakesNone (Version Two) len = ⊤
TakesNone (Version Three) len = ⊥
TakesNone Strftime len = IsCounted false len
