-- Where the parts of a text are in it.
use Rattle.std.specs.Prelude.{ℕ, ◌≡◌, ◌+◌, List, [], ◌∷◌, ◌++◌, length, map}
use Rattle.timefd_lang_component.specs.Tree.{Text, Tree, component, literal, compound, optional, first, Trees, no_trees, more_trees}
use Rattle.timefd_language.specs.declared.description_version.DescriptionVersion.TheVariants.{Three}
use Rattle.timefd_language.specs.Bytes.{left, right, is_white, ZeroOrMore}
use Rattle.timefd_language.specs.Grammar.{nesting_limit}
use Rattle.timefd_language.specs.Head.{Head, IsHead, head_text}
use Rattle.timefd_parse.specs.Language.{SpellsIn}
use Rattle.timefd_language.specs.declared.description_version.Language.{Language}
use Rattle.timefd_language.specs.declared.description_version.Language.TheVariants.{Version}
use Rattle.timefd_lint_explain.specs.declared.node.ShownNode.{ShownNode}

-- A byte range of a text, from `start` to before `end`.
pub record Span : Type 0 where
  pub start : ℕ
  pub end : ℕ

abbrev pub span : ℕ → ℕ → Span
span start end = record { start = start; end = end }

abbrev pub span_of : ShownNode → Span
span_of n = span n.start n.end

-- A whole text that begins at this byte.
abbrev pub whole : ℕ → Text → Span
whole at text = span at (at + length text)

-- A description with its brackets, where this byte is the opening one.
abbrev pub around : ℕ → Text → Span
around at inner = span at (at + length inner + 2)

-- The members of a composite letter have no text of their own: their empty ranges are where the letter's text
-- begins.
abbrev pub members_at : ℕ → Trees → List Span
members_at at no_trees = []
members_at at (more_trees t ts) = span at at ∷ members_at at ts

-- This span comes first, and these follow it.
pub record Leads (one : Span) (Others : List Span → Type 0) (spans : List Span) : Type 0 where
  pub others : List Span
  pub all : spans ≡ one ∷ others
  pub stand : Others others

-- After the head of a bracket.
pub record InBracket (Inside : ℕ → Text → List Span → Type 0) (at : ℕ) (text : Text) (spans : List Span)
    : Type 0 where
  pub head : Head
  pub inside : Text
  pub is_head : IsHead head
  pub cut : text ≡ head_text head ++ inside
  pub stand : Inside (at + length (head_text head)) inside spans

-- The end of a bracket that holds nothing more.
pub record Closes (at : ℕ) (text : Text) (spans : List Span) : Type 0 where
  pub white : Text
  pub all_white : ZeroOrMore is_white white
  pub cut : text ≡ white ++ right ∷ []
  pub none : spans ≡ []

-- A description in brackets, after white space, and what follows it.
pub record OneNested (Description Others : ℕ → Text → List Span → Type 0) (at : ℕ) (text : Text)
    (spans : List Span) : Type 0 where
  pub white : Text
  pub inner : Text
  pub rest : Text
  pub here : List Span
  pub after : List Span
  pub all_white : ZeroOrMore is_white white
  pub cut : text ≡ white ++ left ∷ (inner ++ right ∷ rest)
  pub stands : Description (at + length white) inner here
  pub others : Others (at + length white + length inner + 2) rest after
  pub all : spans ≡ here ++ after

-- The start of a text, which spells this tree alone, and what follows it.
pub record OnePiece (language : Language) (t : Tree) (Piece Others : ℕ → Text → List Span → Type 0)
    (at : ℕ) (text : Text) (spans : List Span) : Type 0 where
  pub front : Text
  pub rest : Text
  pub here : List Span
  pub after : List Span
  pub cut : text ≡ front ++ rest
  pub spells : SpellsIn language nesting_limit front (t ∷ [])
  pub stands : Piece at front here
  pub others : Others (at + length front) rest after
  pub all : spans ≡ here ++ after

-- The spans of the parts, in order, for a text that begins at this byte.
abbrev mutual
  -- A piece, and what it holds.
  pub PieceStands : Tree → ℕ → Text → List Span → Type 0
  PieceStands (component c) at text spans = spans ≡ whole at text ∷ []
  PieceStands (literal bytes) at text spans = spans ≡ whole at text ∷ []
  PieceStands (compound ts) at text spans = spans ≡ whole at text ∷ members_at at ts
  PieceStands (optional f t) at text spans =
      Leads (whole at text) (InBracket (OneNested (DescriptionStands t) Closes) at text) spans
  PieceStands (first ts) at text spans =
      Leads (whole at text) (InBracket (AlternativesStand ts) at text) spans

  -- A description, where this byte is its opening bracket and this text is inside; and its pieces.
  pub DescriptionStands : Tree → ℕ → Text → List Span → Type 0
  DescriptionStands (component c) at inner spans = spans ≡ around at inner ∷ whole (at + 1) inner ∷ []
  DescriptionStands (literal bytes) at inner spans = spans ≡ around at inner ∷ whole (at + 1) inner ∷ []
  DescriptionStands (compound ts) at inner spans =
      Leads (around at inner) (PiecesStand (Version Three) ts (at + 1) inner) spans
  DescriptionStands (optional f t) at inner spans =
      Leads (around at inner) (Leads (whole (at + 1) inner)
      (InBracket (OneNested (DescriptionStands t) Closes) (at + 1) inner)) spans
  DescriptionStands (first ts) at inner spans =
      Leads (around at inner) (Leads (whole (at + 1) inner)
      (InBracket (AlternativesStand ts) (at + 1) inner)) spans

  -- Descriptions, one after another, up to the end of the bracket.
  pub AlternativesStand : Trees → ℕ → Text → List Span → Type 0
  AlternativesStand no_trees at text spans = Closes at text spans
  AlternativesStand (more_trees t ts) at text spans =
      OneNested (DescriptionStands t) (AlternativesStand ts) at text spans

  -- Pieces, one after another: each is a start of the text that spells one tree, with what it holds.
  pub PiecesStand : Language → Trees → ℕ → Text → List Span → Type 0
  PiecesStand language no_trees at text spans = (text ≡ []) × (spans ≡ [])
  PiecesStand language (more_trees t ts) at text spans =
      OnePiece language t (PieceStands t) (PiecesStand language ts) at text spans

-- What a bracket holds.
abbrev pub HeldStand : Tree → ℕ → Text → List Span → Type 0
HeldStand (component c) at text spans = spans ≡ []
HeldStand (literal bytes) at text spans = spans ≡ []
HeldStand (compound ts) at text spans = spans ≡ []
HeldStand (optional f t) at text spans = InBracket (OneNested (DescriptionStands t) Closes) at text spans
HeldStand (first ts) at text spans = InBracket (AlternativesStand ts) at text spans

-- The nodes that are appended have these spans.
pub record AddsAt (Stand : List Span → Type 0) (old new : List ShownNode) : Type 0 where
  pub more : List ShownNode
  pub whole : new ≡ old ++ more
  pub stand : Stand (map span_of more)

-- The nodes of a text have the spans of its parts.
abbrev pub NodesStand : Language → Trees → Text → List ShownNode → Type 0
NodesStand language ts text nodes = PiecesStand language ts 0 text (map span_of nodes)
