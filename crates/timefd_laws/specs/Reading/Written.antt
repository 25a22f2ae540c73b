-- A moment that was read from a text can be written, and is read as the same moment again.
use Rattle.std.specs.Prelude.{◌≡◌, true, false, Result, Ok}
use Rattle.timefd_lang_component.specs.Tree.{Text, Tree, component, literal, compound, optional, first, Trees, no_trees, more_trees}
use Rattle.timefd_date_format.specs.Written.{written}
use Rattle.timefd_date_moment.specs.declared.moment.Moment.{Moment}
use Rattle.timefd_date_moment.specs.declared.fields.fields.Fields.{Fields}
use Rattle.timefd_date_moment.specs.Fields.Reads.{Point, fields_of, start}
use Rattle.timefd_date_moment.specs.Fields.Relations.{Reads}
use Rattle.timefd_date_moment.specs.declared.reading.error.ValueError.{ValueError}
use Rattle.timefd_date_moment.specs.Reading.Values.{IsMomentOf}
use Rattle.timefd_lang_warnings.specs.Settling.Settled.{is_settled}
use Rattle.timefd_laws.specs.Reading.Again.{AnswersSame, is_plain}

-- Everything that a formatter writes for a description was read: the optional parts that are written, and
-- the first of alternatives. More may have been read.
abbrev mutual
  pub ReadsWritten : Tree → Point → Point → Type 0
  ReadsWritten (component c) p q = Reads (component c) p q
  ReadsWritten (literal bytes) p q = Reads (literal bytes) p q
  ReadsWritten (compound ts) p q = ReadsAllWritten ts p q
  ReadsWritten (optional true t) p q = ReadsWritten t p q
  ReadsWritten (optional false t) p q = Reads (optional false t) p q
  ReadsWritten (first no_trees) p q = q ≡ p
  ReadsWritten (first (more_trees t ts)) p q = ReadsWritten t p q

  pub ReadsAllWritten : Trees → Point → Point → Type 0
  ReadsAllWritten no_trees p q = q ≡ p
  ReadsAllWritten (more_trees t ts) p q = (mid : Point) × ReadsWritten t p mid × ReadsAllWritten ts mid q

-- A text was read as these fields, and everything that a formatter writes was read.
pub record IsReadWritten (tree : Tree) (text : Text) (f : Fields) : Type 0 where
  pub read : fields_of tree text ≡ Ok f
  pub end : Point
  pub fields : end.fields ≡ f
  pub reads : ReadsWritten tree (start text) end

-- A description without optional parts and alternatives reads everything that it writes.
abbrev pub PlainReadsWritten : Type 0
PlainReadsWritten = (tree : Tree) (text : Text) (f : Fields) → is_plain tree ≡ true → fields_of tree text ≡ Ok f
    → IsReadWritten tree text f

-- There is a text that is written for the moment.
abbrev pub HasText : Moment → Tree → Type 0
HasText m tree = (again : Text) × (written m tree ≡ Ok again)

-- A moment that was read can be written: it has every part that a component needs, and no year is too long
-- for its component.
abbrev pub WritesAgain : Type 0
WritesAgain = (m : Moment) (tree : Tree) (text : Text) (f : Fields) → IsReadWritten tree text f
    → IsMomentOf f (Ok m) → HasText m tree

-- a moment that was read by a description without optional parts and alternatives can be written
abbrev pub WritesPlainAgain : Type 0
WritesPlainAgain = (m : Moment) (tree : Tree) (text : Text) (f : Fields) → is_plain tree ≡ true
    → fields_of tree text ≡ Ok f → IsMomentOf f (Ok m) → HasText m tree

-- The text that is written is read as the same moment.
pub record IsKept (m : Moment) (tree : Tree) : Type 0 where
  pub again : Text
  pub fields : Fields
  pub wrote : written m tree ≡ Ok again
  pub read : fields_of tree again ≡ Ok fields
  pub same : (r : Result Moment ValueError) → IsMomentOf fields r → AnswersSame m r

-- With a settled description, a moment that was read is written as a text that is read as the same moment.
abbrev pub ComesBack : Type 0
ComesBack = (m : Moment) (tree : Tree) (text : Text) (f : Fields) → is_settled tree ≡ true
    → IsReadWritten tree text f → IsMomentOf f (Ok m) → IsKept m tree
