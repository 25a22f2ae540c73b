-- Why a text can't be read, and where: a relation between the text, the description, and what comes first. It
-- says nothing about the order in which a reader tries things.
use Rattle.std.specs.Prelude.{◌≡◌, ◌↔◌, ◌⊎◌, ◌++◌, ⊤, Bool, true, false, [], is_some, length, Ok, Err}
use Rattle.timefd_lang_component.specs.declared.component.Component.{Component}
use Rattle.timefd_lang_component.specs.Modern.{modern}
use Rattle.timefd_lang_component.specs.Tree.{Text, Tree, component, literal, compound, optional, first, Trees, no_trees, more_trees}
use Rattle.timefd_date_moment.specs.declared.fields.fault.ReadError.{ReadError}
use Rattle.timefd_date_moment.specs.declared.fields.fault.UnreadReason.{UnreadReason}
use Rattle.timefd_date_moment.specs.declared.fields.fault.UnreadReason.TheVariants as for
use Rattle.timefd_date_moment.specs.declared.fields.fields.Fields.{Fields}
use Rattle.timefd_date_moment.specs.Fields.Inputs.{input}
use Rattle.timefd_date_moment.specs.Fields.Reads.{Point, at, fields_of, start}
use Rattle.timefd_date_moment.specs.Fields.Relations.{Reads, ReadsComponent}
use Rattle.timefd_date_moment.specs.Fields.Rules.{rule_of}

-- whether the text begins with something that the component reads
abbrev pub stands : Component → Text → Bool
stands c text = is_some (input (rule_of c) text)

-- A component is not read: nothing that it reads is here, or what is here contradicts a value that was read
-- before.
abbrev pub IsUnread : Component → Point → UnreadReason → Type 0
IsUnread c p (for.Unread d) = (d ≡ c) × (stands c p.rest ≡ false)
IsUnread c p (for.Contradiction d) =
    (d ≡ c) × (stands c p.rest ≡ true) × ((q : Point) → ReadsComponent c p q → ⊥)
IsUnread c p for.Literal = ⊥
IsUnread c p for.Trailing = ⊥

-- a literal is not read: the text goes on with something else
abbrev pub IsOtherwise : Text → Point → UnreadReason → Type 0
IsOtherwise bytes p (for.Unread c) = ⊥
IsOtherwise bytes p (for.Contradiction c) = ⊥
IsOtherwise bytes p for.Literal = (rest : Text) → p.rest ≡ bytes ++ rest → ⊥
IsOtherwise bytes p for.Trailing = ⊥

abbrev pub NoneReads : Trees → Point → Type 0
NoneReads no_trees p = ⊤
NoneReads (more_trees t ts) p = ((q : Point) → Reads t p q → ⊥) × NoneReads ts p

-- A description that begins at the first point stops at the second, for this reason: everything between them
-- is read. An optional part never stops. Alternatives stop if none of them is read, at the position and for
-- the reason of the first one.
abbrev mutual
  pub Stops : Tree → Point → Point → UnreadReason → Type 0
  Stops (component c) p q r = (q ≡ p) × IsUnread (modern c) p r
  Stops (literal bytes) p q r = (q ≡ p) × IsOtherwise bytes p r
  Stops (compound ts) p q r = StopsAmong ts p q r
  Stops (optional format t) p q r = ⊥
  Stops (first no_trees) p q r = ⊥
  Stops (first (more_trees t ts)) p q r = Stops t p q r × NoneReads ts p

  pub StopsAmong : Trees → Point → Point → UnreadReason → Type 0
  StopsAmong no_trees p q r = ⊥
  StopsAmong (more_trees t ts) p q r =
      Stops t p q r ⊎ ((mid : Point) × Reads t p mid × StopsAmong ts mid q r)

-- the whole description is read, and more text follows
abbrev pub Trails : Tree → Text → Point → UnreadReason → Type 0
Trails t text q r = (r ≡ for.Trailing) × Reads t (start text) q × (q.rest ≡ [] → ⊥)

-- The text has a front that is read, and after it the description stops, or has ended. The index of the fault
-- is the length of that front.
pub record HasFault (t : Tree) (text : Text) (e : ReadError) : Type 0 where
  pub front : Text
  pub rest : Text
  pub fields : Fields
  pub cut : text ≡ front ++ rest
  pub position : e.index ≡ length front
  pub why : Stops t (start text) (at rest fields) e.reason ⊎ Trails t text (at rest fields) e.reason

-- The error that reading returns is exactly this fault.
abbrev pub FaultsExactly : Type 0
FaultsExactly = (t : Tree) (text : Text) (e : ReadError) → HasFault t text e ↔ (fields_of t text ≡ Err e)

-- the whole text is read as these fields
abbrev pub ReadsWhole : Tree → Text → Fields → Type 0
ReadsWhole t text f = Reads t (start text) (at [] f)

-- The fields that reading returns are exactly these.
abbrev pub FieldsExactly : Type 0
FieldsExactly = (t : Tree) (text : Text) (f : Fields) → ReadsWhole t text f ↔ (fields_of t text ≡ Ok f)

-- A text is read as exactly one list of fields, or has exactly one fault, never both.
pub record HasOneAnswer (t : Tree) (text : Text) : Type 0 where
  pub answered : ((f : Fields) × ReadsWhole t text f) ⊎ ((e : ReadError) × HasFault t text e)
  pub one_reading : (f g : Fields) → ReadsWhole t text f → ReadsWhole t text g → f ≡ g
  pub one_fault : (d e : ReadError) → HasFault t text d → HasFault t text e → d ≡ e
  pub not_both : (f : Fields) (e : ReadError) → ReadsWhole t text f → HasFault t text e → ⊥

abbrev pub OneAnswer : Type 0
OneAnswer = (t : Tree) (text : Text) → HasOneAnswer t text
