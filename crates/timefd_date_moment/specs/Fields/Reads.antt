-- How a tree reads a text: what is left and which fields were read, or the first part that can't be read.
-- Each component takes as many bytes as it can, and nothing is tried twice.
use Rattle.std.specs.Prelude.{ℕ, ◌≡◌, ◌==◌, ◌≤◌, ◌-◌, eqb, if◌then◌else◌, drop, length, Option, Some, None, Result, Ok, Err}
use Rattle.std.specs.Borrow.{Bor}
use Rattle.std.specs.List.{starts_with}
use Rattle.timefd_lang_component.specs.declared.component.Component.{Component}
use Rattle.timefd_lang_component.specs.Modern.{modern}
use Rattle.timefd_lang_component.specs.Tree.{Text, Tree, component, literal, compound, optional, first, Trees, no_trees, more_trees}
use Rattle.timefd_date_moment.specs.declared.fields.fault.FieldFault.{FieldFault}
use Rattle.timefd_date_moment.specs.declared.fields.fault.UnreadReason.{UnreadReason}
use Rattle.timefd_date_moment.specs.declared.fields.fault.UnreadReason.TheVariants as for
use Rattle.timefd_date_moment.specs.declared.fields.fault.ReadError.{ReadError}
use Rattle.timefd_date_moment.specs.declared.fields.fields.Fields.{Fields}
use Rattle.timefd_date_moment.specs.declared.fields.reading.Reading.{Reading}
use Rattle.timefd_date_moment.specs.Fields.Fields.{no_fields}
use Rattle.timefd_date_moment.specs.Fields.Inputs.{input}
use Rattle.timefd_date_moment.specs.Fields.Readings.{with_reading}
use Rattle.timefd_date_moment.specs.Fields.Rules.{rule_of}

-- The text that is left, and the fields that were read.
pub record Point : Type 0 where
  pub rest : Text
  pub fields : Fields

abbrev pub at : Text → Fields → Point
at rest fields = record { rest = rest; fields = fields }

-- The fault of a part that begins here.
abbrev pub fault_at : Point → UnreadReason → Result Point FieldFault
fault_at p reason = Err (record { reason = reason; left = length p.rest })

abbrev pub agreed : Component → Point → ℕ → Option Fields → Result Point FieldFault
agreed c p len None = fault_at p (for.Contradiction c)
agreed c p len (Some fields) = Ok (record { rest = drop len p.rest; fields = fields })

abbrev pub taken : Component → Point → Option (Reading × ℕ) → Result Point FieldFault
taken c p None = fault_at p (for.Unread c)
taken c p (Some r) = agreed c p r.1 (with_reading p.fields r.0)

-- A modern component reads the start of the text, and no other value than was read before.
abbrev pub read_component : Component → Point → Result Point FieldFault
read_component c p = taken c p (input (rule_of c) p.rest)

-- What is taken is read at the start, and the fields have it. `None` says nothing about the text; the fields
-- stay as they are.
abbrev pub TakesFront : Option (Reading × ℕ) → Text → Fields → Fields → Option ℕ → Type 0
TakesFront read text old new (Some len) = (reading : Reading) × (read ≡ Some (reading, len))
    × (with_reading old reading ≡ Some new) × (len ≤ length text)
TakesFront read text old new None = new ≡ old

abbrev pub read_literal : Text → Point → Result Point FieldFault
read_literal bytes p = if starts_with eqb p.rest bytes
    then Ok (record { rest = drop (length bytes) p.rest; fields = p.fields })
    else fault_at p for.Literal

-- One part after another.
abbrev pub followed : Result Point FieldFault → (Point → Result Point FieldFault) → Result Point FieldFault
followed (Ok p) next = next p
followed (Err f) next = Err f

-- A part that may be missing: if it can't be read, all is as it was in front of it.
abbrev pub perhaps : Point → Result Point FieldFault → Result Point FieldFault
perhaps p (Ok q) = Ok q
perhaps p (Err f) = Ok p

-- An alternative, and what to do if it can't be read.
abbrev pub unless_read : Result Point FieldFault → (FieldFault → Result Point FieldFault) → Result Point FieldFault
unless_read (Ok p) others = Ok p
unless_read (Err f) others = others f

abbrev pub earlier : Option FieldFault → FieldFault → Option FieldFault
earlier None f = Some f
earlier (Some e) f = Some e

-- No alternative can be read: the fault is the one of the first. An empty list reads nothing.
abbrev pub none_reads : Point → Option FieldFault → Result Point FieldFault
none_reads p None = Ok p
none_reads p (Some f) = Err f

abbrev mutual
  pub read : Tree → Point → Result Point FieldFault
  read (component c) p = read_component (modern c) p
  read (literal bytes) p = read_literal bytes p
  read (compound ts) p = read_all ts p
  read (optional format t) p = perhaps p (read t p)
  read (first ts) p = read_first None ts p

  pub read_all : Trees → Point → Result Point FieldFault
  read_all no_trees p = Ok p
  read_all (more_trees t ts) p = followed (read t p) (λ q. read_all ts q)

  -- The first alternative that can be read, after others, of which the first has this fault.
  pub read_first : Option FieldFault → Trees → Point → Result Point FieldFault
  read_first fault no_trees p = none_reads p fault
  read_first fault (more_trees t ts) p =
      unless_read (read t p) (λ f. read_first (earlier fault f) ts p)

abbrev pub start : Text → Point
start text = record { rest = text; fields = no_fields }

-- Once the description has been read, the text has to end.
abbrev pub ended : ℕ → Text → Fields → Result Fields ReadError
ended size rest fields = if length rest == 0 then Ok fields
    else Err (record { reason = for.Trailing; index = size - length rest })

abbrev pub whole : ℕ → Result Point FieldFault → Result Fields ReadError
whole size (Ok p) = ended size p.rest p.fields
whole size (Err f) = Err (record { reason = f.reason; index = size - f.left })

-- THE result: the fields that the whole text shows by the description, or the first fault.
abbrev pub fields_of : Tree → Text → Result Fields ReadError
fields_of t text = whole (length text) (read t (start text))

-- What a reader returns, with the fields afterwards, is what was to be read. After a fault the fields may
-- hold anything.
abbrev pub Gives : Result Point FieldFault → Fields → Result (Bor Text) FieldFault → Type 0
Gives read fields (Ok rest) = read ≡ Ok (at rest.now fields)
Gives read fields (Err f) = read ≡ Err f

-- What is returned and filled in is what was to be read. After an error the fields may hold anything.
abbrev pub Fills : Result Fields ReadError → Fields → Result (Unit {0}) ReadError → Type 0
Fills read fields (Ok done) = read ≡ Ok fields
Fills read fields (Err e) = read ≡ Err e
