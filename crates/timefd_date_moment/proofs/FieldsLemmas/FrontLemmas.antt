-- What is left is the end of the text.
use Rattle.std.proofs.Common.{ℕ, ◌≡◌, ◌∙◌, ◌≤◌, ◌++◌, Bool, true, false, [], drop, take, length, Option, Some, None, Result, Ok, Err, refl, sym, ap, arith, append_assoc, length-append}
use Rattle.std.specs.Prelude.{eqb, if◌then◌else◌}
use Rattle.std.proofs.lemmas.List.{take-append-drop}
use Rattle.std.specs.List.{starts_with}
use Rattle.timefd_lang_component.specs.declared.component.Component.{Component}
use Rattle.timefd_lang_component.specs.Modern.{modern}
use Rattle.timefd_lang_component.specs.Tree.{Text, component, literal, compound, optional, first, Trees, no_trees, more_trees}
use Rattle.timefd_date_moment.specs.declared.fields.fault.FieldFault.{FieldFault}
use Rattle.timefd_date_moment.specs.declared.fields.fault.UnreadReason.TheVariants as for
use Rattle.timefd_date_moment.specs.declared.fields.fields.Fields.{Fields}
use Rattle.timefd_date_moment.specs.declared.fields.reading.Reading.{Reading}
use Rattle.timefd_date_moment.specs.Fields.Inputs.{input}
use Rattle.timefd_date_moment.specs.Fields.Laws.{IsAfter, ReadsFronts}
use Rattle.timefd_date_moment.specs.Fields.Reads.{Point, agreed, earlier, fault_at, followed, none_reads, perhaps, read, read_all, read_first, taken, unless_read}
use Rattle.timefd_date_moment.specs.Fields.Readings.{with_reading}
use Rattle.timefd_date_moment.specs.Fields.Rules.{rule_of}

cut : (n : ℕ) (p : Point) → (front : Text) × (p.rest ≡ front ++ drop n p.rest)
cut n p = (take n p.rest, sym (take-append-drop n p.rest))

after_agreed : (c : Component) (p : Point) (len : ℕ) (fields : Option Fields)
    → IsAfter p (agreed c p len fields)
after_agreed c p len None = omega arith
after_agreed c p len (Some fields) = cut len p

after_taken : (c : Component) (p : Point) (r : Option (Reading × ℕ)) → IsAfter p (taken c p r)
after_taken c p None = omega arith
after_taken c p (Some r) = after_agreed c p r.1 (with_reading p.fields r.0)

after_literal : (bytes : Text) (p : Point) (t : Bool) → IsAfter p (if t
    then Ok (record { rest = drop (length bytes) p.rest; fields = p.fields })
    else fault_at p for.Literal)
after_literal bytes p true = cut (length bytes) p
after_literal bytes p false = omega arith

-- One part after another.
after_both : (p q : Point) (front : Text) (r : Result Point FieldFault) → p.rest ≡ front ++ q.rest
    → IsAfter q r → IsAfter p r
after_both p q front (Ok s) e b =
    (front ++ b.0, e ∙ ap (λ x. front ++ x) b.1 ∙ sym (append_assoc front b.0 s.rest))
after_both p q front (Err f) e b = omega (arith, b, ap length e, length-append front q.rest)

after_followed : (p : Point) (r : Result Point FieldFault) (next : Point → Result Point FieldFault)
    → IsAfter p r → ((q : Point) → IsAfter q (next q)) → IsAfter p (followed r next)
after_followed p (Ok q) next b n = after_both p q b.0 (next q) b.1 (n q)
after_followed p (Err f) next b n = b

after_perhaps : (p : Point) (r : Result Point FieldFault) → IsAfter p r → IsAfter p (perhaps p r)
after_perhaps p (Ok q) b = b
after_perhaps p (Err f) b = ([], refl)

abbrev IsWithin : Point → Option FieldFault → Type 0
IsWithin p None = Unit {0}
IsWithin p (Some f) = f.left ≤ length p.rest

after_unless : (p : Point) (r : Result Point FieldFault) (others : FieldFault → Result Point FieldFault)
    → IsAfter p r → ((f : FieldFault) → f.left ≤ length p.rest → IsAfter p (others f))
    → IsAfter p (unless_read r others)
after_unless p (Ok q) others b n = b
after_unless p (Err f) others b n = n f b

within_earlier : (p : Point) (before : Option FieldFault) (f : FieldFault) → IsWithin p before
    → f.left ≤ length p.rest → IsWithin p (earlier before f)
within_earlier p None f w b = b
within_earlier p (Some e) f w b = w

after_none : (p : Point) (fault : Option FieldFault) → IsWithin p fault → IsAfter p (none_reads p fault)
after_none p None w = ([], refl)
after_none p (Some f) w = w

mutual
  pub reads_fronts : ReadsFronts
  reads_fronts (component c) p = after_taken (modern c) p (input (rule_of (modern c)) p.rest)
  reads_fronts (literal bytes) p = after_literal bytes p (starts_with eqb p.rest bytes)
  reads_fronts (compound ts) p = all_fronts ts p
  reads_fronts (optional format t) p = after_perhaps p (read t p) (reads_fronts t p)
  reads_fronts (first ts) p = first_fronts None ts p tt

  all_fronts : (ts : Trees) (p : Point) → IsAfter p (read_all ts p)
  all_fronts no_trees p = ([], refl)
  all_fronts (more_trees t ts) p =
      after_followed p (read t p) (λ q. read_all ts q) (reads_fronts t p) (λ q. all_fronts ts q)

  first_fronts : (fault : Option FieldFault) (ts : Trees) (p : Point) → IsWithin p fault
      → IsAfter p (read_first fault ts p)
  first_fronts fault no_trees p w = after_none p fault w
  first_fronts fault (more_trees t ts) p w =
      after_unless p (read t p) (λ f. read_first (earlier fault f) ts p) (reads_fronts t p)
      (λ f b. first_fronts (earlier fault f) ts p (within_earlier p fault f w b))
