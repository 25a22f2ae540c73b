-- Whatever is returned is read, and whatever can be read is returned.
use Rattle.std.proofs.Common.{ℕ, ◌≡◌, ◌∙◌, ◌⊎◌, inl, inr, ◌++◌, Bool, true, false, drop, length, Option, Some, None, Result, Ok, Err, refl, sym, ap}
use Rattle.std.specs.Prelude.{eqb, if◌then◌else◌}
use Rattle.std.specs.Cmp.{unsigned_Decides}
use Rattle.std.proofs.Math.Seq.{drop-append_seam}
use Rattle.std.proofs.lemmas.Slice.Eq.{starts_is}
use Rattle.std.specs.List.{starts_with}
use Rattle.timefd_lang_component.specs.declared.component.Component.{Component}
use Rattle.timefd_lang_component.specs.Modern.{modern}
use Rattle.timefd_lang_component.specs.Tree.{Text, Tree, component, literal, compound, optional, first, Trees, no_trees, more_trees}
use Rattle.timefd_date_moment.specs.declared.fields.fault.FieldFault.{FieldFault}
use Rattle.timefd_date_moment.specs.declared.fields.fields.Fields.{Fields}
use Rattle.timefd_date_moment.specs.declared.fields.reading.Reading.{Reading}
use Rattle.timefd_date_moment.specs.Fields.Inputs.{input}
use Rattle.timefd_date_moment.specs.Fields.Reads.{Point, agreed, earlier, fault_at, followed, none_reads, perhaps, read, read_all, read_first, read_literal, taken, unless_read}
use Rattle.timefd_date_moment.specs.declared.fields.fault.UnreadReason.TheVariants as for
use Rattle.timefd_date_moment.specs.Fields.Readings.{with_reading}
use Rattle.timefd_date_moment.specs.Fields.Relations.{Reads, ReadsAll, ReadsComponent, ReadsExactly, ReadsFirst}
use Rattle.timefd_date_moment.specs.Fields.Rules.{rule_of}

abbrev point_of : Point → Result Point FieldFault → Point
point_of p (Ok q) = q
point_of p (Err f) = p

-- components

agreed_is : (c : Component) (p q : Point) (reading : Reading) (len : ℕ) (f : Option Fields)
    → input (rule_of c) p.rest ≡ Some (reading, len) → with_reading p.fields reading ≡ f
    → agreed c p len f ≡ Ok q → ReadsComponent c p q
agreed_is c p q reading len None i w e = absurd cc
agreed_is c p q reading len (Some fields) i w e =
    let same : record { rest = drop len p.rest; fields = fields } ≡ q = ap (point_of p) e in
    (reading, len, i, w ∙ ap (λ (x : Point). Some x.fields) same, sym (ap (λ (x : Point). x.rest) same))

taken_is : (c : Component) (p q : Point) (r : Option (Reading × ℕ)) → input (rule_of c) p.rest ≡ r
    → taken c p r ≡ Ok q → ReadsComponent c p q
taken_is c p q None i e = absurd cc
taken_is c p q (Some r) i e = agreed_is c p q r.0 r.1 (with_reading p.fields r.0) i refl e

is_taken : (c : Component) (p q : Point) → ReadsComponent c p q
    → taken c p (input (rule_of c) p.rest) ≡ Ok q
is_taken c p q r =
    ap (taken c p) r.2 ∙ ap (agreed c p r.1) r.3
    ∙ ap (λ x. Ok (record { rest = x; fields = q.fields })) (sym r.4)

-- literals

literal_is : (bytes : Text) (p q : Point) (t : Bool) → starts_with eqb p.rest bytes ≡ t
    → (if t then Ok (record { rest = drop (length bytes) p.rest; fields = p.fields })
    else fault_at p for.Literal) ≡ Ok q → (p.rest ≡ bytes ++ q.rest) × (q.fields ≡ p.fields)
literal_is bytes p q false is e = absurd cc
literal_is bytes p q true is e =
    let same : record { rest = drop (length bytes) p.rest; fields = p.fields } ≡ q = ap (point_of p) e in
    let cut = (starts_is unsigned_Decides p.rest bytes (starts_with eqb p.rest bytes) refl).0 is in
    (cut ∙ ap (λ (x : Point). bytes ++ x.rest) same, sym (ap (λ (x : Point). x.fields) same))

is_literal : (bytes : Text) (p q : Point) → p.rest ≡ bytes ++ q.rest → q.fields ≡ p.fields
    → read_literal bytes p ≡ Ok q
is_literal bytes p q cut same =
    let is = (starts_is unsigned_Decides p.rest bytes (starts_with eqb p.rest bytes) refl).1 q.rest cut in
    ap (λ t. if t then Ok (record { rest = drop (length bytes) p.rest; fields = p.fields })
    else fault_at p for.Literal) is
    ∙ ap (λ x. Ok (record { rest = drop (length bytes) x; fields = p.fields })) cut
    ∙ ap (λ x. Ok (record { rest = x; fields = p.fields })) (drop-append_seam bytes q.rest)
    ∙ ap (λ x. Ok (record { rest = q.rest; fields = x })) (sym same)

-- what follows, and what may be missing

followed_is : (r : Result Point FieldFault) (next : Point → Result Point FieldFault) (q : Point)
    → followed r next ≡ Ok q → (mid : Point) × (r ≡ Ok mid) × (next mid ≡ Ok q)
followed_is (Ok mid) next q e = (mid, refl, e)
followed_is (Err f) next q e = absurd cc

unless_is : (r : Result Point FieldFault) (others : FieldFault → Result Point FieldFault) (q : Point)
    → unless_read r others ≡ Ok q → (r ≡ Ok q) ⊎ ((f : FieldFault) × (r ≡ Err f) × (others f ≡ Ok q))
unless_is (Ok p) others q e = inl e
unless_is (Err f) others q e = inr (f, refl, e)

perhaps_is : (p q : Point) (r : Result Point FieldFault) → perhaps p r ≡ Ok q
    → (r ≡ Ok q) ⊎ ((f : FieldFault) × (r ≡ Err f) × (q ≡ p))
perhaps_is p q (Ok s) e = inl e
perhaps_is p q (Err f) e = inr (f, refl, sym (ap (point_of p) e))

-- What can't be read has a fault.
faulty : (r : Result Point FieldFault) (P : Point → Type 0) → ((q : Point) → r ≡ Ok q → P q)
    → ((q : Point) → P q → ⊥) → (f : FieldFault) × (r ≡ Err f)
faulty (Ok q) P is none = absurd (none q (is q refl))
faulty (Err f) P is none = (f, refl)

unread : (r : Result Point FieldFault) (f : FieldFault) (q : Point) → r ≡ Err f → r ≡ Ok q → ⊥
unread r f q e o = absurd cc

none_is : (p q : Point) (f : FieldFault) → none_reads p (Some f) ≡ Ok q → ⊥
none_is p q f e = absurd cc

some_earlier : (before : Option FieldFault) (f : FieldFault) → (e : FieldFault) × (earlier before f ≡ Some e)
some_earlier None f = (f, refl)
some_earlier (Some e) f = (e, refl)

mutual
  answered : (t : Tree) (p q : Point) → Reads t p q → read t p ≡ Ok q
  answered (component c) p q r = is_taken (modern c) p q r
  answered (literal bytes) p q r = is_literal bytes p q r.0 r.1
  answered (compound ts) p q r = answered_all ts p q r
  answered (optional format t) p q (inl r) = ap (perhaps p) (answered t p q r)
  answered (optional format t) p q (inr r) =
      let fault = faulty (read t p) (Reads t p) (λ s e. reads t p s e) r.0 in
      ap (perhaps p) fault.1 ∙ ap Ok (sym r.1)
  answered (first no_trees) p q r = ap Ok (sym r)
  answered (first (more_trees t ts)) p q (inl r) =
      ap (λ x. unless_read x (λ f. read_first (earlier None f) ts p)) (answered t p q r)
  answered (first (more_trees t ts)) p q (inr r) =
      let fault = faulty (read t p) (Reads t p) (λ s e. reads t p s e) r.0 in
      ap (λ x. unless_read x (λ f. read_first (earlier None f) ts p)) fault.1
      ∙ answered_first (Some fault.0) ts p q r.1

  answered_all : (ts : Trees) (p q : Point) → ReadsAll ts p q → read_all ts p ≡ Ok q
  answered_all no_trees p q r = ap Ok (sym r)
  answered_all (more_trees t ts) p q r =
      ap (λ x. followed x (λ s. read_all ts s)) (answered t p r.0 r.1) ∙ answered_all ts r.0 q r.2

  answered_first : (fault : Option FieldFault) (ts : Trees) (p q : Point) → ReadsFirst ts p q
      → read_first fault ts p ≡ Ok q
  answered_first fault no_trees p q r = absurd r
  answered_first fault (more_trees t ts) p q (inl r) =
      ap (λ x. unless_read x (λ f. read_first (earlier fault f) ts p)) (answered t p q r)
  answered_first fault (more_trees t ts) p q (inr r) =
      let one = faulty (read t p) (Reads t p) (λ s e. reads t p s e) r.0 in
      ap (λ x. unless_read x (λ f. read_first (earlier fault f) ts p)) one.1
      ∙ answered_first (earlier fault one.0) ts p q r.1

  reads : (t : Tree) (p q : Point) → read t p ≡ Ok q → Reads t p q
  reads (component c) p q e = taken_is (modern c) p q (input (rule_of (modern c)) p.rest) refl e
  reads (literal bytes) p q e = literal_is bytes p q (starts_with eqb p.rest bytes) refl e
  reads (compound ts) p q e = reads_all ts p q e
  reads (optional format t) p q e = elim (perhaps_is p q (read t p) e) [
    | inl o ↦ inl (reads t p q o)
    | inr o ↦ inr ((λ s r. unread (read t p) o.0 s o.1 (answered t p s r)), o.2)
  ]
  reads (first no_trees) p q e = sym (ap (point_of p) e)
  reads (first (more_trees t ts)) p q e =
      elim (unless_is (read t p) (λ f. read_first (earlier None f) ts p) q e) [
        | inl o ↦ inl (reads t p q o)
        | inr o ↦ inr ((λ s r. unread (read t p) o.0 s o.1 (answered t p s r)), reads_first o.0 ts p q o.2)
      ]

  reads_all : (ts : Trees) (p q : Point) → read_all ts p ≡ Ok q → ReadsAll ts p q
  reads_all no_trees p q e = sym (ap (point_of p) e)
  reads_all (more_trees t ts) p q e =
      let parts = followed_is (read t p) (λ s. read_all ts s) q e in
      (parts.0, reads t p parts.0 parts.1, reads_all ts parts.0 q parts.2)

  reads_first : (f : FieldFault) (ts : Trees) (p q : Point) → read_first (Some f) ts p ≡ Ok q
      → ReadsFirst ts p q
  reads_first f no_trees p q e = absurd (none_is p q f e)
  reads_first f (more_trees t ts) p q e =
      elim (unless_is (read t p) (λ g. read_first (earlier (Some f) g) ts p) q e) [
        | inl o ↦ inl (reads t p q o)
        | inr o ↦ inr ((λ s r. unread (read t p) o.0 s o.1 (answered t p s r)), reads_first f ts p q o.2)
      ]

pub reads_exactly : ReadsExactly
reads_exactly t p q = (answered t p q, reads t p q)
