-- A text is read as exactly one list of fields, or has exactly one fault, which reading returns.
use Rattle.std.proofs.Common.{ℕ, ◌≡◌, ◌∙◌, ◌⊎◌, inl, inr, ◌++◌, ◌-◌, ◌==◌, Bool, true, false, [], ◌∷◌, drop, length, Option, Some, None, Result, Ok, Err, refl, sym, ap, subst, arith, append_assoc, length-append}
use Rattle.std.specs.Prelude.{eqb, is_some, if◌then◌else◌, ⊤}
use Rattle.std.specs.Cmp.{unsigned_Decides}
use Rattle.std.proofs.lemmas.Slice.Eq.{starts_is}
use Rattle.std.specs.List.{starts_with}
use Rattle.timefd_lang_component.specs.declared.component.Component.{Component}
use Rattle.timefd_lang_component.specs.Modern.{modern}
use Rattle.timefd_lang_component.specs.Tree.{Text, Tree, component, literal, compound, optional, first, Trees, no_trees, more_trees}
use Rattle.timefd_date_moment.specs.declared.fields.fault.ReadError.{ReadError}
use Rattle.timefd_date_moment.specs.declared.fields.fault.UnreadReason.{UnreadReason}
use Rattle.timefd_date_moment.specs.declared.fields.fault.UnreadReason.TheVariants as for
use Rattle.timefd_date_moment.specs.declared.fields.fields.Fields.{Fields}
use Rattle.timefd_date_moment.specs.Fields.Inputs.{input}
use Rattle.timefd_date_moment.specs.Fields.Laws.{IsAfter}
use Rattle.timefd_date_moment.specs.Fields.Readings.{with_reading}
use Rattle.timefd_date_moment.specs.Fields.Reads.{Point, agreed, at, earlier, ended, fault_at, fields_of, followed, read, read_all, read_first, read_literal, start, taken, unless_read, whole}
use Rattle.timefd_date_moment.specs.Fields.Relations.{Reads, ReadsAll, ReadsComponent, ReadsFirst}
use Rattle.timefd_date_moment.specs.Fields.Rules.{rule_of}
use Rattle.timefd_date_moment.proofs.FieldsLemmas.FrontLemmas.{reads_fronts}
use Rattle.timefd_date_moment.proofs.FieldsLemmas.RelationLemmas.{reads_exactly}
use Rattle.std.proofs.lemmas.Bool.{eqb-true}
use Rattle.timefd_date_moment.proofs.ReadingLemmas.ShownLemmas.{clash}
use Rattle.timefd_laws.specs.Reading.Faults.{FaultsExactly, FieldsExactly, HasFault, HasOneAnswer, IsOtherwise, IsUnread, NoneReads, OneAnswer, ReadsWhole, Stops, StopsAmong, Trails, stands}

-- reading returns only one result

abbrev in_ok : {A E : Type 0} → A → Result A E → A
in_ok a (Ok b) = b
in_ok a (Err e) = a

abbrev in_err : {A E : Type 0} → E → Result A E → E
in_err e (Ok b) = e
in_err e (Err f) = f

unfaulty : {A E : Type 0} (r : Result A E) (a : A) (e : E) → r ≡ Err e → r ≡ Ok a → ⊥
unfaulty r a e f o = absurd cc

-- what can't be read has a fault
faulty : {E : Type 0} (r : Result Point E) (P : Point → Type 0) → ((q : Point) → r ≡ Ok q → P q)
    → ((q : Point) → P q → ⊥) → (e : E) × (r ≡ Err e)
faulty (Ok q) P is none = absurd (none q (is q refl))
faulty (Err e) P is none = (e, refl)

-- What is read has no fault.
excludes : (t : Tree) (p q s : Point) (r : UnreadReason) → read t p ≡ fault_at q r → Reads t p s → ⊥
excludes t p q s r f is = unfaulty (read t p) s _ f ((reads_exactly t p s).0 is)

-- components

module _ (c : Component) (p : Point) where
  unread : (x : _) → input (rule_of (modern c)) p.rest ≡ x → is_some x ≡ false
      → taken (modern c) p x ≡ fault_at p (for.Unread (modern c))
  unread None i none = refl
  unread (Some r) i none = absurd (clash true none refl)

  agreed_not : (f : Option Fields) (reading : _) (len : ℕ)
      → input (rule_of (modern c)) p.rest ≡ Some (reading, len) → with_reading p.fields reading ≡ f
      → ((q : Point) → ReadsComponent (modern c) p q → ⊥)
      → agreed (modern c) p len f ≡ fault_at p (for.Contradiction (modern c))
  agreed_not None reading len i w none = refl
  agreed_not (Some f) reading len i w none =
      absurd (none (at (drop len p.rest) f) (reading, len, i, w, refl))

  contradicts : (x : _) → input (rule_of (modern c)) p.rest ≡ x → is_some x ≡ true
      → ((q : Point) → ReadsComponent (modern c) p q → ⊥)
      → taken (modern c) p x ≡ fault_at p (for.Contradiction (modern c))
  contradicts None i some none = absurd (clash false refl some)
  contradicts (Some r) i some none = agreed_not (with_reading p.fields r.0) r.0 r.1 i refl none

  component_stopped : (q : Point) (r : UnreadReason) → Stops (component c) p q r → read (component c) p ≡ fault_at q r
  component_stopped q (for.Unread d) s =
      unread (input (rule_of (modern c)) p.rest) refl s.1.1
      ∙ ap (λ x. fault_at p (for.Unread x)) (sym s.1.0) ∙ ap (λ x. fault_at x (for.Unread d)) (sym s.0)
  component_stopped q (for.Contradiction d) s =
      contradicts (input (rule_of (modern c)) p.rest) refl s.1.1 s.1.2
      ∙ ap (λ x. fault_at p (for.Contradiction x)) (sym s.1.0)
      ∙ ap (λ x. fault_at x (for.Contradiction d)) (sym s.0)
  component_stopped q for.Literal s = absurd s.1
  component_stopped q for.Trailing s = absurd s.1

  -- whether a part is read, or where it stops
  component_agreed : (f : Option Fields) (reading : _) (len : ℕ)
      → input (rule_of (modern c)) p.rest ≡ Some (reading, len) → with_reading p.fields reading ≡ f
      → ((q : Point) × Reads (component c) p q) ⊎ ((q : Point) × (r : UnreadReason) × Stops (component c) p q r)
  component_agreed None reading len i w =
      let f : read (component c) p ≡ fault_at p (for.Contradiction (modern c)) =
      ap (taken (modern c) p) i ∙ ap (agreed (modern c) p len) w in
      inr (p, for.Contradiction (modern c), (refl, (refl, ap is_some i, λ q is. excludes (component c) p p q _ f is)))
  component_agreed (Some f) reading len i w =
      inl (at (drop len p.rest) f, (reading, len, i, w, refl))

  component_answered : (x : _) → input (rule_of (modern c)) p.rest ≡ x
      → ((q : Point) × Reads (component c) p q) ⊎ ((q : Point) × (r : UnreadReason) × Stops (component c) p q r)
  component_answered None i = inr (p, for.Unread (modern c), (refl, (refl, ap is_some i)))
  component_answered (Some r) i = component_agreed (with_reading p.fields r.0) r.0 r.1 i refl

-- literals

module _ (bytes : Text) (p : Point) where
  literal_unread : (t : Bool) → starts_with eqb p.rest bytes ≡ t
      → ((rest : Text) → p.rest ≡ bytes ++ rest → ⊥)
      → (if t then Ok (record { rest = drop (length bytes) p.rest; fields = p.fields })
      else fault_at p for.Literal) ≡ fault_at p for.Literal
  literal_unread true is none =
      absurd (none (drop (length bytes) p.rest)
      ((starts_is unsigned_Decides p.rest bytes (starts_with eqb p.rest bytes) refl).0 is))
  literal_unread false is none = refl

  literal_stopped : (q : Point) (r : UnreadReason) → Stops (literal bytes) p q r → read (literal bytes) p ≡ fault_at q r
  literal_stopped q (for.Unread d) s = absurd s.1
  literal_stopped q (for.Contradiction d) s = absurd s.1
  literal_stopped q for.Literal s =
      literal_unread (starts_with eqb p.rest bytes) refl s.1 ∙ ap (λ x. fault_at x for.Literal) (sym s.0)
  literal_stopped q for.Trailing s = absurd s.1

  literal_answered : (t : Bool) → starts_with eqb p.rest bytes ≡ t
      → ((q : Point) × Reads (literal bytes) p q) ⊎ ((q : Point) × (r : UnreadReason) × Stops (literal bytes) p q r)
  literal_answered true is = inl (
    at (drop (length bytes) p.rest) p.fields,
    ((starts_is unsigned_Decides p.rest bytes (starts_with eqb p.rest bytes) refl).0 is, refl),
  )
  literal_answered false is = inr (
    p,
    for.Literal,
    (
      refl,
      λ rest e. clash false refl
          (sym is ∙ (starts_is unsigned_Decides p.rest bytes (starts_with eqb p.rest bytes) refl).1 rest e),
    ),
  )

-- if a description stops, reading returns that as a fault

none_first : (f : _) (ts : Trees) (p : Point) → NoneReads ts p → read_first (Some f) ts p ≡ Err f
none_first f no_trees p none = refl
none_first f (more_trees t ts) p none =
    ap (λ x. unless_read x (λ g. read_first (earlier (Some f) g) ts p))
    (faulty (read t p) (Reads t p) (λ q e. (reads_exactly t p q).1 e) none.0).1 ∙ none_first f ts p none.1

mutual
  stopped : (t : Tree) (p q : Point) (r : UnreadReason) → Stops t p q r → read t p ≡ fault_at q r
  stopped (component c) p q r s = component_stopped c p q r s
  stopped (literal bytes) p q r s = literal_stopped bytes p q r s
  stopped (compound ts) p q r s = stopped_among ts p q r s
  stopped (optional format t) p q r s = absurd s
  stopped (first no_trees) p q r s = absurd s
  stopped (first (more_trees t ts)) p q r s =
      ap (λ x. unless_read x (λ g. read_first (earlier None g) ts p)) (stopped t p q r s.0)
      ∙ none_first _ ts p s.1

  stopped_among : (ts : Trees) (p q : Point) (r : UnreadReason) → StopsAmong ts p q r → read_all ts p ≡ fault_at q r
  stopped_among no_trees p q r s = absurd s
  stopped_among (more_trees t ts) p q r (inl s) =
      ap (λ x. followed x (λ m. read_all ts m)) (stopped t p q r s)
  stopped_among (more_trees t ts) p q r (inr s) =
      ap (λ x. followed x (λ m. read_all ts m)) ((reads_exactly t p s.0).0 s.1)
      ∙ stopped_among ts s.0 q r s.2

-- From each position a description is read, or stops.

abbrev IsAnswered : Tree → Point → Type 0
IsAnswered t p = ((q : Point) × Reads t p q) ⊎ ((q : Point) × (r : UnreadReason) × Stops t p q r)

not_read : (t : Tree) (p q s : Point) (r : UnreadReason) → Stops t p q r → Reads t p s → ⊥
not_read t p q s r stops reads = excludes t p q s r (stopped t p q r stops) reads

abbrev IsAnsweredAll : Trees → Point → Type 0
IsAnsweredAll ts p = ((q : Point) × ReadsAll ts p q) ⊎ ((q : Point) × (r : UnreadReason) × StopsAmong ts p q r)

abbrev IsAnsweredFirst : Trees → Point → Type 0
IsAnsweredFirst ts p = ((q : Point) × ReadsFirst ts p q) ⊎ NoneReads ts p

optional_answered : (format : Bool) (t : Tree) (p : Point) → IsAnswered t p → IsAnswered (optional format t) p
optional_answered format t p (inl a) = inl (a.0, inl a.1)
optional_answered format t p (inr a) = inl (p, inr ((λ s is. not_read t p a.0 s a.1 a.2 is), refl))

one_answered : (t : Tree) (ts : Trees) (p : Point) → IsAnswered t p → IsAnsweredFirst ts p
    → IsAnswered (first (more_trees t ts)) p
one_answered t ts p (inl a) others = inl (a.0, inl a.1)
one_answered t ts p (inr a) (inl b) = inl (b.0, inr ((λ s is. not_read t p a.0 s a.1 a.2 is), b.1))
one_answered t ts p (inr a) (inr none) = inr (a.0, a.1, (a.2, none))

next_answered : (t : Tree) (ts : Trees) (p : Point) → IsAnswered t p → IsAnsweredFirst ts p
    → IsAnsweredFirst (more_trees t ts) p
next_answered t ts p (inl a) others = inl (a.0, inl a.1)
next_answered t ts p (inr a) (inl b) = inl (b.0, inr ((λ s is. not_read t p a.0 s a.1 a.2 is), b.1))
next_answered t ts p (inr a) (inr none) = inr ((λ s is. not_read t p a.0 s a.1 a.2 is), none)

after_answered : (t : Tree) (ts : Trees) (p : Point) → IsAnswered t p → ((q : Point) → IsAnsweredAll ts q)
    → IsAnsweredAll (more_trees t ts) p
after_answered t ts p (inr a) others = inr (a.0, a.1, inl a.2)
after_answered t ts p (inl a) others = by (others a.0)
  where
    by : IsAnsweredAll ts a.0 → IsAnsweredAll (more_trees t ts) p
    by (inl b) = inl (b.0, (a.0, a.1, b.1))
    by (inr b) = inr (b.0, b.1, inr (a.0, a.1, b.2))

mutual
  answered : (t : Tree) (p : Point) → IsAnswered t p
  answered (component c) p = component_answered c p (input (rule_of (modern c)) p.rest) refl
  answered (literal bytes) p = literal_answered bytes p (starts_with eqb p.rest bytes) refl
  answered (compound ts) p = answered_all ts p
  answered (optional format t) p = optional_answered format t p (answered t p)
  answered (first no_trees) p = inl (p, refl)
  answered (first (more_trees t ts)) p = one_answered t ts p (answered t p) (answered_first ts p)

  answered_all : (ts : Trees) (p : Point) → IsAnsweredAll ts p
  answered_all no_trees p = inl (p, refl)
  answered_all (more_trees t ts) p = after_answered t ts p (answered t p) (λ q. answered_all ts q)

  answered_first : (ts : Trees) (p : Point) → IsAnsweredFirst ts p
  answered_first no_trees p = inr tt
  answered_first (more_trees t ts) p = next_answered t ts p (answered t p) (answered_first ts p)

-- A description is read up to, or stops at, a position after a front of the text.

reads_front : (t : Tree) (p q : Point) → Reads t p q → (front : Text) × (p.rest ≡ front ++ q.rest)
reads_front t p q is = subst (IsAfter p) ((reads_exactly t p q).0 is) (reads_fronts t p)

mutual
  stops_front : (t : Tree) (p q : Point) (r : UnreadReason) → Stops t p q r → (front : Text) × (p.rest ≡ front ++ q.rest)
  stops_front (component c) p q r s = ([], ap (λ (x : Point). x.rest) (sym s.0))
  stops_front (literal bytes) p q r s = ([], ap (λ (x : Point). x.rest) (sym s.0))
  stops_front (compound ts) p q r s = among_front ts p q r s
  stops_front (optional format t) p q r s = absurd s
  stops_front (first no_trees) p q r s = absurd s
  stops_front (first (more_trees t ts)) p q r s = stops_front t p q r s.0

  among_front : (ts : Trees) (p q : Point) (r : UnreadReason) → StopsAmong ts p q r
      → (front : Text) × (p.rest ≡ front ++ q.rest)
  among_front no_trees p q r s = absurd s
  among_front (more_trees t ts) p q r (inl s) = stops_front t p q r s
  among_front (more_trees t ts) p q r (inr s) =
      let a = reads_front t p s.0 s.1 in
      let b = among_front ts s.0 q r s.2 in
      (a.0 ++ b.0, a.1 ∙ ap (λ x. a.0 ++ x) b.1 ∙ sym (append_assoc a.0 b.0 q.rest))

-- The whole text is read, or has a fault.

if_false : {A : Type 0} (b : Bool) (x y : A) → b ≡ false → (if b then x else y) ≡ y
if_false true x y e = absurd (clash true e refl)
if_false false x y e = refl

not_zero : (n : ℕ) → (n ≡ 0 → ⊥) → (n == 0) ≡ false
not_zero n some = by (n == 0) refl
  where
    by : (b : Bool) → (n == 0) ≡ b → b ≡ false
    by true e = absurd (some (eqb-true n 0 e))
    by false e = refl

no_bytes : (text : Text) → length text ≡ 0 → text ≡ []
no_bytes [] e = refl
no_bytes (b ∷ text) e = absurd (omega (arith, e))

ended_fault : (size : ℕ) (rest : Text) (f : Fields) → (rest ≡ [] → ⊥)
    → ended size rest f ≡ Err (record { reason = for.Trailing; index = size - length rest })
ended_fault size rest f some =
    if_false (length rest == 0) _ _ (not_zero (length rest) (λ e. some (no_bytes rest e)))

index_of : (text front rest : Text) → text ≡ front ++ rest → length text - length rest ≡ length front
index_of text front rest cut = omega (arith, ap length cut, length-append front rest)

fault_answered : (t : Tree) (text : Text) (e : ReadError) → HasFault t text e → fields_of t text ≡ Err e
fault_answered t text e h = by h.why ∙ ap (λ n. Err (record { reason = e.reason; index = n }))
    (index_of text h.front h.rest h.cut ∙ sym h.position)
  where
    by : Stops t (start text) (at h.rest h.fields) e.reason ⊎ Trails t text (at h.rest h.fields) e.reason
        → fields_of t text ≡ Err (record { reason = e.reason; index = length text - length h.rest })
    by (inl s) = ap (whole (length text)) (stopped t (start text) (at h.rest h.fields) e.reason s)
    by (inr s) = ap (whole (length text)) ((reads_exactly t (start text) (at h.rest h.fields)).0 s.1)
        ∙ ended_fault (length text) h.rest h.fields s.2
        ∙ ap (λ r. Err (record { reason = r; index = length text - length h.rest })) (sym s.0)

whole_answered : (t : Tree) (text : Text) (f : Fields) → ReadsWhole t text f → fields_of t text ≡ Ok f
whole_answered t text f is = ap (whole (length text)) ((reads_exactly t (start text) (at [] f)).0 is)

has_fault : (t : Tree) (text front rest : Text) (f : Fields) (r : UnreadReason) → text ≡ front ++ rest
    → (Stops t (start text) (at rest f) r ⊎ Trails t text (at rest f) r) → (e : ReadError) × HasFault t text e
has_fault t text front rest f r cut why = (
  record { reason = r; index = length front },
  record { front = front; rest = rest; fields = f; cut = cut; position = refl; why = why },
)

abbrev IsWholeOrFault : Tree → Text → Type 0
IsWholeOrFault t text = ((f : Fields) × ReadsWhole t text f) ⊎ ((e : ReadError) × HasFault t text e)

ended_or_trails : (t : Tree) (text rest : Text) (f : Fields) → Reads t (start text) (at rest f)
    → IsWholeOrFault t text
ended_or_trails t text [] f is = inl (f, is)
ended_or_trails t text (b ∷ rest) f is =
    let cut = reads_front t (start text) (at (b ∷ rest) f) is in
    inr (has_fault t text cut.0 (b ∷ rest) f for.Trailing cut.1 (inr (refl, is, λ (e : b ∷ rest ≡ []). absurd cc)))

whole_by : (t : Tree) (text : Text) → IsAnswered t (start text) → IsWholeOrFault t text
whole_by t text (inl a) = ended_or_trails t text a.0.rest a.0.fields a.1
whole_by t text (inr a) =
    let cut = stops_front t (start text) a.0 a.1 a.2 in
    inr (has_fault t text cut.0 a.0.rest a.0.fields a.1 cut.1 (inl a.2))

whole_or_fault : (t : Tree) (text : Text) → IsWholeOrFault t text
whole_or_fault t text = whole_by t text (answered t (start text))

same_fields : (r : Result Fields ReadError) (f g : Fields) → r ≡ Ok f → r ≡ Ok g → f ≡ g
same_fields r f g a b = ap (in_ok f) (sym a ∙ b)

same_fault : (r : Result Fields ReadError) (d e : ReadError) → r ≡ Err d → r ≡ Err e → d ≡ e
same_fault r d e a b = ap (in_err d) (sym a ∙ b)

answer_by : (t : Tree) (text : Text) (e : ReadError) → fields_of t text ≡ Err e → IsWholeOrFault t text
    → HasFault t text e
answer_by t text e is (inl a) =
    absurd (unfaulty (fields_of t text) a.0 e is (whole_answered t text a.0 a.1))
answer_by t text e is (inr a) =
    subst (HasFault t text) (same_fault (fields_of t text) a.0 e (fault_answered t text a.0 a.1) is) a.1

reading_by : (t : Tree) (text : Text) (f : Fields) → fields_of t text ≡ Ok f → IsWholeOrFault t text
    → ReadsWhole t text f
reading_by t text f is (inl a) =
    subst (ReadsWhole t text) (same_fields (fields_of t text) a.0 f (whole_answered t text a.0 a.1) is) a.1
reading_by t text f is (inr a) =
    absurd (unfaulty (fields_of t text) f a.0 (fault_answered t text a.0 a.1) is)

pub faults_exactly : FaultsExactly
faults_exactly t text e = (
  (λ h. fault_answered t text e h),
  (λ is. answer_by t text e is (whole_or_fault t text)),
)

pub fields_exactly : FieldsExactly
fields_exactly t text f = (
  (λ h. whole_answered t text f h),
  (λ is. reading_by t text f is (whole_or_fault t text)),
)

pub one_answer : OneAnswer
one_answer t text = record {
  answered = whole_or_fault t text;
  one_reading = λ f g a b.
      same_fields (fields_of t text) f g (whole_answered t text f a) (whole_answered t text g b);
  one_fault = λ d e a b. same_fault (fields_of t text) d e (fault_answered t text d a) (fault_answered t text e b);
  not_both = λ f e a b. unfaulty (fields_of t text) f e (fault_answered t text e b) (whole_answered t text f a);
}
