-- The text that is written for a settled description is read back.
use Rattle.std.proofs.Common.{◌≡◌, inl, ◌+◌, ◌++◌, true, false, if◌then◌else◌, [], ◌∷◌, length, Result, Ok, Err, IfOk}
use Rattle.std.proofs.Common.{refl, sym, ap, subst}
use Rattle.std.specs.Char.{is_ascii_digit}
use Rattle.std.specs.List.{prefix_len}
use Rattle.std.proofs.lemmas.List.{append-nil, append_assoc}
use Rattle.std.proofs.lemmas.Result.{IfOk-at_ok}
use Rattle.std.proofs.lemmas.Bool.{cond_both}
use Rattle.timefd_lang_component.specs.declared.component.Component.{Component}
use Rattle.timefd_lang_component.specs.Modern.{modern}
use Rattle.timefd_lang_component.specs.Tree.{Text, Tree, component, literal, compound, optional, first, Trees, no_trees, more_trees}
use Rattle.timefd_date_format.specs.declared.field.WrittenField.{WrittenField}
use Rattle.timefd_date_format.specs.declared.field.Lack.{Lack}
use Rattle.timefd_date_format.specs.declared.field.Unshown.{Unshown}
use Rattle.timefd_date_format.specs.Fields.{field, field_text}
use Rattle.timefd_date_format.specs.Written.{followed, shown, text_of, written, written_all, written_first}
use Rattle.timefd_date_moment.specs.declared.date.Date.{Date}
use Rattle.timefd_date_moment.specs.declared.time.Time.{Time}
use Rattle.timefd_date_moment.specs.declared.offset.UtcOffset.{UtcOffset}
use Rattle.timefd_date_moment.specs.declared.moment.Moment.{Moment}
use Rattle.timefd_date_moment.specs.Fields.Reads.{Point, whole}
use Rattle.timefd_date_moment.specs.Fields.Relations.{Reads, ReadsAll}
use Rattle.timefd_date_moment.proofs.FieldsLemmas.RelationLemmas.{reads_exactly}
use Rattle.timefd_date_moment.proofs.ReadingLemmas.ShownLemmas.{clash}
use Rattle.timefd_date_moment.proofs.ReadingLemmas.YearLemmas.{both}
use Rattle.timefd_lang_warnings.specs.declared.settled.bound.Bound.{Bound}
use Rattle.timefd_lang_warnings.specs.Settling.Bounds.{bound_of}
use Rattle.timefd_laws.specs.Reading.Bounds.{IsBounded}
use Rattle.timefd_laws.specs.Reading.Laws.{ReadsBack, at}
use Rattle.timefd_lang_warnings.specs.Settling.Settled.{begin, begin_all, begin_first, component_begin, is_enough, literal_begin, settled}
use Rattle.timefd_lang_warnings.specs.Settling.Settled.{settled_all}
use Rattle.timefd_laws.specs.Reading.Shown.{IsOf, Shows, shows, shows_nothing, with_component, with_tree, with_trees}
use Rattle.timefd_laws.proofs.ReadingLemmas.BeginLemmas.{Begins, field_begins}
use Rattle.timefd_laws.proofs.ReadingLemmas.RowLemmas.{Row}
use Rattle.timefd_laws.proofs.ReadingLemmas.TableLemmas.{back}

of_shown : (P : Text → Type 0) (c : Component) (r : Result WrittenField Lack) → IfOk r (λ f. P (field_text f))
    → IfOk (text_of c r) P
of_shown P c (Ok f) h = h
of_shown P c (Err l) h = tt

-- what a text begins with

literal_begins : (known : Bound) (bytes : Text) → Begins known (literal_begin bytes known) bytes
literal_begins known [] rest h = h
literal_begins known (b ∷ bytes) rest h =
    cond_both (is_ascii_digit b) Bound.Anything Bound.NoDigit (λ x. IsBounded x (b ∷ (bytes ++ rest))) (λ e. tt)
    (λ e. ap (λ x. if x then 1 + prefix_len is_ascii_digit (bytes ++ rest) else 0) e)

both_begin : (x y : Result Text Unshown) (known mid begin : Bound) → IfOk x (Begins mid begin)
    → IfOk y (Begins known mid) → IfOk (followed x y) (Begins known begin)
both_begin (Ok a) (Ok b) known mid begin f g = λ rest h.
    subst (λ (xs : Text). IsBounded begin xs) (sym (append_assoc a b rest)) (f (b ++ rest) (g rest h))
both_begin (Ok a) (Err u) known mid begin f g = tt
both_begin (Err u) y known mid begin f g = tt

mutual
  begins : (m : Moment) (known : Bound) (t : Tree) → IfOk (written m t) (Begins known (begin t known))
  begins m known (component c) =
      of_shown (Begins known (component_begin (modern c) known)) (modern c) (field m (modern c))
      (field_begins m known (modern c))
  begins m known (literal bytes) = literal_begins known bytes
  begins m known (compound ts) = begins_all m known ts
  begins m known (optional true t) = begins m known t
  begins m known (optional false t) = λ rest h. h
  begins m known (first ts) = begins_first m known ts

  begins_all : (m : Moment) (known : Bound) (ts : Trees)
      → IfOk (written_all m ts) (Begins known (begin_all ts known))
  begins_all m known no_trees = λ rest h. h
  begins_all m known (more_trees t ts) =
      both_begin (written m t) (written_all m ts) known (begin_all ts known) (begin t (begin_all ts known))
      (begins m (begin_all ts known) t) (begins_all m known ts)

  begins_first : (m : Moment) (known : Bound) (ts : Trees)
      → IfOk (written_first m ts) (Begins known (begin_first ts known))
  begins_first m known no_trees = λ rest h. h
  begins_first m known (more_trees t ts) = begins m known t

-- what is known about the rest is enough for what is needed

enough : (want known : Bound) (rest : Text) → is_enough want known ≡ true → IsBounded known rest
    → IsBounded want rest
enough Bound.Anything known rest e h = tt
enough Bound.NoDigit Bound.NoDigit rest e h = h
enough Bound.NoDigit Bound.End rest e h = ap (λ xs. prefix_len is_ascii_digit xs) h
enough Bound.End Bound.End rest e h = h
enough want known rest e h = absurd (clash true (sym e) refl)

-- trees

module _ (m : Moment) (d : Date) (t : Time) (o : UtcOffset) (is : IsOf m d t o) where
  -- reading the text leads from one point to the other
  abbrev Back : Bound → (Point → Point → Type 0) → Shows → Shows → Text → Type 0
  Back known Read s v text = (rest : Text) → IsBounded known rest
      → Read (at d t o s (text ++ rest)) (at d t o v rest)

  of_row : (c : Component) (known : Bound) (s : Shows) (r : Result Text Unshown)
      → is_enough (bound_of (modern c)) known ≡ true → IfOk r (Row d t o s (modern c))
      → IfOk r (Back known (Reads (component c)) s (with_component (modern c) s))
  of_row c known s (Ok text) e row = λ rest h.
      (reads_exactly (component c) (at d t o s (text ++ rest)) (at d t o (with_component (modern c) s) rest)).1
      (row rest (enough (bound_of (modern c)) known rest e h))
  of_row c known s (Err u) e row = tt

  both_read : (u : Tree) (us : Trees) (known mid : Bound) (s v w : Shows) (x y : Result Text Unshown)
      → IfOk x (Back mid (Reads u) s v) → IfOk y (Begins known mid) → IfOk y (Back known (ReadsAll us) v w)
      → IfOk (followed x y) (Back known (ReadsAll (more_trees u us)) s w)
  both_read u us known mid s v w (Ok a) (Ok b) f g k = λ rest h.
      subst (λ (xs : Text). ReadsAll (more_trees u us) (at d t o s xs) (at d t o w rest))
      (sym (append_assoc a b rest)) (at d t o v (b ++ rest), f (b ++ rest) (g rest h), k rest h)
  both_read u us known mid s v w (Ok a) (Err e) f g k = tt
  both_read u us known mid s v w (Err e) y f g k = tt

  -- the same holds for a relation that includes this one
  also_read : (Read More : Point → Point → Type 0) → ((p q : Point) → Read p q → More p q) → (known : Bound) (s v : Shows)
      (x : Result Text Unshown) → IfOk x (Back known Read s v) → IfOk x (Back known More s v)
  also_read Read More more known s v (Ok a) f = λ rest h. more _ _ (f rest h)
  also_read Read More more known s v (Err e) f = tt

  mutual
    reads_tree : (u : Tree) (known : Bound) (s : Shows) → settled u known ≡ true
        → IfOk (written m u) (Back known (Reads u) s (with_tree u s))
    reads_tree (component c) known s e =
        of_row c known s (shown m c) e
        (of_shown (Row d t o s (modern c)) (modern c) (field m (modern c)) (back m d t o s is (modern c)))
    reads_tree (literal bytes) known s e = λ rest h. (refl, refl)
    reads_tree (compound us) known s e = reads_trees us known s e
    reads_tree (optional true u) known s e =
        also_read (Reads u) (Reads (optional true u)) (λ p q r. inl r) known s (with_tree u s) (written m u)
        (reads_tree u known s e)
    reads_tree (optional false u) known s e = absurd (clash true (sym e) refl)
    reads_tree (first no_trees) known s e = λ rest h. refl
    reads_tree (first (more_trees u us)) known s e =
        also_read (Reads u) (Reads (first (more_trees u us))) (λ p q r. inl r) known s (with_tree u s) (written m u)
        (reads_tree u known s e)

    reads_trees : (us : Trees) (known : Bound) (s : Shows) → settled_all us known ≡ true
        → IfOk (written_all m us) (Back known (ReadsAll us) s (with_trees us s))
    reads_trees no_trees known s e = λ rest h. refl
    reads_trees (more_trees u us) known s e =
        let parts = both (settled u (begin_all us known)) (settled_all us known) e in
        both_read u us known (begin_all us known) s (with_tree u s) (with_trees us (with_tree u s))
        (written m u) (written_all m us) (reads_tree u (begin_all us known) s parts.0) (begins_all m known us)
        (reads_trees us known (with_tree u s) parts.1)

-- the whole text

pub reads_back : ReadsBack
reads_back m d t o tree text is settled shown =
    let read = IfOk-at_ok (Back m d t o is Bound.End (Reads tree) shows_nothing (shows tree)) shown
    (reads_tree m d t o is tree Bound.End shows_nothing settled) [] refl in
    ap (λ r. whole (length text) r)
    ((reads_exactly tree (at d t o shows_nothing text) (at d t o (shows tree) [])).0
    (subst (λ (xs : Text). Reads tree (at d t o shows_nothing xs) (at d t o (shows tree) [])) (append-nil text) read))
