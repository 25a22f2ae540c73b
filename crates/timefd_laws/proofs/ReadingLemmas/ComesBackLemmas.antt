-- What a settled description reads is written, and read as the same again.
use Rattle.std.proofs.Common.{◌≡◌, ◌∙◌, true, false, Option, Some, None, Ok, IfSome, refl, sym, ap, arith, unwrap_or}
use Rattle.timefd_lang_component.specs.Modern.{modern}
use Rattle.timefd_lang_component.specs.Tree.{Text, Tree, component, literal, compound, optional, first, Trees, no_trees, more_trees}
use Rattle.timefd_date_moment.specs.declared.date.Date.{Date}
use Rattle.timefd_date_moment.specs.declared.time.Time.{Time}
use Rattle.timefd_date_moment.specs.declared.offset.UtcOffset.{UtcOffset}
use Rattle.timefd_date_moment.specs.declared.moment.Moment.{Moment}
use Rattle.timefd_date_moment.specs.declared.fields.fields.Fields.{Fields}
use Rattle.timefd_date_moment.specs.Fields.Reads.{Point, start}
use Rattle.timefd_date_moment.proofs.FieldsLemmas.RelationLemmas.{reads_exactly}
use Rattle.timefd_date_moment.specs.Reading.Values.{IsMomentOf}
use Rattle.timefd_date_moment.proofs.ReadingLemmas.ShownLemmas.{clash}
use Rattle.timefd_date_moment.proofs.ReadingLemmas.YearLemmas.{both}
use Rattle.timefd_lang_warnings.specs.declared.settled.bound.Bound.{Bound}
use Rattle.timefd_lang_warnings.specs.Settling.Settled.{begin_all, is_settled, settled, settled_all}
use Rattle.timefd_laws.specs.Reading.Again.{IsWrittenAgain, parts}
use Rattle.timefd_laws.specs.Reading.Shown.{IsOf, fields_shown, shows, with_tree, with_trees}
use Rattle.timefd_laws.specs.Reading.Written.{ComesBack, HasText, IsKept, IsReadWritten, ReadsAllWritten, ReadsWritten}
use Rattle.timefd_laws.proofs.ReadingLemmas.AgainLemmas.{fields_again, shows_back}
use Rattle.timefd_laws.proofs.ReadingLemmas.ComponentReadLemmas.{component_read}
use Rattle.timefd_laws.proofs.ReadingLemmas.WrittenLemmas.{writes_again}

-- A settled description that reads everything it writes reads nothing else.

mutual
  tree_parts : (t : Tree) (known : Bound) (p q : Point) → settled t known ≡ true → ReadsWritten t p q
      → parts q.fields ≡ with_tree t (parts p.fields)
  tree_parts (component c) known p q e h =
      (component_read p q (modern c) ((reads_exactly (component c) p q).0 h)).with_parts
  tree_parts (literal bytes) known p q e h = ap parts h.1
  tree_parts (compound ts) known p q e h = trees_parts ts known p q e h
  tree_parts (optional true t) known p q e h = tree_parts t known p q e h
  tree_parts (optional false t) known p q e h = absurd (clash true (sym e) refl)
  tree_parts (first no_trees) known p q e h = ap (λ (x : Point). parts x.fields) h
  tree_parts (first (more_trees t ts)) known p q e h = tree_parts t known p q e h

  trees_parts : (ts : Trees) (known : Bound) (p q : Point) → settled_all ts known ≡ true → ReadsAllWritten ts p q
      → parts q.fields ≡ with_trees ts (parts p.fields)
  trees_parts no_trees known p q e h = ap (λ (x : Point). parts x.fields) h
  trees_parts (more_trees t ts) known p q e (mid, one, rest) =
      let each = both (settled t (begin_all ts known)) (settled_all ts known) e in
      trees_parts ts known mid q each.1 rest
      ∙ ap (with_trees ts) (tree_parts t (begin_all ts known) p mid each.0 one)

same_parts : (tree : Tree) (text : Text) (f : Fields) → is_settled tree ≡ true → IsReadWritten tree text f
    → parts f ≡ shows tree
same_parts tree text f e h =
    ap parts (sym h.fields) ∙ tree_parts tree Bound.End (start text) h.end e h.reads

-- a date, a time and an offset: those of the moment, if it has them

abbrev pub any_date : Date
any_date = record {
  years = 1;
  month = 1;
  day = 1;
  exists = (omega arith, omega arith, omega arith, omega arith, omega arith, omega arith);
}

abbrev pub any_time : Time
any_time = record {
  hour = 0;
  minute = 0;
  second = 0;
  nanosecond = 0;
  hours = omega arith;
  minutes = omega arith;
  seconds = omega arith;
  nanoseconds = omega arith;
}

abbrev pub any_offset : UtcOffset
any_offset = record {
  seconds = 0;
  is_negative = false;
  within = omega arith;
  no_negative_zero = λ e. absurd (clash true (sym e) refl);
}

is_in : {A : Type 0} (a : A) (x : Option A) → IfSome x (λ e. e ≡ unwrap_or x a)
is_in a (Some b) = refl
is_in a None = tt

kept : (m : Moment) (d : Date) (t : Time) (o : UtcOffset) (tree : Tree) (text : Text) (f : Fields)
    → is_settled tree ≡ true → IsReadWritten tree text f → IsMomentOf f (Ok m) → IsOf m d t o → HasText m tree
    → IsKept m tree
kept m d t o tree text f e h is of has =
    let rewritten : IsWrittenAgain m d t o tree f has.0 = record {
      text = text;
      settles = e;
      read = h.read;
      same_parts = same_parts tree text f e h;
      moment = is;
      is_of = of;
      wrote = has.1;
    } in
    let again = fields_again m d t o tree f has.0 rewritten in
    record {
      again = has.0;
      fields = fields_shown d t o (shows tree);
      wrote = has.1;
      read = again;
      same = λ r r_is. shows_back m d t o tree f (fields_shown d t o (shows tree)) has.0 r rewritten again r_is;
    }

pub comes_back : ComesBack
comes_back m tree text f e h is =
    kept m (unwrap_or m.date any_date) (unwrap_or m.time any_time) (unwrap_or m.offset any_offset) tree text f e h is
    (is_in any_date m.date, is_in any_time m.time, is_in any_offset m.offset) (writes_again m tree text f h is)
