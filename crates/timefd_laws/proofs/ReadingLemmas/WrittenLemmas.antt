-- What was read is written again.
use Rattle.std.proofs.Common.{◌≡◌, true, false, [], Result, Ok, Err, refl, sym, subst, is_ok}
use Rattle.std.specs.Prelude.{⊤}
use Rattle.timefd_lang_component.specs.declared.component.Component.{Component}
use Rattle.timefd_lang_component.specs.Modern.{modern}
use Rattle.timefd_lang_component.specs.Tree.{Text, Tree, component, literal, compound, optional, first, Trees, no_trees, more_trees}
use Rattle.timefd_date_format.specs.declared.field.WrittenField.{WrittenField}
use Rattle.timefd_date_format.specs.Kinds.{Kind}
use Rattle.timefd_date_format.specs.declared.field.Lack.{Lack}
use Rattle.timefd_date_format.specs.declared.field.Unshown.{Unshown}
use Rattle.timefd_date_format.specs.Fields.{field, kind}
use Rattle.timefd_date_format.specs.Written.{followed, shown, text_of, written, written_all}
use Rattle.timefd_date_moment.specs.declared.moment.Moment.{Moment}
use Rattle.timefd_date_moment.specs.declared.fields.fields.Fields.{Fields}
use Rattle.timefd_date_moment.specs.Fields.Reads.{Point, start}
use Rattle.timefd_date_moment.specs.Fields.Relations.{Reads, ReadsAll}
use Rattle.timefd_date_moment.proofs.FieldsLemmas.RelationLemmas.{reads_exactly}
use Rattle.timefd_date_moment.proofs.ReadingLemmas.ShownLemmas.{clash}
use Rattle.timefd_date_moment.proofs.ReadingLemmas.YearLemmas.{both}
use Rattle.timefd_laws.specs.Reading.Again.{are_plain, is_plain, parts}
use Rattle.timefd_laws.specs.Reading.Shown.{with_component}
use Rattle.timefd_laws.specs.Reading.Written.{HasText, IsReadWritten, ReadsAllWritten, ReadsWritten, WritesAgain}
use Rattle.timefd_laws.specs.Reading.Written.{PlainReadsWritten, WritesPlainAgain}
use Rattle.timefd_laws.proofs.ReadingLemmas.ComponentReadLemmas.{component_read, range_of}
use Rattle.timefd_laws.proofs.ReadingLemmas.FieldShownLemmas.{component_shown}
use Rattle.timefd_laws.proofs.ReadingLemmas.GrowLemmas.{Grows, Knows, both_grow, knows_more, same_grows, has_kind}
use Rattle.timefd_laws.proofs.ReadingLemmas.MomentKnownLemmas.{Has, moment_known}
use Rattle.timefd_laws.proofs.ReadingLemmas.PlainLemmas.{all_read, each_read, read_whole}
use Rattle.timefd_laws.proofs.ReadingLemmas.ReadRowLemmas.{Leaves}

-- the property holds of each component that is written
abbrev mutual
  pub Each : (Component → Type 0) → Tree → Type 0
  Each P (component c) = P c
  Each P (literal bytes) = ⊤
  Each P (compound ts) = EachOf P ts
  Each P (optional true t) = Each P t
  Each P (optional false t) = ⊤
  Each P (first no_trees) = ⊤
  Each P (first (more_trees t ts)) = Each P t

  pub EachOf : (Component → Type 0) → Trees → Type 0
  EachOf P no_trees = ⊤
  EachOf P (more_trees t ts) = Each P t × EachOf P ts

mutual
  pub each_more : (P Q : Component → Type 0) → ((c : Component) → P c → Q c) → (t : Tree) → Each P t → Each Q t
  each_more P Q f (component c) h = f c h
  each_more P Q f (literal bytes) h = tt
  each_more P Q f (compound ts) h = each_of_more P Q f ts h
  each_more P Q f (optional true t) h = each_more P Q f t h
  each_more P Q f (optional false t) h = tt
  each_more P Q f (first no_trees) h = tt
  each_more P Q f (first (more_trees t ts)) h = each_more P Q f t h

  each_of_more : (P Q : Component → Type 0) → ((c : Component) → P c → Q c) → (ts : Trees) → EachOf P ts
      → EachOf Q ts
  each_of_more P Q f no_trees h = tt
  each_of_more P Q f (more_trees t ts) h = (each_more P Q f t h.0, each_of_more P Q f ts h.1)

-- what is known after something was read

abbrev KnowsOf : Fields → Component → Type 0
KnowsOf f c = Knows (kind (modern c)) (range_of (modern c)) f

leaves : (c : Component) (p q : Point) → Reads (component c) p q
    → Leaves (with_component (modern c) (parts p.fields)) (kind (modern c)) (range_of (modern c)) p.fields q.fields
leaves c p q h = component_read p q (modern c) ((reads_exactly (component c) p q).0 h)

tree_grows : (t : Tree) (p q : Point) → Reads t p q → Grows p.fields q.fields
tree_grows = each_read Grows same_grows both_grow (λ c p q e. (component_read p q c e).grows)

trees_grow : (ts : Trees) (p q : Point) → ReadsAll ts p q → Grows p.fields q.fields
trees_grow = all_read Grows same_grows both_grow (λ c p q e. (component_read p q c e).grows)

mutual
  tree_known : (t : Tree) (p q : Point) → ReadsWritten t p q
      → Grows p.fields q.fields × Each (KnowsOf q.fields) t
  tree_known (component c) p q h = let is = leaves c p q h in (is.grows, is.knows)
  tree_known (literal bytes) p q h = (tree_grows (literal bytes) p q h, tt)
  tree_known (compound ts) p q h = trees_known ts p q h
  tree_known (optional true t) p q h = tree_known t p q h
  tree_known (optional false t) p q h = (tree_grows (optional false t) p q h, tt)
  tree_known (first no_trees) p q h = (tree_grows (first no_trees) p q h, tt)
  tree_known (first (more_trees t ts)) p q h = tree_known t p q h

  trees_known : (ts : Trees) (p q : Point) → ReadsAllWritten ts p q
      → Grows p.fields q.fields × EachOf (KnowsOf q.fields) ts
  trees_known no_trees p q h = (trees_grow no_trees p q h, tt)
  trees_known (more_trees t ts) p q (mid, one, rest) =
      let a = tree_known t p mid one in
      let b = trees_known ts mid q rest in (
        both_grow p.fields mid.fields q.fields a.0 b.0,
        (
          each_more (KnowsOf mid.fields) (KnowsOf q.fields)
              (λ c h. knows_more (kind (modern c)) (range_of (modern c)) mid.fields q.fields b.0 h) t a.1,
          b.1,
        ),
      )

-- what is written

pub text_ok : (c : Component) (r : Result WrittenField Lack) → is_ok r ≡ true → is_ok (text_of c r) ≡ true
text_ok c (Ok f) e = refl
text_ok c (Err l) e = absurd (clash true (sym e) refl)

followed_ok : (a b : Result Text Unshown) → is_ok a ≡ true → is_ok b ≡ true → is_ok (followed a b) ≡ true
followed_ok (Ok a) (Ok b) e h = refl
followed_ok (Ok a) (Err u) e h = absurd (clash true (sym h) refl)
followed_ok (Err u) b e h = absurd (clash true (sym e) refl)

-- What holds of the text of each component, of any other text, and of one text after another, holds of the
-- text of a tree.
module _ (P : Result Text Unshown → Type 0) (any : (text : Text) → P (Ok text))
    (both_texts : (a b : Result Text Unshown) → P a → P b → P (followed a b)) (m : Moment) where
  mutual
    pub each_written : (t : Tree) → Each (λ c. P (shown m c)) t → P (written m t)
    each_written (component c) h = h
    each_written (literal bytes) h = any bytes
    each_written (compound ts) h = all_written ts h
    each_written (optional true t) h = each_written t h
    each_written (optional false t) h = any []
    each_written (first no_trees) h = any []
    each_written (first (more_trees t ts)) h = each_written t h

    all_written : (ts : Trees) → EachOf (λ c. P (shown m c)) ts → P (written_all m ts)
    all_written no_trees h = any []
    all_written (more_trees t ts) h =
        both_texts (written m t) (written_all m ts) (each_written t h.0) (all_written ts h.1)

pub tree_written : (m : Moment) (t : Tree) → Each (λ c. is_ok (shown m c) ≡ true) t → is_ok (written m t) ≡ true
tree_written = each_written (λ r. is_ok r ≡ true) (λ text. refl) followed_ok

pub has_text : (r : Result Text Unshown) → is_ok r ≡ true → (text : Text) × (r ≡ Ok text)
has_text (Ok text) e = (text, refl)
has_text (Err u) e = absurd (clash true (sym e) refl)

-- a moment that has each kind that something was read about can be written
pub written_of : (m : Moment) (tree : Tree) (text : Text) (f : Fields)
    → ((k : Kind) → has_kind k f ≡ true → Has k m f) → IsReadWritten tree text f → HasText m tree
written_of m tree text f has h =
    has_text (written m tree) (tree_written m tree
    (each_more (KnowsOf f) (λ c. is_ok (shown m c) ≡ true)
    (λ c is.
    text_ok (modern c) (field m (modern c))
    (component_shown m f (modern c) (has (kind (modern c)) is.kind) is.range)) tree
    (subst (λ (g : Fields). Each (KnowsOf g) tree) h.fields (tree_known tree (start text) h.end h.reads).1)))

pub writes_again : WritesAgain
writes_again m tree text f h is = written_of m tree text f (λ k. moment_known m f k is) h

-- of plain trees

mutual
  plain_reads : (t : Tree) (p q : Point) → is_plain t ≡ true → Reads t p q → ReadsWritten t p q
  plain_reads (component c) p q plain h = h
  plain_reads (literal bytes) p q plain h = h
  plain_reads (compound ts) p q plain h = plain_all ts p q plain h
  plain_reads (optional format t) p q plain h = absurd (clash true (sym plain) refl)
  plain_reads (first ts) p q plain h = absurd (clash true (sym plain) refl)

  plain_all : (ts : Trees) (p q : Point) → are_plain ts ≡ true → ReadsAll ts p q → ReadsAllWritten ts p q
  plain_all no_trees p q plain h = h
  plain_all (more_trees t ts) p q plain (mid, one, rest) =
      let each = both (is_plain t) (are_plain ts) plain in
      (mid, plain_reads t p mid each.0 one, plain_all ts mid q each.1 rest)

pub plain_reads_written : PlainReadsWritten
plain_reads_written tree text f plain read =
    let h = read_whole tree text f read in
    record {
      read = read;
      end = h.end;
      fields = h.fields;
      reads = plain_reads tree (start text) h.end plain h.reads;
    }

pub writes_plain_again : WritesPlainAgain
writes_plain_again m tree text f plain read is =
    writes_again m tree text f (plain_reads_written tree text f plain read) is
