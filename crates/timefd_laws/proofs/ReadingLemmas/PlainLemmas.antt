-- What is read from a whole text. With a plain description that is everything that is written.
use Rattle.std.proofs.Common.{◌≡◌, ◌∙◌, ◌-◌, ◌==◌, inl, inr, Bool, true, false, if◌then◌else◌, length, Result, Ok, Err}
use Rattle.std.proofs.Common.{refl, sym, ap, subst, is_ok}
use Rattle.timefd_lang_component.specs.declared.component.Component.{Component}
use Rattle.timefd_lang_component.specs.Modern.{modern}
use Rattle.timefd_lang_component.specs.Tree.{Text, Tree, component, literal, compound, optional, first, Trees, no_trees, more_trees}
use Rattle.timefd_date_moment.specs.declared.fields.fault.ReadError.{ReadError}
use Rattle.timefd_date_moment.specs.declared.fields.fault.UnreadReason.TheVariants as for
use Rattle.timefd_date_moment.specs.declared.fields.fields.Fields.{Fields}
use Rattle.timefd_date_moment.specs.Fields.Reads.{Point, fields_of, read, read_component, start, whole}
use Rattle.timefd_date_moment.specs.Fields.Relations.{Reads, ReadsAll, ReadsFirst}
use Rattle.timefd_date_moment.proofs.FieldsLemmas.RelationLemmas.{reads_exactly}
use Rattle.timefd_date_moment.proofs.ReadingLemmas.ShownLemmas.{clash}
use Rattle.timefd_date_moment.proofs.ReadingLemmas.YearLemmas.{both as both_true}
use Rattle.timefd_laws.specs.Reading.Again.{PartsRead, are_plain, is_plain, parts}
use Rattle.timefd_laws.specs.Reading.Shown.{with_tree, with_trees}
use Rattle.timefd_laws.proofs.ReadingLemmas.ComponentReadLemmas.{component_read}
use Rattle.timefd_laws.proofs.ReadingLemmas.StepLemmas.{IsWhole, in_ok}

-- If the whole text was read, it was read up to its end.

ended_is : (f g : Fields) (error : ReadError) (b : Bool) → (if b then Ok f else Err error) ≡ Ok g → f ≡ g
ended_is f g error true e = ap (in_ok f) e
ended_is f g error false e = absurd cc

pub record IsReadWhole (t : Tree) (text : Text) (f : Fields) : Type 0 where
  pub end : Point
  pub fields : end.fields ≡ f
  pub reads : Reads t (start text) end

-- if a fault leads to no result
end_of : {E : Type 0} (g : Result Point E → Result Fields ReadError) (r : Result Point E) (f : Fields)
    (P : Type 0) → ((x : E) → is_ok (g (Err x)) ≡ false) → ((p : Point) → r ≡ Ok p → g (Ok p) ≡ Ok f → P)
    → g r ≡ Ok f → P
end_of g (Ok p) f P none k e = k p refl e
end_of g (Err x) f P none k e = absurd (clash (is_ok (g (Err x))) (none x) (ap is_ok e))

pub read_whole : (t : Tree) (text : Text) (f : Fields) → fields_of t text ≡ Ok f → IsReadWhole t text f
read_whole t text f e =
    end_of (whole (length text)) (read t (start text)) f (IsReadWhole t text f) (λ x. refl) (λ p is ends. record {
      end = p;
      fields = ended_is p.fields f (record { reason = for.Trailing; index = length text - length p.rest })
          (length p.rest == 0) ends;
      reads = (reads_exactly t (start text) p).1 is;
    }) e

-- the parts of plain trees

mutual
  tree_parts : (t : Tree) (p q : Point) → is_plain t ≡ true → Reads t p q
      → parts q.fields ≡ with_tree t (parts p.fields)
  tree_parts (component c) p q plain h = (component_read p q (modern c) ((reads_exactly (component c) p q).0 h)).with_parts
  tree_parts (literal bytes) p q plain h = ap parts h.1
  tree_parts (compound ts) p q plain h = trees_parts ts p q plain h
  tree_parts (optional format t) p q plain h = absurd (clash true (sym plain) refl)
  tree_parts (first ts) p q plain h = absurd (clash true (sym plain) refl)

  trees_parts : (ts : Trees) (p q : Point) → are_plain ts ≡ true → ReadsAll ts p q
      → parts q.fields ≡ with_trees ts (parts p.fields)
  trees_parts no_trees p q plain h = ap (λ (x : Point). parts x.fields) h
  trees_parts (more_trees t ts) p q plain (mid, one, more) =
      let each = both_true (is_plain t) (are_plain ts) plain in
      trees_parts ts mid q each.1 more ∙ ap (with_trees ts) (tree_parts t p mid each.0 one)

pub parts_read : PartsRead
parts_read tree text f plain e =
    let h = read_whole tree text f e in
    ap parts (sym h.fields) ∙ tree_parts tree (start text) h.end plain h.reads

-- What holds of reading a component, of reading nothing, and of reading one after another, holds of reading a
-- tree.
module _ (R : Fields → Fields → Type 0) (none : (f : Fields) → R f f) (both : (f g h : Fields) → R f g → R g h → R f h)
    (one : (c : Component) (p q : Point) → read_component c p ≡ Ok q → R p.fields q.fields) where
  same_point : (p q : Point) → q ≡ p → R p.fields q.fields
  same_point p q e = subst (λ (x : Point). R p.fields x.fields) (sym e) (none p.fields)

  mutual
    pub each_read : (t : Tree) (p q : Point) → Reads t p q → R p.fields q.fields
    each_read (component c) p q h = one (modern c) p q ((reads_exactly (component c) p q).0 h)
    each_read (literal bytes) p q h = subst (λ (f : Fields). R p.fields f) (sym h.1) (none p.fields)
    each_read (compound ts) p q h = all_read ts p q h
    each_read (optional format t) p q (inl h) = each_read t p q h
    each_read (optional format t) p q (inr h) = same_point p q h.1
    each_read (first no_trees) p q h = same_point p q h
    each_read (first (more_trees t ts)) p q (inl h) = each_read t p q h
    each_read (first (more_trees t ts)) p q (inr h) = first_read ts p q h.1

    pub all_read : (ts : Trees) (p q : Point) → ReadsAll ts p q → R p.fields q.fields
    all_read no_trees p q h = same_point p q h
    all_read (more_trees t ts) p q (mid, h, rest) =
        both p.fields mid.fields q.fields (each_read t p mid h) (all_read ts mid q rest)

    first_read : (ts : Trees) (p q : Point) → ReadsFirst ts p q → R p.fields q.fields
    first_read no_trees p q h = absurd h
    first_read (more_trees t ts) p q (inl h) = each_read t p q h
    first_read (more_trees t ts) p q (inr h) = first_read ts p q h.1

-- the fraction of a second of any tree

abbrev StaysWhole : Fields → Fields → Type 0
StaysWhole f g = IsWhole f.subsecond → IsWhole g.subsecond

pub whole_read : (t : Tree) (text : Text) (f : Fields) → fields_of t text ≡ Ok f → IsWhole f.subsecond
whole_read t text f e =
    let h = read_whole t text f e in
    subst (λ (x : Fields). IsWhole x.subsecond) h.fields (each_read StaysWhole (λ f h. h)
    (λ f g h a b x. b (a x)) (λ c p q e. (component_read p q c e).stays_whole) t (start text) h.end h.reads tt)
