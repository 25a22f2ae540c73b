-- What a tree reads, as a relation between the text and fields in front of it and after it. It says nothing
-- about the order in which a reader tries things.
use Rattle.std.specs.Prelude.{ℕ, ◌≡◌, ◌↔◌, ◌⊎◌, ◌++◌, drop, Some, Ok}
use Rattle.timefd_lang_component.specs.declared.component.Component.{Component}
use Rattle.timefd_lang_component.specs.Modern.{modern}
use Rattle.timefd_lang_component.specs.Tree.{Tree, component, literal, compound, optional, first, Trees, no_trees, more_trees}
use Rattle.timefd_date_moment.specs.declared.fields.reading.Reading.{Reading}
use Rattle.timefd_date_moment.specs.Fields.Inputs.{input}
use Rattle.timefd_date_moment.specs.Fields.Readings.{with_reading}
use Rattle.timefd_date_moment.specs.Fields.Reads.{Point, read}
use Rattle.timefd_date_moment.specs.Fields.Rules.{rule_of}

-- A component reads the start of the text, and no other value than was read before.
abbrev pub ReadsComponent : Component → Point → Point → Type 0
ReadsComponent c p q = (reading : Reading) × (len : ℕ)
    × (input (rule_of c) p.rest ≡ Some (reading, len))
    × (with_reading p.fields reading ≡ Some q.fields) × (q.rest ≡ drop len p.rest)

-- A literal reads its own text. An optional part is read if it can be, and else leaves all as it was. The
-- first alternative that can be read is read.
abbrev mutual
  pub Reads : Tree → Point → Point → Type 0
  Reads (component c) p q = ReadsComponent (modern c) p q
  Reads (literal bytes) p q = (p.rest ≡ bytes ++ q.rest) × (q.fields ≡ p.fields)
  Reads (compound ts) p q = ReadsAll ts p q
  Reads (optional format t) p q = Reads t p q ⊎ (((s : Point) → Reads t p s → ⊥) × (q ≡ p))
  Reads (first no_trees) p q = q ≡ p
  Reads (first (more_trees t ts)) p q =
      Reads t p q ⊎ (((s : Point) → Reads t p s → ⊥) × ReadsFirst ts p q)

  pub ReadsAll : Trees → Point → Point → Type 0
  ReadsAll no_trees p q = q ≡ p
  ReadsAll (more_trees t ts) p q = (mid : Point) × Reads t p mid × ReadsAll ts mid q

  pub ReadsFirst : Trees → Point → Point → Type 0
  ReadsFirst no_trees p q = ⊥
  ReadsFirst (more_trees t ts) p q =
      Reads t p q ⊎ (((s : Point) → Reads t p s → ⊥) × ReadsFirst ts p q)

-- Whatever is returned is read, and whatever can be read is returned.
abbrev pub ReadsExactly : Type 0
ReadsExactly = (t : Tree) (p q : Point) → Reads t p q ↔ (read t p ≡ Ok q)
