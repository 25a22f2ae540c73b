-- What is shown for a component is a text of it, and what is written for a tree a rendering of it, except for
-- the zero of a negative number.
use Rattle.std.specs.Prelude.{◌≡◌, ◌≤◌, ◌++◌, ◌⊎◌, true, [], codes, decimal, length, IfOk, IfSome, Option, Some, ⊤}
use Rattle.timefd_lang_component.specs.declared.component.Component.{Component}
use Rattle.timefd_lang_component.specs.declared.component.Component.TheVariants.{OffsetHour, UnixTimestampMillisecond, UnixTimestampMicrosecond}
use Rattle.timefd_lang_component.specs.Modern.{IsModern}
use Rattle.timefd_lang_component.specs.Reserved.{reserve}
use Rattle.timefd_lang_component.specs.Tree.{Text, Tree, component, literal, compound, optional, first, Trees, no_trees, more_trees}
use Rattle.timefd_lang_component.specs.Texts.{IsShown, IsText, Renders, filled}
use Rattle.timefd_date_moment.specs.declared.date.Date.{Date}
use Rattle.timefd_date_moment.specs.declared.time.Time.{Time}
use Rattle.timefd_date_moment.specs.declared.offset.UtcOffset.{UtcOffset}
use Rattle.timefd_date_moment.specs.declared.moment.Moment.{Moment}
use Rattle.timefd_date_moment.specs.Moments.{unix_time}
use Rattle.timefd_date_format.specs.Fields.{field, field_text}
use Rattle.timefd_date_format.specs.Written.{written}

-- A part of a negative number that is 0 in its unit: it has the sign of the whole number.
abbrev pub IsMinusZero : Component → Text → Type 0
IsMinusZero (OffsetHour m) text = text ≡ codes "-" ++ filled m.padding 2 0
IsMinusZero (UnixTimestampMillisecond m) text = text ≡ codes "-" ++ decimal 0
IsMinusZero (UnixTimestampMicrosecond m) text = text ≡ codes "-" ++ decimal 0
IsMinusZero _ text = ⊥

-- A text of a component that a formatter may write.
abbrev pub IsTextOf : Component → Text → Type 0
IsTextOf c text = IsText c text ⊎ IsMinusZero c text

-- The renderings of a tree, where `P` says which texts a component may have.
abbrev mutual
  pub RendersBy : (Component → Text → Type 0) → Tree → Text → Type 0
  RendersBy P (component c) text = P c text
  RendersBy P (literal bytes) text = text ≡ bytes
  RendersBy P (compound ts) text = RendersAllBy P ts text
  RendersBy P (optional format t) text = IsShown format (RendersBy P t text) text
  RendersBy P (first ts) text = RendersFirstBy P ts text

  pub RendersAllBy : (Component → Text → Type 0) → Trees → Text → Type 0
  RendersAllBy P no_trees text = text ≡ []
  RendersAllBy P (more_trees t ts) text = (a : Text) × (b : Text) × RendersBy P t a
      × RendersAllBy P ts b × (text ≡ a ++ b)

  pub RendersFirstBy : (Component → Text → Type 0) → Trees → Text → Type 0
  RendersFirstBy P no_trees text = text ≡ []
  RendersFirstBy P (more_trees t ts) text = RendersBy P t text

-- What a formatter may write for a tree.
abbrev pub IsFormatted : Tree → Text → Type 0
IsFormatted = RendersBy IsTextOf

-- The moment has no zero of a negative number.

abbrev pub HasHours : UtcOffset → Type 0
HasHours o = o.is_negative ≡ true → 3600 ≤ o.seconds

abbrev pub HasMillisecond : Date → Time → UtcOffset → Type 0
HasMillisecond d t o = (unix_time d t o).is_negative ≡ true → 1000000 ≤ (unix_time d t o).nanoseconds

abbrev pub HasMilliseconds : Option Date → Option Time → Option UtcOffset → Type 0
HasMilliseconds (Some d) (Some t) (Some o) = HasMillisecond d t o
HasMilliseconds _ _ _ = ⊤

abbrev pub HasNoMinusZero : Moment → Type 0
HasNoMinusZero m = IfSome m.offset HasHours × HasMilliseconds m.date m.time m.offset

-- The laws.

-- What is shown for a component is one of its texts, or the zero of a negative number.
abbrev pub ShowsTexts : Type 0
ShowsTexts = (m : Moment) (c : Component) → IfOk (field m c) (λ f. IsTextOf c (field_text f))

-- Each listed rendering is one that a formatter may write.
abbrev pub ListsFormatted : Type 0
ListsFormatted = (t : Tree) (text : Text) → Renders t text → IsFormatted t text

-- What is written for a tree of modern components is one that a formatter may write.
abbrev pub WritesFormatted : Type 0
WritesFormatted = (m : Moment) (t : Tree) → IsModern t → IfOk (written m t) (IsFormatted t)

-- If the moment has no zero of a negative number, it is a listed rendering.
abbrev pub WritesListed : Type 0
WritesListed = (m : Moment) (t : Tree) → IsModern t → HasNoMinusZero m
    → IfOk (written m t) (Renders t)

-- What is written for a tree of modern components is at most as long as the bytes that the tree reserves.
abbrev pub WritesWithin : Type 0
WritesWithin = (m : Moment) (t : Tree) → IsModern t
    → IfOk (written m t) (λ text. length text ≤ reserve t)
