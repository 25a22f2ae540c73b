-- What can be written if the fields that were read are the fields that are written.
use Rattle.std.proofs.Common.{◌≡◌, ◌∙◌, ◌||◌, true, false, Option, IfSome, Ok, refl, subst, arith, ℕ, ◌/◌, Bool}
use Rattle.std.proofs.Common.{nat_le, Result, Err, IfErr, sym, is_ok, unwrap_or}
use Rattle.std.proofs.lemmas.Bool.{cond_both}
use Rattle.timefd_lang_component.specs.declared.component.Component.{Component}
use Rattle.timefd_lang_component.specs.declared.component.Component.TheVariants as of
use Rattle.timefd_lang_component.specs.Modern.{modern}
use Rattle.timefd_lang_component.specs.Tree.{Text, Tree, Trees, component, compound, first, literal, more_trees, no_trees}
use Rattle.timefd_lang_component.specs.Tree.{optional}
use Rattle.timefd_date_format.specs.Kinds.{Kind}
use Rattle.timefd_date_format.specs.Fields.{date_field, field, kind as kind_of, on_date, signed, year}
use Rattle.timefd_date_format.specs.Written.{followed, shown, text_of, written}
use Rattle.timefd_date_format.specs.declared.field.WrittenField.{WrittenField}
use Rattle.timefd_date_format.specs.declared.field.Lack.{Lack}
use Rattle.timefd_date_format.specs.declared.field.Unshown.{Unshown}
use Rattle.timefd_modifier.specs.declared.enums.Padding.{Padding}
use Rattle.timefd_date_moment.specs.declared.date.Date.{Date}
use Rattle.timefd_date_moment.specs.declared.time.Time.{Time}
use Rattle.timefd_date_moment.specs.declared.offset.UtcOffset.{UtcOffset}
use Rattle.timefd_date_moment.specs.declared.moment.Moment.{Moment}
use Rattle.timefd_date_moment.specs.Moments.{is_before_zero, iso_years, magnitude}
use Rattle.timefd_date_moment.specs.declared.fields.fields.Fields.{Fields}
use Rattle.timefd_date_moment.specs.Reading.Values.{IsMomentOf}
use Rattle.timefd_date_moment.proofs.ReadingLemmas.ShownLemmas.{clash}
use Rattle.timefd_laws.specs.Reading.Again.{parts}
use Rattle.timefd_laws.specs.Reading.ShortYears.{HasShortYears, LacksYearsAlone, WritesShortYears}
use Rattle.timefd_laws.specs.Reading.Shown.{Shows, shows, shows_nothing, with_tree, with_trees}
use Rattle.timefd_laws.proofs.ReadingLemmas.ComesBackLemmas.{any_date, any_offset, any_time}
use Rattle.timefd_laws.proofs.ReadingLemmas.FieldShownLemmas.{component_shown, date_shown, year_shown}
use Rattle.timefd_laws.proofs.ReadingLemmas.GrowLemmas.{has_kind}
use Rattle.timefd_laws.proofs.ReadingLemmas.KnownLemmas.{same_kind}
use Rattle.timefd_laws.proofs.ReadingLemmas.MomentKnownLemmas.{Has, HasDate, moment_known}
use Rattle.timefd_laws.proofs.ReadingLemmas.ShownKindLemmas.{as_fields, component_shows, modern_current}
use Rattle.timefd_laws.proofs.ReadingLemmas.ShownPartLemmas.{same_shown}
use Rattle.timefd_laws.proofs.ReadingLemmas.WrittenLemmas.{Each, EachOf, each_more, each_written, has_text, text_ok, tree_written}

-- which kinds a description shows

module _ (d : Date) (t : Time) (o : UtcOffset) where
  abbrev KindIn : Shows → Component → Type 0
  KindIn s c = has_kind (kind_of (modern c)) (as_fields d t o s) ≡ true

  record ShowsMore (s v : Shows) : Type 0 where
    grows : (j : Kind) → has_kind j (as_fields d t o s) ≡ true → has_kind j (as_fields d t o v) ≡ true

  mutual
    tree_shows : (tree : Tree) (s : Shows) → ShowsMore s (with_tree tree s) × Each (KindIn (with_tree tree s)) tree
    tree_shows (component c) s =
        let is = component_shows d t o (modern c) (modern_current c) s in
        (record { grows = is.grows }, is.here)
    tree_shows (literal bytes) s = (record { grows = λ j h. h }, tt)
    tree_shows (compound ts) s = trees_show ts s
    tree_shows (optional true tree) s = tree_shows tree s
    tree_shows (optional false tree) s = (record { grows = λ j h. h }, tt)
    tree_shows (first no_trees) s = (record { grows = λ j h. h }, tt)
    tree_shows (first (more_trees tree ts)) s = tree_shows tree s

    trees_show : (ts : Trees) (s : Shows) → ShowsMore s (with_trees ts s) × EachOf (KindIn (with_trees ts s)) ts
    trees_show no_trees s = (record { grows = λ j h. h }, tt)
    trees_show (more_trees tree ts) s =
        let a = tree_shows tree s in
        let b = trees_show ts (with_tree tree s) in (
          record { grows = λ j h. b.0.grows j (a.0.grows j h) },
          (
            each_more (KindIn (with_tree tree s)) (KindIn (with_trees ts (with_tree tree s)))
                (λ c h. b.0.grows (kind_of (modern c)) h) tree a.1,
            b.1,
          ),
        )

-- What each component shows if years are short.

module _ (m : Moment) (f : Fields) (short : IfSome m.date HasShortYears) where
  years_short : (h : HasDate m f) → HasShortYears h.date
  years_short h = subst (λ (x : Option Date). IfSome x HasShortYears) h.is short

  field_short : (c : Component) → Has (kind_of c) m f → is_ok (field m c) ≡ true
  field_short (of.CalendarYearFullExtendedRange c) h = date_shown m f h (of.CalendarYearFullExtendedRange c)
      (year_shown 999999 4 1 c.padding c.sign_is_mandatory h.date.years (omega (arith, (years_short h).0)))
  field_short (of.CalendarYearFullStandardRange c) h = date_shown m f h (of.CalendarYearFullStandardRange c)
      (year_shown 9999 4 1 c.padding c.sign_is_mandatory h.date.years (years_short h).0)
  field_short (of.CalendarYearCenturyExtendedRange c) h = date_shown m f h (of.CalendarYearCenturyExtendedRange c)
      (year_shown 999999 2 100 c.padding c.sign_is_mandatory h.date.years (omega (arith, (years_short h).0)))
  field_short (of.CalendarYearCenturyStandardRange c) h = date_shown m f h (of.CalendarYearCenturyStandardRange c)
      (year_shown 9999 2 100 c.padding c.sign_is_mandatory h.date.years (years_short h).0)
  field_short (of.IsoYearFullExtendedRange c) h = date_shown m f h (of.IsoYearFullExtendedRange c)
      (year_shown 999999 4 1 c.padding c.sign_is_mandatory (iso_years h.date) (omega (arith, (years_short h).1)))
  field_short (of.IsoYearFullStandardRange c) h = date_shown m f h (of.IsoYearFullStandardRange c)
      (year_shown 9999 4 1 c.padding c.sign_is_mandatory (iso_years h.date) (years_short h).1)
  field_short (of.IsoYearCenturyExtendedRange c) h = date_shown m f h (of.IsoYearCenturyExtendedRange c)
      (year_shown 999999 2 100 c.padding c.sign_is_mandatory (iso_years h.date) (omega (arith, (years_short h).1)))
  field_short (of.IsoYearCenturyStandardRange c) h = date_shown m f h (of.IsoYearCenturyStandardRange c)
      (year_shown 9999 2 100 c.padding c.sign_is_mandatory (iso_years h.date) (years_short h).1)
  field_short c h = component_shown m f c h tt

-- something was read of the kind of each component that is written
pub kinds_read : (m : Moment) (tree : Tree) (f : Fields) → parts f ≡ shows tree → IsMomentOf f (Ok m)
    → Each (λ c. Has (kind_of (modern c)) m f) tree
kinds_read m tree f same is =
    let d = unwrap_or m.date any_date in
    let t = unwrap_or m.time any_time in
    let o = unwrap_or m.offset any_offset in
    each_more (KindIn d t o (shows tree)) (λ c. Has (kind_of (modern c)) m f)
    (λ c h.
    moment_known m f (kind_of (modern c)) is
    (same_kind (kind_of (modern c)) f (as_fields d t o (shows tree)) (same_shown d t o f (shows tree) same) ∙ h)) tree
    (tree_shows d t o tree shows_nothing).1

pub writes_short_years : WritesShortYears
writes_short_years m tree text f read same is short =
    has_text (written m tree) (tree_written m tree
    (each_more (λ c. Has (kind_of (modern c)) m f) (λ c. is_ok (shown m c) ≡ true)
    (λ c h. text_ok (modern c) (field m (modern c)) (field_short m f short (modern c) h)) tree
    (kinds_read m tree f same is)))

-- the only error is that a year is too long

abbrev IsLong : {A : Type 0} → Result A Lack → Type 0
IsLong r = IfErr r (λ l. l ≡ Lack.YearTooLong)

abbrev LacksYear : Result Text Unshown → Type 0
LacksYear r = IfErr r (λ u. u.lack ≡ Lack.YearTooLong)

ok_lacks : (r : Result Text Unshown) → is_ok r ≡ true → LacksYear r
ok_lacks (Ok text) e = tt
ok_lacks (Err u) e = absurd (clash true (sym e) refl)

text_lacks : (c : Component) (r : Result WrittenField Lack) → IsLong r → LacksYear (text_of c r)
text_lacks c (Ok f) h = tt
text_lacks c (Err l) h = h

followed_lacks : (a b : Result Text Unshown) → LacksYear a → LacksYear b → LacksYear (followed a b)
followed_lacks (Ok a) (Ok b) e h = tt
followed_lacks (Ok a) (Err u) e h = h
followed_lacks (Err u) b e h = e

year_lacks : (greatest width unit : ℕ) (padding : Padding) (mandatory : Bool) (years : ℕ)
    → IsLong (year greatest width unit padding mandatory years)
year_lacks greatest width unit padding mandatory years =
    cond_both (nat_le (magnitude years) greatest)
    (Ok (signed (is_before_zero years) (mandatory || nat_le 10000 (magnitude years)) padding width
    (magnitude years / unit))) (Err Lack.YearTooLong) IsLong (λ e. tt) (λ e. refl)

date_lacks : (m : Moment) (f : Fields) (h : HasDate m f) (c : Component) → IsLong (date_field h.date c)
    → LacksYear (text_of c (on_date m.date (λ d. date_field d c)))
date_lacks m f h c is =
    subst (λ (x : Option Date). LacksYear (text_of c (on_date x (λ d. date_field d c)))) (sym h.is)
    (text_lacks c (date_field h.date c) is)

module _ (m : Moment) (f : Fields) where
  field_lacks : (c : Component) → Has (kind_of c) m f → LacksYear (text_of c (field m c))
  field_lacks (of.CalendarYearFullExtendedRange c) h = date_lacks m f h (of.CalendarYearFullExtendedRange c)
      (year_lacks 999999 4 1 c.padding c.sign_is_mandatory h.date.years)
  field_lacks (of.CalendarYearFullStandardRange c) h = date_lacks m f h (of.CalendarYearFullStandardRange c)
      (year_lacks 9999 4 1 c.padding c.sign_is_mandatory h.date.years)
  field_lacks (of.CalendarYearCenturyExtendedRange c) h = date_lacks m f h (of.CalendarYearCenturyExtendedRange c)
      (year_lacks 999999 2 100 c.padding c.sign_is_mandatory h.date.years)
  field_lacks (of.CalendarYearCenturyStandardRange c) h = date_lacks m f h (of.CalendarYearCenturyStandardRange c)
      (year_lacks 9999 2 100 c.padding c.sign_is_mandatory h.date.years)
  field_lacks (of.IsoYearFullExtendedRange c) h = date_lacks m f h (of.IsoYearFullExtendedRange c)
      (year_lacks 999999 4 1 c.padding c.sign_is_mandatory (iso_years h.date))
  field_lacks (of.IsoYearFullStandardRange c) h = date_lacks m f h (of.IsoYearFullStandardRange c)
      (year_lacks 9999 4 1 c.padding c.sign_is_mandatory (iso_years h.date))
  field_lacks (of.IsoYearCenturyExtendedRange c) h = date_lacks m f h (of.IsoYearCenturyExtendedRange c)
      (year_lacks 999999 2 100 c.padding c.sign_is_mandatory (iso_years h.date))
  field_lacks (of.IsoYearCenturyStandardRange c) h = date_lacks m f h (of.IsoYearCenturyStandardRange c)
      (year_lacks 9999 2 100 c.padding c.sign_is_mandatory (iso_years h.date))
  field_lacks c h = ok_lacks (text_of c (field m c)) (text_ok c (field m c) (component_shown m f c h tt))

pub lacks_years_alone : LacksYearsAlone
lacks_years_alone m tree text f read same is =
    each_written LacksYear (λ text. tt) followed_lacks m tree
    (each_more (λ c. Has (kind_of (modern c)) m f) (λ c. LacksYear (shown m c)) (λ c h. field_lacks m f (modern c) h) tree
    (kinds_read m tree f same is))
