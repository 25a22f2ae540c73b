-- The date that fields determine.
use Rattle.std.proofs.Common.{ℕ, ◌≡◌, ◌∙◌, true, false, Option, Some, None, Result, Ok, Err, sym, ap, subst}
use Rattle.timefd_date_moment.specs.declared.fields.fields.Fields.{Fields}
use Rattle.timefd_date_moment.specs.declared.date.Date.{Date}
use Rattle.timefd_date_moment.specs.Moments.{day_number}
use Rattle.timefd_date_moment.specs.declared.reading.error.ValueError.TheVariants as error
use Rattle.timefd_date_moment.specs.declared.reading.part.DatePart.{DatePart}
use Rattle.timefd_date_moment.specs.declared.reading.part.Part.TheVariants as part
use Rattle.timefd_date_moment.specs.declared.reading.way.DateWay.{DateWay}
use Rattle.timefd_date_moment.specs.declared.reading.way.DateWay.TheVariants as by
use Rattle.timefd_date_moment.specs.Reading.Dates.{HasWay, IsDateByParts, Selects}
use Rattle.timefd_date_moment.specs.Reading.Days.{iso_week_day}
use Rattle.timefd_date_moment.specs.Reading.Faults.{date_fault, way_fault}
use Rattle.timefd_date_moment.specs.Reading.Shown.{date_has, date_parts, first_false}
use Rattle.timefd_date_moment.specs.Reading.Ways.{IsDetermined, WayHas, date_way, has_way}
use Rattle.timefd_date_moment.proofs.ReadingLemmas.DayLemmas as day
use Rattle.timefd_date_moment.proofs.ReadingLemmas.ShownLemmas.{clash, date_agrees, date_otherwise, first_of_same}
use Rattle.timefd_date_moment.proofs.ReadingLemmas.WayLemmas.{fields_had, has_fields, same_way, way_has}

determined : (f : Fields) (w : DateWay) → date_way f ≡ Ok w → IsDetermined (date_way f)
determined f w e = subst (λ (r : Result DateWay DatePart). IsDetermined r) (sym e) tt

pub agreed : (f : Fields) (w : DateWay) (d : Date) (o : Option DatePart) → date_way f ≡ Ok w
    → o ≡ first_false (date_has f d) date_parts → o ≡ None → IsDateByParts f (Ok d)
agreed f w d o e is none = (date_agrees f d (sym is ∙ none), determined f w e)

-- a date was found, but differs in this part
pub contradicted : (f : Fields) (w : DateWay) (e : Date) (o : Option DatePart) (p : DatePart)
    → date_way f ≡ Ok w → Selects (WayHas w) (Some e) → o ≡ first_false (date_has f e) date_parts
    → o ≡ Some p → has_way w e ≡ true → IsDateByParts f (Err (error.Contradiction (part.Date p)))
contradicted f w e o p way one is some has = (
  determined f w way,
  (λ x a.
      clash (date_has f x p) (date_otherwise f e x p (sym is ∙ some) (one x (way_has f w x way a))) (a p)),
  (
    (λ x h.
        sym (first_of_same f e x (one x (subst (λ (r : Result DateWay DatePart). HasWay r x) way h)))
        ∙ sym is ∙ some),
    (λ none. absurd (none e (subst (λ (r : Result DateWay DatePart). HasWay r e) (sym way) (has_fields w e has)))),
  ),
)

-- what was found is another date, so no date has the fields of the way
pub strayed : (f : Fields) (w : DateWay) (e : Date) (o : Option DatePart) (p q : DatePart)
    → date_way f ≡ Ok w → Selects (WayHas w) (Some e) → o ≡ first_false (date_has f e) date_parts
    → o ≡ Some p → has_way w e ≡ false → q ≡ way_fault f w
    → IsDateByParts f (Err (error.Contradiction (part.Date q)))
strayed f w e o p q way one is some not fault = (
  determined f w way,
  (λ x a.
      clash (date_has f x p) (date_otherwise f e x p (sym is ∙ some) (one x (way_has f w x way a))) (a p)),
  (
    (λ x h.
        let has = subst (λ (r : Result DateWay DatePart). HasWay r x) way h in
        absurd (clash (has_way w e) not (same_way w e x (one x has) ∙ fields_had w x has))),
    (λ none. ap (date_fault f) way ∙ ap (λ (p : DatePart). Some p) (sym fault)),
  ),
)

pub unfound : (f : Fields) (w : DateWay) (q : DatePart) → date_way f ≡ Ok w → Selects (WayHas w) None
    → q ≡ way_fault f w → IsDateByParts f (Err (error.Contradiction (part.Date q)))
unfound f w q way none fault = (
  determined f w way,
  (λ x a. none x (way_has f w x way a)),
  (
    (λ x h. absurd (none x (subst (λ (r : Result DateWay DatePart). HasWay r x) way h))),
    (λ _. ap (date_fault f) way ∙ ap (λ (p : DatePart). Some p) (sym fault)),
  ),
)

-- if a condition selects a date, so does a stronger one
narrowed : (Is Was : Date → Type 0) (r : Option Date) → ((d : Date) → Is d → Was d)
    → Selects Was r → Selects Is r
narrowed Is Was (Some e) was one = λ d h. one d (was d h)
narrowed Is Was None was none = λ d h. none d (was d h)

pub by_iso_week : (y w n : ℕ) (r : Option Date)
    → Selects (λ d. day_number d ≡ iso_week_day y w n) r → Selects (WayHas (by.IsoWeek y w n)) r
by_iso_week y w n r = narrowed (WayHas (by.IsoWeek y w n)) (λ d. day_number d ≡ iso_week_day y w n) r
    (λ d h. day.iso y w n d h.0 h.1 h.2)
