-- Examples.
use Rattle.std.proofs.Common.{ℕ, ◌≡◌, ◌∙◌, ◌-◌, ◌++◌, false, true, codes, length, replicate, Some, Result, Ok, refl, sym}
use Rattle.std.proofs.Common.{ap, arith, Err, is_ok}
use Rattle.std.proofs.lemmas.Bool.{eq-eqb}
use Rattle.std.specs.Fmt.{decimal}
use Rattle.timefd_lang_component.specs.declared.component.Component.TheVariants.{CalendarYearFullExtendedRange, Day}
use Rattle.timefd_lang_component.specs.declared.component.Component.TheVariants.{MonthNumerical}
use Rattle.timefd_lang_component.specs.Texts.{filled}
use Rattle.timefd_lang_component.specs.Tree.{Text, optional}
use Rattle.timefd_date_format.specs.declared.field.Unshown.{Unshown}
use Rattle.timefd_date_format.specs.Fields.{plain, year}
use Rattle.timefd_date_format.specs.Puts.{pair}
use Rattle.timefd_date_format.specs.Written.{followed, text_of, written}
use Rattle.timefd_date_format.proofs.DigitLemmas.{one_step, two_digits, two_filled}
use Rattle.timefd_date_format.specs.declared.field.Lack.{Lack}
use Rattle.timefd_modifier.specs.declared.enums.Padding.{Padding}
use Rattle.timefd_date_moment.specs.declared.date.Date.{Date}
use Rattle.timefd_date_moment.specs.declared.reading.part.DatePart.{DatePart}
use Rattle.timefd_date_moment.specs.Reading.Shown.{DateAgrees, is_year}
use Rattle.timefd_date_moment.proofs.ReadingLemmas.ShownLemmas.{clash}
use Rattle.timefd_laws.specs.Reading.Shown.{with_sign}
use Rattle.timefd_laws.specs.Reading.Examples.{AgainExample, DateExample, OffsetExample, StampExample, TimeExample}
use Rattle.timefd_laws.specs.Reading.Examples.{date_fields, iso_date, only}
use Rattle.timefd_laws.specs.Reading.Written.{IsReadWritten}
use Rattle.timefd_laws.specs.Reading.WrittenExamples.{LeftOutExample, LongYearExample, NeedsAllRead, OptionalExample}
use Rattle.timefd_laws.specs.Reading.WrittenExamples.{WrittenExample, date_and, hour, long_year_fields, short_clock}
use Rattle.timefd_laws.specs.Reading.WrittenExamples.{standard_year, year_again}
use Rattle.timefd_laws.proofs.ReadingLemmas.WrittenLemmas.{plain_reads_written}

-- what is written for these numbers, and after them
abbrev pub of_numbers : ℕ → ℕ → ℕ → Result Text Unshown → Result Text Unshown
of_numbers y m d more = followed
    (text_of (CalendarYearFullExtendedRange (record { padding = Padding.Zero; sign_is_mandatory = false }))
    (year 999999 4 1 Padding.Zero false y))
    (followed (Ok (codes "-"))
    (followed (text_of (MonthNumerical (record { padding = Padding.Zero })) (Ok (plain Padding.Zero 2 m)))
    (followed (Ok (codes "-"))
    (followed (text_of (Day (record { padding = Padding.Zero })) (Ok (plain Padding.Zero 2 d))) more))))

abbrev of_texts : Text → Text → Text → Result Text Unshown
of_texts y m d = followed (Ok y)
    (followed (Ok (codes "-")) (followed (Ok m) (followed (Ok (codes "-")) (followed (Ok d) (Ok (codes ""))))))

four : filled Padding.Zero 4 2026 ≡ codes "2026"
four =
    let digits : decimal 2026 ≡ pair 20 ++ pair 26 =
    one_step 2026 (omega arith) (omega arith) ∙ ap (λ (xs : Text). xs ++ pair 26) (two_digits 20 (omega arith) (omega arith)) in
    ap (λ (xs : Text). replicate (4 - length xs) 48 ++ xs) digits

month : filled Padding.Zero 2 11 ≡ pair 11
month = two_filled 11 (omega arith)

day : filled Padding.Zero 2 23 ≡ pair 23
day = two_filled 23 (omega arith)

numbers : of_numbers 1002026 11 23 (Ok (codes "")) ≡ Ok (codes "2026-11-23")
numbers = λ i. of_texts (four i) (month i) (day i)

pub date_example : DateExample
date_example = (
  (λ d y m n. (λ i. of_numbers (y i) (m i) (n i) (Ok (codes ""))) ∙ numbers),
  refl,
  refl,
  refl,
  refl,
  refl,
  refl,
  refl,
  tt,
  refl,
)

pub time_example : TimeExample
time_example = (refl, refl, tt)

pub offset_example : OffsetExample
offset_example = (refl, refl, tt)

pub stamp_example : StampExample
stamp_example = (refl, refl)

-- The date agrees with what was read, for these years.
pub date_agrees : (d : Date) (k years : ℕ) → is_year (Some (with_sign false k)) years ≡ true → d.years ≡ years
    → d.month ≡ 11 → d.day ≡ 23 → DateAgrees (record date_fields { year = Some (with_sign false k) }) d
date_agrees d k years is y m n DatePart.Day = eq-eqb 23 d.day (sym n)
date_agrees d k years is y m n DatePart.Month = eq-eqb 11 d.month (sym m)
date_agrees d k years is y m n DatePart.Year = ap (λ x. is_year (Some (with_sign false k)) x) y ∙ is
date_agrees d k years is y m n _ = refl

pub again_example : AgainExample
again_example d t o y m n = record {
  text = codes "+2026-11-23";
  settles = refl;
  read = refl;
  same_parts = refl;
  moment = ((date_agrees d 2026 1002026 refl y m n, tt), tt, tt);
  is_of = (refl, tt, tt);
  wrote = date_example.0 d y m n;
}

pub written_example : WrittenExample
written_example d y m n = (
  refl,
  plain_reads_written iso_date (codes "+2026-11-23") date_fields refl refl,
  ((date_agrees d 2026 1002026 refl y m n, tt), tt, tt),
  date_example.0 d y m n,
)

pub optional_example : OptionalExample
optional_example =
    let fields = record date_fields { hour = Some 5; minute = Some 36 } in
    let h : IsReadWritten (date_and short_clock) (codes "2026-11-23 05:36") fields =
    plain_reads_written (date_and short_clock) (codes "2026-11-23 05:36") fields refl refl in
    record { read = refl; end = h.end; fields = h.fields; reads = h.reads }

pub left_out_example : LeftOutExample
left_out_example d y m n = (
  refl,
  ((date_agrees d 2026 1002026 refl y m n, tt), tt, tt),
  (λ i. of_numbers (y i) (m i) (n i)
      (followed (Err (record { component = hour; lack = Lack.NoTime })) (Ok (codes "")))),
)

-- a space, and a year of the standard range
abbrev again : ℕ → Result Text Unshown
again y = followed (Ok (codes " ")) (followed (text_of standard_year (year 9999 4 1 Padding.Zero false y)) (Ok (codes "")))

pub long_year_example : LongYearExample
long_year_example d y m n = (
  refl,
  refl,
  ((date_agrees d 12026 1012026 refl y m n, tt), tt, tt),
  (λ i. of_numbers (y i) (m i) (n i) (followed (again (y i)) (Ok (codes "")))),
)

long_date : Date
long_date = record {
  years = 1012026;
  month = 11;
  day = 23;
  exists = (omega arith, omega arith, omega arith, omega arith, omega arith, omega arith);
}

no_text : (r : Result Text Unshown) (u : Unshown) (text : Text) → r ≡ Err u → r ≡ Ok text → ⊥
no_text r u text e h = clash (is_ok r) (ap is_ok e) (ap is_ok h)

pub needs_all_read : NeedsAllRead
unfolding long_date
needs_all_read law =
    let tree = date_and (optional true year_again) in
    let is = long_year_example long_date refl refl refl in
    let has = law (only long_date) tree (codes "+12026-11-23") long_year_fields is.0 is.1 is.2 in
    no_text (written (only long_date) tree) (record { component = standard_year; lack = Lack.YearTooLong }) has.0 is.3 has.1
