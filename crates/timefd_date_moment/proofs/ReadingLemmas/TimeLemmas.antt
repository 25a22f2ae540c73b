-- The time of day that fields determine.
use Rattle.std.proofs.Common.{ℕ, ◌≡◌, ◌∙◌, ◌+◌, ◌%◌, ◌≤◌, Bool, true, false, nat_le, Option, Some, None, Result, Ok, Err, if◌then◌else◌, refl, sym, ap, subst, arith}
use Rattle.std.proofs.lemmas.Bool.{eqb-true, leb-true, leb-false}
use Rattle.timefd_date_moment.specs.declared.fields.fields.Fields.{Fields}
use Rattle.timefd_date_moment.specs.declared.fields.fields.Fraction.{Fraction}
use Rattle.timefd_date_moment.specs.Fields.Readings.{same}
use Rattle.timefd_date_moment.specs.declared.time.Time.{Time}
use Rattle.timefd_date_moment.specs.Moments.{hour_of_twelve}
use Rattle.timefd_date_moment.specs.declared.reading.error.ValueError.TheVariants as error
use Rattle.timefd_date_moment.specs.declared.reading.part.Part.TheVariants as part
use Rattle.timefd_date_moment.specs.declared.reading.part.TimePart.{TimePart}
use Rattle.timefd_date_moment.specs.declared.reading.times.Clock.{Clock}
use Rattle.timefd_date_moment.specs.Reading.Faults.{clock_fault, time_fault}
use Rattle.timefd_date_moment.specs.Reading.Ways.{IsDetermined}
use Rattle.timefd_date_moment.specs.Reading.Shown.{TimeAgrees, first_false, is_count, is_count_or_zero, is_flag, is_fraction, time_has, time_parts}
use Rattle.timefd_date_moment.specs.Reading.Times.{ClockHas, HasClock, IsSame, IsTimeByParts, Selects, clock_at, clock_read, has_second, hour_read, is_left_out, nanosecond_read, number}
use Rattle.std.specs.Prelude.{is_some}
use Rattle.timefd_date_moment.proofs.ReadingLemmas.ShownLemmas.{clash, some_false, time_agrees}
use Rattle.timefd_date_moment.proofs.ReadingLemmas.YearLemmas.{Known}

determined : (f : Fields) (c : Clock) → clock_read f ≡ Ok c → IsDetermined (clock_read f)
determined f c e = subst (λ (r : Result Clock TimePart). IsDetermined r) (sym e) tt

-- the hour of twelve and the period determine one hour
twelve : (b t : Bool) (h n : ℕ) → n ≤ 23 → t ≡ nat_le 12 n → h ≡ (n + 11) % 12 + 1 → same b t ≡ true
    → h % 12 + (if b then 12 else 0) ≡ n
twelve true true h n k t e s = omega (arith, leb-true _ _ (sym t), k, e)
twelve true false h n k t e s = absurd cc
twelve false true h n k t e s = absurd cc
twelve false false h n k t e s = omega (arith, leb-false _ _ (sym t), e)

hour_known : (h twelfth : Option ℕ) (p : Option Bool) (n : ℕ) → n ≤ 23 → is_count h n ≡ true
    → is_count twelfth (hour_of_twelve n) ≡ true → is_flag p (nat_le 12 n) ≡ true
    → Known (hour_read h twelfth p) n
hour_known (Some h) twelfth p n k e t s = eqb-true h n e
hour_known None None p n k e t s = tt
hour_known None (Some h) None n k e t s = tt
hour_known None (Some h) (Some b) n k e t s =
    twelve b (nat_le 12 n) h n k refl (eqb-true h (hour_of_twelve n) t) s

pub number_is : (o : Option ℕ) (n : ℕ) → is_count_or_zero o n ≡ true → number o ≡ n
number_is None n e = sym (eqb-true n 0 e)
number_is (Some k) n e = eqb-true k n e

nanosecond_is : (o : Option Fraction) (n : ℕ) → is_fraction o n ≡ true → nanosecond_read o ≡ n
nanosecond_is None n e = sym (eqb-true n 0 e)
nanosecond_is (Some f) n e = eqb-true f.nanosecond n e

abbrev clock_in : Clock → Result Clock TimePart → Clock
clock_in c (Ok d) = d
clock_in c (Err p) = c

numbers : (f : Fields) (h : ℕ) (t u : Bool) (c : Clock)
    → (if t then Err TimePart.Minute
    else (if u then Err TimePart.Second else Ok (record {
      hour = h;
      minute = number f.minute;
      second = number f.second;
      nanosecond = nanosecond_read f.subsecond;
    }))) ≡ Ok c
    → (h ≡ c.hour) × (number f.minute ≡ c.minute) × (number f.second ≡ c.second)
    × (nanosecond_read f.subsecond ≡ c.nanosecond)
numbers f h true u c e = absurd cc
numbers f h false true c e = absurd cc
numbers f h false false c e =
    let is = ap (clock_in c) e in
    (ap (λ (x : Clock). x.hour) is, ap (λ (x : Clock). x.minute) is, ap (λ (x : Clock). x.second) is, ap (λ (x : Clock). x.nanosecond) is)

clock_is : (f : Fields) (o : Option ℕ) (c : Clock) (t : Time) → clock_at f o ≡ Ok c → Known o t.hour
    → TimeAgrees f t → ClockHas c t
clock_is f None c t e k a = absurd cc
clock_is f (Some h) c t e k a =
    let is = numbers f h (is_left_out f.minute (has_second f))
    (is_left_out f.second (is_some f.subsecond)) c e in (
      sym is.0 ∙ k,
      sym is.1 ∙ number_is f.minute t.minute (a TimePart.Minute),
      sym is.2 ∙ number_is f.second t.second (a TimePart.Second),
      sym is.3 ∙ nanosecond_is f.subsecond t.nanosecond (a TimePart.Subsecond),
    )

pub clock_has : (f : Fields) (c : Clock) (t : Time) → clock_read f ≡ Ok c → TimeAgrees f t → ClockHas c t
clock_has f c t e a =
    clock_is f (hour_read f.hour f.hour_12 f.is_afternoon) c t e
    (hour_known f.hour f.hour_12 f.is_afternoon t.hour t.hours (a TimePart.Hour) (a TimePart.Hour12)
    (a TimePart.Period)) a

same_parts : (f : Fields) (p : TimePart) (t u : Time) → IsSame t u → time_has f t p ≡ time_has f u p
same_parts f TimePart.Hour t u s = ap (λ (n : ℕ). is_count f.hour n) s.0
same_parts f TimePart.Hour12 t u s = ap (λ (n : ℕ). is_count f.hour_12 (hour_of_twelve n)) s.0
same_parts f TimePart.Period t u s = ap (λ (n : ℕ). is_flag f.is_afternoon (nat_le 12 n)) s.0
same_parts f TimePart.Minute t u s = ap (λ (n : ℕ). is_count_or_zero f.minute n) s.1
same_parts f TimePart.Second t u s = ap (λ (n : ℕ). is_count_or_zero f.second n) s.2
same_parts f TimePart.Subsecond t u s = ap (λ (n : ℕ). is_fraction f.subsecond n) s.3

pub agreed : (f : Fields) (c : Clock) (t : Time) (o : Option TimePart) → clock_read f ≡ Ok c
    → o ≡ first_false (time_has f t) time_parts → o ≡ None → IsTimeByParts f (Ok t)
agreed f c t o e is none = (time_agrees f t (sym is ∙ none), determined f c e)

otherwise : (f : Fields) (t x : Time) (p : TimePart) → first_false (time_has f t) time_parts ≡ Some p
    → IsSame t x → time_has f x p ≡ false
otherwise f t x p off same = sym (same_parts f p t x same) ∙ some_false (time_has f t) time_parts p off

first_of_same : (f : Fields) (t u : Time) → IsSame t u
    → first_false (time_has f t) time_parts ≡ first_false (time_has f u) time_parts
first_of_same f t u s = λ i. first_false (λ p. same_parts f p t u s i) time_parts

pub contradicted : (f : Fields) (c : Clock) (t : Time) (o : Option TimePart) (p : TimePart)
    → clock_read f ≡ Ok c → ClockHas c t → Selects (ClockHas c) (Ok t)
    → o ≡ first_false (time_has f t) time_parts → o ≡ Some p
    → IsTimeByParts f (Err (error.Contradiction (part.Time p)))
contradicted f c t o p clock has one is some = (
  determined f c clock,
  (λ x a.
      clash (time_has f x p) (otherwise f t x p (sym is ∙ some) (one x (clock_has f c x clock a))) (a p)),
  (
    (λ x h.
        sym (first_of_same f t x (one x (subst (λ (r : Result Clock TimePart). HasClock r x) clock h)))
        ∙ sym is ∙ some),
    (λ none. absurd (none t (subst (λ (r : Result Clock TimePart). HasClock r t) (sym clock) has))),
  ),
)

pub unfound : (f : Fields) (c : Clock) (p : TimePart) → clock_read f ≡ Ok c
    → Selects (ClockHas c) (Err p) → clock_fault c ≡ Some p
    → IsTimeByParts f (Err (error.Contradiction (part.Time p)))
unfound f c p clock none fault = (
  determined f c clock,
  (λ x a. none x (clock_has f c x clock a)),
  (
    (λ x h. absurd (none x (subst (λ (r : Result Clock TimePart). HasClock r x) clock h))),
    (λ _. ap time_fault clock ∙ fault),
  ),
)
