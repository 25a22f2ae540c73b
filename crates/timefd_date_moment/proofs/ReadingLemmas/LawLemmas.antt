-- Fields that determine a value agree with at most one, and the result is that one.
use Rattle.std.proofs.Common.{ℕ, ◌≡◌, ◌∙◌, ◌/◌, ◌%◌, ◌≤◌, ◌⊎◌, inl, inr, Bool, true, false, Option, Result, Ok, Err, refl, sym, subst, arith}
use Rattle.timefd_date_moment.specs.declared.fields.fields.Fields.{Fields}
use Rattle.timefd_date_moment.specs.declared.date.Date.{Date}
use Rattle.timefd_date_moment.specs.declared.time.Time.{Time}
use Rattle.timefd_date_moment.specs.declared.offset.UtcOffset.{UtcOffset}
use Rattle.timefd_date_moment.specs.declared.unix_time.UnixTime.{UnixTime}
use Rattle.timefd_date_moment.specs.declared.reading.error.ValueError.{ValueError}
use Rattle.timefd_date_moment.specs.declared.reading.error.ValueError.TheVariants as error
use Rattle.timefd_date_moment.specs.declared.reading.offsets.Shift.{Shift}
use Rattle.timefd_date_moment.specs.declared.reading.part.DatePart.{DatePart}
use Rattle.timefd_date_moment.specs.declared.reading.part.TimePart.{TimePart}
use Rattle.timefd_date_moment.specs.declared.reading.part.OffsetPart.{OffsetPart}
use Rattle.timefd_date_moment.specs.declared.reading.part.Part.TheVariants as part
use Rattle.timefd_date_moment.specs.declared.reading.times.Clock.{Clock}
use Rattle.timefd_date_moment.specs.declared.reading.way.DateWay.{DateWay}
use Rattle.timefd_date_moment.specs.Reading.Dates as of_date
use Rattle.timefd_date_moment.specs.Reading.Dates.{IsDateByParts}
use Rattle.timefd_date_moment.specs.Reading.Laws.{Answers, DateBack, OffsetBack, OneDate, OneOffset, OneTime, TimeBack}
use Rattle.timefd_date_moment.specs.Reading.Offsets as of_offset
use Rattle.timefd_date_moment.specs.Reading.Offsets.{ShiftHas, shift_read}
use Rattle.timefd_date_moment.specs.Reading.Shown.{DateAgrees, OffsetAgrees, TimeAgrees}
use Rattle.timefd_date_moment.specs.Reading.Times as of_time
use Rattle.timefd_date_moment.specs.Reading.Times.{IsTimeByParts, clock_read}
use Rattle.timefd_date_moment.specs.Reading.Values.{IsDateBy, IsTimeBy}
use Rattle.timefd_date_moment.specs.Reading.Ways.{IsDetermined, date_way}
use Rattle.timefd_date_moment.proofs.ReadingLemmas.OffsetLemmas.{shift_has}
use Rattle.timefd_date_moment.proofs.ReadingLemmas.TimeLemmas.{clock_has}
use Rattle.timefd_date_moment.proofs.ReadingLemmas.WayLemmas.{one_way, way_has}

-- if a part is missing, nothing is determined
undetermined : {A E : Type 0} (r : Result A E) (e : E) → r ≡ Err e → IsDetermined r → ⊥
undetermined {A = A} {E = E} r e is h = subst (λ (x : Result A E). IsDetermined x) is h

date_by : (f : Fields) (r : Result DateWay DatePart) (d e : Date) → date_way f ≡ r → IsDetermined r
    → DateAgrees f d → DateAgrees f e → of_date.IsSame d e
date_by f (Ok w) d e is h a b = one_way w d e (way_has f w d is a) (way_has f w e is b)
date_by f (Err p) d e is h a b = absurd h

pub one_date : OneDate
one_date f d e h a b = date_by f (date_way f) d e refl h a b

time_by : (f : Fields) (r : Result Clock TimePart) (t u : Time) → clock_read f ≡ r → IsDetermined r
    → TimeAgrees f t → TimeAgrees f u → of_time.IsSame t u
time_by f (Ok c) t u is h a b =
    let x = clock_has f c t is a in
    let y = clock_has f c u is b in
    (sym x.0 ∙ y.0, sym x.1 ∙ y.1, sym x.2 ∙ y.2, sym x.3 ∙ y.3)
time_by f (Err p) t u is h a b = absurd h

pub one_time : OneTime
one_time f t u h a b = time_by f (clock_read f) t u refl h a b

seconds_of : (h m s n k : ℕ) → h ≡ n / 3600 → m ≡ n / 60 % 60 → s ≡ n % 60 → h ≡ k / 3600
    → m ≡ k / 60 % 60 → s ≡ k % 60 → n ≡ k
seconds_of h m s n k a b c d e f = omega (arith, a, b, c, d, e, f)

-- zero has no sign
positive : (b : Bool) (n : ℕ) → (b ≡ true → 1 ≤ n) → n ≡ 0 → b ≡ false
positive true n some z = absurd (omega (arith, some refl, z))
positive false n some z = refl

sign_by : (a b c : Bool) (n k : ℕ) → n ≡ k → (b ≡ true → 1 ≤ n) → (c ≡ true → 1 ≤ k)
    → (n ≡ 0) ⊎ (a ≡ b) → (k ≡ 0) ⊎ (a ≡ c) → b ≡ c
sign_by a b c n k same p q (inl z) s =
    positive b n p z ∙ sym (positive c k q (sym same ∙ z))
sign_by a b c n k same p q (inr s) (inl z) =
    positive b n p (same ∙ z) ∙ sym (positive c k q z)
sign_by a b c n k same p q (inr s) (inr t) = sym s ∙ t

-- two offsets that have the numbers of a shift are the same
pub one_shift : (s : Shift) (o p : UtcOffset) → ShiftHas s o → ShiftHas s p → of_offset.IsSame o p
one_shift s o p x y =
    let same = seconds_of s.hour s.minute s.second o.seconds p.seconds x.0 x.1 x.2 y.0 y.1 y.2 in (
      same,
      sign_by s.is_negative o.is_negative p.is_negative o.seconds p.seconds same o.no_negative_zero
          p.no_negative_zero x.3 y.3,
    )

offset_by : (f : Fields) (r : Result Shift OffsetPart) (o p : UtcOffset) → shift_read f ≡ r
    → IsDetermined r → OffsetAgrees f o → OffsetAgrees f p → of_offset.IsSame o p
offset_by f (Ok s) o p is h a b = one_shift s o p (shift_has f s o is a) (shift_has f s p is b)
offset_by f (Err q) o p is h a b = absurd h

pub one_offset : OneOffset
one_offset f o p h a b = offset_by f (shift_read f) o p refl h a b

pub date_answered : (f : Fields) (d : Date) (r : Result Date ValueError) → IsDetermined (date_way f)
    → DateAgrees f d → IsDateByParts f r → Answers of_date.IsSame d r
date_answered f d (Ok e) h a is = one_date f d e h a is.0
date_answered f d (Err (error.Missing (part.Date p))) h a is = undetermined (date_way f) p is h
date_answered f d (Err (error.Missing (part.Time p))) h a is = absurd is
date_answered f d (Err (error.Missing (part.Offset p))) h a is = absurd is
date_answered f d (Err (error.Missing (part.Instant p))) h a is = absurd is
date_answered f d (Err (error.Contradiction p)) h a is = is.1 d a

pub date_back : DateBack
date_back f d r none h a is =
    date_answered f d r h a (subst (λ (o : Option UnixTime). IsDateBy o f r) none is)

pub time_answered : (f : Fields) (t : Time) (r : Result Time ValueError) → IsDetermined (clock_read f)
    → TimeAgrees f t → IsTimeByParts f r → Answers of_time.IsSame t r
time_answered f t (Ok u) h a is = one_time f t u h a is.0
time_answered f t (Err (error.Missing (part.Date p))) h a is = absurd is
time_answered f t (Err (error.Missing (part.Time p))) h a is = undetermined (clock_read f) p is h
time_answered f t (Err (error.Missing (part.Offset p))) h a is = absurd is
time_answered f t (Err (error.Missing (part.Instant p))) h a is = absurd is
time_answered f t (Err (error.Contradiction p)) h a is = is.1 t a

pub time_back : TimeBack
time_back f t r none h a is =
    time_answered f t r h a (subst (λ (o : Option UnixTime). IsTimeBy o f r) none is)

pub offset_back : OffsetBack
offset_back f o (Ok p) h a is = one_offset f o p h a is.0
offset_back f o (Err (error.Missing (part.Date p))) h a is = absurd is
offset_back f o (Err (error.Missing (part.Time p))) h a is = absurd is
offset_back f o (Err (error.Missing (part.Offset p))) h a is = undetermined (shift_read f) p is h
offset_back f o (Err (error.Missing (part.Instant p))) h a is = absurd is
offset_back f o (Err (error.Contradiction p)) h a is = is.1 o a
