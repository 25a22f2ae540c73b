-- There is one moment with the same numbers.
use Rattle.std.proofs.Common.{rules, ◌≡◌, ◌∙◌, ◌≤◌, ℕ, Bool, true, false, Option, Some, None, refl, sym, ap, subst}
use Rattle.std.proofs.Props.{props}
use Rattle.std.specs.Prelude.{IsTrue}
use Rattle.timefd_c.specs.declared.moment.MomentFields.{MomentFields}
use Rattle.timefd_c.specs.Moments.{IsDate, IsMoment, IsOffset, IsTime}
use Rattle.timefd_date_moment.specs.Calendar.{IsDay}
use Rattle.timefd_date_moment.specs.Signed.{signed}
use Rattle.timefd_date_moment.specs.declared.date.Date.{Date}
use Rattle.timefd_date_moment.specs.declared.moment.Moment.{Moment}
use Rattle.timefd_date_moment.specs.declared.offset.UtcOffset.{UtcOffset}
use Rattle.timefd_date_moment.specs.declared.time.Time.{Time}

one_day : (y m d : ℕ) → IsProp (IsDay y m d)
one_day y m d = Prim.hlevel props

abbrev made_date : (y m d : ℕ) → IsDay y m d → Date
made_date y m d e = record { years = y; month = m; day = d; exists = e }

-- dates of the same numbers are the same
same_date : (y z m n d e : ℕ) → y ≡ z → m ≡ n → d ≡ e → (p : IsDay y m d) (q : IsDay z n e)
    → made_date y m d p ≡ made_date z n e q
same_date y z m n d e f g h =
    subst (λ z. (p : IsDay y m d) (q : IsDay z n e) → made_date y m d p ≡ made_date z n e q) f
    (subst (λ n. (p : IsDay y m d) (q : IsDay y n e) → made_date y m d p ≡ made_date y n e q) g
    (subst (λ e. (p : IsDay y m d) (q : IsDay y m e) → made_date y m d p ≡ made_date y m e q) h
    (λ p q. ap (made_date y m d) (one_day y m d p q))))

abbrev IsClock : ℕ → ℕ → ℕ → ℕ → Type 0
IsClock h m s n = (h ≤ 23) × (m ≤ 59) × (s ≤ 59) × (n ≤ 999999999)

one_clock : (h m s n : ℕ) → IsProp (IsClock h m s n)
one_clock h m s n = Prim.hlevel props

abbrev made_time : (h m s n : ℕ) → IsClock h m s n → Time
made_time h m s n e = record {
  hour = h;
  minute = m;
  second = s;
  nanosecond = n;
  hours = e.0;
  minutes = e.1;
  seconds = e.2;
  nanoseconds = e.3;
}

same_time : (h i m k s t n o : ℕ) → h ≡ i → m ≡ k → s ≡ t → n ≡ o → (p : IsClock h m s n) (q : IsClock i k t o)
    → made_time h m s n p ≡ made_time i k t o q
same_time h i m k s t n o a b c d =
    subst (λ i. (p : IsClock h m s n) (q : IsClock i k t o) → made_time h m s n p ≡ made_time i k t o q) a
    (subst (λ k. (p : IsClock h m s n) (q : IsClock h k t o) → made_time h m s n p ≡ made_time h k t o q) b
    (subst (λ t. (p : IsClock h m s n) (q : IsClock h m t o) → made_time h m s n p ≡ made_time h m t o q) c
    (subst (λ o. (p : IsClock h m s n) (q : IsClock h m s o) → made_time h m s n p ≡ made_time h m s o q) d
    (λ p q. ap (made_time h m s n) (one_clock h m s n p q)))))

abbrev IsSigned : Bool → ℕ → Type 0
IsSigned x n = (n ≤ 93599) × (IsTrue x → 1 ≤ n)

one_signed : (x : Bool) (n : ℕ) → IsProp (IsSigned x n)
one_signed x n = Prim.hlevel props

abbrev made_offset : (x : Bool) (n : ℕ) → IsSigned x n → UtcOffset
made_offset x n e = record { is_negative = x; seconds = n; within = e.0; no_negative_zero = e.1 }

same_offset : (x y : Bool) (n k : ℕ) → x ≡ y → n ≡ k → (p : IsSigned x n) (q : IsSigned y k)
    → made_offset x n p ≡ made_offset y k q
same_offset x y n k a b =
    subst (λ y. (p : IsSigned x n) (q : IsSigned y k) → made_offset x n p ≡ made_offset y k q) a
    (subst (λ k. (p : IsSigned x n) (q : IsSigned x k) → made_offset x n p ≡ made_offset x k q) b
    (λ p q. ap (made_offset x n) (one_signed x n p q)))

-- A number other than zero has one sign.
one_sign : (x y : Bool) (n k : ℕ) → (IsTrue x → 1 ≤ n) → (IsTrue y → 1 ≤ k) → signed x n ≡ signed y k
    → (x ≡ y) × (n ≡ k)
one_sign true true n k p q e = (refl, search rules)
one_sign true false n k p q e = absurd (search rules)
one_sign false true n k p q e = absurd (search rules)
one_sign false false n k p q e = (refl, search rules)

module _ (f : MomentFields) where
  date_is : (a b : Option Date) → IsDate f a → IsDate f b → a ≡ b
  date_is None None p q = refl
  date_is None (Some e) p q = absurd cc
  date_is (Some d) None p q = absurd cc
  date_is (Some d) (Some e) p q = ap Some (same_date d.years e.years d.month e.month d.day e.day
      (p.1 ∙ sym q.1) (p.2 ∙ sym q.2) (p.3 ∙ sym q.3) d.exists e.exists)

  time_is : (a b : Option Time) → IsTime f a → IsTime f b → a ≡ b
  time_is None None p q = refl
  time_is None (Some u) p q = absurd cc
  time_is (Some t) None p q = absurd cc
  time_is (Some t) (Some u) p q = ap Some (same_time t.hour u.hour t.minute u.minute t.second u.second t.nanosecond
      u.nanosecond (p.1 ∙ sym q.1) (p.2 ∙ sym q.2) (p.3 ∙ sym q.3) (p.4 ∙ sym q.4)
      (t.hours, t.minutes, t.seconds, t.nanoseconds) (u.hours, u.minutes, u.seconds, u.nanoseconds))

  offset_is : (a b : Option UtcOffset) → IsOffset f a → IsOffset f b → a ≡ b
  offset_is None None p q = refl
  offset_is None (Some v) p q = absurd cc
  offset_is (Some o) None p q = absurd cc
  offset_is (Some o) (Some v) p q =
      let one : (o.is_negative ≡ v.is_negative) × (o.seconds ≡ v.seconds) =
      one_sign o.is_negative v.is_negative o.seconds v.seconds o.no_negative_zero v.no_negative_zero (p.1 ∙ sym q.1) in
      ap Some (same_offset o.is_negative v.is_negative o.seconds v.seconds one.0 one.1
      (o.within, o.no_negative_zero) (v.within, v.no_negative_zero))

  moment_made : (d e : Option Date) (t u : Option Time) (o v : Option UtcOffset) → d ≡ e → t ≡ u → o ≡ v
      → ◌≡◌ {A = Moment} (record { date = d; time = t; offset = o }) (record { date = e; time = u; offset = v })
  moment_made d e t u o v a b c = λ i. record { date = a i; time = b i; offset = c i }

  pub same_moment : (a b : Moment) → IsMoment f a → IsMoment f b → a ≡ b
  same_moment a b p q = moment_made a.date b.date a.time b.time a.offset b.offset
      (date_is a.date b.date p.0 q.0) (time_is a.time b.time p.1 q.1) (offset_is a.offset b.offset p.2 q.2)
