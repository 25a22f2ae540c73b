-- The errors of moments name what was read, or what wasn't: with a timestamp, and without one.
use Rattle.std.proofs.Common.{ℕ, ◌≡◌, ◌∙◌, ◌/◌, ◌==◌, ◌||◌, ◌⊎◌, inl, inr, Bool, true, false, nat_lt, if◌then◌else◌, List, [], ◌∷◌, Option, Some, None, Result, Ok, Err, refl, sym, ap, subst, arith}
use Rattle.std.specs.Prelude.{IfSome, is_some, ⊤}
use Rattle.timefd_date_moment.specs.declared.fields.fields.Fields.{Fields}
use Rattle.timefd_date_moment.specs.declared.fields.fields.Fraction.{Fraction}
use Rattle.timefd_date_moment.specs.declared.fields.fields.Signed.{Signed}
use Rattle.timefd_date_moment.specs.declared.date.Date.{Date}
use Rattle.timefd_date_moment.specs.declared.time.Time.{Time}
use Rattle.timefd_date_moment.specs.declared.offset.UtcOffset.{UtcOffset}
use Rattle.timefd_date_moment.specs.declared.unix_time.UnixTime.{UnixTime}
use Rattle.timefd_date_moment.specs.Moments.{unix_time}
use Rattle.timefd_date_moment.specs.declared.reading.error.ValueError.{ValueError}
use Rattle.timefd_date_moment.specs.declared.reading.error.ValueError.TheVariants as error
use Rattle.timefd_date_moment.specs.declared.reading.part.InstantPart.{InstantPart}
use Rattle.timefd_date_moment.specs.declared.reading.part.OffsetPart.{OffsetPart}
use Rattle.timefd_date_moment.specs.declared.reading.part.Part.{Part}
use Rattle.timefd_date_moment.specs.declared.reading.part.Part.TheVariants as part
use Rattle.timefd_date_moment.specs.declared.reading.part.TimePart.{TimePart}
use Rattle.timefd_date_moment.specs.Reading.Faults.{shift_fault}
use Rattle.timefd_date_moment.specs.Reading.Known.{has_date, has_offset, has_time}
use Rattle.timefd_date_moment.specs.Reading.Offsets.{HasShift, IsOffsetOf, shift_at, shift_read}
use Rattle.timefd_date_moment.specs.Reading.Dates.{IsDateByParts}
use Rattle.timefd_date_moment.specs.Reading.Shown.{first_false, is_count, is_flag, is_shown}
use Rattle.timefd_date_moment.specs.Reading.Stamped.{IsAt, IsStamped, has_digits, moment_has, moment_parts, part_or_stamp, stamp_fault, stamp_has, time_shows, utc_shift, zone_if, zone_read}
use Rattle.timefd_date_moment.specs.Reading.Stamps.{finest, finest_of, instant_by, instant_read}
use Rattle.timefd_date_moment.specs.Reading.Times.{IsTimeByParts, is_left_out, number}
use Rattle.timefd_date_moment.specs.Reading.Values.{IsDateBy, IsErrorAfterDate, IsMomentBy, IsMomentByParts, IsPart, IsTimeBy}
use Rattle.timefd_date_moment.proofs.ReadingLemmas.ShownLemmas.{clash}
use Rattle.timefd_laws.specs.Reading.ValueFaults.{ErrorsNameRead, NamesRead, is_read, offset_is_read}
use Rattle.timefd_laws.proofs.ReadingLemmas.ValueFaultLemmas.{OffsetOf, OffsetWas, count_unread, date_names, date_unread, first_is, flag_unread, offset_missing, offset_names, offset_of, offset_unread, shift_was, shown_unread, time_names}

none_read : (a b c : Bool) → (a || b) || c ≡ false → (b ≡ false) × (c ≡ false)
none_read true b c e = absurd (clash true e refl)
none_read false true c e = absurd (clash true e refl)
none_read false false true e = absurd (clash true e refl)
none_read false false false e = (refl, refl)

zero_number : (o : Option ℕ) → is_some o ≡ false → number o ≡ 0
zero_number None e = refl
zero_number (Some n) e = absurd (clash true e refl)

-- The numbers of the zone's offset are those that were read, or 0.
zone_of : (f : Fields) (o : UtcOffset) (b : Bool) → has_offset f ≡ b → HasShift (zone_if b f) o → OffsetOf f o
zone_of f o true has is = offset_of f o f.offset_hour is
zone_of f o false has is =
    let none = none_read (is_some f.offset_hour) (is_some f.offset_minute) (is_some f.offset_second) has in
    record {
      minute = zero_number f.offset_minute none.0 ∙ is.1;
      second = zero_number f.offset_second none.1 ∙ is.2;
    }

zone_missing : (f : Fields) (b : Bool) (p : OffsetPart) → zone_if b f ≡ Err p → offset_is_read f p ≡ false
zone_missing f true p e = offset_missing f f.offset_hour p refl e
zone_missing f false p e = absurd cc

digits_unread : (o : Option Fraction) (n : ℕ) → is_some o ≡ false → has_digits o n ≡ true
digits_unread None n e = refl
digits_unread (Some k) n e = absurd (clash true e refl)

module _ (f : Fields) (d : Date) (t : Time) (o : UtcOffset) where
  time_unread : (p : TimePart) → is_read f (part.Time p) ≡ false → time_shows f t p ≡ true
  time_unread TimePart.Hour e = count_unread f.hour _ e
  time_unread TimePart.Hour12 e = count_unread f.hour_12 _ e
  time_unread TimePart.Period e = flag_unread f.is_afternoon _ e
  time_unread TimePart.Minute e = count_unread f.minute _ e
  time_unread TimePart.Second e = count_unread f.second _ e
  time_unread TimePart.Subsecond e = digits_unread f.subsecond _ e

  stamp_unread : (p : InstantPart) → is_read f (part.Instant p) ≡ false
      → stamp_has f (unix_time d t o) p ≡ true
  stamp_unread InstantPart.Second e = shown_unread f.unix_second _ _ _ e
  stamp_unread InstantPart.Millisecond e = shown_unread f.unix_millisecond _ _ _ e
  stamp_unread InstantPart.Microsecond e = shown_unread f.unix_microsecond _ _ _ e
  stamp_unread InstantPart.Nanosecond e = shown_unread f.unix_nanosecond _ _ _ e

  moment_unread : HasShift (zone_read f) o → (p : Part) → is_read f p ≡ false → moment_has f d t o p ≡ true
  moment_unread h (part.Date p) e = date_unread f d p e
  moment_unread h (part.Time p) e = time_unread p e
  moment_unread h (part.Offset p) e = offset_unread f o p (zone_of f o (has_offset f) refl h) e
  moment_unread h (part.Instant p) e = stamp_unread p e

-- the finest timestamp was read, if any was
finest_was : (f : Fields) (n us ms s : Option Signed) (u : UnixTime) → f.unix_nanosecond ≡ n → f.unix_microsecond ≡ us
    → f.unix_millisecond ≡ ms → f.unix_second ≡ s → instant_by f.subsecond n us ms s ≡ Some u
    → is_read f (part.Instant (finest_of n us ms)) ≡ true
finest_was f (Some n) us ms s u a b c d e = ap is_some a
finest_was f None (Some n) ms s u a b c d e = ap is_some b
finest_was f None None (Some n) s u a b c d e = ap is_some c
finest_was f None None None (Some n) u a b c d e = ap is_some d
finest_was f None None None None u a b c d e = absurd cc

part_was : (f : Fields) (o : Option OffsetPart) → IfSome o (λ q. offset_is_read f q ≡ true)
    → is_read f (part.Instant (finest f)) ≡ true → is_read f (part_or_stamp f o) ≡ true
part_was f (Some p) was stamp = was
part_was f None was stamp = stamp

abbrev IsReadIf : Fields → Option Part → Type 0
IsReadIf f o = IfSome o (λ q. is_read f q ≡ true)

stamp_from : (f : Fields) (h : Signed) (b : Bool) → f.offset_hour ≡ Some h
    → is_read f (part.Instant (finest f)) ≡ true
    → IsReadIf f (stamp_fault f (if b then Err OffsetPart.Minute else Ok (record {
      is_negative = h.is_negative;
      hour = h.magnitude;
      minute = number f.offset_minute;
      second = number f.offset_second;
    })))
stamp_from f h true is stamp = tt
stamp_from f h false is stamp = part_was f _ (shift_was f h is) stamp

stamp_at : (f : Fields) (h : Option Signed) → f.offset_hour ≡ h → is_read f (part.Instant (finest f)) ≡ true
    → IsReadIf f (stamp_fault f (shift_at f h))
stamp_at f None is stamp = tt
stamp_at f (Some h) is stamp = stamp_from f h (is_left_out f.offset_minute (is_some f.offset_second)) is stamp

stamp_was : (f : Fields) (b : Bool) → is_read f (part.Instant (finest f)) ≡ true
    → IsReadIf f (stamp_fault f (zone_if b f))
stamp_was f true stamp = stamp_at f f.offset_hour refl stamp
stamp_was f false stamp = stamp

stamped_names : (f : Fields) (u : UnixTime) (e : ValueError) → instant_read f ≡ Some u → IsStamped f u (Err e)
    → NamesRead f e
stamped_names f u (error.Missing (part.Date p)) has is = absurd is
stamped_names f u (error.Missing (part.Time p)) has is = absurd is
stamped_names f u (error.Missing (part.Offset p)) has is = zone_missing f (has_offset f) p is
stamped_names f u (error.Missing (part.Instant p)) has is = absurd is
stamped_names f u (error.Contradiction p) has is = by (is_read f p) refl
  where
    by : (b : Bool) → is_read f p ≡ b → b ≡ true
    by true e = refl
    by false e =
        let none : stamp_fault f (zone_read f) ≡ Some p = is.1.1 (λ d t o at.
        clash (moment_has f d t o p) (first_is (moment_has f d t o) moment_parts p (is.1.0 d t o at))
        (moment_unread f d t o at.1 p e)) in
        sym e ∙ subst (λ o. IfSome o (λ q. is_read f q ≡ true)) none
        (stamp_was f (has_offset f)
        (finest_was f f.unix_nanosecond f.unix_microsecond f.unix_millisecond f.unix_second u refl refl refl refl has))

-- a part of a moment, if something was read about it
part_names : {A : Type 0} (b : Bool) (Is : Result A ValueError → Type 0) (f : Fields) (e : ValueError)
    → IsPart b Is (Err e) → (Is (Err e) → NamesRead f e) → NamesRead f e
part_names false Is f e is names = absurd is
part_names true Is f e is names = names is

by_parts : (f : Fields) (e : ValueError) → IsMomentByParts f (Err e) → NamesRead f e
by_parts f e (inl is) = part_names (has_date f) (IsDateByParts f) f e is (date_names f e)
by_parts f e (inr is) = after f e is.1
  where
    after : (f : Fields) (e : ValueError) → IsErrorAfterDate f e → NamesRead f e
    after f e (inl is) = part_names (has_time f) (IsTimeByParts f) f e is (time_names f e)
    after f e (inr is) = part_names (has_offset f) (IsOffsetOf f) f e is.1 (offset_names f e)

date_by : (f : Fields) (o : Option UnixTime) (e : ValueError) → instant_read f ≡ o → IsDateBy o f (Err e)
    → NamesRead f e
date_by f None e has is = date_names f e is
date_by f (Some u) e has is = stamped_names f u e has is

time_by : (f : Fields) (o : Option UnixTime) (e : ValueError) → instant_read f ≡ o → IsTimeBy o f (Err e)
    → NamesRead f e
time_by f None e has is = time_names f e is
time_by f (Some u) e has is = stamped_names f u e has is

moment_by : (f : Fields) (o : Option UnixTime) (e : ValueError) → instant_read f ≡ o → IsMomentBy o f (Err e)
    → NamesRead f e
moment_by f None e has is = by_parts f e is
moment_by f (Some u) e has is = stamped_names f u e has is

pub errors_name_read : ErrorsNameRead
errors_name_read = record {
  date = λ f e is. date_by f (instant_read f) e refl is;
  time = λ f e is. time_by f (instant_read f) e refl is;
  offset = offset_names;
  moment = λ f e is. moment_by f (instant_read f) e refl is;
}
