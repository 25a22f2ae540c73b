-- The brackets of times, and of the end.
use Rattle.std.proofs.Common.{Bool, true, false, refl}
use Rattle.timefd_modifier.specs.declared.enums.Padding.{Padding}
use Rattle.timefd_modifier.specs.declared.enums.SubsecondDigits.{SubsecondDigits}
use Rattle.timefd_modifier.specs.declared.enums.TrailingInput.{TrailingInput}
use Rattle.timefd_lang_component.specs.declared.component.Component.TheVariants.{Hour12, Hour24, Minute, Period, Second, Subsecond, OffsetHour, OffsetMinute, OffsetSecond, UnixTimestampSecond, UnixTimestampMillisecond, UnixTimestampMicrosecond, UnixTimestampNanosecond, End}
use Rattle.timefd_lift.proofs.Heads.{IsShownAs, shown}

pub hour_12 : (p : Padding) → IsShownAs (Hour12 (record { padding = p }))
hour_12 Padding.Zero = shown refl refl (λ close. refl) (λ close. refl)
hour_12 Padding.Space = shown refl refl (λ close. refl) (λ close. refl)
hour_12 Padding.None = shown refl refl (λ close. refl) (λ close. refl)

pub hour_24 : (p : Padding) → IsShownAs (Hour24 (record { padding = p }))
hour_24 Padding.Zero = shown refl refl (λ close. refl) (λ close. refl)
hour_24 Padding.Space = shown refl refl (λ close. refl) (λ close. refl)
hour_24 Padding.None = shown refl refl (λ close. refl) (λ close. refl)

pub minute : (p : Padding) → IsShownAs (Minute (record { padding = p }))
minute Padding.Zero = shown refl refl (λ close. refl) (λ close. refl)
minute Padding.Space = shown refl refl (λ close. refl) (λ close. refl)
minute Padding.None = shown refl refl (λ close. refl) (λ close. refl)

pub period : (u : Bool) (c : Bool) → IsShownAs (Period (record { is_uppercase = u; case_sensitive = c }))
period true true = shown refl refl (λ close. refl) (λ close. refl)
period true false = shown refl refl (λ close. refl) (λ close. refl)
period false true = shown refl refl (λ close. refl) (λ close. refl)
period false false = shown refl refl (λ close. refl) (λ close. refl)

pub second : (p : Padding) → IsShownAs (Second (record { padding = p }))
second Padding.Zero = shown refl refl (λ close. refl) (λ close. refl)
second Padding.Space = shown refl refl (λ close. refl) (λ close. refl)
second Padding.None = shown refl refl (λ close. refl) (λ close. refl)

pub subsecond : (d : SubsecondDigits) → IsShownAs (Subsecond (record { digits = d }))
subsecond SubsecondDigits.OneOrMore = shown refl refl (λ close. refl) (λ close. refl)
subsecond SubsecondDigits.One = shown refl refl (λ close. refl) (λ close. refl)
subsecond SubsecondDigits.Two = shown refl refl (λ close. refl) (λ close. refl)
subsecond SubsecondDigits.Three = shown refl refl (λ close. refl) (λ close. refl)
subsecond SubsecondDigits.Four = shown refl refl (λ close. refl) (λ close. refl)
subsecond SubsecondDigits.Five = shown refl refl (λ close. refl) (λ close. refl)
subsecond SubsecondDigits.Six = shown refl refl (λ close. refl) (λ close. refl)
subsecond SubsecondDigits.Seven = shown refl refl (λ close. refl) (λ close. refl)
subsecond SubsecondDigits.Eight = shown refl refl (λ close. refl) (λ close. refl)
subsecond SubsecondDigits.Nine = shown refl refl (λ close. refl) (λ close. refl)

pub offset_hour : (p : Padding) (s : Bool) → IsShownAs (OffsetHour (record { padding = p; sign_is_mandatory = s }))
offset_hour Padding.Zero false = shown refl refl (λ close. refl) (λ close. refl)
offset_hour Padding.Zero true = shown refl refl (λ close. refl) (λ close. refl)
offset_hour Padding.Space false = shown refl refl (λ close. refl) (λ close. refl)
offset_hour Padding.Space true = shown refl refl (λ close. refl) (λ close. refl)
offset_hour Padding.None false = shown refl refl (λ close. refl) (λ close. refl)
offset_hour Padding.None true = shown refl refl (λ close. refl) (λ close. refl)

pub offset_minute : (p : Padding) → IsShownAs (OffsetMinute (record { padding = p }))
offset_minute Padding.Zero = shown refl refl (λ close. refl) (λ close. refl)
offset_minute Padding.Space = shown refl refl (λ close. refl) (λ close. refl)
offset_minute Padding.None = shown refl refl (λ close. refl) (λ close. refl)

pub offset_second : (p : Padding) → IsShownAs (OffsetSecond (record { padding = p }))
offset_second Padding.Zero = shown refl refl (λ close. refl) (λ close. refl)
offset_second Padding.Space = shown refl refl (λ close. refl) (λ close. refl)
offset_second Padding.None = shown refl refl (λ close. refl) (λ close. refl)

pub timestamp_second : (s : Bool) → IsShownAs (UnixTimestampSecond (record { sign_is_mandatory = s }))
timestamp_second false = shown refl refl (λ close. refl) (λ close. refl)
timestamp_second true = shown refl refl (λ close. refl) (λ close. refl)

pub timestamp_millisecond : (s : Bool) → IsShownAs (UnixTimestampMillisecond (record { sign_is_mandatory = s }))
timestamp_millisecond false = shown refl refl (λ close. refl) (λ close. refl)
timestamp_millisecond true = shown refl refl (λ close. refl) (λ close. refl)

pub timestamp_microsecond : (s : Bool) → IsShownAs (UnixTimestampMicrosecond (record { sign_is_mandatory = s }))
timestamp_microsecond false = shown refl refl (λ close. refl) (λ close. refl)
timestamp_microsecond true = shown refl refl (λ close. refl) (λ close. refl)

pub timestamp_nanosecond : (s : Bool) → IsShownAs (UnixTimestampNanosecond (record { sign_is_mandatory = s }))
timestamp_nanosecond false = shown refl refl (λ close. refl) (λ close. refl)
timestamp_nanosecond true = shown refl refl (λ close. refl) (λ close. refl)

pub end : (t : TrailingInput) → IsShownAs (End (record { trailing_input = t }))
end TrailingInput.Prohibit = shown refl refl (λ close. refl) (λ close. refl)
end TrailingInput.Discard = shown refl refl (λ close. refl) (λ close. refl)
