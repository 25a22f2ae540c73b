-- A moment that was read with a timestamp and is written again is read as that moment.
use Rattle.std.proofs.Common.{ℕ, ◌≡◌, ◌∙◌, Bool, true, false, Option, Some, None, Result, Ok, Err, refl, sym, ap, subst}
use Rattle.std.specs.Prelude.{is_some}
use Rattle.timefd_lang_component.specs.Tree.{Text, Tree}
use Rattle.timefd_date_format.specs.Kinds as kind
use Rattle.timefd_date_moment.specs.declared.date.Date.{Date}
use Rattle.timefd_date_moment.specs.declared.time.Time.{Time}
use Rattle.timefd_date_moment.specs.declared.offset.UtcOffset.{UtcOffset}
use Rattle.timefd_date_moment.specs.declared.moment.Moment.{Moment}
use Rattle.timefd_date_moment.specs.declared.unix_time.UnixTime.{UnixTime}
use Rattle.timefd_date_moment.specs.Instants.{is_within}
use Rattle.timefd_date_moment.specs.Moments.{utc_seconds}
use Rattle.timefd_date_moment.specs.declared.fields.fields.Fields.{Fields}
use Rattle.timefd_date_moment.specs.declared.reading.error.ValueError.{ValueError}
use Rattle.timefd_date_moment.specs.declared.reading.part.Part.TheVariants as part
use Rattle.timefd_date_moment.specs.declared.reading.part.TimePart.{TimePart}
use Rattle.timefd_date_moment.specs.Reading.Dates as of_date
use Rattle.timefd_date_moment.specs.Reading.Known.{has_offset}
use Rattle.timefd_date_moment.specs.Reading.Offsets as of_offset
use Rattle.timefd_date_moment.specs.Reading.Offsets.{HasShift, shift_read}
use Rattle.timefd_date_moment.specs.Reading.Shown.{OffsetAgrees}
use Rattle.timefd_date_moment.specs.Reading.StampLaws.{AnswersMoment, AreThese, IsRead}
use Rattle.timefd_date_moment.specs.Reading.Stamped.{IsAt, MomentAgrees, zone_if}
use Rattle.timefd_date_moment.specs.Reading.Stamps.{instant_read}
use Rattle.timefd_date_moment.specs.Reading.Times as of_time
use Rattle.timefd_date_moment.specs.Reading.Values.{IsMomentBy, IsMomentOf}
use Rattle.timefd_date_moment.specs.Reading.Ways.{IsDetermined}
use Rattle.timefd_date_moment.proofs.ReadingLemmas.OffsetLemmas.{shift_has}
use Rattle.timefd_date_moment.proofs.ReadingLemmas.ShownLemmas.{clash}
use Rattle.timefd_date_moment.proofs.ReadingLemmas.StampLawLemmas.{stamped_moment_back}
use Rattle.timefd_date_moment.proofs.ReadingLemmas.StampedLemmas.{unix_at}
use Rattle.timefd_laws.specs.Reading.Again.{AnswersSame, BothKnown, IsWrittenAgain, parts}
use Rattle.timefd_laws.specs.Reading.Shown.{IsOf, Shows, fields_shown, shows}
use Rattle.timefd_laws.specs.Reading.Values.{HasNoMoreOffset}
use Rattle.timefd_laws.proofs.ReadingLemmas.KnownLemmas.{same_kind, same_offset, same_stamp}
use Rattle.timefd_laws.proofs.ReadingLemmas.ValueBackLemmas.{offset_again, offset_agrees}
use Rattle.timefd_laws.proofs.ReadingLemmas.PlainLemmas.{whole_read}
use Rattle.timefd_laws.proofs.ReadingLemmas.RestLemmas.{digits_again, digits_kept, within_again}
use Rattle.timefd_laws.proofs.ReadingLemmas.ShownPartLemmas.{same_shown}
use Rattle.timefd_laws.proofs.ReadingLemmas.StampedBackLemmas.{moment_is}
use Rattle.timefd_laws.proofs.ReadingLemmas.StepLemmas.{IsWhole}

-- The values that were given are those that were read, with the offset and all digits of the second.
is_read : (f : Fields) (u : UnixTime) (d : Date) (t : Time) (o : UtcOffset) → IsWhole f.subsecond
    → instant_read f ≡ Some u → MomentAgrees f d t o → IsAt f u d t o → IsRead f d t o
is_read f u d t o whole e agrees at = (
  agrees,
  at.1,
  ap (λ (n : ℕ). is_within (unix_at n)) at.0.0 ∙ within_again u.is_negative u.nanoseconds at.0.1,
  digits_kept f.subsecond f.unix_nanosecond f.unix_microsecond f.unix_millisecond f.unix_second u
      (utc_seconds d t o) t.nanosecond e at.0.0 at.0.1 t.nanoseconds whole (agrees (part.Time TimePart.Subsecond)),
)

-- The offset that is written.

-- by the two cases of a result
pub each_result : {S E : Type 0} (r : Result S E) (P Q : Result S E → Type 0) → ((s : S) → r ≡ Ok s → P (Ok s) → Q (Ok s))
    → ((e : E) → P (Err e) → ⊥) → P r → Q r
each_result (Ok s) P Q f g h = f s refl h
each_result (Err e) P Q f g h = absurd (g e h)

shift_is : (f : Fields) (o : UtcOffset) → OffsetAgrees f o → IsDetermined (shift_read f) → HasShift (shift_read f) o
shift_is f o agrees h =
    each_result (shift_read f) (λ r. IsDetermined r) (λ r. HasShift r o) (λ s e is. shift_has f s o e agrees)
    (λ e is. is) h

has_determined : (f : Fields) (o : UtcOffset) → HasShift (shift_read f) o → IsDetermined (shift_read f)
has_determined f o h =
    each_result (shift_read f) (λ r. HasShift r o) (λ r. IsDetermined r) (λ s e is. tt) (λ e is. is) h

zone_again : (f g : Fields) (o : UtcOffset) (b : Bool) → parts f ≡ parts g → OffsetAgrees g o
    → HasShift (zone_if b f) o → HasShift (zone_if b g) o
zone_again f g o true same agrees h =
    shift_is g o agrees (same_offset f g same (has_determined f o h))
zone_again f g o false same agrees h = h

-- The fields that are shown for a moment that was read are read as that moment.
shown_again : (f : Fields) (d : Date) (t : Time) (o : UtcOffset) → IsWhole f.subsecond → IsRead f d t o
    → parts f ≡ parts (fields_shown d t o (parts f)) → IsRead (fields_shown d t o (parts f)) d t o
shown_again f d t o whole is same =
    let rewritten = fields_shown d t o (parts f) in
    let more : HasNoMoreOffset rewritten o = offset_again d t o f (λ p. is.0 (part.Offset p)) in
    let known : has_offset f ≡ has_offset rewritten = same_kind kind.Offset f rewritten same in (
      moment_is d t o (parts f) more,
      subst (λ (b : Bool). HasShift (zone_if b rewritten) o) known
          (zone_again f rewritten o (has_offset f) same (offset_agrees d t o (parts f) more) is.1),
      is.2,
      digits_again f.subsecond f.unix_nanosecond f.unix_microsecond f.unix_millisecond _ _ _ t.nanosecond whole is.3,
    )

-- The moment that was given.

these_known : (d : Date) (t : Time) (o : UtcOffset) (x : Option Date) (y : Option Time) (z : Option UtcOffset)
    → AreThese d t o x y z → BothKnown of_date.IsSame (Some d) x × BothKnown of_time.IsSame (Some t) y
    × BothKnown of_offset.IsSame (Some o) z
these_known d t o (Some e) (Some v) (Some p) h = h
these_known d t o x y z h = absurd h

abbrev all_known : Date → Time → UtcOffset → Moment
all_known d t o = record { date = Some d; time = Some t; offset = Some o }

same_known : (d : Date) (t : Time) (o : UtcOffset) (r : Result Moment ValueError) → AnswersMoment d t o r
    → AnswersSame (all_known d t o) r
same_known d t o (Ok n) h = these_known d t o n.date n.time n.offset h
same_known d t o (Err e) h = absurd h

-- a moment that was read has all three parts
record Stands (f : Fields) (u : UnixTime) (m : Moment) (d : Date) (t : Time) (o : UtcOffset) : Type 0 where
  agrees : MomentAgrees f d t o
  at : IsAt f u d t o
  all : m ≡ all_known d t o

stands : (f : Fields) (u : UnixTime) (m : Moment) (d : Date) (t : Time) (o : UtcOffset) → IsMomentBy (Some u) f (Ok m)
    → IsOf m d t o → Stands f u m d t o
stands f u m d t o (s, is, known) of =
    let same : IsOf (all_known s.date s.time s.offset) d t o = subst (λ (x : Moment). IsOf x d t o) known of in
    let here : Stands f u m s.date s.time s.offset = record { agrees = is.0; at = is.1; all = known } in
    subst (λ (x : UtcOffset). Stands f u m d t x) same.2
    (subst (λ (x : Time). Stands f u m d x s.offset) same.1
    (subst (λ (x : Date). Stands f u m x s.time s.offset) same.0 here))

module _ (m : Moment) (d : Date) (t : Time) (o : UtcOffset) (tree : Tree) (f : Fields) (again : Text)
    (h : IsWrittenAgain m d t o tree f again) (u : UnixTime) (stamp : instant_read f ≡ Some u) where
  abbrev pub rewritten : Fields
  rewritten = fields_shown d t o (shows tree)

  same : parts f ≡ parts rewritten
  same = same_shown d t o f (shows tree) h.same_parts

  was : Stands f u m d t o
  was = stands f u m d t o (subst (λ (x : Option UnixTime). IsMomentBy x f (Ok m)) stamp h.moment) h.is_of

  read_rewritten : IsRead rewritten d t o
  read_rewritten =
      let whole = whole_read tree h.text f h.read in
      subst (λ (s : Shows). parts f ≡ parts (fields_shown d t o s) → IsRead (fields_shown d t o s) d t o) h.same_parts
      (shown_again f d t o whole (is_read f u d t o whole stamp was.agrees was.at)) same

  stamped_by : (r : Result Moment ValueError) (x : Option UnixTime) → instant_read rewritten ≡ x → is_some x ≡ true
      → IsMomentOf rewritten r → AnswersSame m r
  stamped_by r (Some v) e some is =
      subst (λ (n : Moment). AnswersSame n r) (sym was.all)
      (same_known d t o r (stamped_moment_back rewritten v d t o r e read_rewritten is))
  stamped_by r None e some is = absurd (clash true (sym some) refl)

  pub stamped_again : (r : Result Moment ValueError) → IsMomentOf rewritten r → AnswersSame m r
  stamped_again r is =
      stamped_by r (instant_read rewritten) refl (sym (same_stamp f rewritten same) ∙ ap is_some stamp) is
