-- The values of a timestamp are those of its moment.
use Rattle.std.proofs.Common.{◌≡◌, ◌∙◌, Option, Some, Ok, refl, sym, subst}
use Rattle.timefd_date_moment.specs.declared.fields.fields.Fields.{Fields}
use Rattle.timefd_date_moment.specs.declared.unix_time.UnixTime.{UnixTime}
use Rattle.timefd_date_moment.specs.Moments.{unix_time}
use Rattle.timefd_date_moment.specs.declared.reading.stamped.Stamped.{Stamped}
use Rattle.timefd_date_moment.specs.Reading.Stamped.{IsStamped}
use Rattle.timefd_date_moment.specs.Reading.Stamps.{instant_read}
use Rattle.timefd_date_moment.specs.Reading.Values.{IsDateBy, IsDateOf, IsInstantBy, IsInstantOf, IsMomentBy, IsMomentOf, IsTimeBy, IsTimeOf}

pub stamped_date : (f : Fields) (o : Option UnixTime) (u : UnixTime) (s : Stamped) → o ≡ instant_read f
    → o ≡ Some u → IsStamped f u (Ok s) → IsDateOf f (Ok s.date)
stamped_date f o u s e is h =
    subst (λ (x : Option UnixTime). IsDateBy x f (Ok s.date)) (sym is ∙ e) (s, h, refl)

pub stamped_time : (f : Fields) (o : Option UnixTime) (u : UnixTime) (s : Stamped) → o ≡ instant_read f
    → o ≡ Some u → IsStamped f u (Ok s) → IsTimeOf f (Ok s.time)
stamped_time f o u s e is h =
    subst (λ (x : Option UnixTime). IsTimeBy x f (Ok s.time)) (sym is ∙ e) (s, h, refl)

pub stamped_moment : (f : Fields) (o : Option UnixTime) (u : UnixTime) (s : Stamped) → o ≡ instant_read f
    → o ≡ Some u → IsStamped f u (Ok s)
    → IsMomentOf f (Ok (record { date = Some s.date; time = Some s.time; offset = Some s.offset }))
stamped_moment f o u s e is h =
    subst (λ (x : Option UnixTime). IsMomentBy x f (Ok (record {
      date = Some s.date;
      time = Some s.time;
      offset = Some s.offset;
    }))) (sym is ∙ e) (s, h, refl)

pub stamped_instant : (f : Fields) (o : Option UnixTime) (u v : UnixTime) (s : Stamped)
    → o ≡ instant_read f → o ≡ Some u → IsStamped f u (Ok s) → v ≡ unix_time s.date s.time s.offset
    → IsInstantOf f (Ok v)
stamped_instant f o u v s e is h same =
    subst (λ (x : Option UnixTime). IsInstantBy x f (Ok v)) (sym is ∙ e) (s, h, same)
