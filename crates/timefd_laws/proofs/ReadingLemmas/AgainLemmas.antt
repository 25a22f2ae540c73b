-- A moment that was read from a text and is written again gives the same moment.
use Rattle.std.proofs.Common.{◌≡◌, ◌∙◌, Bool, true, false, Option, Some, None, Result, Ok, Err, IfSome, refl, sym, ap, subst}
use Rattle.std.specs.Prelude.{is_some}
use Rattle.timefd_lang_component.specs.Tree.{Text, Tree}
use Rattle.timefd_date_format.specs.Kinds.{Kind}
use Rattle.timefd_date_format.specs.Kinds as kind
use Rattle.timefd_date_moment.specs.declared.date.Date.{Date}
use Rattle.timefd_date_moment.specs.declared.time.Time.{Time}
use Rattle.timefd_date_moment.specs.declared.offset.UtcOffset.{UtcOffset}
use Rattle.timefd_date_moment.specs.declared.moment.Moment.{Moment}
use Rattle.timefd_date_moment.specs.declared.unix_time.UnixTime.{UnixTime}
use Rattle.timefd_date_moment.specs.declared.fields.fields.Fields.{Fields}
use Rattle.timefd_date_moment.specs.declared.reading.error.ValueError.{ValueError}
use Rattle.timefd_date_moment.specs.Reading.Dates as of_date
use Rattle.timefd_date_moment.specs.Reading.Dates.{IsDateByParts}
use Rattle.timefd_date_moment.specs.Reading.Known.{has_date, has_offset, has_time}
use Rattle.timefd_date_moment.specs.Reading.Offsets as of_offset
use Rattle.timefd_date_moment.specs.Reading.Offsets.{IsOffsetOf, shift_read}
use Rattle.timefd_date_moment.specs.Reading.Shown.{OffsetAgrees, TimeAgrees}
use Rattle.timefd_date_moment.specs.Reading.StampLaws.{AnswersParts, IsKnown}
use Rattle.timefd_date_moment.specs.Reading.Stamps.{instant_read}
use Rattle.timefd_date_moment.specs.Reading.Times as of_time
use Rattle.timefd_date_moment.specs.Reading.Times.{IsTimeByParts, clock_read}
use Rattle.timefd_date_moment.specs.Reading.Values.{IsMomentBy, IsMomentByParts, IsMomentOf, IsPart}
use Rattle.timefd_date_moment.specs.Reading.Ways.{IsDetermined, date_way}
use Rattle.timefd_date_moment.proofs.ReadingLemmas.ShownLemmas.{clash}
use Rattle.timefd_laws.specs.Reading.Again.{AnswersSame, BothKnown, FieldsAgain, IsWrittenAgain, ShowsBack, parts}
use Rattle.timefd_laws.specs.Reading.Shown.{Shows, fields_shown, shows}
use Rattle.timefd_laws.specs.Reading.Values.{HasNoMoreOffset, HasNoMoreTime, IsReadBack}
use Rattle.timefd_laws.proofs.ReadingLemmas.KnownLemmas.{same_date, same_kind, same_offset, same_stamp, same_time}
use Rattle.timefd_laws.proofs.ReadingLemmas.GrowLemmas.{has_kind}
use Rattle.timefd_laws.proofs.ReadingLemmas.ValueBackLemmas.{offset_again, time_again, moment_read_back}
use Rattle.timefd_laws.proofs.ReadingLemmas.PlainLemmas.{whole_read}
use Rattle.timefd_laws.proofs.ReadingLemmas.ShownPartLemmas.{same_shown}
use Rattle.timefd_laws.proofs.ReadingLemmas.StampedAgainLemmas.{stamped_again}
use Rattle.timefd_laws.proofs.ReadingLemmas.StepLemmas.{in_ok}
use Rattle.timefd_laws.proofs.ReadingLemmas.TreeLemmas.{reads_back}

-- A part that was read is known, and is this value.
part_is : {A : Type 0} (P : A → Type 0) (Is : Result A ValueError → Type 0) (b : Bool) (x : Option A) (a : A)
    → ((e : A) → Is (Ok e) → P e) → b ≡ true → IsPart b Is (Ok x) → IfSome x (λ e. e ≡ a) → P a
part_is P Is true (Some e) a f is h same = subst P same (f e h)
part_is P Is true None a f is h same = absurd h
part_is P Is false x a f is h same = absurd (clash true (sym is) refl)

-- both are known and are the same, or neither is known
both_known : {A : Type 0} (b : Bool) (IsSame : A → A → Type 0) (Is : Result A ValueError → Type 0) (x y : Option A)
    (a : A) → IsPart b Is (Ok x) → IfSome x (λ e. e ≡ a) → IsKnown b IsSame a y → BothKnown IsSame x y
both_known false IsSame Is None None a h same k = tt
both_known false IsSame Is None (Some y) a h same k = absurd k
both_known false IsSame Is (Some x) y a h same k = absurd h
both_known true IsSame Is None y a h same k = absurd h
both_known true IsSame Is (Some x) None a h same k = absurd k
both_known {A = A} true IsSame Is (Some x) (Some y) a h same k =
    subst (λ (z : A). IsSame z y) (sym same) k

none_is : (x : Option UnixTime) → is_some x ≡ false → x ≡ None
none_is None e = refl
none_is (Some u) e = absurd (clash true e refl)

-- The fields of the new text.

pub fields_again : FieldsAgain
fields_again m d t o tree f again h = reads_back m d t o tree again h.is_of h.settles h.wrote

module _ (m : Moment) (d : Date) (t : Time) (o : UtcOffset) (tree : Tree) (f : Fields) (again : Text)
    (h : IsWrittenAgain m d t o tree f again) (none : instant_read f ≡ None) where
  abbrev rewritten : Fields
  rewritten = fields_shown d t o (shows tree)

  parts_same : parts f ≡ parts rewritten
  parts_same = same_shown d t o f (shows tree) h.same_parts

  was : IsMomentByParts f (Ok m)
  was = subst (λ (u : Option UnixTime). IsMomentBy u f (Ok m)) none h.moment

  back : IsReadBack d t o tree rewritten
  back = record {
    moment = m;
    text = again;
    is_of = h.is_of;
    settles = h.settles;
    wrote = h.wrote;
    read = fields_again m d t o tree f again h;
  }

  same : (k : Kind) → has_kind k rewritten ≡ has_kind k f
  same k = same_kind k rewritten f (sym parts_same)

  date : has_date rewritten ≡ true → IsDetermined (date_way rewritten)
  date e =
      part_is (λ _. IsDetermined (date_way rewritten)) (IsDateByParts f) (has_date f) m.date d
      (λ x is. same_date f rewritten parts_same is.1) (sym (same kind.Date) ∙ e) was.0 h.is_of.0

  time : has_time rewritten ≡ true → IsDetermined (clock_read rewritten) × HasNoMoreTime rewritten t
  time e =
      let agrees = part_is (λ x. IsDetermined (clock_read rewritten) × TimeAgrees f x) (IsTimeByParts f) (has_time f) m.time t
      (λ x is. (same_time f rewritten parts_same is.1, is.0)) (sym (same kind.Time) ∙ e) was.1 h.is_of.1 in (
        agrees.0,
        subst (λ (s : Shows). HasNoMoreTime (fields_shown d t o s) t) h.same_parts
            (time_again d t o f (whole_read tree h.text f h.read) agrees.1),
      )

  offset : has_offset rewritten ≡ true → IsDetermined (shift_read rewritten) × HasNoMoreOffset rewritten o
  offset e =
      let agrees = part_is (λ x. IsDetermined (shift_read rewritten) × OffsetAgrees f x) (IsOffsetOf f) (has_offset f) m.offset o
      (λ x is. (same_offset f rewritten parts_same is.1, is.0)) (sym (same kind.Offset) ∙ e) was.2 h.is_of.2 in (
        agrees.0,
        subst (λ (s : Shows). HasNoMoreOffset (fields_shown d t o s) o) h.same_parts
            (offset_again d t o f agrees.1),
      )

  same_moment : (r : Result Moment ValueError) → AnswersParts rewritten d t o r → AnswersSame m r
  same_moment (Ok n) k = (
    both_known (has_date f) of_date.IsSame (IsDateByParts f) m.date n.date d was.0 h.is_of.0
        (subst (λ (b : Bool). IsKnown b of_date.IsSame d n.date) (same kind.Date) k.0),
    both_known (has_time f) of_time.IsSame (IsTimeByParts f) m.time n.time t was.1 h.is_of.1
        (subst (λ (b : Bool). IsKnown b of_time.IsSame t n.time) (same kind.Time) k.1),
    both_known (has_offset f) of_offset.IsSame (IsOffsetOf f) m.offset n.offset o was.2 h.is_of.2
        (subst (λ (b : Bool). IsKnown b of_offset.IsSame o n.offset) (same kind.Offset) k.2),
  )
  same_moment (Err e) k = absurd k

  answer : (r : Result Moment ValueError) → IsMomentOf rewritten r → AnswersSame m r
  answer r is =
      let without : instant_read rewritten ≡ None =
      none_is (instant_read rewritten) (sym (same_stamp f rewritten parts_same) ∙ ap is_some none) in
      same_moment r (moment_read_back d t o tree rewritten r back without date time offset is)

-- The moment of the new text, without a timestamp or with one.
pub shows_back : ShowsBack
shows_back m d t o tree f g again r h read is =
    by (instant_read f) refl
    (subst (λ (x : Fields). IsMomentOf x r) (ap (in_ok g) (sym read ∙ fields_again m d t o tree f again h)) is)
  where
    by : (x : Option UnixTime) → instant_read f ≡ x → IsMomentOf (fields_shown d t o (shows tree)) r → AnswersSame m r
    by None none is = answer m d t o tree f again h none r is
    by (Some u) stamp is = stamped_again m d t o tree f again h u stamp r is
