-- The lengths of texts.
use Rattle.std.proofs.Common.{ℕ, ◌≡◌, ◌+◌, ◌-◌, ◌≤◌, length, Result, Ok, Err, IfOk, refl, subst, arith, length-append}
use Rattle.timefd_lang_component.specs.declared.component.Component.{Component}
use Rattle.timefd_lang_component.specs.declared.component.Component.TheVariants.{Subsecond}
use Rattle.timefd_lang_component.specs.Modern.{modern}
use Rattle.timefd_lang_component.specs.Reserved.{reserved}
use Rattle.timefd_lang_component.specs.Tree.{Text, component}
use Rattle.timefd_lang_component.proofs.ModernLemmas.{modern_again}
use Rattle.timefd_modifier.specs.declared.enums.SubsecondDigits.{SubsecondDigits}
use Rattle.timefd_date_moment.specs.declared.moment.Moment.{Moment}
use Rattle.timefd_lang_node_list.specs.Nodes.{kept_bytes}
use Rattle.timefd_date_format.specs.declared.field.Unshown.{Unshown}
use Rattle.timefd_date_format.specs.declared.write.FormatError.TheVariants as fails
use Rattle.timefd_date_format.specs.Fields.{field}
use Rattle.timefd_date_format.specs.Outcomes.{IsOutcome}
use Rattle.timefd_date_format.specs.Written.{followed, shown, text_of}
use Rattle.timefd_date_format.proofs.RoomLemmas.{fits}
use Rattle.timefd_date_format.specs.Fronts.{IsLen}

pub both_counted : (x y : Result Text Unshown) (a b c : ℕ) → c ≡ kept_bytes (a + b) → IsLen x (Ok a)
    → IsLen y (Ok b) → IsLen (followed x y) (Ok c)
both_counted (Ok s) (Ok t) a b c is one two = omega (arith, is, one, two, length-append s t)
both_counted (Ok s) (Err u) a b c is one two = absurd two
both_counted (Err u) y a b c is one two = absurd one

pub after_unshown : (x y : Result Text Unshown) (a : ℕ) (u : Unshown) → IsLen x (Ok a) → IsLen y (Err u)
    → IsLen (followed x y) (Err u)
after_unshown (Ok s) (Ok t) a u one two = absurd two
after_unshown (Ok s) (Err v) a u one two = two
after_unshown (Err v) y a u one two = absurd one

pub first_unshown : (x y : Result Text Unshown) (u : Unshown) → IsLen x (Err u) → IsLen (followed x y) (Err u)
first_unshown (Ok s) y u one = absurd one
first_unshown (Err v) y u one = one

digits_short : (d : SubsecondDigits) → reserved (Subsecond (record { digits = d })) ≤ 32
digits_short SubsecondDigits.One = omega arith
digits_short SubsecondDigits.Two = omega arith
digits_short SubsecondDigits.Three = omega arith
digits_short SubsecondDigits.Four = omega arith
digits_short SubsecondDigits.Five = omega arith
digits_short SubsecondDigits.Six = omega arith
digits_short SubsecondDigits.Seven = omega arith
digits_short SubsecondDigits.Eight = omega arith
digits_short SubsecondDigits.Nine = omega arith
digits_short SubsecondDigits.OneOrMore = omega arith

short : (c : Component) → reserved c ≤ 32
short (Subsecond s) = digits_short s.digits
short c = omega arith

-- No component shows more than 32 bytes.
shown_short : (m : Moment) (c : Component) → IfOk (shown m c) (λ text. length text ≤ 32)
shown_short m c =
    let again : modern (modern c) ≡ modern c = modern_again c (modern c) refl in
    by (shown m c)
    (subst (λ d. IfOk (text_of d (field m d)) (λ text. length text ≤ reserved (modern c))) again
    (fits m (component (modern c)) again))
  where
    by : (x : Result Text Unshown) → IfOk x (λ text. length text ≤ reserved (modern c))
        → IfOk x (λ text. length text ≤ 32)
    by (Ok text) h = omega (arith, h, short (modern c))
    by (Err u) h = tt

-- The length of a component that was written at the end of 32 bytes.
pub counted_alone : (m : Moment) (c : Component) (old new : Text) (at : ℕ) → length old ≡ 32
    → IsOutcome (shown m c) old new (Ok at) → IsLen (shown m c) (Ok (32 - at))
counted_alone m c old new at size o = by (shown m c) o
  where
    by : (x : Result Text Unshown) → IsOutcome x old new (Ok at) → IsLen x (Ok (32 - at))
    by (Ok text) o = omega (arith, size, o.0)
    by (Err u) o = absurd o

pub unshown_alone : (m : Moment) (c : Component) (old new : Text) (u : Unshown)
    → IsOutcome (shown m c) old new (Err (fails.Unshown u)) → IsLen (shown m c) (Err u)
unshown_alone m c old new u o = by (shown m c) o
  where
    by : (x : Result Text Unshown) → IsOutcome x old new (Err (fails.Unshown u)) → IsLen x (Err u)
    by (Ok text) o = absurd o
    by (Err v) o = o

pub room_alone : (m : Moment) (c : Component) (old new : Text) → length old ≡ 32
    → IsOutcome (shown m c) old new (Err fails.Room) → ⊥
room_alone m c old new size o = by (shown m c) (shown_short m c) o
  where
    by : (x : Result Text Unshown) → IfOk x (λ text. length text ≤ 32) → IsOutcome x old new (Err fails.Room) → ⊥
    by (Ok text) h o = omega (arith, size, h, o)
    by (Err u) h o = o
