use Rattle.std.proofs.Common.{refl, arith}
use Rattle.timefd_lang_fault.specs.declared.name.ComponentName.{ComponentName}
use Rattle.timefd_language.proofs.Named.{unnamed, second_named, unlisted}
use Rattle.timefd_language.specs.Bytes.{is_version_three}
use Rattle.timefd_language.proofs.name.component_name_of.Goals as goal

pub returns-in-11-2 : goal.returns-in-11-2
returns-in-11-2 c = second_named _ _ 11 ComponentName.OffsetHour ComponentName.WeekNumber refl
    c.in-11.is c.if-names-13.ensures c.if-names-14.ensures

pub returns-in-13-2 : goal.returns-in-13-2
returns-in-13-2 c = second_named _ _ 13 ComponentName.OffsetMinute ComponentName.OffsetSecond refl
    c.in-13.is c.if-names-15.ensures c.if-names-16.ensures

pub returns-in_default : goal.returns-in_default
returns-in_default c = unnamed _ _ 3 c.in-3.is (c.if-names.ensures, (c.if-names-2.ensures, tt))

pub returns-in_default-2 : goal.returns-in_default-2
returns-in_default-2 c = unnamed _ _ 4 c.in-4.is (c.if-names-3.ensures, (c.if-names-4.ensures, tt))

pub returns-in_default-3 : goal.returns-in_default-3
returns-in_default-3 c = unnamed _ _ 5 c.in-5.is (c.if-names-5.ensures, tt)

pub returns-in_default-4 : goal.returns-in_default-4
returns-in_default-4 c =
    unnamed _ _ 6 c.in-6.is (
      c.if-names-6.ensures,
      (c.if-names-7.ensures, (c.if-names-8.ensures, (c.if-names-9.ensures, tt))),
    )

pub returns-in_default-5 : goal.returns-in_default-5
returns-in_default-5 c = unnamed _ _ 7 c.in-7.is (c.if-names-10.ensures, (c.if-names-11.ensures, tt))

pub returns-in_default-6 : goal.returns-in_default-6
returns-in_default-6 c = unnamed _ _ 9 c.in-9.is (c.if-names-12.ensures, tt)

pub returns-in_default-7 : goal.returns-in_default-7
returns-in_default-7 c = unnamed _ _ 11 c.in-11.is (
  c.if-names-13.ensures,
  (c.if-names-14.ensures, tt),
)

pub returns-in_default-8 : goal.returns-in_default-8
returns-in_default-8 c = unnamed _ _ 13 c.in-13.is (
  c.if-names-15.ensures,
  (c.if-names-16.ensures, tt),
)

pub returns-in_default-9 : goal.returns-in_default-9
returns-in_default-9 c = unnamed _ _ 14 c.in-14.is (c.if-names-17.ensures, tt)

-- another length
pub returns-in_default-10 : goal.returns-in_default-10
returns-in_default-10 c =
    unlisted (is_version_three c.args.version) c.args.word.now
    (λ e. omega arith)
    (λ e. omega arith)
    (λ e. omega arith)
    (λ e. omega arith)
    (λ e. omega arith)
    (λ e. omega arith)
    (λ e. omega arith)
    (λ e. omega arith)
    (λ e. omega arith)
