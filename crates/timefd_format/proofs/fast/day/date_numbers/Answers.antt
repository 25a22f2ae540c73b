use Rattle.std.proofs.Common.{refl, sym}
use Rattle.timefd_lang_component.specs.Tree.{literal}
use Rattle.timefd_format.specs.Days.{padded_day, padded_month, padded_year}
use Rattle.timefd_format.proofs.DayLemmas.{five_leaves}
use Rattle.timefd_format.proofs.fast.day.date_numbers.Goals as goal

pub returns-then-is_year : goal.returns-then-is_year
returns-then-is_year c =
    five_leaves c.args.leaves.now c.index-leaves-0.result c.index-leaves-1.result c.index-leaves-2.result
    c.index-leaves-3.result c.index-leaves-4.result padded_day (literal c.in_ok-between.between.now)
    padded_month (literal c.in_ok-after.after.now) padded_year c.args.text.now c.day_first.result
    c.if-leaves-ne5.false c.index-leaves-0.is c.index-leaves-1.is c.index-leaves-2.is c.index-leaves-3.is
    c.index-leaves-4.is (sym (c.if-is_day.ensures refl)) c.in_ok-between.ensures (sym (c.if-is_month.ensures refl))
    c.in_ok-after.ensures (sym (c.if-is_year.ensures refl)) c.day_first.ensures

pub returns-then-is_day-2 : goal.returns-then-is_day-2
returns-then-is_day-2 c =
    five_leaves c.args.leaves.now c.index-leaves-0-2.result c.index-leaves-1.result c.index-leaves-2-then-is_year-2.result
    c.index-leaves-3.result c.index-leaves-4-then-is_month-2.result padded_year (literal c.in_ok-between.between.now)
    padded_month (literal c.in_ok-after.after.now) padded_day c.args.text.now c.year_first.result
    c.if-leaves-ne5.false c.index-leaves-0-2.is c.index-leaves-1.is c.index-leaves-2-then-is_year-2.is c.index-leaves-3.is
    c.index-leaves-4-then-is_month-2.is (sym (c.if-is_year-2.ensures refl)) c.in_ok-between.ensures (sym (c.if-is_month-2.ensures refl))
    c.in_ok-after.ensures (sym (c.if-is_day-2.ensures refl)) c.year_first.ensures

pub returns-then-is_year-3 : goal.returns-then-is_year-3
returns-then-is_year-3 c =
    five_leaves c.args.leaves.now c.index-leaves-0-3.result c.index-leaves-1.result c.index-leaves-2-then-is_month-3.result
    c.index-leaves-3.result c.index-leaves-4-then-is_day-3.result padded_month (literal c.in_ok-between.between.now)
    padded_day (literal c.in_ok-after.after.now) padded_year c.args.text.now c.month_first.result
    c.if-leaves-ne5.false c.index-leaves-0-3.is c.index-leaves-1.is c.index-leaves-2-then-is_month-3.is c.index-leaves-3.is
    c.index-leaves-4-then-is_day-3.is (sym (c.if-is_month-3.ensures refl)) c.in_ok-between.ensures (sym (c.if-is_day-3.ensures refl))
    c.in_ok-after.ensures (sym (c.if-is_year-3.ensures refl)) c.month_first.ensures
