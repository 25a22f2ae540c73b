-- Lemmas about levels.
use Rattle.std.proofs.Common.{ℕ, ◌≡◌, ◌≤◌, ◌+◌, ◌-◌, Bool, true, false, List, [], ◌∷◌, length, take, drop, min, slice_index_or, ap, refl, sym, ◌∙◌, arith}
use Rattle.std.proofs.Math.Seq.{take-length}
use Rattle.timefd_lang_component.specs.Tree.{Tree}
use Rattle.timefd_lang_warnings.specs.declared.levels.Level.{Level}
use Rattle.timefd_lang_warnings.specs.declared.levels.Levels.{Levels}
use Rattle.timefd_lang_warnings.specs.declared.warning.Warning.{Warning}
use Rattle.timefd_lang_warnings.specs.declared.warning.Warning.TheVariants.{NoComponent, OtherLanguage, MonthForMinute, MinuteForMonth, HourWithoutPeriod, PeriodWithHour24, SubsecondWithoutSecond, WeekWithCalendarYear, DateWithIsoYear, ShownTwice, UndeterminedDate, UnsettledWidth, UnsettledYear, DeprecatedComponent}
use Rattle.timefd_lang_warnings.specs.Codes.{all}
use Rattle.timefd_lang_warnings.specs.Levels.{FoundAsDefined, LevelIsSet, one_if, is_same, level_of, count, count_among}

pub found_as_defined : FoundAsDefined
found_as_defined levels style ts NoComponent = refl
found_as_defined levels style ts OtherLanguage = refl
found_as_defined levels style ts MonthForMinute = refl
found_as_defined levels style ts MinuteForMonth = refl
found_as_defined levels style ts HourWithoutPeriod = refl
found_as_defined levels style ts PeriodWithHour24 = refl
found_as_defined levels style ts SubsecondWithoutSecond = refl
found_as_defined levels style ts WeekWithCalendarYear = refl
found_as_defined levels style ts DateWithIsoYear = refl
found_as_defined levels style ts ShownTwice = refl
found_as_defined levels style ts UndeterminedDate = refl
found_as_defined levels style ts UnsettledWidth = refl
found_as_defined levels style ts UnsettledYear = refl
found_as_defined levels style ts DeprecatedComponent = refl

pub level_is_set : LevelIsSet
level_is_set levels NoComponent level = refl
level_is_set levels OtherLanguage level = refl
level_is_set levels MonthForMinute level = refl
level_is_set levels MinuteForMonth level = refl
level_is_set levels HourWithoutPeriod level = refl
level_is_set levels PeriodWithHour24 level = refl
level_is_set levels SubsecondWithoutSecond level = refl
level_is_set levels WeekWithCalendarYear level = refl
level_is_set levels DateWithIsoYear level = refl
level_is_set levels ShownTwice level = refl
level_is_set levels UndeterminedDate level = refl
level_is_set levels UnsettledWidth level = refl
level_is_set levels UnsettledYear level = refl
level_is_set levels DeprecatedComponent level = refl

one_at_most : (b : Bool) → one_if b ≤ 1
one_at_most true = omega arith
one_at_most false = omega arith

-- No more warnings are counted than there are.
pub count_within : (level : Level) (levels : Levels) (ws : List Warning)
    → count_among level levels ws ≤ length ws
count_within level levels [] = omega arith
count_within level levels (w ∷ ws) =
    omega (arith, one_at_most (is_same level (level_of levels w)), count_within level levels ws)

pub split_first : (left : List Warning) (n : ℕ) (d : Warning) → n ≡ length left → 1 ≤ length left
    → left ≡ slice_index_or left 0 d ∷ take (n - 1) (drop 1 left)
split_first [] n d same some = absurd (omega (arith, some))
split_first (w ∷ left) n d same some =
    let few : n - 1 ≡ length left = omega (arith, same) in
    sym (ap (λ k. w ∷ take k left) few ∙ ap (λ r. w ∷ r) (take-length left))

-- One more warning is counted.
pub one_more : (level : Level) (levels : Levels) (left rest : List Warning) (w : Warning)
    (so_far more : ℕ) → left ≡ w ∷ rest → is_same level (level_of levels w) ≡ true
    → so_far + count_among level levels left ≡ count level levels
    → more ≡ min (so_far + 1) 18446744073709551615
    → more + count_among level levels rest ≡ count level levels
one_more level levels left rest w so_far more split is sum more_is =
    let few : count level levels ≤ 14 = count_within level levels all in
    let one : one_if (is_same level (level_of levels w)) ≡ 1 = ap one_if is in
    let here : count_among level levels left
    ≡ one_if (is_same level (level_of levels w)) + count_among level levels rest =
    ap (count_among level levels) split in
    omega (arith, few, one, here, sum, more_is)
