-- Texts whose length is found first.
use Rattle.std.proofs.Common.{ℕ, ◌≡◌, ◌∙◌, ◌-◌, ◌^◌, ◌<◌, ◌≤◌, ◌++◌, length, take, drop, Result, Ok, Err, refl, ap, arith, length-take}
use Rattle.timefd_lang_component.specs.Tree.{Text}
use Rattle.timefd_date_format.specs.declared.field.Unshown.{Unshown}
use Rattle.timefd_date_format.specs.declared.write.FormatError.{FormatError}
use Rattle.timefd_date_format.specs.declared.write.FormatError.TheVariants as fails
use Rattle.timefd_date_format.specs.Fronts.{IsFront, IsLen}
use Rattle.timefd_date_format.specs.Outcomes.{IsOutcome}

pub none_shown : (x : Result Text Unshown) (old : Text) (u : Unshown) → IsLen x (Err u)
    → IsFront x old old (Err (fails.Unshown u))
none_shown (Ok text) old u is = absurd is
none_shown (Err v) old u is = (is, refl)

pub too_short : (x : Result Text Unshown) (old : Text) (len : ℕ) → IsLen x (Ok len) → length old < len
    → IsFront x old old (Err fails.Room)
too_short (Ok text) old len is short = (omega (arith, is, short), refl)
too_short (Err u) old len is short = absurd is

-- A text that was written in a buffer of exactly its length.
pub exact : (x : Result Text Unshown) (old new : Text) (len : ℕ) (r : Result ℕ FormatError) → IsLen x (Ok len)
    → len ≤ length old → length old < 2 ^ 64 - 1 → IsOutcome x (take len old) new r
    → IsFront x old (new ++ drop len old) (Ok len)
exact (Ok text) old new len (Ok at) is fits small o =
    let same : len ≡ length text = omega (arith, is, fits, small) in
    let none : at ≡ 0 = omega (arith, same, fits, o.0, length-take len old) in
    (same, (λ i. (o.1 ∙ ap (λ n. take n (take len old) ++ text) none) i ++ drop (same i) old))
exact (Ok text) old new len (Err fails.Room) is fits small o =
    absurd (omega (arith, is, fits, small, o, length-take len old))
exact (Ok text) old new len (Err (fails.Unshown u)) is fits small o = absurd o
exact (Err u) old new len r is fits small o = absurd is
