-- What is written for a text is at most twice as long as the text.
use Rattle.std.proofs.Common.{ℕ, ◌≤◌, ◌+◌, ◌*◌, ◌==◌, cond, Bool, true, false, [], ◌∷◌, length, arith}
use Rattle.timefd_lang_component.specs.Tree.{Text}
use Rattle.timefd_language.specs.Bytes.{left, right, backslash, is_special}
use Rattle.timefd_lift.specs.Bytewise.{outside, after_left, inside}

either : (test : Bool) (x y : Text) (n : ℕ) → length x ≤ n → length y ≤ n
    → length (cond test x y) ≤ n
either true x y n left_fits right_fits = left_fits
either false x y n left_fits right_fits = right_fits

mutual
  pub outside-length : (text : Text) → length (outside text) ≤ 2 * length text
  outside-length [] = omega arith
  outside-length (b ∷ bytes) =
      let more = outside-length bytes in
      let begun = after_left-length bytes in
      either (b == left) (after_left bytes)
      (cond (is_special b) (backslash ∷ b ∷ outside bytes) (b ∷ outside bytes)) _
      (omega (arith, begun))
      (either (is_special b) (backslash ∷ b ∷ outside bytes) (b ∷ outside bytes) _
      (omega (arith, more)) (omega (arith, more)))

  after_left-length : (text : Text) → length (after_left text) ≤ 2 * length text + 2
  after_left-length [] = omega arith
  after_left-length (b ∷ bytes) =
      let more = outside-length bytes in
      let kept = inside-length bytes in
      let rest = either (b == right) (outside bytes) (inside bytes) _ more kept in
      either (b == left) (backslash ∷ left ∷ outside bytes)
      (left ∷ b ∷ cond (b == right) (outside bytes) (inside bytes)) _ (omega (arith, more))
      (omega (arith, rest))

  inside-length : (text : Text) → length (inside text) ≤ 2 * length text
  inside-length [] = omega arith
  inside-length (b ∷ bytes) =
      let rest = either (b == right) (outside bytes) (inside bytes) _ (outside-length bytes)
      (inside-length bytes) in
      omega (arith, rest)
