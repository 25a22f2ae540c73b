-- One more text after those in a buffer.
use Rattle.std.proofs.Common.{ℕ, ◌≡◌, ◌∙◌, ◌+◌, ◌-◌, ◌<◌, ◌≤◌, ◌++◌, ◌⊎◌, inl, inr, length, take, drop, refl, sym, ap, subst, arith, append_assoc, length-append, length-drop}
use Rattle.std.proofs.lemmas.Bool.{cases_lt}
use Rattle.std.proofs.lemmas.List.{get_or_append_left, get_or-append-add, take-append-le}
use Rattle.std.proofs.lemmas.Slice.{drop-append-drop}
use Rattle.std.proofs.lemmas.Str.{IsCharBoundary-end}
use Rattle.std.proofs.Math.Seq.{take-append_seam, take-append-add, take-length}
use Rattle.std.specs.Str.{IsCharBoundary}
use Rattle.timefd_lang_fault.specs.Faults.{Text}
use Rattle.timefd_lang_fault.specs.declared.excerpt.Excerpt.{Excerpt}
use Rattle.timefd_lang_fault.specs.Excerpts.{IsExcerpt}

-- where the first of two texts may be cut, and the second

in_first : (s t : Text) (i : ℕ) → i < length s → IsCharBoundary s i → IsCharBoundary (s ++ t) i
in_first s t i less is = (
  omega (arith, less, length-append s t),
  λ _ high. omega (
    arith,
    is.1 less (omega (arith, high, get_or_append_left s t 0 i less)),
    get_or_append_left s t 0 i less,
  ),
)

of_first : (s t : Text) (i : ℕ) → i < length s → IsCharBoundary (s ++ t) i → IsCharBoundary s i
of_first s t i less is = (
  omega (arith, less),
  λ _ high.
      omega (
        arith,
        is.1 (omega (arith, less, length-append s t))
            (omega (arith, high, get_or_append_left s t 0 i less)),
        get_or_append_left s t 0 i less,
      ),
)

in_second : (s t : Text) (j : ℕ) → IsCharBoundary t j → IsCharBoundary (s ++ t) (length s + j)
in_second s t j is = (
  omega (arith, is.0, length-append s t),
  λ less high.
      omega (
        arith,
        is.1 (omega (arith, less, length-append s t))
            (omega (arith, high, get_or-append-add s t j 0)),
        get_or-append-add s t j 0,
      ),
)

of_second : (s t : Text) (j : ℕ) → IsCharBoundary (s ++ t) (length s + j) → IsCharBoundary t j
of_second s t j is = (
  omega (arith, is.0, length-append s t),
  λ less high.
      omega (
        arith,
        is.1 (omega (arith, less, length-append s t))
            (omega (arith, high, get_or-append-add s t j 0)),
        get_or-append-add s t j 0,
      ),
)

-- if not all is written, nothing after it is
pub kept_short : (whole text before after : Text) (e : Excerpt) → e.written < e.len
    → IsExcerpt whole before after e
    → IsExcerpt (whole ++ text) before after
    (record { len = e.len + length text; written = e.written })
kept_short whole text before after e short is = record {
  len = omega (arith, is.len, length-append whole text);
  front = is.front
      ∙ ap (λ x. x ++ drop e.written before)
      (sym (take-append-le e.written whole text (omega (arith, is.between.0))));
  room = is.room;
  between = in_first whole text e.written (omega (arith, short, is.len)) is.between;
  most = λ i more within at. by i more within at (cases_lt i (length whole));
}
  where
    by : (i : ℕ) → e.written < i → i ≤ length before → IsCharBoundary (whole ++ text) i
        → (i < length whole) ⊎ (length whole ≤ i) → ⊥
    by i more within at (inl less) = is.most i more within (of_first whole text i less at)
    by i more within at (inr past) =
        is.most (length whole) (omega (arith, short, is.len)) (omega (arith, past, within))
        (IsCharBoundary-end whole)

-- all is written
wholly : (whole before after : Text) (e : Excerpt) → e.len ≤ e.written
    → IsExcerpt whole before after e → after ≡ whole ++ drop (length whole) before
wholly whole before after e full is =
    let all : e.written ≡ length whole = omega (arith, full, is.len, is.between.0) in
    is.front ∙ ap (λ n. take n whole ++ drop n before) all
    ∙ ap (λ t. t ++ drop (length whole) before) (take-length whole)

-- so the next text begins right after it
pub more_written : (whole text before after new : Text) (e : Excerpt) (at more : ℕ)
    → e.len ≤ e.written → (e.len ≤ length after → at ≡ e.len)
    → new ≡ take at after ++ (take more text ++ drop (at + more) after)
    → at + more ≤ length after → IsCharBoundary text more
    → ((i : ℕ) → more < i → at + i ≤ length after → ¬ (IsCharBoundary text i))
    → IsExcerpt whole before after e
    → IsExcerpt (whole ++ text) before new
    (record { len = e.len + length text; written = at + more })
more_written whole text before after new e at more full least front room between most is =
    let is_whole : after ≡ whole ++ drop (length whole) before =
    wholly whole before after e full is in
    let within : length whole ≤ length before =
    omega (arith, is.room, full, is.len) in
    let same : length after ≡ length before =
    omega (
      arith,
      ap length is_whole,
      length-append whole (drop (length whole) before),
      length-drop (length whole) before,
      within,
    ) in
    let position : at ≡ length whole = least (omega (arith, is.len, within, same)) ∙ is.len in
    record {
      len = omega (arith, is.len, length-append whole text);
      front = front
          ∙ ap (λ t. take at t ++ (take more text ++ drop (at + more) t)) is_whole
          ∙ ap (λ t. t ++ (take more text ++ drop (at + more)
          (whole ++ drop (length whole) before)))
          (ap (λ n. take n (whole ++ drop (length whole) before)) position
          ∙ take-append_seam whole (drop (length whole) before))
          ∙ ap (λ t. whole ++ (take more text ++ t))
          (drop-append-drop (length whole) before whole (at + more) (omega (arith, position)) refl)
          ∙ sym (append_assoc whole (take more text) (drop (at + more) before))
          ∙ ap (λ t. t ++ drop (at + more) before)
          (sym (take-append-add whole text more)
          ∙ ap (λ n. take (n + more) (whole ++ text)) (sym position));
      room = omega (arith, room, same);
      between = subst (λ n. IsCharBoundary (whole ++ text) (n + more)) (sym position)
          (in_second whole text more between);
      most = λ i longer inside cut.
          let j : ℕ = i - length whole in
          let is_i : i ≡ length whole + j = omega (arith, longer, position) in
          most j (omega (arith, longer, position)) (omega (arith, inside, same, position, longer))
          (of_second whole text j (subst (IsCharBoundary (whole ++ text)) is_i cut));
    }
