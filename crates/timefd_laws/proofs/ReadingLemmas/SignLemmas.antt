-- Numbers with a sign are read back.
use Rattle.std.proofs.Common.{ℕ, ◌≡◌, ◌∙◌, ◌≤◌, ◌<◌, ◌+◌, ◌-◌, ◌^◌, ◌++◌, inl, inr, Bool, true, false}
use Rattle.std.proofs.Common.{◌∷◌, length, Some, refl, ap, arith}
use Rattle.timefd_lang_component.specs.Texts.{filled}
use Rattle.timefd_lang_component.specs.Tree.{Text}
use Rattle.timefd_date_format.specs.Fields.{sign_of, sign_text}
use Rattle.timefd_modifier.specs.declared.enums.Padding.{Padding}
use Rattle.timefd_date_moment.specs.Fields.Numbers.{after, padded, signed, signed_by, within}
use Rattle.timefd_date_moment.specs.Fields.Numbers as numbers
use Rattle.timefd_date_moment.proofs.FieldsLemmas.BackLemmas.{in_range, wide}
use Rattle.timefd_date_moment.proofs.ReadingLemmas.ShownLemmas.{clash}
use Rattle.timefd_laws.specs.Reading.Shown.{with_sign}
use Rattle.timefd_date_moment.proofs.FieldsLemmas.EndedLemmas.{no_sign_filled}
use Rattle.timefd_laws.proofs.ReadingLemmas.NumberLemmas.{IsEnded, filled_back}

-- the bounds of a form: its width, the most digits without a sign and with one, the greatest number
pub record Has (w m s g n : ℕ) : Type 0 where
  pub some : 1 ≤ w
  pub low : w ≤ m
  pub most : m ≤ s
  pub few : s ≤ 23
  pub high : n ≤ g
  pub small : g < 10 ^ s

-- a number after its sign
after_sign : (p : Padding) (w m s g n : ℕ) (negative : Bool) (rest : Text) → Has w m s g n
    → IsEnded p w s rest
    → numbers.with_sign negative (after 1 (within 0 g (padded p w s (filled p w n ++ rest))))
    ≡ Some (with_sign negative n, 1 + length (filled p w n))
after_sign p w m s g n negative rest h ends =
    ap (λ r. numbers.with_sign negative (after 1 (within 0 g r)))
    (filled_back p w s n rest h.some (omega (arith, h.low, h.most)) h.few (omega (arith, h.high, h.small)) ends)
    ∙ ap (λ r. numbers.with_sign negative (after 1 r))
    (in_range 0 g n (length (filled p w n)) (omega arith) h.high)

-- what bounds a number with a sign also bounds one without
ended_before : (p : Padding) (w m s : ℕ) (rest : Text) → w ≤ m → m ≤ s → IsEnded p w s rest
    → IsEnded p w m rest
ended_before p w m s rest a b (inl ends) = inl (omega (arith, a, b, ends.0), ends.1)
ended_before p w m s rest a b (inr ends) = inr ends

without_sign : (p : Padding) (w m s g n : ℕ) (rest : Text) → Has w m s g n → n < 10 ^ m
    → IsEnded p w s rest
    → signed false (record { padding = p; width = w; most = m; most_signed = s; greatest = g })
    (filled p w n ++ rest) ≡ Some (with_sign false n, length (filled p w n))
without_sign p w m s g n rest h below ends =
    ap (λ x. signed_by x false (record { padding = p; width = w; most = m; most_signed = s; greatest = g })
    (filled p w n ++ rest))
    (no_sign_filled p w n rest (wide m n (omega (arith, h.most, h.few)) below))
    ∙ ap (λ r. numbers.with_sign false (within 0 g r))
    (filled_back p w m n rest h.some h.low (omega (arith, h.most, h.few)) below (ended_before p w m s rest h.low h.most ends))
    ∙ ap (λ r. numbers.with_sign false r) (in_range 0 g n (length (filled p w n)) (omega arith) h.high)

one_more : (b : ℕ) (xs : Text) → 1 + length xs ≡ length (b ∷ xs)
one_more b xs = omega arith

-- A number is read back with its sign. Without a sign it has no more digits than are allowed then.
pub sign_back : (p : Padding) (w m s g n : ℕ) (mandatory negative has_plus : Bool) (rest : Text)
    → Has w m s g n → (has_plus ≡ false → (mandatory ≡ false) × (n < 10 ^ m)) → IsEnded p w s rest
    → signed mandatory (record { padding = p; width = w; most = m; most_signed = s; greatest = g })
    ((sign_text (sign_of negative has_plus) ++ filled p w n) ++ rest)
    ≡ Some (with_sign negative n, length (sign_text (sign_of negative has_plus) ++ filled p w n))
sign_back p w m s g n mandatory true has_plus rest h plain ends =
    after_sign p w m s g n true rest h ends
    ∙ ap (λ (k : ℕ). Some (with_sign true n, k)) (one_more 45 (filled p w n))
sign_back p w m s g n mandatory false true rest h plain ends =
    after_sign p w m s g n false rest h ends
    ∙ ap (λ (k : ℕ). Some (with_sign false n, k)) (one_more 43 (filled p w n))
sign_back p w m s g n true false false rest h plain ends = absurd (clash true (plain refl).0 refl)
sign_back p w m s g n false false false rest h plain ends =
    without_sign p w m s g n rest h (plain refl).1 ends
