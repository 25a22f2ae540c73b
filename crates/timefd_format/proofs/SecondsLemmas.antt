-- What follows an `@`.
use Rattle.std.proofs.Common.{ℕ, ◌≡◌, ◌≢◌, ◌⊎◌, inl, inr, [], ◌∷◌, Option, Some, None, Bool, true, false, nat_eq, if◌then◌else◌, refl, sym, ap, MatchOption, drop, length, ◌+◌, arith}
use Rattle.std.specs.Str.Pattern.{FindsCharPrefix}
use Rattle.std.proofs.lemmas.Bool.Decides.{eqb_tells}
use Rattle.std.proofs.lemmas.Str.Pattern.{strip_prefix_char}
use denote.Ref.{Bor}
use Rattle.timefd_format.specs.Seconds.{after_at, text_of}
use Rattle.timefd_lang_component.specs.Tree.{Text}

other : (byte : ℕ) (rest : Text) → byte ≢ 64
    → ((nat_eq byte 64 ≡ true) × (byte ≡ 64)) ⊎ ((nat_eq byte 64 ≡ false) × (byte ≢ 64))
    → None ≡ after_at (byte ∷ rest)
other byte rest not_at (inl is) = absurd (not_at is.1)
other byte rest not_at (inr is) = sym (ap (λ t. if t then Some rest else None) is.0)

is_after : (word : Text) (r : Option (Bor Text))
    → MatchOption r ((rest : Text) → word ≢ 64 ∷ rest) (λ x. word ≡ 64 ∷ x.now)
    → text_of r ≡ after_at word
is_after [] None none = refl
is_after (byte ∷ rest) None none =
    other byte rest (λ is. none rest (ap (λ b. b ∷ rest) is)) (eqb_tells byte 64)
is_after word (Some x) is = sym (ap after_at is)

pub after : (word : Text) (r : Option (Bor Text))
    → MatchOption r (FindsCharPrefix 64 word None) (λ x. (n : ℕ) × FindsCharPrefix 64 word (Some n)
    × (x.now ≡ drop n word) × (length x.now + n ≡ length word)) → text_of r ≡ after_at word
after word r found = is_after word r (strip_prefix_char 64 word r found (omega arith))
