-- Quotes that are doubled, byte after byte.
use Rattle.std.proofs.Common.{ℕ, ◌≡◌, ◌++◌, ◌∷◌, ◌<◌, [], List, Option, length, refl, sym, subst, arith}
use Rattle.std.proofs.KnownBytes.{Appends-nil, Appends-trans}
use Rattle.std.specs.Io.KnownBytes.{Appends}
use Rattle.timefd_format.specs.Frames.{doubled, doubled_byte}
use Rattle.timefd_lang_component.specs.Tree.{Text}

-- Writing the rest after what is done gives all.
abbrev pub Completes : Text → Text → Option Text → Option Text → Type 0
Completes text rest before between = (after : Option Text) → Appends between after (doubled rest)
    → Appends before after (doubled text)

pub one_more : (text rest more : Text) (byte : ℕ) (before between next : Option Text)
    → rest ≡ byte ∷ more → Completes text rest before between
    → Appends between next (doubled_byte byte) → Completes text more before next
one_more text rest more byte before between next split so_far sent after left =
    so_far after
    (subst (λ r. Appends between after (doubled r)) (sym split)
    (Appends-trans between next after (doubled_byte byte) (doubled more) sent left))

nothing : (rest : Text) → length rest < 1 → rest ≡ []
nothing [] short = refl
nothing (b ∷ bs) short = absurd (omega (arith, short))

pub none_left : (text rest : Text) (before after : Option Text) → length rest < 1
    → Completes text rest before after → Appends before after (doubled text)
none_left text rest before after short so_far =
    so_far after
    (subst (λ r. Appends after after (doubled r)) (sym (nothing rest short)) (Appends-nil after))

pub in_turn : (before between after : Option Text) (first second : Text) → Appends before between first
    → Appends between after second → Appends before after (first ++ second)
in_turn before between after first second sent more =
    Appends-trans before between after first second sent more
