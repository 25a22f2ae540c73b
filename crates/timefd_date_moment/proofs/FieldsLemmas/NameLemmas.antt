-- Names byte by byte, and lists of them name by name.
use Rattle.std.proofs.Common.{ℕ, ◌≡◌, ◌∙◌, ◌<◌, ◌≤◌, ◌+◌, ◌&&◌, Bool, true, false, if◌then◌else◌, List, [], ◌∷◌, Option, Some, ap, sym, drop, get_or, length, arith, add-one}
use Rattle.std.proofs.Math.Seq.{drop-cons}
use Rattle.timefd_date_moment.specs.Fields.Names.{begins, name_from, same_byte}
use Rattle.timefd_lang_component.specs.Tree.{Text}

byte_at : (xs : Text) (i : ℕ) → i < length xs → drop i xs ≡ get_or xs i 0 ∷ drop (i + 1) xs
byte_at xs i h = rw add-one (drop-cons xs i 0 h)

-- Both texts are cut at the same position.
step : (cs : Bool) (name text : Text) (at : ℕ) → at < length name → at < length text
    → begins cs (drop at name) (drop at text)
    ≡ (same_byte cs (get_or name at 0) (get_or text at 0)
    && begins cs (drop (at + 1) name) (drop (at + 1) text))
step cs name text at n t =
    ap (λ x. begins cs x (drop at text)) (byte_at name at n)
    ∙ ap (λ x. begins cs (get_or name at 0 ∷ drop (at + 1) name) x) (byte_at text at t)

pub same_next : (cs : Bool) (name text : Text) (at : ℕ) (whole : Bool) → at < length name
    → length name ≤ length text → true ≡ same_byte cs (get_or name at 0) (get_or text at 0)
    → begins cs (drop at name) (drop at text) ≡ whole
    → begins cs (drop (at + 1) name) (drop (at + 1) text) ≡ whole
same_next cs name text at whole n t same so_far =
    ap (λ b. b && begins cs (drop (at + 1) name) (drop (at + 1) text)) same
    ∙ sym (step cs name text at n (omega arith)) ∙ so_far

pub other_byte : (cs : Bool) (name text : Text) (at : ℕ) (whole : Bool) → at < length name
    → length name ≤ length text → false ≡ same_byte cs (get_or name at 0) (get_or text at 0)
    → begins cs (drop at name) (drop at text) ≡ whole → false ≡ whole
other_byte cs name text at whole n t other so_far =
    ap (λ b. b && begins cs (drop (at + 1) name) (drop (at + 1) text)) other
    ∙ sym (step cs name text at n (omega arith)) ∙ so_far

-- A text that is shorter than a name doesn't begin with it.
pub too_short : (cs : Bool) (name text : Text) → length text < length name
    → false ≡ begins cs name text
too_short cs [] text h = absurd (omega arith)
too_short cs (a ∷ name) [] h = λ i. false
too_short cs (a ∷ name) (b ∷ text) h = by (same_byte cs a b) (too_short cs name text (omega arith))
  where
    by : (t : Bool) → false ≡ begins cs name text → false ≡ (t && begins cs name text)
    by true e = e
    by false e = λ i. false

-- One name more.
pub name_next : (cs : Bool) (position : ℕ) (name : Text) (names : List Text) (text : Text)
    (whole : Option (ℕ × ℕ)) → false ≡ begins cs name text
    → name_from position cs (name ∷ names) text ≡ whole → name_from (position + 1) cs names text ≡ whole
name_next cs position name names text whole other so_far =
    ap (λ b. if b then Some (position, length name) else name_from (position + 1) cs names text) other
    ∙ so_far

pub name_found : (cs : Bool) (position : ℕ) (name : Text) (names : List Text) (text : Text)
    (whole : Option (ℕ × ℕ)) → true ≡ begins cs name text
    → name_from position cs (name ∷ names) text ≡ whole → Some (position, length name) ≡ whole
name_found cs position name names text whole found so_far =
    ap (λ b. if b then Some (position, length name) else name_from (position + 1) cs names text) found
    ∙ so_far
