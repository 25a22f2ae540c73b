-- Paths that URIs name, byte after byte.
use Rattle.std.proofs.Common.{◌≡◌, ◌≢◌, ℕ, ◌==◌, Bool, true, false, [], ◌∷◌, ◌++◌, Option, Some, None, length, refl, sym, ap, ◌∙◌, append_assoc, append-nil, arith}
use Rattle.std.specs.Prelude.{if◌then◌else◌, option_map}
use Rattle.timefd_lint_lsp.specs.declared.uri.DecodedByte as got
use Rattle.timefd_lint_lsp.specs.Uris.{Piece, Text, after_front, byte_of, decoded, first_piece, in_front, piece_of, seen}

-- one more byte of the front
pub one_same : (left more rest after : Text) (all : Option Text) (byte first : ℕ) → left ≡ byte ∷ more
    → rest ≡ first ∷ after → (first == byte) ≡ true → after_front left rest ≡ all → after_front more after ≡ all
one_same left more rest after all byte first front text same so_far =
    let here : after_front (byte ∷ more) (first ∷ after) ≡ after_front more after = rw same refl in
    sym here ∙ (ap (λ r. after_front (byte ∷ more) r) (sym text) ∙ (ap (λ f. after_front f rest) (sym front) ∙ so_far))

pub one_differs : (left more rest after : Text) (all : Option Text) (byte first : ℕ) → left ≡ byte ∷ more
    → rest ≡ first ∷ after → (first == byte) ≡ false → after_front left rest ≡ all → None ≡ all
one_differs left more rest after all byte first front text other so_far =
    let here : after_front (byte ∷ more) (first ∷ after) ≡ None = rw other refl in
    sym here ∙ (ap (λ r. after_front (byte ∷ more) r) (sym text) ∙ (ap (λ f. after_front f rest) (sym front) ∙ so_far))

pub text_ends : (left more rest : Text) (all : Option Text) (byte : ℕ) → left ≡ byte ∷ more → rest ≡ []
    → after_front left rest ≡ all → None ≡ all
text_ends left more rest all byte front none so_far =
    ap (λ r. after_front (byte ∷ more) r) (sym none) ∙ (ap (λ f. after_front f rest) (sym front) ∙ so_far)

pub front_ends : (left rest : Text) (all : Option Text) → left ≡ [] → after_front left rest ≡ all → Some rest ≡ all
front_ends left rest all none so_far = ap (λ f. after_front f rest) (sym none) ∙ so_far

-- bytes, and those that a text stands for after them
abbrev pub with_front : Text → Option Text → Option Text
with_front front None = None
with_front front (Some bytes) = Some (front ++ bytes)

same : {one other : Piece} → ◌≡◌ {A = Option Piece} (Some one) (Some other) → one ≡ other
same e = cc

by_byte : (byte : Option ℕ) (rest : Text) (p : Piece) → piece_of byte rest ≡ Some p
    → in_front byte (decoded rest) ≡ in_front (Some p.byte) (decoded p.rest)
by_byte None rest p e = absurd cc
by_byte (Some byte) rest p e = ap (λ (q : Piece). in_front (Some q.byte) (decoded q.rest)) (same e)

no_byte : (byte : Option ℕ) (rest : Text) → piece_of byte rest ≡ None → in_front byte (decoded rest) ≡ None
no_byte None rest e = refl
no_byte (Some byte) rest e = absurd cc

-- the first byte of a text that stands for bytes
step : (text : Text) (p : Piece) → first_piece text ≡ Some p
    → decoded text ≡ in_front (Some p.byte) (decoded p.rest)
step [] p e = absurd cc
step (first ∷ []) p e = on (first == 37) e
  where
    on : (is : Bool) → ◌≡◌ {A = Option Piece} (if is then None else piece_of (Some first) []) (Some p)
        → (if is then None else in_front (Some first) (decoded [])) ≡ in_front (Some p.byte) (decoded p.rest)
    on true e = absurd cc
    on false e = by_byte (Some first) [] p e
step (first ∷ (high ∷ [])) p e = on (first == 37) e
  where
    on : (is : Bool) → ◌≡◌ {A = Option Piece} (if is then None else piece_of (Some first) (high ∷ [])) (Some p)
        → (if is then None else in_front (Some first) (decoded (high ∷ []))) ≡ in_front (Some p.byte) (decoded p.rest)
    on true e = absurd cc
    on false e = by_byte (Some first) (high ∷ []) p e
step (first ∷ (high ∷ (low ∷ rest))) p e = on (first == 37) e
  where
    on : (is : Bool) → ◌≡◌ {A = Option Piece} (if is then piece_of (byte_of high low) rest
        else piece_of (Some first) (high ∷ low ∷ rest)) (Some p)
        → (if is then in_front (byte_of high low) (decoded rest) else in_front (Some first) (decoded (high ∷ (low ∷ rest))))
        ≡ in_front (Some p.byte) (decoded p.rest)
    on true e = by_byte (byte_of high low) rest p e
    on false e = by_byte (Some first) (high ∷ low ∷ rest) p e

-- a text that stands for no bytes
no_step : (text : Text) → length text ≢ 0 → first_piece text ≡ None → decoded text ≡ None
no_step [] some e = absurd (some refl)
no_step (first ∷ []) some e = on (first == 37) e
  where
    on : (is : Bool) → ◌≡◌ {A = Option Piece} (if is then None else piece_of (Some first) []) None
        → ◌≡◌ {A = Option Text} (if is then None else in_front (Some first) (decoded [])) None
    on true e = refl
    on false e = no_byte (Some first) [] e
no_step (first ∷ (high ∷ [])) some e = on (first == 37) e
  where
    on : (is : Bool) → ◌≡◌ {A = Option Piece} (if is then None else piece_of (Some first) (high ∷ [])) None
        → ◌≡◌ {A = Option Text} (if is then None else in_front (Some first) (decoded (high ∷ []))) None
    on true e = refl
    on false e = no_byte (Some first) (high ∷ []) e
no_step (first ∷ (high ∷ (low ∷ rest))) some e = on (first == 37) e
  where
    on : (is : Bool) → ◌≡◌ {A = Option Piece} (if is then piece_of (byte_of high low) rest
        else piece_of (Some first) (high ∷ low ∷ rest)) None
        → ◌≡◌ {A = Option Text} (if is then in_front (byte_of high low) (decoded rest)
        else in_front (Some first) (decoded (high ∷ (low ∷ rest)))) None
    on true e = no_byte (byte_of high low) rest e
    on false e = no_byte (Some first) (high ∷ low ∷ rest) e

one_after : (front : Text) (byte : ℕ) (more : Option Text)
    → with_front front (in_front (Some byte) more) ≡ with_front (front ++ byte ∷ []) more
one_after front byte None = refl
one_after front byte (Some bytes) = ap (λ (t : Text). Some t) (sym (append_assoc front (byte ∷ []) bytes))

-- one more byte
pub one_piece : (old new rest : Text) (all : Option Text) (result : Option got.DecodedByte) (piece : got.DecodedByte)
    → option_map seen result ≡ first_piece rest → result ≡ Some piece → new ≡ old ++ piece.byte ∷ []
    → with_front old (decoded rest) ≡ all → with_front new (decoded piece.rest.now) ≡ all
one_piece old new rest all result piece is got_it pushed so_far =
    let first : first_piece rest ≡ Some (seen piece) = sym is ∙ ap (option_map seen) got_it in
    ap (λ b. with_front b (decoded piece.rest.now)) pushed
    ∙ (sym (one_after old piece.byte (decoded piece.rest.now))
    ∙ (ap (with_front old) (sym (step rest (seen piece) first)) ∙ so_far))

pub none_stand : (old rest : Text) (all : Option Text) (result : Option got.DecodedByte)
    → option_map seen result ≡ first_piece rest → result ≡ None → length rest ≢ 0
    → with_front old (decoded rest) ≡ all → None ≡ all
none_stand old rest all result is none some so_far =
    ap (with_front old) (sym (no_step rest some (sym is ∙ ap (option_map seen) none))) ∙ so_far

nothing : (rest : Text) → length rest ≡ 0 → decoded rest ≡ Some []
nothing [] none = refl
nothing (byte ∷ rest) none = absurd (omega (arith, none))

pub all_stand : (old rest : Text) (all : Option Text) → length rest ≡ 0 → with_front old (decoded rest) ≡ all
    → Some old ≡ all
all_stand old rest all none so_far =
    ap (λ (t : Text). Some t) (sym (append-nil old)) ∙ (ap (with_front old) (sym (nothing rest none)) ∙ so_far)
