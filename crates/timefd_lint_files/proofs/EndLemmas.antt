-- Tokens of one byte each, at the ends of a pattern.
use Rattle.std.proofs.Common.{◌≡◌, ℕ, ◌+◌, ◌-◌, ◌<◌, Bool, true, false, List, [], ◌∷◌, ◌++◌, length, get_or, take, drop, refl, ap, ◌∙◌, sym, add-one, arith, suc, take-suc, take_all}
use Rattle.std.specs.Prelude.{not, ◌&&◌, ◌||◌, ◌==◌}
use Rattle.std.proofs.Math.Seq.{drop-cons, drop-length}
use Rattle.timefd_lint_files.specs.declared.token.PatternToken.{PatternToken}
use Rattle.timefd_lint_files.specs.declared.token.PatternToken.TheVariants.{Byte, Any, OneOf, Star, Folders, Rest, Nothing}
use Rattle.timefd_lint_files.specs.Ends.{EndsAlike, BeginsAlike}
use Rattle.timefd_lint_files.specs.Matching.{Text, slash, has, is_empty, matches, takes, takes_none, takes_some}

pub and_false : (a : Bool) → (a && false) ≡ false
and_false true = refl
and_false false = refl

alone : (a m : Bool) → ((a && m) || false) ≡ ((a && true) && m)
alone true true = refl
alone true false = refl
alone false m = refl

-- A token of one byte, at the front.
pub first_byte : (token : PatternToken) (tokens : List PatternToken) (byte : ℕ) (bytes : Text) → takes_none token ≡ false
    → matches (token ∷ tokens) (byte ∷ bytes) ≡ (takes token byte true false && matches tokens bytes)
first_byte (Byte own) tokens byte bytes is = alone (byte == own) (matches tokens bytes)
first_byte Any tokens byte bytes is = alone (not (byte == slash)) (matches tokens bytes)
first_byte (OneOf class) tokens byte bytes is = alone (not (byte == slash) && has class byte) (matches tokens bytes)
first_byte Star tokens byte bytes is = absurd cc
first_byte Folders tokens byte bytes is = absurd cc
first_byte Rest tokens byte bytes is = absurd cc
first_byte Nothing tokens byte bytes is = refl

pub no_byte : (token : PatternToken) (tokens : List PatternToken) → takes_none token ≡ false → matches (token ∷ tokens) [] ≡ false
no_byte token tokens is = rw is refl

pub nothing_on : (token : PatternToken) (byte : ℕ) → takes token byte false false ≡ false
nothing_on (Byte own) byte = and_false (byte == own)
nothing_on Any byte = and_false (not (byte == slash))
nothing_on (OneOf class) byte = and_false (not (byte == slash) && has class byte)
nothing_on Star byte = and_false (not (byte == slash))
nothing_on Folders byte = and_false (byte == slash)
nothing_on Rest byte = refl
nothing_on Nothing byte = refl

takes_both : (token : PatternToken) (byte : ℕ) (a fits on : Bool)
    → takes token byte (a && fits) (a && on) ≡ (a && takes token byte fits on)
takes_both token byte true fits on = refl
takes_both token byte false fits on = nothing_on token byte

some_both : (token : PatternToken) (a : Bool) (f g : Text → Bool) (path : Text) (last : ℕ)
    → ((front : Text) → f (front ++ last ∷ []) ≡ (a && g front)) → f [] ≡ false
    → takes_some token f (path ++ last ∷ []) ≡ (a && takes_some token g path)
some_both token a f g [] last both none = rw (none, nothing_on token last, and_false a) refl
some_both token a f g (byte ∷ bytes) last both none =
    rw (both bytes, some_both token a f g bytes last both none) (takes_both token byte a (g bytes) (takes_some token g bytes))

-- A token of one byte, after others.
no_last : (tokens : List PatternToken) (token : PatternToken) → takes_none token ≡ false → matches (tokens ++ token ∷ []) [] ≡ false
no_last [] token is = no_byte token [] is
no_last (first ∷ tokens) token is = rw (no_last tokens token is) (and_false (takes_none first))

or_both : (a n x y : Bool) → ((a && x) || (n && (a && y))) ≡ (a && (x || (n && y)))
or_both true n x y = refl
or_both false n x y = and_false n

pub last_byte : (tokens : List PatternToken) (path : Text) (token : PatternToken) (byte : ℕ) → takes_none token ≡ false
    → matches (tokens ++ token ∷ []) (path ++ byte ∷ []) ≡ (takes token byte true false && matches tokens path)
last_byte [] [] token byte is = first_byte token [] byte [] is
last_byte [] (first ∷ bytes) token byte is =
    first_byte token [] first (bytes ++ byte ∷ []) is
    ∙ (rw (more bytes byte, and_false (takes token first true false)) (sym (and_false (takes token byte true false))))
  where
    more : (bytes : Text) (byte : ℕ) → is_empty (bytes ++ byte ∷ []) ≡ false
    more [] byte = refl
    more (b ∷ bytes) byte = refl
last_byte (first ∷ tokens) path token byte is =
    let a = takes token byte true false in
    let after = matches (tokens ++ token ∷ []) in
    let some : takes_some first after (path ++ byte ∷ []) ≡ (a && takes_some first (matches tokens) path) =
    some_both first a after (matches tokens) path byte (λ front. last_byte tokens front token byte is)
    (no_last tokens token is) in
    rw (some, last_byte tokens path token byte is) (or_both a (takes_none first) (takes_some first (matches tokens) path) (matches tokens path))

-- At the end: nothing yet, one more byte, another byte, the end of the path.
pub none_after : (tokens : List PatternToken) (path : Text) → EndsAlike tokens path 0
none_after tokens path =
    let all_tokens : take (length tokens - 0) tokens ≡ tokens = take_all (length tokens - 0) tokens (omega arith) in
    let all_path : take (length path - 0) path ≡ path = take_all (length path - 0) path (omega arith) in record {
      in_tokens = omega arith;
      in_path = omega arith;
      same = rw (all_tokens, all_path) refl;
    }

-- what the last remaining token and the last remaining byte say
last_left : (tokens : List PatternToken) (path : Text) (count : ℕ) (token : PatternToken) (byte : ℕ) → count < length tokens
    → count < length path → token ≡ get_or tokens (length tokens - count - 1) token
    → byte ≡ get_or path (length path - count - 1) 0 → takes_none token ≡ false
    → matches (take (length tokens - count) tokens) (take (length path - count) path)
    ≡ (takes token byte true false
    && matches (take (length tokens - (count + 1)) tokens) (take (length path - (count + 1)) path))
last_left tokens path count token byte in_tokens in_path token_is byte_is is =
    let n = length tokens - (count + 1) in
    let m = length path - (count + 1) in
    let n_more : length tokens - count ≡ suc n = omega arith in
    let m_more : length path - count ≡ suc m = omega arith in
    let n_at : length tokens - count - 1 ≡ n = omega arith in
    let m_at : length path - count - 1 ≡ m = omega arith in
    let the_token : token ≡ get_or tokens n token = rw n_at at token_is in
    let the_byte : byte ≡ get_or path m 0 = rw m_at at byte_is in
    let tokens_cut : take (suc n) tokens ≡ take n tokens ++ token ∷ [] =
    take-suc tokens n token (omega arith) ∙ ap (λ (t : PatternToken). take n tokens ++ t ∷ []) (sym the_token) in
    let path_cut : take (suc m) path ≡ take m path ++ byte ∷ [] =
    take-suc path m 0 (omega arith) ∙ ap (λ (b : ℕ). take m path ++ b ∷ []) (sym the_byte) in
    rw (n_more, m_more, tokens_cut, path_cut) (last_byte (take n tokens) (take m path) token byte is)

pub one_after : (tokens : List PatternToken) (path : Text) (count : ℕ) (token : PatternToken) → EndsAlike tokens path count
    → count < length tokens → count < length path → token ≡ get_or tokens (length tokens - count - 1) token
    → takes_none token ≡ false → takes token (get_or path (length path - count - 1) 0) true false ≡ true
    → EndsAlike tokens path (count + 1)
one_after tokens path count token so_far in_tokens in_path token_is is fits = record {
  in_tokens = omega arith;
  in_path = omega arith;
  same = so_far.same
      ∙ last_left tokens path count token (get_or path (length path - count - 1) 0) in_tokens in_path token_is refl is
      ∙ rw fits refl;
}

pub other_after : (tokens : List PatternToken) (path : Text) (count : ℕ) (token : PatternToken) → EndsAlike tokens path count
    → count < length tokens → count < length path → token ≡ get_or tokens (length tokens - count - 1) token
    → takes_none token ≡ false → takes token (get_or path (length path - count - 1) 0) true false ≡ false
    → matches tokens path ≡ false
other_after tokens path count token so_far in_tokens in_path token_is is differs =
    so_far.same
    ∙ last_left tokens path count token (get_or path (length path - count - 1) 0) in_tokens in_path token_is refl is
    ∙ rw differs refl

pub end_of_path_after : (tokens : List PatternToken) (path : Text) (count : ℕ) (token : PatternToken) → EndsAlike tokens path count
    → count < length tokens → count ≡ length path → token ≡ get_or tokens (length tokens - count - 1) token
    → takes_none token ≡ false → matches tokens path ≡ false
end_of_path_after tokens path count token so_far in_tokens at_end token_is is =
    let n = length tokens - (count + 1) in
    let n_more : length tokens - count ≡ suc n = omega arith in
    let n_at : length tokens - count - 1 ≡ n = omega arith in
    let none : length path - count ≡ 0 = omega arith in
    let the_token : token ≡ get_or tokens n token = rw n_at at token_is in
    let tokens_cut : take (suc n) tokens ≡ take n tokens ++ token ∷ [] =
    take-suc tokens n token (omega arith) ∙ ap (λ (t : PatternToken). take n tokens ++ t ∷ []) (sym the_token) in
    so_far.same ∙ rw (n_more, none, tokens_cut) (no_last (take n tokens) token is)

-- At the front: nothing yet, one more byte, another byte, the end of the path.
pub none_before : (tokens : List PatternToken) (path : Text) → BeginsAlike tokens path 0
none_before tokens path = record { in_tokens = omega arith; in_path = omega arith; same = refl }

tokens_after : (tokens : List PatternToken) (count : ℕ) (token : PatternToken) → count < length tokens
    → token ≡ get_or tokens count token → drop count tokens ≡ token ∷ drop (count + 1) tokens
tokens_after tokens count token lt is =
    rw add-one (drop-cons tokens count token lt ∙ ap (λ (t : PatternToken). t ∷ drop (suc count) tokens) (sym is))

first_left : (tokens : List PatternToken) (path : Text) (count : ℕ) (token : PatternToken) → count < length tokens
    → count < length path → token ≡ get_or tokens count token → takes_none token ≡ false
    → matches (drop count tokens) (drop count path)
    ≡ (takes token (get_or path count 0) true false && matches (drop (count + 1) tokens) (drop (count + 1) path))
first_left tokens path count token in_tokens in_path token_is is =
    let path_cut : drop count path ≡ get_or path count 0 ∷ drop (count + 1) path =
    rw add-one (drop-cons path count 0 in_path) in
    rw (tokens_after tokens count token in_tokens token_is, path_cut)
    (first_byte token (drop (count + 1) tokens) (get_or path count 0) (drop (count + 1) path) is)

pub one_before : (tokens : List PatternToken) (path : Text) (count : ℕ) (token : PatternToken) → BeginsAlike tokens path count
    → count < length tokens → count < length path → token ≡ get_or tokens count token
    → takes_none token ≡ false → takes token (get_or path count 0) true false ≡ true
    → BeginsAlike tokens path (count + 1)
one_before tokens path count token so_far in_tokens in_path token_is is fits = record {
  in_tokens = omega arith;
  in_path = omega arith;
  same = so_far.same ∙ first_left tokens path count token in_tokens in_path token_is is ∙ rw fits refl;
}

pub other_before : (tokens : List PatternToken) (path : Text) (count : ℕ) (token : PatternToken) → BeginsAlike tokens path count
    → count < length tokens → count < length path → token ≡ get_or tokens count token
    → takes_none token ≡ false → takes token (get_or path count 0) true false ≡ false → matches tokens path ≡ false
other_before tokens path count token so_far in_tokens in_path token_is is differs =
    so_far.same ∙ first_left tokens path count token in_tokens in_path token_is is ∙ rw differs refl

pub end_of_path_before : (tokens : List PatternToken) (path : Text) (count : ℕ) (token : PatternToken) → BeginsAlike tokens path count
    → count < length tokens → count ≡ length path → token ≡ get_or tokens count token
    → takes_none token ≡ false → matches tokens path ≡ false
end_of_path_before tokens path count token so_far in_tokens at_end token_is is =
    let gone : drop count path ≡ [] = rw at_end (drop-length path) in
    so_far.same ∙ rw (tokens_after tokens count token in_tokens token_is, gone)
    (no_byte token (drop (count + 1) tokens) is)
