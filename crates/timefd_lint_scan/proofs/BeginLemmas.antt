-- Where the blocks that tokens are in begin.
use Rattle.std.proofs.Common.{ℕ, ◌≡◌, ◌==◌, ◌∙◌, ◌+◌, ◌-◌, ◌<◌, ◌≤◌, ◌++◌, ◌&&◌, List, [], ◌∷◌, ap, arith, false, get_or, inl, inr, length, max, nat_le, nat_lt}
use Rattle.std.proofs.Common.{refl, reverse, subst, suc, sym, take, true, zero}
use Rattle.std.proofs.lemmas.Bool.{cases_Bool}
use Rattle.std.proofs.lemmas.Bool.Decides.{nat_tests}
use Rattle.std.proofs.lemmas.List.{take_more}
use Rattle.std.proofs.lemmas.List.Elements.{All-contains, All-nil, All-push, All-same}
use Rattle.std.proofs.lemmas.Option.{slice_get-get_or}
use Rattle.std.specs.List.{Contains}
use Rattle.std.specs.Prelude.{if◌then◌else◌, ⊤}
use Rattle.timefd_lint_scan.specs.declared.blocks.TokenPosition.{TokenPosition}
use Rattle.timefd_lint_scan.specs.declared.piece.PlacedToken.{PlacedToken}
use Rattle.timefd_lint_scan.specs.Bytes.{Text}
use Rattle.timefd_lint_scan.specs.Layouts.{AreBegins, IsBegin, but_first, opened, openings}
use Rattle.timefd_lint_scan.specs.Scopes.{is_outside}
use Rattle.timefd_lint_scan.specs.Words.{is_closing, is_opening, position_at, position_of_any, text_of}

-- how many of these positions are at another one or after it
abbrev pub count : ℕ → List ℕ → ℕ
count from [] = 0
count from (n ∷ ns) = if nat_le from n then count from ns + 1 else count from ns

abbrev pub AreFalling : List ℕ → Type 0
AreFalling [] = ⊤
AreFalling (n ∷ ns) = (get_or ns 0 0 ≤ n) × AreFalling ns

none_after : (from : ℕ) (ns : List ℕ) → AreFalling ns → get_or ns 0 0 < from → count from ns ≡ 0
none_after from [] fall below = refl
none_after from (n ∷ ns) fall below =
    let early : nat_le from n ≡ false = grind (arith, nat_tests, below) in
    rw early (none_after from ns fall.1 (omega (arith, fall.0, below)))

fewer : (from : ℕ) (ns : List ℕ) → count from ns ≤ count from (but_first ns) + 1
fewer from [] = omega arith
fewer from (n ∷ ns) = elim (cases_Bool (nat_le from n)) [
  | inl after ↦ rw after (omega arith)
  | inr not ↦ rw not (omega arith)
]

falling_first : (ns : List ℕ) → AreFalling ns → AreFalling (but_first ns)
falling_first [] fall = tt
falling_first (n ∷ ns) fall = fall.1

still_falling : (source : Text) (p : PlacedToken) (ns : List ℕ) → AreFalling ns → AreFalling (opened source p ns)
still_falling source p ns fall = elim (cases_Bool (is_opening (text_of source p))) [
  | inl opens ↦ rw opens (omega arith, fall)
  | inr not ↦ elim (cases_Bool (is_closing (text_of source p))) [
    | inl closes ↦ rw (not, closes) (falling_first ns fall)
    | inr neither ↦ rw (not, neither) fall
  ]
]

falling : (source : Text) (ns : List ℕ) (ps : List PlacedToken) → AreFalling ns → AreFalling (openings source ns ps)
falling source ns [] fall = fall
falling source ns (p ∷ ps) fall = falling source (opened source p ns) ps (still_falling source p ns fall)

abbrev pub next_depth : Text → ℕ → PlacedToken → ℕ → ℕ
next_depth source from p depth =
    if nat_le from p.start && is_opening (text_of source p) then depth + 1
    else if is_closing (text_of source p) then depth - 1
    else depth

bounded : (source : Text) (from depth : ℕ) (p : PlacedToken) (ns : List ℕ) → depth ≤ count from ns
    → next_depth source from p depth ≤ count from (opened source p ns)
bounded source from depth p ns within = elim (cases_Bool (is_opening (text_of source p))) [
  | inl opens ↦ elim (cases_Bool (nat_le from p.start)) [
    | inl after ↦
        let too : nat_le from (max p.start (get_or ns 0 0)) ≡ true = grind (arith, nat_tests, after) in
        rw (opens, after, too) (omega (arith, within))
    | inr before ↦
        let more : count from ns ≤ count from (max p.start (get_or ns 0 0) ∷ ns) =
        elim (cases_Bool (nat_le from (max p.start (get_or ns 0 0)))) [
          | inl late ↦ rw late (omega arith)
          | inr early ↦ rw early (omega arith)
        ] in
        elim (cases_Bool (is_closing (text_of source p))) [
          | inl closes ↦ rw (opens, before, closes) (omega (arith, within, more))
          | inr neither ↦ rw (opens, before, neither) (omega (arith, within, more))
        ]
  ]
  | inr not ↦
      let none : (nat_le from p.start && is_opening (text_of source p)) ≡ false =
      elim (cases_Bool (nat_le from p.start)) [
        | inl after ↦ rw (after, not) refl
        | inr before ↦ rw before refl
      ] in
      elim (cases_Bool (is_closing (text_of source p))) [
        | inl closes ↦ rw (none, not, closes) (omega (arith, within, fewer from ns))
        | inr neither ↦ rw (none, not, neither) within
      ]
]

goes_on : (source : Text) (from at depth : ℕ) (p : PlacedToken) (ps : List PlacedToken) → nat_le at p.start ≡ false
    → is_outside source from at depth (p ∷ ps) ≡ is_outside source from at (next_depth source from p depth) ps
goes_on source from at depth p ps late = elim (cases_Bool (nat_le from p.start && is_opening (text_of source p))) [
  | inl opens ↦ rw (late, opens) refl
  | inr not ↦ elim (cases_Bool (is_closing (text_of source p))) [
    | inl closes ↦ rw (late, not, closes) refl
    | inr neither ↦ rw (late, not, neither) refl
  ]
]

-- At a token in order, at most as many brackets are open as begin after a position.
outside : (source : Text) (from at depth n : ℕ) (ns : List ℕ) (ps : List PlacedToken) → depth ≤ count from ns → n < length ps
    → ((m : ℕ) → m < n → position_at ps m < at) → position_at ps n ≡ at
    → count from (openings source ns (take n ps)) ≡ 0 → is_outside source from at depth ps ≡ true
outside source from at depth n ns [] within below before here none = absurd (omega (arith, below))
outside source from at depth zero ns (p ∷ ps) within below before here none =
    let there : nat_le at p.start ≡ true = grind (arith, nat_tests, here) in
    let closed : (depth == 0) ≡ true = grind (arith, nat_tests, within, none) in
    rw (there, closed) refl
outside source from at depth (suc n) ns (p ∷ ps) within below before here none =
    let first : p.start < at = before 0 (omega arith) in
    let late : nat_le at p.start ≡ false = grind (arith, nat_tests, first) in
    goes_on source from at depth p ps late
    ∙ outside source from at (next_depth source from p depth) n (opened source p ns) ps (bounded source from depth p ns within)
    (omega (arith, below)) (λ m less. before (suc m) (omega (arith, less))) here none

one_opened : (source : Text) (ns : List ℕ) (ps : List PlacedToken) (p : PlacedToken)
    → openings source ns (ps ++ p ∷ []) ≡ opened source p (openings source ns ps)
one_opened source ns [] p = refl
one_opened source ns (q ∷ ps) p = one_opened source (opened source q ns) ps p

place : (ps : List PlacedToken) (i : ℕ) (p other : PlacedToken) → i < length ps → p ≡ get_or ps i other → position_at ps i ≡ p.start
place ps i p other below at =
    ap position_of_any (slice_get-get_or ps i other below) ∙ ap (λ (q : PlacedToken). q.start) (sym at)

-- What is kept of the first tokens.
pub record AreSoFar (source : Text) (ps : List PlacedToken) (n end : ℕ) (open_there : List ℕ) (kept : List TokenPosition) : Type 0 where
  pub order : (m : ℕ) → m < n → position_at ps m < end
  pub stack : open_there ≡ reverse (openings source [] (take n ps))
  pub begins : AreBegins source ps kept

pub no_begins : (source : Text) (ps : List PlacedToken) → AreBegins source ps []
no_begins source ps = All-nil (IsBegin source ps)

pub at_first : (source : Text) (ps : List PlacedToken) (end : ℕ) → AreSoFar source ps 0 end [] []
at_first source ps end = record {
  order = λ m below. absurd (omega (arith, below));
  stack = refl;
  begins = no_begins source ps;
}

-- A position is kept for the next token.
pub begin_more : (source : Text) (ps : List PlacedToken) (n end : ℕ) (p other : PlacedToken) (kept : TokenPosition) (stack : List ℕ)
    (begins now : List TokenPosition) → n < length ps → p ≡ get_or ps n other → end ≤ p.start → kept.token ≡ n
    → ((st : List ℕ) → stack ≡ reverse st → kept.position ≡ get_or st 0 0) → now ≡ begins ++ kept ∷ []
    → AreSoFar source ps n end stack begins → AreSoFar source ps n end stack now
begin_more source ps n end p other kept stack begins now below at late token last pushed so_far =
    let ns : List ℕ = openings source [] (take n ps) in
    let here : position_at ps n ≡ p.start = place ps n p other below at in
    let is : kept.position ≡ get_or ns 0 0 = last ns so_far.stack in
    let begin : IsBegin source ps kept = λ from over.
    subst (λ k. is_outside source from (position_at ps k) 0 ps ≡ true) (sym token)
    (outside source from (position_at ps n) 0 n [] ps (omega arith) below
    (λ m less. omega (arith, so_far.order m less, here, late)) refl
    (none_after from ns (falling source [] (take n ps) tt) (omega (arith, is, over)))) in
    record {
      order = so_far.order;
      stack = so_far.stack;
      begins = All-same (IsBegin source ps) now (begins ++ kept ∷ []) pushed (All-push (IsBegin source ps) begins kept so_far.begins begin);
    }

pub one_more : (source : Text) (ps : List PlacedToken) (n end : ℕ) (p other : PlacedToken) (stack after : List ℕ) (begins : List TokenPosition)
    → n < length ps → p ≡ get_or ps n other → end ≤ p.start → p.start < p.end
    → ((st : List ℕ) → stack ≡ reverse st → after ≡ reverse (opened source p st))
    → AreSoFar source ps n end stack begins → AreSoFar source ps (n + 1) p.end after begins
one_more source ps n end p other stack after begins below at late long passed so_far =
    let ns : List ℕ = openings source [] (take n ps) in
    let here : position_at ps n ≡ p.start = place ps n p other below at in
    record {
      order = λ m less. elim (cases_Bool (nat_lt m n)) [
        | inl before ↦
            let early : m < n = grind (arith, nat_tests, before) in
            omega (arith, so_far.order m early, late, long)
        | inr not ↦
            let same : m ≡ n = grind (arith, nat_tests, not, less) in
            omega (arith, ap (position_at ps) same, here, long)
      ];
      stack = passed ns so_far.stack
          ∙ ap reverse (ap (λ q. opened source q ns) at
          ∙ (sym (one_opened source [] (take n ps) (get_or ps n other))
          ∙ ap (openings source []) (sym (take_more ps n other below))));
      begins = so_far.begins;
    }

-- Brackets that open after the position that is kept for a token are closed again there.
pub outside_at : (source : Text) (ps : List PlacedToken) (begins : List TokenPosition) (kept : TokenPosition) (token from : ℕ)
    → AreBegins source ps begins → Contains begins kept → kept.token ≡ token → kept.position < from
    → is_outside source from (position_at ps token) 0 ps ≡ true
outside_at source ps begins kept token from are among same over =
    subst (λ k. is_outside source from (position_at ps k) 0 ps ≡ true) same
    (All-contains (IsBegin source ps) begins kept are among from over)
