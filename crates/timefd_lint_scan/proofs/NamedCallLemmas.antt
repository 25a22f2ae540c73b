-- Calls that take a text by a name, and whose text is looked at for another call.
use Rattle.std.proofs.Common.{ℕ, ◌≡◌, ◌∙◌, ◌+◌, ◌<◌, ◌≤◌, ◌⊎◌, ◌||◌, Bool, false, true, List, ap, arith, get_or, inl, inr, length, max}
use Rattle.std.proofs.Common.{nat_lt, refl, subst, sym}
use Rattle.std.proofs.lemmas.Bool.{and_right, cases_Bool}
use Rattle.std.proofs.lemmas.Bool.Decides.{nat_tests}
use Rattle.std.specs.Prelude.{Option, Some, None}
use Rattle.timefd_lint_scan.specs.declared.known.Known.{Known}
use Rattle.timefd_lint_scan.specs.declared.piece.PlacedToken.{PlacedToken}
use Rattle.timefd_lint_scan.specs.declared.uses.Use.{Use}
use Rattle.timefd_lint_scan.specs.Bytes.{Text}
use Rattle.timefd_lint_scan.specs.Following.{AreLasts, AreOthers}
use Rattle.timefd_lint_scan.specs.Layouts.{fingerprint}
use Rattle.timefd_lint_scan.specs.Looks.{is_at}
use Rattle.timefd_lint_scan.specs.NamedCalls.{AddsCalls, AddsNamed, AreNamedBy, IsAlikeCall, IsAlikeUse, IsCalledIn, IsLookedAt, IsNamed, IsSure}
use Rattle.timefd_lint_scan.specs.Uses.{AreRuns, AreUnusedIn, IsPast, is_meant, is_past, is_use_of, known_by_name}
use Rattle.timefd_lint_scan.specs.Words.{text_at, text_of}
use Rattle.timefd_lint_scan.proofs.FirstsLemmas.{named}
use Rattle.timefd_lint_scan.proofs.RunsLemmas.{same_use}
use Rattle.timefd_lint_scan.proofs.SeenLemmas.{never_again}

-- Uses of other names add nothing.
pub none_added : (source : Text) (ps : List PlacedToken) (us : List Use) (declared : ℕ) (known : Known) (from to : ℕ) (before : ℕ → Bool)
    → AreUnusedIn source ps declared from to us → AddsCalls source ps us declared known from to before before
none_added source ps us declared known from to before unused = record {
  kept = λ n is. is;
  added = λ n here.
      let (k, d, least, less, within, fits, call) = here in
      absurd (cc (fits.used, unused k d least less within));
  only = λ n is. inl is;
}

widened : (source : Text) (ps : List PlacedToken) (us : List Use) (declared : ℕ) (known : Known) (from to more most n : ℕ)
    → more ≤ from → to ≤ most → IsCalledIn source ps us declared known from to n
    → IsCalledIn source ps us declared known more most n
widened source ps us declared known from to more most n low high here =
    let (k, d, least, less, within, fits, call) = here in
    (k, d, omega (arith, least, low), omega (arith, less, high), within, fits, call)

-- Two stretches of uses, one after the other.
pub joined : (source : Text) (ps : List PlacedToken) (us : List Use) (declared : ℕ) (known : Known) (from middle to : ℕ)
    (before between now : ℕ → Bool) → from ≤ middle → middle ≤ to → AddsCalls source ps us declared known from middle before between
    → AddsCalls source ps us declared known middle to between now → AddsCalls source ps us declared known from to before now
joined source ps us declared known from middle to before between now low high first second = record {
  kept = λ n is. second.kept n (first.kept n is);
  added = λ n here.
      let (k, d, least, less, within, fits, call) = here in
      elim (cases_Bool (nat_lt k middle)) [
        | inl early ↦ second.kept n (first.added n (k, d, least, grind (arith, nat_tests, early), within, fits, call))
        | inr late ↦ second.added n (k, d, grind (arith, nat_tests, late), less, within, fits, call)
      ];
  only = λ n is. elim (second.only n is) [
    | inl was ↦ elim (first.only n was) [
      | inl had ↦ inl had
      | inr here ↦ inr (widened source ps us declared known from middle from to n (omega arith) high here)
    ]
    | inr here ↦ inr (widened source ps us declared known middle to from to n low (omega arith) here)
  ];
}

at_call : (call : Option ℕ) (n : ℕ) → is_at call n ≡ true → call ≡ Some n
at_call None n is = absurd (cc is)
at_call (Some m) n is = ap Some (grind (arith, nat_tests, is))

is_at_call : (call : Option ℕ) (n : ℕ) → call ≡ Some n → is_at call n ≡ true
is_at_call call n is = subst (λ c. is_at c n ≡ true) (sym is) (grind (arith, nat_tests))

either : (here before now : Bool) → now ≡ (here || before) → now ≡ true → (here ≡ true) ⊎ (before ≡ true)
either true before now is so = inl refl
either false before now is so = inr (sym is ∙ so)

or_true : (a b : Bool) → b ≡ true → (a || b) ≡ true
or_true true b is = refl
or_true false b is = is

-- A use adds its call, if it is of what a token declares, and the same is known by it.
pub one_added : (source : Text) (ps : List PlacedToken) (us : List Use) (declared : ℕ) (known : Known) (index : ℕ) (other : Use)
    (is_used : Bool) (call : Option ℕ) (before now : ℕ → Bool) → index < length us
    → is_used ≡ is_use_of source ps declared (get_or us index other)
    → ((n : ℕ) → call ≡ Some n → IsAlikeCall (get_or us index other) known is_used n)
    → ((n : ℕ) → IsAlikeCall (get_or us index other) known is_used n → call ≡ Some n)
    → ((n : ℕ) → now n ≡ (is_at call n || before n)) → AddsCalls source ps us declared known index (index + 1) before now
one_added source ps us declared known index other is_used call before now below uses so all notes = record {
  kept = λ n is. notes n ∙ or_true (is_at call n) (before n) is;
  added = λ n here.
      let (k, d, least, less, within, fits, calls) = here in
      let same : get_or us k d ≡ get_or us index other =
      ap (λ m. get_or us m d) (omega (arith, least, less)) ∙ same_use us index d other below in
      let alike : IsAlikeUse source ps declared known (get_or us index other) =
      subst (IsAlikeUse source ps declared known) same fits in
      let this : (get_or us index other).known.call ≡ Some n = ap (λ (u : Use). u.known.call) (sym same) ∙ calls in
      let is : call ≡ Some n = all n (record { used = uses ∙ alike.used; alike = alike.alike; call = this }) in
      notes n ∙ ap (λ b. b || before n) (is_at_call call n is);
  only = λ n is. elim (either (is_at call n) (before n) (now n) (notes n) is) [
    | inl at ↦
        let this : IsAlikeCall (get_or us index other) known is_used n = so n (at_call call n at) in
        inr (index, other, omega arith, omega arith, below, record { used = sym uses ∙ this.used; alike = this.alike }, this.call)
    | inr was ↦ inl was
  ];
}

-- Where a name is meant at a position, all uses before it are of that name.
pub meant_before : (source : Text) (ps : List PlacedToken) (declared position : ℕ) → is_meant source ps declared position ≡ true
    → IsSure source ps declared position
meant_before source ps declared position meant = record {
  sure = λ u past below. elim (cases_Bool (is_use_of source ps declared u)) [
    | inl is ↦ is
    | inr not ↦
        let never : is_meant source ps declared position ≡ false =
        never_again source ps declared u not past position (omega (arith, below)) in
        absurd (cc (never, meant))
  ];
}

pub not_sure : (source : Text) (ps : List PlacedToken) (declared : ℕ) → IsSure source ps declared 0
not_sure source ps declared = record { sure = λ u past below. absurd (omega (arith, below)) }

-- Uses that aren't before one that is past.
pub past_unused : (source : Text) (ps : List PlacedToken) (declared index end now : ℕ) (other : Use) (us : List Use) (runs : List ℕ)
    → index < length us → AreRuns us 0 runs → end ≡ get_or runs index 0 → now ≡ max end (index + 1)
    → IsPast source ps declared (get_or us index other).name.start → AreUnusedIn source ps declared (index + 1) now us
past_unused source ps declared index end now other us runs below are ends is past = λ i d least before within.
    let reached : i < get_or runs index 0 = omega (arith, least, before, is, ends) in
    let bound : (get_or us index d).name.start ≤ (get_or us i d).name.start =
    are.runs_at index (omega arith) i d (omega (arith, least)) reached within in
    let first : (get_or us index d).name.start ≡ (get_or us index other).name.start =
    ap (λ (u : Use). u.name.start) (same_use us index d other below) in
    and_right _ _ (past (get_or us i d).name.start (omega (arith, bound, first)))

-- Uses of another name between two of this one.
pub others_unused : (source : Text) (ps : List PlacedToken) (declared index end : ℕ) (other : Use) (us : List Use)
    → text_of source (get_or us index other).name ≡ text_at source ps declared → AreOthers source us index end
    → AreUnusedIn source ps declared (index + 1) end us
others_unused source ps declared index end other us here others = λ i d least less within.
    elim (named source ps declared (get_or us i d)) [
      | inl not ↦ not
      | inr same ↦ absurd (others i d other (omega (arith, least)) less within (same ∙ sym here))
    ]

pub none_between : (source : Text) (ps : List PlacedToken) (declared from to : ℕ) (us : List Use) → to ≤ from
    → AreUnusedIn source ps declared from to us
none_between source ps declared from to us none = λ i d least less within. absurd (omega (arith, none, least, less))

-- After the last use with its name nothing is of what a token declares.
pub none_later : (source : Text) (ps : List PlacedToken) (us : List Use) (declared from : ℕ) (last : Option ℕ) (kept : ℕ → Option ℕ)
    → AreLasts source us (length us) kept → last ≡ kept (fingerprint (text_at source ps declared))
    → ((j : ℕ) → last ≡ Some j → j < from) → AreUnusedIn source ps declared from (length us) us
none_later source ps us declared from last kept are is early = λ i d least less within.
    elim (named source ps declared (get_or us i d)) [
      | inl not ↦ not
      | inr same ↦
          let (j, found, below) = are.kept_for i d within within in
          let here : last ≡ Some j = is ∙ (ap (λ t. kept (fingerprint t)) (sym same) ∙ found) in
          absurd (omega (arith, early j here, below, least))
    ]

-- What isn't looked at adds nothing.
pub none_named : (source : Text) (ps : List PlacedToken) (us : List Use) (looked : ℕ → Bool) (declared : ℕ) (before : ℕ → Bool)
    → ((known : Known) → IsLookedAt source ps us looked declared known → ⊥)
    → AddsNamed source ps us looked declared before before
none_named source ps us looked declared before never = record {
  kept = λ n is. is;
  added = λ n here.
      let (known, at, called) = here in
      absurd (never known at);
  only = λ n is. inl is;
}

some_is : (a b : Known) (given : Option Known) → given ≡ Some a → given ≡ Some b → a ≡ b
some_is a b given one other = cc (one, other)

-- What is looked at adds the calls of all its uses.
pub all_named : (source : Text) (ps : List PlacedToken) (us : List Use) (looked : ℕ → Bool) (declared : ℕ) (known : Known)
    (before now : ℕ → Bool) → IsLookedAt source ps us looked declared known
    → AddsCalls source ps us declared known 0 (length us) before now → AddsNamed source ps us looked declared before now
all_named source ps us looked declared known before now at adds = record {
  kept = adds.kept;
  added = λ n here.
      let (other, there, called) = here in
      adds.added n (subst (λ k. IsCalledIn source ps us declared k 0 (length us) n)
      (some_is other known (known_by_name source ps declared us) there.first at.first) called);
  only = λ n is. elim (adds.only n is) [
    | inl was ↦ inl was
    | inr called ↦ inr (known, at, called)
  ];
}

pub at_first : (source : Text) (ps : List PlacedToken) (us : List Use) (looked named : ℕ → Bool) → ((n : ℕ) → named n ≡ false)
    → AreNamedBy source ps us looked 0 named
at_first source ps us looked given none = record {
  each = λ n declared below here. absurd (omega (arith, below));
  only = λ n is. absurd (cc (none n, is));
}

pub one_more : (source : Text) (ps : List PlacedToken) (us : List Use) (looked : ℕ → Bool) (count : ℕ) (before now : ℕ → Bool)
    → AreNamedBy source ps us looked count before → AddsNamed source ps us looked count before now
    → AreNamedBy source ps us looked (count + 1) now
one_more source ps us looked count before now so_far adds = record {
  each = λ n declared below here. elim (cases_Bool (nat_lt declared count)) [
    | inl early ↦ adds.kept n (so_far.each n declared (grind (arith, nat_tests, early)) here)
    | inr late ↦
        let same : declared ≡ count = grind (arith, nat_tests, late, below) in
        adds.added n (subst (λ k. IsNamed source ps us looked k n) same here)
  ];
  only = λ n is. elim (adds.only n is) [
    | inl was ↦
        let (declared, below, here) = so_far.only n was in
        (declared, omega (arith, below), here)
    | inr here ↦ (count, omega arith, here)
  ];
}
