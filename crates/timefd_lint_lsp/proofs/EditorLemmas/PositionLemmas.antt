-- From an index to its position and back.
use Rattle.std.proofs.Common.{ℕ, suc, ◌≡◌, ◌<◌, ◌≤◌, ◌+◌, ◌*◌, ◌^◌, ◌==◌, Bool, true, false, [], ◌∷◌, ◌++◌, length, take, get_or, refl, sym, ap, subst, inl, inr, arith, eqb-true, eq-eqb, append-nil, length-append}
use Rattle.std.specs.Prelude.{not, ◌&&◌, ◌||◌, nat_lt, if◌then◌else◌}
use Rattle.std.proofs.lemmas.Bool.{cases_Bool, le-ltb, lt-ltb}
use Rattle.std.proofs.lemmas.List.{take_at, get_or_at, get_or_past}
use Rattle.timefd_lint_lsp.proofs.EditorLemmas.WalkLemmas.{char_start_at}
use Rattle.timefd_parse.specs.Tree.{Text}
use Rattle.timefd_lint_lsp.specs.Editor.Positions.{RoundTrip, begins, capped, char_start, ends_with_return, goes_on, is_line_end, is_second, passed, start, step, stops_at, units, walked}
use Rattle.timefd_lint_lsp.specs.declared.editor.position.DocumentPosition.{DocumentPosition}
use Rattle.timefd_lint_lsp.specs.declared.editor.walk.CountingWalk.{CountingWalk}

-- A line that begins after a carriage return has no character yet.
abbrev Sound : CountingWalk → Type 0
Sound w = w.is_after_return ≡ true → w.position.character ≡ 0

abbrev HasRoom : CountingWalk → ℕ → Type 0
HasRoom w n = w.position.line + w.position.character + 2 * n < 2 ^ 64

record Reaches (p q : DocumentPosition) : Type 0 where
  line : p.line ≤ q.line
  character : q.line ≡ p.line → p.character ≤ q.character

-- The next line and character, by whether a byte ends a line and whether it is the newline of `\r\n`.
abbrev line_by : Bool → Bool → ℕ → ℕ
line_by ends second line = if ends && not second then capped (line + 1) else line

abbrev character_by : Bool → ℕ → ℕ → ℕ
character_by ends character count = if ends then 0 else capped (character + count)

units_small : (b : ℕ) → units b ≤ 2
units_small b = elim (cases_Bool (goes_on b)) [
  | inl is ↦ rw is (omega arith)
  | inr other ↦ rw other (elim (cases_Bool (nat_lt b 240)) [
    | inl small ↦ rw small (omega arith)
    | inr large ↦ rw large (omega arith)
  ])
]

room_by : (ends second : Bool) (line character count n : ℕ) → count ≤ 2
    → line + character + 2 * suc n < 2 ^ 64
    → line_by ends second line + character_by ends character count + 2 * n < 2 ^ 64
room_by true true line character count n few room = omega arith
room_by true false line character count n few room = omega arith
room_by false true line character count n few room = omega arith
room_by false false line character count n few room = omega arith

on_by : (ends second : Bool) (line character count : ℕ) → line + 1 < 2 ^ 64 → line ≤ line_by ends second line
on_by true true line character count room = omega arith
on_by true false line character count room = omega arith
on_by false true line character count room = omega arith
on_by false false line character count room = omega arith

in_line_by : (ends second : Bool) (line character count : ℕ) → line + character + 2 < 2 ^ 64
    → (second ≡ true → character ≡ 0) → count ≤ 2
    → line_by ends second line ≡ line → character ≤ character_by ends character count
in_line_by true true line character count room sound few same = omega (arith, sound refl)
in_line_by true false line character count room sound few same = absurd (omega arith)
in_line_by false true line character count room sound few same = omega arith
in_line_by false false line character count room sound few same = omega arith

not_in_line : (ends second goes : Bool) (line character count sought at : ℕ) → line + 1 < 2 ^ 64 → line ≡ sought
    → line_by ends second line ≤ sought
    → (sought ≡ line_by ends second line → character_by ends character count ≤ at)
    → (not second && (ends || (not goes && nat_lt at (character_by ends character count)))) ≡ false
not_in_line ends true goes line character count sought at room same beyond far = refl
not_in_line true false goes line character count sought at room same beyond far = absurd (omega arith)
not_in_line false false true line character count sought at room same beyond far = refl
not_in_line false false false line character count sought at room same beyond far =
    le-ltb at (character_by false character count) (far (sym same))

stops_not : (ends second goes : Bool) (line character count sought at : ℕ) → line + 1 < 2 ^ 64
    → line_by ends second line ≤ sought
    → (sought ≡ line_by ends second line → character_by ends character count ≤ at)
    → ((line == sought)
    && (not second && (ends || (not goes && nat_lt at (character_by ends character count))))) ≡ false
stops_not ends second goes line character count sought at room beyond far =
    elim (cases_Bool (line == sought)) [
      | inl is ↦ rw is (not_in_line ends second goes line character count sought at room (eqb-true line sought is) beyond far)
      | inr other ↦ rw other refl
    ]

sound_step : (w : CountingWalk) (b : ℕ) → Sound (step w b)
sound_step w b is = elim (cases_Bool (b == 10)) [
  | inl newline ↦ rw newline refl
  | inr other ↦ rw (other, is) refl
]

is_sound : (w : CountingWalk) (b : ℕ) → Sound w → is_second w b ≡ true → w.position.character ≡ 0
is_sound w b sound second = elim (cases_Bool w.is_after_return) [
  | inl is ↦ sound is
  | inr other ↦ absurd (cc (sym second, ap (λ x. x && (b == 10)) other))
]

reaches_step : (w : CountingWalk) (b n : ℕ) → Sound w → HasRoom w (suc n)
    → Reaches w.position (step w b).position
reaches_step w b n sound room = record {
  line = on_by (is_line_end b) (is_second w b) w.position.line w.position.character (units b) (omega arith);
  character = in_line_by (is_line_end b) (is_second w b) w.position.line w.position.character (units b)
      (omega arith) (is_sound w b sound) (units_small b);
}

room_step : (w : CountingWalk) (b n : ℕ) → HasRoom w (suc n) → HasRoom (step w b) n
room_step w b n room =
    room_by (is_line_end b) (is_second w b) w.position.line w.position.character (units b) n (units_small b) room

reaches_trans : (p q r : DocumentPosition) → Reaches p q → Reaches q r → Reaches p r
reaches_trans p q r a b = record {
  line = omega (arith, a.line, b.line);
  character = λ same. omega (arith, a.line, b.line, a.character, b.character);
}

reaches : (w : CountingWalk) (text : Text) → Sound w → HasRoom w (length text)
    → Reaches w.position (walked w text).position
reaches w [] sound room = record { line = omega arith; character = λ same. omega arith }
reaches w (b ∷ text) sound room =
    reaches_trans w.position (step w b).position (walked (step w b) text).position
    (reaches_step w b (length text) sound room)
    (reaches (step w b) text (sound_step w b) (room_step w b (length text) room))

no_stop : (w : CountingWalk) (b n : ℕ) (p : DocumentPosition) → HasRoom w (suc n) → Reaches (step w b).position p
    → stops_at w p b ≡ false
no_stop w b n p room far =
    stops_not (is_line_end b) (is_second w b) (goes_on b) w.position.line w.position.character (units b)
    p.line p.character (omega arith) far.line far.character

some_units : (b : ℕ) → goes_on b ≡ false → 0 < units b
some_units b begun = rw begun (elim (cases_Bool (nat_lt b 240)) [
  | inl small ↦ rw small (omega arith)
  | inr large ↦ rw large (omega arith)
])

stops_here : (ends second goes : Bool) (line character count : ℕ) → character + 2 < 2 ^ 64 → 0 < count
    → count ≤ 2 → second ≡ false → goes ≡ false
    → ((line == line)
    && (not second && (ends || (not goes && nat_lt character (character_by ends character count))))) ≡ true
stops_here true false goes line character count room some few first begun = rw (eq-eqb line line refl) refl
stops_here false false false line character count room some few first begun =
    rw (eq-eqb line line refl) (lt-ltb character (capped (character + count)) (omega arith))
stops_here false false true line character count room some few first begun = cc
stops_here ends true goes line character count room some few first begun = cc

-- A walk stops where it is, before a character or a line's end.
here : (w : CountingWalk) (b n : ℕ) → HasRoom w (suc n) → goes_on b ≡ false → is_second w b ≡ false
    → stops_at w w.position b ≡ true
here w b n room begun first =
    stops_here (is_line_end b) (is_second w b) (goes_on b) w.position.line w.position.character (units b)
    (omega arith) (some_units b begun) (units_small b) first begun

first_not : (x y : Bool) → (not x && not y) ≡ true → x ≡ false
first_not false y both = refl
first_not true y both = cc

second_not : (x y : Bool) → (not x && not y) ≡ true → y ≡ false
second_not x false both = refl
second_not false true both = cc
second_not true true both = cc

back_at : (w : CountingWalk) (front back : Text) → Sound w → HasRoom w (length (front ++ back))
    → begins (ends_with_return w.is_after_return front) back ≡ true
    → passed w (walked w front).position (front ++ back) ≡ length front
back_at w [] [] sound room between = refl
back_at w [] (b ∷ back) sound room between =
    rw (here w b (length back) room (first_not (goes_on b) (is_second w b) between)
    (second_not (goes_on b) (is_second w b) between)) refl
back_at w (b ∷ front) back sound room between =
    let room' : HasRoom (step w b) (length (front ++ back)) = room_step w b (length (front ++ back)) room in
    let far : Reaches (step w b).position (walked (step w b) front).position =
    reaches (step w b) front (sound_step w b) (omega (arith, room', length-append front back)) in
    let rest : passed (step w b) (walked (step w b) front).position (front ++ back) ≡ length front =
    back_at (step w b) front back (sound_step w b) room' between in
    rw (no_stop w b (length (front ++ back)) (walked (step w b) front).position room far) (omega (arith, rest))

begun : (front back : Text) (after_return : Bool) → begins after_return back ≡ true
    → goes_on (get_or (front ++ back) (length front) 0) ≡ false
begun front [] after_return between =
    rw (append-nil front, get_or_past front (length front) 0 (omega arith)) refl
begun front (b ∷ back) after_return between =
    rw (get_or_at front b back 0 (length front) refl)
    (first_not (goes_on b) (after_return && (b == 10)) between)

pub round_trip : RoundTrip
round_trip front back small between =
    let at : char_start (front ++ back) (length front) ≡ length front =
    char_start_at (front ++ back) (length front) (begun front back (ends_with_return false front) between) in
    subst (λ (n : ℕ). passed start (walked start (take n (front ++ back))).position (front ++ back) ≡ length front)
    (sym at)
    (subst (λ (t : Text). passed start (walked start t).position (front ++ back) ≡ length front)
    (sym (take_at front back (length front) refl))
    (back_at start front back (λ is. refl) (omega (arith, small)) between))
