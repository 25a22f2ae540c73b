-- Objects that are written one after another.
use Rattle.std.proofs.Common.{ℕ, ◌≡◌, ◌∙◌, ◌+◌, ◌-◌, ◌<◌, ◌≤◌, ◌++◌, List, [], ◌∷◌, Result, Ok, Err, OnOk, ap, arith, codes, drop, flat_map, get_or, length, sym, take}
use Rattle.std.proofs.Math.Seq.{take-length}
use Rattle.std.specs.Bool.{if◌then◌else◌}
use Rattle.std.specs.Result.{is_ok}
use Rattle.std.proofs.lemmas.List.{append_assoc, drop_more}
use Rattle.std.proofs.lemmas.Result.{on_ok_weaker}
use Rattle.timefd_parse.specs.Tree.{Text}
use Rattle.timefd_lint_drawing.specs.Json.{text_field}
use Rattle.timefd_web.specs.Records.{after_comma, listed}

-- One more of a list.
pub one_more : {X : Type 0} → (f : X → Text) (out whole new : Text) (xs : List X) (i : ℕ) (x : X)
    → i < length xs → out ++ flat_map f (drop i xs) ≡ whole → x ≡ get_or xs i x
    → new ≡ out ++ f x → new ++ flat_map f (drop (i + 1) xs) ≡ whole
one_more f out whole new xs i x less so_far item is =
    let rest = flat_map f (drop (i + 1) xs) in
    ap (λ t. t ++ rest) is
    ∙ (append_assoc out (f x) rest
    ∙ (ap (λ y. out ++ (f y ++ rest)) item
    ∙ (sym (ap (λ l. out ++ flat_map f l) (drop_more xs i x less)) ∙ so_far)))

regrouped : (o a b c d e : Text)
    → o ++ a ++ (b ++ c) ++ d ++ e ≡ o ++ (a ++ (b ++ (c ++ (d ++ e))))
regrouped o a b c d e =
    append_assoc (o ++ a ++ (b ++ c)) d e
    ∙ (append_assoc (o ++ a) (b ++ c) (d ++ e)
    ∙ (append_assoc o a (b ++ c ++ (d ++ e))
    ∙ ap (λ t. o ++ (a ++ t)) (append_assoc b c (d ++ e))))

in_turn : (o a b c d e o1 o2 o3 o4 : Text) → o1 ≡ o ++ a → o2 ≡ o1 ++ (b ++ c) → o3 ≡ o2 ++ d
    → o4 ≡ o3 ++ e → o4 ≡ o ++ (a ++ (b ++ (c ++ (d ++ e))))
in_turn o a b c d e o1 o2 o3 o4 e1 e2 e3 e4 =
    e4 ∙ (ap (λ t. t ++ e) (e3 ∙ ap (λ t. t ++ d) (e2 ∙ ap (λ t. t ++ (b ++ c)) e1))
    ∙ regrouped o a b c d e)

list_is : {X : Type 0} → (f : X → Text) (o front borrowed o1 o2 o3 o4 : Text) (all : List X) (x : X)
    (n : ℕ) → n ≡ length all → 1 ≤ length all → x ≡ get_or all 0 x → borrowed ≡ front
    → o1 ≡ o ++ borrowed → o2 ≡ o1 ++ (codes "[" ++ f x)
    → o3 ≡ o2 ++ flat_map (after_comma f) (take (n - 1) (drop 1 all)) → o4 ≡ o3 ++ codes "]"
    → o4 ≡ o ++ (front ++ listed f all)
list_is f o front borrowed o1 o2 o3 o4 [] x n same some item shown e1 e2 e3 e4 =
    absurd (omega (arith, some))
list_is f o front borrowed o1 o2 o3 o4 (y ∷ ys) x n same some item shown e1 e2 e3 e4 =
    let few : n - 1 ≡ length ys = omega (arith, same) in
    in_turn o front (codes "[") (f y) (flat_map (after_comma f) ys) (codes "]") o1 o2 o3 o4
    (e1 ∙ ap (λ t. o ++ t) shown) (e2 ∙ ap (λ z. o1 ++ (codes "[" ++ f z)) item)
    (e3 ∙ (ap (λ k. o2 ++ flat_map (after_comma f) (take k ys)) few
    ∙ ap (λ l. o2 ++ flat_map (after_comma f) l) (take-length ys)))
    e4

-- What a call that may fail appends if it succeeds.
pub appended : {T E : Type 0} → (r : Result T E) (after before whole : Text)
    → after ≡ (if is_ok r then whole else before) → OnOk r (after ≡ whole)
appended (Ok v) after before whole is = is
appended (Err e) after before whole is = tt

-- The first object, the others, and the bracket that closes the list.
pub all_listed : {X T E : Type 0} → (f : X → Text) (r : Result T E) (o front borrowed o1 o2 o3 o4 : Text)
    (all : List X) (x : X) (n : ℕ) → n ≡ length all → 1 ≤ length all → x ≡ get_or all 0 x
    → borrowed ≡ front → o1 ≡ o ++ borrowed → o2 ≡ o1 ++ (codes "[" ++ f x)
    → o3 ≡ o2 ++ flat_map (after_comma f) (take (n - 1) (drop 1 all)) → OnOk r (o4 ≡ o3 ++ codes "]")
    → OnOk r (o4 ≡ o ++ (front ++ listed f all))
all_listed f r o front borrowed o1 o2 o3 o4 all x n same some item shown e1 e2 e3 last =
    on_ok_weaker r
    (list_is f o front borrowed o1 o2 o3 o4 all x n same some item shown e1 e2 e3) last

-- Three fields, one after another.
pub three_pushed : {T E : Type 0} → (r : Result T E) (o o1 o2 o3 f g h x y z x2 y2 z2 : Text)
    → x ≡ x2 → y ≡ y2 → z ≡ z2 → o1 ≡ o ++ text_field f x → o2 ≡ o1 ++ text_field g y
    → OnOk r (o3 ≡ o2 ++ text_field h z)
    → OnOk r (o3 ≡ o ++ (text_field f x2 ++ text_field g y2 ++ text_field h z2))
three_pushed r o o1 o2 o3 f g h x y z x2 y2 z2 on_x on_y on_z e1 e2 last =
    let a = text_field f x2 in
    let b = text_field g y2 in
    let d = text_field h z2 in
    on_ok_weaker r (λ e3. e3 ∙ (ap (λ t. o2 ++ text_field h t) on_z
    ∙ (ap (λ t. t ++ d) (e2 ∙ (ap (λ t. o1 ++ text_field g t) on_y
    ∙ (ap (λ t. t ++ b) (e1 ∙ ap (λ t. o ++ text_field f t) on_x) ∙ append_assoc o a b)))
    ∙ append_assoc o (a ++ b) d))) last
