-- What is written, one part after another.
use Rattle.std.proofs.Common.{◌≡◌, ◌∙◌, ℕ, ◌+◌, ◌≤◌, get_or, List, [], ◌∷◌, ◌++◌, length, take, drop, set, refl, sym, ap, append_assoc, arith, length-append}
use Rattle.std.proofs.lemmas.List.{take-append-drop, take_more_set, drop-set-lt, length-take-le, length-set, length-drop, append-nil, drop-drop}
use Rattle.std.proofs.Math.Seq.{drop-append-add, take-append-add}
use Rattle.timefd_lang_component.specs.Tree.{Text, Tree}
use Rattle.timefd_c_nodes.specs.declared.node.RawNode.{RawNode}
use Rattle.timefd_c_nodes.specs.declared.position.WritePosition.{WritePosition}
use Rattle.timefd_c_nodes.specs.Encoding.{nodes_by, own_text, texts_of, literals_of}
use Rattle.timefd_c_nodes.specs.declared.position.TheConstants.{START}
use Rattle.timefd_c_nodes.specs.Writing.{overwritten, nodes_written, literals_written, WritesParts}

pub texts_of-append : {A : Type 0} → (own : A → Text) (xs ys : List A)
    → texts_of own (xs ++ ys) ≡ texts_of own xs ++ texts_of own ys
texts_of-append own [] ys = refl
texts_of-append own (x ∷ xs) ys = ap (λ l. own x ++ l) (texts_of-append own xs ys) ∙
    sym (append_assoc (own x) (texts_of own xs) (texts_of own ys))

pub texts-length : {A : Type 0} → (own : A → Text) (xs ys : List A)
    → length (texts_of own (xs ++ ys)) ≡ length (texts_of own xs) + length (texts_of own ys)
texts-length own xs ys = ap length (texts_of-append own xs ys) ∙
    length-append (texts_of own xs) (texts_of own ys)

pub literals_of-append : (xs ys : List Tree)
    → literals_of (xs ++ ys) ≡ literals_of xs ++ literals_of ys
literals_of-append xs ys = texts_of-append own_text xs ys

pub literals-length : (xs ys : List Tree)
    → length (literals_of (xs ++ ys)) ≡ length (literals_of xs) + length (literals_of ys)
literals-length xs ys = texts-length own_text xs ys

pub nodes_written-append : {A : Type 0} → (node : ℕ → ℕ → A → RawNode) (own : A → Text) (xs ys : List A)
    (at used : ℕ) (ns : List RawNode)
    → nodes_written node own at used (xs ++ ys) ns ≡ nodes_written node own (at + length xs)
    (used + length (texts_of own xs)) ys (nodes_written node own at used xs ns)
nodes_written-append node own [] ys at used ns =
    let a : at ≡ at + 0 = omega arith in
    let u : used ≡ used + 0 = omega arith in
    ap (λ k. nodes_written node own k used ys ns) a ∙
    ap (λ k. nodes_written node own (at + 0) k ys ns) u
nodes_written-append node own (x ∷ xs) ys at used ns =
    let ms : List RawNode = set ns at (node at used x) in
    let next : ℕ = used + length (own x) in
    let a : at + 1 + length xs ≡ at + length (x ∷ xs) = omega arith in
    let u : next + length (texts_of own xs) ≡ used + length (texts_of own (x ∷ xs)) =
    omega (arith, length-append (own x) (texts_of own xs)) in
    nodes_written-append node own xs ys (at + 1) next ms
    ∙ ap (λ k. nodes_written node own k (next + length (texts_of own xs)) ys
    (nodes_written node own (at + 1) next xs ms)) a
    ∙ ap (λ k. nodes_written node own (at + length (x ∷ xs)) k ys
    (nodes_written node own (at + 1) next xs ms)) u

pub literals_written-append : {A : Type 0} → (own : A → Text) (xs ys : List A) (used : ℕ)
    (bytes : Text)
    → literals_written own used (xs ++ ys) bytes ≡ literals_written own
    (used + length (texts_of own xs)) ys (literals_written own used xs bytes)
literals_written-append own [] ys used bytes =
    let u : used ≡ used + 0 = omega arith in
    ap (λ k. literals_written own k ys bytes) u
literals_written-append own (x ∷ xs) ys used bytes =
    let next : ℕ = used + length (own x) in
    let more : Text = overwritten used (own x) bytes in
    let u : next + length (texts_of own xs) ≡ used + length (texts_of own (x ∷ xs)) =
    omega (arith, length-append (own x) (texts_of own xs)) in
    literals_written-append own xs ys next more ∙
    ap (λ k. literals_written own k ys (literals_written own next xs more)) u

-- The fronts of the buffers.

front_nodes : {A : Type 0} → (node : ℕ → ℕ → A → RawNode) (own : A → Text) (xs : List A)
    (at used : ℕ) (ns : List RawNode) → at + length xs ≤ length ns
    → nodes_written node own at used xs ns ≡ take at ns ++ nodes_by node own at used xs ++ drop
    (at + length xs) ns
front_nodes node own [] at used ns h =
    let position : at ≡ at + 0 = omega arith in
    sym (take-append-drop at ns)
    ∙ ap (λ l. l ++ drop at ns) (sym (append-nil (take at ns)))
    ∙ ap (λ k. (take at ns ++ []) ++ drop k ns) position
front_nodes node own (x ∷ xs) at used ns h =
    let n : RawNode = node at used x in
    let rest : List RawNode = nodes_by node own (at + 1) (used + length (own x)) xs in
    let long : length (set ns at n) ≡ length ns = length-set ns at n in
    let position : at + 1 + length xs ≡ at + length (x ∷ xs) = omega arith in
    front_nodes node own xs (at + 1) (used + length (own x)) (set ns at n) (omega (arith, h, long))
    ∙ ap (λ l. (l ++ rest) ++ drop (at + 1 + length xs) (set ns at n))
    (take_more_set ns at n (omega (arith, h)))
    ∙ ap (λ l. l ++ drop (at + 1 + length xs) (set ns at n))
    (append_assoc (take at ns) (n ∷ []) rest)
    ∙ ap (λ l. (take at ns ++ n ∷ rest) ++ l)
    (drop-set-lt (at + 1 + length xs) ns at n (omega arith))
    ∙ ap (λ k. (take at ns ++ n ∷ rest) ++ drop k ns) position

-- the bytes up to the end of the replaced ones
front_length : (at : ℕ) (text bytes : Text) → at + length text ≤ length bytes
    → at + length text ≡ length (take at bytes ++ text)
front_length at text bytes h =
    omega (
      arith,
      length-append (take at bytes) text,
      length-take-le at bytes (omega (arith, h)),
    )

-- what follows the replaced bytes
overwritten-after : (at k : ℕ) (text bytes : Text) → at + length text ≤ length bytes
    → drop (at + length text + k) (overwritten at text bytes) ≡ drop (at + length text + k) bytes
overwritten-after at k text bytes h =
    let front : Text = take at bytes ++ text in
    ap (λ n. drop (n + k) (front ++ drop (at + length text) bytes)) (front_length at text bytes h)
    ∙ drop-append-add front (drop (at + length text) bytes) k
    ∙ drop-drop k (at + length text) bytes

pub overwritten-length : (at : ℕ) (text bytes : Text) → at + length text ≤ length bytes
    → length (overwritten at text bytes) ≡ length bytes
overwritten-length at text bytes h =
    let front : Text = take at bytes ++ text in
    length-append front (drop (at + length text) bytes) ∙
    omega (arith, h, front_length at text bytes h, length-drop (at + length text) bytes)

-- one byte is replaced
pub one_byte : (at : ℕ) (text bytes : Text) → length text ≡ 1 → at + length text ≤ length bytes
    → set bytes at (get_or text 0 0) ≡ overwritten at text bytes
one_byte at [] bytes one h = absurd (omega (arith, one))
one_byte at (x ∷ []) bytes one h =
    sym (take-append-drop (at + 1) (set bytes at x))
    ∙ ap (λ l. l ++ drop (at + 1) (set bytes at x)) (take_more_set bytes at x (omega (arith, h)))
    ∙ ap (λ l. (take at bytes ++ x ∷ []) ++ l) (drop-set-lt (at + 1) bytes at x (omega arith))
one_byte at (x ∷ y ∷ text) bytes one h = absurd (omega (arith, one))

overwritten-front : (at : ℕ) (text bytes : Text) → at + length text ≤ length bytes
    → take (at + length text) (overwritten at text bytes) ≡ take at bytes ++ text
overwritten-front at text bytes h =
    let front : Text = take at bytes ++ text in
    let long : at + length text ≡ length front + 0 = omega (arith, front_length at text bytes h) in
    ap (λ n. take n (front ++ drop (at + length text) bytes)) long
    ∙ take-append-add front (drop (at + length text) bytes) 0
    ∙ append-nil front

front_literals : {A : Type 0} → (own : A → Text) (xs : List A) (used : ℕ) (bytes : Text)
    → used + length (texts_of own xs) ≤ length bytes
    → literals_written own used xs bytes ≡ take used bytes ++ texts_of own xs ++ drop
    (used + length (texts_of own xs)) bytes
front_literals own [] used bytes h =
    let position : used ≡ used + 0 = omega arith in
    sym (take-append-drop used bytes)
    ∙ ap (λ l. l ++ drop used bytes) (sym (append-nil (take used bytes)))
    ∙ ap (λ k. (take used bytes ++ []) ++ drop k bytes) position
front_literals own (x ∷ xs) used bytes h =
    let text : Text = own x in
    let rest : Text = texts_of own xs in
    let next : ℕ = used + length text in
    let more : Text = overwritten used text bytes in
    let total : length (text ++ rest) ≡ length text + length rest = length-append text rest in
    let fits : next ≤ length bytes = omega (arith, h, total) in
    let position : next + length rest ≡ used + length (text ++ rest) = omega (arith, total) in
    front_literals own xs next more (omega (arith, h, total, overwritten-length used text bytes fits))
    ∙ ap (λ l. (l ++ rest) ++ drop (next + length rest) more)
    (overwritten-front used text bytes fits)
    ∙ ap (λ l. ((take used bytes ++ text) ++ rest) ++ l)
    (overwritten-after used (length rest) text bytes fits)
    ∙ ap (λ l. l ++ drop (next + length rest) bytes) (append_assoc (take used bytes) text rest)
    ∙ ap (λ k. (take used bytes ++ (text ++ rest)) ++ drop k bytes) position

-- The fronts, after everything was written from the first position on.
pub record Fronts {A : Type 0} (node : ℕ → ℕ → A → RawNode) (own : A → Text) (xs : List A)
    (ns ms : List RawNode) (a b : Text) : Type 0 where
  pub nodes : ms ≡ nodes_by node own 0 0 xs ++ drop (length xs) ns
  pub literals : b ≡ texts_of own xs ++ drop (length (texts_of own xs)) a

pub fronts : {A : Type 0} → (node : ℕ → ℕ → A → RawNode) (own : A → Text) (xs : List A) (to : WritePosition)
    (ns ms : List RawNode) (a b : Text) → length xs ≤ length ns → length (texts_of own xs) ≤ length a
    → WritesParts node own xs START to ns ms a b → Fronts node own xs ns ms a b
fronts node own xs to ns ms a b node_room literal_room w = record {
  nodes =
      w.nodes (omega (arith, node_room))
      ∙ front_nodes node own xs 0 0 ns (omega (arith, node_room))
      ∙ ap (λ k. nodes_by node own 0 0 xs ++ drop k ns) nothing_before;
  literals =
      w.literals (omega (arith, literal_room))
      ∙ front_literals own xs 0 a (omega (arith, literal_room))
      ∙ ap (λ k. texts_of own xs ++ drop k a) no_byte_before;
}
  where
    nothing_before : 0 + length xs ≡ length xs
    nothing_before = omega arith

    no_byte_before : 0 + length (texts_of own xs) ≡ length (texts_of own xs)
    no_byte_before = omega arith
