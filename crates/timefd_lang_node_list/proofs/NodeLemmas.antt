-- Lists of nodes: one more node after them, and the way back over the last trees.
use Rattle.std.proofs.Common.{◌≡◌, ◌∙◌, ℕ, zero, suc, ◌+◌, ◌-◌, ◌<◌, ◌≤◌, ◌^◌, List, [], ◌∷◌, ◌++◌, map, length, take, drop, refl, sym, ap}
use Rattle.std.proofs.Common.{subst, append_assoc, arith, length-append, length-drop, get_or}
use Rattle.std.proofs.lemmas.List.{take-append-drop, take-append-le, drop-append-le, take_all, drop_all, length-take-le}
use Rattle.std.proofs.Math.Seq.{take-append_seam, drop-append_seam}
use Rattle.std.proofs.lemmas.List.{map-append}
use Rattle.timefd_lang_component.specs.declared.component.Component.{Component}
use Rattle.timefd_lang_node_list.specs.declared.node.Node.{Node}
use Rattle.timefd_lang_component.specs.Modern.{modern}
use Rattle.timefd_lang_component.specs.Tree.{Tree, trees, pack}
use Rattle.timefd_lang_component.specs.Reserved.{tree_count, trees_count, reserve, reserve_first, reserved}
use Rattle.timefd_lang_node_list.specs.Nodes.{Role, text, shown, together, perhaps, either, arity, Part, part, made, before, ending, grown}
use Rattle.timefd_lang_node_list.specs.Nodes.{grown_by, Fits, Fit, kept_bytes, last_kept}

pub grown_by-append : (ts : List Tree) (ps qs : List Part)
    → grown_by ts (ps ++ qs) ≡ grown_by (grown_by ts ps) qs
grown_by-append ts [] qs = refl
grown_by-append ts (p ∷ ps) qs = grown_by-append (grown ts p) ps qs

pub fit_one_more : (ts : List Tree) (ps : List Part) (p : Part) → Fit ts ps
    → Fits (grown_by ts ps) p → Fit ts (ps ++ p ∷ [])
fit_one_more ts [] p h f = (f, tt)
fit_one_more ts (q ∷ ps) p h f = (h.0, fit_one_more (grown ts q) ps p h.1 f)

pub fit_front : (ts : List Tree) (ps qs : List Part) → Fit ts (ps ++ qs) → Fit ts ps
fit_front ts [] qs h = tt
fit_front ts (p ∷ ps) qs h = (h.0, fit_front (grown ts p) ps qs h.1)

pub fit_rest : (ts : List Tree) (ps qs : List Part) → Fit ts (ps ++ qs) → Fit (grown_by ts ps) qs
fit_rest ts [] qs h = h
fit_rest ts (p ∷ ps) qs h = fit_rest (grown ts p) ps qs h.1

pub trees_count-append : (ts us : List Tree)
    → trees_count (trees (ts ++ us)) ≡ trees_count (trees ts) + trees_count (trees us)
trees_count-append [] us = omega arith
trees_count-append (t ∷ ts) us = omega (arith, trees_count-append ts us)

pub one_member : (us : List Tree) → length us ≡ 1 → tree_count (pack us) ≡ trees_count (trees us)
one_member [] h = absurd (omega (arith, h))
one_member (u ∷ []) h = omega arith
one_member (u ∷ v ∷ us) h = absurd (omega (arith, h))

-- a tree has one node more than its members
pub made-count : (r : Role) (us : List Tree) → length us ≡ arity r
    → tree_count (made r us) ≡ 1 + trees_count (trees us)
made-count (text bytes) [] h = refl
made-count (text bytes) (u ∷ us) h = absurd (omega (arith, h))
made-count (shown c) [] h = refl
made-count (shown c) (u ∷ us) h = absurd (omega (arith, h))
made-count (together count) us h = refl
made-count (perhaps format) us h = ap (λ n. 1 + n) (one_member us h)
made-count (either count) us h = refl

pub length-before : (k : ℕ) (ts : List Tree) → length (before k ts) ≡ length ts - k
length-before k ts = length-take-le (length ts - k) ts (omega arith)

pub length-ending : (k : ℕ) (ts : List Tree) → k ≤ length ts → length (ending k ts) ≡ k
length-ending k ts h = omega (arith, length-drop (length ts - k) ts)

pub before-append : (ts us : List Tree) (k : ℕ) → k ≡ length us → before k (ts ++ us) ≡ ts
before-append ts us k e =
    ap (λ n. take n (ts ++ us)) (omega (arith, length-append ts us)) ∙ take-append_seam ts us

pub ending-append : (ts us : List Tree) (k : ℕ) → k ≡ length us → ending k (ts ++ us) ≡ us
ending-append ts us k e =
    ap (λ n. drop n (ts ++ us)) (omega (arith, length-append ts us)) ∙ drop-append_seam ts us

pub before-one_more : (ts : List Tree) (t : Tree) (k : ℕ) → k ≤ length ts
    → before (suc k) (ts ++ t ∷ []) ≡ before k ts
before-one_more ts t k h =
    ap (λ n. take n (ts ++ t ∷ [])) (omega (arith, length-append ts (t ∷ []))) ∙
    take-append-le (length ts - k) ts (t ∷ []) (omega arith)

pub ending-one_more : (ts : List Tree) (t : Tree) (k : ℕ) → k ≤ length ts
    → ending (suc k) (ts ++ t ∷ []) ≡ ending k ts ++ t ∷ []
ending-one_more ts t k h =
    ap (λ n. drop n (ts ++ t ∷ [])) (omega (arith, length-append ts (t ∷ []))) ∙
    drop-append-le (length ts - k) ts (t ∷ []) (omega arith)

-- Nodes up to the last `k` trees, and the nodes of those.
pub record Back (ns : List Part) (k : ℕ) : Type 0 where
  pub kept : List Part
  pub rest : List Part
  pub split : ns ≡ kept ++ rest
  pub reads : grown_by [] kept ≡ before k (grown_by [] ns)
  pub count : length rest ≡ trees_count (trees (ending k (grown_by [] ns)))

pub record Last (ns : List Part) : Type 0 where
  pub front : List Part
  pub last : Part
  pub is : ns ≡ front ++ last ∷ []

pub last_of : (p : Part) (ns : List Part) → Last (p ∷ ns)
last_of p [] = record { front = []; last = p; is = refl }
last_of p (q ∷ ns) = let l = last_of q ns in
    record { front = p ∷ l.front; last = l.last; is = ap (λ xs. p ∷ xs) l.is }

back_none : (ns : List Part) → Back ns 0
back_none ns = record {
  kept = ns;
  rest = [];
  split = append_nil ns;
  reads = before_none (grown_by [] ns);
  count = ap (λ us. trees_count (trees us)) (ending_none (grown_by [] ns));
}
  where
    append_nil : (xs : List Part) → xs ≡ xs ++ []
    append_nil [] = refl
    append_nil (x ∷ xs) = ap (λ ys. x ∷ ys) (append_nil xs)

    before_none : (ts : List Tree) → ts ≡ before 0 ts
    before_none ts = sym (take_all (length ts - 0) ts (omega arith))

    ending_none : (ts : List Tree) → [] ≡ ending 0 ts
    ending_none ts = sym (drop_all (length ts - 0) ts (omega arith))

one_tree_more : (p : Part) (es : List Tree) (t : Tree) (all : List Tree) (outer inner : List Part)
    (ys : List Tree) → all ≡ es ++ t ∷ [] → length outer ≡ trees_count (trees es)
    → length inner ≡ trees_count (trees ys) → tree_count t ≡ 1 + trees_count (trees ys)
    → length (outer ++ (inner ++ p ∷ [])) ≡ trees_count (trees all)
one_tree_more p es t all outer inner ys e a b c =
    omega (
      arith,
      ap (λ xs. trees_count (trees xs)) e,
      a,
      b,
      c,
      trees_count-append es (t ∷ []),
      length-append outer (inner ++ p ∷ []),
      length-append inner (p ∷ []),
    )

-- the way back, if it is known over shorter lists
back_one_more : (ms : List Part) (p : Part) (k : ℕ) → Fit [] (ms ++ p ∷ [])
    → suc k ≤ length (grown_by [] (ms ++ p ∷ []))
    → ((ns : List Part) (j : ℕ) → length ns ≤ length ms → Fit [] ns → j ≤ length (grown_by [] ns)
    → Back ns j)
    → Back (ms ++ p ∷ []) (suc k)
back_one_more ms p k fit h go =
    let us : List Tree = grown_by [] ms in
    let a : ℕ = arity p.role in
    let bs : List Tree = before a us in
    let t : Tree = made p.role (ending a us) in
    let read : grown_by [] (ms ++ p ∷ []) ≡ bs ++ t ∷ [] = grown_by-append [] ms (p ∷ []) in
    let f : Fits us p = (fit_rest [] ms (p ∷ []) fit).0 in
    let front : Fit [] ms = fit_front [] ms (p ∷ []) fit in
    let within : Back ms a = go ms a (omega arith) front f.0 in
    let long : k ≤ length bs = omega (arith, ap length read, length-append bs (t ∷ [])) in
    let shorter : length within.kept ≤ length ms =
    omega (arith, ap length within.split, length-append within.kept within.rest) in
    let above : Back within.kept k =
    go within.kept k shorter (fit_front [] within.kept within.rest
    (subst (λ xs. Fit [] xs) within.split front))
    (subst (λ xs. k ≤ length xs) (sym within.reads) long) in
    let ends : ending (suc k) (grown_by [] (ms ++ p ∷ [])) ≡ ending k bs ++ t ∷ [] =
    ap (λ xs. ending (suc k) xs) read ∙ ending-one_more bs t k long in
    let members : tree_count t ≡ 1 + trees_count (trees (ending a us)) =
    made-count p.role (ending a us) (length-ending a us f.0) in
    let outer : length above.rest ≡ trees_count (trees (ending k bs)) =
    above.count ∙ ap (λ xs. trees_count (trees (ending k xs))) within.reads in
    record {
      kept = above.kept;
      rest = above.rest ++ (within.rest ++ p ∷ []);
      split =
          ap (λ xs. xs ++ p ∷ []) within.split
          ∙ append_assoc within.kept within.rest (p ∷ [])
          ∙ ap (λ xs. xs ++ (within.rest ++ p ∷ [])) above.split
          ∙ append_assoc above.kept above.rest (within.rest ++ p ∷ []);
      reads =
          above.reads
          ∙ ap (λ xs. before k xs) within.reads
          ∙ sym (before-one_more bs t k long)
          ∙ sym (ap (λ xs. before (suc k) xs) read);
      count = one_tree_more p (ending k bs) t _ above.rest within.rest (ending a us) ends outer
          within.count members;
    }

back_up_to : (n : ℕ) (ns : List Part) (k : ℕ) → length ns ≤ n → Fit [] ns
    → k ≤ length (grown_by [] ns) → Back ns k
back_up_to n ns zero l f h = back_none ns
back_up_to n [] (suc k) l f h = absurd (omega (arith, h))
back_up_to zero (p ∷ ns) (suc k) l f h = absurd (omega (arith, l))
back_up_to (suc n) (p ∷ ns) (suc k) l f h =
    let s : Last (p ∷ ns) = last_of p ns in
    let long : length (p ∷ ns) ≡ length s.front + 1 =
    ap length s.is ∙ length-append s.front (s.last ∷ []) in
    subst (λ xs. Back xs (suc k)) (sym s.is)
    (back_one_more s.front s.last k (subst (λ xs. Fit [] xs) s.is f)
    (subst (λ xs. suc k ≤ length (grown_by [] xs)) s.is h)
    (λ xs j m g i. back_up_to n xs j (omega (arith, m, l, long)) g i))

-- from the end of the nodes one can go back over the last trees
pub back : (ns : List Part) (k : ℕ) → Fit [] ns → k ≤ length (grown_by [] ns) → Back ns k
back ns k f h = back_up_to (length ns) ns k (omega arith) f h

-- the last trees have no more nodes than there are
pub count_inside : (ns : List Part) (k : ℕ) → Fit [] ns → k ≤ length (grown_by [] ns)
    → trees_count (trees (ending k (grown_by [] ns))) ≤ length ns
count_inside ns k f h = let b : Back ns k = back ns k f h in
    omega (arith, b.count, ap length b.split, length-append b.kept b.rest)

-- What the node right before the last `k` trees says about one more.
pub record OneBack (ns : List Part) (k m : ℕ) (p : Part) : Type 0 where
  pub tree : Tree
  pub ends : ending (suc k) (grown_by [] ns) ≡ tree ∷ ending k (grown_by [] ns)
  pub nodes : 1 + p.nodes ≡ tree_count tree
  pub bytes : p.bytes ≡ kept_bytes (reserve tree)

-- that node, after which the trees are those up to the last
record Front (ns : List Part) (k : ℕ) : Type 0 where
  front : List Part
  last : Part
  rest : List Part
  split : ns ≡ front ++ last ∷ rest
  count : length rest ≡ trees_count (trees (ending k (grown_by [] ns)))
  reads : grown (grown_by [] front) last ≡ before k (grown_by [] ns)
  fits : Fits (grown_by [] front) last

front_of : (ns : List Part) (k : ℕ) → Fit [] ns → k < length (grown_by [] ns) → Front ns k
front_of ns k f h = from (back ns k f (omega arith))
  where
    some : (b : Back ns k) (xs : List Part) → b.kept ≡ xs → Front ns k
    some b [] e =
        absurd (omega (
          arith,
          ap (λ xs. length (grown_by [] xs)) e,
          ap length b.reads,
          length-before k (grown_by [] ns),
        ))
    some b (x ∷ xs) e =
        let l : Last (x ∷ xs) = last_of x xs in
        let is : b.kept ≡ l.front ++ l.last ∷ [] = e ∙ l.is in
        let split : ns ≡ l.front ++ l.last ∷ b.rest = b.split ∙ ap (λ ys. ys ++ b.rest) is ∙
        append_assoc l.front (l.last ∷ []) b.rest in
        record {
          front = l.front;
          last = l.last;
          rest = b.rest;
          split = split;
          count = b.count;
          reads = sym (grown_by-append [] l.front (l.last ∷ [])) ∙
              ap (λ ys. grown_by [] ys) (sym is) ∙ b.reads;
          fits = (fit_rest [] l.front (l.last ∷ b.rest) (subst (λ ys. Fit [] ys) split f)).0;
        }

    from : Back ns k → Front ns k
    from b = some b b.kept refl

-- there is such a node
pub inside : (ns : List Part) (k m : ℕ) → Fit [] ns → k < length (grown_by [] ns)
    → m ≡ trees_count (trees (ending k (grown_by [] ns))) → m < length ns
inside ns k m f h e =
    let w : Front ns k = front_of ns k f h in
    omega (arith, e, w.count, ap length w.split, length-append w.front (w.last ∷ w.rest))

at_seam : (xs : List Part) (y : Part) (ys : List Part) (n : ℕ) (d : Part) → n ≡ length xs
    → get_or (xs ++ y ∷ ys) n d ≡ y
at_seam [] y ys n d e = rw e refl
at_seam (x ∷ xs) y ys n d e = rw e (at_seam xs y ys (length xs) d refl)

pub one_back : (ns : List Part) (k m : ℕ) (p : Part) → Fit [] ns → k < length (grown_by [] ns)
    → m ≡ trees_count (trees (ending k (grown_by [] ns)))
    → p ≡ get_or ns (length ns - 1 - m) p → OneBack ns k m p
one_back ns k m p f h e is =
    let w : Front ns k = front_of ns k f h in
    let ts : List Tree = grown_by [] ns in
    let us : List Tree = grown_by [] w.front in
    let a : ℕ = arity w.last.role in
    let t : Tree = made w.last.role (ending a us) in
    let position : length ns - 1 - m ≡ length w.front =
    omega (arith, e, w.count, ap length w.split, length-append w.front (w.last ∷ w.rest)) in
    let same : p ≡ w.last = is ∙ ap (λ xs. get_or xs (length ns - 1 - m) p) w.split ∙
    at_seam w.front w.last w.rest (length ns - 1 - m) p position in
    let whole : ts ≡ before a us ++ (t ∷ ending k ts) =
    sym (take-append-drop (length ts - k) ts) ∙ ap (λ xs. xs ++ ending k ts) (sym w.reads) ∙
    append_assoc (before a us) (t ∷ []) (ending k ts) in
    let long : suc k ≡ length (t ∷ ending k ts) = ap suc (sym (length-ending k ts (omega arith))) in
    record {
      tree = t;
      ends = ap (λ xs. ending (suc k) xs) whole ∙ ending-append (before a us) (t ∷ ending k ts)
          (suc k) long;
      nodes = ap (λ q. 1 + q.nodes) same ∙ ap (λ n. 1 + n) w.fits.1 ∙
          sym (made-count w.last.role (ending a us) (length-ending a us w.fits.0));
      bytes = ap (λ q. q.bytes) same ∙ w.fits.2;
    }

-- its nodes are there too
pub step_inside : (ns : List Part) (k m : ℕ) (p : Part) → Fit [] ns → k < length (grown_by [] ns)
    → m ≡ trees_count (trees (ending k (grown_by [] ns)))
    → OneBack ns k m p → m + (1 + p.nodes) ≤ length ns
step_inside ns k m p f h e o =
    omega (arith, count_inside ns (suc k) f h, ap (λ us. trees_count (trees us)) o.ends, o.nodes, e)

-- The way back over the nodes themselves.
pub found_part : (xs : List Node) (i : ℕ) (n : Node) → n ≡ get_or xs i n
    → part n ≡ get_or (map part xs) i (part n)
found_part xs i n e = ap part e ∙ sym (get_or-part xs i n)
  where
    get_or-part : (xs : List Node) (i : ℕ) (d : Node)
        → get_or (map part xs) i (part d) ≡ part (get_or xs i d)
    get_or-part [] i d = refl
    get_or-part (x ∷ xs) zero d = refl
    get_or-part (x ∷ xs) (suc i) d = get_or-part xs i d

pub length-parts : (xs : List Node) → length (map part xs) ≡ length xs
length-parts [] = refl
length-parts (x ∷ xs) = ap suc (length-parts xs)

pub node_back : (xs : List Node) (k m : ℕ) (n : Node) → Fit [] (map part xs)
    → k < length (grown_by [] (map part xs))
    → m ≡ trees_count (trees (ending k (grown_by [] (map part xs))))
    → n ≡ get_or xs (length xs - 1 - m) n → OneBack (map part xs) k m (part n)
node_back xs k m n f h e is =
    one_back (map part xs) k m (part n) f h e (found_part xs (length xs - 1 - m) n is ∙
    ap (λ l. get_or (map part xs) (l - 1 - m) (part n)) (sym (length-parts xs)))

-- a node finds its members among the trees of those before it
pub fits_at : (ts : List Tree) (xs : List Node) (i : ℕ) (n : Node) → Fit ts (map part xs)
    → i < length xs → n ≡ get_or xs i n → Fits (grown_by ts (map part (take i xs))) (part n)
fits_at ts [] i n f h e = absurd (omega (arith, h))
fits_at ts (x ∷ xs) zero n f h e = rw e f.0
fits_at ts (x ∷ xs) (suc i) n f h e = fits_at (grown ts (part x)) xs i n f.1 (omega (arith, h)) e

pub grown_at : (ts : List Tree) (xs : List Node) (i : ℕ) (n : Node) → i < length xs
    → n ≡ get_or xs i n
    → grown_by ts (map part (take (suc i) xs)) ≡ grown (grown_by ts (map part (take i xs))) (part n)
grown_at ts [] i n h e = absurd (omega (arith, h))
grown_at ts (x ∷ xs) zero n h e = ap (λ y. grown ts (part y)) (sym e)
grown_at ts (x ∷ xs) (suc i) n h e = grown_at (grown ts (part x)) xs i n (omega (arith, h)) e

-- What adding a node requires, and what it results in.
pub before_zero : (ts : List Tree) → before 0 ts ≡ ts
before_zero ts = take_all (length ts - 0) ts (omega arith)

pub ending_zero : (ts : List Tree) → ending 0 ts ≡ []
ending_zero ts = drop_all (length ts - 0) ts (omega arith)

pub none_of : (ts : List Tree) → 0 ≡ trees_count (trees (ending 0 ts))
none_of ts = ap (λ us. trees_count (trees us)) (sym (ending_zero ts))

pub text_fits : (ts : List Tree) (bytes : List ℕ) → length bytes < 2 ^ 64
    → Fits ts (record { role = text bytes; nodes = 0; bytes = length bytes })
text_fits ts bytes h = (omega arith, none_of ts, omega (arith, h))

pub component_fits : (ts : List Tree) (c : Component) (kept : ℕ) → kept < 2 ^ 64
    → kept ≡ reserved (modern c) → Fits ts (record { role = shown c; nodes = 0; bytes = kept })
component_fits ts c kept h e = (omega arith, none_of ts, omega (arith, h, e))

pub grown_one_more : (xs : List Node) (n : Node)
    → grown_by [] (map part (xs ++ n ∷ [])) ≡ grown (grown_by [] (map part xs)) (part n)
grown_one_more xs n = ap (λ ps. grown_by [] ps) (map-append part xs (n ∷ [])) ∙
    grown_by-append [] (map part xs) (part n ∷ [])

pub fit_node_more : (xs : List Node) (n : Node) → Fit [] (map part xs)
    → Fits (grown_by [] (map part xs)) (part n) → Fit [] (map part (xs ++ n ∷ []))
fit_node_more xs n h f = subst (λ ps. Fit [] ps) (sym (map-append part xs (n ∷ [])))
    (fit_one_more [] (map part xs) (part n) h f)

-- Some nodes are some trees.
pub grown_some : (ps : List Part) → 0 < length ps → 0 < length (grown_by [] ps)
grown_some [] h = absurd (omega (arith, h))
grown_some (p ∷ ps) h =
    let l : Last (p ∷ ps) = last_of p ps in
    let us : List Tree = grown_by [] l.front in
    let a : ℕ = arity l.last.role in
    omega (
      arith,
      ap (λ xs. length (grown_by [] xs)) l.is,
      ap length (grown_by-append [] l.front (l.last ∷ [])),
      length-append (before a us) (made l.last.role (ending a us) ∷ []),
    )

pub last_node_kept : (xs : List Node) (n : Node) → Fit [] (map part xs) → 0 < length xs
    → n ≡ get_or xs (length xs - 1) n → (part n).bytes ≡ last_kept (grown_by [] (map part xs))
last_node_kept xs n f h is =
    let ts : List Tree = grown_by [] (map part xs) in
    let some : 0 < length ts = grown_some (map part xs) (omega (arith, length-parts xs)) in
    let o : OneBack (map part xs) 0 0 (part n) =
    node_back xs 0 0 n f some (none_of ts) (is ∙ ap (λ i. get_or xs i n) (omega arith)) in
    o.bytes ∙ sym (ap (λ us. kept_bytes (reserve_first (trees us))) o.ends)

pub fit_take : (ts : List Tree) (xs : List Node) (n : ℕ) → Fit ts (map part xs)
    → Fit ts (map part (take n xs))
fit_take ts xs zero f = tt
fit_take ts [] (suc n) f = tt
fit_take ts (x ∷ xs) (suc n) f = (f.0, fit_take (grown ts (part x)) xs n f.1)

pub last_members : (xs : List Node) (n : Node) (i j : ℕ) → Fit [] (map part xs) → i ≡ j
    → i < length xs → n ≡ get_or xs i n
    → arity (part n).role ≤ length (grown_by [] (map part (take j xs)))
last_members xs n i j f e h is = subst
    (λ k. arity (part n).role ≤ length (grown_by [] (map part (take k xs)))) e
    (fits_at [] xs i n f h is).0
