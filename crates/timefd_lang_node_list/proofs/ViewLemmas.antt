-- The nodes of some trees side by side, read alone: those of the last trees, and those of one tree.
use Rattle.std.proofs.Common.{◌≡◌, ◌∙◌, ℕ, zero, suc, ◌+◌, ◌-◌, ◌≤◌, List, [], ◌∷◌, ◌++◌, map, length, take, drop, max, refl, sym, ap}
use Rattle.std.proofs.Common.{subst, append_assoc, arith, length-append, get_or}
use Rattle.std.proofs.lemmas.List.{append-nil, take-append-drop, take-map, drop-map, take_all}
use Rattle.std.proofs.Math.Seq.{take-append_seam, drop-append_seam}
use Rattle.timefd_lang_node_list.specs.declared.node.Node.{Node}
use Rattle.timefd_lang_node_list.specs.Nodes.{Part, part, arity, made, before, ending, grown, grown_by, Fits, Fit, kept_bytes}
use Rattle.timefd_lang_component.specs.Reserved.{reserve, tree_count, trees_count}
use Rattle.timefd_lang_component.specs.Tree.{Tree, trees, pack}
use Rattle.timefd_lang_node_list.proofs.NodeLemmas.{Last, last_of, grown_by-append, fit_one_more, fit_front, fit_rest, fits_at, grown_at}
use Rattle.timefd_lang_node_list.proofs.NodeLemmas.{grown_some, before-append, ending-append, before-one_more, ending-one_more, before_zero}
use Rattle.timefd_lang_node_list.proofs.NodeLemmas.{ending_zero, length-before, length-ending, Back, back, length-parts, one_member}

-- Nodes after some trees leave those as they are.
before_frame : (ts us : List Tree) (a : ℕ) → a ≤ length us → before a (ts ++ us) ≡ ts ++ before a us
before_frame ts us a h =
    ap (λ xs. before a (ts ++ xs)) (sym (take-append-drop (length us - a) us))
    ∙ ap (λ xs. before a xs) (sym (append_assoc ts (before a us) (ending a us)))
    ∙ before-append (ts ++ before a us) (ending a us) a (sym (length-ending a us h))

pub ending_frame : (ts us : List Tree) (a : ℕ) → a ≤ length us → ending a (ts ++ us) ≡ ending a us
ending_frame ts us a h =
    ap (λ xs. ending a (ts ++ xs)) (sym (take-append-drop (length us - a) us))
    ∙ ap (λ xs. ending a xs) (sym (append_assoc ts (before a us) (ending a us)))
    ∙ ending-append (ts ++ before a us) (ending a us) a (sym (length-ending a us h))

grown_frame : (ts us : List Tree) (p : Part) → arity p.role ≤ length us
    → grown (ts ++ us) p ≡ ts ++ grown us p
grown_frame ts us p h =
    let a : ℕ = arity p.role in
    ap (λ xs. xs ++ made p.role (ending a (ts ++ us)) ∷ []) (before_frame ts us a h)
    ∙ ap (λ xs. (ts ++ before a us) ++ made p.role xs ∷ []) (ending_frame ts us a h)
    ∙ append_assoc ts (before a us) (made p.role (ending a us) ∷ [])

-- a node looks only at its members
fits_same : (ts us : List Tree) (p : Part) → Fits ts p → arity p.role ≤ length us
    → ending (arity p.role) us ≡ ending (arity p.role) ts → Fits us p
fits_same ts us p f h e = (
  h,
  f.1 ∙ sym (ap (λ xs. trees_count (trees xs)) e),
  f.2 ∙
      sym (ap (λ xs. kept_bytes (reserve (made p.role xs))) e),
)

fits_frame : (ts us : List Tree) (p : Part) → Fits us p → Fits (ts ++ us) p
fits_frame ts us p f = fits_same us (ts ++ us) p f (omega (arith, f.0, length-append ts us))
    (ending_frame ts us (arity p.role) f.0)

grown_by_frame : (ts us : List Tree) (ps : List Part) → Fit us ps
    → grown_by (ts ++ us) ps ≡ ts ++ grown_by us ps
grown_by_frame ts us [] f = refl
grown_by_frame ts us (p ∷ ps) f = ap (λ xs. grown_by xs ps) (grown_frame ts us p f.0.0) ∙
    grown_by_frame ts (grown us p) ps f.1

fit_frame : (ts us : List Tree) (ps : List Part) → Fit us ps → Fit (ts ++ us) ps
fit_frame ts us [] f = tt
fit_frame ts us (p ∷ ps) f = (
  fits_frame ts us p f.0,
  subst (λ xs. Fit xs ps) (sym (grown_frame ts us p f.0.0))
      (fit_frame ts (grown us p) ps f.1),
)

grown_by_after : (ts : List Tree) (ps : List Part) → Fit [] ps
    → grown_by ts ps ≡ ts ++ grown_by [] ps
grown_by_after ts ps f = ap (λ xs. grown_by xs ps) (sym (append-nil ts)) ∙
    grown_by_frame ts [] ps f

fit_after : (ts : List Tree) (ps : List Part) → Fit [] ps → Fit ts ps
fit_after ts ps f = subst (λ xs. Fit xs ps) (append-nil ts) (fit_frame ts [] ps f)

fit_both : (ts : List Tree) (ps qs : List Part) → Fit ts ps → Fit (grown_by ts ps) qs
    → Fit ts (ps ++ qs)
fit_both ts [] qs f g = g
fit_both ts (p ∷ ps) qs f g = (f.0, fit_both (grown ts p) ps qs f.1 g)

-- Nodes up to the last `k` trees, and the nodes of those, which read alone as those trees.
pub record Own (ns : List Part) (k : ℕ) : Type 0 where
  pub kept : List Part
  pub rest : List Part
  pub split : ns ≡ kept ++ rest
  pub reads : grown_by [] kept ≡ before k (grown_by [] ns)
  pub alone : grown_by [] rest ≡ ending k (grown_by [] ns)
  pub fit : Fit [] rest

own_none : (ns : List Part) → Own ns 0
own_none ns = record {
  kept = ns;
  rest = [];
  split = sym (append-nil ns);
  reads = sym (before_zero (grown_by [] ns));
  alone = sym (ending_zero (grown_by [] ns));
  fit = tt;
}

-- one node after its members, which follow some trees
grown_after : (es ys us : List Tree) (p : Part) → Fits us p → ys ≡ ending (arity p.role) us
    → grown (es ++ ys) p ≡ es ++ made p.role ys ∷ []
grown_after es ys us p f e =
    let a : ℕ = arity p.role in
    let long : a ≡ length ys = sym (length-ending a us f.0) ∙ ap length (sym e) in
    ap (λ xs. xs ++ made p.role (ending a (es ++ ys)) ∷ []) (before-append es ys a long) ∙
    ap (λ xs. es ++ made p.role xs ∷ []) (ending-append es ys a long)

fits_after : (es ys us : List Tree) (p : Part) → Fits us p → ys ≡ ending (arity p.role) us
    → Fits (es ++ ys) p
fits_after es ys us p f e =
    let a : ℕ = arity p.role in
    let long : a ≡ length ys = sym (length-ending a us f.0) ∙ ap length (sym e) in
    fits_same us (es ++ ys) p f (omega (arith, long, length-append es ys))
    (ending-append es ys a long ∙ e)

-- the nodes of the last trees, if that is known over shorter lists
own_one_more : (ms : List Part) (p : Part) (k : ℕ) → Fit [] (ms ++ p ∷ [])
    → suc k ≤ length (grown_by [] (ms ++ p ∷ []))
    → ((ns : List Part) (j : ℕ) → length ns ≤ length ms → Fit [] ns → j ≤ length (grown_by [] ns)
    → Own ns j)
    → Own (ms ++ p ∷ []) (suc k)
own_one_more ms p k fit h go =
    let us : List Tree = grown_by [] ms in
    let a : ℕ = arity p.role in
    let bs : List Tree = before a us in
    let ys : List Tree = ending a us in
    let t : Tree = made p.role ys in
    let es : List Tree = ending k bs in
    let read : grown_by [] (ms ++ p ∷ []) ≡ bs ++ t ∷ [] = grown_by-append [] ms (p ∷ []) in
    let f : Fits us p = (fit_rest [] ms (p ∷ []) fit).0 in
    let front : Fit [] ms = fit_front [] ms (p ∷ []) fit in
    let within : Own ms a = go ms a (omega arith) front f.0 in
    let long : k ≤ length bs = omega (arith, ap length read, length-append bs (t ∷ [])) in
    let shorter : length within.kept ≤ length ms =
    omega (arith, ap length within.split, length-append within.kept within.rest) in
    let above : Own within.kept k =
    go within.kept k shorter (fit_front [] within.kept within.rest
    (subst (λ xs. Fit [] xs) within.split front))
    (subst (λ xs. k ≤ length xs) (sym within.reads) long) in
    let ends : ending (suc k) (grown_by [] (ms ++ p ∷ [])) ≡ es ++ t ∷ [] =
    ap (λ xs. ending (suc k) xs) read ∙ ending-one_more bs t k long in
    let outer : grown_by [] above.rest ≡ es = above.alone ∙ ap (λ xs. ending k xs) within.reads in
    let inner : grown_by es within.rest ≡ es ++ ys = grown_by_after es within.rest within.fit ∙
    ap (λ xs. es ++ xs) within.alone in
    record {
      kept = above.kept;
      rest = above.rest ++ (within.rest ++ p ∷ []);
      split =
          ap (λ xs. xs ++ p ∷ []) within.split
          ∙ append_assoc within.kept within.rest (p ∷ [])
          ∙ ap (λ xs. xs ++ (within.rest ++ p ∷ [])) above.split
          ∙ append_assoc above.kept above.rest (within.rest ++ p ∷ []);
      reads =
          above.reads
          ∙ ap (λ xs. before k xs) within.reads
          ∙ sym (before-one_more bs t k long)
          ∙ sym (ap (λ xs. before (suc k) xs) read);
      alone =
          grown_by-append [] above.rest (within.rest ++ p ∷ [])
          ∙ ap (λ xs. grown_by xs (within.rest ++ p ∷ [])) outer
          ∙ grown_by-append es within.rest (p ∷ [])
          ∙ ap (λ xs. grown xs p) inner
          ∙ grown_after es ys us p f refl
          ∙ sym ends;
      fit =
          fit_both [] above.rest (within.rest ++ p ∷ []) above.fit
          (subst (λ xs. Fit xs (within.rest ++ p ∷ [])) (sym outer)
          (fit_one_more es within.rest p (fit_after es within.rest within.fit)
          (subst (λ xs. Fits xs p) (sym inner) (fits_after es ys us p f refl))));
    }

own_up_to : (n : ℕ) (ns : List Part) (k : ℕ) → length ns ≤ n → Fit [] ns
    → k ≤ length (grown_by [] ns) → Own ns k
own_up_to n ns zero l f h = own_none ns
own_up_to n [] (suc k) l f h = absurd (omega (arith, h))
own_up_to zero (p ∷ ns) (suc k) l f h = absurd (omega (arith, l))
own_up_to (suc n) (p ∷ ns) (suc k) l f h =
    let s : Last (p ∷ ns) = last_of p ns in
    let long : length (p ∷ ns) ≡ length s.front + 1 =
    ap length s.is ∙ length-append s.front (s.last ∷ []) in
    subst (λ xs. Own xs (suc k)) (sym s.is)
    (own_one_more s.front s.last k (subst (λ xs. Fit [] xs) s.is f)
    (subst (λ xs. suc k ≤ length (grown_by [] xs)) s.is h)
    (λ xs j m g i. own_up_to n xs j (omega (arith, m, l, long)) g i))

pub own : (ns : List Part) (k : ℕ) → Fit [] ns → k ≤ length (grown_by [] ns) → Own ns k
own ns k f h = own_up_to (length ns) ns k (omega arith) f h

-- nodes that fit have one for each part of their trees
pub count_all : (ps : List Part) → Fit [] ps → length ps ≡ trees_count (trees (grown_by [] ps))
count_all ps f = from (back ps (length (grown_by [] ps)) f (omega arith))
  where
    none_kept : (ks : List Part) → length (grown_by [] ks) ≡ 0 → length ks ≡ 0
    none_kept [] h = refl
    none_kept (p ∷ ks) h = absurd (omega (arith, h, grown_some (p ∷ ks) (omega arith)))

    from : Back ps (length (grown_by [] ps)) → length ps ≡ trees_count (trees (grown_by [] ps))
    from b =
        let none : length b.kept ≡ 0 =
        none_kept b.kept (ap length b.reads ∙
        length-before (length (grown_by [] ps)) (grown_by [] ps) ∙ omega arith) in
        let all : ending (length (grown_by [] ps)) (grown_by [] ps) ≡ grown_by [] ps =
        ending-append [] (grown_by [] ps) (length (grown_by [] ps)) refl in
        omega (
          arith,
          none,
          b.count,
          ap length b.split,
          length-append b.kept b.rest,
          ap (λ us. trees_count (trees us)) all,
        )

-- Nodes cut before those of the last `k` trees.
pub record Cut (xs : List Node) (k : ℕ) (front after : List Node) : Type 0 where
  pub front_fit : Fit [] (map part front)
  pub front_trees : grown_by [] (map part front) ≡ before k (grown_by [] (map part xs))
  pub after_fit : Fit [] (map part after)
  pub after_trees : grown_by [] (map part after) ≡ ending k (grown_by [] (map part xs))

pub cut : (xs fs bs : List Node) (k m : ℕ) → Fit [] (map part xs)
    → k ≤ length (grown_by [] (map part xs))
    → m ≡ trees_count (trees (ending k (grown_by [] (map part xs))))
    → fs ≡ take (length xs - m) xs → bs ≡ drop (length xs - m) xs → Cut xs k fs bs
cut xs fs bs k m f h e front after = from (own (map part xs) k f h)
  where
    from : Own (map part xs) k → Cut xs k fs bs
    from o =
        let position : length xs - m ≡ length o.kept =
        omega (
          arith,
          e,
          ap (λ us. trees_count (trees us)) o.alone,
          count_all o.rest o.fit,
          ap length o.split,
          length-append o.kept o.rest,
          length-parts xs,
        ) in
        let fronts : map part fs ≡ o.kept =
        ap (λ ys. map part ys) front ∙ sym (take-map part (length xs - m) xs) ∙
        ap (λ n. take n (map part xs)) position ∙ ap (λ ps. take (length o.kept) ps) o.split ∙
        take-append_seam o.kept o.rest in
        let behinds : map part bs ≡ o.rest =
        ap (λ ys. map part ys) after ∙ sym (drop-map part (length xs - m) xs) ∙
        ap (λ n. drop n (map part xs)) position ∙ ap (λ ps. drop (length o.kept) ps) o.split ∙
        drop-append_seam o.kept o.rest in
        record {
          front_fit = subst (λ ps. Fit [] ps) (sym fronts)
              (fit_front [] o.kept o.rest (subst (λ ps. Fit [] ps) o.split f));
          front_trees = ap (λ ps. grown_by [] ps) fronts ∙ o.reads;
          after_fit = subst (λ ps. Fit [] ps) (sym behinds) o.fit;
          after_trees = ap (λ ps. grown_by [] ps) behinds ∙ o.alone;
        }

-- One tree: all trees before its node are its members.
pub record One (xs : List Node) (n : Node) : Type 0 where
  pub members : arity (part n).role ≡ length (grown_by [] (map part (take (length xs - 1) xs)))
  pub tree : pack (grown_by [] (map part xs)) ≡ made (part n).role
      (grown_by [] (map part (take (length xs - 1) xs)))
  pub bytes : (part n).bytes ≡ kept_bytes (reserve (pack (grown_by [] (map part xs))))

all_members : (us : List Tree) (p : Part) → Fits us p → length (grown us p) ≤ 1
    → arity p.role ≡ length us
all_members us p f h = omega (
  arith,
  f.0,
  h,
  length-append (before (arity p.role) us) (made p.role (ending (arity p.role) us) ∷ []),
  length-before (arity p.role) us,
)

one_grown : (us : List Tree) (p : Part) → arity p.role ≡ length us
    → grown us p ≡ made p.role us ∷ []
one_grown us p e =
    let a : ℕ = arity p.role in
    ap (λ xs. xs ++ made p.role (ending a us) ∷ []) (before-append [] us a e) ∙
    ap (λ xs. made p.role xs ∷ []) (ending-append [] us a e)

pub one : (xs : List Node) (n : Node) → Fit [] (map part xs)
    → length (grown_by [] (map part xs)) ≤ 1 → 1 ≤ length xs → n ≡ get_or xs (length xs - 1) n
    → One xs n
one xs n f h there is =
    let i : ℕ = length xs - 1 in
    let us : List Tree = grown_by [] (map part (take i xs)) in
    let fits : Fits us (part n) = fits_at [] xs i n f (omega (arith, there)) is in
    let read : grown_by [] (map part xs) ≡ grown us (part n) =
    sym (ap (λ ys. grown_by [] (map part ys)) (take_all (suc i) xs (omega (arith, there)))) ∙
    grown_at [] xs i n (omega (arith, there)) is in
    let members : arity (part n).role ≡ length us =
    all_members us (part n) fits (subst (λ ts. length ts ≤ 1) read h) in
    let tree : pack (grown_by [] (map part xs)) ≡ made (part n).role us =
    ap pack (read ∙ one_grown us (part n) members) in
    record {
      members = members;
      tree = tree;
      bytes = fits.2 ∙ ap (λ ts. kept_bytes (reserve (made (part n).role ts)))
          (ending-append [] us (arity (part n).role) members) ∙
          ap (λ t. kept_bytes (reserve t)) (sym tree);
    }

-- it has as many parts as nodes, or one, if it is the compound of nothing
pub one_count : (xs : List Node) → Fit [] (map part xs) → length (grown_by [] (map part xs)) ≤ 1
    → max (length xs) 1 ≡ tree_count (pack (grown_by [] (map part xs)))
one_count [] f h = refl
one_count (x ∷ xs) f h =
    let ts : List Tree = grown_by [] (map part (x ∷ xs)) in
    let single : length ts ≡ 1 = omega
    (arith, h, grown_some (map part (x ∷ xs)) (omega (arith, length-parts (x ∷ xs)))) in
    omega (arith, one_member ts single, count_all (map part (x ∷ xs)) f, length-parts (x ∷ xs))
