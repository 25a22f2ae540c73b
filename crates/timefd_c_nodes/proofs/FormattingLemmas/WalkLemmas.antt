-- A walk over nodes from the last to the first: what it has written, if the nodes in front are a
-- description of as many trees as are wanted.
use Rattle.std.proofs.Common.{ℕ, zero, suc, ◌≡◌, ◌∙◌, ◌+◌, ◌-◌, ◌<◌, ◌≤◌, if◌then◌else◌, nat_lt, Bool, true, false, List, [], ◌∷◌, ◌++◌, Option, Some, None, IfOk, length, take, get_or, ltb-true, ltb-false, refl, sym, ap, subst, arith, append_assoc, append-nil, length-take}
use Rattle.std.proofs.lemmas.List.{take_all, take_more}
use Rattle.timefd_lang_component.specs.Tree.{Text, Tree, trees}
use Rattle.timefd_date_moment.specs.declared.moment.Moment.{Moment}
use Rattle.timefd_lang_node_list.specs.Leaves.{leaves_in, role_leaves, unwritten}
use Rattle.timefd_lang_node_list.specs.Nodes.{Role, text, shown, together, perhaps, either, arity, before, grown}
use Rattle.timefd_lang_node_list.proofs.NodeLemmas.{before_zero}
use Rattle.timefd_lang_node_list.proofs.LeafLemmas.{leaf_after, opened}
use Rattle.timefd_date_format.specs.declared.cursor.WriteCursor.{WriteCursor}
use Rattle.timefd_date_format.specs.declared.cursor.WriteCursor.TheVariants as cursor
use Rattle.timefd_date_format.specs.Writes.{IsIn, Writes}
use Rattle.timefd_date_format.specs.Written.{followed, written_all}
use Rattle.timefd_date_format.proofs.LeafLemmas.{written_append}
use Rattle.timefd_date_format.proofs.WalkLemmas.{writes_after, writes_in}
use Rattle.timefd_c_nodes.specs.declared.node.RawNode.{RawNode}
use Rattle.timefd_c_nodes.specs.Decoding.{read_on}
use Rattle.timefd_c_nodes.specs.Formatting.Nodes.{fault_after, fault_from, count_after, node_fault, node_leaves, node_trees, trees_of}
use Rattle.timefd_c_nodes.specs.Formatting.Parts.{role_in}
use Rattle.timefd_c_nodes.specs.Formatting.Walk.{leaves_here, needed, skipped}
use Rattle.timefd_c_nodes.proofs.FormattingLemmas.CutLemmas.{as_part, after_step, cut_last, few, grown_length, last_fits, opened_step, same_role, skipped_one, whole_role}
use Rattle.timefd_c_nodes.proofs.FormattingLemmas.WriteLemmas.{IsPutTo, all_put, by_leaves_in, no_room_for, none_put}

-- nodes that are a description, and one more node that finds its members among their trees
record IsMore (l : Text) (at : ℕ) (ns : List RawNode) (n : RawNode) (r : Role) (ts : List Tree) : Type 0 where
  sound : fault_from l at (ns ++ n ∷ []) (length ts) ≡ None
  reads : trees_of (read_on l (ns ++ n ∷ []) (Some ts)) ≡ grown (trees_of (read_on l ns (Some ts))) (as_part r)

one_node_more : (l : Text) (at : ℕ) (ns : List RawNode) (n : RawNode) (r : Role) (ts : List Tree)
    → fault_from l at ns (length ts) ≡ None → role_in l n ≡ Some r
    → arity r ≤ length (trees_of (read_on l ns (Some ts))) → IsMore l at ns n r ts
one_node_more l at [] n r ts e is fits = record {
  sound = ap (λ o. fault_after at (count_after (length ts) o) (fault_from l (at + 1) [])) is
      ∙ after_step at (length ts) r (fault_from l (at + 1) []) fits;
  reads = ap trees_of (whole_role l n ts r is fits);
}
one_node_more l at (x ∷ ns) n r ts e is fits =
    let o = opened_step at (length ts) (role_in l x) (fault_from l (at + 1) ns) e in
    let us : List Tree = grown ts (as_part o.role) in
    let len : length us ≡ length ts - arity o.role + 1 = grown_length ts o.role o.fits in
    let read : (ms : List RawNode) → read_on l (x ∷ ms) (Some ts) ≡ read_on l ms (Some us) =
    λ ms. ap (read_on l ms) (whole_role l x ts o.role o.is o.fits) in
    let rest = one_node_more l (at + 1) ns n r us (ap (fault_from l (at + 1) ns) len ∙ o.on) is
    (subst (λ fs. arity r ≤ length (trees_of fs)) (read ns) fits) in
    record {
      sound = ap (λ q. fault_after at (count_after (length ts) q) (fault_from l (at + 1) (ns ++ n ∷ []))) o.is
          ∙ after_step at (length ts) o.role (fault_from l (at + 1) (ns ++ n ∷ [])) o.fits
          ∙ ap (fault_from l (at + 1) (ns ++ n ∷ [])) (sym len) ∙ rest.sound;
      reads = ap trees_of (read (ns ++ n ∷ [])) ∙ rest.reads
          ∙ ap (λ fs. grown (trees_of fs) (as_part r)) (sym (read ns));
    }

few_unwritten : (r : Role) → unwritten r ≤ arity r
few_unwritten r = by r
  where
    by : (r : Role) → unwritten r ≤ arity r
    by (text bytes) = omega arith
    by (shown c) = omega arith
    by (together count) = omega arith
    by (perhaps true) = omega arith
    by (perhaps false) = omega arith
    by (either count) = omega arith

-- what isn't written is among what is wanted
pub skipped_needed : (skip need : ℕ) (r : Role) → skip ≤ need → skipped skip r ≤ needed need r
skipped_needed skip need r h = by (nat_lt 0 skip) (ltb-true 0 skip)
  where
    by : (b : Bool) → (b ≡ true → 0 < skip)
        → (if b then skip - 1 + arity r else unwritten r) ≤ need - 1 + arity r
    by true some = omega (arith, some refl, h)
    by false some = omega (arith, few_unwritten r)

opened_here : (fs : List Tree) (r : Role) → arity r ≤ length fs
    → leaves_in (grown fs (as_part r)) ≡ leaves_in (before (unwritten r) fs) ++ role_leaves r
opened_here fs (text bytes) h = leaf_after fs (as_part (text bytes)) _ refl
    ∙ ap (λ us. leaves_in us ++ role_leaves (text bytes)) (sym (before_zero fs))
opened_here fs (shown c) h = leaf_after fs (as_part (shown c)) _ refl
    ∙ ap (λ us. leaves_in us ++ role_leaves (shown c)) (sym (before_zero fs))
opened_here fs (together count) h = opened fs (as_part (together count)) h refl ∙ sym (append-nil _)
opened_here fs (perhaps format) h = opened fs (as_part (perhaps format)) h refl ∙ sym (append-nil _)
opened_here fs (either count) h = opened fs (as_part (either count)) h refl ∙ sym (append-nil _)

-- the remaining leaves in front of a node, and that node
leaves_left : (fs : List Tree) (r : Role) (skip : ℕ) → arity r ≤ length fs → skip ≤ length (grown fs (as_part r))
    → leaves_in (before skip (grown fs (as_part r))) ≡ leaves_in (before (skipped skip r) fs) ++ leaves_here skip r
leaves_left fs r skip fits h = by (nat_lt 0 skip) (ltb-true 0 skip) (ltb-false 0 skip)
  where
    by : (b : Bool) → (b ≡ true → 0 < skip) → (b ≡ false → skip ≤ 0)
        → leaves_in (before skip (grown fs (as_part r)))
        ≡ leaves_in (before (if b then skip - 1 + arity r else unwritten r) fs) ++ (if b then [] else role_leaves r)
    by true some none =
        ap leaves_in (skipped_one fs r skip (omega (arith, some refl)) fits h) ∙ sym (append-nil _)
    by false some none =
        let zero_is : skip ≡ 0 = omega (arith, none refl) in
        ap (λ k. leaves_in (before k (grown fs (as_part r)))) zero_is
        ∙ ap leaves_in (before_zero (grown fs (as_part r))) ∙ opened_here fs r fits

parts_put : (m : Moment) (whole left rest ts : List Tree) (old mid new : Text) (e k : WriteCursor)
    → IsPutTo m whole left old mid e → left ≡ rest ++ ts → Writes (written_all m (trees ts)) mid e new k
    → IsPutTo m whole rest old new k
parts_put m whole left rest ts old mid new e k w is one = record {
  done = ts ++ w.done;
  split = w.split ∙ ap (λ x. x ++ w.done) is ∙ append_assoc rest ts w.done;
  writes = subst (λ x. Writes x old (cursor.At (length old)) new k) (sym (written_append m ts w.done))
      (writes_after (written_all m (trees ts)) (written_all m (trees w.done)) old mid new
      (cursor.At (length old)) e k (omega arith) w.writes one);
  inside = writes_in (written_all m (trees ts)) mid new e k w.inside one;
}

-- all nodes are a description, and the leaves after the remaining ones are written
pub record IsLeft (m : Moment) (l : Text) (ns : List RawNode) (left skip : ℕ) (old new : Text) (at : WriteCursor) : Type 0 where
  pub sound : node_fault l ns ≡ None
  pub put : IsPutTo m (node_leaves l ns) (leaves_in (before skip (node_trees l (take left ns)))) old new at

-- the remaining nodes are a description with as many trees as are wanted
pub record IsFront (l : Text) (ns : List RawNode) (left need : ℕ) : Type 0 where
  pub sound : node_fault l (take left ns) ≡ None
  pub enough : need ≤ length (node_trees l (take left ns))

-- `left` nodes remain
pub record IsWalked (m : Moment) (l : Text) (ns : List RawNode) (left need skip : ℕ) (old new : Text) (at : WriteCursor) : Type 0 where
  pub inside : IsIn (length new) at
  pub within : left ≤ length ns
  pub few : need ≤ left
  pub less : skip ≤ need
  pub if_left : node_fault l (take left ns) ≡ None → need ≤ length (node_trees l (take left ns))
      → IsLeft m l ns left skip old new at
  pub if_sound : node_fault l ns ≡ None → IsFront l ns left need

pub none_walked : (m : Moment) (l : Text) (ns : List RawNode) (left : ℕ) (old : Text) → left ≡ length ns
    → IsWalked m l ns left 0 0 old old (cursor.At (length old))
none_walked m l ns left old all =
    let whole : take left ns ≡ ns = take_all left ns (omega (arith, all)) in
    record {
      inside = omega arith;
      within = omega (arith, all);
      few = omega arith;
      less = omega arith;
      if_left = λ sound enough. record {
        sound = sym (ap (node_fault l) whole) ∙ sound;
        put = subst (λ ts. IsPutTo m (node_leaves l ns) ts old old (cursor.At (length old)))
            (ap (node_leaves l) (sym whole) ∙ ap leaves_in (sym (before_zero (node_trees l (take left ns)))))
            (none_put m (node_leaves l ns) old);
      };
      if_sound = λ sound. record { sound = ap (node_fault l) whole ∙ sound; enough = omega arith };
    }

-- the nodes in front of the last remaining one
front_more : (ns : List RawNode) (d : RawNode) (left fewer : ℕ) → left ≤ length ns → fewer ≡ left - 1 → 0 < left
    → take left ns ≡ take fewer ns ++ get_or ns fewer d ∷ []
front_more ns d left fewer within one some =
    let next : left ≡ fewer + 1 = omega (arith, one, some) in
    ap (λ k. take k ns) next ∙ take_more ns fewer d (omega (arith, within, one, some))

-- what is known of that node if all nodes are a description
record IsOpened (l : Text) (ns : List RawNode) (d : RawNode) (left need fewer : ℕ) : Type 0 where
  role : Role
  is : role_in l (get_or ns fewer d) ≡ Some role
  sound : node_fault l (take fewer ns) ≡ None
  enough : needed need role ≤ length (node_trees l (take fewer ns))
  fits : arity role ≤ length (node_trees l (take fewer ns))
  read : node_trees l (take left ns) ≡ grown (node_trees l (take fewer ns)) (as_part role)

opened_one : (l : Text) (ns : List RawNode) (d : RawNode) (left need fewer : ℕ) → left ≤ length ns
    → IsFront l ns left need → fewer ≡ left - 1 → 0 < left → IsOpened l ns d left need fewer
opened_one l ns d left need fewer within w one some =
    let n : RawNode = get_or ns fewer d in
    let fs : List Tree = node_trees l (take fewer ns) in
    let cut : take left ns ≡ take fewer ns ++ n ∷ [] = front_more ns d left fewer within one some in
    let c = cut_last l 0 (take fewer ns) n [] (ap (node_fault l) (sym cut) ∙ w.sound) in
    let fits : arity c.role ≤ length fs = last_fits l (take fewer ns) n c in
    let more = one_node_more l 0 (take fewer ns) n c.role [] c.front c.is fits in
    let enough : need ≤ length (grown fs (as_part c.role)) =
    subst (λ ts. need ≤ length ts) (ap (node_trees l) cut ∙ more.reads) w.enough in
    record {
      role = c.role;
      is = c.is;
      sound = c.front;
      enough = omega (arith, enough, fits, grown_length fs c.role fits);
      fits = fits;
      read = ap (node_trees l) cut ∙ more.reads;
    }

pub one_walked : (m : Moment) (l : Text) (ns : List RawNode) (d : RawNode) (r : Role)
    (left need skip fewer needs skips : ℕ) (old mid new : Text) (e k : WriteCursor)
    → IsWalked m l ns left need skip old mid e → fewer ≡ left - 1 → 0 < left
    → role_in l (get_or ns fewer d) ≡ Some r → needs ≡ needed need r → needs ≤ fewer → skips ≡ skipped skip r
    → Writes (written_all m (trees (leaves_here skip r))) mid e new k
    → IsWalked m l ns fewer needs skips old new k
one_walked m l ns d r left need skip fewer needs skips old mid new e k w one some role_is need_is few skip_is put = record {
  inside = writes_in (written_all m (trees (leaves_here skip r))) mid new e k w.inside put;
  within = omega (arith, w.within, one);
  few = few;
  less = omega (arith, need_is, skip_is, skipped_needed skip need r w.less);
  if_left = λ sound enough.
      let n : RawNode = get_or ns fewer d in
      let fs : List Tree = node_trees l (take fewer ns) in
      let cut : take left ns ≡ take fewer ns ++ n ∷ [] =
      front_more ns d left fewer w.within one some in
      let fits : arity r ≤ length fs = omega (arith, enough, need_is) in
      let more = one_node_more l 0 (take fewer ns) n r [] sound role_is fits in
      let read : node_trees l (take left ns) ≡ grown fs (as_part r) =
      ap (node_trees l) cut ∙ more.reads in
      let there : need ≤ length (grown fs (as_part r)) =
      omega (arith, enough, need_is, fits, grown_length fs r fits) in
      let whole = w.if_left (ap (node_fault l) cut ∙ more.sound)
      (subst (λ ts. need ≤ length ts) (sym read) there) in
      record {
        sound = whole.sound;
        put = parts_put m (node_leaves l ns) (leaves_in (before skip (node_trees l (take left ns))))
            (leaves_in (before skips fs)) (leaves_here skip r) old mid new e k whole.put
            (ap (λ ts. leaves_in (before skip ts)) read
            ∙ leaves_left fs r skip fits (omega (arith, there, w.less))
            ∙ ap (λ k. leaves_in (before k fs) ++ leaves_here skip r) (sym skip_is)) put;
      };
  if_sound = λ sound.
      let o = opened_one l ns d left need fewer w.within (w.if_sound sound) one some in
      let same : o.role ≡ r = same_role o.role r (sym o.is ∙ role_is) in
      record {
        sound = o.sound;
        enough = omega (arith, need_is, o.enough, ap arity same);
      };
}

-- a node that means nothing is not part of a description
pub meaningless : (m : Moment) (l : Text) (ns : List RawNode) (d : RawNode) (left need skip fewer : ℕ) (old new : Text)
    (at : WriteCursor) → IsWalked m l ns left need skip old new at → fewer ≡ left - 1 → 0 < left
    → role_in l (get_or ns fewer d) ≡ None → node_fault l ns ≡ None → ⊥
meaningless m l ns d left need skip fewer old new at w one some none sound =
    let o = opened_one l ns d left need fewer w.within (w.if_sound sound) one some in
    no_role o.role (sym none ∙ o.is)
  where
    no_role : (r : Role) → ◌≡◌ {A = Option Role} None (Some r) → ⊥
    no_role r e = absurd cc

-- and neither is a node with too few nodes in front of it
pub too_few : (m : Moment) (l : Text) (ns : List RawNode) (d : RawNode) (r : Role) (left need skip fewer : ℕ)
    (old new : Text) (at : WriteCursor) → IsWalked m l ns left need skip old new at → fewer ≡ left - 1 → 0 < left
    → role_in l (get_or ns fewer d) ≡ Some r → fewer < needed need r → node_fault l ns ≡ None → ⊥
too_few m l ns d r left need skip fewer old new at w one some role_is short sound =
    let o = opened_one l ns d left need fewer w.within (w.if_sound sound) one some in
    let same : o.role ≡ r = same_role o.role r (sym o.is ∙ role_is) in
    let least : length (node_trees l (take fewer ns)) ≤ length (take fewer ns) = few l (take fewer ns) o.sound in
    omega (arith, short, o.enough, ap arity same, least, length-take fewer ns)

-- If a part doesn't fit in front of the written text, the whole text doesn't fit.
pub not_written : (m : Moment) (l : Text) (ns : List RawNode) (d : RawNode) (r : Role) (left need skip fewer : ℕ)
    (old mid : Text) (end : ℕ) → IsWalked m l ns left need skip old mid (cursor.At end) → fewer ≡ left - 1 → 0 < left
    → role_in l (get_or ns fewer d) ≡ Some r
    → IfOk (written_all m (trees (leaves_here skip r))) (λ text. end < length text) → node_fault l ns ≡ None
    → IfOk (written_all m (trees (node_trees l ns))) (λ text. length old < length text)
not_written m l ns d r left need skip fewer old mid end w one some role_is short sound =
    let front = w.if_sound sound in
    let o = opened_one l ns d left need fewer w.within front one some in
    let same : o.role ≡ r = same_role o.role r (sym o.is ∙ role_is) in
    let fs : List Tree = node_trees l (take fewer ns) in
    let there : need ≤ length (grown fs (as_part o.role)) = subst (λ ts. need ≤ length ts) o.read front.enough in
    let put = (w.if_left front.sound front.enough).put in
    let rest : List Tree = leaves_in (before (skipped skip o.role) fs) in
    let here : List Tree = leaves_here skip r in
    let whole : node_leaves l ns ≡ rest ++ (here ++ put.done) =
    put.split
    ∙ ap (λ ts. leaves_in (before skip ts) ++ put.done) o.read
    ∙ ap (λ ts. ts ++ put.done) (leaves_left fs o.role skip o.fits (omega (arith, there, w.less)))
    ∙ append_assoc rest (leaves_here skip o.role) put.done
    ∙ ap (λ q. rest ++ (leaves_here skip q ++ put.done)) same in
    let text : written_all m (trees (node_trees l ns))
    ≡ followed (written_all m (trees rest)) (followed (written_all m (trees here)) (written_all m (trees put.done))) =
    sym (by_leaves_in m (node_trees l ns)) ∙ ap (λ ts. written_all m (trees ts)) whole
    ∙ written_append m rest (here ++ put.done)
    ∙ ap (followed (written_all m (trees rest))) (written_append m here put.done) in
    subst (λ x. IfOk x (λ text. length old < length text)) (sym text)
    (no_room_for _ _ _ old mid end short put.writes)

-- no nodes remain
none_left : (m : Moment) (l : Text) (ns : List RawNode) (left need skip : ℕ) (old new : Text) (at : WriteCursor)
    → IsWalked m l ns left need skip old new at → left ≡ 0 → IsLeft m l ns left skip old new at
none_left m l ns left need skip old new at w none =
    w.if_left (ap (λ k. node_fault l (take k ns)) none) (omega (arith, w.few, none))

pub all_sound : (m : Moment) (l : Text) (ns : List RawNode) (left need skip : ℕ) (old new : Text) (at : WriteCursor)
    → IsWalked m l ns left need skip old new at → left ≡ 0 → node_fault l ns ≡ None
all_sound m l ns left need skip old new at w none =
    (none_left m l ns left need skip old new at w none).sound

pub all_written : (m : Moment) (l : Text) (ns : List RawNode) (left need skip : ℕ) (old new : Text) (at : WriteCursor)
    → IsWalked m l ns left need skip old new at → left ≡ 0
    → Writes (written_all m (trees (node_trees l ns))) old (cursor.At (length old)) new at
all_written m l ns left need skip old new at w none =
    let empty : leaves_in (before skip (node_trees l (take left ns))) ≡ [] =
    ap (λ k. leaves_in (before skip (node_trees l (take k ns)))) none
    ∙ ap leaves_in (take_none (0 - skip)) in
    all_put m (node_trees l ns) _ old new at (none_left m l ns left need skip old new at w none).put empty
  where
    take_none : (k : ℕ) → ◌≡◌ {A = List Tree} (take k []) []
    take_none zero = refl
    take_none (suc k) = refl
