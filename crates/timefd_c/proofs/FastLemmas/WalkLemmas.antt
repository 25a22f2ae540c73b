-- Nodes from the first to the last, of which only the last one has members.
use Rattle.std.proofs.Common.{ℕ, ◌≡◌, ◌∙◌, ◌+◌, ◌-◌, ◌^◌, ◌<◌, ◌≤◌, ◌++◌, List, [], ◌∷◌, Option, Some, None, length, take, drop, get_or, refl, sym, ap, subst, arith, add-one, drop-cons, length-take, length-drop}
use Rattle.std.specs.Prelude.{IfSome}
use Rattle.timefd_c.specs.declared.answer.TheConstants.{ACCEPTED}
use Rattle.timefd_c.specs.declared.moment.MomentFields.{MomentFields}
use Rattle.timefd_c.specs.Fast.{IsLeaf, IsLeafAppended, IsWhole, written_answer}
use Rattle.timefd_c.specs.Formats.{silent}
use Rattle.timefd_c.specs.Moments.{IsMoment, range_fault}
use Rattle.timefd_c.specs.NodeFormats.{FormatsNodes, FormatsNodesBy, IsReportedOf, ShowsBy}
use Rattle.timefd_c_nodes.specs.declared.node.RawNode.{RawNode}
use Rattle.timefd_c_nodes.specs.Decoding.{format_of}
use Rattle.timefd_c_nodes.specs.Formatting.Forward.{IsAfter, role_text}
use Rattle.timefd_c_nodes.specs.Formatting.Parts.{by_kind, component_role, kind_of, literal_role, perhaps_role, role_in}
use Rattle.timefd_c_nodes.proofs.FormattingLemmas.ForwardLemmas as forward
use Rattle.timefd_c_nodes.proofs.FormattingLemmas.ForwardLemmas.{IsRead}
use Rattle.timefd_date_format.specs.Appends.{TriesToAppend}
use Rattle.timefd_date_format.proofs.AppendLemmas.{nothing_appended}
use Rattle.timefd_date_moment.specs.declared.moment.Moment.{Moment}
use Rattle.timefd_lang_component.specs.Tree.{Text}
use Rattle.timefd_lang_node_list.specs.Nodes.{Role, text, shown, together, perhaps, either, arity, kept_bytes}

members_in : (l : Text) (n : RawNode) → n.what ≡ 3 → role_in l n ≡ Some (together n.count)
members_in l n what =
    ap (λ w. by_kind (kind_of w) (literal_role n.start n.count l) (component_role n) n.count (perhaps_role (format_of n))) what

-- Nodes up to those that are left have no members, and what they show stands in the room.
pub record IsWritten (m : Moment) (l : Text) (nodes left : List RawNode) (old room : Text) (at : ℕ) : Type 0 where
  pub i : ℕ
  pub left_is : left ≡ drop i nodes
  pub read : IsRead m l nodes i i old room at

pub none_written : (m : Moment) (l : Text) (nodes : List RawNode) (old : Text) → IsWritten m l nodes nodes old old 0
none_written m l nodes old = record { i = 0; left_is = refl; read = forward.none_read m l nodes old }

-- an index below which something is left
below : (nodes : List RawNode) (i : ℕ) (n : RawNode) (rest : List RawNode) → n ∷ rest ≡ drop i nodes → i < length nodes
below nodes i n rest is = omega (arith, ap length is, length-drop i nodes)

first_left : (nodes : List RawNode) (i : ℕ) (n : RawNode) (rest : List RawNode) → n ∷ rest ≡ drop i nodes
    → (n ≡ get_or nodes i n) × (rest ≡ drop (i + 1) nodes)
first_left nodes i n rest is =
    let cut : n ∷ rest ≡ get_or nodes i n ∷ drop (i + 1) nodes =
    is ∙ (rw add-one (drop-cons nodes i n (below nodes i n rest is))) in
    (head_is cut, tail_is cut)
  where
    head_is : {a b : RawNode} {xs ys : List RawNode} → a ∷ xs ≡ b ∷ ys → a ≡ b
    head_is e = cc

    tail_is : {a b : RawNode} {xs ys : List RawNode} → a ∷ xs ≡ b ∷ ys → xs ≡ ys
    tail_is e = cc

-- a list by its first element and the others
first_of : (left : List RawNode) (n d : RawNode) (rest : List RawNode) → 0 < length left → n ≡ get_or left 0 d → rest ≡ drop 1 left
    → n ∷ rest ≡ left
first_of [] n d rest some is others = absurd (omega (arith, some))
first_of (x ∷ xs) n d rest some is others = cc

-- A node without members takes none.
no_members : (r : Role) → IsLeaf r → arity r ≡ 0
no_members (text bytes) is = refl
no_members (shown c) is = refl
no_members (together count) is = absurd is
no_members (perhaps format) is = absurd is
no_members (either count) is = absurd is

after_leaf : (m : Moment) (l : Text) (n : RawNode) (i at len : ℕ) (old new : Text) → IsLeafAppended m l n old at new len
    → IsAfter m l n i old at new (record { at = at + len; count = i + 1 })
after_leaf m l n i at len old new one = by one.role one.is one.leaf one.puts
  where
    by : (r : Role) → role_in l n ≡ Some r → IsLeaf r → TriesToAppend (role_text m r) old at new (Some (at + len))
        → IsAfter m l n i old at new (record { at = at + len; count = i + 1 })
    by (text bytes) is leaf puts =
        record { role = text bytes; is = is; forward = tt; fits = omega arith; counted = omega arith; puts = puts }
    by (shown c) is leaf puts =
        record { role = shown c; is = is; forward = tt; fits = omega arith; counted = omega arith; puts = puts }
    by (together count) is leaf puts = absurd leaf
    by (perhaps format) is leaf puts = absurd leaf
    by (either count) is leaf puts = absurd leaf

pub one_written : (m : Moment) (l : Text) (nodes left rest : List RawNode) (n d : RawNode) (start old new : Text) (at len : ℕ)
    → 0 < length left → n ≡ get_or left 0 d → rest ≡ drop 1 left → IsWritten m l nodes left start old at
    → IsLeafAppended m l n old at new len → IsWritten m l nodes rest start new (at + len)
one_written m l nodes left rest n d start old new at len some first others so one =
    let cut : n ∷ rest ≡ drop so.i nodes = first_of left n d rest some first others ∙ so.left_is in
    let here : (n ≡ get_or nodes so.i n) × (rest ≡ drop (so.i + 1) nodes) = first_left nodes so.i n rest cut in
    record {
      i = so.i + 1;
      left_is = here.1;
      read = forward.one_read m l nodes so.i so.i n n start old new at (record { at = at + len; count = so.i + 1 })
          (below nodes so.i n rest cut) here.0 so.read (after_leaf m l n so.i at len old new one);
    }

pub all_written : (m : Moment) (l : Text) (nodes left : List RawNode) (old room : Text) (at : ℕ) → length left ≤ 0
    → IsWritten m l nodes left old room at → IsWhole m l nodes room at
all_written m l nodes left old room at none so =
    let end : length nodes ≤ so.i = omega (arith, none, ap length so.left_is, length-drop so.i nodes) in
    record {
      sound = forward.all_sound m l nodes so.i so.i old room at end so.read;
      shows = forward.all_shown m l nodes so.i so.i old room at end so.read;
      within = so.read.inside;
    }

-- The last node has no more members than there are nodes in front of it.
pub together_written : (m : Moment) (l : Text) (nodes left : List RawNode) (n d : RawNode) (old room : Text) (at : ℕ)
    → length left ≡ 1 → n ≡ get_or left 0 d → n.what ≡ 3 → n.count < length nodes
    → IsWritten m l nodes left old room at → IsWhole m l nodes room at
together_written m l nodes left n d old room at one is what few so =
    let cut : n ∷ drop 1 left ≡ drop so.i nodes =
    first_of left n d (drop 1 left) (omega (arith, one)) is refl ∙ so.left_is in
    let here : (n ≡ get_or nodes so.i n) × (drop 1 left ≡ drop (so.i + 1) nodes) =
    first_left nodes so.i n (drop 1 left) cut in
    let end : length nodes ≤ so.i + 1 = omega (arith, one, ap length so.left_is, length-drop so.i nodes) in
    let fits : n.count ≤ so.i = omega (arith, few, end) in
    let read : IsRead m l nodes (so.i + 1) (so.i - n.count + 1) old room at =
    forward.one_read m l nodes so.i so.i n n old room room at (record { at = at; count = so.i - n.count + 1 })
    (below nodes so.i n (drop 1 left) cut) here.0 so.read
    (record {
      role = together n.count;
      is = members_in l n what;
      forward = tt;
      fits = fits;
      counted = refl;
      puts = nothing_appended room at;
    }) in
    record {
      sound = forward.all_sound m l nodes (so.i + 1) (so.i - n.count + 1) old room at end read;
      shows = forward.all_shown m l nodes (so.i + 1) (so.i - n.count + 1) old room at end read;
      within = read.inside;
    }

pub ended : (m : Moment) (l : Text) (nodes left : List RawNode) (n d : RawNode) (old room : Text) (at : ℕ) (r : Option ℕ)
    → n ≡ get_or left 0 d → n.what ≡ 3 → IfSome r (λ e. e ≡ at) → IfSome r (λ e. length left ≡ 1)
    → IfSome r (λ e. n.count < length nodes) → IsWritten m l nodes left old room at
    → IfSome r (IsWhole m l nodes room)
ended m l nodes left n d old room at None is what same one few so = tt
ended m l nodes left n d old room at (Some e) is what same one few so =
    subst (λ k. IsWhole m l nodes room k) (sym same)
    (together_written m l nodes left n d old room at one is what few so)

pub copied : (m : Moment) (l : Text) (nodes : List RawNode) (f : MomentFields) (room old new : Text) (len : ℕ)
    → IsMoment f m → range_fault f ≡ None → IsWhole m l nodes room len → len < 2 ^ 64 → len ≤ length old
    → new ≡ take len room ++ drop (length (take len room)) old → FormatsNodes nodes l f old new (written_answer len)
copied m l nodes f room old new len is range whole small fits copy = record {
  out_of_range = λ e bad. absurd cc;
  formats = λ _. (m, is, by);
  memory = λ e. absurd (omega (arith, e));
}
  where
    size : length (take len room) ≡ len
    size = omega (arith, length-take len room, whole.within)

    kept : len ≡ kept_bytes (length (take len room))
    kept = omega (arith, size, small)

    reported : IsReportedOf (take len room) old new (written_answer len)
    reported = record {
      reported = ap (λ k. record (silent ACCEPTED k) { written = len }) kept;
      whole = λ _. (copy, sym size);
      too_short = λ short. absurd (omega (arith, short, fits, size));
    }

    by : FormatsNodesBy nodes l m old new (written_answer len)
    by = record {
      no_description = λ at bad. absurd cc;
      shows = λ _. subst (λ o. ShowsBy o old new (written_answer len)) (sym whole.shows) reported;
      memory = λ e. absurd (omega (arith, e));
    }
