-- One node without members.
use Rattle.std.proofs.Common.{rules, length-append, length-take, ℕ, ◌≡◌, ◌∙◌, ◌+◌, ◌-◌, ◌≤◌, ◌++◌, nat_lt, if◌then◌else◌, false, Option, Some, None, Result, Ok, Err, length, take, drop, sym, ap, subst, arith}
use Rattle.std.specs.Prelude.{IfSome}
use Rattle.timefd_c.specs.declared.moment.MomentFields.{MomentFields}
use Rattle.timefd_c.specs.Fast.{IsLeafAppended, IsTextAppended}
use Rattle.timefd_c.specs.Moments.{IsMoment}
use Rattle.timefd_c.proofs.FastLemmas.SameLemmas.{same_moment}
use Rattle.timefd_c_nodes.specs.declared.node.RawNode.{RawNode}
use Rattle.timefd_c_nodes.specs.Decoding.{component_of, format_of}
use Rattle.timefd_c_nodes.specs.Formatting.Forward.{role_text}
use Rattle.timefd_c_nodes.specs.Formatting.Parts.{by_kind, component_role, kind_of, literal_role, perhaps_role, role_in, shown_role}
use Rattle.timefd_date_format.specs.declared.field.Unshown.{Unshown}
use Rattle.timefd_date_format.specs.Appends.{IsAppended, TriesToAppend}
use Rattle.timefd_date_format.specs.Written as written
use Rattle.timefd_date_format.proofs.AppendLemmas as append
use Rattle.timefd_date_moment.specs.declared.moment.Moment.{Moment}
use Rattle.timefd_lang_component.specs.declared.component.Component.{Component}
use Rattle.timefd_lang_component.specs.Tree.{Text}
use Rattle.timefd_lang_node_list.specs.Nodes.{shown, text}

shown_in : (l : Text) (n : RawNode) (c : Component) → n.what ≡ 2 → component_of n ≡ Some c → role_in l n ≡ Some (shown c)
shown_in l n c what is =
    ap (λ w. by_kind (kind_of w) (literal_role n.start n.count l) (component_role n) n.count (perhaps_role (format_of n))) what
    ∙ ap shown_role is

text_in : (l : Text) (n : RawNode) (bytes : Text) → n.what ≡ 1 → literal_role n.start n.count l ≡ Some (text bytes)
    → role_in l n ≡ Some (text bytes)
text_in l n bytes what is =
    ap (λ w. by_kind (kind_of w) (literal_role n.start n.count l) (component_role n) n.count (perhaps_role (format_of n))) what
    ∙ is

after_at : (x : Result Text Unshown) (old new : Text) (at end : ℕ) → TriesToAppend x old at new (Some end) → at ≤ end
after_at (Ok bytes) old new at end put = omega (arith, put.ends)
after_at (Err u) old new at end put = absurd put

pub end_is_after : (x : Result Text Unshown) (old new : Text) (at : ℕ) (r : Option ℕ) → TriesToAppend x old at new r
    → IfSome r (λ end. at ≤ end)
end_is_after x old new at None put = tt
end_is_after x old new at (Some end) put = after_at x old new at end put

pub component_appended : (f : MomentFields) (a b : Moment) (l : Text) (n : RawNode) (c : Component) (old new : Text)
    (at end : ℕ) → IsMoment f a → IsMoment f b → n.what ≡ 2 → component_of n ≡ Some c
    → TriesToAppend (written.shown b c) old at new (Some end) → IsLeafAppended a l n old at new (end - at)
component_appended f a b l n c old new at end p q what is put =
    let until : end ≡ at + (end - at) = omega (arith, after_at (written.shown b c) old new at end put) in
    record {
      role = shown c;
      is = shown_in l n c what is;
      leaf = tt;
      puts = subst (λ e. TriesToAppend (written.shown a c) old at new (Some e)) until
          (subst (λ m. TriesToAppend (written.shown m c) old at new (Some end)) (same_moment f b a q p) put);
    }

pub component_end : (f : MomentFields) (a b : Moment) (l : Text) (n : RawNode) (c : Component) (old new : Text) (at : ℕ)
    (r : Option ℕ) → IsMoment f a → IsMoment f b → n.what ≡ 2 → component_of n ≡ Some c
    → TriesToAppend (written.shown b c) old at new r → IfSome r (λ end. IsLeafAppended a l n old at new (end - at))
component_end f a b l n c old new at None p q what is put = tt
component_end f a b l n c old new at (Some end) p q what is put =
    component_appended f a b l n c old new at end p q what is put

pub three_appended : (m : Moment) (l : Text) (n : RawNode) (old new : Text) (at end : ℕ) → end ≡ at + 3
    → IsLeafAppended m l n old at new (end - at) → IsLeafAppended m l n old at new 3
three_appended m l n old new at end is put =
    let three : end - at ≡ 3 = omega (arith, is) in
    subst (λ k. IsLeafAppended m l n old at new k) three put

-- What was appended is in the room.
one_within : (m : Moment) (l : Text) (n : RawNode) (old new : Text) (at len : ℕ) → at ≤ length old
    → IsLeafAppended m l n old at new len → at + len ≤ length new
one_within m l n old new at len room one = by (role_text m one.role) one.puts
  where
    by : (x : Result Text Unshown) → TriesToAppend x old at new (Some (at + len)) → at + len ≤ length new
    by (Err u) put = absurd put
    by (Ok bytes) put = omega (
      arith,
      ap length put.front,
      length-take (at + len) new,
      length-take at old,
      length-append (take at old) bytes,
      put.ends,
      room,
    )

pub leaf_within : (m : Moment) (l : Text) (n : RawNode) (old new : Text) (at : ℕ) (r : Option ℕ) → at ≤ length old
    → IfSome r (IsLeafAppended m l n old at new) → IfSome r (λ len. at + len ≤ length new)
leaf_within m l n old new at None room one = tt
leaf_within m l n old new at (Some len) room one = one_within m l n old new at len room one

there : (start count : ℕ) (l : Text) → start + count ≤ length l → nat_lt (length l) (start + count) ≡ false
there start count l fits = search rules

pub literal_appended : (m : Moment) (l : Text) (n : RawNode) (bytes old new : Text) (at len : ℕ) → n.what ≡ 1
    → n.start + n.count ≤ length l → bytes ≡ take n.count (drop n.start l) → IsTextAppended bytes old at new len
    → IsLeafAppended m l n old at new len
literal_appended m l n bytes old new at len what fits is put = record {
  role = text bytes;
  is = text_in l n bytes what
      (ap (λ b. if b then None else Some (text (take n.count (drop n.start l)))) (there n.start n.count l fits)
      ∙ ap (λ t. Some (text t)) (sym is));
  leaf = tt;
  puts = put;
}

pub text_appended : (bytes old new : Text) (at end : ℕ) → IsAppended bytes old at new end
    → IsTextAppended bytes old at new (length bytes)
text_appended bytes old new at end put = subst (λ e. IsAppended bytes old at new e) put.ends put

pub both_appended : (bytes a b old mid new : Text) (at middle end : ℕ) → length bytes ≡ 2 → bytes ≡ a ++ b
    → IsAppended a old at mid middle → IsAppended b mid middle new end → IsTextAppended bytes old at new 2
both_appended bytes a b old mid new at middle end two is one other =
    let put : IsAppended bytes old at new end =
    subst (λ t. IsAppended t old at new end) (sym is) (append.both_appended a b old mid new at middle end one other) in
    subst (λ e. IsAppended bytes old at new e) (put.ends ∙ ap (λ k. at + k) two) put
