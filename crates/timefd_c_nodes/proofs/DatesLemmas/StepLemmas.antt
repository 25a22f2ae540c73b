-- What one node reads.
use Rattle.std.proofs.Common.{ℕ, ◌≡◌, ◌∙◌, ◌≤◌, ◌+◌, ◌-◌, true, ◌++◌, Option, Some, None, Ok, length, drop, take, refl, ap, subst, arith, length-append}
use Rattle.std.proofs.Math.Seq.{take-append_seam}
use Rattle.std.proofs.lemmas.Slice.Eq.{starts_is}
use Rattle.std.proofs.lemmas.Str.{IsAscii-take, IsUtf8-from_ascii, is_utf8-from_IsUtf8}
use Rattle.std.specs.Borrow.{Bor}
use Rattle.std.specs.Cmp.{unsigned_Decides}
use Rattle.std.specs.List.{starts_with}
use Rattle.std.specs.Prelude.{IfSome, IsUtf8, eqb, if◌then◌else◌}
use Rattle.std.specs.Str.{IsAscii}
use Rattle.timefd_lang_component.specs.declared.component.Component.{Component}
use Rattle.timefd_lang_component.specs.Modern.{modern}
use Rattle.timefd_lang_component.specs.Tree.{Text, component}
use Rattle.timefd_lang_node_list.specs.Nodes.{shown, text, together}
use Rattle.timefd_c_nodes.specs.declared.node.RawNode.{RawNode}
use Rattle.timefd_c_nodes.specs.Decoding.{component_of, format_of}
use Rattle.timefd_c_nodes.specs.Formatting.Parts.{by_kind, component_role, kind_of, literal_role, perhaps_role, role_in, shown_role}
use Rattle.timefd_date_moment.specs.declared.fields.fault.UnreadReason.TheVariants as for
use Rattle.timefd_date_moment.specs.declared.fields.short.Numbers.{Numbers}
use Rattle.timefd_date_moment.specs.Fields.Reads.{at, fault_at, read}
use Rattle.timefd_date_moment.specs.Fields.Short.{fields_with}
use Rattle.timefd_c_nodes.specs.Dates.Taken.{IsTaken, one_more}

shown_in : (l : Text) (n : RawNode) (c : Component) → n.what ≡ 2 → component_of n ≡ Some c → role_in l n ≡ Some (shown c)
shown_in l n c what is =
    ap (λ w. by_kind (kind_of w) (literal_role n.start n.count l) (component_role n) n.count (perhaps_role (format_of n))) what
    ∙ ap shown_role is

text_in : (l : Text) (n : RawNode) (bytes : Text) → n.what ≡ 1 → literal_role n.start n.count l ≡ Some (text bytes)
    → role_in l n ≡ Some (text bytes)
text_in l n bytes what is =
    ap (λ w. by_kind (kind_of w) (literal_role n.start n.count l) (component_role n) n.count (perhaps_role (format_of n))) what
    ∙ is

members_in : (l : Text) (n : RawNode) → n.what ≡ 3 → role_in l n ≡ Some (together n.count)
members_in l n what =
    ap (λ w. by_kind (kind_of w) (literal_role n.start n.count l) (component_role n) n.count (perhaps_role (format_of n))) what

pub component_taken : (l : Text) (n : RawNode) (c : Component) (left : Text) (old : Numbers) (count : ℕ)
    (r : Option (ℕ × Numbers)) → n.what ≡ 2 → component_of n ≡ Some c → modern c ≡ c
    → IfSome r (λ s. s.0 ≤ length left)
    → IfSome r (λ s. read (component c) (at left (fields_with old)) ≡ Ok (at (drop s.0 left) (fields_with s.1)))
    → IfSome (one_more r count) (IsTaken l n left old count)
component_taken l n c left old count None what is same inside gives = tt
component_taken l n c left old count (Some s) what is same inside gives = record {
  role = shown c;
  is = shown_in l n c what is;
  textual = refl;
  fits = omega arith;
  counted = omega arith;
  within = inside;
  reads = ap (λ d. read (component d) (at left (fields_with old))) same ∙ gives;
}

pub literal_taken : (l : Text) (n : RawNode) (bytes : Bor Text) (left : Text) (old : Numbers) (count : ℕ) → IsAscii left
    → n.what ≡ 1 → literal_role n.start n.count l ≡ Some (text bytes.now) → starts_with eqb left bytes.now ≡ true
    → IsTaken l n left old count (record { len = length bytes.now; numbers = old; count = count + 1 })
literal_taken l n bytes left old count ascii what is starts =
    let cut : left ≡ bytes.now ++ drop (length bytes.now) left =
    (starts_is unsigned_Decides left bytes.now (starts_with eqb left bytes.now) refl).0 starts in
    let front : take (length bytes.now) left ≡ bytes.now =
    ap (take (length bytes.now)) cut ∙ take-append_seam bytes.now (drop (length bytes.now) left) in
    let utf8 : IsUtf8 bytes.now =
    IsUtf8-from_ascii bytes.now (subst IsAscii front (IsAscii-take left (length bytes.now) ascii)) in
    record {
      role = text bytes.now;
      is = text_in l n bytes.now what is;
      textual = is_utf8-from_IsUtf8 bytes.now utf8;
      fits = omega arith;
      counted = omega arith;
      within = omega (arith, ap length cut, length-append bytes.now (drop (length bytes.now) left));
      reads = ap (λ t. if t then Ok (at (drop (length bytes.now) left) (fields_with old))
          else fault_at (at left (fields_with old)) for.Literal) starts;
    }

pub compound_taken : (l : Text) (n : RawNode) (left : Text) (old : Numbers) (count : ℕ) → n.what ≡ 3 → n.count ≤ count
    → IsTaken l n left old count (record { len = 0; numbers = old; count = count - n.count + 1 })
compound_taken l n left old count what few = record {
  role = together n.count;
  is = members_in l n what;
  textual = refl;
  fits = few;
  counted = refl;
  within = omega arith;
  reads = refl;
}
