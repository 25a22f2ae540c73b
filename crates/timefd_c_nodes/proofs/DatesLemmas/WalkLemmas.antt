-- Nodes from the first to the last.
use Rattle.std.proofs.Common.{ℕ, ◌≡◌, ◌∙◌, ◌+◌, ◌-◌, ◌≤◌, ◌<◌, ◌&&◌, Bool, true, List, [], ◌∷◌, ◌++◌, Option, Some, None, Result, Ok, Err, length, drop, get_or, refl, sym, ap, subst, arith, add-one, drop-cons}
use Rattle.std.proofs.lemmas.List.{drop_all, take-append-drop}
use Rattle.std.proofs.lemmas.Str.{IsAscii-drop, IsUtf8-from_ascii}
use Rattle.std.specs.List.{list_all}
use Rattle.std.specs.Prelude.{IfSome}
use Rattle.std.specs.Str.{IsAscii}
use Rattle.timefd_lang_component.specs.Modern.{modern}
use Rattle.timefd_lang_component.specs.Tree.{Text, Tree, component, compound, literal, trees}
use Rattle.timefd_lang_node_list.specs.Nodes.{Role, text, shown, together, perhaps, either, arity, before, ending, grown}
use Rattle.timefd_lang_node_list.proofs.NodeLemmas.{before_zero}
use Rattle.timefd_c_nodes.specs.declared.node.RawNode.{RawNode}
use Rattle.timefd_c_nodes.specs.Decoding.{read_nodes, read_on}
use Rattle.timefd_c_nodes.specs.Formatting.Literals.{is_text}
use Rattle.timefd_c_nodes.specs.Formatting.Nodes.{count_after, fault_after, fault_from, node_fault, node_trees, trees_of}
use Rattle.timefd_c_nodes.specs.Formatting.Parts.{role_in}
use Rattle.timefd_c_nodes.proofs.FormattingLemmas.GatheredLemmas.{either_way, gathered}
use Rattle.timefd_c_nodes.proofs.FormattingLemmas.CutLemmas.{after_step, as_part, grown_length, whole_role}
use Rattle.timefd_date_moment.specs.declared.moment.Moment.{Moment}
use Rattle.timefd_date_moment.specs.declared.fields.short.Numbers.{Numbers}
use Rattle.timefd_date_moment.specs.Fields.Reads.{Point, at, fields_of, followed, read, read_all, start}
use Rattle.timefd_date_moment.specs.Fields.Short.{fields_with}
use Rattle.timefd_date_moment.proofs.FieldsLemmas.ShortLemmas as short
use Rattle.timefd_date_moment.specs.Reading.Values.{IsMomentOf}
use Rattle.timefd_c_nodes.specs.declared.dates.fast.walk.Taken.{Taken}
use Rattle.timefd_c_nodes.specs.Dates.Shown.{AreShown, IsShown}
use Rattle.timefd_c_nodes.specs.Dates.Taken.{IsTaken, ReadsRole}

-- the value, or another one
abbrev ok_or : {A B : Type 0} → A → Result A B → A
ok_or d (Ok a) = a
ok_or d (Err e) = d

no_value : {A B : Type 0} (e : B) (a : A) → Err e ≡ Ok a → ⊥
no_value e a is = absurd cc

-- one more tree is read
reads_one_more : (ts : List Tree) (t : Tree) (p q r : Point) → read_all (trees ts) p ≡ Ok q → read t q ≡ Ok r
    → read_all (trees (ts ++ t ∷ [])) p ≡ Ok r
reads_one_more [] t p q r e f =
    let same : p ≡ q = ap (ok_or p) e in
    ap (λ x. followed (read t x) (λ y. read_all (trees []) y)) same
    ∙ ap (λ o. followed o (λ y. read_all (trees []) y)) f
reads_one_more (u ∷ us) t p q r e f =
    either_way (λ o. followed o (λ x. read_all (trees us) x) ≡ Ok q
    → followed o (λ x. read_all (trees (us ++ t ∷ [])) x) ≡ Ok r)
    (λ m h. reads_one_more us t m q r h f) (λ g h. absurd (no_value g q h)) (read u p) e

-- the trees with one more part read what it reads
reads_grown : (ts : List Tree) (r : Role) (p q s : Point) → read_all (trees ts) p ≡ Ok q → ReadsRole r q s
    → read_all (trees (grown ts (as_part r))) p ≡ Ok s
reads_grown ts (text bytes) p q s e gives =
    reads_one_more (before 0 ts) (literal bytes) p q s (ap (λ us. read_all (trees us) p) (before_zero ts) ∙ e) gives
reads_grown ts (shown c) p q s e gives =
    reads_one_more (before 0 ts) (component (modern c)) p q s
    (ap (λ us. read_all (trees us) p) (before_zero ts) ∙ e) gives
reads_grown ts (together count) p q s e gives =
    gathered (before count ts) (ending count ts) p
    ∙ ap (λ us. read_all (trees us) p) (take-append-drop (length ts - count) ts) ∙ e ∙ ap Ok (sym gives)
reads_grown ts (perhaps format) p q s e gives = absurd gives
reads_grown ts (either count) p q s e gives = absurd gives

-- whether the literals of nodes are UTF-8
abbrev pub are_texts : Text → List RawNode → Bool
are_texts l ns = list_all (λ n. is_text (role_in l n)) ns

texts_on : (l : Text) (n : RawNode) (ns : List RawNode) → is_text (role_in l n) ≡ true → are_texts l (n ∷ ns) ≡ are_texts l ns
texts_on l n ns e = ap (λ b. b && are_texts l ns) e

-- The nodes in front of an index are these trees, and they read the date up to here.
pub record IsReadSoFar (l : Text) (ns : List RawNode) (i count : ℕ) (date left : Text) (numbers : Numbers) : Type 0 where
  pub ts : List Tree
  pub counted : length ts ≡ count
  pub few : count ≤ i
  pub fault : fault_from l i (drop i ns) count ≡ node_fault l ns
  pub nodes : read_on l (drop i ns) (Some ts) ≡ read_nodes l ns
  pub texts : are_texts l (drop i ns) ≡ are_texts l ns
  pub so_far : read_all (trees ts) (start date) ≡ Ok (at left (fields_with numbers))
  pub ascii : IsAscii left

pub none_read : (l : Text) (ns : List RawNode) (date : Text) (numbers : Numbers)
    → start date ≡ at date (fields_with numbers) → IsAscii date → IsReadSoFar l ns 0 0 date date numbers
none_read l ns date numbers is plain = record {
  ts = [];
  counted = refl;
  few = omega arith;
  fault = refl;
  nodes = refl;
  texts = refl;
  so_far = ap Ok is;
  ascii = plain;
}

pub one_read : (l : Text) (ns : List RawNode) (i count : ℕ) (d : RawNode) (date left after : Text) (old : Numbers) (r : Taken)
    → i < length ns → IsReadSoFar l ns i count date left old → IsTaken l (get_or ns i d) left old count r
    → after ≡ drop r.len left → IsReadSoFar l ns (i + 1) r.count date after r.numbers
one_read l ns i count d date left after old r below so one is =
    let n : RawNode = get_or ns i d in
    let rest : List RawNode = drop (i + 1) ns in
    let cut : drop i ns ≡ n ∷ rest = rw add-one (drop-cons ns i d below) in
    let fits : arity one.role ≤ length so.ts = subst (λ k. arity one.role ≤ k) (sym so.counted) one.fits in
    subst (λ x. IsReadSoFar l ns (i + 1) r.count date x r.numbers) (sym is) (record {
      ts = grown so.ts (as_part one.role);
      counted = grown_length so.ts one.role fits ∙ ap (λ k. k - arity one.role + 1) so.counted ∙ sym one.counted;
      few = omega (arith, one.counted, so.few);
      fault = ap (fault_from l (i + 1) rest) one.counted
          ∙ sym (after_step i count one.role (fault_from l (i + 1) rest) one.fits)
          ∙ ap (λ o. fault_after i (count_after count o) (fault_from l (i + 1) rest)) (sym one.is)
          ∙ ap (λ xs. fault_from l i xs count) (sym cut) ∙ so.fault;
      nodes = ap (read_on l rest) (sym (whole_role l n so.ts one.role one.is fits))
          ∙ ap (λ xs. read_on l xs (Some so.ts)) (sym cut) ∙ so.nodes;
      texts = sym (texts_on l n rest (ap is_text one.is ∙ one.textual)) ∙ ap (are_texts l) (sym cut) ∙ so.texts;
      so_far = reads_grown so.ts one.role (start date) (at left (fields_with old))
          (at (drop r.len left) (fields_with r.numbers)) so.so_far one.reads;
      ascii = IsAscii-drop left r.len so.ascii;
    })

pub all_read : (l : Text) (ns : List RawNode) (i count : ℕ) (date left : Text) (numbers : Numbers) → length ns ≤ i
    → left ≡ [] → IsReadSoFar l ns i count date left numbers → AreShown ns l date numbers
all_read l ns i count date left numbers end none so =
    let whole : node_trees l ns ≡ so.ts =
    ap trees_of (sym so.nodes ∙ ap (λ xs. read_on l xs (Some so.ts)) (drop_all i ns end)) in
    record {
      sound = sym so.fault ∙ ap (λ xs. fault_from l i xs count) (drop_all i ns end);
      texts = sym so.texts ∙ ap (are_texts l) (drop_all i ns end);
      shown = ap (λ us. fields_of (compound (trees us)) date) whole
          ∙ short.all_read (trees so.ts) date left (fields_with numbers) (sym so.so_far) none;
    }

pub moment_read : (ns : List RawNode) (l date : Text) (numbers : Numbers) (r : Option Moment) → IsAscii date
    → AreShown ns l date numbers → IfSome r (λ m. IsMomentOf (fields_with numbers) (Ok m)) → IfSome r (IsShown ns l date)
moment_read ns l date numbers None plain are is = tt
moment_read ns l date numbers (Some m) plain are is =
    record { fields = fields_with numbers; utf8 = IsUtf8-from_ascii date plain; are = are; moment = is }
