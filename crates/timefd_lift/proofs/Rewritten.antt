-- What version 2 spells, versions 3 and 2 spell once it is rewritten.
use Rattle.std.proofs.Common.{ℕ, ◌≡◌, cond, true, false, [], ◌∷◌, ◌++◌, Ok, refl, sym, ◌∙◌, ap, append_assoc, append-nil, arith}
use Rattle.std.proofs.lemmas.Bool.{and_parts}
use Rattle.std.proofs.lemmas.Bool.Decides.{nat_tests}
use Rattle.timefd_lang_component.specs.Modern.{modern}
use Rattle.timefd_lang_component.specs.Tree.{Text, Tree, component, literal}
use Rattle.timefd_language.specs.declared.description_version.DescriptionVersion.TheVariants.{Two, Three}
use Rattle.timefd_language.specs.Bytes.{right, backslash, is_special, is_run_byte, OneOrMore}
use Rattle.timefd_language.specs.Head.{Head, head_text}
use Rattle.timefd_language.specs.Grammar.{Pieces, no_pieces, run, escape, closing, bracket, no_nested, nested, spelling, items, ArePieces, BeginsNoRun}
use Rattle.timefd_lift.specs.Laws.{ComponentsRead, Writing, ReadAlike, WrittenOnce}
use Rattle.timefd_lift.specs.Written.{component_text, escape_before, tree_text, written}
use Rattle.timefd_language.proofs.Lift.{bracket_refuses}
use Rattle.timefd_language.proofs.LawLemmas.{one_answer_law}
use Rattle.timefd_lift.proofs.Heads.{IsShown}
use Rattle.timefd_lift.proofs.ComponentHeads.{component-shown}
use Rattle.timefd_lift.proofs.Leaves.{IsLeaf, bracket-leaf}

-- Literals.

-- a run needs no escape
not_special : (b : ℕ) → is_run_byte Two b ≡ true → is_special b ≡ false
not_special b e = grind (arith, nat_tests)

run_escape : (bytes : Text) → OneOrMore (is_run_byte Two) bytes → escape_before bytes ≡ []
run_escape [] some = absurd some
run_escape (b ∷ []) some =
    let p = and_parts (is_run_byte Two b) true some in
    ap (λ t. cond t (backslash ∷ []) []) (not_special b p.0)
run_escape (b ∷ c ∷ bytes) some = refl

special_escape : (b : ℕ) → is_special b ≡ true → escape_before (b ∷ []) ≡ backslash ∷ []
special_escape b e = ap (λ t. cond t (backslash ∷ []) []) e

-- Pieces of versions 2 and 3 with the same items, which spell what is written from them.

record IsRewritten (limit : ℕ) (ps qs : Pieces) : Type 0 where
  are : ArePieces Three limit 0 qs
  are_two : ArePieces Two limit 0 qs
  spelled : spelling qs ≡ written (items ps)
  same : items qs ≡ items ps
  begins : BeginsNoRun ps → BeginsNoRun qs

-- neither nested descriptions nor white bytes
none_after : (head : Text) → head ++ [] ++ [] ≡ head
none_after head = append-nil (head ++ []) ∙ append-nil head

bracket_spelling : (text head rest : Text) → text ≡ head ++ right ∷ []
    → head ++ [] ++ [] ++ right ∷ rest ≡ text ++ rest
bracket_spelling text head rest is =
    ap (λ x. x ++ right ∷ rest) (none_after head) ∙
    sym (ap (λ x. x ++ rest) is ∙ append_assoc head (right ∷ []) rest)

leaf_spelling : (tree : Tree) (l : IsLeaf tree) → component_text (modern l.leaf) ≡ tree_text tree
leaf_spelling tree l = ap tree_text l.is

leaf_rewritten : (limit : ℕ) (h : Head) (white : Text) (tree : Tree) (ps qs : Pieces) (l : IsLeaf tree)
    → IsShown (component_text (modern l.leaf)) (modern l.leaf)
    → IsRewritten limit ps qs → (more : Pieces) × IsRewritten limit (bracket h no_nested white tree ps) more
leaf_rewritten limit h white tree ps qs l shown rest = (
  bracket shown.head no_nested [] tree qs,
  record {
    are = (shown.is, tt, refl, shown.read _ ∙ ap Ok (ap component l.modern ∙ l.is), rest.are);
    are_two = (
      shown.is,
      tt,
      refl,
      shown.read_two _ ∙ ap Ok (ap component l.modern ∙ l.is),
      rest.are_two,
    );
    spelled = bracket_spelling (component_text (modern l.leaf)) (head_text shown.head) (spelling qs)
        shown.spelled
        ∙ ap (λ x. x ++ spelling qs) (leaf_spelling tree l) ∙
        ap (λ x. tree_text tree ++ x) rest.spelled;
    same = ap (λ x. tree ∷ x) rest.same;
    begins = λ b. tt;
  },
)

rewritten : (limit : ℕ) (ps : Pieces) → ArePieces Two limit 0 ps → (qs : Pieces) × IsRewritten limit ps qs
rewritten limit no_pieces are = (
  no_pieces,
  record {
    are = tt;
    are_two = tt;
    spelled = refl;
    same = refl;
    begins =
        λ b. tt;
  },
)
rewritten limit (run bytes rest) are =
    let more = rewritten limit rest are.2 in (
      run bytes more.0,
      record {
        are = (are.0, more.1.begins are.1, more.1.are);
        are_two = (are.0, more.1.begins are.1, more.1.are_two);
        spelled = ap (λ x. bytes ++ x) more.1.spelled ∙
            ap (λ x. (x ++ bytes) ++ written (items rest)) (sym (run_escape bytes are.0));
        same = ap (λ x. literal bytes ∷ x) more.1.same;
        begins = λ b. b;
      },
    )
rewritten limit (escape a b rest) are =
    let more = rewritten limit rest are.1 in (
      escape backslash b more.0,
      record {
        are = ((refl, are.0.1), more.1.are);
        are_two = ((refl, are.0.1), more.1.are_two);
        spelled = ap (λ x. backslash ∷ b ∷ x) more.1.spelled ∙
            ap (λ x. (x ++ b ∷ []) ++ written (items rest)) (sym (special_escape b are.0.1));
        same = ap (λ x. literal (b ∷ []) ∷ x) more.1.same;
        begins = λ b. tt;
      },
    )
rewritten limit (closing rest) are =
    let more = rewritten limit rest are.2 in (
      escape backslash right more.0,
      record {
        are = ((refl, refl), more.1.are);
        are_two = ((refl, refl), more.1.are_two);
        spelled = ap (λ x. backslash ∷ right ∷ x) more.1.spelled;
        same = ap (λ x. literal (right ∷ []) ∷ x) more.1.same;
        begins = λ b. tt;
      },
    )
rewritten limit (bracket h no_nested white tree rest) are =
    let more = rewritten limit rest are.4 in
    let l = bracket-leaf h _ tree are.3 in
    leaf_rewritten limit h white tree rest more.0 l (component-shown l.leaf l.counted) more.1
rewritten limit (bracket h (nested w ps ns) white tree rest) are =
    absurd (bracket_refuses h w ps ns white tree are.3)

pub writing_law : Writing
writing_law limit text list s =
    let a = rewritten limit s.0 s.1 in
    (a.0, a.1.are, ap written s.3 ∙ sym a.1.spelled, s.3 ∙ sym a.1.same)

pub read_alike_law : ReadAlike
read_alike_law limit text list s =
    let a = rewritten limit s.0 s.1 in
    (a.0, a.1.are_two, ap written s.3 ∙ sym a.1.spelled, s.3 ∙ sym a.1.same)

-- version 2 reads only one list in what was written: the list that it was written from
pub twice_law : WrittenOnce
twice_law limit text list other s again =
    ap written ((one_answer_law Two limit (written list)).1.one_list other list again
    (read_alike_law limit text list s))

pub components_read_law : ComponentsRead
components_read_law limit c counted =
    let shown = component-shown c counted in (
      bracket shown.head no_nested [] (component (modern c)) no_pieces,
      (shown.is, tt, refl, shown.read _, tt),
      shown.spelled ∙
          ap (λ x. x ++ right ∷ []) (sym (none_after (head_text shown.head))),
      refl,
    )
