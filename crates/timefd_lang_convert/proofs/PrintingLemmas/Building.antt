-- Pieces that spell what is printed.
use Rattle.std.proofs.Common.{ℕ, suc, ◌≡◌, ◌<◌, ◌⊎◌, inl, inr, cond, not, Bool, true, false, List, [], ◌∷◌, ◌++◌, map, length, Option, Some, None, Ok, codes, refl, sym, ap, ap₂, subst, ◌∙◌, append_assoc, append-nil}
use Rattle.std.proofs.lemmas.Bool.{both_ways, false≢true}
use Rattle.timefd_lang_component.specs.declared.component.Component.{Component}
use Rattle.timefd_lang_component.specs.Equality.{same_component}
use Rattle.timefd_lang_component.specs.ComponentEquality.{component_sound}
use Rattle.timefd_lang_component.specs.Modern.{modern}
use Rattle.timefd_lang_component.specs.Tree.{Text, Tree, component, literal, optional, first, Trees, no_trees, more_trees, trees, pack}
use Rattle.timefd_language.specs.declared.description_version.DescriptionVersion.TheVariants.{Three}
use Rattle.timefd_language.specs.Bytes.{right, backslash, is_special}
use Rattle.timefd_language.specs.Head.{Head, IsHead, head_text}
use Rattle.timefd_language.specs.Verdict.{PlacedDescription, after, touching, verdict}
use Rattle.timefd_language.specs.Grammar.{Pieces, Nested, no_pieces, run, escape, closing, bracket, no_nested, spelling, nested_text, items, ArePieces, AreNested, BeginsNoRun, bracket_verdict, parts_from}
use Rattle.timefd_language.specs.Grammar as grammar
use Rattle.timefd_lift.specs.Plain.{IsCounted}
use Rattle.timefd_lift.specs.Written.{component_text}
use Rattle.timefd_lift.proofs.Heads.{plain_head, ◌set_to◌}
use Rattle.timefd_lift.proofs.ComponentHeads.{component-shown}
use Rattle.timefd_lang_convert.specs.declared.printing.error.Unspelled.{Unspelled}
use Rattle.timefd_lang_convert.specs.declared.printing.error.Unspelled.TheVariants.{DeprecatedComponent}
use Rattle.timefd_lang_convert.specs.Printing.Printed.{escaped, optional_front, nested, printed, nested_all, listed, unpacked}
use Rattle.timefd_lang_convert.specs.Printing.Reasons.{is_escape, literal_reason, component_reason}
use Rattle.timefd_lang_convert.proofs.PrintingLemmas.LiteralLemmas.{special_step, plain_escaped, literal_is, IsEscape, IsRun}

-- pieces after a run or not, which spell the text and are the list
pub record AreOf (limit n : ℕ) (after_run : Bool) (text : Text) (list : List Tree) (ps : Pieces) : Type 0 where
  pub are : ArePieces Three limit n ps
  pub spelled : spelling ps ≡ text
  pub same : items ps ≡ list
  pub begins : after_run ≡ true → BeginsNoRun ps

abbrev pub Spelling : ℕ → ℕ → Bool → Text → List Tree → Type 0
Spelling limit n after_run text list = (ps : Pieces) × AreOf limit n after_run text list ps

pub none_of : (limit n : ℕ) (after_run : Bool) → Spelling limit n after_run [] []
none_of limit n after_run = (
  no_pieces,
  record { are = tt; spelled = refl; same = refl; begins = λ e. tt },
)

-- with nothing after it
pub alone : (limit n : ℕ) (text : Text) (list : List Tree)
    → Spelling limit n false (text ++ []) list → Spelling limit n false text list
alone limit n text list = subst (λ x. Spelling limit n false x list) (append-nil text)

-- Literals.

escape_front : (limit n : ℕ) (after_run : Bool) (b : ℕ) (text : Text) (list : List Tree)
    → is_special b ≡ true → Spelling limit n false text list
    → Spelling limit n after_run (escaped (b ∷ []) ++ text) (literal (b ∷ []) ∷ list)
escape_front limit n after_run b text list special rest = (
  escape backslash b rest.0,
  record {
    are = ((refl, special), rest.1.are);
    spelled = ap (λ x. backslash ∷ b ∷ x) rest.1.spelled ∙
        ap (λ x. x ++ text) (sym (special_step b [] special));
    same = ap (λ x. literal (b ∷ []) ∷ x) rest.1.same;
    begins = λ e. tt;
  },
)

run_front : (limit n : ℕ) (after_run : Bool) (bytes text : Text) (list : List Tree)
    → IsRun after_run bytes → Spelling limit n true text list
    → Spelling limit n after_run (escaped bytes ++ text) (literal bytes ∷ list)
run_front limit n after_run bytes text list is rest = (
  run bytes rest.0,
  record {
    are = (is.some, rest.1.begins refl, rest.1.are);
    spelled = ap (λ x. bytes ++ x) rest.1.spelled ∙
        ap (λ x. x ++ text) (sym (plain_escaped bytes is.plain));
    same = ap (λ x. literal bytes ∷ x) rest.1.same;
    begins = λ e. absurd (both_ways after_run is.first e);
  },
)

after_any : (limit n : ℕ) (after_run : Bool) (text : Text) (list : List Tree)
    → Spelling limit n after_run text list → Spelling limit n false text list
after_any limit n after_run text list s = (
  s.0,
  record {
    are = s.1.are;
    spelled = s.1.spelled;
    same = s.1.same;
    begins = λ e. absurd (false≢true e);
  },
)

pub literal_front : (limit n : ℕ) (after_run : Bool) (bytes text : Text) (list : List Tree)
    → literal_reason after_run bytes ≡ None → Spelling limit n (not (is_escape bytes)) text list
    → Spelling limit n after_run (escaped bytes ++ text) (literal bytes ∷ list)
literal_front limit n after_run bytes text list e rest = by (literal_is after_run bytes e)
  where
    by : IsEscape bytes ⊎ IsRun after_run bytes
        → Spelling limit n after_run (escaped bytes ++ text) (literal bytes ∷ list)
    by (inl x) =
        subst (λ bs. Spelling limit n after_run (escaped bs ++ text) (literal bs ∷ list)) (sym x.1)
        (escape_front limit n after_run x.0 text list x.2 (after_any limit n _ text list rest))
    by (inr is) =
        run_front limit n after_run bytes text list is
        (subst (λ t. Spelling limit n (not t) text list) is.no_escape rest)

-- Brackets.

bracket_front : (limit n : ℕ) (after_run : Bool) (h : Head) (ns : Nested) (tree : Tree)
    (front text : Text) (list : List Tree)
    → IsHead h → AreNested Three limit n ns → bracket_verdict Three h ns [] ≡ Ok tree
    → head_text h ++ nested_text ns ++ right ∷ [] ≡ front → Spelling limit n false text list
    → Spelling limit n after_run (front ++ text) (tree ∷ list)
bracket_front limit n after_run h ns tree front text list head nested read is rest = (
  bracket h ns [] tree rest.0,
  record {
    are = (head, nested, refl, read, rest.1.are);
    spelled = ap (λ x. x ++ right ∷ spelling rest.0) (append-nil (head_text h ++ nested_text ns))
        ∙ sym (append_assoc (head_text h ++ nested_text ns) (right ∷ []) (spelling rest.0))
        ∙ ap (λ x. x ++ spelling rest.0) is ∙ ap (λ x. front ++ x) rest.1.spelled;
    same = ap (λ x. tree ∷ x) rest.1.same;
    begins = λ e. tt;
  },
)

pub current : (c : Component) → component_reason c ≡ None → modern c ≡ c
current c e = by (same_component (modern c) c) refl e
  where
    by : (t : Bool) → same_component (modern c) c ≡ t
        → cond t None (Some DeprecatedComponent) ≡ None → modern c ≡ c
    by true same h = component_sound (modern c) c same
    by false same h = absurd cc

pub component_front : (limit n : ℕ) (after_run : Bool) (c : Component) (text : Text)
    (list : List Tree)
    → component_reason c ≡ None → IsCounted c → Spelling limit n false text list
    → Spelling limit n after_run (component_text (modern c) ++ text) (component c ∷ list)
component_front limit n after_run c text list e counted rest =
    let shown = component-shown c counted in
    subst (λ d. Spelling limit n after_run (component_text (modern c) ++ text)
    (component d ∷ list)) (current c e)
    (bracket_front limit n after_run shown.head no_nested (component (modern c))
    (component_text (modern c)) text list shown.is tt (shown.read _)
    (ap (λ x. x ++ right ∷ []) (append-nil (head_text shown.head)) ∙ sym shown.spelled) rest)

-- Optional descriptions.

abbrev optional_head : Bool → Head
optional_head true = plain_head (codes "optional") []
optional_head false =
    plain_head (codes "optional") (codes "format" set_to codes "false" ∷ [])

optional_is : (format : Bool) → IsHead (optional_head format)
optional_is true = record { white = refl; name = refl; modifiers = tt }
optional_is false = record {
  white = refl;
  name = refl;
  modifiers = (record { white = refl; key = refl; value = refl }, tt);
}

optional_text : (format : Bool) → head_text (optional_head format) ≡ optional_front format
optional_text true = refl
optional_text false = refl

optional_read : (format : Bool) (inner : Pieces)
    → bracket_verdict Three (optional_head format) (grammar.nested (codes " ") inner no_nested) []
    ≡ Ok (optional format (pack (items inner)))
optional_read true inner = refl
optional_read false inner = refl

pub optional_bracket : (limit n : ℕ) (after_run format : Bool) (t : Tree) (text : Text)
    (list : List Tree)
    → n < limit → Spelling limit (suc n) false (printed t) (unpacked t)
    → pack (unpacked t) ≡ t → Spelling limit n false text list
    → Spelling limit n after_run (printed (optional format t) ++ text) (optional format t ∷ list)
optional_bracket limit n after_run format t text list room inner packed rest =
    bracket_front limit n after_run (optional_head format)
    (grammar.nested (codes " ") inner.0 no_nested) (optional format t)
    (printed (optional format t)) text list (optional_is format)
    (refl, room, inner.1.are, tt)
    (optional_read format inner.0
    ∙ ap (λ ts. Ok (optional format (pack ts))) inner.1.same
    ∙ ap (λ x. Ok (optional format x)) packed)
    (ap₂ (λ x y. x ++ nested y ++ right ∷ []) (optional_text format) inner.1.spelled) rest

-- Alternatives.

pub trees-listed : (ts : Trees) → trees (listed ts) ≡ ts
trees-listed no_trees = refl
trees-listed (more_trees t ts) = ap (more_trees t) (trees-listed ts)

pub record AreNestedOf (limit n : ℕ) (ts : Trees) (ns : Nested) : Type 0 where
  pub are : AreNested Three limit n ns
  pub spelled : nested_text ns ≡ nested_all ts
  pub parts : (k : ℕ) → map (λ p. pack p.trees) (parts_from k ns) ≡ listed ts
  pub spaced : (k : ℕ) → touching (parts_from k ns) ≡ None

pub no_nested_of : (limit n : ℕ) → AreNestedOf limit n no_trees no_nested
no_nested_of limit n = record {
  are = tt;
  spelled = refl;
  parts = λ k. refl;
  spaced = λ k. refl;
}

pub more_nested : (limit n : ℕ) (t : Tree) (ts : Trees) (ns : Nested)
    → n < limit → (inner : Spelling limit (suc n) false (printed t) (unpacked t))
    → pack (unpacked t) ≡ t → AreNestedOf limit n ts ns
    → AreNestedOf limit n (more_trees t ts) (grammar.nested (codes " ") inner.0 ns)
more_nested limit n t ts ns room inner packed rest = record {
  are = (refl, room, inner.1.are, rest.are);
  spelled = ap₂ (λ x y. codes " [" ++ x ++ right ∷ y) inner.1.spelled rest.spelled
      ∙ ap (λ x. codes " [" ++ x) (sym (append_assoc (printed t) (right ∷ []) (nested_all ts)));
  parts = λ k. ap₂ (λ (x : Tree) (y : List Tree). x ∷ y) (ap pack inner.1.same ∙ packed)
      (rest.parts _);
  spaced = λ k. refl;
}

abbrev first_head : Head
first_head = plain_head (codes "first") []

first_read : (parts : List PlacedDescription) (close : ℕ) (t : Tree) (ts : Trees)
    → touching parts ≡ None → map (λ p. pack p.trees) parts ≡ t ∷ listed ts
    → verdict true first_head parts close ≡ Ok (first (more_trees t ts))
first_read [] close t ts spaced e = absurd cc
first_read (p ∷ ps) close t ts spaced e =
    ap (λ o. after o (Ok (first (trees (map (λ q. pack q.trees) (p ∷ ps)))))) spaced
    ∙ ap (λ xs. Ok (first (trees xs))) e
    ∙ ap (λ xs. Ok (first (more_trees t xs))) (trees-listed ts)

pub first_bracket : (limit n : ℕ) (after_run : Bool) (t : Tree) (ts : Trees) (ns : Nested)
    (text : Text) (list : List Tree)
    → AreNestedOf limit n (more_trees t ts) ns → Spelling limit n false text list
    → Spelling limit n after_run (printed (first (more_trees t ts)) ++ text)
    (first (more_trees t ts) ∷ list)
first_bracket limit n after_run t ts ns text list is rest =
    bracket_front limit n after_run first_head ns (first (more_trees t ts))
    (printed (first (more_trees t ts))) text list
    (record { white = refl; name = refl; modifiers = tt }) is.are
    (first_read (parts_from (length (head_text first_head)) ns) _ t ts (is.spaced _) (is.parts _))
    (ap (λ x. codes "[first" ++ x ++ right ∷ []) is.spelled) rest
