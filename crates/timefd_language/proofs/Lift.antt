-- Pieces of version 1 as pieces of version 2.
use Rattle.std.proofs.Common.{ℕ, ◌≡◌, ◌+◌, ◌==◌, ◌&&◌, ◌⊎◌, inl, inr, cond, not, Bool, true, false, List, [], ◌∷◌, ◌++◌, Result, Ok, Option, Some, None, length, refl, sym, ◌∙◌, ap, codes, eqb-true}
use Rattle.std.specs.List.{list_all}
use Rattle.std.proofs.lemmas.Bool.{and_parts, or_cases, or_left, both_ways}
use Rattle.timefd_language.specs.declared.description_version.DescriptionVersion.TheVariants.{One, Two}
use Rattle.timefd_lang_component.specs.Tree.{Text, Tree, literal, joined, before_joined}
use Rattle.timefd_language.specs.Bytes.{left, right, backslash, is_special, is_run_byte, same, ZeroOrMore, OneOrMore}
use Rattle.timefd_lang_fault.specs.Faults.{Fault, fault}
use Rattle.timefd_lang_fault.specs.Words.{optional_item, first_item}
use Rattle.timefd_language.specs.Head.{Head, placed, head_text}
use Rattle.timefd_language.specs.Values.{format}
use Rattle.timefd_language.specs.Verdict.{PlacedDescription, ◌or◌, unless, bad_modifiers, touching, too_many, any_modifier, optional_verdict, first_verdict, verdict}
use Rattle.timefd_language.specs.Grammar.{Pieces, Nested, no_pieces, run, escape, closing, bracket, no_nested, nested, spelling, nested_text, items, ArePieces, is_empty, parts_from}
use Rattle.timefd_language.specs.Rewritten.{doubled, rewritten}
use Rattle.timefd_language.specs.Laws.{Lifting}
use Rattle.timefd_language.proofs.Roomy.{after_ok}
use Rattle.timefd_language.proofs.Spans.{zero_from_one}
use Rattle.timefd_language.proofs.Join.{with_run, with_run-spelling, with_run-pieces, with_run-joined, literals_joined}

-- Versions 1 and 2 accept no bracket with a nested description.

pub unless_fault : (o : Option Fault) (f : Fault) (t u : Tree) → unless (o or Some f) t ≡ Ok u → ⊥
unless_fault (Some g) f t u e = cc
unless_fault None f t u e = cc

unless_fault-last : (a b c : Option Fault) (f : Fault) (t u : Tree)
    → unless (a or b or c or Some f) t ≡ Ok u → ⊥
unless_fault-last (Some x) b c f t u e = cc
unless_fault-last None (Some x) c f t u e = cc
unless_fault-last None None (Some x) f t u e = cc
unless_fault-last None None None f t u e = cc

chosen : (b : Bool) (x y z : Result Tree Fault) → cond b x y ≡ z → (x ≡ z → ⊥) → (y ≡ z → ⊥) → ⊥
chosen true x y z e no_x no_y = no_x e
chosen false x y z e no_x no_y = no_y e

nested_refuses : (h : Head) (p : PlacedDescription) (ps : List PlacedDescription) (close : ℕ)
    (t : Tree) → verdict false h (p ∷ ps) close ≡ Ok t → ⊥
nested_refuses h p ps close t e =
    chosen (same false (codes "optional") h.name) (optional_verdict false h (p ∷ ps) close) _ (Ok t)
    (after_ok (touching (p ∷ ps)) _ t e)
    (λ o. unless_fault-last (bad_modifiers false (format ∷ []) [] (placed h)) (too_many (p ∷ ps))
    None (fault optional_item 0) _ t o)
    (λ r. chosen (same false (codes "first") h.name) (first_verdict false h (p ∷ ps) close) _ (Ok t)
    r
    (λ f. unless_fault (any_modifier (placed h)) (fault first_item 0) _ t f)
    (λ c. cc))

pub bracket_refuses : (h : Head) (w : Text) (ps : Pieces) (ns : Nested) (white : Text) (tree : Tree)
    → verdict false h (parts_from (length (head_text h)) (nested w ps ns))
    (length (head_text h ++ nested_text (nested w ps ns) ++ white)) ≡ Ok tree → ⊥
bracket_refuses h w ps ns white tree =
    nested_refuses h (record {
      spaced = not (is_empty w);
      index = length (head_text h) + length w;
      trees = items ps;
    })
    (parts_from (length (head_text h) + length w + 1 + length (spelling ps) + 1) ns)
    (length (head_text h ++ nested_text (nested w ps ns) ++ white)) tree

-- Runs.

doubled_pieces : Text → Pieces → Pieces
doubled_pieces [] ps = ps
doubled_pieces (b ∷ bytes) ps = cond (b == backslash)
    (escape backslash backslash (doubled_pieces bytes ps))
    (with_run (b ∷ []) (doubled_pieces bytes ps))

doubled_pieces-spelling : (bytes : Text) (ps : Pieces)
    → spelling (doubled_pieces bytes ps) ≡ doubled bytes ++ spelling ps
unfolding doubled_pieces
doubled_pieces-spelling [] ps = refl
doubled_pieces-spelling (b ∷ bytes) ps = by (b == backslash) (doubled_pieces-spelling bytes ps)
  where
    by : (t : Bool) → spelling (doubled_pieces bytes ps) ≡ doubled bytes ++ spelling ps
        → spelling (cond t (escape backslash backslash (doubled_pieces bytes ps))
        (with_run (b ∷ []) (doubled_pieces bytes ps)))
        ≡ cond t (backslash ∷ backslash ∷ doubled bytes) (b ∷ doubled bytes) ++ spelling ps
    by true e = ap (λ x. backslash ∷ backslash ∷ x) e
    by false e = with_run-spelling (b ∷ []) (doubled_pieces bytes ps) ∙ ap (λ x. b ∷ x) e

-- a run byte of version 1 that isn't a backslash is a run byte of version 2
run_byte : (b : ℕ) → is_run_byte One b ≡ true → (b == backslash) ≡ false → is_run_byte Two b ≡ true
run_byte b h e = by (or_cases (not (is_special b)) ((b == backslash) && true) h)
  where
    by : (not (is_special b) ≡ true) ⊎ (((b == backslash) && true) ≡ true)
        → is_run_byte Two b ≡ true
    by (inl s) = or_left (not (is_special b)) ((b == backslash) && false) s
    by (inr s) = absurd (both_ways (b == backslash) e (and_parts (b == backslash) true s).0)

doubled_pieces-are : (limit : ℕ) (bytes : Text) (ps : Pieces) → ZeroOrMore (is_run_byte One) bytes
    → ArePieces Two limit 0 ps → ArePieces Two limit 0 (doubled_pieces bytes ps)
unfolding doubled_pieces
doubled_pieces-are limit [] ps h are = are
doubled_pieces-are limit (b ∷ bytes) ps h are =
    let p = and_parts (is_run_byte One b) (list_all (is_run_byte One) bytes) h in
    by (b == backslash) refl p.0 (doubled_pieces-are limit bytes ps p.1 are)
  where
    by : (t : Bool) → (b == backslash) ≡ t → is_run_byte One b ≡ true
        → ArePieces Two limit 0 (doubled_pieces bytes ps)
        → ArePieces Two limit 0 (cond t (escape backslash backslash (doubled_pieces bytes ps))
        (with_run (b ∷ []) (doubled_pieces bytes ps)))
    by true e r more = ((refl, refl), more)
    by false e r more = with_run-pieces Two limit 0 (b ∷ []) (doubled_pieces bytes ps)
        (rw (run_byte b r e) refl) more

doubled_pieces-joined : (b : ℕ) (bytes : Text) (ps : Pieces)
    → joined (items (doubled_pieces (b ∷ bytes) ps)) ≡ before_joined (literal (b ∷ bytes))
    (joined (items ps))
unfolding doubled_pieces
doubled_pieces-joined b [] ps = by (b == backslash) refl
  where
    by : (t : Bool) → (b == backslash) ≡ t
        → joined (items (cond t (escape backslash backslash ps) (with_run (b ∷ []) ps)))
        ≡ before_joined (literal (b ∷ [])) (joined (items ps))
    by true e = ap (λ x. before_joined (literal (x ∷ [])) (joined (items ps)))
        (sym (eqb-true b backslash e))
    by false e = with_run-joined (b ∷ []) ps
doubled_pieces-joined b (c ∷ bytes) ps = by (b == backslash) refl (doubled_pieces-joined c bytes ps)
  where
    by : (t : Bool) → (b == backslash) ≡ t
        → joined (items (doubled_pieces (c ∷ bytes) ps)) ≡ before_joined (literal (c ∷ bytes))
        (joined (items ps))
        → joined (items (cond t (escape backslash backslash (doubled_pieces (c ∷ bytes) ps))
        (with_run (b ∷ []) (doubled_pieces (c ∷ bytes) ps))))
        ≡ before_joined (literal (b ∷ c ∷ bytes)) (joined (items ps))
    by true e more =
        ap (λ x. before_joined (literal (x ∷ [])) (joined (items (doubled_pieces (c ∷ bytes) ps))))
        (sym (eqb-true b backslash e))
        ∙ ap (before_joined (literal (b ∷ []))) more ∙
        sym (literals_joined (b ∷ []) (c ∷ bytes) (joined (items ps)))
    by false e more =
        with_run-joined (b ∷ []) (doubled_pieces (c ∷ bytes) ps)
        ∙ ap (before_joined (literal (b ∷ []))) more ∙
        sym (literals_joined (b ∷ []) (c ∷ bytes) (joined (items ps)))

run_joined : (limit : ℕ) (bytes : Text) (ps : Pieces) → OneOrMore (is_run_byte One) bytes
    → joined (items (doubled_pieces bytes ps)) ≡ before_joined (literal bytes) (joined (items ps))
run_joined limit [] ps h = absurd h
run_joined limit (b ∷ bytes) ps h = doubled_pieces-joined b bytes ps

-- All pieces.

lifted : Pieces → Pieces
lifted no_pieces = no_pieces
lifted (run bytes rest) = doubled_pieces bytes (lifted rest)
lifted (escape a b rest) = escape backslash left (lifted rest)
lifted (closing rest) = escape backslash right (lifted rest)
lifted (bracket h ns white tree rest) = bracket h ns white tree (lifted rest)

lifted-spelling : (ps : Pieces) → spelling (lifted ps) ≡ rewritten ps
unfolding lifted
lifted-spelling no_pieces = refl
lifted-spelling (run bytes rest) = doubled_pieces-spelling bytes (lifted rest) ∙
    ap (λ x. doubled bytes ++ x) (lifted-spelling rest)
lifted-spelling (escape a b rest) = ap (λ x. backslash ∷ left ∷ x) (lifted-spelling rest)
lifted-spelling (closing rest) = ap (λ x. backslash ∷ right ∷ x) (lifted-spelling rest)
lifted-spelling (bracket h ns white tree rest) =
    ap (λ x. head_text h ++ nested_text ns ++ white ++ right ∷ x) (lifted-spelling rest)

lifted-are : (limit : ℕ) (ps : Pieces) → ArePieces One limit 0 ps
    → ArePieces Two limit 0 (lifted ps)
unfolding lifted
lifted-are limit no_pieces are = tt
lifted-are limit (run bytes rest) are =
    doubled_pieces-are limit bytes (lifted rest) (zero_from_one (is_run_byte One) bytes are.0)
    (lifted-are limit rest are.2)
lifted-are limit (escape a b rest) are = ((refl, refl), lifted-are limit rest are.1)
lifted-are limit (closing rest) are = ((refl, refl), lifted-are limit rest are.2)
lifted-are limit (bracket h no_nested white tree rest) are =
    (are.0, tt, are.2, are.3, lifted-are limit rest are.4)
lifted-are limit (bracket h (nested w ps ns) white tree rest) are =
    absurd (bracket_refuses h w ps ns white tree are.3)

lifted-joined : (limit : ℕ) (ps : Pieces) → ArePieces One limit 0 ps
    → joined (items (lifted ps)) ≡ joined (items ps)
unfolding lifted
lifted-joined limit no_pieces are = refl
lifted-joined limit (run bytes rest) are = run_joined limit bytes (lifted rest) are.0 ∙
    ap (before_joined (literal bytes)) (lifted-joined limit rest are.2)
lifted-joined limit (escape a b rest) are =
    ap (λ x. before_joined (literal (x ∷ [])) (joined (items (lifted rest)))) (sym are.0.1) ∙
    ap (before_joined (literal (b ∷ []))) (lifted-joined limit rest are.1)
lifted-joined limit (closing rest) are =
    ap (before_joined (literal (right ∷ []))) (lifted-joined limit rest are.2)
lifted-joined limit (bracket h ns white tree rest) are =
    ap (before_joined tree) (lifted-joined limit rest are.4)

pub lifting_law : Lifting
lifting_law limit ps are = (
  items (lifted ps),
  (lifted ps, lifted-are limit ps are, sym (lifted-spelling ps), refl),
  lifted-joined limit ps are,
)
