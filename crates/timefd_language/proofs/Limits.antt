-- What stays the same with a greater limit.
use Rattle.std.proofs.Common.{ℕ, suc, ◌≡◌, ◌≢◌, ◌≤◌, refl, ◌∙◌, ap, arith}
use Rattle.timefd_language.specs.declared.description_version.DescriptionVersion.{DescriptionVersion}
use Rattle.timefd_lang_fault.specs.Faults.{Kind}
use Rattle.timefd_language.specs.Fault.{enclosed}
use Rattle.timefd_lang_fault.specs.Words.{too_highly_nested}
use Rattle.timefd_language.specs.Grammar.{Pieces, no_pieces, run, escape, closing, bracket, Nested, no_nested, nested, ArePieces, AreNested}
use Rattle.timefd_language.specs.Broken.{Broken, bare_closing, half_escape, nameless, ill_modified, too_deep, broken_inside, cut_off, unclosed, refused, IsBroken, broken_fault}
use Rattle.timefd_language.specs.Laws.{GreaterLimit}

mutual
  pub pieces_grow : (ps : Pieces) (v : DescriptionVersion) (low high n : ℕ) → low ≤ high
      → ArePieces v low n ps → ArePieces v high n ps
  pieces_grow no_pieces v low high n more are = tt
  pieces_grow (run bytes rest) v low high n more are =
      (are.0, are.1, pieces_grow rest v low high n more are.2)
  pieces_grow (escape a b rest) v low high n more are =
      (are.0, pieces_grow rest v low high n more are.1)
  pieces_grow (closing rest) v low high n more are =
      (are.0, are.1, pieces_grow rest v low high n more are.2)
  pieces_grow (bracket h ns white tree rest) v low high n more are = (
    are.0,
    nested_grow ns v low high n more are.1,
    are.2,
    are.3,
    pieces_grow rest v low high n more are.4,
  )

  pub nested_grow : (ns : Nested) (v : DescriptionVersion) (low high n : ℕ) → low ≤ high
      → AreNested v low n ns → AreNested v high n ns
  nested_grow no_nested v low high n more are = tt
  nested_grow (nested white ps ns) v low high n more are = (
    are.0,
    omega (arith, are.1),
    pieces_grow ps v low high (suc n) more are.2,
    nested_grow ns v low high n more are.3,
  )

-- If the inner fault is that of too deep nesting, so is the outer one.
enclosed_deep : (kind : Kind) (index k : ℕ) → kind ≡ too_highly_nested
    → (enclosed kind index k).kind ≡ too_highly_nested
enclosed_deep kind index k e = ap (λ x. (enclosed x index k).kind) e

pub broken_grows : (b : Broken) (v : DescriptionVersion) (low high n : ℕ) → low ≤ high
    → IsBroken v low n b → (broken_fault b).kind ≢ too_highly_nested → IsBroken v high n b
broken_grows (bare_closing rest) v low high n more is other = is
broken_grows (half_escape rest) v low high n more is other = is
broken_grows (nameless white rest) v low high n more is other = is
broken_grows (ill_modified h white word rest) v low high n more is other = is
broken_grows (too_deep h ns white rest) v low high n more is other = absurd (other refl)
broken_grows (broken_inside h ns white front inner) v low high n more is other = (
  is.0,
  nested_grow ns v low high n more is.1,
  is.2,
  omega (arith, is.3),
  pieces_grow front v low high (suc n) more is.4,
  broken_grows inner v low high (suc n) more is.5
      (λ e. other (enclosed_deep (broken_fault inner).kind (broken_fault inner).index _ e)),
)
broken_grows (cut_off h ns white front) v low high n more is other = (
  is.0,
  nested_grow ns v low high n more is.1,
  is.2,
  omega (arith, is.3),
  pieces_grow front v low high (suc n) more is.4,
)
broken_grows (unclosed h ns white rest) v low high n more is other =
    (is.0, nested_grow ns v low high n more is.1, is.2, is.3, is.4, is.5)
broken_grows (refused h ns white f rest) v low high n more is other =
    (is.0, nested_grow ns v low high n more is.1, is.2, is.3)

pub greater_limit_law : GreaterLimit
greater_limit_law v low high text more = (
  λ list h. (h.0, pieces_grow h.0 v low high 0 more h.1, h.2, h.3),
  λ f h other. (
    h.0,
    h.1,
    pieces_grow h.0 v low high 0 more h.2,
    broken_grows h.1 v low high 0 more h.3 (λ e. other (ap (λ x. x.kind) h.5 ∙ e)),
    h.4,
    h.5,
  ),
)
