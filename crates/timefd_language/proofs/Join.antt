-- Pieces after pieces: where two runs meet, they become one.
use Rattle.std.proofs.Common.{ℕ, ◌≡◌, ◌+◌, Bool, List, [], ◌∷◌, ◌++◌, length, length-append, refl, sym, ◌∙◌, ap, arith, append_assoc}
use Rattle.timefd_language.specs.declared.description_version.DescriptionVersion.{DescriptionVersion}
use Rattle.timefd_lang_component.specs.Tree.{Text, Tree, component, literal, compound, optional, first, joined, before_joined}
use Rattle.timefd_language.specs.Bytes.{right, is_run_byte, OneOrMore}
use Rattle.timefd_lang_fault.specs.Faults.{Fault, fault}
use Rattle.timefd_language.specs.Fault.{raised}
use Rattle.timefd_language.specs.Head.{head_text}
use Rattle.timefd_language.specs.Grammar.{Pieces, no_pieces, run, escape, closing, bracket, nested_text, spelling, items, ArePieces}
use Rattle.timefd_language.specs.Broken.{broken_text, broken_fault}
use Rattle.timefd_language.specs.Laws.{Joining, Shift}
use Rattle.timefd_language.proofs.Spans.{all-append, zero_from_one}

-- a run before pieces, joined with the run that they begin with
abbrev pub with_run : Text → Pieces → Pieces
with_run bytes no_pieces = run bytes no_pieces
with_run bytes (run more rest) = run (bytes ++ more) rest
with_run bytes (escape a b rest) = run bytes (escape a b rest)
with_run bytes (closing rest) = run bytes (closing rest)
with_run bytes (bracket h ns white tree rest) = run bytes (bracket h ns white tree rest)

abbrev pub join : Pieces → Pieces → Pieces
join no_pieces qs = qs
join (run bytes rest) qs = with_run bytes (join rest qs)
join (escape a b rest) qs = escape a b (join rest qs)
join (closing rest) qs = closing (join rest qs)
join (bracket h ns white tree rest) qs = bracket h ns white tree (join rest qs)

pub with_run-spelling : (bytes : Text) (ps : Pieces)
    → spelling (with_run bytes ps) ≡ bytes ++ spelling ps
with_run-spelling bytes no_pieces = refl
with_run-spelling bytes (run more rest) = append_assoc bytes more (spelling rest)
with_run-spelling bytes (escape a b rest) = refl
with_run-spelling bytes (closing rest) = refl
with_run-spelling bytes (bracket h ns white tree rest) = refl

pub join-spelling : (ps qs : Pieces) → spelling (join ps qs) ≡ spelling ps ++ spelling qs
join-spelling no_pieces qs = refl
join-spelling (run bytes rest) qs =
    with_run-spelling bytes (join rest qs) ∙ ap (λ x. bytes ++ x) (join-spelling rest qs) ∙
    sym (append_assoc bytes (spelling rest) (spelling qs))
join-spelling (escape a b rest) qs = ap (λ x. a ∷ b ∷ x) (join-spelling rest qs)
join-spelling (closing rest) qs = ap (λ x. right ∷ x) (join-spelling rest qs)
join-spelling (bracket h ns white tree rest) qs =
    ap (λ x. head_text h ++ nested_text ns ++ white ++ right ∷ x) (join-spelling rest qs)
    ∙ sym (append_assoc (head_text h ++ nested_text ns ++ white) (right ∷ spelling rest)
    (spelling qs))

pub one-append : (test : ℕ → Bool) (a b : Text) → OneOrMore test a → OneOrMore test b
    → OneOrMore test (a ++ b)
one-append test [] b ha hb = absurd ha
one-append test (x ∷ a) b ha hb = all-append test (x ∷ a) b ha (zero_from_one test b hb)

pub with_run-pieces : (v : DescriptionVersion) (limit n : ℕ) (bytes : Text) (ps : Pieces)
    → OneOrMore (is_run_byte v) bytes → ArePieces v limit n ps
    → ArePieces v limit n (with_run bytes ps)
with_run-pieces v limit n bytes no_pieces h are = (h, tt, tt)
with_run-pieces v limit n bytes (run more rest) h are =
    (one-append (is_run_byte v) bytes more h are.0, are.1, are.2)
with_run-pieces v limit n bytes (escape a b rest) h are = (h, tt, are)
with_run-pieces v limit n bytes (closing rest) h are = (h, tt, are)
with_run-pieces v limit n bytes (bracket x ns white tree rest) h are = (h, tt, are)

pub join-pieces : (v : DescriptionVersion) (limit n : ℕ) (ps qs : Pieces) → ArePieces v limit n ps
    → ArePieces v limit n qs → ArePieces v limit n (join ps qs)
join-pieces v limit n no_pieces qs are are' = are'
join-pieces v limit n (run bytes rest) qs are are' =
    with_run-pieces v limit n bytes (join rest qs) are.0 (join-pieces v limit n rest qs are.2 are')
join-pieces v limit n (escape a b rest) qs are are' =
    (are.0, join-pieces v limit n rest qs are.1 are')
join-pieces v limit n (closing rest) qs are are' =
    (are.0, are.1, join-pieces v limit n rest qs are.2 are')
join-pieces v limit n (bracket h ns white tree rest) qs are are' =
    (are.0, are.1, are.2, are.3, join-pieces v limit n rest qs are.4 are')

-- Two literals before a list mean the same as one.
pub literals_joined : (a b : Text) (ts : List Tree)
    → before_joined (literal (a ++ b)) ts ≡ before_joined (literal a) (before_joined (literal b) ts)
literals_joined a b [] = refl
literals_joined a b (component c ∷ ts) = refl
literals_joined a b (literal c ∷ ts) = ap (λ x. literal x ∷ ts) (append_assoc a b c)
literals_joined a b (compound us ∷ ts) = refl
literals_joined a b (optional f u ∷ ts) = refl
literals_joined a b (first us ∷ ts) = refl

pub with_run-joined : (bytes : Text) (ps : Pieces)
    → joined (items (with_run bytes ps)) ≡ before_joined (literal bytes) (joined (items ps))
with_run-joined bytes no_pieces = refl
with_run-joined bytes (run more rest) = literals_joined bytes more (joined (items rest))
with_run-joined bytes (escape a b rest) = refl
with_run-joined bytes (closing rest) = refl
with_run-joined bytes (bracket h ns white tree rest) = refl

pub join-joined : (ps qs : Pieces) → joined (items (join ps qs)) ≡ joined (items ps ++ items qs)
join-joined no_pieces qs = refl
join-joined (run bytes rest) qs = with_run-joined bytes (join rest qs) ∙
    ap (before_joined (literal bytes)) (join-joined rest qs)
join-joined (escape a b rest) qs = ap (before_joined (literal (b ∷ []))) (join-joined rest qs)
join-joined (closing rest) qs = ap (before_joined (literal (right ∷ []))) (join-joined rest qs)
join-joined (bracket h ns white tree rest) qs = ap (before_joined tree) (join-joined rest qs)

pub joining_law : Joining
joining_law v limit s t a b h k = (
  items (join h.0 k.0),
  (join h.0 k.0, join-pieces v limit 0 h.0 k.0 h.1 k.1, cc (join-spelling h.0 k.0), refl),
  join-joined h.0 k.0 ∙ cc,
)

pub raised-raised : (f : Fault) (j k m : ℕ) → m ≡ j + k → raised f m ≡ raised (raised f k) j
raised-raised f j k m e = ap (λ i. fault f.kind i) (omega arith)

pub shift_law : Shift
shift_law v limit s t a f h k = (
  join h.0 k.0,
  k.1,
  join-pieces v limit 0 h.0 k.0 h.1 k.2,
  k.3,
  whole,
  ap (λ x. raised x (length s)) k.5 ∙
      sym (raised-raised (broken_fault k.1) (length s) (length (spelling k.0))
      (length (spelling (join h.0 k.0))) lengths),
)
  where
    whole : s ++ t ≡ spelling (join h.0 k.0) ++ broken_text k.1
    whole =
        ap (λ x. x ++ t) h.2 ∙ ap (λ x. spelling h.0 ++ x) k.4 ∙
        sym (append_assoc (spelling h.0) (spelling k.0) (broken_text k.1))
        ∙ ap (λ x. x ++ broken_text k.1) (sym (join-spelling h.0 k.0))

    lengths : length (spelling (join h.0 k.0)) ≡ length s + length (spelling k.0)
    lengths = omega (
      arith,
      ap length (join-spelling h.0 k.0),
      length-append (spelling h.0) (spelling k.0),
      ap length h.2,
    )
