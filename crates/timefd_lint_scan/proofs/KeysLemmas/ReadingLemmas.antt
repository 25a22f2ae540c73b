-- What the parts so far denote, and what is left of a string.
use Rattle.std.proofs.Common.{ℕ, zero, suc, ◌≡◌, ◌≤◌, ◌-◌, List, [], ◌∷◌, ◌++◌, length, true, false, refl, sym, ap, subst, ◌∙◌}
use Rattle.std.proofs.Common.{append_assoc, append-nil, arith, ◌<◌}
use Rattle.std.proofs.lemmas.List.{drop_all}
use Rattle.std.specs.Prelude.{Bool, Option, Some, None, if◌then◌else◌}
use Rattle.timefd_lint_scan.specs.Bytes.{Text}
use Rattle.timefd_lint_scan.specs.declared.part.StringPart as code
use Rattle.timefd_lint_scan.specs.Escapes.{Part, all_at, parted, parted_any, stands_for}
use Rattle.timefd_lint_scan.specs.declared.keys.style.StringStyle.{StringStyle}
use Rattle.timefd_lint_scan.specs.Keys.Escapes.{part_of}
use Rattle.timefd_lint_scan.specs.declared.keys.format.FileFormat.{FileFormat}
use Rattle.timefd_lint_scan.specs.Keys.Strings.{Reading, at_end, before, closed_at, first_string, read, read_all, string_at, reported_as}
use Rattle.timefd_lint_scan.specs.Keys.Styles.{closes, is_closed_by_end}

-- The text so far, followed by what the rest denotes, is what the whole string denotes.
pub record Left (style : StringStyle) (end : ℕ) (text : Text) (positions : List ℕ) (rest all : Text) : Type 0 where
  pub steps : ℕ
  pub enough : length rest ≤ steps
  pub within : length rest ≤ length all
  pub same : before text positions (read steps style end rest) ≡ read_all style end all

before_nothing : (r : Option Reading) → before [] [] r ≡ r
before_nothing None = refl
before_nothing (Some r) = refl

before_before : (t u : Text) (p q : List ℕ) (r : Option Reading)
    → before t p (before u q r) ≡ before (t ++ u) (p ++ q) r
before_before t u p q None = refl
before_before t u p q (Some x) =
    ap (λ (s : Text). reported_as s (p ++ (q ++ x.positions)) x.closing) (sym (append_assoc t u x.text))
    ∙ ap (λ (s : List ℕ). reported_as ((t ++ u) ++ x.text) s x.closing) (sym (append_assoc p q x.positions))

nothing_more : (text : Text) (positions : List ℕ) (closing : ℕ)
    → reported_as text positions closing ≡ before text positions (Some (closed_at closing))
nothing_more text positions closing = ap (λ (s : Text). reported_as s positions closing) (sym (append-nil text))
    ∙ ap (λ (s : List ℕ). reported_as (text ++ []) s closing) (sym (append-nil positions))

pub at_first : (style : StringStyle) (end : ℕ) (all : Text) → Left style end [] [] all all
at_first style end all = record {
  steps = length all;
  enough = omega arith;
  within = omega arith;
  same = before_nothing _;
}

-- the outcome of one part
abbrev go : StringStyle → ℕ → ℕ → ℕ → Option Part → Option Reading
go style end position steps None = None
go style end position steps (Some p) = before p.stands (all_at position p.stands) (read steps style end p.rest)

-- the outcome of one byte
abbrev step : StringStyle → ℕ → ℕ → ℕ → Bool → Option Part → Option Reading
step style end position steps true r = Some (closed_at position)
step style end position steps false r = go style end position steps r

abbrev cased : StringStyle → ℕ → ℕ → ℕ → Option Part → Option Reading
cased style end position steps t = elim t as (λ _. Option Reading) [
  | None ↦ None
  | Some p ↦ before p.stands (all_at position p.stands) (read steps style end p.rest)
]

one_step : (style : StringStyle) (end steps b : ℕ) (bytes : Text) (closed : Bool) (r : Option Part)
    → closed ≡ closes style b bytes → r ≡ part_of style b bytes
    → read (suc steps) style end (b ∷ bytes) ≡ step style end (end - length (b ∷ bytes)) steps closed r
one_step style end steps b bytes closed r c e =
    subst (λ (x : Bool). (if x then Some (closed_at (end - length (b ∷ bytes)))
    else cased style end (end - length (b ∷ bytes)) steps (part_of style b bytes))
    ≡ step style end (end - length (b ∷ bytes)) steps closed r) c
    (subst (λ (t : Option Part). (if closed then Some (closed_at (end - length (b ∷ bytes)))
    else cased style end (end - length (b ∷ bytes)) steps t)
    ≡ step style end (end - length (b ∷ bytes)) steps closed r) e (same closed r))
  where
    same : (x : Bool) (t : Option Part) → (if x then Some (closed_at (end - length (b ∷ bytes)))
        else cased style end (end - length (b ∷ bytes)) steps t)
        ≡ step style end (end - length (b ∷ bytes)) steps x t
    same true t = refl
    same false None = refl
    same false (Some p) = refl

-- what the whole string denotes, by its next byte
by_step : (style : StringStyle) (end : ℕ) (text : Text) (positions : List ℕ) (b : ℕ) (bytes rest all : Text)
    (closed : Bool) (r : Option Part)
    → Left style end text positions rest all → closed ≡ closes style b bytes → r ≡ part_of style b bytes
    → rest ≡ b ∷ bytes
    → (steps : ℕ) × (length bytes ≤ steps)
    × (before text positions (step style end (end - length rest) steps closed r) ≡ read_all style end all)
by_step style end text positions b bytes rest all closed r l c e split =
    subst (λ (x : Text). (steps : ℕ) × (length bytes ≤ steps)
    × (before text positions (step style end (end - length x) steps closed r) ≡ read_all style end all)) (sym split)
    (more l.steps (omega (arith, l.enough, ap length split))
    (subst (λ (x : Text). before text positions (read l.steps style end x) ≡ read_all style end all) split l.same))
  where
    more : (steps : ℕ) → length (b ∷ bytes) ≤ steps
        → before text positions (read steps style end (b ∷ bytes)) ≡ read_all style end all
        → (steps : ℕ) × (length bytes ≤ steps)
        × (before text positions (step style end (end - length (b ∷ bytes)) steps closed r) ≡ read_all style end all)
    more zero enough same = absurd (omega arith)
    more (suc steps) enough same =
        (steps, omega arith, ap (before text positions) (sym (one_step style end steps b bytes closed r c e)) ∙ same)

pub one_more : (style : StringStyle) (end : ℕ) (text more_text : Text) (positions more_positions : List ℕ) (b : ℕ)
    (bytes rest all : Text) (closed : Bool) (r : Option code.StringPart) (p : code.StringPart)
    → Left style end text positions rest all
    → closed ≡ closes style b bytes → closed ≡ false
    → parted_any r ≡ part_of style b bytes → r ≡ Some p → rest ≡ b ∷ bytes
    → length p.rest.now ≤ length bytes
    → more_text ≡ text ++ stands_for p.stands
    → more_positions ≡ positions ++ all_at (end - length rest) (stands_for p.stands)
    → Left style end more_text more_positions p.rest.now all
one_more style end text more_text positions more_positions b bytes rest all closed r p l c still part is split le t q =
    subst (λ (x : Text). Left style end x more_positions p.rest.now all) (sym t)
    (subst (λ (x : List ℕ). Left style end (text ++ stands_for p.stands) x p.rest.now all) (sym q)
    (more (by_step style end text positions b bytes rest all false (Some (parted p)) l (sym still ∙ c)
    (sym (ap parted_any is) ∙ part) split)))
  where
    more : ((steps : ℕ) × (length bytes ≤ steps)
        × (before text positions (step style end (end - length rest) steps false (Some (parted p))) ≡ read_all style end all))
        → Left style end (text ++ stands_for p.stands)
        (positions ++ all_at (end - length rest) (stands_for p.stands)) p.rest.now all
    more (steps, enough, same) = record {
      steps = steps;
      enough = omega (arith, le, enough);
      within = omega (arith, l.within, le, ap length split);
      same = sym (before_before text (stands_for p.stands) positions
          (all_at (end - length rest) (stands_for p.stands)) (read steps style end p.rest.now)) ∙ same;
    }

pub faulty : (style : StringStyle) (end : ℕ) (text : Text) (positions : List ℕ) (b : ℕ) (bytes rest all : Text)
    (closed : Bool) (r : Option code.StringPart)
    → Left style end text positions rest all
    → closed ≡ closes style b bytes → closed ≡ false
    → parted_any r ≡ part_of style b bytes → r ≡ None → rest ≡ b ∷ bytes
    → None ≡ read_all style end all
faulty style end text positions b bytes rest all closed r l c still part is split =
    more (by_step style end text positions b bytes rest all false None l (sym still ∙ c)
    (sym (ap parted_any is) ∙ part) split)
  where
    more : ((steps : ℕ) × (length bytes ≤ steps)
        × (before text positions (step style end (end - length rest) steps false None) ≡ read_all style end all))
        → None ≡ read_all style end all
    more (steps, enough, same) = same

pub at_closing : (style : StringStyle) (end : ℕ) (text : Text) (positions : List ℕ) (b : ℕ) (bytes rest all : Text)
    (closed : Bool) (position : ℕ)
    → Left style end text positions rest all
    → closed ≡ closes style b bytes → closed ≡ true → rest ≡ b ∷ bytes → position ≡ end - length rest
    → reported_as text positions position ≡ read_all style end all
at_closing style end text positions b bytes rest all closed position l c is split same_position =
    ap (reported_as text positions) same_position ∙ (nothing_more text positions (end - length rest)
    ∙ more (by_step style end text positions b bytes rest all true (part_of style b bytes) l (sym is ∙ c) refl split))
  where
    more : ((steps : ℕ) × (length bytes ≤ steps)
        × (before text positions (step style end (end - length rest) steps true (part_of style b bytes)) ≡ read_all style end all))
        → before text positions (Some (closed_at (end - length rest))) ≡ read_all style end all
    more (steps, enough, same) = same

pub at_last : (style : StringStyle) (end : ℕ) (text : Text) (positions : List ℕ) (rest all : Text)
    → Left style end text positions rest all → rest ≡ []
    → before text positions (at_end style end) ≡ read_all style end all
at_last style end text positions rest all l split =
    more l.steps (subst (λ (x : Text). before text positions (read l.steps style end x) ≡ read_all style end all) split l.same)
  where
    more : (steps : ℕ) → before text positions (read steps style end []) ≡ read_all style end all
        → before text positions (at_end style end) ≡ read_all style end all
    more zero same = same
    more (suc steps) same = same

abbrev ending : Text → List ℕ → ℕ → Bool → Option Reading
ending text positions end closed = before text positions (if closed then Some (closed_at end) else None)

pub ended : (style : StringStyle) (end : ℕ) (text : Text) (positions : List ℕ) (rest all : Text) (shut : Bool)
    → Left style end text positions rest all → rest ≡ [] → shut ≡ is_closed_by_end style → shut ≡ true
    → reported_as text positions end ≡ read_all style end all
ended style end text positions rest all shut l split same is =
    nothing_more text positions end ∙ (ap (ending text positions end) (sym is ∙ same)
    ∙ at_last style end text positions rest all l split)

pub unended : (style : StringStyle) (end : ℕ) (text : Text) (positions : List ℕ) (rest all : Text) (shut : Bool)
    → Left style end text positions rest all → rest ≡ [] → shut ≡ is_closed_by_end style → shut ≡ false
    → None ≡ read_all style end all
unended style end text positions rest all shut l split same is =
    ap (ending text positions end) (sym is ∙ same) ∙ at_last style end text positions rest all l split

-- Nothing follows the end of a source.
pub beyond : (format : FileFormat) (source : Text) (start : ℕ) → length source < start
    → None ≡ string_at format source start
beyond format source start after =
    ap (first_string format (length source)) (sym (drop_all start source (omega arith)))
