-- Where the directives are, as far as a format was read.
use Rattle.std.proofs.Common.{ℕ, ◌≡◌, ◌-◌, ◌<◌, ◌≤◌, ◌==◌, true, List, [], ◌∷◌, ◌++◌, append-nil, append_assoc, length, refl, sym, ap, ◌∙◌, subst, arith}
use Rattle.std.proofs.lemmas.Bool.Decides.{nat_tests}
use Rattle.timefd_lang_component.specs.Tree.{Text}
use Rattle.timefd_lang_dialect.specs.declared.dialect.Dialect.{Dialect}
use Rattle.timefd_lang_dialect.specs.declared.spot.FormatPart.{FormatPart}
use Rattle.timefd_lang_dialect.specs.declared.spot.Spot.{Spot}
use Rattle.timefd_lang_dialect.specs.SpotSteps.{IsPart}
use Rattle.timefd_lang_dialect.specs.Laws.{OneListOfTraps}
use Rattle.timefd_lang_dialect.specs.Traps.{Said, said_at, Splits, spot_between, spots_of, AreSpots, traps_in}

-- parts lead from the format to the rest, and these are the directives among them
pub record HasSpots (dialect : Dialect) (format rest : Text) (spots : List Spot) : Type 0 where
  pub parts : List Said
  pub splits : Splits dialect format parts rest
  pub found : spots ≡ spots_of (length format) format parts
  pub left : length rest ≤ length format

pub no_spots : (dialect : Dialect) (format : Text) → HasSpots dialect format format []
no_spots dialect format =
    record { parts = []; splits = refl; found = refl; left = omega arith }

splits_more : (dialect : Dialect) (text : Text) (ps : List Said) (rest : Text)
    → Splits dialect text ps rest → 0 < length rest
    → Splits dialect text (ps ++ said_at dialect rest ∷ []) (said_at dialect rest).rest
splits_more dialect text [] rest splits some =
    subst (λ t. Splits dialect t (said_at dialect rest ∷ []) (said_at dialect rest).rest)
    (sym splits) (some, refl, refl)
splits_more dialect text (p ∷ ps) rest splits some =
    (splits.0, splits.1, splits_more dialect p.rest ps rest splits.2 some)

spots_more : (dialect : Dialect) (len : ℕ) (text : Text) (ps : List Said) (rest : Text) (p : Said)
    → Splits dialect text ps rest
    → spots_of len text (ps ++ p ∷ [])
    ≡ spots_of len text ps ++ spot_between p.role (len - length rest) (len - length p.rest)
spots_more dialect len text [] rest p splits =
    append-nil (spot_between p.role (len - length text) (len - length p.rest))
    ∙ ap (λ t. spot_between p.role (len - length t) (len - length p.rest)) splits
spots_more dialect len text (q ∷ ps) rest p splits =
    let first = spot_between q.role (len - length text) (len - length q.rest) in
    ap (λ x. first ++ x) (spots_more dialect len q.rest ps rest p splits.2)
    ∙ sym (append_assoc first (spots_of len q.rest ps)
    (spot_between p.role (len - length rest) (len - length p.rest)))

pub more_spots : (dialect : Dialect) (format rest : Text) (spots next : List Spot) (part : FormatPart)
    → HasSpots dialect format rest spots → 0 < length rest
    → IsPart (said_at dialect rest) rest part
    → next ≡ spots ++ spot_between part.role (length format - length rest)
    (length format - length part.rest.now)
    → HasSpots dialect format part.rest.now next
more_spots dialect format rest spots next part so_far some is pushed =
    let said = said_at dialect rest in
    let len = length format in
    record {
      parts = so_far.parts ++ said ∷ [];
      splits = subst (λ t. Splits dialect format (so_far.parts ++ said ∷ []) t) (sym is.rest)
          (splits_more dialect format so_far.parts rest so_far.splits some);
      found =
          pushed
          ∙ ap (λ x. x ++ spot_between part.role (len - length rest) (len - length part.rest.now))
          so_far.found
          ∙ ap (λ r. spots_of len format so_far.parts
          ++ spot_between r (len - length rest) (len - length part.rest.now)) is.role
          ∙ ap (λ t. spots_of len format so_far.parts
          ++ spot_between said.role (len - length rest) (len - length t)) is.rest
          ∙ sym (spots_more dialect len format so_far.parts rest said so_far.splits);
      left = omega (arith, so_far.left, is.left.shorter);
    }

pub all_spots : (dialect : Dialect) (format rest : Text) (spots : List Spot)
    → HasSpots dialect format rest spots → (length rest == 0) ≡ true
    → AreSpots dialect format spots
all_spots dialect format [] spots read e = (read.parts, read.splits, read.found)
all_spots dialect format (b ∷ rest) spots read e = absurd (omega (arith, none (length (b ∷ rest)) e))
  where
    none : (n : ℕ) → (n == 0) ≡ true → n ≡ 0
    none n e = grind (arith, nat_tests)

-- A format is split in only one way, so it has one list of traps.

nothing_left : (text : Text) → text ≡ [] → ¬ (0 < length text)
nothing_left text e some = omega (arith, ap length e, some)

split_once : (dialect : Dialect) (text : Text) (ps qs : List Said) → Splits dialect text ps []
    → Splits dialect text qs [] → ps ≡ qs
split_once dialect text [] [] a b = refl
split_once dialect text [] (q ∷ qs) a b = absurd (nothing_left text a b.0)
split_once dialect text (p ∷ ps) [] a b = absurd (nothing_left text b a.0)
split_once dialect text (p ∷ ps) (q ∷ qs) a b =
    let first : p ≡ q = sym a.1 ∙ b.1 in
    ap (λ x. x ∷ ps) first
    ∙ ap (λ x. q ∷ x) (split_once dialect p.rest ps qs a.2
    (subst (λ s. Splits dialect s.rest qs []) (sym first) b.2))

pub one_list_of_traps_law : (dialect : Dialect) (text : Text)
    → OneListOfTraps dialect text
one_list_of_traps_law dialect text xs ys a b =
    a.2 ∙ ap traps_in
    (a.1.2
    ∙ ap (spots_of (length text) text) (split_once dialect text a.1.0 b.1.0 a.1.1 b.1.1)
    ∙ sym b.1.2) ∙ sym b.2
