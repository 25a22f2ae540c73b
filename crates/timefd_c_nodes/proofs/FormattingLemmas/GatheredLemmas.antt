-- What is read by trees one after another, and by a compound of some.
use Rattle.std.proofs.Common.{◌≡◌, List, [], ◌∷◌, ◌++◌, Result, Ok, Err, refl}
use Rattle.timefd_lang_component.specs.Tree.{Tree, compound, trees}
use Rattle.timefd_date_moment.specs.Fields.Reads.{Point, followed, read, read_all}

-- what holds for each value and each error holds
pub either_way : {A B : Type 0} (P : Result A B → Type 0) → ((a : A) → P (Ok a)) → ((e : B) → P (Err e))
    → (r : Result A B) → P r
either_way P by_value by_error (Ok a) = by_value a
either_way P by_value by_error (Err e) = by_error e

pub appended : (xs ys : List Tree) (p : Point) → read_all (trees (xs ++ ys)) p
    ≡ followed (read_all (trees xs) p) (λ q. read_all (trees ys) q)
appended [] ys p = refl
appended (u ∷ us) ys p =
    either_way (λ o. followed o (λ x. read_all (trees (us ++ ys)) x)
    ≡ followed (followed o (λ x. read_all (trees us) x)) (λ q. read_all (trees ys) q))
    (λ m. appended us ys m) (λ g. refl) (read u p)

-- A compound reads what its members read in turn.
pub gathered : (xs ys : List Tree) (p : Point)
    → read_all (trees (xs ++ compound (trees ys) ∷ [])) p ≡ read_all (trees (xs ++ ys)) p
gathered [] ys p =
    either_way (λ o. followed o (λ x. read_all (trees []) x) ≡ o) (λ m. refl) (λ g. refl) (read_all (trees ys) p)
gathered (u ∷ us) ys p =
    either_way (λ o. followed o (λ x. read_all (trees (us ++ compound (trees ys) ∷ [])) x)
    ≡ followed o (λ x. read_all (trees (us ++ ys)) x))
    (λ m. gathered us ys m) (λ g. refl) (read u p)
