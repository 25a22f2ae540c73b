-- Parts, appended one after another.
use Rattle.std.proofs.Common.{ℕ, ◌≡◌, ◌∙◌, ◌+◌, ◌<◌, ◌≤◌, List, [], ◌∷◌, ◌++◌, length, take, drop, map, get_or, Some, Result, Ok, Err, refl, sym, ap, subst, arith, append_assoc, append-nil, add-one, drop-cons, length-append, length-take}
use Rattle.std.proofs.lemmas.List.{drop_all}
use Rattle.timefd_lang_component.specs.Tree.{Text, Tree, trees}
use Rattle.timefd_date_moment.specs.declared.moment.Moment.{Moment}
use Rattle.timefd_date_format.specs.declared.field.Unshown.{Unshown}
use Rattle.timefd_date_format.specs.Written.{followed, in_front, written, written_all}
use Rattle.timefd_date_format.specs.Appends.{IsKept, IsAppended, TriesToAppend}
use Rattle.timefd_date_format.proofs.AppendLemmas.{both_appended, kept_after, nothing_appended}

-- The parts that are left follow what is appended. `tree` says what each part means.
pub record IsSoFar {A : Type 0} (tree : A → Tree) (m : Moment) (parts : List A) (i : ℕ) (old : Text) (from : ℕ) (room : Text) (at : ℕ) : Type 0 where
  pub done : Text
  pub put : IsAppended done old from room at
  pub inside : at ≤ length room
  pub split : written_all m (trees (map tree parts))
      ≡ in_front done (written_all m (trees (map tree (drop i parts))))

pub none_so_far : {A : Type 0} (tree : A → Tree) (m : Moment) (parts : List A) (old : Text) (from : ℕ) → from ≤ length old
    → IsSoFar tree m parts 0 old from old from
none_so_far tree m parts old from room = record {
  done = [];
  put = nothing_appended old from;
  inside = room;
  split = by (written_all m (trees (map tree parts)));
}
  where
    by : (x : Result Text Unshown) → x ≡ in_front [] x
    by (Ok text) = refl
    by (Err u) = refl

again : (a b : Text) (x : Result Text Unshown) → in_front a (in_front b x) ≡ in_front (a ++ b) x
again a b (Ok text) = ap Ok (sym (append_assoc a b text))
again a b (Err u) = refl

pub one_so_far : {A : Type 0} (tree : A → Tree) (m : Moment) (parts : List A) (i : ℕ) (part : A) (old : Text) (from : ℕ) (room new : Text)
    (at end : ℕ) → i < length parts → part ≡ get_or parts i part → IsSoFar tree m parts i old from room at
    → TriesToAppend (written m (tree part)) room at new (Some end) → IsSoFar tree m parts (i + 1) old from new end
one_so_far tree m parts i part old from room new at end below is so put = by (written m (tree part)) refl put
  where
    rest : Result Text Unshown
    rest = written_all m (trees (map tree (drop (i + 1) parts)))

    cut : drop i parts ≡ part ∷ drop (i + 1) parts
    cut =
        let first : drop i parts ≡ get_or parts i part ∷ drop (i + 1) parts = rw add-one (drop-cons parts i part below) in
        first ∙ ap (λ y. y ∷ drop (i + 1) parts) (sym is)

    whole : written_all m (trees (map tree parts)) ≡ in_front so.done (followed (written m (tree part)) rest)
    whole = so.split ∙ ap (λ ys. in_front so.done (written_all m (trees (map tree ys)))) cut

    by : (x : Result Text Unshown) → written m (tree part) ≡ x → TriesToAppend x room at new (Some end)
        → IsSoFar tree m parts (i + 1) old from new end
    by (Err u) e put = absurd put
    by (Ok text) e put = record {
      done = so.done ++ text;
      put = both_appended so.done text old room new from at end so.put put;
      inside = omega (
        arith,
        ap length put.front,
        length-take end new,
        length-take at room,
        so.inside,
        put.ends,
        put.same,
        length-append (take at room) text,
      );
      split = whole ∙ ap (λ x. in_front so.done (followed x rest)) e ∙ again so.done text rest;
    }

pub all_so_far : {A : Type 0} (tree : A → Tree) (m : Moment) (parts : List A) (i : ℕ) (old : Text) (from : ℕ) (room : Text) (at : ℕ)
    → length parts ≤ i → IsSoFar tree m parts i old from room at
    → TriesToAppend (written_all m (trees (map tree parts))) old from room (Some at)
all_so_far tree m parts i old from room at end so =
    subst (λ x. TriesToAppend x old from room (Some at))
    (sym (so.split ∙ ap (λ ys. in_front so.done (written_all m (trees (map tree ys)))) (drop_all i parts end)
    ∙ ap Ok (append-nil so.done))) so.put

pub kept_so_far : {A : Type 0} (tree : A → Tree) (m : Moment) (parts : List A) (i : ℕ) (old : Text) (from : ℕ) (room new : Text) (at : ℕ)
    → from ≤ length old → IsSoFar tree m parts i old from room at → IsKept room at new → IsKept old from new
kept_so_far tree m parts i old from room new at inside so kept = kept_after so.done old room new from at inside so.put kept

-- What was put over the front is the text.
pub front_is : (x : Result Text Unshown) (old new : Text) (len : ℕ) → TriesToAppend x old 0 new (Some len)
    → x ≡ Ok (take len new)
front_is (Ok text) old new len put = ap Ok (sym put.front)
front_is (Err u) old new len put = absurd put

pub front_within : (x : Result Text Unshown) (old new : Text) (len : ℕ) → TriesToAppend x old 0 new (Some len)
    → len ≤ length new
front_within (Ok text) old new len put = omega (arith, ap length put.front, length-take len new, put.ends)
front_within (Err u) old new len put = absurd put
