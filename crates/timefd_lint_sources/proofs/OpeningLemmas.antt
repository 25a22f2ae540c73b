-- Items that are opened, one after another.
use Rattle.std.proofs.Common.{ℕ, zero, suc, ◌≡◌, ◌+◌, ◌-◌, ◌<◌, [], ◌∷◌, ◌++◌, length, take, drop, inl, inr, refl, sym, ap, subst, ◌∙◌, arith}
use Rattle.std.specs.Prelude.{Option, None, Some, MatchOption, ⊤}
use Rattle.timefd_parse.specs.Tree.{Text}
use Rattle.timefd_parse.specs.BorrowedFaults.{IsBorrowed, IsBorrowedOf, to_borrowed_fault}
use Rattle.timefd_parse.specs.BorrowedFault.{BorrowedFault}
use Rattle.timefd_parse.specs.BorrowedParseError.{BorrowedParseError}
use Rattle.timefd_parse.specs.BorrowedParseError.TheVariants.{Invalid}
use Rattle.timefd_parse.specs.Faults.{Fault}
use Rattle.timefd_language.specs.declared.description_version.DescriptionVersion.{DescriptionVersion}
use Rattle.timefd_lint_sources.specs.Items.{IsAllOpened, IsItem, IsItemFault, IsOpened, opened}

-- What the rest becomes is what the text becomes.
pub record IsOpenedTo (most count : ℕ) (v : DescriptionVersion) (text left : Text) : Type 0 where
  pub others : (n : ℕ) → n + count ≡ most → (all : Text) → IsAllOpened n v left all
      → IsAllOpened most v text all

pub at_first : (most : ℕ) (v : DescriptionVersion) (text left : Text) → left ≡ text
    → IsOpenedTo most 0 v text left
at_first most v text left is = record {
  others = λ n sum all opened.
      subst (λ k. IsAllOpened k v text all) (same n most sum)
      (subst (λ t. IsAllOpened n v t all) is opened);
}
  where
    same : (n most : ℕ) → n + 0 ≡ most → n ≡ most
    same n most sum = omega (arith, sum)

pub one_more : (most count : ℕ) (v : DescriptionVersion) (text left next : Text) → IsOpened v left next
    → IsOpenedTo most count v text left → IsOpenedTo most (count + 1) v text next
one_more most count v text left next opened so_far = record {
  others = λ n sum all others.
      so_far.others (suc n) (longer n count most sum) all (inr (next, opened, others));
}
  where
    longer : (n count most : ℕ) → n + (count + 1) ≡ most → suc n + count ≡ most
    longer n count most sum = omega (arith, sum)

pub nothing_left : (most count : ℕ) (v : DescriptionVersion) (text left : Text) → count < most
    → ((next : Text) → IsOpened v left next → ⊥) → IsOpenedTo most count v text left
    → IsAllOpened most v text left
nothing_left most count v text left below none so_far =
    so_far.others (most - count) (sum most count below) left (last (most - count))
  where
    sum : (most count : ℕ) → count < most → most - count + count ≡ most
    sum most count below = omega (arith, below)

    last : (n : ℕ) → IsAllOpened n v left left
    last zero = refl
    last (suc n) = inl (none, refl)

pub enough : (most count : ℕ) (v : DescriptionVersion) (text left : Text) → count ≡ most
    → IsOpenedTo most count v text left → IsAllOpened most v text left
enough most count v text left is so_far = so_far.others 0 (sum most count is) left refl
  where
    sum : (most count : ℕ) → count ≡ most → 0 + count ≡ most
    sum most count is = omega (arith, is)

-- The fault of a text, which is borrowed.

pub borrowed_is : (e : BorrowedParseError) (g : BorrowedFault) (f : Fault) → e ≡ Invalid g → IsBorrowed f e
    → to_borrowed_fault g ≡ f
borrowed_is e g f is borrowed = subst (IsBorrowed f) is borrowed

pub borrowed_of : (P : Fault → Type 0) (e : BorrowedParseError) (g : BorrowedFault) → e ≡ Invalid g
    → IsBorrowedOf P e → P (to_borrowed_fault g)
borrowed_of P e g is borrowed = subst (IsBorrowedOf P) is borrowed

-- One item.

pub is_opened : (v : DescriptionVersion) (text front after next first later rest : Text) (index : ℕ)
    → ((f : Fault) × IsItemFault v text f × (index ≡ f.index)) → text ≡ front ++ after
    → length front ≡ index → IsItem v after first later rest
    → next ≡ front ++ opened after first later rest → IsOpened v text next
is_opened v text front after next first later rest index (f, faulty, at) whole long is so = record {
  fault = f;
  front = front;
  item = after;
  first = first;
  after = later;
  rest = rest;
  faulty = faulty;
  at = long ∙ at;
  whole = whole;
  is = is;
  so = so;
}

-- Without such a fault there is no item to open,

pub no_fault : (v : DescriptionVersion) (text next : Text) (at : Option ℕ)
    → ((f : Fault) → IsItemFault v text f → at ≡ Some f.index) → at ≡ None → IsOpened v text next → ⊥
no_fault v text next at all none is =
    subst (λ (o : Option ℕ). MatchOption o ⊤ (λ _. ⊥)) (sym none ∙ all is.fault is.faulty) tt

-- nor if no item is at the fault.

same_cut : (front after front' after' : Text) (n : ℕ) → length front ≡ n → length front' ≡ n
    → front ++ after ≡ front' ++ after' → after ≡ after'
same_cut [] after [] after' n long long' e = e
same_cut [] after (b ∷ front') after' n long long' e = absurd (omega (arith, long, long'))
same_cut (a ∷ front) after [] after' n long long' e = absurd (omega (arith, long, long'))
same_cut (a ∷ front) after (b ∷ front') after' n long long' e =
    same_cut front after front' after' (n - 1) (omega (arith, long)) (omega (arith, long')) (ap (drop 1) e)

pub no_item : (v : DescriptionVersion) (text front after next : Text) (at : Option ℕ) (index : ℕ)
    → ((f : Fault) → IsItemFault v text f → at ≡ Some f.index) → at ≡ Some index
    → front ≡ take index text → after ≡ drop index text → length front ≡ index
    → ((first later rest : Text) → IsItem v after first later rest → ⊥)
    → IsOpened v text next → ⊥
no_item v text front after next at index all is front_is after_is long none opened =
    let same : index ≡ opened.fault.index = some (sym is ∙ all opened.fault opened.faulty) in
    let item : after ≡ opened.item =
    same_cut front after opened.front opened.item index long (opened.at ∙ sym same)
    (ap (λ t. t ++ after) front_is ∙ ap (λ t. take index text ++ t) after_is ∙ take_and_drop index text
    ∙ opened.whole) in
    none opened.first opened.after opened.rest
    (subst (λ t. IsItem v t opened.first opened.after opened.rest) (sym item) opened.is)
  where
    take_and_drop : (n : ℕ) (text : Text) → take n text ++ drop n text ≡ text
    take_and_drop zero text = refl
    take_and_drop (suc n) [] = refl
    take_and_drop (suc n) (b ∷ text) = ap (λ t. b ∷ t) (take_and_drop n text)

    value : Option ℕ → ℕ
    value None = 0
    value (Some n) = n

    some : {a b : ℕ} → Some a ≡ Some b → a ≡ b
    some e = ap value e
