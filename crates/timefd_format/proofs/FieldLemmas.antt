-- The fields of a record, one after another.
use Rattle.std.proofs.Common.{ℕ, zero, suc, ◌≡◌, ◌<◌, ◌≤◌, ◌-◌, ◌+◌, ◌++◌, Bool, true, false, List, [], ◌∷◌, length, take, drop, slice_index_or, Option, Some, None, nat_eq, refl, sym, ap, subst, ◌∙◌, arith, append-nil, length-append}
use Rattle.std.specs.Prelude.{⊤}
use Rattle.std.proofs.lemmas.Bool.Decides.{nat_tests}
use Rattle.std.proofs.lemmas.List.{append_assoc, length-drop, take-append-drop}
use Rattle.std.proofs.Math.Seq.{drop-append-add, drop-append_seam, take-append_seam, take-length}
use Rattle.std.specs.Io.BufRead.{ends_with_byte, strip_last}
use Rattle.timefd_lint_rewrite.specs.Lines.{end_of, without_newline}
use Rattle.timefd_format.specs.declared.fields.Split.{Split}
use denote.Ref.{Bor}
use Rattle.timefd_lang_component.specs.Tree.{Text}
use Rattle.timefd_format.specs.declared.quoting.FieldQuoting.{FieldQuoting}
use Rattle.timefd_format.specs.declared.quoting.FieldQuoting.TheVariants.{Start, Bare, Inside, Closed}
use Rattle.timefd_format.specs.Fields.{after, after_all, after_field, ends_field, field_after, fields, fields_from, fields_of_rest, IsCell, IsSplit, joined, shown, text_from, with_field, with_front}

pub nothing : (rest : Text) → length rest < 1 → rest ≡ []
nothing [] short = refl
nothing (b ∷ bs) short = absurd (omega (arith, short))

same_of : (x y : ℕ) → nat_eq x y ≡ true → x ≡ y
same_of x y e = grind (arith, nat_tests)

front_nothing : (fs : List Text) → with_front [] fs ≡ fs
front_nothing [] = refl
front_nothing (f ∷ fs) = refl

front_twice : (xs ys : Text) (fs : List Text)
    → with_front xs (with_front ys fs) ≡ with_front (xs ++ ys) fs
front_twice xs ys [] = refl
front_twice xs ys (f ∷ fs) = ap (λ x. x ∷ fs) (sym (append_assoc xs ys f))

-- The bytes that were taken are the front of the first field.
pub IsInField : Text → Text → FieldQuoting → Type 0
IsInField row rest q = (done : Text) × (row ≡ done ++ rest)
    × (fields row ≡ with_front done (fields_from q rest))

pub begins : (row : Text) → IsInField row row Start
unfolding IsInField
begins row = ([], refl, sym (front_nothing (fields row)))

pub next_of : (q : FieldQuoting) (b : ℕ) (bs : Text) → ends_field q b ≡ false
    → fields_from q (b ∷ bs) ≡ with_front (b ∷ []) (fields_from (after q b) bs)
next_of q b bs same = rw same refl

pub last_of : (q : FieldQuoting) (b : ℕ) (bs : Text) → ends_field q b ≡ true
    → fields_from q (b ∷ bs) ≡ [] ∷ fields bs
last_of q b bs ends = rw ends refl

pub in_fits : (row rest : Text) (q : FieldQuoting) → IsInField row rest q → length rest ≤ length row
unfolding IsInField
in_fits row rest q so_far = omega (arith, ap length so_far.1, length-append so_far.0 rest)

pub goes_on : (row rest more : Text) (q next : FieldQuoting) (b : ℕ) → rest ≡ b ∷ more
    → IsInField row rest q → ends_field q b ≡ false → next ≡ after q b
    → IsInField row more next
unfolding IsInField
goes_on row rest more q next b split so_far same is = (
  so_far.0 ++ (b ∷ []),
  so_far.1 ∙ ap (λ r. so_far.0 ++ r) split ∙ sym (append_assoc so_far.0 (b ∷ []) more),
  so_far.2 ∙ ap (λ r. with_front so_far.0 (fields_from q r)) split
      ∙ ap (with_front so_far.0) (next_of q b more same)
      ∙ front_twice so_far.0 (b ∷ []) (fields_from (after q b) more)
      ∙ ap (λ s. with_front (so_far.0 ++ (b ∷ [])) (fields_from s more)) (sym is),
)

-- The bytes before a rest.
took : (row done rest : Text) → row ≡ done ++ rest
    → take (length row - length rest) row ≡ done
took row done rest is =
    let len : length row - length rest ≡ length done =
    omega (arith, ap length is, length-append done rest) in
    ap (λ n. take n row) len ∙ ap (take (length done)) is ∙ take-append_seam done rest

comma : (q : FieldQuoting) (b : ℕ) → ends_field q b ≡ true → b ≡ 44
comma Start b is = same_of b 44 is
comma Bare b is = same_of b 44 is
comma Inside b is = absurd cc
comma Closed b is = same_of b 44 is

pub found : (row rest more field : Text) (q : FieldQuoting) (b : ℕ) → rest ≡ b ∷ more
    → IsInField row rest q → ends_field q b ≡ true
    → field ≡ take (length row - length rest) row
    → (fields row ≡ field ∷ fields more) × (row ≡ field ++ (44 ∷ more))
unfolding IsInField
found row rest more field q b split so_far ends is =
    let done : so_far.0 ≡ field = sym (is ∙ took row so_far.0 rest so_far.1) in (
      so_far.2 ∙ ap (λ r. with_front so_far.0 (fields_from q r)) split
          ∙ ap (with_front so_far.0) (last_of q b more ends)
          ∙ ap (λ f. f ∷ fields more) (append-nil so_far.0 ∙ done),
      so_far.1 ∙ ap (λ r. so_far.0 ++ r) (split ∙ ap (λ c. c ∷ more) (comma q b ends))
          ∙ ap (λ f. f ++ (44 ∷ more)) done,
    )

pub ends : (row rest : Text) (q : FieldQuoting) → length rest < 1 → IsInField row rest q
    → (fields row ≡ row ∷ []) × (row ≡ row ++ [])
unfolding IsInField
ends row rest q short so_far =
    let all : row ≡ so_far.0 ++ [] = so_far.1 ∙ ap (λ r. so_far.0 ++ r) (nothing rest short) in (
      so_far.2 ∙ ap (λ r. with_front so_far.0 (fields_from q r)) (nothing rest short)
          ∙ ap (λ f. f ∷ []) (sym all),
      sym (append-nil row),
    )

-- A nonempty text is its first byte and those after it, as a pattern takes them.
pub split_bytes : (rest : Text) (n : ℕ) → n ≡ length rest → 1 ≤ length rest
    → rest ≡ slice_index_or rest 0 0 ∷ take (n - 1) (drop 1 rest)
split_bytes [] n same some = absurd (omega (arith, some))
split_bytes (b ∷ bs) n same some =
    let few : n - 1 ≡ length bs = omega (arith, same) in
    ap (λ t. b ∷ t) (sym (take-length bs) ∙ ap (λ k. take k bs) (sym few))

-- There is always a first field.
abbrev pub HasFirst : List Text → Type 0
HasFirst fs = (g : Text) × (gs : List Text) × (fs ≡ g ∷ gs)

has_first_by : (q : FieldQuoting) (b : ℕ) (bs : Text) (is : Bool) → ends_field q b ≡ is
    → HasFirst (fields_from (after q b) bs) → HasFirst (fields_from q (b ∷ bs))
has_first_by q b bs true is more = ([], fields bs, last_of q b bs is)
has_first_by q b bs false is more =
    (b ∷ more.0, more.1, next_of q b bs is ∙ ap (with_front (b ∷ [])) more.2)

pub has_first : (q : FieldQuoting) (text : Text) → HasFirst (fields_from q text)
has_first q [] = ([], [], refl)
has_first q (b ∷ bs) = has_first_by q b bs (ends_field q b) refl (has_first (after q b) bs)

pub joined_more : (field : Text) (fs : List Text) → HasFirst fs
    → joined (field ∷ fs) ≡ field ++ (44 ∷ joined fs)
joined_more field fs has =
    ap (λ x. joined (field ∷ x)) has.2 ∙ ap (λ x. field ++ (44 ∷ joined x)) (sym has.2)

joined_front : (b : ℕ) (g : Text) (gs : List Text)
    → joined (with_front (b ∷ []) (g ∷ gs)) ≡ b ∷ joined (g ∷ gs)
joined_front b g [] = refl
joined_front b g (h ∷ gs) = refl

joined_by : (q : FieldQuoting) (b : ℕ) (bs : Text) (is : Bool) → ends_field q b ≡ is
    → joined (fields bs) ≡ bs → joined (fields_from (after q b) bs) ≡ bs
    → joined (fields_from q (b ∷ bs)) ≡ b ∷ bs
joined_by q b bs true is first same =
    ap joined (last_of q b bs is) ∙ joined_more [] (fields bs) (has_first Start bs)
    ∙ ap (λ t. 44 ∷ t) first ∙ ap (λ c. c ∷ bs) (sym (comma q b is))
joined_by q b bs false is first same =
    let has : HasFirst (fields_from (after q b) bs) = has_first (after q b) bs in
    ap joined (next_of q b bs is) ∙ ap (λ fs. joined (with_front (b ∷ []) fs)) has.2
    ∙ joined_front b has.0 has.1 ∙ ap (λ fs. b ∷ joined fs) (sym has.2) ∙ ap (λ t. b ∷ t) same

pub joined_fields : (q : FieldQuoting) (text : Text) → joined (fields_from q text) ≡ text
joined_fields q [] = refl
joined_fields q (b ∷ bs) =
    joined_by q b bs (ends_field q b) refl (joined_fields Start bs) (joined_fields (after q b) bs)

joined_rest : (new : Text) (rest : Option (Bor Text))
    → joined (new ∷ fields_of_rest rest) ≡ new ++ after_field rest
joined_rest new None = sym (append-nil new)
joined_rest new (Some rest) =
    joined_more new (fields rest.now) (has_first Start rest.now)
    ∙ ap (λ t. new ++ (44 ∷ t)) (joined_fields Start rest.now)

pub has_first_with : (n : ℕ) (new : Text) (fs : List Text) → HasFirst fs → HasFirst (with_field n new fs)
has_first_with zero new fs has = (new, has.1, ap (with_field 0 new) has.2)
has_first_with (suc n) new fs has = (has.0, with_field n new has.1, ap (with_field (suc n) new) has.2)

-- What comes before the fields that are left.
abbrev pub HasFront : Text → ℕ → Option (Bor Text) → ℕ → Type 0
HasFront content n None left = ⊤
HasFront content n (Some text) left = (front : Text) × (content ≡ front ++ text.now)
    × ((new : Text) → joined (with_field n new (fields content))
    ≡ front ++ joined (with_field left new (fields text.now)))

-- The field that is looked for is at this index of what is left.
pub IsLeft : Text → ℕ → Option (Bor Text) → ℕ → Type 0
IsLeft content n more left = HasFront content n more left
    × (field_after n (fields content) ≡ field_after left (fields_of_rest more))

pub first_left : (content : Text) (n : ℕ) (text : Bor Text) → text.now ≡ content
    → IsLeft content n (Some text) n
unfolding IsLeft
first_left content n text is = (
  (
    [],
    sym is,
    λ new. ap (λ t. joined (with_field n new (fields t))) (sym is),
  ),
  ap (λ t. field_after n (fields t)) (sym is),
)

front_of_next : (content : Text) (n less : ℕ) (text : Bor Text) (field : Text) (rest : Option (Bor Text))
    → HasFront content n (Some text) (suc less) → fields text.now ≡ field ∷ fields_of_rest rest
    → text.now ≡ field ++ after_field rest → HasFront content n rest less
front_of_next content n less text field None so_far is whole = tt
front_of_next content n less text field (Some rest) so_far is whole = (
  so_far.0 ++ (field ++ (44 ∷ [])),
  so_far.1 ∙ ap (λ t. so_far.0 ++ t) (whole ∙ sym (append_assoc field (44 ∷ []) rest.now))
      ∙ sym (append_assoc so_far.0 (field ++ (44 ∷ [])) rest.now),
  λ new. so_far.2 new
      ∙ ap (λ fs. so_far.0 ++ joined (with_field (suc less) new fs)) is
      ∙ ap (λ t. so_far.0 ++ t) (
      joined_more field (with_field less new (fields rest.now))
      (has_first_with less new (fields rest.now) (has_first Start rest.now))
      ∙ sym (append_assoc field (44 ∷ []) (joined (with_field less new (fields rest.now))))
      )
      ∙ sym (append_assoc so_far.0 (field ++ (44 ∷ [])) (joined (with_field less new (fields rest.now)))),
)

pub next_left : (content : Text) (n left less : ℕ) (text : Bor Text) (more next : Option (Bor Text))
    (split : Split) → left ≡ suc less → more ≡ Some text → next ≡ split.rest
    → IsLeft content n more left → IsSplit text.now split → IsLeft content n next less
unfolding IsLeft
next_left content n left less text more next split one some next_is so_far parts =
    let here : IsLeft content n (Some text) left = subst (λ m. IsLeft content n m left) some so_far in
    let at : IsLeft content n (Some text) (suc less) =
    subst (λ k. IsLeft content n (Some text) k) one here in
    subst (λ m. IsLeft content n m less) (sym next_is) (
      front_of_next content n less text split.field.now split.rest at.0 parts.0 parts.1,
      at.1 ∙ ap (field_after (suc less)) parts.0,
    )

-- A line is its content and its newline.

strip_by : (b : ℕ) (xs : Text) (is : Bool) → ends_with_byte b xs ≡ is
    → (rest : Text) × (xs ≡ strip_last b xs ++ rest)
strip_by b xs true is =
    (drop (length xs - 1) xs, rw is (sym (take-append-drop (length xs - 1) xs)))
strip_by b xs false is = ([], rw is (sym (append-nil xs)))

stripped : (b : ℕ) (xs : Text) → (rest : Text) × (xs ≡ strip_last b xs ++ rest)
stripped b xs = strip_by b xs (ends_with_byte b xs) refl

without_is : (line : Text) → ends_with_byte 10 line ≡ true
    → without_newline line ≡ strip_last 13 (strip_last 10 line)
without_is line is = rw is refl

content_by : (line : Text) (is : Bool) → ends_with_byte 10 line ≡ is
    → (rest : Text) × (line ≡ without_newline line ++ rest)
content_by line true is =
    let first = stripped 10 line in
    let next = stripped 13 (strip_last 10 line) in (
      next.0 ++ first.0,
      first.1 ∙ ap (λ t. t ++ first.0) next.1
          ∙ append_assoc (strip_last 13 (strip_last 10 line)) next.0 first.0
          ∙ ap (λ w. w ++ (next.0 ++ first.0)) (sym (without_is line is)),
    )
content_by line false is = ([], rw is (sym (append-nil line)))

pub whole_line : (line : Text) → line ≡ without_newline line ++ end_of line
whole_line line =
    let cut = content_by line (ends_with_byte 10 line) refl in
    cut.1 ∙ ap (λ r. without_newline line ++ r)
    (sym (ap (drop (length (without_newline line))) cut.1 ∙ drop-append_seam (without_newline line) cut.0))

cut_front : (content row end front text : Text) → row ≡ content ++ end → content ≡ front ++ text
    → take (length content - length text) row ≡ front
cut_front content row end front text whole is =
    let len : length content - length text ≡ length front =
    omega (arith, ap length is, length-append front text) in
    ap (λ n. take n row) len
    ∙ ap (take (length front)) (whole ∙ ap (λ c. c ++ end) is ∙ append_assoc front text end)
    ∙ take-append_seam front (text ++ end)

cut_after : (content row end front text field more : Text) → row ≡ content ++ end
    → content ≡ front ++ text → text ≡ field ++ more
    → drop (length content - length text + length field) row ≡ more ++ end
cut_after content row end front text field more whole is split =
    let len : length content - length text + length field ≡ length (front ++ field) + 0 =
    omega (arith, ap length is, length-append front text, length-append front field) in
    ap (λ n. drop n row) len
    ∙ ap (drop (length (front ++ field) + 0)) (
    whole ∙ ap (λ c. c ++ end) (is ∙ ap (λ t. front ++ t) split ∙ sym (append_assoc front field more))
    ∙ append_assoc (front ++ field) more end
    )
    ∙ drop-append-add (front ++ field) (more ++ end) 0

-- The field that is looked for is the first of what is left.
pub cell_found : (row content front field after : Text) (n left : ℕ) (text : Bor Text)
    (more : Option (Bor Text)) (split : Split) → content ≡ without_newline row → more ≡ Some text
    → left ≡ 0 → IsLeft content n more left → IsSplit text.now split
    → front ≡ take (length content - length text.now) row → field ≡ split.field.now
    → after ≡ drop (length content - length text.now + length split.field.now) row
    → (field_after n (fields (without_newline row)) ≡ Some field)
    × ((new : Text) → front ++ (new ++ after)
    ≡ joined (with_field n new (fields (without_newline row))) ++ end_of row)
unfolding IsLeft
cell_found row content front field after n left text more split is some none so_far parts front_is field_is
    after_is =
    let whole : row ≡ content ++ end_of row =
    whole_line row ∙ ap (λ c. c ++ end_of row) (sym is) in
    let here : IsLeft content n (Some text) left = subst (λ m. IsLeft content n m left) some so_far in
    let at : IsLeft content n (Some text) 0 = subst (λ k. IsLeft content n (Some text) k) none here in
    let first : front ≡ at.0.0 =
    front_is ∙ cut_front content row (end_of row) at.0.0 text.now whole at.0.1 in
    let last : after ≡ after_field split.rest ++ end_of row =
    after_is ∙ cut_after content row (end_of row) at.0.0 text.now split.field.now
    (after_field split.rest) whole at.0.1 parts.1 in (
      ap (λ c. field_after n (fields c)) (sym is) ∙ at.1 ∙ ap (field_after 0) parts.0
          ∙ ap Some (sym field_is),
      λ new. ap (λ f. f ++ (new ++ after)) first ∙ ap (λ a. at.0.0 ++ (new ++ a)) last
          ∙ ap (λ t. at.0.0 ++ t) (sym (append_assoc new (after_field split.rest) (end_of row)))
          ∙ ap (λ t. at.0.0 ++ (t ++ end_of row)) (sym (joined_rest new split.rest))
          ∙ sym (append_assoc at.0.0 (joined (new ∷ fields_of_rest split.rest)) (end_of row))
          ∙ ap (λ fs. (at.0.0 ++ joined (with_field 0 new fs)) ++ end_of row) (sym parts.0)
          ∙ ap (λ t. t ++ end_of row) (sym (at.0.2 new))
          ∙ ap (λ c. joined (with_field n new (fields c)) ++ end_of row) is,
    )

pub none_left : (row content : Text) (n left : ℕ) (more : Option (Bor Text))
    → content ≡ without_newline row → more ≡ None → IsLeft content n more left
    → field_after n (fields (without_newline row)) ≡ None
unfolding IsLeft
none_left row content n left more is none so_far =
    ap (λ c. field_after n (fields c)) (sym is) ∙ so_far.1
    ∙ ap (λ m. field_after left (fields_of_rest m)) none

-- The number of bytes that are left, and one more for the field that an empty rest is.
abbrev pub left_len : Option (Bor Text) → ℕ
left_len None = 0
left_len (Some rest) = suc (length rest.now)

-- What is left is part of the record, and so is its first field.

pub left_fits : (content : Text) (n left : ℕ) (text : Bor Text) (more : Option (Bor Text))
    → more ≡ Some text → IsLeft content n more left → length text.now ≤ length content
unfolding IsLeft
left_fits content n left text more is so_far =
    let at : IsLeft content n (Some text) left = subst (λ m. IsLeft content n m left) is so_far in
    omega (arith, ap length at.0.1, length-append at.0.0 text.now)

pub field_fits : (row content : Text) (n left : ℕ) (text : Bor Text) (more : Option (Bor Text)) (split : Split)
    → content ≡ without_newline row → more ≡ Some text → IsLeft content n more left
    → IsSplit text.now split
    → length content - length text.now + length split.field.now ≤ length row
unfolding IsLeft
field_fits row content n left text more split is some so_far parts =
    let at : IsLeft content n (Some text) left = subst (λ m. IsLeft content n m left) some so_far in
    omega (
      arith,
      ap length at.0.1,
      length-append at.0.0 text.now,
      ap length parts.1,
      length-append split.field.now (after_field split.rest),
      ap length (whole_line row),
      ap length is,
      length-append (without_newline row) (end_of row),
    )

rest_shorter : (text : Text) (field : Text) (rest : Option (Bor Text)) → text ≡ field ++ after_field rest
    → left_len rest < suc (length text)
rest_shorter text field None split = omega arith
rest_shorter text field (Some rest) split =
    omega (arith, ap length split, length-append field (44 ∷ rest.now))

pub next_shorter : (text : Bor Text) (more next : Option (Bor Text)) (split : Split) → more ≡ Some text
    → next ≡ split.rest → IsSplit text.now split → left_len next < left_len more
next_shorter text more next split some next_is parts =
    subst (λ m. left_len next < left_len m) (sym some)
    (subst (λ m. left_len m < suc (length text.now)) (sym next_is)
    (rest_shorter text.now split.field.now split.rest parts.1))

-- A slice up to the end.
pub slice_to_end : (row : Text) (n : ℕ) → take (length row - n) (drop n row) ≡ drop n row
slice_to_end row n =
    ap (λ k. take k (drop n row)) (sym (length-drop n row)) ∙ take-length (drop n row)
