-- The fields of a record of comma-separated values.
use Rattle.std.specs.Prelude.{ℕ, zero, suc, ◌≡◌, Bool, true, false, nat_eq, List, [], ◌∷◌, ◌++◌, Option, Some, None, if◌then◌else◌}
use denote.Ref.{Bor}
use Rattle.timefd_lang_component.specs.Tree.{Text}
use Rattle.timefd_lint_rewrite.specs.Lines.{end_of, without_newline}
use Rattle.timefd_format.specs.declared.fields.Split.{Split}
use Rattle.timefd_format.specs.declared.frame.Cell.{Cell}
use Rattle.timefd_format.specs.declared.quoting.FieldQuoting.{FieldQuoting}
use Rattle.timefd_format.specs.declared.quoting.FieldQuoting.TheVariants.{Start, Bare, Inside, Closed}

-- after a byte outside of quotes: a comma begins another field
abbrev pub bare_after : ℕ → FieldQuoting
bare_after b = if nat_eq b 44 then Start else Bare

-- A quote opens the quotes of a field only at its start. Within quotes, two quotes mean one.
abbrev pub after : FieldQuoting → ℕ → FieldQuoting
after Start b = if nat_eq b 34 then Inside else bare_after b
after Bare b = bare_after b
after Inside b = if nat_eq b 34 then Closed else Inside
after Closed b = if nat_eq b 34 then Inside else bare_after b

abbrev pub after_all : FieldQuoting → Text → FieldQuoting
after_all q [] = q
after_all q (b ∷ bs) = after_all (after q b) bs

abbrev pub is_inside : FieldQuoting → Bool
is_inside Start = false
is_inside Bare = false
is_inside Inside = true
is_inside Closed = false

-- a comma outside of quotes
abbrev pub ends_field : FieldQuoting → ℕ → Bool
ends_field Start b = nat_eq b 44
ends_field Bare b = nat_eq b 44
ends_field Inside b = false
ends_field Closed b = nat_eq b 44

-- the first field with more bytes in front
abbrev pub with_front : Text → List Text → List Text
with_front front [] = []
with_front front (field ∷ fields) = (front ++ field) ∷ fields

-- the fields of the rest of a record, byte for byte
abbrev pub fields_from : FieldQuoting → Text → List Text
fields_from q [] = [] ∷ []
fields_from q (b ∷ bs) =
    if ends_field q b then [] ∷ fields_from Start bs
    else with_front (b ∷ []) (fields_from (after q b) bs)

abbrev pub fields : Text → List Text
fields row = fields_from Start row

abbrev pub fields_of_rest : Option (Bor Text) → List Text
fields_of_rest None = []
fields_of_rest (Some rest) = fields rest.now

-- what follows a field: a comma and the other fields
abbrev pub after_field : Option (Bor Text) → Text
after_field None = []
after_field (Some rest) = 44 ∷ rest.now

-- The first field of a record, and what follows its comma.
abbrev pub IsSplit : Text → Split → Type 0
IsSplit row split = (fields row ≡ split.field.now ∷ fields_of_rest split.rest)
    × (row ≡ split.field.now ++ after_field split.rest)

-- what a byte adds to the text of its field: a quote that opens or closes adds nothing
abbrev pub shown : FieldQuoting → ℕ → Text
shown Start b = if nat_eq b 34 then [] else b ∷ []
shown Bare b = b ∷ []
shown Inside b = if nat_eq b 34 then [] else b ∷ []
shown Closed b = b ∷ []

abbrev pub text_from : FieldQuoting → Text → Text
text_from q [] = []
text_from q (b ∷ bs) = shown q b ++ text_from (after q b) bs

-- the text of a field, without its quotes if it has some
abbrev pub text_of : Text → Text
text_of field = text_from Start field

-- fields with a comma after each but the last
abbrev pub joined : List Text → Text
joined [] = []
joined (field ∷ []) = field
joined (field ∷ next ∷ fields) = field ++ (44 ∷ joined (next ∷ fields))

-- the fields, with another one instead of the one at this index
abbrev pub with_field : ℕ → Text → List Text → List Text
with_field n new [] = []
with_field zero new (field ∷ fields) = new ∷ fields
with_field (suc n) new (field ∷ fields) = field ∷ with_field n new fields

-- the field at this index
abbrev pub field_after : ℕ → List Text → Option Text
field_after n [] = None
field_after zero (field ∷ fields) = Some field
field_after (suc n) (field ∷ fields) = field_after n fields

-- The field at this index, with what is before and after it. These three are the record; and with another
-- field in the middle they are the record with that field changed, and nothing else.
abbrev pub IsCell : ℕ → Text → Cell → Type 0
IsCell n row cell = (field_after n (fields (without_newline row)) ≡ Some cell.field.now)
    × ((new : Text) → cell.front.now ++ (new ++ cell.after.now)
    ≡ joined (with_field n new (fields (without_newline row))) ++ end_of row)
