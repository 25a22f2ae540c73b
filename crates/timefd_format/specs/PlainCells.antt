-- The field at an index, found in a record without quotes.
use Rattle.std.specs.Prelude.{ℕ, ◌≡◌, ◌≤◌, ◌++◌, List, ◌∷◌, length, take, drop}
use Rattle.timefd_format.specs.Fields.{field_after, fields, joined, with_field}
use Rattle.timefd_lang_component.specs.Tree.{Text}

-- The field at the index `n` of a record is the one at the index `left` of this rest of it.
pub record IsAhead (content : Text) (n : ℕ) (text : Text) (left : ℕ) : Type 0 where
  pub front : Text
  pub whole : content ≡ front ++ text
  pub joins : (new : Text) → joined (with_field n new (fields content))
      ≡ front ++ joined (with_field left new (fields text))
  pub finds : field_after n (fields content) ≡ field_after left (fields text)

-- The first field has this many bytes, and the rest is what follows it.
pub record IsFieldLen (text : Text) (len : ℕ) : Type 0 where
  pub within : len ≤ length text
  pub others : List Text
  pub first : fields text ≡ take len text ∷ others
  pub joins : (new : Text) → joined (new ∷ others) ≡ new ++ drop len text
