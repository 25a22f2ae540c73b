-- What a word at fault should have been: a name, a key or a value.
use Rattle.std.specs.Prelude.{ℕ, ◌≡◌, ◌<◌, Bool, true, false, codes, List, [], ◌∷◌, ◌++◌, length, map, take, Option, Some, None, option_map, ◌⊎◌, ⊤}
use Rattle.timefd_lang_component.specs.Tree.{Text}
use Rattle.timefd_lang_fault.specs.Faults.{Kind, Fault, invalid_name, invalid_modifier}
use Rattle.timefd_lang_fault.specs.declared.key.Key as code_key
use Rattle.timefd_lang_fault.specs.declared.name.ComponentName.{ComponentName}
use Rattle.timefd_lang_fault.specs.declared.name.Name.{Name}
use Rattle.timefd_lang_fault.specs.declared.rule.Rule.{Rule}
use Rattle.timefd_lang_fault.specs.declared.rule.Rule.TheVariants as rules
use Rattle.timefd_lang_fault.specs.declared.rule.Slot.{Slot}
use Rattle.timefd_lang_fault.specs.declared.rule.Slot.TheVariants as slots
use Rattle.timefd_language.specs.declared.description_version.Language.{Language}
use Rattle.timefd_language.specs.declared.description_version.Language.TheVariants.{Version, Strftime}
use Rattle.timefd_language.specs.Bytes.{colon, is_version_three, is_white, is_key_byte, ZeroOrMore, OneOrMore}
use Rattle.timefd_language.specs.Head.{Head, IsHead, head_text}
use Rattle.timefd_language.specs.Lookup.{IsNameOf, key_for, keys_for, keys_of}
use Rattle.timefd_language.specs.Names.{rows, row_for}
use Rattle.timefd_language.specs.Values as table
use Rattle.timefd_language.specs.Values.{key_in}

-- The words that are allowed.

-- Versions 1 and 2 know the names `optional` and `first` too, but refuse a bracket with such a
-- name.
abbrev pub names : Bool → List Text
names true = codes "optional" ∷ codes "first" ∷ map (λ r. r.name) rows
names false = map (λ r. r.name) rows

abbrev pub component_keys : ComponentName → List Text
component_keys name = map (λ k. k.key) (row_for name).keys

abbrev pub keys : Name → List Text
keys name = map (λ k. k.key) (keys_for name)

abbrev pub words_of : table.Values → List Text
words_of (table.words vs) = map (λ v. v.word) vs
words_of table.numbers = []

abbrev pub values : code_key.Key → List Text
values key = words_of (key_for key).values

abbrev pub words_at : Bool → Slot → List Text
words_at strict slots.Name = names strict
words_at strict (slots.Key name) = keys name
words_at strict (slots.Value key) = values key

-- What a word should have been, by what precedes it.

-- The text ends inside of a bracket, which has this head so far, and then this.
pub record EndsInHead (front : Text) (h : Head) (between : Text) : Type 0 where
  pub before : Text
  pub is : IsHead h
  pub whole : front ≡ before ++ (head_text h ++ between)

-- what is between a key and its value: if the value is empty, the colon itself is at fault
abbrev pub colon_before : Text → Text
colon_before [] = []
colon_before (b ∷ word) = colon ∷ []

-- What a word should have been that follows the head of a bracket with this name, and then this
-- text: a key after white bytes, or the value of one of the bracket's keys after the key and a
-- colon.
abbrev pub IsSlotAt : Bool → Text → Text → Text → Slot → Type 0
IsSlotAt strict name between word slots.Name = ⊥
IsSlotAt strict name between word (slots.Key named) =
    IsNameOf strict name (Some named) × OneOrMore is_white between × (0 < length word)
IsSlotAt strict name between word (slots.Value key) =
    (white : Text) × (key_word : Text) × (named : Name) × OneOrMore is_white white
    × ZeroOrMore is_key_byte key_word × (between ≡ white ++ (key_word ++ colon_before word))
    × IsNameOf strict name (Some named) × (key_in strict key_word (keys_for named) ≡ Some (key_for key))

-- What a word after a text should have been.
abbrev pub IsSlotIn : Bool → Text → Text → Slot → Type 0
IsSlotIn strict front word slot =
    (h : Head) × (between : Text) × EndsInHead front h between
    × IsSlotAt strict h.name between word slot

-- The answer is what the word should have been if that is known, and none if it isn't.
abbrev pub IsSlotAfter : Bool → Text → Text → Option Slot → Type 0
IsSlotAfter strict front word None = (slot : Slot) → ¬ IsSlotIn strict front word slot
IsSlotAfter strict front word (Some slot) = IsSlotIn strict front word slot

-- What should have been where a fault is.

-- of this kind, after this text
abbrev pub IsWantedOf : Bool → Text → Kind → Option Slot → Type 0
IsWantedOf strict front (invalid_name name) wanted = wanted ≡ Some slots.Name
IsWantedOf strict front (invalid_modifier word) wanted = IsSlotAfter strict front word wanted
IsWantedOf strict front kind wanted = wanted ≡ None

-- of a text of a language
abbrev pub IsWanted : Language → Text → Fault → Option Slot → Type 0
IsWanted (Version v) text f wanted =
    IsWantedOf (is_version_three v) (take f.index text) f.kind wanted
IsWanted Strftime text f wanted = wanted ≡ None

-- How that is known of a reader's rule.

-- The text ends after a head with this name, and white bytes.
pub record EndsAfterHead (strict : Bool) (front : Text) (name : Option Name) : Type 0 where
  pub head : Head
  pub white : Text
  pub ends : EndsInHead front head white
  pub all_white : OneOrMore is_white white
  pub named : IsNameOf strict head.name name

-- A word that isn't a key follows such a text.
pub record WantsKey (strict : Bool) (front word : Text) (wanted : Option Slot) : Type 0 where
  pub name : Option Name
  pub after : EndsAfterHead strict front name
  pub some : 0 < length word
  pub slot : wanted ≡ option_map slots.Key name

-- A word that isn't the key's value follows such a text and a key.
pub record WantsValue (strict : Bool) (front word : Text) (wanted : Option Slot) : Type 0 where
  pub name : Option Name
  pub at : Text
  pub after : EndsAfterHead strict at name
  pub key_word : Text
  pub key_bytes : ZeroOrMore is_key_byte key_word
  pub whole : front ≡ at ++ (key_word ++ colon_before word)
  pub key : Option code_key.Key
  pub known : option_map key_for key ≡ key_in strict key_word (keys_of name)
  pub slot : wanted ≡ option_map slots.Value key

-- A word of a modifier follows such a text, or such a text and a key.
abbrev pub WantsWord : Bool → Text → Text → Option Slot → Type 0
WantsWord strict front word wanted =
    WantsKey strict front word wanted ⊎ WantsValue strict front word wanted

-- A rule of versions is broken after this text.
abbrev pub WantsIn : Bool → Text → Rule → Type 0
WantsIn strict front (rules.InvalidModifier word) = WantsWord strict front word.now None
WantsIn strict front (rules.UnknownKey word name) =
    WantsWord strict front word.now (Some (slots.Key name))
WantsIn strict front (rules.UnknownValue word key) =
    WantsWord strict front word.now (Some (slots.Value key))
WantsIn strict front (rules.UnknownLetter letter) = ⊥
WantsIn strict front rule = ⊤
