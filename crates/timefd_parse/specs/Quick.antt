-- Brackets with the name of a component and modifiers.
use Rattle.std.specs.Prelude.{ℕ, ◌≡◌, ◌+◌, Bool, true, false, List, ◌∷◌, ◌++◌, length, Some, None, IsTrue, is_some}
use Rattle.std.specs.Str.{IsUtf8}
use Rattle.timefd_lang_component.specs.Tree.{Text}
use Rattle.timefd_lang_fault.specs.declared.key.Key as code_key
use Rattle.timefd_lang_fault.specs.declared.name.ComponentName.{ComponentName}
use Rattle.timefd_lang_fault.specs.declared.name.Name.{Name}
use Rattle.timefd_language.specs.declared.setting.Setting.{Setting}
use Rattle.timefd_language.specs.declared.setting.Settings.{Settings}
use Rattle.timefd_parse.specs.declared.head.positions.Positions.{Positions}
use Rattle.timefd_language.specs.Bytes.{right, colon, is_white, is_word_byte, ZeroOrMore, OneOrMore}
use Rattle.timefd_language.specs.Head.{Modifier, AreModifiers, modifiers_text, placed_from}
use Rattle.timefd_language.specs.Lookup.{key_for}
use Rattle.timefd_language.specs.Names.{row_for}
use Rattle.timefd_language.specs.Values.{key_in, setting_in}
use Rattle.timefd_parse.specs.Checked.{Checks}
use Rattle.timefd_parse.specs.Positions.{position, with_position}

-- the inside of a bracket begins with this name, and the rest follows
abbrev pub BeginsWithName : Text → ComponentName → Text → Type 0
BeginsWithName inside name rest = (inside ≡ (row_for name).name ++ rest) × IsUtf8 rest

-- in every version a component of the name takes this key
abbrev pub Takes : ComponentName → code_key.Key → Type 0
Takes name key =
    (key_in true (key_for key).key (row_for name).keys ≡ Some (key_for key))
    × (key_in false (key_for key).key (row_for name).keys ≡ Some (key_for key))

-- the text begins with this key, which the name takes, and the rest follows
abbrev pub BeginsWithKey : ComponentName → Text → code_key.Key → Text → Type 0
BeginsWithKey name text key rest =
    Takes name key × (text ≡ (key_for key).key ++ rest) × IsUtf8 rest

-- the text begins with a word that sets the key to this in every version, and the rest follows
pub record BeginsWithValue (key : code_key.Key) (text : Text) (setting : Setting) (rest : Text)
    : Type 0 where
  pub value : Text
  pub is_word : OneOrMore is_word_byte value
  pub exactly : setting_in true (key_for key).values value ≡ Some setting
  pub anyhow : setting_in false (key_for key).values value ≡ Some setting
  pub whole : text ≡ value ++ rest
  pub utf8 : IsUtf8 rest

-- the text begins with a modifier, whose key the name takes, and the rest follows
abbrev pub IsModified : ComponentName → Text → code_key.Key → Setting → Text → Type 0
IsModified name text key setting rest =
    (after : Text) × Takes name key × (text ≡ (key_for key).key ++ colon ∷ after)
    × BeginsWithValue key after setting rest

-- the modifiers that were taken from a text, all of them good, and the rest of it
pub record TakenBefore (strict : Bool) (name : ComponentName) (text : Text) (settings : Settings)
    (positions : Positions) (rest : Text) : Type 0 where
  pub list : List Modifier
  pub are : AreModifiers list
  pub whole : text ≡ modifiers_text list ++ rest
  pub checks : (k total : ℕ) → k + length text ≡ total
      → Checks strict (Some (Name.Component name)) total
      (record { settings = settings; positions = positions; fault = None }) (placed_from k list)

-- a key that has no position yet gets this one
abbrev pub IsNoted : Positions → code_key.Key → ℕ → Positions → Type 0
IsNoted positions key remaining noted =
    (is_some (position positions key) ≡ false) × (noted ≡ with_position positions key remaining)

-- the modifiers that were taken from a text, then any white bytes, and the rest of it
abbrev pub TakenAndWhite : Bool → ComponentName → Text → Settings → Positions → Text → Type 0
TakenAndWhite strict name text settings positions rest =
    (white : Text) × ZeroOrMore is_white white
    × TakenBefore strict name text settings positions (white ++ rest)

-- modifiers up to a `]`, which may stand after white bytes, and the rest after that
abbrev pub TakesModifiers : Bool → ComponentName → Text → Settings → Positions → Text → Type 0
TakesModifiers strict name text settings positions rest =
    TakenAndWhite strict name text settings positions (right ∷ rest) × IsUtf8 rest

-- this follows the white bytes that the text begins with, if there are any
abbrev pub FollowsWhite : Text → Text → Type 0
FollowsWhite text rest = (white : Text) × ZeroOrMore is_white white × (text ≡ white ++ rest)

-- this follows the white byte that the text begins with
abbrev pub FollowsWhiteByte : Text → Text → Type 0
FollowsWhiteByte text rest =
    (b : ℕ) × IsTrue (is_white b) × (text ≡ b ∷ rest) × IsUtf8 rest
