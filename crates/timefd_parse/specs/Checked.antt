-- How the code's result for the modifiers of a head relates to the rules.
use Rattle.std.specs.Prelude.{ℕ, ◌≡◌, ◌+◌, Bool, true, false, List, [], ◌∷◌, Option, Some, None, Result, Ok, Err, IsTrue, ⊤}
use Rattle.timefd_lang_component.specs.Tree.{Text}
use Rattle.timefd_lang_fault.specs.Faults.{Fault}
use Rattle.timefd_lang_fault.specs.declared.read_error.Fault as code_fault
use Rattle.timefd_lang_fault.specs.declared.key.Key as code_key
use Rattle.timefd_lang_fault.specs.declared.name.Name.{Name}
use Rattle.timefd_language.specs.declared.setting.Setting.{Setting}
use Rattle.timefd_parse.specs.declared.head.modifiers.Modifiers.{Modifiers}
use Rattle.timefd_language.specs.Bytes.{equal}
use Rattle.timefd_language.specs.Head.{Placed}
use Rattle.timefd_language.specs.Values.{key_in, setting_in}
use Rattle.timefd_language.specs.Lookup.{key_for, keys_of}
use Rattle.timefd_parse.specs.Positions.{position}
use Rattle.timefd_language.specs.Verdict.{bad_modifier, bad_modifiers, settings}
use Rattle.timefd_lang_fault.specs.ReadErrors.{IsFault}

-- the position of the first modifier with a key
abbrev pub first_position : Text → List Placed → Option ℕ
first_position key [] = None
first_position key (p ∷ ps) = elim (equal key p.key)
    [ true ↦ Some p.key_index | false ↦ first_position key ps ]

abbrev pub ShowsFault : ℕ → Option code_fault.Fault → Option Fault → Type 0
ShowsFault total None None = ⊤
ShowsFault total None (Some g) = ⊥
ShowsFault total (Some f) None = ⊥
ShowsFault total (Some f) (Some g) = IsFault total f g

abbrev pub ShowsPosition : ℕ → Option ℕ → Option ℕ → Type 0
ShowsPosition total None None = ⊤
ShowsPosition total None (Some index) = ⊥
ShowsPosition total (Some remaining) None = ⊥
ShowsPosition total (Some remaining) (Some index) = index + remaining ≡ total

-- The modifiers were taken one after another.
pub record Checks (strict : Bool) (name : Option Name) (total : ℕ) (c : Modifiers)
    (ps : List Placed) : Type 0 where
  pub fault : ShowsFault total c.fault (bad_modifiers strict (keys_of name) [] ps)
  pub settings : c.fault ≡ None → c.settings ≡ settings strict (keys_of name) ps
  pub positions : c.fault ≡ None → IsTrue strict → (k : code_key.Key)
      → ShowsPosition total (position c.positions k) (first_position (key_for k).key ps)

-- One more was looked at, after these.
abbrev pub ChecksOne : Bool → Option Name → ℕ → Result (code_key.Key × Setting) code_fault.Fault
    → List Placed → Placed → Type 0
ChecksOne strict name total (Ok x) ps p =
    (key_in strict p.key (keys_of name) ≡ Some (key_for x.0))
    × (bad_modifier strict (key_in strict p.key (keys_of name)) ps p ≡ None)
    × (setting_in strict (key_for x.0).values p.value ≡ Some x.1)
    × (IsTrue strict → first_position (key_for x.0).key ps ≡ None)
ChecksOne strict name total (Err f) ps p =
    (g : Fault) × (bad_modifier strict (key_in strict p.key (keys_of name)) ps p ≡ Some g)
    × IsFault total f g
