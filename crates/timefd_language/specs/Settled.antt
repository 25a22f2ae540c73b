-- Faults that stay the same, however the text goes on.
use Rattle.std.specs.Prelude.{ℕ, ◌≡◌, ◌≢◌, [], ◌++◌, length}
use Rattle.timefd_language.specs.declared.description_version.DescriptionVersion.{DescriptionVersion}
use Rattle.timefd_lang_component.specs.Tree.{Text}
use Rattle.timefd_lang_fault.specs.Faults.{Fault}
use Rattle.timefd_language.specs.Fault.{raised}
use Rattle.timefd_language.specs.Grammar.{Pieces, ArePieces, spelling}
use Rattle.timefd_language.specs.Broken.{Broken, bare_closing, half_escape, nameless, ill_modified, too_deep, broken_inside, cut_off, unclosed, refused, IsBroken, broken_text, broken_fault, FaultOf}

-- what follows the construct at fault
abbrev pub after_fault : Broken → Text
after_fault (bare_closing rest) = rest
after_fault (half_escape rest) = rest
after_fault (nameless white rest) = rest
after_fault (ill_modified h white word rest) = rest
after_fault (too_deep h ns white rest) = rest
after_fault (broken_inside h ns white front inner) = after_fault inner
after_fault (cut_off h ns white front) = []
after_fault (unclosed h ns white rest) = rest
after_fault (refused h ns white f rest) = rest

-- The text has the fault, and goes on after the construct at fault.
abbrev pub HasSettledFault : DescriptionVersion → ℕ → Text → Fault → Type 0
HasSettledFault v limit text f =
    (front : Pieces) × (b : Broken) × (after_fault b ≢ [])
    × ArePieces v limit 0 front × IsBroken v limit 0 b
    × (text ≡ spelling front ++ broken_text b)
    × (f ≡ raised (broken_fault b) (length (spelling front)))

-- If text follows the construct at fault, the fault stays the same however the text goes on.
abbrev pub Settled : Type 0
Settled = (v : DescriptionVersion) (limit : ℕ) (s t : Text) (f : Fault)
    → HasSettledFault v limit s f → FaultOf v limit (s ++ t) f
