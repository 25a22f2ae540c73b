-- What reaches who reads a stream.
use Rattle.std.specs.Prelude.{◌≡◌, Bool, true, false, Option, None, Result, String, chars, ⊤}
use Rattle.std.specs.Io.KnownBytes.{Appends}
use Rattle.std.specs.declared.alloc.Global.{Global}
use Rattle.std.specs.declared.env.VarError.{VarError}
use Rattle.timefd_bin_streams.specs.Colors.{AreShown}
use Rattle.timefd_parse.specs.Tree.{Text}
use Rattle.timefd_lint_drawing.specs.People.{AllSeen, for_people}
use Rattle.timefd_lint_options.specs.declared.settings.Color.{Color}
use Rattle.timefd_lint_options.specs.declared.settings.Color.TheVariants.{Always, Never, Auto}
use Rattle.timefd_lint.specs.declared.output.Audience.{Audience}
use Rattle.timefd_lint.specs.declared.output.Audience.TheVariants.{InColor, WithoutColor, Program}

-- Who reads a stream that is a terminal or isn't, where colours are wanted or aren't.
abbrev pub audience_of : Bool → Bool → Audience
audience_of false colored = Program
audience_of true true = InColor
audience_of true false = WithoutColor

-- A text without colours of its own: whoever sees colours is given what people see without them.
abbrev pub without_colors : Audience → Text → Text
without_colors InColor text = for_people false text
without_colors WithoutColor text = text
without_colors Program text = text

abbrev pub IsWithoutColor : Audience → Type 0
IsWithoutColor InColor = ⊥
IsWithoutColor WithoutColor = ⊤
IsWithoutColor Program = ⊤

-- Programs are given the bytes that are written. Those that people see aren't counted here.
abbrev pub known : Audience → Option Text → Option Text
known InColor bytes = None
known WithoutColor bytes = None
known Program bytes = bytes

-- People are shown what they see of the text, and each character of that is visible.
abbrev pub IsShownInColor : Bool → Option Text → Option Text → Text → Type 0
IsShownInColor colored before after text =
    Appends before after (for_people colored text) × AllSeen colored (chars (for_people colored text))

abbrev pub IsShown : Audience → Option Text → Option Text → Text → Type 0
IsShown InColor before after text = IsShownInColor true before after text
IsShown WithoutColor before after text = IsShownInColor false before after text
IsShown Program before after text = ⊤

-- By `auto`, drawings are coloured at a terminal, if the environment lets it show colours.
abbrev pub IsColoredAt : (Text → Result (String Global) VarError → Type 0) → Bool → Bool → Type 0
IsColoredAt have false is_colored = is_colored ≡ false
IsColoredAt have true is_colored = AreShown have is_colored

-- Whether drawings are coloured.
abbrev pub IsColored : (Text → Result (String Global) VarError → Type 0) → Bool → Color → Bool → Type 0
IsColored have is_terminal Always is_colored = is_colored ≡ true
IsColored have is_terminal Never is_colored = is_colored ≡ false
IsColored have is_terminal Auto is_colored = IsColoredAt have is_terminal is_colored
