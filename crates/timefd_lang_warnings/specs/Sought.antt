-- What is searched for among parts, and how many there are of it. A part is seen with what follows it.
use Rattle.std.specs.Prelude.{ℕ, Bool, true, false, ◌&&◌, not, nat_le, if◌then◌else◌, List, [], ◌∷◌, Option, Some, None}
use Rattle.timefd_lang_component.specs.declared.component.Component.{Component}
use Rattle.timefd_lang_component.specs.Equality.{same_component}
use Rattle.timefd_lang_component.specs.Modern.{modern}
use Rattle.timefd_lang_component.specs.Tree.{Text, Tree, component, literal}
use Rattle.timefd_lang_warnings.specs.declared.field.ShownField.{ShownField}
use Rattle.timefd_lang_warnings.specs.declared.width.Width.{Width}
use Rattle.timefd_lang_warnings.specs.contracts.width.WidthPartialEq.TheImpl as width_eq
use Rattle.timefd_lang_warnings.specs.declared.sought.HowMany.{HowMany}
use Rattle.timefd_lang_warnings.specs.declared.sought.Following.{Following}
use Rattle.timefd_lang_warnings.specs.declared.sought.Scan.{Scan}
use Rattle.timefd_lang_warnings.specs.declared.sought.Sought.{Sought}
use Rattle.timefd_lang_warnings.specs.declared.sought.Sought.TheVariants as seek
use Rattle.timefd_lang_warnings.specs.Fields.{field_of, same_field}
use Rattle.timefd_lang_warnings.specs.Marks.{is_somewhere}
use Rattle.timefd_lang_warnings.specs.Widths.{outline_of}

abbrev pub same_width : Width → Width → Bool
same_width = (width_eq.ghosts).eq

abbrev pub is_digit : ℕ → Bool
is_digit b = nat_le 48 b && nat_le b 57

-- whether a text begins with a digit; for an empty text, whether what follows it does
abbrev pub begins_with_digit : Text → Bool → Bool
begins_with_digit [] after = after
begins_with_digit (b ∷ bytes) after = is_digit b

-- What follows a part right before this one: what the next component shows, and whether a digit may
-- come next.
abbrev pub in_front : Tree → Following → Following
in_front (component c) after = record { field = Some (field_of c); has_digit = (outline_of c).may_begin_with_digit }
in_front (literal bytes) after = record { field = after.field; has_digit = begins_with_digit bytes after.has_digit }
in_front other after = after

abbrev pub after_of : List Tree → Following
after_of [] = record { field = None; has_digit = false }
after_of (t ∷ ts) = in_front t (after_of ts)

abbrev pub is_next : Option ShownField → ShownField → Bool
is_next None field = false
is_next (Some next) field = same_field next field

-- whether a component, or a text, is what is searched for

abbrev pub is_component : Sought → Component → Following → Bool
is_component (seek.Shows field) c after = same_field (field_of c) field
is_component seek.Component c after = true
is_component seek.Deprecated c after = not (same_component (modern c) c)
is_component (seek.Before front next) c after = same_field (field_of c) front && is_next after.field next
is_component (seek.Touches width) c after = same_width (outline_of c).width width && after.has_digit
is_component (seek.Text mark) c after = false

abbrev pub is_text : Sought → Text → Bool
is_text (seek.Text mark) bytes = is_somewhere mark bytes
is_text (seek.Shows field) bytes = false
is_text seek.Component bytes = false
is_text seek.Deprecated bytes = false
is_text (seek.Before front next) bytes = false
is_text (seek.Touches width) bytes = false

abbrev pub is_sought : Sought → Tree → Following → Bool
is_sought sought (component c) after = is_component sought c after
is_sought sought (literal bytes) after = is_text sought bytes
is_sought sought other after = false

abbrev pub one_more : HowMany → HowMany
one_more HowMany.Absent = HowMany.Once
one_more HowMany.Once = HowMany.Several
one_more HowMany.Several = HowMany.Several

abbrev pub counted : HowMany → Bool → HowMany
counted amount is_one = if is_one then one_more amount else amount

-- how many of the parts are what is searched for
abbrev pub amount_of : Sought → List Tree → HowMany
amount_of sought [] = HowMany.Absent
amount_of sought (t ∷ ts) = counted (amount_of sought ts) (is_sought sought t (after_of ts))

abbrev pub is_there : HowMany → Bool
is_there HowMany.Absent = false
is_there HowMany.Once = true
is_there HowMany.Several = true

-- whether one of the parts is what is searched for
abbrev pub has : Sought → List Tree → Bool
has sought ts = is_there (amount_of sought ts)

abbrev pub shows : ShownField → List Tree → Bool
shows field ts = has (seek.Shows field) ts

-- whether a component shows the first, and the next one the second
abbrev pub shows_before : ShownField → ShownField → List Tree → Bool
shows_before front next ts = has (seek.Before front next) ts

-- The walk over parts, from the last one to the first.

abbrev pub start : Scan
start = record { amount = HowMany.Absent; after = after_of [] }

abbrev pub with_part : Sought → Tree → Scan → Scan
with_part sought t scan = record {
  amount = counted scan.amount (is_sought sought t scan.after);
  after = in_front t scan.after;
}

abbrev pub with_parts : Sought → List Tree → Scan → Scan
with_parts sought [] scan = scan
with_parts sought (t ∷ ts) scan = with_part sought t (with_parts sought ts scan)

abbrev pub scan_of : Sought → List Tree → Scan
scan_of sought ts = record { amount = amount_of sought ts; after = after_of ts }
