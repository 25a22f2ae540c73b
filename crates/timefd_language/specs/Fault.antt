-- How a fault of a part becomes a fault of the whole text.
use Rattle.std.specs.Prelude.{ℕ, ◌+◌}
use Rattle.timefd_lang_fault.specs.Faults.{Kind, Fault, fault, unclosed_bracket}

-- the fault of a text that follows k other bytes: its index is k greater
abbrev pub raised : Fault → ℕ → Fault
raised f k = record { kind = f.kind; index = f.index + k }

-- The fault of a bracket whose nested description has a fault of this kind at this index, counted
-- from byte k of the bracket. An unclosed bracket is reported at the outer bracket.
abbrev pub enclosed : Kind → ℕ → ℕ → Fault
enclosed unclosed_bracket index k = fault unclosed_bracket 0
enclosed kind index k = fault kind (index + k)
