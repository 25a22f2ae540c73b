-- What the answer to a format has to be.
use Rattle.std.specs.Prelude.{ℕ, ◌≡◌, List, ⊤, string_bytes}
use Rattle.timefd_lang_component.specs.Tree.{Text}
use Rattle.timefd_lang_dialect.specs.declared.dialect.Dialect.{Dialect}
use Rattle.timefd_lang_dialect.specs.declared.error.DialectError.{DialectError}
use Rattle.timefd_lang_dialect.specs.declared.error.DialectError.TheVariants.{Refused, Memory}
use Rattle.timefd_lang_dialect.specs.declared.reading.Converted.{Converted}
use Rattle.timefd_lang_dialect.specs.declared.reason.Reason.{Reason}
use Rattle.timefd_lang_dialect.specs.Limits.{all_limits, limits_from}
use Rattle.timefd_lang_dialect.specs.Reading.{Piece, Means, RefusedAt, text_of}

-- the format means pieces with this text and these limits
abbrev pub IsConverted : Dialect → Text → Converted → Type 0
IsConverted dialect format answer =
    (ps : List Piece) × Means dialect format ps × (string_bytes answer.text ≡ text_of ps)
    × (answer.limits ≡ limits_from all_limits ps)

-- the format is refused for the reason at the index, or memory ran out
abbrev pub IsRefusedFor : Dialect → Text → DialectError → Type 0
IsRefusedFor dialect format (Refused refusal) =
    RefusedAt dialect format refusal.reason refusal.index
IsRefusedFor dialect format (Memory e) = ⊤

abbrev pub IsMemory : DialectError → Type 0
IsMemory (Refused refusal) = ⊥
IsMemory (Memory e) = ⊤

-- a refusal for the reason at the index, or out of memory
abbrev pub IsRefusal : Reason → ℕ → DialectError → Type 0
IsRefusal reason index (Refused refusal) =
    (refusal.reason ≡ reason) × (refusal.index ≡ index)
IsRefusal reason index (Memory e) = ⊤
