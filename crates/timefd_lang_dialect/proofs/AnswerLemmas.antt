-- What an answer implies for everything that the format may mean.
use Rattle.std.proofs.Common.{ℕ, ◌≡◌, List, Result, Ok, Err, ◌∙◌, ap, string_bytes}
use Rattle.std.specs.Prelude.{IfOk, MatchResult}
use Rattle.std.specs.Result.{IfErr}
use Rattle.timefd_lang_component.specs.Tree.{Text}
use Rattle.timefd_lang_dialect.specs.declared.dialect.Dialect.{Dialect}
use Rattle.timefd_lang_dialect.specs.declared.error.DialectError.{DialectError}
use Rattle.timefd_lang_dialect.specs.declared.error.DialectError.TheVariants.{Refused, Memory}
use Rattle.timefd_lang_dialect.specs.declared.reading.Converted.{Converted}
use Rattle.timefd_lang_dialect.specs.declared.reason.Reason.{Reason}
use Rattle.timefd_lang_dialect.specs.Answers.{IsConverted, IsRefusedFor, IsMemory, IsRefusal}
use Rattle.timefd_lang_dialect.specs.Reading.{Piece, Means, RefusedAt, text_of}
use Rattle.timefd_lang_dialect.proofs.LawLemmas.{one_meaning_law, one_refusal_law, not_both_law}

abbrev Answer : Type 0
Answer = Result Converted DialectError

pub meant_converted : (dialect : Dialect) (format : Text) (r : Answer)
    → IfOk r (IsConverted dialect format) → IfErr r (IsRefusedFor dialect format)
    → (ps : List Piece) → Means dialect format ps
    → MatchResult r (λ answer. string_bytes answer.text ≡ text_of ps) IsMemory
meant_converted dialect format (Ok answer) is reported ps means =
    is.2 ∙ ap text_of (one_meaning_law dialect format is.0 ps is.1 means)
meant_converted dialect format (Err (Refused refusal)) is reported ps means =
    not_both_law dialect format ps refusal.reason refusal.index means reported
meant_converted dialect format (Err (Memory e)) is reported ps means = tt

pub refused_reported : (dialect : Dialect) (format : Text) (r : Answer)
    → IfOk r (IsConverted dialect format) → IfErr r (IsRefusedFor dialect format)
    → (reason : Reason) (index : ℕ) → RefusedAt dialect format reason index
    → MatchResult r (λ _. ⊥) (IsRefusal reason index)
refused_reported dialect format (Ok answer) is reported reason index refused =
    not_both_law dialect format is.0 reason index is.1 refused
refused_reported dialect format (Err (Refused refusal)) is reported reason index refused =
    one_refusal_law dialect format refusal.reason reason refusal.index index reported refused
refused_reported dialect format (Err (Memory e)) is reported reason index refused = tt
