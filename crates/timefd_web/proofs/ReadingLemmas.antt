-- From what is read to what is reported.
use Rattle.std.proofs.Common.{ℕ, List, Result, IfOk}
use Rattle.std.proofs.lemmas.Result.{IfOk-weaker}
use Rattle.std.specs.declared.alloc.AllocError.{AllocError}
use Rattle.std.specs.declared.alloc.Global.{Global}
use Rattle.std.specs.declared.vec.Vec.{Vec}
use Rattle.timefd_parse.specs.Tree.{Text, Tree}
use Rattle.timefd_parse.specs.Faults.{Fault}
use Rattle.timefd_parse.specs.Grammar.{nesting_limit}
use Rattle.timefd_date_moment.specs.declared.moment.Moment.{Moment}
use Rattle.timefd_parse.specs.LanguageType.{Language}
use Rattle.timefd_parse.specs.Language.{SpellsIn, FaultIn}
use Rattle.timefd_description.specs.ReadAnswers.{IsReadAs, IsRefusedFor, fields_in}
use Rattle.timefd_description.specs.declared.read_error.ReadTextError.{ReadTextError}
use Rattle.timefd_web.specs.Readings.{Reads, Shows}

pub reading : (language : Language) (description text : Text)
    (answer : Result Moment ReadTextError) (r : Result (Vec ℕ Global) AllocError)
    → ((list : List Tree) → SpellsIn language nesting_limit description list
    → IsReadAs (fields_in list text) answer)
    → ((f : Fault) → FaultIn language nesting_limit description f → IsRefusedFor f answer)
    → IfOk r (λ object. Shows answer object.items)
    → IfOk r (λ object. Reads language description text object.items)
reading language description text answer r spelled refused shows =
    IfOk-weaker r _ _ (λ object reported. record {
      spelled = λ list s. (answer, spelled list s, reported);
      refused = λ f is. (answer, refused f is, reported);
    }) shows
