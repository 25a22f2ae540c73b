-- A diagnostic with its span in the source.
use mathlib.Core.HLevel.{hedberg}
use Rattle.std.proofs.Common.{ℕ, ◌≡◌, ◌∙◌, ◌==◌, if◌then◌else◌, refl, sym, ap}
use Rattle.std.proofs.Math.Decide.{ℕ_discrete}
use Rattle.timefd_parse.specs.Faults.{Kind, fault_of}
use Rattle.timefd_parse.specs.Codes.{code_of}
use Rattle.timefd_parse.specs.Code.{Code}
use Rattle.timefd_parse.specs.Code.TheVariants.{UnclosedBracket, UnknownName, InvalidModifier, MissingName, MissingModifier, InvalidEscape, UnescapedBracket, MissingSpace, MissingDescription, MissingAlternative, NestedTooDeep, SeveralDescriptions, OptionalItem, FirstItem, UnsupportedFlag, UnsupportedLetter, NestedInComponent, DuplicateModifier, RefusedModifier}
use Rattle.timefd_lint_diagnosis.specs.declared.diagnostic.Diagnostic.{Diagnostic}

-- Codes are distinguished by a number for each.

abbrev number : Code → ℕ
number UnclosedBracket = 0
number UnknownName = 1
number InvalidModifier = 2
number MissingName = 3
number MissingModifier = 4
number InvalidEscape = 5
number UnescapedBracket = 6
number MissingSpace = 7
number MissingDescription = 8
number MissingAlternative = 9
number NestedTooDeep = 10
number SeveralDescriptions = 11
number OptionalItem = 12
number FirstItem = 13
number UnsupportedFlag = 14
number UnsupportedLetter = 15
number NestedInComponent = 16
number DuplicateModifier = 17
number RefusedModifier = 18

abbrev numbered : ℕ → Code
numbered n =
    if n == 0 then UnclosedBracket
    else if n == 1 then UnknownName
    else if n == 2 then InvalidModifier
    else if n == 3 then MissingName
    else if n == 4 then MissingModifier
    else if n == 5 then InvalidEscape
    else if n == 6 then UnescapedBracket
    else if n == 7 then MissingSpace
    else if n == 8 then MissingDescription
    else if n == 9 then MissingAlternative
    else if n == 10 then NestedTooDeep
    else if n == 11 then SeveralDescriptions
    else if n == 12 then OptionalItem
    else if n == 13 then FirstItem
    else if n == 14 then UnsupportedFlag
    else if n == 15 then UnsupportedLetter
    else if n == 16 then NestedInComponent
    else if n == 17 then DuplicateModifier
    else RefusedModifier

back : (code : Code) → numbered (number code) ≡ code
back UnclosedBracket = refl
back UnknownName = refl
back InvalidModifier = refl
back MissingName = refl
back MissingModifier = refl
back InvalidEscape = refl
back UnescapedBracket = refl
back MissingSpace = refl
back MissingDescription = refl
back MissingAlternative = refl
back NestedTooDeep = refl
back SeveralDescriptions = refl
back OptionalItem = refl
back FirstItem = refl
back UnsupportedFlag = refl
back UnsupportedLetter = refl
back NestedInComponent = refl
back DuplicateModifier = refl
back RefusedModifier = refl

same : (a b : Code) → Dec (number a ≡ number b) → Dec (a ≡ b)
same a b (yes p) = yes (sym (back a) ∙ ap numbered p ∙ back b)
same a b (no p) = no (λ q. p (ap number q))

-- So a code belongs to a fault in only one way.
one_name : (code : Code) (kind : Kind) (n m : code ≡ code_of kind) → n ≡ m
one_name code kind = hedberg (λ a b. same a b (ℕ_discrete (number a) (number b))) code (code_of kind)

pub placed : (g : Diagnostic) (start end at until : ℕ) (named : g.code ≡ code_of (fault_of g.fault).kind)
    → start ≡ at → end ≡ until
    → ◌≡◌ {A = Diagnostic} (record {
      fault = g.fault;
      code = g.code;
      span = record { start = start; end = end };
      help = g.help;
      named = named;
    }) (record {
      fault = g.fault;
      code = g.code;
      span = record { start = at; end = until };
      help = g.help;
      named = g.named;
    })
placed g start end at until named s e = λ i. record {
  fault = g.fault;
  code = g.code;
  span = record { start = s i; end = e i };
  help = g.help;
  named = one_name g.code (fault_of g.fault).kind named g.named i;
}
