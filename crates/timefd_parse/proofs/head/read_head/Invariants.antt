use Rattle.std.proofs.Common.{◌∷◌, IfSome, length, IsUtf8}
use Rattle.timefd_parse.proofs.HeadLemmas.{ModifiersBefore}
use Rattle.timefd_language.specs.Bytes.{left, is_version_three}
use Rattle.timefd_language.specs.Spans.{SpansVersion}
use Rattle.timefd_parse.proofs.head.read_head.Given as goal

abbrev pub invariant-modifiers : goal.invariant-modifiers
invariant-modifiers l = record {
  text : IsUtf8 l.rest;
  before : ModifiersBefore (is_version_three l.version) l.name l.initial.rest l.modifiers l.rest;
  span : IfSome l.modifiers.fault (SpansVersion (is_version_three l.version) (left ∷ l.inside));
}

abbrev pub decreases-modifiers : goal.decreases-modifiers
decreases-modifiers l = length l.rest
