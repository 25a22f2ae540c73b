use Rattle.std.proofs.Common.{length, IsUtf8}
use Rattle.timefd_parse.specs.Quick.{TakenAndWhite}
use Rattle.timefd_language.specs.Bytes.{is_version_three}
use Rattle.timefd_parse.proofs.fast.modified.take.Given as goal

abbrev pub invariant-modifiers : goal.invariant-modifiers
invariant-modifiers l = record {
  text : IsUtf8 l.rest;
  before : TakenAndWhite (is_version_three l.version) l.name l.initial.rest l.settings l.positions l.rest;
}

abbrev pub decreases-modifiers : goal.decreases-modifiers
decreases-modifiers l = length l.rest
