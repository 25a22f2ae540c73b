use Rattle.timefd_parse.proofs.BareLemmas.{all_taken, none_taken, one_taken, white_taken}
use Rattle.timefd_language.specs.Bytes.{is_version_three}
use Rattle.timefd_parse.proofs.fast.modified.take.Goals as goal

pub modifiers-init : goal.modifiers-init
modifiers-init c = record {
  text = c.utf8.text;
  before =
      none_taken (is_version_three c.args.version) c.args.name c.args.text.now _ _ c.requires.settings c.requires.positions;
}

pub returns-in-Some : goal.returns-in-Some
returns-in-Some c =
    all_taken _ _ _ _ _ _ _ c.modifiers.invariant.before c.in-Some.ensures.0 c.in-Some.ensures.1

pub modifiers-preserved-in-Some-modifier : goal.modifiers-preserved-in-Some-modifier
modifiers-preserved-in-Some-modifier c = record {
  text = c.in-Some-modifier.ensures.3.utf8;
  before =
      one_taken _ _ _ _ _ _ _ _ _ _ _ _ c.modifiers.invariant.before c.in_ok-word.ensures
      c.in-Some-modifier.ensures (c.repeated.ensures c.if-repeated.false) c.set.ensures;
}

pub modifiers-preserved : goal.modifiers-preserved
modifiers-preserved c = record {
  text = c.in_ok-word.ensures.3;
  before = white_taken _ _ _ _ _ _ _ c.modifiers.invariant.before c.in_ok-word.ensures;
}
