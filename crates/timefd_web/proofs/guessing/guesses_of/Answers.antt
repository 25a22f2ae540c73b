use Rattle.std.proofs.Common.{◌≡◌, length, rules}
use Rattle.timefd_web.proofs.GuessLemmas.{guessed}
use Rattle.timefd_web.proofs.guessing.guesses_of.Goals as goal

pub returns : goal.returns
returns c =
    let counted : c.len.result ≡ length c.in_ok-texts.texts.items = search rules in
    record {
      guesses = guessed c.args.text.now c.in_ok-texts.texts.items c.deref.result.now
          c.in_ok-found.found.items c.deref-2.result.now c.len.result c.guesses_object.result
          c.in_ok-texts.ensures c.deref.ensures.value c.in_ok-found.ensures.first
          c.in_ok-found.ensures.reads c.deref-2.ensures.value counted c.guesses_object.ensures;
    }
