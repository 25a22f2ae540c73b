use Rattle.timefd_description.specs.Guessing.Candidates.{all_entries}
use Rattle.timefd_description.specs.Guessing.Found.{texts}
use Rattle.timefd_description.proofs.GuessingLemmas.FoundLemmas.{guesses_read}
use Rattle.timefd_description.proofs.guessing.guessing.guesses.Goals as goal

pub returns-clause-reads : goal.returns-clause-reads
returns-clause-reads c =
    guesses_read (texts c.args.texts.now) all_entries c.in_ok-found.found.items
    c.truncate.new.self.items 12 c.in_ok-found.ensures c.truncate.ensures.items
