use Rattle.timefd_format.specs.Batches.{IsBatch}
use Rattle.timefd_format.proofs.fast.batch.batch_of.Given as goal

-- What the batch has so far is read and written.
abbrev pub invariant-lines : goal.invariant-lines
invariant-lines l = IsBatch l.source l.description l.text l.room l.batch
