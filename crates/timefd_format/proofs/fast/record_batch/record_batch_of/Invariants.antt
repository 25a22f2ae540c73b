use Rattle.timefd_format.specs.RecordBatches.{IsRecordBatch}
use Rattle.timefd_format.proofs.fast.record_batch.record_batch_of.Given as goal

-- What the batch has so far is read and written.
abbrev pub invariant-records : goal.invariant-records
invariant-records l = IsRecordBatch l.source l.description l.count l.text l.room l.batch
