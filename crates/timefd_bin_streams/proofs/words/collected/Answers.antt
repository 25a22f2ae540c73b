use Rattle.std.proofs.Common.{refl}
use Rattle.std.specs.Prelude.{Ok}
use Rattle.std.specs.Vec.Iter.{into_iter_items}
use Rattle.std.specs.declared.alloc.AllocError.{AllocError}
use Rattle.std.proofs.lemmas.Iterator.Adapters.{YieldsList-from_vec}
use Rattle.std.proofs.lemmas.Iterator.{items_from_collect}
use Rattle.timefd_bin_streams.proofs.words.collected.Goals as goal

pub returns-in-Ok : goal.returns-in-Ok
returns-in-Ok c =
    items_from_collect {E = AllocError} (Ok c.in-Ok.words) c.in-Ok.ensures.ran
    (YieldsList-from_vec {s = c.args.words} (into_iter_items c.args.words) refl c.args.words.rest.ok.0)
