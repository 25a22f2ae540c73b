-- What a loop over a vector has given at its end.
use Rattle.std.proofs.Common.{◌≡◌, ◌∙◌, List, map-id, sym}
use Rattle.std.proofs.lemmas.Iterator.Adapters.{YieldsList-from_vec}
use Rattle.std.proofs.lemmas.Iterator.Consumers.{YieldsList-end}
use Rattle.std.specs.declared.alloc.Global.{Global}
use Rattle.std.specs.declared.vec.IntoIter.{IntoIter}
use Rattle.std.specs.declared.vec.Vec.{Vec}
use Rattle.std.specs.Iterator.{Yields}
use Rattle.std.specs.Prelude.{Option, None}
use Rattle.std.specs.Vec.{vec_len}
use Rattle.std.specs.Vec.Iter.{into_iter_items, into_iter_len, into_iter_steps}

pub all_given : {X : Type 0} (items : Vec X Global) (first last after : IntoIter X Global) (given : List X) (r : Option X)
    → into_iter_items first ≡ items.items → into_iter_len first ≡ vec_len items → Yields into_iter_steps first given last
    → r ≡ None → into_iter_steps last r after → given ≡ items.items
all_given items first last after given r are count by none step =
    sym (map-id given)
    ∙ (YieldsList-end (YieldsList-from_vec items.items are (count ∙ items.ok.0)) given last by r after none step).0
