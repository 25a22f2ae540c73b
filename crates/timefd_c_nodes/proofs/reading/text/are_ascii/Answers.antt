use Rattle.std.proofs.Common.{◌<◌, ℕ, subst}
use Rattle.std.specs.Simd.Lanes.{chunk}
use Rattle.std.proofs.lemmas.Simd.{length-chunk, get_or-chunk}
use Rattle.timefd_c_nodes.proofs.ReadingLemmas.AsciiLemmas.{all_low}
use Rattle.timefd_c_nodes.proofs.reading.text.are_ascii.Goals as goal

pub returns : goal.returns
returns g c = λ is i below.
    let a = c.args in
    subst (λ (b : ℕ). b < 128) (get_or-chunk a.at g.row.N a.bytes.now i 0 below)
    (all_low (chunk a.at g.row.N a.bytes.now) g.row.N
    (length-chunk a.at g.row.N a.bytes.now c.requires.within) c.requires.lanes is i below)
