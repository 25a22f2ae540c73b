use Rattle.std.specs.Simd.Lanes.{chunk}
use Rattle.std.proofs.lemmas.Simd.{length-chunk}
use Rattle.timefd_parse.proofs.BeginLemmas.{lanes_same}
use Rattle.timefd_parse.proofs.fast.begins.same_at.Goals as goal

pub returns : goal.returns
returns g c = λ is.
    let a = c.args in
    lanes_same (chunk a.at g.row.N a.word.now) (chunk a.at g.row.N a.bytes.now) g.row.N
    (length-chunk a.at g.row.N a.word.now c.requires.word)
    (length-chunk a.at g.row.N a.bytes.now c.requires.bytes) c.requires.lanes is
