use Rattle.std.proofs.Common.{◌+◌, ap, sym, ◌∙◌, arith}
use Rattle.std.specs.Simd.Lanes.{chunk}
use Rattle.std.proofs.lemmas.Simd.{length-chunk, leading_from_mask_l, trailing_mask_l}
use lib.Count.{count_trailing_zeros}
use Rattle.timefd_language.specs.Cut.{is_none_of}
use Rattle.timefd_language.proofs.SearchLemmas.{is_one_of, marks_are, front_in_chunk}
use Rattle.timefd_language.proofs.search.len_in.Goals as goal

pub returns-then-marks-eq0 : goal.returns-then-marks-eq0
returns-then-marks-eq0 g c =
    let a = c.args in
    let bytes = chunk a.at g.row.N a.bytes.now in
    let long = length-chunk a.at g.row.N a.bytes.now c.requires.within in
    let marks = marks_are bytes g.row.N a.first a.second a.third long c.requires.lanes in
    ap (λ k. a.at + k) (sym (leading_from_mask_l (is_one_of a.first a.second a.third) bytes
    (sym marks ∙ c.if-marks-eq0.true) ∙ long))
    ∙ front_in_chunk (is_none_of a.first a.second a.third) a.bytes.now a.at g.row.N c.requires.from
    c.requires.within

pub returns-else-marks-eq0 : goal.returns-else-marks-eq0
returns-else-marks-eq0 g c =
    let a = c.args in
    let bytes = chunk a.at g.row.N a.bytes.now in
    let long = length-chunk a.at g.row.N a.bytes.now c.requires.within in
    let marks = marks_are bytes g.row.N a.first a.second a.third long c.requires.lanes in
    ap (λ k. a.at + k) (ap (count_trailing_zeros 64) marks ∙
    trailing_mask_l (is_one_of a.first a.second a.third) 64 bytes (omega (arith, long))
    (omega (arith, marks, c.if-marks-eq0.false)))
    ∙ front_in_chunk (is_none_of a.first a.second a.third) a.bytes.now a.at g.row.N c.requires.from
    c.requires.within
