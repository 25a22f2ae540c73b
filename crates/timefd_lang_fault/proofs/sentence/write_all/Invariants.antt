use Rattle.std.proofs.Common.{◌≡◌, ◌++◌, drop}
use Rattle.timefd_lang_fault.specs.Faults.{Text}
use Rattle.timefd_lang_fault.specs.Excerpts.{IsExcerpt}
use Rattle.timefd_lang_fault.specs.Parts.{joined, texts}
use Rattle.timefd_lang_fault.proofs.sentence.write_all.Given as goal

-- what was written so far, and what is left
abbrev pub invariant-parts : goal.invariant-parts
invariant-parts l =
    (done : Text) × IsExcerpt done l.initial.buffer l.buffer l.excerpt
    × (done ++ joined (texts (drop l.part-index l.parts)) ≡ joined (texts l.parts))
