use Rattle.std.proofs.Common.{◌≡◌, map, drop}
use Rattle.timefd_language.specs.Values.{key_in}
use Rattle.timefd_language.specs.Lookup.{key_for, keys_for}
use Rattle.timefd_language.specs.Bytes.{is_version_three}
use Rattle.timefd_language.proofs.key.key_of.Given as goal

abbrev pub invariant-loop-key : goal.invariant-loop-key
invariant-loop-key l = key_in (is_version_three l.version) l.word (keys_for l.fn.name)
    ≡ key_in (is_version_three l.version) l.word (map key_for (drop l.key-index l.key-items))
