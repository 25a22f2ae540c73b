use Rattle.std.proofs.Common.{◌≡◌, map, drop}
use Rattle.timefd_language.specs.Bytes.{named, is_version_three}
use Rattle.timefd_language.specs.Values.{Value, sets_of, ◌sets◌}
use Rattle.timefd_language.specs.declared.setting.Setting.{Setting}
use Rattle.timefd_language.proofs.value.value_of.Given as goal

abbrev pub invariant-loop-name : goal.invariant-loop-name
invariant-loop-name g l = (set : g.row.T.Denot → Setting)
    → sets_of (named (λ (v : Value Setting). v.word) (is_version_three l.version) l.word
    (map (λ x. x.0.now sets set x.1) l.values))
    ≡ sets_of (named (λ (v : Value Setting). v.word) (is_version_three l.version) l.word
    (map (λ x. x.0.now sets set x.1) (drop l.name-index l.values)))
