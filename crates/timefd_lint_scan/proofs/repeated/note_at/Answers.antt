use Rattle.std.proofs.Common.{◌∙◌, ap, rules}
use Rattle.std.specs.HashSet.{contains}
use Rattle.std.specs.Prelude.{nat_eq}
use Rattle.timefd_lint_scan.specs.Layouts.{fingerprint}
use Rattle.timefd_lint_scan.proofs.RepeatedLemmas.{no_more, one_more}
use Rattle.timefd_lint_scan.proofs.repeated.note_at.Goals as goal

pub returns-then-not-declares_at : goal.returns-then-not-declares_at
returns-then-not-declares_at c =
    no_more c.args.source.now c.args.declaring c.args.pieces.now c.args.index (contains nat_eq c.args.seen.now)
    (contains nat_eq c.args.repeated.now) (search rules) c.requires

pub returns : goal.returns
returns c =
    one_more c.args.source.now c.args.declaring c.args.pieces.now c.args.index c.fingerprint.result (contains nat_eq c.args.seen.now)
    (contains nat_eq c.args.repeated.now) (contains nat_eq c.note.new.seen) (contains nat_eq c.note.new.repeated)
    (c.fingerprint.ensures ∙ ap fingerprint c.text_at.ensures) c.in_ok-note.ensures.seen c.in_ok-note.ensures.others
    c.in_ok-note.ensures.repeated c.in_ok-note.ensures.kept c.requires
