use Rattle.std.proofs.Common.{◌∙◌, ◌+◌, ap, arith, length, length-append, refl}
use Rattle.std.specs.HashMap.{get}
use Rattle.std.specs.Prelude.{nat_eq}
use Rattle.timefd_lint_scan.specs.Layouts.{fingerprint}
use Rattle.timefd_lint_scan.proofs.AliasNoteLemmas.{ended_more, lasts_more}
use Rattle.timefd_lint_scan.proofs.alias_notes.note_next.Goals as goal

pub returns : goal.returns
returns c = record {
  counted = ap length c.in_ok-push.ensures.items
      ∙ (length-append c.args.notes.now.items _ ∙ ap (λ n. n + 1) c.requires.noted.counted);
  ended = ended_more c.args.source.now c.args.list.now c.args.index c.fingerprint-number.result c.note_of-note.result
      (get nat_eq c.args.lasts.now) c.last_at-last.result c.args.notes.now.items c.push.new.self.items
      c.requires.noted.counted c.requires.noted.lasts c.last_at-last.ensures c.note_of-note.ensures.number
      c.note_of-note.ensures.ended c.in_ok-push.ensures.items c.requires.noted.ended;
  lasts = lasts_more c.args.source.now c.args.list.now c.args.index c.fingerprint-number.result _ _ c.last_at-last.result
      (get nat_eq c.args.lasts.now) (get nat_eq c.insert.new.self)
      (c.fingerprint-number.ensures ∙ ap fingerprint c.text_of.ensures) c.last_at-last.ensures refl
      (omega (arith, c.max-ended.ensures, c.note_of-note.ensures.ended)) c.in_ok-insert.ensures.updates.0
      c.requires.noted.lasts;
}
