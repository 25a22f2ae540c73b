use Rattle.std.proofs.Common.{◌≡◌, ◌∙◌, ◌+◌, ◌≤◌, length, take, arith, ap, sym}
use Rattle.timefd_modifier.specs.declared.enums.Padding.{Padding}
use Rattle.timefd_lang_component.specs.Texts.{filled, subsecond}
use Rattle.timefd_date_format.proofs.FractionLemmas.{nine}
use Rattle.timefd_date_format.proofs.AppendLemmas.{cut, part}
use Rattle.timefd_date_format.proofs.fraction.append_fraction.Goals as goal

pub digits_shown-requires : goal.digits_shown-requires
digits_shown-requires c =
    let size : length (filled Padding.Zero 9 c.args.nanosecond) ≡ 9 = nine c.args.nanosecond c.requires.fits in
    ap length (part (filled Padding.Zero 9 c.args.nanosecond) c.args.room.now c.append_nine-end.new.room c.args.at
    c.append_nine-end.result (omega (arith, size, c.requires.there)) c.append_nine-end.ensures) ∙ size

pub returns : goal.returns
returns c =
    let size : length (filled Padding.Zero 9 c.args.nanosecond) ≡ 9 = nine c.args.nanosecond c.requires.fits in
    let room : c.args.at + length (filled Padding.Zero 9 c.args.nanosecond) ≤ length c.args.room.now =
    omega (arith, size, c.requires.there) in
    let is = part (filled Padding.Zero 9 c.args.nanosecond) c.args.room.now c.append_nine-end.new.room c.args.at
    c.append_nine-end.result room c.append_nine-end.ensures in
    cut (filled Padding.Zero 9 c.args.nanosecond) (subsecond c.args.digits c.args.nanosecond) c.args.room.now
    c.append_nine-end.new.room c.args.at c.append_nine-end.result c.digits_shown.result room c.append_nine-end.ensures
    (omega (arith, size, c.digits_shown.ensures.within))
    (ap (λ y. take c.digits_shown.result y) (sym is) ∙ c.digits_shown.ensures.digits c.args.nanosecond is)
