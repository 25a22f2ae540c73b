use Rattle.std.proofs.Common.{◌-◌, drop, take, arith, rules, length-drop, take_all}
use Rattle.std.proofs.lemmas.Fmt.{IsAscii-decimal}
use Rattle.std.proofs.lemmas.Str.{IsUtf8-from_ascii}
use Rattle.std.specs.Str.{IsUtf8}
use Rattle.timefd_lang_fault.proofs.digits.Digits.format.Goals as goal

pub unwrap-requires : goal.unwrap-requires
unwrap-requires c =
    let w = c.write_digits-start in
    let whole = take_all (20 - w.result) (drop w.result w.new.bytes)
    (omega (arith, length-drop w.result w.new.bytes)) in
    let text : IsUtf8 (take (20 - w.result) (drop w.result w.new.bytes)) =
    IsUtf8-from_ascii _
    (rw (whole, w.ensures.written) (IsAscii-decimal c.args.number c.ranges.number.fits)) in
    search rules
