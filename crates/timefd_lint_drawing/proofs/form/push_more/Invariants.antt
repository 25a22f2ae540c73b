use Rattle.std.proofs.Common.{◌≡◌, ◌++◌, codes, flat_map, drop, string_bytes}
use Rattle.timefd_lint_drawing.specs.Forms.{name_of}
use Rattle.timefd_lint_drawing.proofs.form.push_more.Given as goal

abbrev pub invariant-loop-form : goal.invariant-loop-form
invariant-loop-form l = string_bytes l.out ++ flat_map (λ form. codes ", " ++ name_of form)
    (drop l.form-index l.forms) ≡ string_bytes l.fn.out
    ++ flat_map (λ form. codes ", " ++ name_of form) l.forms
