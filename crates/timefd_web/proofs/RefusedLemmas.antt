-- From the parts of a refusal to its object.
use Rattle.std.proofs.Common.{ℕ, ◌≡◌, ◌∙◌, Result, IfOk, ap}
use Rattle.std.proofs.lemmas.Result.{IfOk-weaker}
use Rattle.std.specs.declared.alloc.AllocError.{AllocError}
use Rattle.std.specs.declared.alloc.Global.{Global}
use Rattle.std.specs.declared.vec.Vec.{Vec}
use Rattle.timefd_parse.specs.Tree.{Text}
use Rattle.timefd_parse.specs.Sentences.{error_sentence}
use Rattle.timefd_lint_diagnosis.specs.declared.diagnostic.Diagnostic.{Diagnostic}
use Rattle.timefd_lint_drawing.specs.Drawing.{code}
use Rattle.timefd_lint_drawing.specs.HelpText.{help_text}
use Rattle.timefd_web.specs.Objects.{nearest, refusal, refused_object}

same_parts : (c c2 m m2 h h2 n n2 : Text) (s e : ℕ) → c ≡ c2 → m ≡ m2 → h ≡ h2 → n ≡ n2
    → refusal c m h n s e ≡ refusal c2 m2 h2 n2 s e
same_parts c c2 m m2 h h2 n n2 s e on_c on_m on_h on_n =
    ap (λ x. refusal x m h n s e) on_c ∙ (ap (λ x. refusal c2 x h n s e) on_m
    ∙ (ap (λ x. refusal c2 m2 x n s e) on_h ∙ ap (λ x. refusal c2 m2 h2 x s e) on_n))

pub refused_by : (d : Diagnostic) (c m h n : Text) (r : Result (Vec ℕ Global) AllocError)
    → c ≡ code d → m ≡ error_sentence d.fault → h ≡ help_text d.help → n ≡ nearest d.help
    → IfOk r (λ object. object.items ≡ refusal c m h n d.span.start d.span.end)
    → IfOk r (λ object. object.items ≡ refused_object d)
refused_by d c m h n r on_c on_m on_h on_n is =
    IfOk-weaker r _ _ (λ object said. said
    ∙ same_parts c (code d) m (error_sentence d.fault) h (help_text d.help) n (nearest d.help)
    d.span.start d.span.end on_c on_m on_h on_n) is
