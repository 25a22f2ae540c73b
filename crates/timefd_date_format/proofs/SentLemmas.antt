-- From the text that is returned to what a writer has received, and that this is UTF-8.
use Rattle.std.proofs.Common.{ℕ, List, Option, Result, Ok, Err, IfOk, sym, subst, string_bytes}
use Rattle.std.specs.Str.{IsUtf8}
use Rattle.std.specs.Io.KnownBytes.{Appends, Keeps}
use Rattle.std.specs.declared.alloc.AllocError.{AllocError}
use Rattle.std.specs.declared.alloc.Global.{Global}
use Rattle.std.specs.declared.io.Error.{Error}
use Rattle.std.specs.declared.string.String.{String}
use Rattle.std.specs.declared.vec.Vec.{Vec}
use Rattle.timefd_lang_component.specs.Tree.{Text, Trees}
use Rattle.timefd_date_moment.specs.declared.moment.Moment.{Moment}
use Rattle.timefd_date_format.specs.Answers.{IsAnswer, AreBytes}
use Rattle.timefd_date_format.specs.declared.text.TextError.TheVariants as reported
use Rattle.timefd_date_format.specs.declared.field.Unshown.{Unshown}
use Rattle.timefd_date_format.specs.declared.output.OutputError.TheVariants as fails
use Rattle.timefd_date_format.specs.declared.text.TextError.{TextError}
use Rattle.timefd_date_format.specs.Literals.{HaveUtf8Literals}
use Rattle.timefd_date_format.specs.Sent.{IsSent}
use Rattle.timefd_date_format.specs.Written.{written_all}
use Rattle.timefd_date_format.proofs.Utf8Lemmas.{written_all_utf8}

pub appended : (x : Result Text Unshown) (s : String Global) (old new : Option (List ℕ)) (done : Unit {0})
    → IsAnswer x (Ok s) → Appends old new (string_bytes s) → IsSent x old new (Ok done)
appended (Ok text) s old new done is h = subst (λ t. Appends old new t) is h
appended (Err v) s old new done is h = absurd is

pub refused : (x : Result Text Unshown) (s : String Global) (old new : Option (List ℕ)) (e : Error)
    → IsAnswer x (Ok s) → IsSent x old new (Err (fails.Io e))
refused (Ok text) s old new e is = tt
refused (Err v) s old new e is = absurd is

pub unshown : (x : Result Text Unshown) (old new : Option (List ℕ)) (u : Unshown)
    → IsAnswer x (Err (reported.Unshown u)) → Keeps old new → IsSent x old new (Err (fails.Unshown u))
unshown (Ok text) old new u is h = absurd is
unshown (Err v) old new u is h = (is, h)

pub forgotten : (x : Result Text Unshown) (old new : Option (List ℕ)) (e : AllocError)
    → Keeps old new → IsSent x old new (Err (fails.Memory e))
forgotten (Ok text) old new e h = h
forgotten (Err v) old new e h = h

pub ruleset sent = (appended, refused, unshown, forgotten)

-- What holds for texts, for a text of bytes.

pub bytes_appended : (x : Result Text Unshown) (v : Vec ℕ Global) (old new : Option (List ℕ)) (done : Unit {0})
    → AreBytes x (Ok v) → Appends old new v.items → IsSent x old new (Ok done)
bytes_appended (Ok text) v old new done is h = subst (λ t. Appends old new t) is h
bytes_appended (Err u) v old new done is h = absurd is

pub bytes_refused : (x : Result Text Unshown) (v : Vec ℕ Global) (old new : Option (List ℕ)) (e : Error)
    → AreBytes x (Ok v) → IsSent x old new (Err (fails.Io e))
bytes_refused (Ok text) v old new e is = tt
bytes_refused (Err u) v old new e is = absurd is

pub bytes_unshown : (x : Result Text Unshown) (old new : Option (List ℕ)) (u : Unshown)
    → AreBytes x (Err (reported.Unshown u)) → Keeps old new → IsSent x old new (Err (fails.Unshown u))
bytes_unshown (Ok text) old new u is h = absurd is
bytes_unshown (Err v) old new u is h = (is, h)

pub ruleset bytes_sent = (bytes_appended, bytes_refused, bytes_unshown, forgotten)

utf8_by : (x : Result Text Unshown) (r : Result (Vec ℕ Global) TextError) → AreBytes x r → IfOk x IsUtf8
    → IfOk r (λ v. IsUtf8 v.items)
utf8_by (Ok text) (Ok v) is h = subst IsUtf8 (sym is) h
utf8_by (Ok text) (Err e) is h = tt
utf8_by (Err u) (Ok v) is h = absurd is
utf8_by (Err u) (Err e) is h = tt

pub bytes_utf8 : (m : Moment) (ts : Trees) (r : Result (Vec ℕ Global) TextError)
    → AreBytes (written_all m ts) r → HaveUtf8Literals ts → IfOk r (λ v. IsUtf8 v.items)
bytes_utf8 m ts r is are = utf8_by (written_all m ts) r is (written_all_utf8 m ts are)
