-- Frames that are written one after another.
use Rattle.std.proofs.Common.{◌≡◌, ◌++◌, ◌∷◌, [], ℕ, List, refl, ap, sym, ◌∙◌, append_assoc}
use Rattle.std.proofs.KnownBytes.{Appends-trans}
use Rattle.std.specs.Prelude.{Option, Some, None}
use Rattle.std.specs.Io.KnownBytes.{Appends}
use Rattle.timefd_lint_lsp.specs.Frames.{framed}
use Rattle.timefd_lint_lsp.specs.Sessions.{frames, IsSession, WritesFrames}
use Rattle.timefd_lint_lsp.specs.declared.session.SessionEnd.{SessionEnd}
use Rattle.timefd_lint_lsp.specs.declared.session.SessionEnd.TheVariants.{Done, Left, InputEnded, Cut, NoFrame, Unread, Unwritten, Memory}

append-none : (xs : List ℕ) → xs ++ [] ≡ xs
append-none [] = refl
append-none (x ∷ xs) = ap (λ ys. x ∷ ys) (append-none xs)

appends-none : (old : Option (List ℕ)) → Appends old old []
appends-none None = tt
appends-none (Some xs) = sym (append-none xs)

pub none_written : (old : Option (List ℕ)) → WritesFrames old old
none_written old = record { written = []; appended = appends-none old }

pub same_written : (old new : Option (List ℕ)) → new ≡ old → WritesFrames old new
same_written old new same = rw same (none_written old)

pub one_written : (old new : Option (List ℕ)) (content : List ℕ) → Appends old new (framed content)
    → WritesFrames old new
one_written old new content appended = record {
  written = content ∷ [];
  appended = rw (append-none (framed content)) appended;
}

frames-append : (front back : List (List ℕ)) → frames (front ++ back) ≡ frames front ++ frames back
frames-append [] back = refl
frames-append (content ∷ front) back =
    ap (λ bytes. framed content ++ bytes) (frames-append front back)
    ∙ sym (append_assoc (framed content) (frames front) (frames back))

pub more_written : (old mid new : Option (List ℕ)) → WritesFrames old mid → WritesFrames mid new
    → WritesFrames old new
more_written old mid new first second = record {
  written = first.written ++ second.written;
  appended = rw (frames-append first.written second.written)
      (Appends-trans old mid new (frames first.written) (frames second.written) first.appended second.appended);
}

-- A session that begins after whole frames ends as it does without them.
pub ended_after : (old mid new : Option (List ℕ)) (end : SessionEnd) → WritesFrames old mid → IsSession mid new end
    → IsSession old new end
ended_after old mid new Done first second = more_written old mid new first second
ended_after old mid new Left first second = more_written old mid new first second
ended_after old mid new InputEnded first second = more_written old mid new first second
ended_after old mid new Cut first second = more_written old mid new first second
ended_after old mid new NoFrame first second = more_written old mid new first second
ended_after old mid new Unread first second = more_written old mid new first second
ended_after old mid new Unwritten first second = tt
ended_after old mid new Memory first second = more_written old mid new first second
