-- Frames that are read and answered one after another.
use Rattle.std.proofs.Common.{◌≡◌, ◌≢◌, ◌+◌, ◌-◌, ◌^◌, ◌++◌, ◌∷◌, [], inl, inr, ℕ, List, Option, Some, None, length-append, refl, subst, arith}
use Rattle.std.specs.declared.alloc.Global.{Global}
use Rattle.std.specs.declared.vec.Vec.{Vec}
use Rattle.timefd_lint_lsp.specs.Documents.{NoneOpen}
use Rattle.timefd_lint_lsp.specs.Frames.{IsFrame}
use Rattle.timefd_lint_lsp.specs.Servers.{first}
use Rattle.timefd_lint_lsp.specs.Sessions.{AreServed, AreStepped, At, IsAnswered, IsGreeted, IsServed, IsServedFrom, IsStepped, at}
use Rattle.timefd_lint_lsp.specs.declared.frame.MessageFrame.{MessageFrame}
use Rattle.timefd_lint_lsp.specs.declared.frame.MessageFrame.TheVariants as got
use Rattle.timefd_lint_lsp.specs.declared.server.Server.{Server}
use Rattle.timefd_lint_lsp.specs.declared.server.EditorSettings.{EditorSettings}
use Rattle.timefd_lint_lsp.specs.declared.session.SessionEnd.{SessionEnd}
use Rattle.timefd_lint_lsp.specs.declared.session.SessionEnd.TheVariants.{InputEnded}

-- The content of a frame is answered.
pub on_content : (settings : EditorSettings) (left written left_then written_then : Option (List ℕ)) (before after : Server)
    (frame : MessageFrame) (content : Vec ℕ Global) (bytes : List ℕ) (end : Option SessionEnd) → frame ≡ got.Content content
    → bytes ≡ content.items → IsFrame left left_then frame
    → IsAnswered settings before after bytes written written_then end
    → IsStepped settings (at left written before) (at left_then written_then after) end
on_content settings left written left_then written_then before after frame content bytes end is same read answered =
    inl (
      got.Content content,
      subst (IsFrame left left_then) is read,
      subst (λ b. IsAnswered settings before after b written written_then end) same answered,
    )

pub none_served : (settings : EditorSettings) (left written : Option (List ℕ)) (server : Server)
    → AreServed settings server left written (at left written server) 0
none_served settings left written server = record { turns = []; counted = refl; each = refl }

stepped_more : (settings : EditorSettings) (a b c : At) (turns : List At) → AreStepped settings a turns b
    → IsStepped settings b c None → AreStepped settings a (turns ++ c ∷ []) c
stepped_more settings a b c [] each one = (subst (λ x. IsStepped settings x c None) each one, refl)
stepped_more settings a b c (m ∷ turns) each one = (each.0, stepped_more settings m b c turns each.1 one)

pub one_more_served : (settings : EditorSettings) (start : Server) (left written : Option (List ℕ)) (b c : At) (count : ℕ)
    → AreServed settings start left written b count → IsStepped settings b c None
    → AreServed settings start left written c (count + 1)
one_more_served settings start left written b c count before one = record {
  turns = before.turns ++ c ∷ [];
  counted = omega (arith, length-append before.turns (c ∷ []), before.counted);
  each = stepped_more settings (at left written start) b c before.turns before.each one;
}

pub ended : (settings : EditorSettings) (start : Server) (left written left_then written_then : Option (List ℕ)) (b : At)
    (known : Server) (count : ℕ) (end : SessionEnd) → AreServed settings start left written b count
    → IsStepped settings b (at left_then written_then known) (Some end)
    → IsServedFrom settings start left written left_then written_then end
ended settings start left written left_then written_then b known count end before one = record {
  count = count;
  last = b;
  served = before;
  ends = inl (known, one);
}

pub ended_at_most : (settings : EditorSettings) (start : Server) (left written left_then written_then : Option (List ℕ))
    (known : Server) (count : ℕ) → AreServed settings start left written (at left_then written_then known) count
    → count ≡ 2 ^ 64 - 1 → IsServedFrom settings start left written left_then written_then InputEnded
ended_at_most settings start left written left_then written_then known count before all = record {
  count = count;
  last = at left_then written_then known;
  served = before;
  ends = inr (all, refl, refl, refl);
}

-- A session is served from a new server on.
pub from_new : (settings : EditorSettings) (left written left_then written_then : Option (List ℕ)) (start : Server) (end : SessionEnd)
    → start.phase ≡ first → NoneOpen start.documents
    → IsServedFrom settings start left written left_then written_then end
    → IsServed settings left written left_then written_then end
from_new settings left written left_then written_then start end fresh none from =
    record { start = start; fresh = fresh; none_open = none; from = from }

-- After the frame that changes the phase the session is begun.
pub begun : (settings : EditorSettings) (start : Server) (left written : Option (List ℕ)) (b c : At) (count : ℕ)
    → AreServed settings start left written b count → b.server.phase ≡ first → IsStepped settings b c None
    → c.server.phase ≢ first → IsGreeted settings (at left written start) c None
begun settings start left written b c count before still one changed = record {
  turns = before.turns;
  last = b;
  each = before.each;
  still = still;
  one = one;
  begun = changed;
}
