-- Frames.
use Rattle.std.specs.Prelude.{◌≡◌, ℕ, ◌<◌, ◌≤◌, ◌^◌, ◌++◌, List, Option, Some, None, codes, length, decimal}
use Rattle.std.specs.Io.KnownBytes.{Consumes, IsAtEnd}
use Rattle.timefd_lint_lsp.specs.Heads.{IsHead}
use Rattle.timefd_lint_lsp.specs.Lengths.{length_in}
use Rattle.timefd_lint_lsp.specs.declared.frame.MessageFrame.{MessageFrame}
use Rattle.timefd_lint_lsp.specs.declared.frame.MessageFrame.TheVariants.{AtEnd, Content, TooLong, NoHead, Cut}
use Rattle.timefd_lint_lsp.specs.declared.head.HeadEnd.{HeadEnd}
use Rattle.timefd_lint_lsp.specs.declared.head.HeadEnd.TheVariants as ends

-- The content follows a head with this length. A content that is too long is skipped.
abbrev pub IsOfLength : ℕ → Option (List ℕ) → Option (List ℕ) → MessageFrame → Type 0
IsOfLength n mid new (Content content) =
    (n ≤ 2 ^ 24) × (length content.items ≡ n) × Consumes mid new content.items
IsOfLength n mid new TooLong =
    (2 ^ 24 < n) × (content : List ℕ) × (length content ≡ n) × Consumes mid new content
IsOfLength n mid new Cut =
    (content : List ℕ) × (length content < n) × Consumes mid new content × IsAtEnd new
IsOfLength n mid new AtEnd = ⊥
IsOfLength n mid new NoHead = ⊥

abbrev pub IsAfterLength : Option ℕ → Option (List ℕ) → Option (List ℕ) → MessageFrame → Type 0
IsAfterLength None mid new frame = (frame ≡ NoHead) × (new ≡ mid)
IsAfterLength (Some n) mid new frame = IsOfLength n mid new frame

-- what follows a head
abbrev pub IsAfter : List ℕ → Option (List ℕ) → Option (List ℕ) → MessageFrame → Type 0
IsAfter head mid new frame = IsAfterLength (length_in head) mid new frame

-- what follows a head, by how the head ends
abbrev pub IsAfterEnd : HeadEnd → List ℕ → Option (List ℕ) → Option (List ℕ) → MessageFrame → Type 0
IsAfterEnd ends.Whole head mid new frame = IsAfter head mid new frame
IsAfterEnd ends.NoByte head mid new frame = (frame ≡ AtEnd) × (new ≡ mid)
IsAfterEnd ends.Cut head mid new frame = (frame ≡ Cut) × (new ≡ mid)
IsAfterEnd ends.TooLong head mid new frame = (frame ≡ NoHead) × (new ≡ mid)

-- A source has a head, and then the rest of the frame.
abbrev pub IsFrame : Option (List ℕ) → Option (List ℕ) → MessageFrame → Type 0
IsFrame old new frame = (mid : Option (List ℕ)) × (head : List ℕ) × (end : HeadEnd)
    × IsHead old mid head end × IsAfterEnd end head mid new frame

-- the frame with this content
abbrev pub framed : List ℕ → List ℕ
framed content =
    codes "Content-Length: " ++ (decimal (length content) ++ (codes "\r\n\r\n" ++ content))
