-- A file that is sought upwards.
use Rattle.std.proofs.Common.{◌≡◌, ◌≢◌, ℕ, ◌-◌, zero, suc, Bool, true, false, [], ◌∷◌, ◌++◌, refl, sym, ap, ◌∙◌, codes, subst, arith}
use Rattle.std.proofs.lemmas.Bool.{ne_eqb}
use Rattle.std.specs.Prelude.{Option, Some, None}
use Rattle.std.specs.declared.io.ErrorKind.{ErrorKind}
use Rattle.timefd_lint_files.specs.declared.system.FileError.{FileError}
use Rattle.timefd_lint_files.specs.declared.system.FileError.TheVariants as unread
use Rattle.timefd_lint_files.specs.declared.walk_error.WalkReason.{WalkReason}
use Rattle.timefd_lint_files.specs.declared.walk_error.WalkReason.TheVariants.{Unread, TooDeep}
use Rattle.timefd_lint_files.specs.declared.walk_error.WalkError.{WalkError}
use Rattle.timefd_lint_files.specs.declared.walk_error.WalkError.TheVariants.{Memory, Failed}
use Rattle.timefd_lint_files.specs.Around.{IsUnreadUpwards, around, up}
use Rattle.timefd_lint_files.specs.Errors.{IsReadError, IsUnreadOf}
use Rattle.timefd_lint_files.specs.Matching.{Text}
use Rattle.timefd_lint_files.specs.Upwards.{IsAbsent, IsAround, IsBeyond, IsNearest, IsThereOr, Near, after_slashes, left_after}

abbrev pub near : Text → ℕ → Text → Option Near
near folder above text = Some (record { folder = folder; above = above; text = text })

-- The file is in the folder.
pub found_here : (holds : Text → Text → Type 0) (fails : Text → ErrorKind → Type 0) (folders : Text → Bool → Type 0)
    (name : Text) (above : ℕ) (folder named text : Text) → holds (folder ++ name) text → named ≡ folder
    → IsNearest holds fails folders name above folder (near named above text)
unfolding IsNearest
found_here holds fails folders name zero folder named text has same =
    (Some text, has, ap (λ (f : Text). near f zero text) same)
found_here holds fails folders name (suc above) folder named text has same =
    (Some text, has, ap (λ (f : Text). near f (suc above) text) same)

-- No folder is around.
pub at_top : (holds : Text → Text → Type 0) (fails : Text → ErrorKind → Type 0) (folders : Text → Bool → Type 0)
    (name : Text) (above : ℕ) (folder : Text) (answer : Option Near) → IsAbsent fails (folder ++ name) → above ≡ 0
    → answer ≡ None → IsNearest holds fails folders name above folder answer
unfolding IsNearest
at_top holds fails folders name zero folder answer absent none is = (None, absent, is)
at_top holds fails folders name (suc above) folder answer absent none is = absurd cc

beyond : (holds : Text → Text → Type 0) (fails : Text → ErrorKind → Type 0) (folders : Text → Bool → Type 0)
    (name : Text) (above : ℕ) (folder : Text) (answer : Option Near) → IsAbsent fails (folder ++ name) → above ≢ 0
    → IsBeyond holds fails folders (IsNearest holds fails folders name (above - 1)) folder answer
    → IsNearest holds fails folders name above folder answer
unfolding IsNearest
beyond holds fails folders name zero folder answer absent some is = absurd (some refl)
beyond holds fails folders name (suc above) folder answer absent some is =
    let less : suc above - 1 ≡ above = omega arith in (
      None,
      absent,
      subst (λ (k : ℕ). IsBeyond holds fails folders (IsNearest holds fails folders name k) folder answer) less is,
    )

-- The folder has `.git`.
pub in_repository : (holds : Text → Text → Type 0) (fails : Text → ErrorKind → Type 0) (folders : Text → Bool → Type 0)
    (name : Text) (above : ℕ) (folder : Text) (has : Bool) (answer : Option Near) → IsAbsent fails (folder ++ name)
    → above ≢ 0 → IsThereOr holds fails (folder ++ codes ".git") has → has ≡ true → answer ≡ None
    → IsNearest holds fails folders name above folder answer
in_repository holds fails folders name above folder has answer absent some there is none =
    beyond holds fails folders name above folder answer absent some
    (true, subst (λ (b : Bool). IsThereOr holds fails (folder ++ codes ".git") b) is there, none)

around_it : (holds : Text → Text → Type 0) (fails : Text → ErrorKind → Type 0) (folders : Text → Bool → Type 0)
    (name : Text) (above : ℕ) (folder : Text) (has : Bool) (answer : Option Near) → IsAbsent fails (folder ++ name)
    → above ≢ 0 → IsThereOr holds fails (folder ++ codes ".git") has → has ≡ false
    → IsAround folders (IsNearest holds fails folders name (above - 1)) (around folder) answer
    → IsNearest holds fails folders name above folder answer
around_it holds fails folders name above folder has answer absent some there is around =
    beyond holds fails folders name above folder answer absent some
    (false, subst (λ (b : Bool). IsThereOr holds fails (folder ++ codes ".git") b) is there, around)

-- No name in the folder around can be looked up.
pub at_closed : (holds : Text → Text → Type 0) (fails : Text → ErrorKind → Type 0) (folders : Text → Bool → Type 0)
    (name : Text) (above : ℕ) (folder outer : Text) (has answers : Bool) (answer : Option Near)
    → IsAbsent fails (folder ++ name) → above ≢ 0 → IsThereOr holds fails (folder ++ codes ".git") has → has ≡ false
    → outer ≡ around folder → folders (outer ++ codes ".") answers → answers ≡ false → answer ≡ None
    → IsNearest holds fails folders name above folder answer
at_closed holds fails folders name above folder outer has answers answer absent some there is at reported closed none =
    around_it holds fails folders name above folder has answer absent some there is (
      false,
      subst (λ (f : Text). folders (f ++ codes ".") false) at
          (subst (λ (b : Bool). folders (outer ++ codes ".") b) closed reported),
      none,
    )

-- The folder around has the answer.
pub above_it : (holds : Text → Text → Type 0) (fails : Text → ErrorKind → Type 0) (folders : Text → Bool → Type 0)
    (name : Text) (above : ℕ) (folder outer named : Text) (has answers : Bool) (answer : Option Near)
    → IsAbsent fails (folder ++ name) → above ≢ 0 → IsThereOr holds fails (folder ++ codes ".git") has → has ≡ false
    → outer ≡ around folder → named ≡ outer → folders (named ++ codes ".") answers → answers ≡ true
    → IsNearest holds fails folders name (above - 1) named answer
    → IsNearest holds fails folders name above folder answer
above_it holds fails folders name above folder outer named has answers answer absent some there is at same reported open_ below =
    let here : named ≡ around folder = same ∙ at in
    around_it holds fails folders name above folder has answer absent some there is (
      true,
      subst (λ (f : Text). folders (f ++ codes ".") true) here
          (subst (λ (b : Bool). folders (named ++ codes ".") b) open_ reported),
      subst (λ (f : Text). IsNearest holds fails folders name (above - 1) f answer) here below,
    )

same_kind : {one other : ErrorKind} → ◌≡◌ {A = WalkReason} (Unread one) (Unread other) → one ≡ other
same_kind e = cc

-- The file of the folder can't be read.
pub unread_here : (fails : Text → ErrorKind → Type 0) (folder name path : Text) (error : FileError) (e : WalkError)
    → path ≡ folder ++ name → IsReadError (fails path) error → IsUnreadOf path error e
    → IsUnreadUpwards fails name 0 folder e
unread_here fails folder name path unread.Memory Memory same why is = tt
unread_here fails folder name path unread.Memory (Failed named reason) same why is = absurd cc
unread_here fails folder name path (unread.Failed kind) Memory same why is = tt
unread_here fails folder name path (unread.Failed kind) (Failed named (Unread reported)) same why is = (
  subst (λ (p : Text). fails p reported) (sym is.0)
      (subst (λ (k : ErrorKind). fails path k) (sym (same_kind is.1)) why),
  (0, omega arith, is.0 ∙ same),
)
unread_here fails folder name path (unread.Failed kind) (Failed named TooDeep) same why is = absurd cc

pub unread_at_all : (fails : Text → ErrorKind → Type 0) (name folder : Text) (above : ℕ) (e : WalkError)
    → IsUnreadUpwards fails name 0 folder e → IsUnreadUpwards fails name above folder e
unread_at_all fails name folder above Memory is = tt
unread_at_all fails name folder above (Failed path (Unread kind)) is =
    (is.0, (is.1.0, omega (arith, is.1.1), is.1.2))
unread_at_all fails name folder above (Failed path TooDeep) is = absurd is

-- One folder more is around it.
pub unread_above : (fails : Text → ErrorKind → Type 0) (name folder outer named : Text) (above : ℕ) (e : WalkError)
    → above ≢ 0 → outer ≡ around folder → named ≡ outer → IsUnreadUpwards fails name (above - 1) named e
    → IsUnreadUpwards fails name above folder e
unread_above fails name folder outer named above Memory some at same is = tt
unread_above fails name folder outer named above (Failed path (Unread kind)) some at same is = (
  is.0,
  (suc is.1.0, omega (arith, some, is.1.1), is.1.2 ∙ ap (λ f. up is.1.0 f ++ name) (same ∙ at)),
)
unread_above fails name folder outer named above (Failed path TooDeep) some at same is = absurd is

-- one more byte
pub one_byte : (count left : ℕ) (rest after all : Text) (byte : ℕ) → rest ≡ byte ∷ after → count ≢ 0
    → left ≡ left_after count byte → after_slashes count rest ≡ all → after_slashes left after ≡ all
one_byte count left rest after all byte split some is so_far =
    let here : after_slashes count (byte ∷ after) ≡ after_slashes (left_after count byte) after =
    rw (ne_eqb count 0 some) refl in
    ap (λ (k : ℕ). after_slashes k after) is ∙ (sym here ∙ (ap (after_slashes count) (sym split) ∙ so_far))

pub no_slash_left : (count : ℕ) (rest after all : Text) (byte : ℕ) → rest ≡ byte ∷ after → count ≡ 0
    → after_slashes count rest ≡ all → rest ≡ all
no_slash_left zero rest after all byte split none so_far =
    split ∙ (ap (after_slashes zero) (sym split) ∙ so_far)
no_slash_left (suc count) rest after all byte split none so_far = absurd cc

pub no_byte_left : (count : ℕ) (rest all : Text) → rest ≡ [] → after_slashes count rest ≡ all → rest ≡ all
no_byte_left count rest all none so_far = none ∙ (ap (after_slashes count) (sym none) ∙ so_far)
