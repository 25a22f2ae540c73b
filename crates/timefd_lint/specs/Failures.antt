-- Why a file can't be read or replaced, in words.
use Rattle.std.specs.Prelude.{◌≡◌, codes}
use denote.Ref.{Bor}
use Rattle.std.specs.declared.io.ErrorKind.{ErrorKind}
use Rattle.std.specs.declared.io.ErrorKind.TheVariants.{NotFound, IsADirectory, PermissionDenied}
use Rattle.timefd_parse.specs.Tree.{Text}
use Rattle.timefd_lint_drawing.specs.declared.draw.Style.{Style}
use Rattle.timefd_lint_drawing.specs.Drawing.{note}
use Rattle.timefd_lint.specs.declared.failure.Failure.{Failure}
use Rattle.timefd_lint.specs.declared.failure.Failure.TheVariants.{Absent, Folder, Forbidden, Unread, NotRegular, Special, Foreign, Occupied, Changed, Unwritten}

abbrev pub code : Failure → Text
code Absent = codes "unreadable"
code Folder = codes "unreadable"
code Forbidden = codes "unreadable"
code Unread = codes "unreadable"
code NotRegular = codes "unwritable"
code Special = codes "unwritable"
code Foreign = codes "unwritable"
code Occupied = codes "unwritable"
code Changed = codes "unwritable"
code Unwritten = codes "unwritable"

abbrev pub sentence : Failure → Text
sentence Absent = codes "the file can't be read: no such file"
sentence Folder = codes "the file can't be read: it is a folder"
sentence Forbidden = codes "the file can't be read: permission denied"
sentence Unread = codes "the file can't be read"
sentence NotRegular = codes "the file can't be rewritten: it isn't a regular file"
sentence Special = codes "the file can't be written back: it has setuid, setgid or sticky set"
sentence Foreign = codes "the file can't be written back: it is another user's or another group's"
sentence Occupied =
    codes "the file can't be written back: there is one of its name and .timefd_lint"
sentence Changed = codes "the file can't be rewritten: it has changed meanwhile"
sentence Unwritten = codes "the file can't be written back"

-- Why a file can't be read, by the system's kind of error.
abbrev pub unread : ErrorKind → Failure
unread NotFound = Absent
unread IsADirectory = Folder
unread PermissionDenied = Forbidden
unread kind = Unread

-- The note on a file that fails: its name, and the sentence.
abbrev pub note_of : Style → Bor Text → Failure → Text
note_of style name failure =
    note style (record { file = name; line = 1 }) (code failure) (sentence failure)

-- The note on a file that can't be read says why, by the system's kind of error.
abbrev pub IsUnreadNote : Style → Bor Text → Text → Type 0
IsUnreadNote style name message = (kind : ErrorKind) × (message ≡ note_of style name (unread kind))
