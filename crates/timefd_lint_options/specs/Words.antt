-- What a word is that may be an option.
use Rattle.std.specs.Prelude.{Bool, true, false, codes, bytes_eq, nat_eq, if◌then◌else◌}
use Rattle.std.specs.List.{starts_with}
use Rattle.timefd_parse.specs.Tree.{Text}
use Rattle.timefd_lint_options.specs.declared.word.Flag.TheVariants.{Whole, Source, Explain, Normal, Fix, Unsafe, Write, Partial, Warn, Lsp, Quiet}
use Rattle.timefd_lint_options.specs.declared.word.Valued.TheVariants.{Language, Format, Color, Comment, Key, To, Deny, Allow}
use Rattle.timefd_lint_options.specs.declared.word.Word.{Word}
use Rattle.timefd_lint_options.specs.declared.word.Word.TheVariants.{Flag, Valued, Help, Version, End, Unknown, File}

-- a word that begins with a dash looks like an option
abbrev pub other_word : Text → Word
other_word word = if starts_with nat_eq word (codes "-") then Unknown else File

abbrev pub word_of : Text → Word
word_of word =
    if bytes_eq word (codes "--whole") then Flag Whole
    else if bytes_eq word (codes "--source") then Flag Source
    else if bytes_eq word (codes "--explain") then Flag Explain
    else if bytes_eq word (codes "--normal") then Flag Normal
    else if bytes_eq word (codes "--fix") then Flag Fix
    else if bytes_eq word (codes "--unsafe") then Flag Unsafe
    else if bytes_eq word (codes "--write") then Flag Write
    else if bytes_eq word (codes "--partial") then Flag Partial
    else if bytes_eq word (codes "--warn") then Flag Warn
    else if bytes_eq word (codes "--lsp") then Flag Lsp
    else if bytes_eq word (codes "--quiet") then Flag Quiet
    else if bytes_eq word (codes "-q") then Flag Quiet
    else if bytes_eq word (codes "--language") then Valued Language
    else if bytes_eq word (codes "--format") then Valued Format
    else if bytes_eq word (codes "--color") then Valued Color
    else if bytes_eq word (codes "--comment") then Valued Comment
    else if bytes_eq word (codes "--key") then Valued Key
    else if bytes_eq word (codes "--to") then Valued To
    else if bytes_eq word (codes "--deny") then Valued Deny
    else if bytes_eq word (codes "--allow") then Valued Allow
    else if bytes_eq word (codes "--help") then Help
    else if bytes_eq word (codes "-h") then Help
    else if bytes_eq word (codes "--version") then Version
    else if bytes_eq word (codes "-V") then Version
    else if bytes_eq word (codes "--") then End
    else if bytes_eq word (codes "-") then File
    else other_word word

-- the name of the standard input
abbrev pub is_input : Text → Bool
is_input name = bytes_eq name (codes "-")

abbrev pub is_no_file : Word → Bool
is_no_file (Flag flag) = true
is_no_file (Valued option) = true
is_no_file Help = true
is_no_file Version = true
is_no_file End = true
is_no_file Unknown = true
is_no_file File = false

abbrev pub is_option : Text → Bool
is_option word = is_no_file (word_of word)
