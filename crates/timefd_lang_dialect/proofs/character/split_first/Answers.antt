use Rattle.std.proofs.Common.{◌∙◌, ap}
use Rattle.timefd_lang_dialect.specs.Quotes.{char_len}
use Rattle.timefd_lang_dialect.proofs.CharacterLemmas.{first_boundary, first_of}
use Rattle.timefd_lang_dialect.proofs.character.split_first.Goals as goal

pub split_at-requires : goal.split_at-requires
split_at-requires c =
    first_boundary c.args.text.now _ c.requires
    (c.char_len.ensures ∙ ap char_len c.as_bytes.ensures.value)

pub returns : goal.returns
returns c =
    first_of c.args.text.now _ _ _ c.utf8.text c.requires
    (c.char_len.ensures ∙ ap char_len c.as_bytes.ensures.value) c.split_at.ensures.front
    c.split_at.ensures.back
