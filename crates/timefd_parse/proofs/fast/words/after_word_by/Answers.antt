use Rattle.timefd_parse.proofs.BareLemmas.{front_is}
use Rattle.timefd_parse.proofs.fast.words.after_word_by.Goals as goal

pub after_front-requires : goal.after_front-requires
after_front-requires g c = λ is.
    front_is c.args.text.now c.args.word.now _ _ c.as_bytes.ensures.value c.as_bytes-2.ensures.value
    (c.begins_by.ensures is)
