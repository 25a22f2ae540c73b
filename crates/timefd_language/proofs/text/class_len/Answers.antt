use Rattle.std.proofs.Common.{arith}
use Rattle.std.proofs.lemmas.Bool.Decides.{nat_tests}
use Rattle.timefd_language.proofs.text.class_len.Goals as goal

pub word_len-requires : goal.word_len-requires
word_len-requires c = λ b e. grind (arith, nat_tests)

pub word_len-requires-in-Key : goal.word_len-requires-in-Key
word_len-requires-in-Key c = λ b e. grind (arith, nat_tests)
