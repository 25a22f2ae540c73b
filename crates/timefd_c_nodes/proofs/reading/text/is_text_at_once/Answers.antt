use Rattle.std.proofs.lemmas.Str.{IsUtf8-from_ascii}
use Rattle.timefd_c_nodes.proofs.reading.text.is_text_at_once.Goals as goal

pub returns-then-is_ascii : goal.returns-then-is_ascii
returns-then-is_ascii c = λ is. IsUtf8-from_ascii c.args.bytes.now (c.is_ascii.ensures is)
