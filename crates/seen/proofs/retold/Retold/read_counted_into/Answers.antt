use Rattle.std.proofs.Common.{[]}
use Rattle.seen.proofs.retold.Retold.read_counted_into.Goals as goal

pub returns-clause-content : goal.returns-clause-content
returns-clause-content g c = λ nothing. (c.in_ok-content.content, c.in_ok-hand_over.ensures [] nothing, c.in_ok-content.ensures.content)
