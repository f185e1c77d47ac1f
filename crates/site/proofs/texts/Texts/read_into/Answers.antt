use Rattle.std.proofs.Common.{[]}
use Rattle.site.proofs.texts.Texts.read_into.Goals as goal

pub returns-clause-content : goal.returns-clause-content
returns-clause-content g c = λ nothing. (c.in_ok-content.content, c.in_ok-hand_over.ensures [] nothing, c.in_ok-content.ensures.content)
