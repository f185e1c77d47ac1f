use Rattle.lexer.proofs.EachPath as law
use Rattle.lexer.proofs.path.has_canonical.Goals as goal

pub returns : goal.returns
returns c = law.each_has_one
