use Rattle.lexer.proofs.UniqueTexts as law
use Rattle.lexer.proofs.lines.one_reading.Goals as goal

pub returns : goal.returns
returns c = law.one_reading
