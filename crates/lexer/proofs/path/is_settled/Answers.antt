use Rattle.lexer.proofs.Plain.{settled}
use Rattle.lexer.proofs.path.is_settled.Goals as goal

pub returns : goal.returns
returns c = settled c.args.path c.strip_one.result c.unwrap_or-parts.result c.are_plain.result c.strip_one.ensures c.unwrap_or-parts.ensures c.are_plain.ensures
