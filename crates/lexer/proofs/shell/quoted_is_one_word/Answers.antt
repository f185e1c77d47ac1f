use Rattle.lexer.proofs.Quoting.{quoted_is_one_word_law}
use Rattle.lexer.proofs.shell.quoted_is_one_word.Goals as goal

pub returns : goal.returns
returns c = quoted_is_one_word_law
