use Rattle.std.proofs.Common.{◌∙◌, sym}
use Rattle.lexer.specs.declared.characters.Class.TheVariants as class
use Rattle.lexer.proofs.Places.{behind_run_shorter}
use Rattle.lexer.proofs.cursor.Cursor.split_name.Goals as goal

pub returns-clause-shorter : goal.returns-clause-shorter
returns-clause-shorter c = behind_run_shorter class.Name _ _ _ c.split_run.ensures.run c.split_run.ensures.rest (sym c.is_empty.ensures ∙ c.if-is_empty.false)
