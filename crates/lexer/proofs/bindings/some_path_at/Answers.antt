use Rattle.std.proofs.Common.{sym, ◌∙◌}
use Rattle.std.proofs.lemmas.Result.{IfOk-weaker, IfErr-weaker}
use Rattle.lexer.specs.Grammar.Outcome.{Reached}
use Rattle.lexer.specs.Said.{fragments_of}
use Rattle.lexer.specs.Statements.{SomePath}
use Rattle.lexer.specs.Values.{OfPath}
use Rattle.lexer.proofs.Choices.{breaks_as, some_path_begins}
use Rattle.lexer.proofs.bindings.some_path_at.Goals as goal

pub returns-then-begins_path-clause-reads : goal.returns-then-begins_path-clause-reads
returns-then-begins_path-clause-reads c =
    IfOk-weaker c.pieces_at.result _ _ (λ found reads. some_path_begins c.args.cursor.rest.now (Reached (fragments_of found.0) found.1.rest.now) (sym c.begins_path.ensures ∙ c.if-begins_path.true) reads) c.pieces_at.ensures.reads

pub returns-then-begins_path-clause-fault : goal.returns-then-begins_path-clause-fault
returns-then-begins_path-clause-fault c =
    IfErr-weaker c.pieces_at.result _ _ (λ stop stops. breaks_as OfPath SomePath c.args.cursor stop (λ outcome. some_path_begins c.args.cursor.rest.now outcome (sym c.begins_path.ensures ∙ c.if-begins_path.true)) stops) c.pieces_at.ensures.fault
