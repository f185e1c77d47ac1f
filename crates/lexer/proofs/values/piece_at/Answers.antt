use Rattle.std.proofs.Common.{◌∙◌, sym, subst}
use Rattle.lexer.specs.declared.fault.Fault.{Fault}
use Rattle.lexer.specs.declared.fault.FaultKind.TheVariants.{Escape}
use Rattle.lexer.specs.Grammar.{Is}
use Rattle.lexer.specs.Grammar.Outcome.{Broken}
use Rattle.lexer.specs.Places.{IsStuck}
use Rattle.lexer.specs.Tokens.{piece}
use Rattle.lexer.proofs.Pieces.{piece_escape, piece_unexpected}
use Rattle.lexer.proofs.Places.{behind_run_shorter}
use Rattle.lexer.proofs.Reading.{breaks_here, breaks_unexpected}
use Rattle.lexer.proofs.values.piece_at.Goals as goal

pub returns-then-not-is_empty-clause-shorter : goal.returns-then-not-is_empty-clause-shorter
returns-then-not-is_empty-clause-shorter c = behind_run_shorter c.args.class _ _ _ c.split_run.ensures.run c.split_run.ensures.rest (sym c.is_empty.ensures ∙ c.if-not-is_empty.true)

pub returns-in-Err-clause-fault : goal.returns-in-Err-clause-fault
returns-in-Err-clause-fault c =
    let bad = c.in-Err.ensures.fault in
    let e = piece_escape c.args.class c.args.cursor.rest.now c.split_run.result.0.now c.in-Some.more.rest.now (Broken Escape c.args.cursor.rest.now) c.split_run.ensures.run (sym c.is_empty.ensures ∙ c.if-not-is_empty.false) c.in-Some.ensures.rest bad.1 in
    subst (λ (fault : Fault). IsStuck (Is (piece c.args.class)) c.args.cursor fault) (sym bad.0) (breaks_here (piece c.args.class) c.args.cursor Escape e)

pub returns-in-None-clause-fault : goal.returns-in-None-clause-fault
returns-in-None-clause-fault c =
    let e = piece_unexpected c.args.class c.args.cursor.rest.now c.split_run.result.0.now c.split_run.ensures.run (sym c.is_empty.ensures ∙ c.if-not-is_empty.false) c.in-None.ensures.rest in
    breaks_unexpected (piece c.args.class) c.args.cursor c.unexpected.result c.unexpected.ensures e
