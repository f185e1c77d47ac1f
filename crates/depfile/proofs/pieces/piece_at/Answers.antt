use Rattle.std.proofs.Common.{◌<◌, length, arith, ap, ◌∙◌}
use Rattle.depfile.specs.declared.characters.Class.TheVariants as class
use Rattle.depfile.specs.Signs.{signs}
use Rattle.depfile.proofs.Cuts.{run_passes, run_ends}
use Rattle.depfile.proofs.Escapes.{plain_run_signs}
use Rattle.depfile.proofs.Parts.{same_piece}
use Rattle.depfile.proofs.pieces.piece_at.Goals as goal

pub returns-then-begins_with-clause-piece : goal.returns-then-begins_with-clause-piece
returns-then-begins_with-clause-piece c =
    let some : 0 < length c.split_run.result.0.now = grind arith in
    same_piece c.args.text.now c.split_run.result.0 c.split_run.result.1.now c.split_run.ensures.spelled some
    (ap signs c.split_run.ensures.spelled ∙ plain_run_signs c.split_run.result.0.now c.split_run.result.1.now (rw c.split_run.ensures.run (run_passes class.Plain c.args.text.now)))

pub escape_at-requires-clause-run : goal.escape_at-requires-clause-run
escape_at-requires-clause-run c = rw c.split_run-2.ensures.run (run_passes class.Backslash c.args.text.now)

pub escape_at-requires-clause-ends : goal.escape_at-requires-clause-ends
escape_at-requires-clause-ends c = rw c.split_run-2.ensures.rest (run_ends c.args.text.now)
