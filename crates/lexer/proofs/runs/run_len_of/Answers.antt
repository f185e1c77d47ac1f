use Rattle.std.proofs.Common.{arith, sym, ap, ◌∙◌}
use lib.Count.{count_trailing_zeros}
use Rattle.lexer.specs.Characters.{is_of}
use Rattle.lexer.proofs.Lanes.{goes_through, ends_within}
use Rattle.lexer.proofs.runs.run_len_of.Goals as goal

pub returns-then-found-ne0 : goal.returns-then-found-ne0
returns-then-found-ne0 c =
    let found = c.stops-found.ensures in
    let run = ends_within (is_of c.args.class) c.args.bytes.now c.loop-i.i 16 (omega arith) (omega arith) (omega (arith, found)) ∙ ap (count_trailing_zeros 64) (sym found) in
    omega (arith, run, c.loop-i.invariant.0)

pub loop-i-preserved : goal.loop-i-preserved
loop-i-preserved c =
    let run = goes_through (is_of c.args.class) c.args.bytes.now c.loop-i.i 16 (omega arith) (omega (arith, c.stops-found.ensures)) in
    (omega (arith, run, c.loop-i.invariant.0), omega arith)
