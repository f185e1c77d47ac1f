use Rattle.std.proofs.Common.{inr, refl}
use Rattle.nj_run.proofs.Passing.{passes_none}
use Rattle.nj_run.proofs.program.build_on.Goals as goal

-- no memory: nothing was done
pub returns-in-Err : goal.returns-in-Err
returns-in-Err g c = record { entry = g.S.Texts.world c.args.site.now; before = passes_none g.S.Texts.tells (g.S.Texts.world c.args.site.now); built = inr (refl, refl) }
