use Rattle.model.specs.Calls.{OnlyLooks}
use Rattle.theory.specs.Seen.{Unrefused}
use Rattle.work.proofs.folders.make_output_folders.Given as goal

abbrev pub invariant-loop-output : goal.invariant-loop-output
invariant-loop-output g l = record {
  looks : OnlyLooks g.S.Texts.tells (g.S.Texts.world l.fn.site) (g.S.Texts.world l.site);
  unrefused : Unrefused (g.S.Texts.world l.fn.site) (g.S.Texts.world l.site);
}
