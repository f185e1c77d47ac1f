use Rattle.theory.proofs.SiteCalls.{looks_then, unrefused_call, unrefused_then}
use Rattle.work.proofs.Places.{read_item, output_within}
use Rattle.work.proofs.folders.make_output_folders.Goals as goal

pub text-requires : goal.text-requires
text-requires g c =
    output_within c.args.graph.now c.args.edge c.loop-output.output-index c.outputs-output-items.result.now c.output-item.result c.outputs-output-items.ensures c.loop-output-test.true
    (read_item c.outputs-output-items.result.now c.loop-output.output-index c.output-item.result c.output-item.is c.loop-output-test.true)

pub returns-in_err-make_folder-clause-looks : goal.returns-in_err-make_folder-clause-looks
returns-in_err-make_folder-clause-looks g c = looks_then g.S.Texts.tells (g.S.Texts.world c.args.site.now) (g.S.Texts.world c.loop-output.site) (g.S.Texts.world c.make_folder.new.site) c.loop-output.invariant.looks c.make_folder.ensures.looks

pub loop-output-preserved : goal.loop-output-preserved
loop-output-preserved g c = record {
  looks = looks_then g.S.Texts.tells (g.S.Texts.world c.args.site.now) (g.S.Texts.world c.loop-output.site) (g.S.Texts.world c.make_folder.new.site) c.loop-output.invariant.looks c.make_folder.ensures.looks;
  unrefused = unrefused_then (g.S.Texts.world c.args.site.now) (g.S.Texts.world c.loop-output.site) (g.S.Texts.world c.make_folder.new.site) c.loop-output.invariant.unrefused (unrefused_call (g.S.Texts.world c.loop-output.site) (g.S.Texts.world c.make_folder.new.site) _ c.in_ok-make_folder.ensures.cause);
}
