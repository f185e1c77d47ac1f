use Rattle.judge.proofs.Answered.{depfile_by}
use Rattle.judge.proofs.NumbersAsTexts.{if_ok_then}
use Rattle.judge.proofs.judgement.depfile_of.Goals as goal

pub returns-clause-there : goal.returns-clause-there
returns-clause-there g c =
    if_ok_then c.has_depfile.result c.has_depfile.ensures.there (λ is said.
    depfile_by g.S.Texts.tells c.args.graph.now c.args.edge is (g.S.Texts.world c.args.site.now) (g.S.Texts.world c.has_depfile.new.site) c.command_of.result.now c.command_of.ensures said)
