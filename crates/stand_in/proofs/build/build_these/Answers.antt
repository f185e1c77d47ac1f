use Rattle.std.proofs.Common.{subst, sym}
use Rattle.model.specs.World.{World, IsIdle}
use Rattle.stand_in.specs.Moves.{EndsOnceReady, IsReady, outcome_in}
use Rattle.stand_in.proofs.build.build_these.Goals as goal

-- names change nothing in the world

pub build_named-requires-clause-idle : goal.build_named-requires-clause-idle
build_named-requires-clause-idle g c = subst (λ (w : World). IsIdle w.events) (sym c.learn.ensures) c.requires.idle

pub build_named-requires-clause-ready : goal.build_named-requires-clause-ready
build_named-requires-clause-ready g c =
    subst (λ (w : World). (old : World) × IsReady g.S.Texts.tells g.S.Site.outcome c.args.options.now old w c.args.declared) (sym c.learn.ensures) c.requires.ready

pub returns : goal.returns
returns g c =
    subst (λ (w : World). EndsOnceReady g.S.Texts.tells g.S.Site.outcome c.args.options.now c.args.declared w (g.S.Texts.world c.build_named.new.site) (outcome_in c.build_named.result)) c.learn.ensures c.build_named.ensures
