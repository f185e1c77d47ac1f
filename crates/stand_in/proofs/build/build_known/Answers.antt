use Rattle.std.proofs.Common.{subst, sym}
use Rattle.model.specs.World.{World, IsIdle}
use Rattle.builder.specs.Build.{IsBuild, limits_of}
use Rattle.stand_in.proofs.build.build_known.Goals as goal

-- what is told of commands changes nothing in the world

pub build-requires : goal.build-requires
build-requires g c = subst (λ (w : World). IsIdle w.events) (sym c.learn.ensures) c.requires

pub returns : goal.returns
returns g c =
    subst (λ (w : World). IsBuild g.S.Texts.tells g.S.Site.outcome c.args.options.now.file (limits_of c.args.options.now) c.args.targets.now w (g.S.Texts.world c.build.new.site) c.build.result) c.learn.ensures c.build.ensures
