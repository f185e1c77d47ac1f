use Rattle.std.proofs.Common.{refl}
use Rattle.seen_builds.specs.From.{telling_in, told_nothing}
use Rattle.seen_builds.proofs.Beginning.{always_begins}
use Rattle.seen_builds.proofs.build.build_from.Goals as goal

pub build_over-requires : goal.build_over-requires
build_over-requires g c = record {
  idle = c.requires.1.0;
  running = c.requires.1.1.0;
  formed = c.requires.1.1.1.0;
  linked = c.requires.1.1.1.1.0;
  unbegun = c.requires.1.1.1.1.1.0;
  knows = λ is. refl;
  enters = c.requires.1.1.1.1.1.1;
  first = λ is. refl;
  begins = λ is.
      always_begins (telling_in c.args.entry.counts) (told_nothing c.args.entry.counts (g.S.Texts.world c.args.site)) (g.S.Texts.world c.args.site).history;
}

pub returns : goal.returns
returns g c = c.build_over.ensures
