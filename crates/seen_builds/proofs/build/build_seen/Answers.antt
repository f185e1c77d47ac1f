use Rattle.std.proofs.Common.{rules, refl}
use Rattle.seen_builds.proofs.build.build_seen.Goals as goal

pub build_behind-requires : goal.build_behind-requires
build_behind-requires g c κs within = (search rules, (refl, (c.requires.idle, (c.requires.running, (c.requires.formed, c.requires.linked)))))

pub returns : goal.returns
returns g c = c.build_behind.ensures
