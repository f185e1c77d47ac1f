use Rattle.seen_builds.specs.From.{begun_with}
use Rattle.seen_builds.proofs.build.build_from.Given as goal

-- it begins by what is known, and is told what counts
abbrev pub ghosts-build_over : goal.ghosts-build_over
ghosts-build_over g a = record { begun = begun_with a.entry.counts g.past (g.S.Texts.world a.site) }
