use Rattle.seen_builds.proofs.build.build_behind.Given as goal

-- that had happened when it was asked for
abbrev pub ghost-build_from : goal.ghost-build_from
ghost-build_from g a = g.past
