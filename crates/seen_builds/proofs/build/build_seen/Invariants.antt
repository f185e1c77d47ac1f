use Rattle.seen_builds.proofs.build.build_seen.Given as goal

-- all that happened on the site before
abbrev pub ghost-build_behind : goal.ghost-build_behind
ghost-build_behind g a = (g.S.Texts.world a.site).history
