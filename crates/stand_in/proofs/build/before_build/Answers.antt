use Rattle.std.proofs.Common.{ℕ, Bool, true, false, Option, None, Some, Result, Ok, Err, IsSome, ◌≡◌, refl, sym, ap, ◌∙◌}
use Rattle.stand_in.proofs.Stages.{alone_looks}
use Rattle.stand_in.proofs.Turning.{first_runs}
use Rattle.stand_in.proofs.build.before_build.Goals as goal

pub returns-in-Some-clause-goes : goal.returns-in-Some-clause-goes
returns-in-Some-clause-goes g c = c.in-Some.ensures.some.2.stopped

pub returns-in-Some-clause-next : goal.returns-in-Some-clause-next
returns-in-Some-clause-next g c = λ entry was. ((g.S.Texts.world c.args.site.now), alone_looks g.S.Texts.tells g.S.Site.outcome c.args.options.now entry (g.S.Texts.world c.args.site.now) c.args.declared.now was, c.in-Some.ensures.some)

pub turn_generators-requires-clause-running : goal.turn_generators-requires-clause-running
turn_generators-requires-clause-running g c = first_runs g.S.Texts.tells g.S.Site.outcome c.args.options.now (g.S.Texts.world c.args.site.now) (g.S.Texts.world c.build_first.new.site) c.in-None.ensures.none c.requires.read.1.since.unrefused.goes_on

pub returns-in-None-clause-next : goal.returns-in-None-clause-next
returns-in-None-clause-next g c = λ entry was. c.turn_generators.ensures.next entry (g.S.Texts.world c.args.site.now) was c.in-None.ensures.none c.build_first.ensures.nothing
