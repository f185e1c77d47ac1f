use Rattle.records.proofs.Results.{cause_of_memory}
use Rattle.records.proofs.records.Records.read.Goals as goal

pub returns-in_err-places-clause-cause : goal.returns-in_err-places-clause-cause
returns-in_err-places-clause-cause g c =
    cause_of_memory (g.S.Texts.world c.args.site.now) (g.S.Texts.world c.read.new.site) _ c.in_ok-logs.ensures.cause c.from_residual-in_err-places.result c.from_residual-in_err-places.ensures.1

pub returns-in_err-deps_places-clause-cause : goal.returns-in_err-deps_places-clause-cause
returns-in_err-deps_places-clause-cause g c =
    cause_of_memory (g.S.Texts.world c.args.site.now) (g.S.Texts.world c.read.new.site) _ c.in_ok-logs.ensures.cause c.from_residual-in_err-deps_places.result c.from_residual-in_err-deps_places.ensures.1
