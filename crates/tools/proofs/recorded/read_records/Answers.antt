use Rattle.theory.proofs.SiteCalls.{unrefused_call}
use Rattle.theory.proofs.Looks.{looks_nothing}
use Rattle.tools.proofs.Logging.{if_err_each, memory_goes_on, some_known}
use Rattle.tools.proofs.recorded.read_records.Goals as goal

pub returns-in_err-build_log-clause-looks : goal.returns-in_err-build_log-clause-looks
returns-in_err-build_log-clause-looks g c = looks_nothing g.S.Texts.tells (g.S.Texts.world c.args.site.now)

pub returns-in_err-build_log-clause-memory : goal.returns-in_err-build_log-clause-memory
returns-in_err-build_log-clause-memory g c = if_err_each c.from_residual.result (λ fault memory. c.requires.running)

pub returns-in_err-read-clause-memory : goal.returns-in_err-read-clause-memory
returns-in_err-read-clause-memory g c =
    memory_goes_on (g.S.Texts.world c.args.site.now) (g.S.Texts.world c.read.new.site) c.in_err-read.field-0.0 c.from_residual-in_err-read.result c.in_err-read.ensures.cause c.from_residual-in_err-read.ensures.1

pub returns-clause-looked : goal.returns-clause-looked
returns-clause-looked g c = record { looks = c.read.ensures.looks; unrefused = unrefused_call (g.S.Texts.world c.args.site.now) (g.S.Texts.world c.read.new.site) c.in_ok-read.field-0 c.in_ok-read.ensures.cause }

pub returns-clause-known : goal.returns-clause-known
returns-clause-known g c = some_known g.S.Texts.tells (g.S.Texts.world c.args.site.now) (g.S.Texts.world c.read.new.site) c.args.graph.now c.in_ok-read.field-0 c.in_ok-read.ensures.read
