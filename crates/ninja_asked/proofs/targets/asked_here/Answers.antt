use Rattle.std.proofs.Common.{◌≡◌, false}
use Rattle.tools.specs.declared.fault.Fault.{Fault}
use Rattle.tools.specs.declared.fault.Fault.TheVariants.{Memory}
use Rattle.theory.proofs.Looks.{looks_nothing}
use Rattle.ninja_asked.proofs.Keeping.{if_err_by, if_err_each, keeps_none, looked_nothing, on_ok}
use Rattle.ninja_asked.proofs.targets.asked_here.Goals as goal

pub returns-then-not-any-clause-looks : goal.returns-then-not-any-clause-looks
returns-then-not-any-clause-looks g c = looks_nothing g.S.Texts.tells (g.S.Texts.world c.args.site.now)

pub returns-then-not-any-clause-looked : goal.returns-then-not-any-clause-looked
returns-then-not-any-clause-looked g c = on_ok c.asked.result (looked_nothing g.S.Texts.tells (g.S.Texts.world c.args.site.now) c.requires.running)

pub returns-then-not-any-clause-memory : goal.returns-then-not-any-clause-memory
returns-then-not-any-clause-memory g c = if_err_each c.asked.result (λ fault memory. c.requires.running)

pub returns-then-not-any-clause-kept : goal.returns-then-not-any-clause-kept
returns-then-not-any-clause-kept g c = keeps_none c.args.declared.now.graph

pub returns-in_err-records-clause-memory : goal.returns-in_err-records-clause-memory
returns-in_err-records-clause-memory g c = if_err_by (λ (f : Fault). f ≡ Memory → (g.S.Texts.world c.read_joined.new.site).stopped ≡ false) c.in_err-records.field-0.0 c.from_residual.result c.in_err-records.ensures.memory c.from_residual.ensures.1

pub returns-clause-looked : goal.returns-clause-looked
returns-clause-looked g c = on_ok c.asked_in_logs.result c.in_ok-records.ensures.looked

pub returns-clause-memory : goal.returns-clause-memory
returns-clause-memory g c = if_err_each c.asked_in_logs.result (λ fault memory. c.in_ok-records.ensures.looked.unrefused.goes_on)
