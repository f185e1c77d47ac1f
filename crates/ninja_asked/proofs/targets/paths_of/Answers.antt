use Rattle.theory.proofs.Looks.{looks_nothing}
use Rattle.ninja_asked.proofs.Keeping.{if_err_each, keeps_none, looked_nothing, on_ok}
use Rattle.ninja_asked.proofs.targets.paths_of.Goals as goal

pub returns-then-is_empty-clause-looks : goal.returns-then-is_empty-clause-looks
returns-then-is_empty-clause-looks g c = looks_nothing g.S.Texts.tells (g.S.Texts.world c.args.site.now)

pub returns-then-is_empty-clause-looked : goal.returns-then-is_empty-clause-looked
returns-then-is_empty-clause-looked g c = on_ok c.meant.result (looked_nothing g.S.Texts.tells (g.S.Texts.world c.args.site.now) c.requires.running)

pub returns-then-is_empty-clause-memory : goal.returns-then-is_empty-clause-memory
returns-then-is_empty-clause-memory g c = if_err_each c.meant.result (λ fault memory. c.requires.running)

pub returns-then-is_empty-clause-kept : goal.returns-then-is_empty-clause-kept
returns-then-is_empty-clause-kept g c = keeps_none c.args.declared.now.graph
