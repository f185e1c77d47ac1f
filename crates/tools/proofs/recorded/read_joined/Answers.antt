use Rattle.theory.proofs.Looks.{looks_then}
use Rattle.tools.proofs.Logging.{if_err_each, keeps_none, looked_then}
use Rattle.tools.proofs.Putting.{on_ok}
use Rattle.tools.proofs.recorded.read_joined.Goals as goal

pub returns-in_err-first-clause-kept : goal.returns-in_err-first-clause-kept
returns-in_err-first-clause-kept g c = keeps_none c.args.declared.now.graph

pub returns-in_err-join_paths-clause-memory : goal.returns-in_err-join_paths-clause-memory
returns-in_err-join_paths-clause-memory g c = if_err_each c.from_residual-in_err-join_paths.result (λ fault memory. c.in_ok-first.ensures.looked.unrefused.goes_on)

pub returns-clause-looks : goal.returns-clause-looks
returns-clause-looks g c =
    looks_then g.S.Texts.tells (g.S.Texts.world c.args.site.now) (g.S.Texts.world c.read_records.new.site) (g.S.Texts.world c.read_records-2.new.site) c.read_records.ensures.looks c.read_records-2.ensures.looks

pub returns-clause-looked : goal.returns-clause-looked
returns-clause-looked g c =
    on_ok c.read_records-2.result
    (λ looked. looked_then g.S.Texts.tells (g.S.Texts.world c.args.site.now) (g.S.Texts.world c.read_records.new.site) (g.S.Texts.world c.read_records-2.new.site) c.in_ok-first.ensures.looked looked)
    c.read_records-2.ensures.looked
