use Rattle.std.proofs.Common.{◌∙◌, ◌++◌, [], Some, ap, sym}
use Rattle.std.specs.Option.{option_map}
use Rattle.model.specs.World.{file_at}
use Rattle.seen.specs.declared.own.Own.{Own}
use Rattle.seen.proofs.Entered.{entered_at, text_none, text_some}
use Rattle.seen.proofs.Answered.{asks_fail, asks_more, asks_no_room}
use Rattle.seen.proofs.notes.read_with.Goals as goal

pub returns-in_err-content-clause-asks : goal.returns-in_err-content-clause-asks
returns-in_err-content-clause-asks g c =
    asks_fail g.S.Texts.tells (g.S.Texts.world c.args.site.now) (g.S.Texts.world c.last_start.new.site) (g.S.Texts.world c.read.new.self) c.in_ok-start.start c.in_err-content.field-0.0 c.from_residual-in_err-content.result c.in_ok-start.ensures c.in_err-content.ensures.looks c.in_err-content.ensures.cause c.in_err-content.ensures.waits
    c.from_residual-in_err-content.ensures.1

pub returns-in_err-entry_of-in-Some-clause-asks : goal.returns-in_err-entry_of-in-Some-clause-asks
returns-in_err-entry_of-in-Some-clause-asks g c =
    asks_no_room g.S.Texts.tells (g.S.Texts.world c.args.site.now) (g.S.Texts.world c.last_start.new.site) (g.S.Texts.world c.read.new.self) c.in_ok-start.start c.in_ok-content.content c.from_residual-in_err-entry_of-in-Some.result c.in_ok-start.ensures c.in_ok-content.ensures.looks c.in_ok-content.ensures.cause c.in_ok-content.ensures.waits c.from_residual-in_err-entry_of-in-Some.ensures.1

pub returns-in_ok-entry_of-in-Some-clause-asks : goal.returns-in_ok-entry_of-in-Some-clause-asks
returns-in_ok-entry_of-in-Some-clause-asks g c = asks_more g.S.Texts.tells (g.S.Texts.world c.args.site.now) (g.S.Texts.world c.last_start.new.site) (g.S.Texts.world c.read.new.self) c.in_ok-start.start c.in_ok-content.content c.in_ok-entry_of-in-Some.field-0 c.in_ok-start.ensures c.in_ok-content.ensures.looks c.in_ok-content.ensures.cause c.in_ok-content.ensures.waits

pub returns-in_err-entry_of-in-None-clause-asks : goal.returns-in_err-entry_of-in-None-clause-asks
returns-in_err-entry_of-in-None-clause-asks g c =
    asks_no_room g.S.Texts.tells (g.S.Texts.world c.args.site.now) (g.S.Texts.world c.last_start.new.site) (g.S.Texts.world c.read.new.self) c.in_ok-start.start c.in_ok-content.content c.from_residual-in_err-entry_of-in-None.result c.in_ok-start.ensures c.in_ok-content.ensures.looks c.in_ok-content.ensures.cause c.in_ok-content.ensures.waits c.from_residual-in_err-entry_of-in-None.ensures.1

pub returns-in_ok-entry_of-in-None-clause-asks : goal.returns-in_ok-entry_of-in-None-clause-asks
returns-in_ok-entry_of-in-None-clause-asks g c = asks_more g.S.Texts.tells (g.S.Texts.world c.args.site.now) (g.S.Texts.world c.last_start.new.site) (g.S.Texts.world c.read.new.self) c.in_ok-start.start c.in_ok-content.content c.in_ok-entry_of-in-None.field-0 c.in_ok-start.ensures c.in_ok-content.ensures.looks c.in_ok-content.ensures.cause c.in_ok-content.ensures.waits

pub returns-in_ok-entry_of-in-Some-clause-enters : goal.returns-in_ok-entry_of-in-Some-clause-enters
returns-in_ok-entry_of-in-Some-clause-enters g c = λ is.
    let sees = c.in_ok-content.ensures.content is in
    entered_at c.in_ok-entry_of-in-Some.field-0.counts (option_map (λ text. text.items) c.in_ok-entry_of-in-Some.field-0.base) (g.S.Texts.world c.args.site.now) (g.S.Texts.world c.last_start.new.site) (g.S.Texts.world c.read.new.self) c.as_str.result.now c.as_slice.result.now c.in_ok-content.content _ _ (c.in_ok-start.ensures.looks.history is)
    (c.in_ok-content.ensures.looks.history is) sees
    (ap (λ (o : Own). o.seen) c.in_ok-entry_of-in-Some.ensures.own ∙ sym c.as_str.ensures)
    (text_some (file_at ((g.S.Texts.world c.last_start.new.site).history ++ sees.earlier) c.as_str.result.now) c.as_slice.result.now (ap Some c.as_slice.ensures ∙ (sym c.in-Some.is ∙ sees.is))) c.in_ok-entry_of-in-Some.ensures.text

pub returns-in_ok-entry_of-in-None-clause-enters : goal.returns-in_ok-entry_of-in-None-clause-enters
returns-in_ok-entry_of-in-None-clause-enters g c = λ is.
    let sees = c.in_ok-content.ensures.content is in
    entered_at c.in_ok-entry_of-in-None.field-0.counts (option_map (λ text. text.items) c.in_ok-entry_of-in-None.field-0.base) (g.S.Texts.world c.args.site.now) (g.S.Texts.world c.last_start.new.site) (g.S.Texts.world c.read.new.self) c.as_str.result.now [] c.in_ok-content.content _ _ (c.in_ok-start.ensures.looks.history is)
    (c.in_ok-content.ensures.looks.history is) sees
    (ap (λ (o : Own). o.seen) c.in_ok-entry_of-in-None.ensures.own ∙ sym c.as_str.ensures)
    (text_none (file_at ((g.S.Texts.world c.last_start.new.site).history ++ sees.earlier) c.as_str.result.now) (sym c.in-None.is ∙ sees.is)) c.in_ok-entry_of-in-None.ensures.text
