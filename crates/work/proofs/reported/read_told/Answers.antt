use Rattle.std.proofs.Common.{ℕ, List, Some, sym, ◌∙◌, ap}
use Rattle.std.proofs.lemmas.Bool.{false≢true}
use Rattle.work.proofs.Depfiles.{was_read}
use Rattle.work.proofs.reported.read_told.Goals as goal

pub returns-in-Some-clause-read : goal.returns-in-Some-clause-read
returns-in-Some-clause-read g c =
    was_read g.S.Texts.tells c.args.act.now c.args.ok (g.S.Texts.world c.args.site.now) (g.S.Texts.world c.read.new.self) c.as_str.result.now c.in_ok-content.field-0 c.as_slice.result.now c.told_by.result c.if-not-ok.false
    (λ is. false≢true (sym c.if-is_empty.false ∙ c.is_empty.ensures.1 is)) c.as_str.ensures (c.in-Some.is ∙ ap (λ (bytes : List ℕ). Some bytes) (sym c.as_slice.ensures)) c.in_ok-content.ensures.content c.told_by.ensures.says
