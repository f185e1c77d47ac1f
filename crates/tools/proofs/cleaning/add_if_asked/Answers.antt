use Rattle.std.proofs.Common.{◌≡◌, ℕ, List, map, sym, ap, ◌∙◌}
use Rattle.std.specs.Map.Iter.{deref}
use Rattle.std.proofs.lemmas.Bool.{false≢true}
use Rattle.model.specs.Graph.{has}
use Rattle.tools.specs.Clean.{MayClean, MayCleanOfRule}
use Rattle.tools.proofs.Adding.{adds_as, adds_none}
use Rattle.tools.proofs.Putting.{on_ok}
use Rattle.tools.proofs.cleaning.add_if_asked.Goals as goal

pub returns-then-not-is_among : goal.returns-then-not-is_among
returns-then-not-is_among c =
    adds_none c.args.paths.now (MayCleanOfRule c.args.declared.now (map deref c.args.rules.now) c.args.generated c.args.edge) (λ t both. false≢true (sym c.if-not-is_among.true ∙ (c.is_among.ensures ∙ (ap (has (map deref c.args.rules.now)) c.rule.ensures ∙ both.0))))

pub returns : goal.returns
returns c =
    let known = sym (ap (has (map deref c.args.rules.now)) c.rule.ensures) ∙ (sym c.is_among.ensures ∙ c.if-not-is_among.false) in
    on_ok c.add_edge.result (λ adds. adds_as c.args.paths.now c.add_edge.new.paths (MayClean c.args.declared.now c.args.generated c.args.edge) (MayCleanOfRule c.args.declared.now (map deref c.args.rules.now) c.args.generated c.args.edge) (λ t may. (known, may)) (λ t both. both.1) adds) c.add_edge.ensures
