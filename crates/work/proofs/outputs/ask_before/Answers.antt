use Rattle.std.proofs.Common.{ℕ, List, sym, ◌∙◌, ap}
use Rattle.std.proofs.lemmas.Bool.{false≢true}
use Rattle.model.specs.Graph.{has_number}
use Rattle.work.proofs.Seeing.{saw_none}
use Rattle.work.proofs.Results.{ok_then}
use Rattle.work.proofs.outputs.ask_before.Goals as goal

pub returns-then-not-has_restat-clause-looked : goal.returns-then-not-has_restat-clause-looked
returns-then-not-has_restat-clause-looked g c = saw_none g.S.Texts.tells c.args.graph.now (g.S.Texts.world c.args.site.now) c.args.looks.now

pub returns-then-not-has_restat-clause-asked : goal.returns-then-not-has_restat-clause-asked
returns-then-not-has_restat-clause-asked g c restat = absurd (false≢true (sym c.if-not-has_restat.true ∙ (c.has_restat.ensures ∙ restat)))

pub returns-clause-asked : goal.returns-clause-asked
returns-clause-asked g c = ok_then c.ask.result c.ask.ensures.asked (λ asked restat p made. asked p (ap (λ (l : List ℕ). has_number l p) c.outputs.ensures ∙ made))
