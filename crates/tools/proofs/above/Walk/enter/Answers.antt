use Rattle.std.proofs.Common.{ℕ, Option, sym, subst}
use Rattle.graph.specs.Cone.{maker_seen}
use Rattle.tools.proofs.Putting.{on_ok}
use Rattle.tools.proofs.above.Walk.enter.Goals as goal

pub visit-requires-clause-needed : goal.visit-requires-clause-needed
visit-requires-clause-needed c = c.requires.needed c.in-Some.maker (sym c.in-Some.ensures.value)

pub visit-requires-clause-awaited : goal.visit-requires-clause-awaited
visit-requires-clause-awaited c = λ last is. c.requires.awaited c.in-Some.maker last (sym c.in-Some.ensures.value) is

pub returns-in-Some-clause-seen : goal.returns-in-Some-clause-seen
returns-in-Some-clause-seen c =
    on_ok c.visit.result (λ seen. subst (λ (o : Option ℕ). maker_seen c.visit.new.self.marks.items o) c.in-Some.ensures.value seen) c.visit.ensures.seen

pub returns-in-None-clause-seen : goal.returns-in-None-clause-seen
returns-in-None-clause-seen c = subst (λ (o : Option ℕ). maker_seen c.args.self.now.marks.items o) c.in-None.ensures.value tt
