use Rattle.std.proofs.Common.{◌∙◌, List, None, get_or, ap}
use Rattle.model.specs.declared.graph.Pool.{Pool}
use Rattle.plan.specs.Turns.{Turns}
use Rattle.plan.specs.Pools.{depths_of}
use Rattle.plan.proofs.Beginning.{idle_queue}
use Rattle.plan.proofs.pools.queue_of.Goals as goal

pub returns-clause-idle : goal.returns-clause-idle
returns-clause-idle c = idle_queue c.args.graph.now c.args.standings.now c.in_ok-groups.groups.items c.deref.result.now c.in_ok-queue.queue c.in_ok-groups.ensures.groups
    (c.deref.ensures.value ∙ (c.in_ok-depths.ensures ∙ ap (λ (ps : List Pool). depths_of ps) c.as_slice.ensures)) c.in_ok-queue.ensures

pub returns-clause-all : goal.returns-clause-all
returns-clause-all c = λ whole e. ap (λ (t : Turns). get_or t.groups e None) c.in_ok-queue.ensures ∙ c.in_ok-groups.ensures.all whole e
