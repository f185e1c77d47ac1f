use Rattle.std.proofs.Common.{ℕ, ◌<◌, List, length, slice_index, ap, sym, subst}
use Rattle.graph.specs.Links.{links_of}
use Rattle.graph.specs.declared.graph.Graph.{Graph}
use Rattle.tools.proofs.Rises.{last_within, next_needed, next_awaited, next_seen}
use Rattle.tools.proofs.above.Walk.look.Goals as goal

pub enter-requires-clause-needed : goal.enter-requires-clause-needed
enter-requires-clause-needed c = λ m made.
    let walk = c.args.self.now in
    next_needed (links_of walk.graph.now) walk.paths.now walk.order.items walk.marks.items walk.left.items walk.stack.items c.requires.at.at c.args.edge c.args.path m c.requires.last c.requires.next made

pub enter-requires-clause-awaited : goal.enter-requires-clause-awaited
enter-requires-clause-awaited c = λ m last made is.
    let walk = c.args.self.now in
    next_awaited (links_of walk.graph.now) walk.paths.now walk.order.items walk.marks.items walk.left.items walk.stack.items c.requires.at.at c.args.edge c.args.path m c.requires.last c.requires.next made last is

pub pass-requires-clause-within : goal.pass-requires-clause-within
pass-requires-clause-within c =
    let walk = c.args.self.now in
    subst (λ (graph : Graph). c.args.edge < length graph.manifest.lines) (sym {A = Graph} c.in_ok-enter.ensures.walk.same)
    (last_within (links_of walk.graph.now) walk.paths.now walk.order.items walk.marks.items walk.left.items walk.stack.items c.requires.at.at c.args.edge c.requires.last)

pub pass-requires-clause-left : goal.pass-requires-clause-left
pass-requires-clause-left c = subst (λ (left : List ℕ). 0 < slice_index left c.args.edge) (sym {A = List ℕ} c.in_ok-enter.ensures.left) c.requires.next.some

pub pass-requires-clause-seen : goal.pass-requires-clause-seen
pass-requires-clause-seen c = λ p next.
    let old = c.args.self.now in
    let now = c.enter.new.self in
    next_seen (links_of old.graph.now) (links_of now.graph.now) now.marks.items old.left.items now.left.items c.args.edge c.args.path p (ap links_of c.in_ok-enter.ensures.walk.same) c.in_ok-enter.ensures.left c.requires.next next
    c.in_ok-enter.ensures.seen
