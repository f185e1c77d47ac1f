use Rattle.std.proofs.Common.{◌≡◌, ◌∙◌, ℕ, List, Bool, length, sym, ap, subst, arith}
use Rattle.model.specs.Schedule.{done_in}
use Rattle.graph.specs.Links.{links_of}
use Rattle.plan.specs.declared.step.Standing.{Standing}
use Rattle.plan.specs.Plan.{IsReady}
use Rattle.plan.specs.First.{AreCounts}
use Rattle.plan.specs.Coming.{IsComing}
use Rattle.plan.specs.Loads.{AreLoads}
use Rattle.plan.specs.Growing.{AreGrown, AreThere}
use Rattle.plan.proofs.Passing.{half_after, pooled_after, loading_after}
use Rattle.plan.proofs.Grown.{tallied_grown, waits_grown, over_grown, all_pooled, pooled_grown, half_grown, still_taken}
use Rattle.plan.proofs.plan.Plan.extend.Goals as goal

pub invariant_of-self : goal.invariant_of-self
invariant_of-self c =
    let plan = c.args.self.now in
    let links = links_of c.args.graph.now in
    let marks = c.args.cone.now.marks.items in
    let standings = c.in_ok-standings.standings in
    let left = c.in_ok-left.left in
    let may = c.requires.may in
    let grown = subst (λ (l : List Standing). AreGrown links marks l standings.items) c.deref.ensures.value c.in_ok-standings.ensures in
    let size : length standings.items ≡ length c.args.graph.now.manifest.lines = grown.fits ∙ (may.over.over.edges ∙ sym may.edges) in
    record {
      fits = omega (arith, c.in_ok-left.ensures.fits, ap (λ (l : List Standing). length l) c.deref-3.ensures.value, standings.ok.0, left.ok.0);
      few = omega (arith, plan.few, grown.fits, standings.ok.0, plan.standings.ok.0);
      room = omega (arith, size, standings.ok.0, c.edges-edges.ensures, c.in_ok-ready.ensures.room, c.first_ready.ensures.room);
      rest = omega (arith, size, standings.ok.0, c.edges-edges.ensures, c.in_ok-pending.ensures.room, c.first_ready.ensures.rest);
      sets = subst (λ (l : List Standing). IsReady l left.items c.first_ready.new.ready c.first_ready.new.pending) c.deref-5.ensures.value
          (subst (λ (l : List ℕ). IsReady c.deref-5.result.now l c.first_ready.new.ready c.first_ready.new.pending) c.deref-6.ensures.value c.first_ready.ensures.sets);
      waits = waits_grown links marks plan.standings.items standings.items grown plan.queue plan.waits;
      tallied = tallied_grown links marks plan.standings.items standings.items grown plan.running plan.failed plan.well plan.tallied;
      come = subst (λ (l : List ℕ). IsComing l c.in_ok-there.there.items c.in_ok-coming.coming.files.items c.in_ok-coming.coming.any) c.deref-9.ensures.value
          (subst (λ (l : List Bool). IsComing c.deref-9.result.now l c.in_ok-coming.coming.files.items c.in_ok-coming.coming.any) c.deref-10.ensures.value c.in_ok-coming.ensures);
    }

pub settle_pending-requires : goal.settle_pending-requires
settle_pending-requires c =
    let links = links_of c.args.graph.now in
    let paths = length c.args.graph.now.manifest.paths in
    let marks = c.args.cone.now.marks.items in
    let standings = c.in_ok-standings.standings.items in
    let there = c.in_ok-there.there.items in
    let left = c.in_ok-left.left.items in
    let may = c.requires.may in
    let grown = subst (λ (l : List Standing). AreGrown links marks l standings) c.deref.ensures.value c.in_ok-standings.ensures in
    over_grown links paths standings there left (grown.fits ∙ (may.over.over.edges ∙ sym may.edges))
    (subst (λ (l : List Standing). AreThere links paths l there) c.deref-2.ensures.value c.in_ok-there.ensures)
    (subst (λ (l : List Standing). AreCounts links l there left) c.deref-3.ensures.value
    (subst (λ (l : List Bool). AreCounts links c.deref-3.result.now l left) c.deref-4.ensures.value c.in_ok-left.ensures))

pub returns-clause-over : goal.returns-clause-over
returns-clause-over c =
    let graph = c.args.graph.now in
    let plan = c.args.self.now in
    let new = c.settle_pending.new.self in
    let standings = c.in_ok-standings.standings.items in
    let rest = c.settle_pending.ensures.rest in
    let flags : length c.in_ok-changed.changed.items ≡ length graph.manifest.paths = omega (arith, c.in_ok-changed.ensures.fits, c.paths.ensures, c.in_ok-changed.changed.ok.0) in
    record {
      over = c.settle_pending.ensures.over;
      settled = c.settle_pending.ensures.none;
      pooled = pooled_after graph standings new.standings.items plan.queue new.queue rest.queue rest.stands (pooled_grown graph plan standings c.requires.may);
      flags = ap (λ v. length v.items) rest.changed ∙ flags;
      loading = loading_after graph standings new.standings.items plan.queue new.queue c.in_ok-loads.loads.items new.loads.items rest.queue rest.stands (ap (λ v. v.items) rest.loads) record {
        loads_are = subst (λ (l : List Standing). AreLoads graph l c.in_ok-loads.loads.items) c.deref-8.ensures.value c.in_ok-loads.ensures;
        all = λ some. all_pooled graph plan c.requires.may;
      };
    }

pub returns-clause-planned : goal.returns-clause-planned
returns-clause-planned c = λ before earlier task steps at taken stated more cone.
    let graph = c.args.graph.now in
    let plan = c.args.self.now in
    let new = c.settle_pending.new.self in
    let marks = c.args.cone.now.marks.items in
    let standings = c.in_ok-standings.standings.items in
    let rest = c.settle_pending.ensures.rest in
    let grown = subst (λ (l : List Standing). AreGrown (links_of graph) marks l standings) c.deref.ensures.value c.in_ok-standings.ensures in
    let half = half_grown earlier task more before graph plan steps at taken stated c.args.cone.now.order.items marks cone standings grown in
    let last = half_after task standings new.standings.items plan.queue new.queue steps half rest.queue rest.stands (λ phony old. c.settle_pending.ensures.sound task (done_in steps) stated phony old) in (
      record {
        stated = stated;
        limits = (rest.jobs ∙ (at.limits.0 ∙ sym more.jobs), rest.keep ∙ (at.limits.1 ∙ sym more.keep));
        over = returns-clause-over c;
        within = last.within;
        inside = last.inside;
        kinds = last.kinds;
        stands = last.stands;
        settled = last.settled;
        runs = last.runs;
      },
      still_taken earlier task more steps taken,
    )
