use Rattle.std.proofs.Common.{◌≡◌, ◌∙◌, ℕ, ◌<◌, ◌==◌, not, List, Bool, true, false, length, replicate, refl, ap, subst, arith}
use Rattle.std.proofs.lemmas.Bool.{eqb-true, false_from_ne_true}
use Rattle.graph.specs.Links.{links_of}
use Rattle.plan.specs.declared.step.Standing.{Standing}
use Rattle.plan.specs.Plan.{IsReady}
use Rattle.plan.specs.First.{AreCounts, IsIdle}
use Rattle.plan.specs.Coming.{IsComing}
use Rattle.plan.specs.Loads.{AreLoads}
use Rattle.plan.proofs.Begun.{none_counted, none_waits, over_first}
use Rattle.plan.proofs.plan.Plan.begin.Goals as goal

pub invariant_of-result-clause-fits : goal.invariant_of-result-clause-fits
invariant_of-result-clause-fits c =
    let counts = c.in_ok-left.ensures in
    omega (arith, counts.fits, ap (λ (l : List Standing). length l) c.deref.ensures.value, c.in_ok-standings.standings.ok.0, c.in_ok-left.left.ok.0)

pub invariant_of-result-clause-few : goal.invariant_of-result-clause-few
invariant_of-result-clause-few c =
    let first = c.in_ok-standings.ensures in
    omega (arith, first.fits, c.args.graph.now.manifest.few, c.in_ok-standings.standings.ok.0)

pub invariant_of-result-clause-room : goal.invariant_of-result-clause-room
invariant_of-result-clause-room c =
    let first = c.in_ok-standings.ensures in
    omega (arith, first.fits, c.in_ok-standings.standings.ok.0, c.edges-edges.ensures, c.in_ok-ready.ensures.room, c.first_ready.ensures.room)

pub invariant_of-result-clause-rest : goal.invariant_of-result-clause-rest
invariant_of-result-clause-rest c =
    let first = c.in_ok-standings.ensures in
    omega (arith, first.fits, c.in_ok-standings.standings.ok.0, c.edges-edges.ensures, c.in_ok-pending.ensures.room, c.first_ready.ensures.rest)

pub invariant_of-result-clause-sets : goal.invariant_of-result-clause-sets
invariant_of-result-clause-sets c =
    subst (λ (l : List Standing). IsReady l c.in_ok-left.left.items c.first_ready.new.ready c.first_ready.new.pending) c.deref-3.ensures.value
    (subst (λ (l : List ℕ). IsReady c.deref-3.result.now l c.first_ready.new.ready c.first_ready.new.pending) c.deref-4.ensures.value c.first_ready.ensures.sets)

pub invariant_of-result-clause-waits : goal.invariant_of-result-clause-waits
invariant_of-result-clause-waits c =
    none_waits (links_of c.args.graph.now) c.args.cone.now.marks.items c.in_ok-standings.standings.items c.in_ok-standings.ensures c.args.graph.now c.in_ok-queue.queue
    (subst (λ (l : List Standing). IsIdle c.args.graph.now l c.in_ok-queue.queue) c.deref-6.ensures.value c.in_ok-queue.ensures.idle)

pub invariant_of-result-clause-tallied : goal.invariant_of-result-clause-tallied
invariant_of-result-clause-tallied c = none_counted (links_of c.args.graph.now) c.args.cone.now.marks.items c.in_ok-standings.standings.items c.in_ok-standings.ensures

some_left : (n : ℕ) → 0 < n → not (n == 0) ≡ true
some_left n some = ap not (false_from_ne_true (n == 0) (λ h. omega (arith, eqb-true n 0 h, some)))

pub invariant_of-result-clause-come : goal.invariant_of-result-clause-come
invariant_of-result-clause-come c =
    subst (λ (l : List ℕ). IsComing l c.in_ok-there.there.items c.in_ok-coming.coming.files.items c.in_ok-coming.coming.any) c.deref-7.ensures.value
    (subst (λ (l : List Bool). IsComing c.deref-7.result.now l c.in_ok-coming.coming.files.items c.in_ok-coming.coming.any) c.deref-8.ensures.value c.in_ok-coming.ensures)

pub returns : goal.returns
returns c =
    let links = links_of c.args.graph.now in
    let standings = c.in_ok-standings.standings.items in
    record {
      first = c.in_ok-standings.ensures;
      over = over_first links c.args.cone.now.marks.items standings c.in_ok-standings.ensures (length c.args.graph.now.manifest.paths) c.in_ok-there.there.items c.in_ok-left.left.items c.in_ok-there.ensures
          (subst (λ (l : List Standing). AreCounts links l c.in_ok-there.there.items c.in_ok-left.left.items) c.deref.ensures.value
          (subst (λ (l : List Bool). AreCounts links c.deref.result.now l c.in_ok-left.left.items) c.deref-2.ensures.value c.in_ok-left.ensures));
      idle = subst (λ (l : List Standing). IsIdle c.args.graph.now l c.in_ok-queue.queue) c.deref-6.ensures.value c.in_ok-queue.ensures.idle;
      flags = c.in_ok-changed.ensures.items_if_clones_equal (λ y h. h) ∙ ap (λ (n : ℕ). replicate n false) c.paths.ensures;
      limits = (refl, refl);
      loading = record {
        loads_are = subst (λ (l : List Standing). AreLoads c.args.graph.now l c.in_ok-loads.loads.items) c.deref-5.ensures.value c.in_ok-loads.ensures;
        all = λ some. c.in_ok-queue.ensures.all (ap not c.is_empty.ensures ∙ some_left c.in_ok-loads.loads.len (omega (arith, some, c.in_ok-loads.loads.ok.0)));
      };
    }
