use Rattle.std.proofs.Common.{◌≡◌, ◌∙◌, ℕ, ◌+◌, ◌<◌, Bool, true, false, cond, List, length, get_or, take, sym, ap, subst, arith}
use Rattle.std.proofs.Math.ListN.{set}
use Rattle.plan.specs.Coming.{IsComing}
use Rattle.plan.specs.Flags.{has}
use Rattle.graph.specs.Held.{times}
use Rattle.graph.specs.Links.{links_of, needs_at}
use Rattle.plan.specs.declared.step.Standing.{Standing}
use Rattle.plan.specs.Standing.{standing_at, awaits}
use Rattle.plan.specs.Settling.{IsCounted, lowered}
use Rattle.plan.proofs.Arriving.{IsTold, next_within, next_some, counted_all, told_next, still_more, read_number, read_flag, take_all}
use Rattle.plan.proofs.FilesThere.{one_comes}
use Rattle.plan.proofs.plan.Plan.arrive.Goals as goal

pub invariant_of-self-clause-come : goal.invariant_of-self-clause-come
invariant_of-self-clause-come c =
    let plan = c.args.self.now in
    let p = c.index-place.result in
    let lt : p < length plan.there.items = omega (arith, c.if-place-len.false, c.len.ensures, plan.there.ok.0) in
    let files = ap (λ v. v.items) c.note.ensures.files in
    subst (λ (f : List Bool). IsComing plan.loads.items (set plan.there.items p true) f c.note.new.self.any) (sym {A = List Bool} files)
    (one_comes plan.loads.items plan.there.items plan.coming.files.items plan.coming.any c.note.new.self.any p lt c.note.ensures.any plan.come)

pub count_down-requires-clause-within : goal.count_down-requires-clause-within
count_down-requires-clause-within c =
    let graph = c.args.graph.now in
    let plan = c.args.self.now in
    let p = c.index-place.result in
    let users = c.users-user-items.result.now in
    let named : (e : ℕ) → times users e ≡ times (needs_at (links_of graph) e) p = λ (e : ℕ). c.users-user-items.ensures.counted e ∙ ap (λ (n : ℕ). times (needs_at (links_of graph) e) n) (sym c.index-place.ensures.place) in
    let lt : p < length plan.there.items = omega (arith, c.if-place-len.false, c.len.ensures, plan.there.ok.0) in
    let none : has plan.there.items p ≡ false = read_flag plan.there.items p c.index.result.now false c.index.ensures c.if-index.false lt in
    let still = c.loop-user.invariant.0 in
    let item : c.index-in-loop-user.result ≡ get_or users c.loop-user.user-index 0 = read_number users c.loop-user.user-index c.user-item.result c.index-in-loop-user.result c.index-in-loop-user.ensures.place c.user-item.is c.loop-user-test.true in
    let told : IsTold plan.standings.items (take c.loop-user.user-index users) plan.left.items c.loop-user.self.left.items = subst (λ (s : List Standing). IsTold s (take c.loop-user.user-index users) plan.left.items c.loop-user.self.left.items) still.standings c.loop-user.invariant.1 in
    let within : get_or users c.loop-user.user-index 0 < length plan.standings.items = next_within graph p users named (length graph.manifest.paths) plan.standings.items plan.left.items plan.there.items c.requires lt none c.loop-user.user-index c.loop-user-test.true in
    let some : awaits (standing_at plan.standings.items (get_or users c.loop-user.user-index 0)) ≡ true → 0 < get_or c.loop-user.self.left.items (get_or users c.loop-user.user-index 0) 0 = next_some graph p users named (length graph.manifest.paths) plan.standings.items plan.left.items plan.there.items c.requires lt none c.loop-user.user-index c.loop-user.self.left.items c.loop-user-test.true told in
    omega (arith, within, item, ap (λ (s : List Standing). length s) still.standings, c.loop-user.self.standings.ok.0)

pub count_down-requires-clause-some : goal.count_down-requires-clause-some
count_down-requires-clause-some c = λ waits.
    let graph = c.args.graph.now in
    let plan = c.args.self.now in
    let p = c.index-place.result in
    let users = c.users-user-items.result.now in
    let named : (e : ℕ) → times users e ≡ times (needs_at (links_of graph) e) p = λ (e : ℕ). c.users-user-items.ensures.counted e ∙ ap (λ (n : ℕ). times (needs_at (links_of graph) e) n) (sym c.index-place.ensures.place) in
    let lt : p < length plan.there.items = omega (arith, c.if-place-len.false, c.len.ensures, plan.there.ok.0) in
    let none : has plan.there.items p ≡ false = read_flag plan.there.items p c.index.result.now false c.index.ensures c.if-index.false lt in
    let still = c.loop-user.invariant.0 in
    let item : c.index-in-loop-user.result ≡ get_or users c.loop-user.user-index 0 = read_number users c.loop-user.user-index c.user-item.result c.index-in-loop-user.result c.index-in-loop-user.ensures.place c.user-item.is c.loop-user-test.true in
    let told : IsTold plan.standings.items (take c.loop-user.user-index users) plan.left.items c.loop-user.self.left.items = subst (λ (s : List Standing). IsTold s (take c.loop-user.user-index users) plan.left.items c.loop-user.self.left.items) still.standings c.loop-user.invariant.1 in
    let within : get_or users c.loop-user.user-index 0 < length plan.standings.items = next_within graph p users named (length graph.manifest.paths) plan.standings.items plan.left.items plan.there.items c.requires lt none c.loop-user.user-index c.loop-user-test.true in
    let some : awaits (standing_at plan.standings.items (get_or users c.loop-user.user-index 0)) ≡ true → 0 < get_or c.loop-user.self.left.items (get_or users c.loop-user.user-index 0) 0 = next_some graph p users named (length graph.manifest.paths) plan.standings.items plan.left.items plan.there.items c.requires lt none c.loop-user.user-index c.loop-user.self.left.items c.loop-user-test.true told in
    subst (λ (e : ℕ). 0 < get_or c.loop-user.self.left.items e 0) (sym item)
    (some (subst (λ (e : ℕ). awaits (standing_at plan.standings.items e) ≡ true) item (subst (λ (s : List Standing). awaits (standing_at s c.index-in-loop-user.result) ≡ true) still.standings waits)))

pub loop-user-preserved : goal.loop-user-preserved
loop-user-preserved c =
    let graph = c.args.graph.now in
    let plan = c.args.self.now in
    let p = c.index-place.result in
    let users = c.users-user-items.result.now in
    let named : (e : ℕ) → times users e ≡ times (needs_at (links_of graph) e) p = λ (e : ℕ). c.users-user-items.ensures.counted e ∙ ap (λ (n : ℕ). times (needs_at (links_of graph) e) n) (sym c.index-place.ensures.place) in
    let lt : p < length plan.there.items = omega (arith, c.if-place-len.false, c.len.ensures, plan.there.ok.0) in
    let none : has plan.there.items p ≡ false = read_flag plan.there.items p c.index.result.now false c.index.ensures c.if-index.false lt in
    let still = c.loop-user.invariant.0 in
    let item : c.index-in-loop-user.result ≡ get_or users c.loop-user.user-index 0 = read_number users c.loop-user.user-index c.user-item.result c.index-in-loop-user.result c.index-in-loop-user.ensures.place c.user-item.is c.loop-user-test.true in
    let told : IsTold plan.standings.items (take c.loop-user.user-index users) plan.left.items c.loop-user.self.left.items = subst (λ (s : List Standing). IsTold s (take c.loop-user.user-index users) plan.left.items c.loop-user.self.left.items) still.standings c.loop-user.invariant.1 in
    let within : get_or users c.loop-user.user-index 0 < length plan.standings.items = next_within graph p users named (length graph.manifest.paths) plan.standings.items plan.left.items plan.there.items c.requires lt none c.loop-user.user-index c.loop-user-test.true in
    let some : awaits (standing_at plan.standings.items (get_or users c.loop-user.user-index 0)) ≡ true → 0 < get_or c.loop-user.self.left.items (get_or users c.loop-user.user-index 0) 0 = next_some graph p users named (length graph.manifest.paths) plan.standings.items plan.left.items plan.there.items c.requires lt none c.loop-user.user-index c.loop-user.self.left.items c.loop-user-test.true told in
    let more = still_more plan c.loop-user.self c.count_down.new.self still c.count_down.ensures.rest in
    let after : c.count_down.new.self.left.items ≡ cond (awaits (standing_at plan.standings.items (get_or users c.loop-user.user-index 0))) (lowered c.loop-user.self.left.items (get_or users c.loop-user.user-index 0)) c.loop-user.self.left.items =
    c.count_down.ensures.left
    ∙ (ap (λ (s : List Standing). cond (awaits (standing_at s c.index-in-loop-user.result)) (lowered c.loop-user.self.left.items c.index-in-loop-user.result) c.loop-user.self.left.items) still.standings
    ∙ ap (λ (e : ℕ). cond (awaits (standing_at plan.standings.items e)) (lowered c.loop-user.self.left.items e) c.loop-user.self.left.items) item) in
    let inside : get_or users c.loop-user.user-index 0 < length c.loop-user.self.left.items = omega (arith, within, ap (λ (s : List Standing). length s) still.standings, c.loop-user.self.standings.ok.0, c.loop-user.self.fits, c.loop-user.self.left.ok.0) in (
      more,
      subst (λ (s : List Standing). IsTold s (take (c.loop-user.user-index + 1) users) plan.left.items c.count_down.new.self.left.items) (sym more.standings)
          (told_next plan.standings.items users c.loop-user.user-index plan.left.items c.loop-user.self.left.items c.count_down.new.self.left.items c.loop-user-test.true told inside some after),
      c.count_down.ensures.there ∙ c.loop-user.invariant.2,
    )

pub returns-clause-counted : goal.returns-clause-counted
returns-clause-counted c =
    let graph = c.args.graph.now in
    let plan = c.args.self.now in
    let p = c.index-place.result in
    let users = c.users-user-items.result.now in
    let named : (e : ℕ) → times users e ≡ times (needs_at (links_of graph) e) p = λ (e : ℕ). c.users-user-items.ensures.counted e ∙ ap (λ (n : ℕ). times (needs_at (links_of graph) e) n) (sym c.index-place.ensures.place) in
    let lt : p < length plan.there.items = omega (arith, c.if-place-len.false, c.len.ensures, plan.there.ok.0) in
    let none : has plan.there.items p ≡ false = read_flag plan.there.items p c.index.result.now false c.index.ensures c.if-index.false lt in
    let still = c.loop-user.invariant.0 in
    let all = take_all users c.loop-user.user-index (omega arith) in
    let told : IsTold plan.standings.items users plan.left.items c.loop-user.self.left.items = subst (λ (l : List ℕ). IsTold plan.standings.items l plan.left.items c.loop-user.self.left.items) all (subst (λ (s : List Standing). IsTold s (take c.loop-user.user-index users) plan.left.items c.loop-user.self.left.items) still.standings c.loop-user.invariant.1) in
    let now = counted_all graph p users named (length graph.manifest.paths) plan.standings.items plan.left.items plan.there.items c.requires lt none c.loop-user.self.left.items told in
    subst (λ (s : List Standing). IsCounted (links_of graph) (length graph.manifest.paths) s c.loop-user.self.left.items c.loop-user.self.there.items) (sym still.standings)
    (subst (λ (t : List Bool). IsCounted (links_of graph) (length graph.manifest.paths) plan.standings.items c.loop-user.self.left.items t) (sym c.loop-user.invariant.2) now)
