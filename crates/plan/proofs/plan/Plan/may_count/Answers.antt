use Rattle.std.proofs.Common.{◌≡◌, ◌⊎◌, ◌<◌, ℕ, List, Bool, true, length, subst, sym, arith}
use Rattle.graph.specs.Links.{links_of}
use Rattle.plan.specs.declared.step.Standing.{Standing}
use Rattle.plan.specs.Standing.{standing_at, is_unjudged, is_outside}
use Rattle.plan.specs.Coming.{AreAway}
use Rattle.plan.proofs.Staying.{not_true, read_at}
use Rattle.plan.proofs.plan.Plan.may_count.Goals as goal

pub returns : goal.returns
returns c = λ is.
    let plan = c.args.self.now in
    let graph = c.args.graph.now in
    let place : c.index-place.result ≡ c.args.edge = c.index-place.ensures.place in
    let lt : c.index-place.result < length plan.standings.items = omega (arith, place, c.requires.within, c.requires.lines, plan.standings.ok.0) in
    let at : standing_at plan.standings.items c.args.edge ≡ c.index.result.now =
    subst (λ (n : ℕ). standing_at plan.standings.items n ≡ c.index.result.now) place (read_at plan.standings.items c.index-place.result c.index.result.now c.index.ensures lt) in
    record {
      fresh = subst (λ (s : Standing). (is_unjudged s ≡ true) ⊎ (is_outside s ≡ true)) (sym at) (c.is_fresh.ensures c.if-not-is_fresh.false);
      none = subst (λ (t : List Bool). AreAway t ((links_of graph).outputs c.args.edge)) c.deref.ensures.value
          (subst (λ (l : List ℕ). AreAway c.deref.result.now l) c.outputs.ensures (c.is_any_there.ensures (not_true c.is_any_there.result is)));
    }
