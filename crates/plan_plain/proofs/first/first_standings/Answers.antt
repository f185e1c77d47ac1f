use Rattle.std.proofs.Common.{◌≡◌, ◌∙◌, ◌∷◌, ◌++◌, [], ℕ, List, length, ap, arith}
use Rattle.std.proofs.lemmas.List.{length-append}
use Rattle.graph.specs.Links.{links_of}
use Rattle.graph.specs.Cone.{is_listed, mark_at}
use Rattle.plan.specs.declared.step.Standing.{Standing}
use Rattle.plan.specs.Standing.{standing_at}
use Rattle.plan_plain.specs.Planned.{first_standing}
use Rattle.plan_plain.proofs.Beginning.{pushed_first}
use Rattle.plan_plain.proofs.first.first_standings.Goals as goal

pub loop-place-preserved : goal.loop-place-preserved
loop-place-preserved c =
    let first : ℕ → Standing = λ (k : ℕ). first_standing (is_listed (mark_at c.args.cone.now.marks.items k)) ((links_of c.args.graph.now).phony k) in
    let is : c.push.new.self.items ≡ c.loop-place.standings.items ++ c.first_standing.result ∷ [] = c.in_ok-push.ensures.items in (
      omega (arith, ap (λ (l : List Standing). length l) is, c.loop-place.invariant.0, length-append c.loop-place.standings.items (c.first_standing.result ∷ [])),
      λ k lt. ap (λ (l : List Standing). standing_at l k) is
          ∙ pushed_first first c.loop-place.standings.items c.first_standing.result c.loop-place.place c.loop-place.invariant.0 c.loop-place.invariant.1 (c.first_standing.ensures ∙ ap first c.edge.ensures) k lt,
    )
