use Rattle.std.proofs.Common.{◌≡◌, ◌∙◌, inl, inr, ◌<◌, ℕ, Some, ap, subst, sym, arith}
use Rattle.std.proofs.lemmas.Bool.{cases_eq}
use Rattle.graph.specs.Cone.{maker_at}
use Rattle.graph.specs.Links.{links_of}
use Rattle.graph.proofs.graph.Graph.is_behind_makers.Goals as goal

pub loop-place-preserved : goal.loop-place-preserved
loop-place-preserved c = λ k d low is. elim (cases_eq k c.loop-place.place) [
  | inl same ↦ c.is_made_before.ensures c.if-not-is_made_before.false d
      (ap (links_of c.args.self.now).maker c.need.ensures ∙ subst (λ (n : ℕ). maker_at (links_of c.args.self.now) c.args.edge n ≡ Some d) same is)
  | inr other ↦ c.loop-place.invariant k d (omega (arith, low, other)) is
]

pub returns : goal.returns
returns c = λ is k d low made.
    let past = c.loop-place-test.false in
    let all = c.need_count-place-end.ensures in
    c.loop-place.invariant k d (omega (arith, low, past, all)) made
