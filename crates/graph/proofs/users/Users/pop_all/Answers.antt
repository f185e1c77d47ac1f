use Rattle.std.proofs.Common.{◌≡◌, ◌∙◌, ◌<◌, ◌++◌, ◌∷◌, [], ℕ, List, ap, refl, sym, subst, arith, length}
use Rattle.std.specs.List.{AllByRecursion}
use Rattle.std.proofs.lemmas.List.{append-nil, length-set}
use Rattle.theory.proofs.Lists.{all_parts}
use Rattle.graph.specs.Held.{pushed, times}
use Rattle.graph.proofs.Ends.{popped_next}
use Rattle.graph.proofs.Fronts.{cut_none, cut_next, cut_all}
use Rattle.graph.proofs.Lists.{length-pushed}
use Rattle.graph.proofs.Parts.{index_all}
use Rattle.graph.proofs.users.Users.pop_all.Goals as goal

pub loop-last-init : goal.loop-last-init
loop-last-init c =
    let left = c.split_at.result.1.now in
    let all : left ≡ c.args.paths.now = c.split_at.ensures.back in
    record {
      fits = refl;
      within = subst (AllByRecursion (λ p. p < length c.args.self.now)) (sym {A = List ℕ} all) (index_all (length c.args.self.now) c.args.paths.now c.requires);
      behind = ([], sym {A = List ℕ} all ∙ sym (append-nil left), cut_none (times []) c.args.self.now (λ p. refl));
      popped = λ users edge is. is ∙ ap (λ (l : List ℕ). pushed users l edge) (sym {A = List ℕ} all);
    }

pub loop-last-preserved : goal.loop-last-preserved
loop-last-preserved c =
    let before = c.loop-last.invariant in
    let splits : c.loop-last.left.now ≡ c.in-Some.front.now ++ c.in-Some.last.now ∷ [] = c.in-Some.ensures.cases.0 in
    let parts = all_parts (λ p. p < length c.args.self.now) c.in-Some.front.now (c.in-Some.last.now ∷ []) (subst (AllByRecursion (λ p. p < length c.args.self.now)) splits before.within) in
    let low : c.in-Some.last.now < length c.args.self.now = parts.1.0 in
    record {
      fits = ap length c.pop.ensures ∙ (length-set c.loop-last.self c.in-Some.last.now _ ∙ before.fits);
      within = parts.0;
      behind = cut_next c.args.self.now c.loop-last.self c.pop.new.self c.args.paths.now c.loop-last.left.now c.in-Some.front.now before.behind.0 c.in-Some.last.now (subst (λ (n : ℕ). c.in-Some.last.now < n) (sym before.fits) low) splits c.pop.ensures before.behind.1 before.behind.2;
      popped = λ users edge is.
          let long : length c.args.self.now ≡ length users = ap length is ∙ length-pushed users c.args.paths.now edge in
          popped_next users c.loop-last.self c.pop.new.self c.loop-last.left.now c.in-Some.front.now c.in-Some.last.now edge splits (omega (arith, low, long)) (before.popped users edge is) c.pop.ensures;
    }

pub returns-clause-cut : goal.returns-clause-cut
returns-clause-cut c = cut_all c.args.self.now c.loop-last.self c.args.paths.now c.loop-last.left.now c.in_default.ensures.cases c.loop-last.invariant.behind
