use Rattle.std.proofs.Common.{◌≡◌, ◌∙◌, ◌+◌, ℕ, suc, ap, sym, subst, false, List, take, arith}
use Rattle.model.specs.Graph.{has_number}
use Rattle.paths.specs.Lists.{all_paths}
use Rattle.paths.proofs.Naming.{named_here, named_next}
use Rattle.paths.proofs.lines.Lines.name.Goals as goal

pub returns-then-has : goal.returns-then-has
returns-then-has c =
    sym (named_here c.args.self.now c.loop-place.place c.args.path (omega arith)
    (sym (ap (λ (l : List ℕ). has_number l c.args.path) c.all_of.ensures) ∙ (sym c.has.ensures ∙ c.if-has.true)))

pub loop-place-preserved : goal.loop-place-preserved
loop-place-preserved c =
    let place = c.loop-place.place in
    let next : suc place ≡ place + 1 = omega arith in
    subst (λ (k : ℕ). has_number (all_paths (take k c.args.self.now)) c.args.path ≡ false) next
    (named_next c.args.self.now place c.args.path (omega arith) c.loop-place.invariant
    (sym (ap (λ (l : List ℕ). has_number l c.args.path) c.all_of.ensures) ∙ (sym c.has.ensures ∙ c.if-has.false)))
