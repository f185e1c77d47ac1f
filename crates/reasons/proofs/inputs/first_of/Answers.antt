use Rattle.std.proofs.Common.{◌≡◌, ℕ, Bool, true, false, Some, get_or, sym, ◌∙◌, ap, arith}
use Rattle.graph.specs.Links.{links_of}
use Rattle.reasons.specs.Why.{is_sought}
use Rattle.reasons.proofs.Firsts.{found_at, passed_at, none_past}
use Rattle.reasons.proofs.inputs.first_of.Goals as goal

pub returns-then-is_sought : goal.returns-then-is_sought
returns-then-is_sought c =
    let test : ℕ → Bool = λ p. is_sought (links_of c.args.graph.now) c.args.anew.now c.args.looks.now.seen.items c.args.outputs c.args.reason c.args.always p in
    let is : test (get_or c.args.paths.now c.loop-path.path-index c.path-item.result) ≡ true = ap test (sym {A = ℕ} c.path-item.is) ∙ (sym c.is_sought.ensures ∙ c.if-is_sought.true) in
    sym (c.loop-path.invariant ∙ (found_at test c.args.paths.now c.loop-path.path-index c.path-item.result c.loop-path-test.true is ∙ ap (λ (p : ℕ). Some p) (sym {A = ℕ} c.path-item.is)))

pub loop-path-preserved : goal.loop-path-preserved
loop-path-preserved c =
    let test : ℕ → Bool = λ p. is_sought (links_of c.args.graph.now) c.args.anew.now c.args.looks.now.seen.items c.args.outputs c.args.reason c.args.always p in
    let is : test (get_or c.args.paths.now c.loop-path.path-index c.path-item.result) ≡ false = ap test (sym {A = ℕ} c.path-item.is) ∙ (sym c.is_sought.ensures ∙ c.if-is_sought.false) in
    c.loop-path.invariant ∙ passed_at test c.args.paths.now c.loop-path.path-index c.path-item.result c.loop-path-test.true is

pub returns : goal.returns
returns c =
    sym (c.loop-path.invariant ∙ none_past (λ p. is_sought (links_of c.args.graph.now) c.args.anew.now c.args.looks.now.seen.items c.args.outputs c.args.reason c.args.always p) c.args.paths.now c.loop-path.path-index (omega arith))
