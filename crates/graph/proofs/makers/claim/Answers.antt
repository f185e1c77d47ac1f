use Rattle.std.proofs.Common.{◌≡◌, ◌∙◌, ◌<◌, ℕ, ap, sym, subst, arith, length, get_or, true, false, Some, None, cond, take, ◌+◌}
use Rattle.std.specs.Option.{is_some}
use Rattle.std.proofs.Math.ListN.{set}
use Rattle.std.proofs.lemmas.List.{get_or_default, length-set}
use Rattle.model.specs.Graph.{has_number}
use Rattle.graph.specs.Held.{maker_in}
use Rattle.graph.proofs.Parts.{none_of}
use Rattle.graph.proofs.Turns.{claimed_twice, next_once, next_fresh, next_is}
use Rattle.graph.proofs.makers.claim.Goals as goal

pub returns-then-is_some-clause-twice : goal.returns-then-is_some-clause-twice
returns-then-is_some-clause-twice c =
    let place = c.loop-output.output-index in
    let outputs = c.args.outputs.now in
    let low : get_or outputs place 0 < length c.args.makers.now = c.requires place 0 c.loop-output-test.true in
    let at : c.index.result ≡ get_or outputs place 0 = c.index.ensures.place ∙ (c.output-item.is ∙ get_or_default outputs place c.output-item.result 0 c.loop-output-test.true) in
    let within : c.index.result < length c.loop-output.makers = omega (arith, low, at, c.loop-output.invariant.fits) in
    let made : is_some (maker_in c.loop-output.makers c.output-item.result) ≡ true =
    sym (c.if-is_some.ensures ∙ ap is_some (get_or_default c.loop-output.makers c.index.result c.index-makers-index.result None within ∙ ap (maker_in c.loop-output.makers) c.index.ensures.place)) in
    claimed_twice c.args.makers.now c.loop-output.makers outputs place c.output-item.result c.args.edge c.loop-output-test.true c.output-item.is c.loop-output.invariant.once c.loop-output.invariant.fresh c.loop-output.invariant.is made

pub loop-output-preserved : goal.loop-output-preserved
loop-output-preserved c =
    let place = c.loop-output.output-index in
    let outputs = c.args.outputs.now in
    let makers = c.loop-output.makers in
    let path = c.output-item.result in
    let low : get_or outputs place 0 < length c.args.makers.now = c.requires place 0 c.loop-output-test.true in
    let at : c.index.result ≡ get_or outputs place 0 = c.index.ensures.place ∙ (c.output-item.is ∙ get_or_default outputs place c.output-item.result 0 c.loop-output-test.true) in
    let within : c.index.result < length makers = omega (arith, low, at, c.loop-output.invariant.fits) in
    let none : is_some (maker_in makers path) ≡ false =
    sym (c.if-is_some.ensures ∙ ap is_some (get_or_default makers c.index.result c.index-makers-index.result None within ∙ ap (maker_in makers) c.index.ensures.place)) in
    let free : maker_in makers path ≡ None = none_of (maker_in makers path) none in
    let inside : path < length makers = subst (λ (n : ℕ). n < length makers) c.index.ensures.place within in
    let before = c.loop-output.invariant in
    record {
      fits = length-set makers c.index-in-loop-output.result (Some c.args.edge) ∙ before.fits;
      once = next_once c.args.makers.now makers outputs place path c.args.edge c.loop-output-test.true c.output-item.is before.once before.fresh before.is free;
      fresh = next_fresh c.args.makers.now makers outputs place path c.args.edge c.loop-output-test.true c.output-item.is before.once before.fresh before.is free;
      is = subst (λ (n : ℕ). (q : ℕ) → maker_in (set makers n (Some c.args.edge)) q ≡ cond (has_number (take (place + 1) outputs) q) (Some c.args.edge) (maker_in c.args.makers.now q)) (sym {A = ℕ} c.index-in-loop-output.ensures.place)
          (next_is c.args.makers.now makers outputs place path c.args.edge c.loop-output-test.true c.output-item.is before.once before.fresh before.is free inside);
    }
