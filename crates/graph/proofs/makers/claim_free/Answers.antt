use Rattle.std.proofs.Common.{◌≡◌, ◌∙◌, ◌<◌, ◌+◌, ℕ, List, true, false, Some, None, cond, ap, sym, subst, arith, length, get_or, take}
use Rattle.std.specs.Option.{is_some}
use Rattle.std.proofs.Math.ListN.{set}
use Rattle.std.proofs.lemmas.Bool.{false≢true, true≢false}
use Rattle.std.proofs.lemmas.List.{get_or_default, length-set, take_all}
use Rattle.model.specs.Graph.{has_number}
use Rattle.graph.specs.Held.{maker_in, StandOnce}
use Rattle.graph.specs.Making.{HaveClaimed}
use Rattle.graph.proofs.Ends.{all_take}
use Rattle.graph.proofs.Losing.{gained_claimed, freed_back}
use Rattle.graph.proofs.Parts.{all_index, index_all, none_of}
use Rattle.graph.proofs.Turns.{next_once, next_fresh, next_is}
use Rattle.graph.proofs.makers.claim_free.Goals as goal

pub free-requires : goal.free-requires
free-requires c =
    let outputs = c.args.outputs.now in
    let done = c.loop-done.done in
    let count = length c.args.makers.now in
    subst (λ (n : ℕ). (k d : ℕ) → k < length (take done outputs) → get_or (take done outputs) k d < n) (sym {A = ℕ} c.loop-done.invariant.fits)
    (all_index count (take done outputs) (all_take (λ p. p < count) done outputs (index_all count outputs c.requires)))

pub returns-then-is_some-clause-fits : goal.returns-then-is_some-clause-fits
returns-then-is_some-clause-fits c = c.free.ensures.fits ∙ c.loop-done.invariant.fits

pub returns-then-is_some-clause-claimed : goal.returns-then-is_some-clause-claimed
returns-then-is_some-clause-claimed c = λ is. absurd (false≢true is)

pub returns-then-is_some-clause-kept : goal.returns-then-is_some-clause-kept
returns-then-is_some-clause-kept c = λ no.
    let so_far = c.loop-done.invariant in
    let claimed : HaveClaimed c.args.makers.now c.loop-done.makers (take c.loop-done.done c.args.outputs.now) c.args.edge = record { once = so_far.once; fresh = so_far.fresh; is = so_far.is } in
    freed_back (take c.loop-done.done c.args.outputs.now) c.args.makers.now c.loop-done.makers c.free.new.makers so_far.fits
    (gained_claimed c.args.makers.now c.loop-done.makers (take c.loop-done.done c.args.outputs.now) c.args.edge so_far.fits claimed) c.free.ensures

pub loop-done-preserved : goal.loop-done-preserved
loop-done-preserved c =
    let place = c.loop-done.done in
    let outputs = c.args.outputs.now in
    let makers = c.loop-done.makers in
    let path = c.index-outputs-done.result in
    let low : get_or outputs place 0 < length c.args.makers.now = c.requires place 0 c.loop-done-test.true in
    let at : c.index.result ≡ get_or outputs place 0 = c.index.ensures.place ∙ (c.index-outputs-done.is ∙ get_or_default outputs place path 0 c.loop-done-test.true) in
    let within : c.index.result < length makers = omega (arith, low, at, c.loop-done.invariant.fits) in
    let none : is_some (maker_in makers path) ≡ false =
    sym (c.if-is_some.ensures ∙ ap is_some (get_or_default makers c.index.result c.index-makers-index.result None within ∙ ap (maker_in makers) c.index.ensures.place)) in
    let free : maker_in makers path ≡ None = none_of (maker_in makers path) none in
    let inside : path < length makers = subst (λ (n : ℕ). n < length makers) c.index.ensures.place within in
    let before = c.loop-done.invariant in
    record {
      fits = length-set makers c.index-in-loop-done.result (Some c.args.edge) ∙ before.fits;
      once = next_once c.args.makers.now makers outputs place path c.args.edge c.loop-done-test.true c.index-outputs-done.is before.once before.fresh before.is free;
      fresh = next_fresh c.args.makers.now makers outputs place path c.args.edge c.loop-done-test.true c.index-outputs-done.is before.once before.fresh before.is free;
      is = subst (λ (n : ℕ). (q : ℕ) → maker_in (set makers n (Some c.args.edge)) q ≡ cond (has_number (take (place + 1) outputs) q) (Some c.args.edge) (maker_in c.args.makers.now q)) (sym {A = ℕ} c.index-in-loop-done.ensures.place)
          (next_is c.args.makers.now makers outputs place path c.args.edge c.loop-done-test.true c.index-outputs-done.is before.once before.fresh before.is free inside);
    }

pub returns-clause-claimed : goal.returns-clause-claimed
returns-clause-claimed c = λ yes.
    let whole = take_all c.loop-done.done c.args.outputs.now c.loop-done-test.false in
    let all = c.loop-done.invariant in
    record {
      once = subst (λ (l : List ℕ). StandOnce l) whole all.once;
      fresh = subst (λ (l : List ℕ). (p : ℕ) → has_number l p ≡ true → maker_in c.args.makers.now p ≡ None) whole all.fresh;
      is = subst (λ (l : List ℕ). (p : ℕ) → maker_in c.loop-done.makers p ≡ cond (has_number l p) (Some c.args.edge) (maker_in c.args.makers.now p)) whole all.is;
    }

pub returns-clause-kept : goal.returns-clause-kept
returns-clause-kept c = λ no. absurd (true≢false no)
