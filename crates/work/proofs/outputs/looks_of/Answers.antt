use Rattle.std.proofs.Common.{◌≡◌, ◌<◌, ℕ, ◌+◌, List, length, slice_index, slice_index_or, sym, ◌∙◌, ap, subst, arith}
use Rattle.judge.specs.declared.looks.Look.{Look}
use Rattle.judge.specs.declared.looks.Look.TheVariants.{Unasked}
use Rattle.judge.specs.Seen.{look_at}
use Rattle.work.proofs.Comparing.{place_is, one_more}
use Rattle.work.proofs.outputs.looks_of.Goals as goal

pub loop-path-init : goal.loop-path-init
loop-path-init c = (ap length c.in_ok-seen.ensures.items, λ k lt. absurd (omega (arith, lt)))

pub loop-path-preserved : goal.loop-path-preserved
loop-path-preserved c =
    let seen = c.args.looks.now.seen.items in
    let paths = c.args.paths.now in
    let place = c.loop-path.path-index in
    subst (λ (l : List Look). (length l ≡ place + 1) × ((k : ℕ) → k < place + 1 → slice_index_or l k Unasked ≡ look_at seen (slice_index paths k))) (sym {A = List Look} c.in_ok-push.ensures.items)
    (one_more Unasked (λ (k : ℕ). look_at seen (slice_index paths k)) c.loop-path.seen.items place c.look.result c.loop-path.invariant.0 c.loop-path.invariant.1
    (c.look.ensures ∙ ap (look_at seen) (place_is paths place c.path-item.result c.path-item.is c.loop-path-test.true)))

pub returns : goal.returns
returns c = (
  omega (arith, c.loop-path.invariant.0, c.loop-path-test.false, c.loop-path.auto.path-index-end),
  λ k lt. c.loop-path.invariant.1 k (omega (arith, lt, c.loop-path-test.false)),
)
