use Rattle.std.proofs.Common.{◌≡◌, ◌<◌, not, ℕ, ◌+◌, List, Bool, false, length, slice_index, slice_index_or, sym, ◌∙◌, ap, subst, arith}
use Rattle.plan.specs.Flags.{has}
use Rattle.judge.specs.declared.looks.Look.{Look}
use Rattle.judge.specs.declared.looks.Look.TheVariants.{Unasked}
use Rattle.judge.specs.Seen.{look_at}
use Rattle.work.specs.Restat.{is_same_look}
use Rattle.work.proofs.Comparing.{place_is, one_more}
use Rattle.work.proofs.outputs.flags_of.Goals as goal

pub loop-place-preserved : goal.loop-place-preserved
loop-place-preserved c =
    let seen = c.args.looks.now.seen.items in
    let before = c.args.before.now in
    let paths = c.args.paths.now in
    let place = c.loop-place.place in
    let differs = λ (k : ℕ). not (is_same_look (slice_index_or before k Unasked) (look_at seen (slice_index paths k))) in
    subst (λ (l : List Bool). (length l ≡ place + 1) × ((k : ℕ) → k < place + 1 → has l k ≡ differs k)) (sym {A = List Bool} c.in_ok-push.ensures.items)
    (one_more false differs c.loop-place.flags.items place (not c.is_same_look.result) c.loop-place.invariant.0 c.loop-place.invariant.1
    (ap not (c.is_same_look.ensures ∙ ap (λ (a : Look). is_same_look (slice_index_or before place Unasked) a) (c.look.ensures ∙ ap (look_at seen) (place_is paths place c.index-paths-place.result c.index-paths-place.is c.loop-place-test.true)))))

pub returns : goal.returns
returns c = (
  omega (arith, c.loop-place.invariant.0, c.loop-place-test.false, c.loop-place.auto.place-end),
  λ k lt. c.loop-place.invariant.1 k (omega (arith, lt, c.loop-place-test.false)),
)
