use Rattle.std.proofs.Common.{ap, sym, ◌∙◌, ◌+◌, drop}
use Rattle.audit.specs.Seen.{Sums, sums_in, with_untouched}
use Rattle.audit.proofs.Summed.{touched_next}
use Rattle.audit.proofs.seen.Uses.add_untouched.Goals as goal

pub loop-place-preserved : goal.loop-place-preserved
loop-place-preserved c =
    let place = c.loop-place.place in
    c.loop-place.invariant
    ∙ (touched_next (sums_in c.loop-place.self) c.args.paths.now place c.in-Some.path.now (sym c.in-Some.ensures)
    ∙ ap (λ (sums : Sums). with_untouched sums (drop (place + 1) c.args.paths.now)) (sym c.in_ok-touch.ensures))
