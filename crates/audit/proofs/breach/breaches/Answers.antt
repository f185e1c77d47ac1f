use Rattle.std.proofs.Common.{◌∙◌, ◌++◌, ap, sym, List, arith}
use Rattle.audit.specs.declared.finding.Finding.{Finding}
use Rattle.audit.specs.declared.place.Place.{Place}
use Rattle.audit.specs.Breaches.{all_at, breaches}
use Rattle.audit.specs.Findings.{findings}
use Rattle.audit.specs.Seen.{sums_in}
use Rattle.audit.proofs.Breaking.{found_next, past_arounds, past_paths, past_some_arounds, past_uses}
use Rattle.audit.proofs.breach.breaches.Goals as goal

pub returns-in_default : goal.returns-in_default
returns-in_default c =
    let sums = sums_in c.args.uses.now in
    past_paths (breaches c.args.lists.now c.args.arounds.now sums) c.loop-place.found c.args.lists.now c.loop-place.place sums.paths c.args.arounds.now sums.uses (sym c.in_default.ensures) c.loop-place.invariant

pub returns-in_default-used : goal.returns-in_default-used
returns-in_default-used c =
    let sums = sums_in c.args.uses.now in
    past_uses (breaches c.args.lists.now c.args.arounds.now sums) c.loop-place.found c.args.lists.now c.loop-place.place sums.paths c.args.arounds.now sums.uses (sym c.in_default-used.ensures) c.loop-place.invariant

pub returns-in_default-around_at : goal.returns-in_default-around_at
returns-in_default-around_at c =
    let sums = sums_in c.args.uses.now in
    past_some_arounds (breaches c.args.lists.now c.args.arounds.now sums) c.loop-place.found c.args.lists.now c.loop-place.place sums.paths c.args.arounds.now sums.uses (sym c.in_default-around_at.ensures) c.loop-place.invariant

pub loop-place-preserved : goal.loop-place-preserved
loop-place-preserved c =
    let sums = sums_in c.args.uses.now in
    let place = c.loop-place.place in
    found_next (breaches c.args.lists.now c.args.arounds.now sums) c.loop-place.found c.push_all.new.found c.args.lists.now place sums.paths c.args.arounds.now sums.uses
    c.in-Some.path.now c.in-Some-around_at.around c.in-Some-used.used
    (sym c.in-Some-around_at.ensures) (sym c.in-Some.ensures) (sym c.in-Some-used.ensures)
    (c.in_ok-push_all.ensures ∙ ap (λ (found : List Finding). c.loop-place.found ++ all_at place found) (c.as_slice.ensures ∙ (c.in_ok-at.ensures ∙ ap (λ (there : Place). findings there c.in-Some-used.used) c.place_of-place_there.ensures)))
    c.loop-place.invariant

pub returns : goal.returns
returns c =
    let sums = sums_in c.args.uses.now in
    past_arounds (breaches c.args.lists.now c.args.arounds.now sums) c.loop-place.found c.args.lists.now c.loop-place.place sums.paths c.args.arounds.now sums.uses (omega (arith, c.loop-place-test.false)) c.loop-place.invariant
