use Rattle.std.proofs.Common.{◌≡◌, ◌∙◌, ℕ, ◌<◌, List, length, ap, arith}
use Rattle.std.specs.Vec.{with_items}
use Rattle.std.proofs.lemmas.List.{with_items_is}
use Rattle.plan.specs.declared.step.Standing.TheVariants.{Unjudged, Alias}
use Rattle.plan.specs.Standing.{awaits}
use Rattle.plan.specs.Settling.{lowered, raised}
use Rattle.plan.proofs.Lowering.{command_lowered, alias_lowered, read_standing}
use Rattle.plan.proofs.plan.Plan.count_down.Goals as goal

pub invariant_of-self-clause-sets : goal.invariant_of-self-clause-sets
invariant_of-self-clause-sets c =
    let plan = c.args.self.now in
    let lt : c.args.user < length plan.standings.items = omega (arith, c.requires.within, plan.standings.ok.0) in
    let fits : length plan.left.items ≡ length plan.standings.items = omega (arith, plan.fits, plan.left.ok.0, plan.standings.ok.0) in
    let size : length c.lower.new.left ≡ plan.left.len = omega (arith, c.lower.auto.left, ap (λ (l : List ℕ). length l) c.deref_mut.ensures.value, plan.left.ok.0) in
    let stands = read_standing plan.standings.items c.args.user c.index.result.now Unjudged c.index.ensures c.in-Unjudged.is lt in
    command_lowered plan.standings.items plan.left.items c.args.user (omega (arith, lt, fits)) (c.requires.some (ap awaits stands)) (with_items plan.left c.lower.new.left).items plan.ready plan.pending c.lower.new.set
    stands (omega (arith, lt, plan.room, plan.standings.ok.0)) (with_items_is plan.left c.lower.new.left size ∙ (c.lower.ensures.left ∙ ap (λ (l : List ℕ). lowered l c.args.user) c.deref_mut.ensures.value))
    (c.lower.ensures.set ∙ ap (λ (l : List ℕ). raised plan.ready l c.args.user) c.deref_mut.ensures.value) plan.sets

pub invariant_of-self-in-Alias-clause-sets : goal.invariant_of-self-in-Alias-clause-sets
invariant_of-self-in-Alias-clause-sets c =
    let plan = c.args.self.now in
    let lt : c.args.user < length plan.standings.items = omega (arith, c.requires.within, plan.standings.ok.0) in
    let fits : length plan.left.items ≡ length plan.standings.items = omega (arith, plan.fits, plan.left.ok.0, plan.standings.ok.0) in
    let size : length c.lower-in-Alias.new.left ≡ plan.left.len = omega (arith, c.lower-in-Alias.auto.left, ap (λ (l : List ℕ). length l) c.deref_mut-in-Alias.ensures.value, plan.left.ok.0) in
    let stands = read_standing plan.standings.items c.args.user c.index.result.now Alias c.index.ensures c.in-Alias.is lt in
    alias_lowered plan.standings.items plan.left.items c.args.user (omega (arith, lt, fits)) (c.requires.some (ap awaits stands)) (with_items plan.left c.lower-in-Alias.new.left).items plan.ready plan.pending c.lower-in-Alias.new.set
    stands (omega (arith, lt, plan.rest, plan.standings.ok.0)) (with_items_is plan.left c.lower-in-Alias.new.left size ∙ (c.lower-in-Alias.ensures.left ∙ ap (λ (l : List ℕ). lowered l c.args.user) c.deref_mut-in-Alias.ensures.value))
    (c.lower-in-Alias.ensures.set ∙ ap (λ (l : List ℕ). raised plan.pending l c.args.user) c.deref_mut-in-Alias.ensures.value) plan.sets
