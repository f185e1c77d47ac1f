use Rattle.std.proofs.Common.{◌≡◌, ◌∙◌, ◌<◌, ℕ, List, ap, refl, arith, get_or, length, slice_get, Some, subst, sym}
use Rattle.std.proofs.Math.ListN.{set}
use Rattle.std.proofs.lemmas.List.{get_or_default, length-set}
use Rattle.paths.specs.declared.manifest.Action.{Action}
use Rattle.paths.specs.Commands.{no_action}
use Rattle.graph.specs.Statements.{action_at}
use Rattle.graph.specs.Back.{undone}
use Rattle.graph.proofs.Undoing.{item_at, unloaded_none, unloaded_next, unloaded_all}
use Rattle.graph.proofs.back.unload.Goals as goal

pub bounds-actions-index : goal.bounds-actions-index
bounds-actions-index c =
    let l = c.loaded-item.result in
    let at = item_at c.args.edges.now c.loop-loaded.loaded-index l c.loop-loaded-test.true c.loaded-item.is in
    let low = c.requires.1.within c.loop-loaded.loaded-index l at in
    omega (arith, low, c.loop-loaded.invariant.fits, c.index.ensures.place)

pub loop-loaded-init : goal.loop-loaded-init
loop-loaded-init c = record { fits = refl; state = λ before are. unloaded_none c.args.file c.args.edges.now c.args.actions.now before are }

pub loop-loaded-preserved : goal.loop-loaded-preserved
loop-loaded-preserved c =
    let l = c.loaded-item.result in
    let now = c.loop-loaded.actions in
    let action = c.unload_action.new.action in
    let k = c.loop-loaded.loaded-index in
    let at = item_at c.args.edges.now k l c.loop-loaded-test.true c.loaded-item.is in
    record {
      fits = length-set now c.index.result action ∙ c.loop-loaded.invariant.fits;
      state = λ before are.
          let low : c.index.result < length now = let within = are.within k l at in omega (arith, within, c.loop-loaded.invariant.fits, c.index.ensures.place) in
          let here : get_or now c.index.result c.index-actions-index.result ≡ action_at now l.edge = get_or_default now c.index.result c.index-actions-index.result no_action low ∙ ap (action_at now) c.index.ensures.place in
          unloaded_next c.args.file c.args.edges.now c.args.actions.now before are now _ k l action at (ap (λ (n : ℕ). set now n action) c.index.ensures.place)
          (c.unload_action.ensures ∙ ap (undone c.args.file l.restat) here) (c.loop-loaded.invariant.state before are);
    }

pub returns : goal.returns
returns c before are = unloaded_all c.args.file c.args.edges.now c.args.actions.now before are c.loop-loaded.actions c.loop-loaded.loaded-index c.loop-loaded-test.false (c.loop-loaded.invariant.state before are)
