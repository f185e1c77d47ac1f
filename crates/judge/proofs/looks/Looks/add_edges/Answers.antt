use Rattle.std.proofs.Common.{◌<◌, ◌∙◌, ℕ, false, List, length, sym, ap, subst, arith, refl}
use Rattle.std.specs.List.{flat_map}
use Rattle.std.proofs.lemmas.List.{take_all}
use Rattle.theory.proofs.SiteCalls.{unrefused_none, unrefused_call, unrefused_then}
use Rattle.judge.proofs.LooksStay.{looked_none}
use Rattle.graph.specs.Links.{links_of}
use Rattle.judge.specs.Facts.{HasTaken}
use Rattle.judge.proofs.Reasons.{at_has, within_by}
use Rattle.judge.proofs.Summing.{taken_none, taken_edge}
use Rattle.judge.proofs.looks.Looks.add_edges.Goals as goal

pub loop-edge-init : goal.loop-edge-init
loop-edge-init g c = record {
  sums = refl;
  looked = looked_none g.S.Texts.tells c.args.graph.now (g.S.Texts.world c.args.site.now) c.args.self.now;
  unrefused = unrefused_none (g.S.Texts.world c.args.site.now) c.requires.running;
  taken = taken_none c.args.graph.now c.args.changed.now false c.args.self.now.seen.items c.args.inputs.now;
}

pub regular_inputs-paths-requires : goal.regular_inputs-paths-requires
regular_inputs-paths-requires g c =
    subst (λ (e : ℕ). e < length c.args.graph.now.manifest.lines) (sym {A = ℕ} c.edge-item.is)
    (c.requires.within _ (at_has c.args.edges.now c.loop-edge.edge-index c.edge-item.result c.loop-edge-test.true))

pub add_paths-requires-clause-within : goal.add_paths-requires-clause-within
add_paths-requires-clause-within g c =
    let graph = c.args.graph.now in
    within_by (length graph.manifest.paths) ((links_of graph).regular c.edge-item.result) c.regular_inputs-paths.result.now c.regular_inputs-paths.ensures (c.lists_stand.ensures.regular_within c.edge-item.result)

pub returns-in_err-add_paths-clause-looked : goal.returns-in_err-add_paths-clause-looked
returns-in_err-add_paths-clause-looked g c =
    (c.looks_follow.ensures.follow g.S.Texts.tells (g.S.Texts.world c.args.site.now) (g.S.Texts.world c.loop-edge.site) (g.S.Texts.world c.add_paths.new.site)).looked c.args.graph.now c.args.self.now c.loop-edge.self c.add_paths.new.self
    c.loop-edge.invariant.looked c.add_paths.ensures.looked

pub loop-edge-preserved : goal.loop-edge-preserved
loop-edge-preserved g c =
    let tells = g.S.Texts.tells in
    let graph = c.args.graph.now in
    let flags = c.args.changed.now in
    let a = g.S.Texts.world c.args.site.now in
    let b = g.S.Texts.world c.loop-edge.site in
    let d = g.S.Texts.world c.add_paths.new.site in
    let seen = c.loop-edge.self.seen.items in
    let new = c.add_paths.new.self.seen.items in
    record {
      sums = c.add_paths.ensures.sums ∙ c.loop-edge.invariant.sums;
      looked = (c.looks_follow.ensures.follow tells a b d).looked graph c.args.self.now c.loop-edge.self c.add_paths.new.self c.loop-edge.invariant.looked c.add_paths.ensures.looked;
      unrefused = unrefused_then a b d c.loop-edge.invariant.unrefused (unrefused_call b d _ c.in_ok-add_paths.ensures.cause);
      taken = taken_edge graph flags false (links_of graph).regular seen new c.add_paths.ensures.looked.stays c.args.edges.now c.loop-edge.edge-index c.edge-item.result c.loop-edge-test.true c.args.inputs.now c.loop-edge.inputs c.add_paths.new.inputs
          c.loop-edge.invariant.taken
          (subst (λ (l : List ℕ). HasTaken graph flags false new l c.loop-edge.inputs c.add_paths.new.inputs) (c.regular_inputs-paths.ensures ∙ ap (links_of graph).regular c.edge-item.is) c.in_ok-add_paths.ensures.taken);
    }

pub returns-clause-taken : goal.returns-clause-taken
returns-clause-taken g c =
    subst (λ (l : List ℕ). HasTaken c.args.graph.now c.args.changed.now false c.loop-edge.self.seen.items (flat_map (links_of c.args.graph.now).regular l) c.args.inputs.now c.loop-edge.inputs)
    (take_all c.loop-edge.edge-index c.args.edges.now (omega arith)) c.loop-edge.invariant.taken

pub returns-in_err-add_paths-clause-sums : goal.returns-in_err-add_paths-clause-sums
returns-in_err-add_paths-clause-sums g c = c.add_paths.ensures.sums ∙ c.loop-edge.invariant.sums
