use Rattle.std.proofs.Common.{◌≡◌, ◌∙◌, ℕ, List, Option, Some, slice_get, length, sym, ap, subst, take, arith}
use Rattle.std.specs.Prelude.{All}
use Rattle.graph.specs.declared.back.LoadedEdge.{LoadedEdge}
use Rattle.graph.specs.declared.choice.Choice.{Choice}
use Rattle.graph.specs.declared.loaded.Gain.{Gain}
use Rattle.graph.specs.Chosen.{IsWithin}
use Rattle.graph.specs.Fronts.{AreCut, recorded_times}
use Rattle.graph.specs.Gains.{gained_times, gained_outputs, AreFreed}
use Rattle.graph.specs.InTurn.{AreInputsBelow, AreOutputsBelow}
use Rattle.graph.specs.LoadedEdges.{numbers_in}
use Rattle.graph.proofs.Losing.{slice_whole}
use Rattle.graph.proofs.Same.{GraphParts, graph_parts, graph_holds_for, same_graph}
use Rattle.graph.proofs.TakingBack.{still_before, edge_within, recorded_back, inputs_within, outputs_within, users_back, makers_back}
use Rattle.graph.proofs.graph.Graph.take_back.Goals as goal

pub unuse_recorded-requires-clause-edges : goal.unuse_recorded-requires-clause-edges
unuse_recorded-requires-clause-edges c k l at =
    let may = c.requires.1.1 in
    edge_within c.requires.0 c.requires.1.0 c.args.self.now c.args.before may k l (subst (λ (x : List LoadedEdge). slice_get x k ≡ Some l) c.deref.ensures.value at)

pub unuse_recorded-requires-clause-within : goal.unuse_recorded-requires-clause-within
unuse_recorded-requires-clause-within c e p has =
    let low = c.args.self.now.recording.within e p has in
    let fits = c.args.self.now.using.fits in
    omega (arith, low, fits)

pub unuse_gains-requires-clause-inputs : goal.unuse_gains-requires-clause-inputs
unuse_gains-requires-clause-inputs c =
    subst (λ (l : List Gain). AreInputsBelow (length c.unuse_recorded.new.users) l) (sym {A = List Gain} c.deref-3.ensures.value)
    (inputs_within c.requires.0 c.requires.1.0 c.args.self.now c.args.before c.requires.1.1 c.unuse_recorded.new.users c.unuse_recorded.ensures.fits)

pub unuse_gains-requires-clause-within : goal.unuse_gains-requires-clause-within
unuse_gains-requires-clause-within c =
    let count = length c.requires.0.manifest.lines in (
      count,
      subst (λ (l : List Gain). All (IsWithin count (length l)) c.deref-2.result.now) (sym {A = List Gain} c.deref-3.ensures.value)
          (subst (λ (l : List Choice). All (IsWithin count (length c.args.before.gains.items)) l) (sym {A = List Choice} c.deref-2.ensures.value) c.requires.1.1.undoes.manifest.lines.within),
    )

pub free_gains-requires-clause-outputs : goal.free_gains-requires-clause-outputs
free_gains-requires-clause-outputs c =
    subst (λ (l : List Gain). AreOutputsBelow (length c.deref_mut.result.now) l) (sym {A = List Gain} c.deref-5.ensures.value)
    (outputs_within c.requires.0 c.requires.1.0 c.args.self.now c.args.before c.requires.1.1 c.deref_mut.result.now (c.deref_mut.ensures.value ∙ (c.into_vec-makers.ensures ∙ c.replace.ensures.value)))

pub free_gains-requires-clause-within : goal.free_gains-requires-clause-within
free_gains-requires-clause-within c =
    let count = length c.requires.0.manifest.lines in (
      count,
      subst (λ (l : List Gain). All (IsWithin count (length l)) c.deref-4.result.now) (sym {A = List Gain} c.deref-5.ensures.value)
          (subst (λ (l : List Choice). All (IsWithin count (length c.args.before.gains.items)) l) (sym {A = List Choice} c.deref-4.ensures.value) c.requires.1.1.undoes.manifest.lines.within),
    )

pub forget-requires : goal.forget-requires
forget-requires c k l at =
    let may = c.requires.1.1 in
    edge_within c.requires.0 c.requires.1.0 c.args.self.now c.args.before may k l (subst (λ (x : List LoadedEdge). slice_get x k ≡ Some l) c.deref-6.ensures.value at)

pub restore-requires : goal.restore-requires
restore-requires c =
    let old = c.requires.0 in
    let may = c.requires.1.1 in (
      old.manifest,
      still_before old c.requires.1.0 c.args.self.now c.args.before.gains.items c.args.before.chosen.items c.args.before.edges.items c.args.before.file c.args.before.paths may.undoes.manifest may.gained,
    )

pub invariant_of-self : goal.invariant_of-self
invariant_of-self c =
    let old = c.requires.0 in
    let loaded = c.requires.1.0 in
    let may = c.requires.1.1 in
    let before = c.args.before in
    let manifest = c.restore.ensures old.manifest (still_before old loaded c.args.self.now before.gains.items before.chosen.items before.edges.items before.file before.paths may.undoes.manifest may.gained) in
    let recorded = recorded_back old loaded c.args.self.now before may c.deref-6.result.now c.deref-6.ensures.value c.forget.new.self c.forget.ensures.fits c.forget.ensures.gone c.forget.ensures.others in
    let one : AreCut (recorded_times c.args.self.now.recorded (numbers_in before.edges.items)) c.args.self.now.users c.unuse_recorded.new.users =
    subst (λ (l : List LoadedEdge). AreCut (recorded_times c.args.self.now.recorded (numbers_in l)) c.args.self.now.users c.unuse_recorded.new.users) c.deref.ensures.value c.unuse_recorded.ensures in
    let two : AreCut (gained_times before.gains.items before.chosen.items) c.unuse_recorded.new.users c.unuse_gains.new.users =
    subst (λ (l : List Gain). AreCut (gained_times l before.chosen.items) c.unuse_recorded.new.users c.unuse_gains.new.users) c.deref-3.ensures.value
    (subst (λ (l : List Choice). AreCut (gained_times c.deref-3.result.now l) c.unuse_recorded.new.users c.unuse_gains.new.users) c.deref-2.ensures.value c.unuse_gains.ensures) in
    let users : c.truncate.new.self ≡ old.users = users_back old loaded c.args.self.now before may c.unuse_recorded.new.users c.unuse_gains.new.users c.truncate.new.self one two c.truncate.ensures in
    let vec = c.into_vec-makers.result in
    let first : c.deref_mut.result.now ≡ c.args.self.now.makers = c.deref_mut.ensures.value ∙ (c.into_vec-makers.ensures ∙ c.replace.ensures.value) in
    let freed : AreFreed (gained_outputs before.gains.items before.chosen.items) c.args.self.now.makers c.free_gains.new.makers =
    subst (λ (l : List (Option ℕ)). AreFreed (gained_outputs before.gains.items before.chosen.items) l c.free_gains.new.makers) first
    (subst (λ (l : List Gain). AreFreed (gained_outputs l before.chosen.items) c.deref_mut.result.now c.free_gains.new.makers) c.deref-5.ensures.value
    (subst (λ (l : List Choice). AreFreed (gained_outputs c.deref-5.result.now l) c.deref_mut.result.now c.free_gains.new.makers) c.deref-4.ensures.value c.free_gains.ensures)) in
    let size : length c.free_gains.new.makers ≡ length vec.items = c.free_gains.ensures.fits ∙ ap (λ (l : List (Option ℕ)). length l) c.deref_mut.ensures.value in
    let makers : c.from_vec.result ≡ old.makers =
    makers_back old loaded c.args.self.now before may c.free_gains.new.makers c.from_vec.result freed (c.from_vec.ensures ∙ (c.truncate-2.ensures.items ∙ ap (take before.makers) (slice_whole vec.len vec.items c.free_gains.new.makers vec.ok.0 size))) in
    let now : GraphParts = record { manifest = c.restore.new.manifest; makers = c.from_vec.result; recorded = c.forget.new.self; users = c.truncate.new.self } in
    let same : now ≡ graph_parts old = λ i. record { manifest = manifest i; makers = makers i; recorded = recorded i; users = users i } in
    let holds = graph_holds_for old now same in
    record { apart = holds.apart; making = holds.making; dyndeps = holds.dyndeps; recording = holds.recording; using = holds.using }

pub returns : goal.returns
returns c old loaded may =
    let before = c.args.before in
    let one : AreCut (recorded_times c.args.self.now.recorded (numbers_in before.edges.items)) c.args.self.now.users c.unuse_recorded.new.users =
    subst (λ (l : List LoadedEdge). AreCut (recorded_times c.args.self.now.recorded (numbers_in l)) c.args.self.now.users c.unuse_recorded.new.users) c.deref.ensures.value c.unuse_recorded.ensures in
    let two : AreCut (gained_times before.gains.items before.chosen.items) c.unuse_recorded.new.users c.unuse_gains.new.users =
    subst (λ (l : List Gain). AreCut (gained_times l before.chosen.items) c.unuse_recorded.new.users c.unuse_gains.new.users) c.deref-3.ensures.value
    (subst (λ (l : List Choice). AreCut (gained_times c.deref-3.result.now l) c.unuse_recorded.new.users c.unuse_gains.new.users) c.deref-2.ensures.value c.unuse_gains.ensures) in
    let vec = c.into_vec-makers.result in
    let first : c.deref_mut.result.now ≡ c.args.self.now.makers = c.deref_mut.ensures.value ∙ (c.into_vec-makers.ensures ∙ c.replace.ensures.value) in
    let freed : AreFreed (gained_outputs before.gains.items before.chosen.items) c.args.self.now.makers c.free_gains.new.makers =
    subst (λ (l : List (Option ℕ)). AreFreed (gained_outputs before.gains.items before.chosen.items) l c.free_gains.new.makers) first
    (subst (λ (l : List Gain). AreFreed (gained_outputs l before.chosen.items) c.deref_mut.result.now c.free_gains.new.makers) c.deref-5.ensures.value
    (subst (λ (l : List Choice). AreFreed (gained_outputs c.deref-5.result.now l) c.deref_mut.result.now c.free_gains.new.makers) c.deref-4.ensures.value c.free_gains.ensures)) in
    let size : length c.free_gains.new.makers ≡ length vec.items = c.free_gains.ensures.fits ∙ ap (λ (l : List (Option ℕ)). length l) c.deref_mut.ensures.value in
    same_graph _ old record {
      manifest = c.restore.ensures old.manifest (still_before old loaded c.args.self.now before.gains.items before.chosen.items before.edges.items before.file before.paths may.undoes.manifest may.gained);
      makers = makers_back old loaded c.args.self.now before may c.free_gains.new.makers c.from_vec.result freed (c.from_vec.ensures ∙ (c.truncate-2.ensures.items ∙ ap (take before.makers) (slice_whole vec.len vec.items c.free_gains.new.makers vec.ok.0 size)));
      recorded = recorded_back old loaded c.args.self.now before may c.deref-6.result.now c.deref-6.ensures.value c.forget.new.self c.forget.ensures.fits c.forget.ensures.gone c.forget.ensures.others;
      users = users_back old loaded c.args.self.now before may c.unuse_recorded.new.users c.unuse_gains.new.users c.truncate.new.self one two c.truncate.ensures;
    }
