use Rattle.std.proofs.Common.{◌≡◌, ◌∙◌, ◌<◌, ℕ, List, [], ap, sym, subst, arith, length, get_or, take, nat_eq}
use Rattle.std.proofs.Math.ListN.{set}
use Rattle.std.proofs.lemmas.List.{get_or-set_same, get_or-set_other}
use Rattle.indexmap.specs.IndexSet.{insert_all}
use Rattle.model.specs.Graph.{has_number}
use Rattle.graph.specs.Held.{list_at, StandOnce}
use Rattle.graph.proofs.Joins.{gained_once, gained_within, gained_held, gained_longer, gained_has}
use Rattle.graph.proofs.Parts.{all_index, index_all, on_ok_both}
use Rattle.graph.proofs.graph.Graph.gain.Goals as goal

pub record-requires-clause-inputs : goal.record-requires-clause-inputs
record-requires-clause-inputs c =
    let graph = c.args.self.now in
    let first = c.in_ok-add_all.ensures ∙ ap (insert_all nat_eq c.args.all.now) c.at.ensures in
    subst (λ (l : List ℕ). (k d : ℕ) → k < length l → get_or l k d < length graph.manifest.paths) (sym {A = List ℕ} c.as_slice.ensures.paths)
    (all_index (length graph.manifest.paths) c.add_all-2.new.all
    (gained_within graph c.args.edge c.args.all.now c.add_all.new.all c.add_all-2.new.all c.args.inputs.now c.requires.empty first c.in_ok-add_all-2.ensures (index_all (length graph.manifest.paths) c.args.inputs.now c.requires.inputs)))

pub record-requires-clause-once : goal.record-requires-clause-once
record-requires-clause-once c =
    let graph = c.args.self.now in
    let first = c.in_ok-add_all.ensures ∙ ap (insert_all nat_eq c.args.all.now) c.at.ensures in
    subst StandOnce (sym {A = List ℕ} c.as_slice.ensures.paths)
    (gained_once graph c.args.edge c.args.all.now c.add_all.new.all c.add_all-2.new.all c.args.inputs.now c.requires.empty first c.in_ok-add_all-2.ensures)

pub record-requires-clause-held : goal.record-requires-clause-held
record-requires-clause-held c =
    let graph = c.args.self.now in
    let first = c.in_ok-add_all.ensures ∙ ap (insert_all nat_eq c.args.all.now) c.at.ensures in
    ap (take c.len-held.result) c.as_slice.ensures.paths
    ∙ gained_held graph c.args.edge c.args.all.now c.add_all.new.all c.add_all-2.new.all c.args.inputs.now c.requires.empty first c.in_ok-add_all-2.ensures c.len-held.result c.len-held.ensures

pub record-requires-clause-within : goal.record-requires-clause-within
record-requires-clause-within c =
    let graph = c.args.self.now in
    let first = c.in_ok-add_all.ensures ∙ ap (insert_all nat_eq c.args.all.now) c.at.ensures in
    let long = gained_longer graph c.args.edge c.args.all.now c.add_all.new.all c.add_all-2.new.all c.args.inputs.now c.requires.empty first c.in_ok-add_all-2.ensures c.len-held.result c.len-held.ensures in
    let size : length c.as_slice.result.now ≡ length c.add_all-2.new.all = ap length c.as_slice.ensures.paths in
    omega (arith, long, size)

pub returns-clause-gained : goal.returns-clause-gained
returns-clause-gained c =
    let graph = c.args.self.now in
    let keys = c.add_all-2.new.all in
    let first = c.in_ok-add_all.ensures ∙ ap (insert_all nat_eq c.args.all.now) c.at.ensures in
    on_ok_both c.record.result c.record.ensures.recorded c.record.ensures.users (λ recorded fronts.
    let is : c.record.new.self.recorded ≡ set graph.recorded c.args.edge keys = recorded ∙ ap (set graph.recorded c.args.edge) c.as_slice.ensures.paths in
    let here : list_at c.record.new.self.recorded c.args.edge ≡ keys = ap (λ (l : List (List ℕ)). list_at l c.args.edge) is ∙ get_or-set_same graph.recorded c.args.edge keys [] (omega (arith, c.requires.edge, graph.recording.fits)) in
    record {
      manifest = c.record.ensures.manifest;
      makers = c.record.ensures.makers;
      gained = λ p. ap (λ (l : List ℕ). has_number l p) here ∙ gained_has graph c.args.edge c.args.all.now c.add_all.new.all keys c.args.inputs.now c.requires.empty first c.in_ok-add_all-2.ensures p;
      once = subst StandOnce (sym {A = List ℕ} here) (gained_once graph c.args.edge c.args.all.now c.add_all.new.all keys c.args.inputs.now c.requires.empty first c.in_ok-add_all-2.ensures);
      others = λ e other. ap (λ (l : List (List ℕ)). list_at l e) is ∙ get_or-set_other graph.recorded c.args.edge e keys [] other;
      users = fronts;
    })
