use Rattle.std.proofs.Common.{◌≡◌, ◌∙◌, ◌<◌, ◌-◌, ◌++◌, ℕ, List, ap, sym, subst, arith, length, get_or, take, drop}
use Rattle.std.proofs.lemmas.List.{take-append-drop, take_all, length-drop}
use Rattle.graph.specs.Fronts.{FrontsStay}
use Rattle.graph.specs.Held.{list_at}
use Rattle.graph.proofs.Ends.{ok_of, on_ok, no_ok}
use Rattle.graph.proofs.Fronts.{pushed_front}
use Rattle.graph.proofs.Joins.{joined_recorded, joined_users, fresh_within}
use Rattle.graph.proofs.Lists.{length-pushed}
use Rattle.graph.proofs.Parts.{all_index, index_all}
use Rattle.graph.proofs.graph.Graph.record.Goals as goal

pub pop_all-requires : goal.pop_all-requires
pop_all-requires c =
    let graph = c.args.self.now in
    let inputs = c.args.inputs.now in
    let fresh = take (length inputs - c.args.held) (drop c.args.held inputs) in
    let size = length-drop c.args.held inputs in
    let rest : fresh ≡ drop c.args.held inputs = take_all (length inputs - c.args.held) (drop c.args.held inputs) (omega (arith, size)) in
    let split : inputs ≡ list_at graph.recorded c.args.edge ++ fresh =
    sym (take-append-drop c.args.held inputs) ∙ (ap (λ (l : List ℕ). l ++ drop c.args.held inputs) c.requires.held ∙ ap (λ (l : List ℕ). list_at graph.recorded c.args.edge ++ l) (sym rest)) in
    let long : length c.push_all.new.self ≡ length graph.users = ap length c.in_ok-push_all.ensures.ok ∙ length-pushed graph.users fresh c.args.edge in
    subst (λ (n : ℕ). (k d : ℕ) → k < length fresh → get_or fresh k d < n) (sym {A = ℕ} long)
    (all_index (length graph.users) fresh (fresh_within graph c.args.edge c.requires.edge inputs fresh (index_all (length graph.manifest.paths) inputs c.requires.inputs) c.requires.once split))

pub invariant_of-self-else-is_err : goal.invariant_of-self-else-is_err
invariant_of-self-else-is_err c =
    let graph = c.args.self.now in
    let inputs = c.args.inputs.now in
    let fresh = take (length inputs - c.args.held) (drop c.args.held inputs) in
    let size = length-drop c.args.held inputs in
    let rest : fresh ≡ drop c.args.held inputs = take_all (length inputs - c.args.held) (drop c.args.held inputs) (omega (arith, size)) in
    let split : inputs ≡ list_at graph.recorded c.args.edge ++ fresh =
    sym (take-append-drop c.args.held inputs) ∙ (ap (λ (l : List ℕ). l ++ drop c.args.held inputs) c.requires.held ∙ ap (λ (l : List ℕ). list_at graph.recorded c.args.edge ++ l) (sym rest)) in
    let within = index_all (length graph.manifest.paths) inputs c.requires.inputs in
    let recorded = ok_of c.set-recorded.result (sym c.if-is_err.ensures.value) c.set-recorded.ensures.ok in
    record {
      apart = graph.apart;
      making = graph.making;
      dyndeps = graph.dyndeps;
      recording = joined_recorded graph c.args.edge c.requires.edge inputs fresh within c.requires.once split c.set-recorded.new.self recorded;
      using = joined_users graph c.args.edge c.requires.edge inputs fresh within c.requires.once split c.set-recorded.new.self c.push_all.new.self recorded c.in_ok-push_all.ensures.ok;
    }

pub returns-else-is_err-clause-users : goal.returns-else-is_err-clause-users
returns-else-is_err-clause-users c =
    let graph = c.args.self.now in
    let inputs = c.args.inputs.now in
    let fresh = take (length inputs - c.args.held) (drop c.args.held inputs) in
    let size = length-drop c.args.held inputs in
    let rest : fresh ≡ drop c.args.held inputs = take_all (length inputs - c.args.held) (drop c.args.held inputs) (omega (arith, size)) in
    let split : inputs ≡ list_at graph.recorded c.args.edge ++ fresh =
    sym (take-append-drop c.args.held inputs) ∙ (ap (λ (l : List ℕ). l ++ drop c.args.held inputs) c.requires.held ∙ ap (λ (l : List ℕ). list_at graph.recorded c.args.edge ++ l) (sym rest)) in
    let within = fresh_within graph c.args.edge c.requires.edge inputs fresh (index_all (length graph.manifest.paths) inputs c.requires.inputs) c.requires.once split in
    on_ok c.set-recorded.result (subst (FrontsStay graph.users) (sym {A = List (List ℕ)} c.in_ok-push_all.ensures.ok) (pushed_front graph.users fresh c.args.edge within))

pub returns-then-is_err-clause-users : goal.returns-then-is_err-clause-users
returns-then-is_err-clause-users c = no_ok _ c.set-recorded.result (sym c.if-is_err.ensures.value)
