use Rattle.std.proofs.Common.{◌≡◌, ◌∙◌, ℕ, List, Option, [], length, sym, subst, ap}
use Rattle.std.proofs.Math.ListN.{replicate}
use Rattle.graph.specs.Held.{AreMakers, AreUsers}
use Rattle.graph.proofs.Ends.{nothing_recorded}
use Rattle.graph.proofs.build.graph_with.Goals as goal

pub invariant_of-result : goal.invariant_of-result
invariant_of-result c =
    let manifest = c.args.manifest in
    let none : c.in_ok-recorded.recorded ≡ replicate (length manifest.lines) [] = c.in_ok-recorded.ensures ∙ ap (λ (n : ℕ). replicate n []) c.len.ensures in
    record {
      apart = c.in_ok-counts.ensures.apart;
      making = subst (AreMakers manifest) (sym {A = List (Option ℕ)} c.from_vec.ensures) c.requires.makers;
      dyndeps = c.requires.dyndeps;
      recording = nothing_recorded manifest c.len.result c.in_ok-recorded.recorded c.len.ensures c.in_ok-recorded.ensures;
      using = subst (λ (l : List (List ℕ)). AreUsers manifest l c.in_ok-users.users) (sym {A = List (List ℕ)} none) c.in_ok-users.ensures;
    }
