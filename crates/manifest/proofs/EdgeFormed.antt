-- Edges of well-formed paths are well formed.
use Rattle.std.proofs.Common.{◌≡◌, ℕ, None, sym, subst, Bool, true, false, List, [], ◌∷◌, ◌++◌}
use Rattle.std.specs.Prelude.{filter, not, if◌then◌else◌}
use Rattle.std.specs.List.{AllByRecursion}
use Rattle.paths.specs.declared.line.Line.{Line}
use Rattle.paths.specs.declared.manifest.Action.{Action}
use Rattle.paths.specs.declared.manifest.Action.TheVariants.{Alias, Command}
use Rattle.paths.specs.Told.{edge_of, edges_of}
use Rattle.model.specs.Graph.{has}
use Rattle.manifest.specs.Spelled.{EdgePaths}
use Rattle.manifest.specs.Answer.{ArePathsOnly, IsWellFormed, IsPath}
use Rattle.manifest.specs.Edges.{outputs_of}
use Rattle.manifest.specs.Held.{ArePathsFormed, kept_of}
use Rattle.manifest.specs.InNumbers.{IsLonger, IsWithin, paths_at}
use Rattle.manifest.proofs.Added.{paths_stay}
use Rattle.manifest.proofs.PathForms.{only_append}
use Rattle.manifest.specs.States.{all_of}

part_all : {X : Type 0} (P : X → Type 0) (xs ys : List X) → AllByRecursion P (xs ++ ys) → AllByRecursion P xs × AllByRecursion P ys
part_all P [] ys all = (tt, all)
part_all P (x ∷ xs) ys all = let rest = part_all P xs ys all.1 in ((all.0, rest.0), rest.1)

filter_all : {X : Type 0} (P : X → Type 0) (test : X → Bool) (xs : List X) → AllByRecursion P xs → AllByRecursion P (filter test xs)
filter_all P test [] all = tt
filter_all {X} P test (x ∷ xs) all = by (test x) (filter_all P test xs all.1)
  where
    by : (b : Bool) → AllByRecursion P (filter test xs) → AllByRecursion P (if b then x ∷ filter test xs else filter test xs)
    by true rest = (all.0, rest)
    by false rest = rest

-- the paths of each kind
pub record ArePartsFormed (paths : EdgePaths) : Type 0 where
  pub explicit_outputs : ArePathsOnly paths.explicit_outputs
  pub implicit_outputs : ArePathsOnly paths.implicit_outputs
  pub explicit_inputs : ArePathsOnly paths.explicit_inputs
  pub implicit_inputs : ArePathsOnly paths.implicit_inputs
  pub order_only_inputs : ArePathsOnly paths.order_only_inputs
  pub validations : ArePathsOnly paths.validations

parts_of : (paths : EdgePaths) → ArePathsOnly (all_of paths) → ArePartsFormed paths
parts_of paths all =
    let p1 = part_all IsPath paths.explicit_outputs _ all in
    let p2 = part_all IsPath paths.implicit_outputs _ p1.1 in
    let p3 = part_all IsPath paths.explicit_inputs _ p2.1 in
    let p4 = part_all IsPath paths.implicit_inputs _ p3.1 in
    let p5 = part_all IsPath paths.order_only_inputs paths.validations p4.1 in
    record { explicit_outputs = p1.0; implicit_outputs = p2.0; explicit_inputs = p3.0; implicit_inputs = p4.0; order_only_inputs = p5.0; validations = p5.1 }

-- what a phony keeps
pub own_formed : (paths : EdgePaths) → ArePathsFormed paths → ArePathsFormed (kept_of None paths)
own_formed paths formed =
    let parts = parts_of paths formed.all in
    let keep = λ (path : List ℕ). not (has (outputs_of paths) path) in
    record {
      made = formed.made;
      all =
          only_append paths.explicit_outputs _ parts.explicit_outputs
          (only_append paths.implicit_outputs _ parts.implicit_outputs
          (only_append (filter keep paths.explicit_inputs) _ (filter_all IsPath keep paths.explicit_inputs parts.explicit_inputs)
          (only_append (filter keep paths.implicit_inputs) _ (filter_all IsPath keep paths.implicit_inputs parts.implicit_inputs)
          (only_append (filter keep paths.order_only_inputs) _ (filter_all IsPath keep paths.order_only_inputs parts.order_only_inputs) parts.validations))));
    }

-- an edge with these paths
pub formed_edge : (table : List (List ℕ)) (line : Line) (action : Action) → ArePathsFormed (paths_at table line) → IsWellFormed (edge_of table line action)
formed_edge table line Alias formed =
    let parts = parts_of (paths_at table line) formed.all in record {
      made = formed.made;
      explicit_outputs = parts.explicit_outputs;
      implicit_outputs = parts.implicit_outputs;
      explicit_inputs = parts.explicit_inputs;
      implicit_inputs = parts.implicit_inputs;
      order_only_inputs = parts.order_only_inputs;
      validations = parts.validations;
    }
formed_edge table line (Command command) formed =
    let parts = parts_of (paths_at table line) formed.all in record {
      made = formed.made;
      explicit_outputs = parts.explicit_outputs;
      implicit_outputs = parts.implicit_outputs;
      explicit_inputs = parts.explicit_inputs;
      implicit_inputs = parts.implicit_inputs;
      order_only_inputs = parts.order_only_inputs;
      validations = parts.validations;
    }

-- all of them, in a table that has grown
pub formed_edges : (old new : List (List ℕ)) (lines : List Line) (actions : List Action) → IsLonger old new
    → AllByRecursion (λ (line : Line). IsWithin old line × ArePathsFormed (paths_at old line)) lines → AllByRecursion IsWellFormed (edges_of new lines actions)
formed_edges old new [] actions longer all = tt
formed_edges old new (line ∷ lines) [] longer all = tt
formed_edges old new (line ∷ lines) (action ∷ actions) longer all =
    (formed_edge new line action (subst ArePathsFormed (sym (paths_stay old new line longer all.0.0)) all.0.1), formed_edges old new lines actions longer all.1)

pub push_all : {X : Type 0} (P : X → Type 0) (xs : List X) (x : X) → AllByRecursion P xs → P x → AllByRecursion P (xs ++ x ∷ [])
push_all P [] x all more = (more, tt)
push_all P (a ∷ xs) x all more = (all.0, push_all P xs x all.1 more)
