-- Which edges name dyndep files, and which paths these are.
use Rattle.std.proofs.Common.{◌≡◌, ℕ, zero, suc, ◌<◌, List, [], ◌∷◌, Some, length, get_or, ap, arith}
use Rattle.paths.specs.declared.manifest.Action.{Action}
use Rattle.paths.specs.declared.manifest.Action.TheVariants as action
use Rattle.paths.specs.Commands.{no_action, stop_of, dyndep_stop}
use Rattle.graph.specs.declared.graph.Graph.{Graph}
use Rattle.graph.specs.Held.{dyndep_of}
use Rattle.graph.specs.Extended.{dyndep_at, FilesStand}

-- only edges name files
namer_within : (graph : Graph) (e file : ℕ) → dyndep_at graph e ≡ Some file → e < length graph.manifest.lines
namer_within graph e file names = let low = inside graph.manifest.actions e names in omega (arith, low, graph.manifest.fits)
  where
    inside : (actions : List Action) (e : ℕ) → dyndep_of (get_or actions e no_action) ≡ Some file → e < length actions
    inside [] e is = cc
    inside (a ∷ actions) zero is = omega arith
    inside (a ∷ actions) (suc e) is = let low = inside actions e is in omega (arith, low)

-- a file that is named is a path of the graph
file_within : (graph : Graph) (e file : ℕ) → dyndep_at graph e ≡ Some file → file < length graph.manifest.paths
file_within graph e file names = let below = graph.manifest.dyndeps e in omega (arith, below, stop (get_or graph.manifest.actions e no_action) names)
  where
    stop : (a : Action) → dyndep_of a ≡ Some file → dyndep_stop a ≡ suc file
    stop action.Alias is = cc
    stop (action.Command command) is = ap stop_of is

pub files_stand_so : FilesStand
files_stand_so graph e file names = (namer_within graph e file names, file_within graph e file names)
