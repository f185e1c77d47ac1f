use Rattle.std.proofs.Common.{◌≡◌, ◌≤◌, ◌+◌, List, length, drop}
use Rattle.std.specs.List.{AllByRecursion, AllZip}
use Rattle.std.specs.Vec.Iter.{into_iter_items}
use Rattle.model.specs.declared.graph.Pool.{Pool}
use Rattle.paths.specs.Commands.{dyndep_stop}
use Rattle.paths.specs.Told.{edges_of}
use Rattle.scopes.specs.Moves.{Move}
use Rattle.scopes.specs.Scopes.{IsScopesOf}
use Rattle.manifest.specs.Held.{IsBuildOf, IsInScope, IsLineFor, ArePools}
use Rattle.manifest.specs.InNumbers.{IsLonger, IsWithin}
use Rattle.manifest.specs.States.{Build}
use Rattle.manifest.proofs.EdgeAll.{Goes}
use Rattle.manifest.proofs.graph.expand_all.Given as goal

abbrev pub invariant-loop-edge : goal.invariant-loop-edge
invariant-loop-edge l = (goal.iterator-loop-edge).can_next l.edge-iterator
    × (goal.iterator-loop-edge).is_finite l.edge-iterator
    × IsLonger l.fn.table l.table
    × AllByRecursion (IsWithin l.table) l.lines
    × AllByRecursion (IsInScope l.scopes) (into_iter_items l.edge-iterator)
    × (length l.actions + length (into_iter_items l.edge-iterator) ≡ length l.lines)
    × AllByRecursion (λ action. dyndep_stop action ≤ length l.table) l.actions
    × ((past : List Move) (said : List Pool) (builds : List Build) → IsScopesOf l.scopes past → ArePools l.pools.entries said → AllZip IsBuildOf l.fn.read.items builds
    → AllZip (IsLineFor l.fn.table) builds l.lines → Goes past said builds l.table (into_iter_items l.edge-iterator) (drop (length l.actions) l.lines) (edges_of l.table l.lines l.actions))
