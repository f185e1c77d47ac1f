-- What is kept when a variable is bound.
use Rattle.std.proofs.Common.{◌≡◌, ◌<◌, ◌≤◌, List, [], ◌∷◌, vec_len, arith}
use Rattle.std.specs.List.{AllByRecursion}
use Rattle.scopes.specs.declared.all_scopes.Scopes.{Scopes}
use Rattle.scopes.specs.Moves.{Move, entered}
use Rattle.scopes.specs.Scopes.{IsScopesOf}
use Rattle.manifest.specs.declared.fault.FileFault.{FileFault}
use Rattle.manifest.specs.declared.fault.ReadError.{ReadError}
use Rattle.manifest.specs.declared.fault.ReadError.TheVariants.{Memory, Site, Refused}
use Rattle.manifest.specs.declared.kept.Declared.{Declared}
use Rattle.manifest.specs.declared.kept.ReadEdge.{ReadEdge}
use Rattle.manifest.specs.Readings.{Outcome, Unless, Give}
use Rattle.manifest.specs.Readings.Outcome.{Reached, Broken}
use Rattle.manifest.specs.Answer.{IsFaultOf}
use Rattle.manifest.specs.Held.{IsFormed, IsInScope, AreLinesFormed}
use Rattle.manifest.proofs.CheckLemmas.{unless_told, unless_good}

never : {X Y : Type 0} (value : X) (New : Outcome Y → Type 0) (told : FileFault) → Give value (Broken told) → New (Broken told)
never value New told is = absurd cc

-- the fault of a value is that of what goes on with it
pub value_fault : {X Y : Type 0} (bad : Type 0) (fault : FileFault) (value : X) (Next : Outcome Y → Type 0) (error : ReadError)
    → IsFaultOf (Unless bad fault (Give value)) error → IsFaultOf (Unless bad fault Next) error
value_fault bad fault value Next Memory is = tt
value_fault bad fault value Next (Site site) is = is
value_fault bad fault value Next (Refused told) is = unless_told bad fault (Give value) Next told (never value Next) is

-- the value that was given
pub value_given : {X : Type 0} (bad : Type 0) (fault : FileFault) (value given : X) → Unless bad fault (Give value) (Reached given) → (bad → ⊥) × (given ≡ value)
value_given bad fault value given is =
    let good = unless_good bad fault (Give value) given is in
    let same : given ≡ value = cc (good.1) in
    (good.0, same)

edges_kept : (old new : Scopes) → vec_len old.scopes ≤ vec_len new.scopes → (edges : List ReadEdge)
    → AllByRecursion (IsInScope old) edges → AllByRecursion (IsInScope new) edges
edges_kept old new more [] all = tt
edges_kept old new more (edge ∷ edges) all =
    let within : edge.scope < vec_len old.scopes = all.0 in
    (omega arith, edges_kept old new more edges all.1)

-- as many scopes were entered
pub formed_kept : (old new : Declared) (before after : List Move) → IsScopesOf old.scopes before → IsScopesOf new.scopes after → entered after ≡ entered before
    → new.edges.items ≡ old.edges.items → AllByRecursion (IsInScope old.scopes) old.edges.items → new.paths ≡ old.paths → AreLinesFormed old.paths → IsFormed new
formed_kept old new before after was is same edges all same_paths formed =
    let more : vec_len old.scopes.scopes ≤ vec_len new.scopes.scopes = omega (arith, was.number, is.number, same) in
    record {
      past = after;
      scopes = is;
      edges = rw edges (edges_kept old.scopes new.scopes more old.edges.items all);
      paths = rw same_paths formed;
    }
