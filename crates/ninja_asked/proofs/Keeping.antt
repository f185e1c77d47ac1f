-- What is asked for, and what an answer leaves.
use Rattle.std.proofs.Common.{◌≡◌, Bool, false, [], Result, Ok, Err, IfErr, OnOk, IsErrAnd, refl, sym, subst, append-nil}
use Rattle.model.specs.World.{World}
use Rattle.theory.specs.Seen.{Looked}
use Rattle.theory.proofs.SiteCalls.{unrefused_none}
use Rattle.theory.proofs.Looks.{looks_nothing}
use Rattle.graph.specs.declared.graph.Graph.{Graph}
use Rattle.tools.specs.Joined.{KeepsEdges}

-- ---- results

pub on_ok : {T E : Type 0} {P : Type 0} (r : Result T E) → P → OnOk r P
on_ok (Ok value) is = is
on_ok (Err error) is = tt

pub if_err_each : {T E : Type 0} {P : E → Type 0} (r : Result T E) → ((error : E) → P error) → IfErr r P
if_err_each (Ok value) each = tt
if_err_each (Err error) each = each error

-- an error that is passed on
pub if_err_by : {T E : Type 0} (P : E → Type 0) (error : E) (r : Result T E) → P error → IsErrAnd r (λ (told : E). told ≡ error) → IfErr r P
if_err_by P error (Ok value) is passed = tt
if_err_by P error (Err told) is passed = subst P (sym passed) is

-- ---- nothing was done

pub looked_nothing : (tells : Bool) (w : World) → w.stopped ≡ false → Looked tells w w
looked_nothing tells w runs = record { looks = looks_nothing tells w; unrefused = unrefused_none w runs }

-- a graph keeps its edges where nothing is done
pub keeps_none : (graph : Graph) → KeepsEdges graph graph
keeps_none graph = record { more = []; paths = sym (append-nil graph.manifest.paths); lines = refl; declared = refl; recorded = λ none. none }
