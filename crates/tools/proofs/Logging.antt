-- What logs that were read tell, and what stays of a graph that gets more paths.
use Rattle.std.proofs.Common.{◌≡◌, inl, inr, ℕ, zero, suc, ◌<◌, Bool, true, false, if◌then◌else◌, List, [], ◌∷◌, ◌++◌, Option, Some, None, Result, Ok, Err, IfErr, IsErrAnd, length, map, refl, sym, ap, ◌∙◌, subst, arith, append_assoc, append-nil}
use Rattle.std.proofs.lemmas.Bool.{cases_lt}
use Rattle.std.proofs.lemmas.List.{get_or_past}
use Rattle.std.proofs.lemmas.Option.{none-some}
use Rattle.model.specs.declared.fault.SiteFault.{SiteFault}
use Rattle.model.specs.declared.fault.SiteFault.TheVariants as site
use Rattle.model.specs.declared.record.Record.{Record}
use Rattle.model.specs.declared.record.DepsRecord.{DepsRecord}
use Rattle.model.specs.Calls.{HasCause, is_stop}
use Rattle.model.specs.Graph.{has, has_number}
use Rattle.model.specs.World.{World}
use Rattle.theory.specs.Seen.{Looked}
use Rattle.theory.proofs.Looks.{looks_then}
use Rattle.paths.specs.Told.{text_at}
use Rattle.graph.specs.Grown.{HasNumbered}
use Rattle.graph.specs.Held.{list_at}
use Rattle.graph.specs.Links.{links_of}
use Rattle.graph.specs.Told.{recorded_by}
use Rattle.graph.specs.declared.graph.Graph.{Graph}
use Rattle.records.specs.Known.{AreKnown, IsOf, IsOfDeps, Knows, SomeOfBoth}
use Rattle.records.specs.Laws.{AreRead}
use Rattle.records.specs.declared.records.Records.{Records}
use Rattle.tools.specs.Joined.{KeepsEdges}
use Rattle.tools.specs.Told.{told_fault}
use Rattle.tools.specs.declared.fault.Fault.{Fault}
use Rattle.tools.specs.declared.fault.Fault.TheVariants.{Memory}

-- ---- records

outputs_within : (graph : Graph) (e p : ℕ) → has_number ((links_of graph).outputs e) p ≡ true → p < length graph.manifest.paths
outputs_within graph e p made = elim (cases_lt p (length graph.makers)) [
  | inl low ↦ omega (arith, low, graph.making.fits)
  | inr past ↦ absurd (none-some e (sym (get_or_past graph.makers p None past) ∙ graph.making.all p e made))
]

pub some_known : (tells : Bool) (old new : World) (graph : Graph) (records : Records) → AreRead tells old new graph.manifest.paths records → SomeOfBoth (Knows graph records)
some_known tells old new graph records read = (
  read.0,
  read.1,
  record {
    paths = graph.manifest.paths;
    more = [];
    grown = sym (append-nil graph.manifest.paths);
    outputs = outputs_within graph;
    known = read.2;
    told = read.3;
  },
)

-- ---- what the site did

pub looked_then : (tells : Bool) (old mid new : World) → Looked tells old mid → Looked tells mid new → Looked tells old new
looked_then tells old mid new first second = record {
  looks = looks_then tells old mid new first.looks second.looks;
  unrefused = record {
    failures = second.unrefused.failures ∙ first.unrefused.failures;
    began = first.unrefused.began;
    goes_on = second.unrefused.goes_on;
    earlier = second.unrefused.earlier ∙ first.unrefused.earlier;
  };
}

memory_only : (fault : SiteFault) → told_fault fault ≡ Memory → fault ≡ site.Memory
memory_only site.Device is = absurd (cc)
memory_only site.Stopped is = absurd (cc)
memory_only site.Memory is = refl

-- where memory was refused the site goes on
pub memory_goes_on : {T U : Type 0} (old new : World) (fault : SiteFault) (r : Result U Fault) → HasCause {T = T} old new (Err fault) → IsErrAnd r (λ (told : Fault). told ≡ told_fault fault) → IfErr r (λ (told : Fault). told ≡ Memory → new.stopped ≡ false)
memory_goes_on {T} old new fault (Ok value) cause passed = absurd passed
memory_goes_on {T} old new fault (Err told) cause passed = λ memory. cause.stopped ∙ ap (λ (f : SiteFault). is_stop {T = T} (Err f)) (memory_only fault (sym passed ∙ memory))

pub if_err_each : {T E : Type 0} {Q : E → Type 0} (r : Result T E) → ((error : E) → Q error) → IfErr r Q
if_err_each (Ok value) each = tt
if_err_each (Err error) each = each error

-- ---- more paths

pub keeps_none : (graph : Graph) → KeepsEdges graph graph
keeps_none graph = record { more = []; paths = sym (append-nil graph.manifest.paths); lines = refl; declared = refl; recorded = λ none e. none e }

pub keeps_then : (old mid new : Graph) → KeepsEdges old mid → KeepsEdges mid new → KeepsEdges old new
keeps_then old mid new first second = record {
  more = first.more ++ second.more;
  paths = second.paths ∙ (ap (λ (l : List (List ℕ)). l ++ second.more) first.paths ∙ append_assoc old.manifest.paths first.more second.more);
  lines = second.lines ∙ first.lines;
  declared = second.declared ∙ first.declared;
  recorded = λ none. second.recorded (first.recorded none);
}

none_of : (f : ℕ → List ℕ) (numbers : List ℕ) → map f numbers ≡ [] → numbers ≡ []
none_of f [] none = refl
none_of f (n ∷ numbers) none = absurd (cc)

grown : (known : Bool) (old new : List (List ℕ)) (path : List ℕ) → new ≡ (if known then old else old ++ path ∷ []) → (more : List (List ℕ)) × (new ≡ old ++ more)
grown true old new path is = ([], is ∙ sym (append-nil old))
grown false old new path is = (path ∷ [], is)

pub keeps_numbered : (old new : Graph) (path : List ℕ) (number : ℕ) → HasNumbered old new path number → KeepsEdges old new
keeps_numbered old new path number numbered =
    let more = grown (has old.manifest.paths path) old.manifest.paths new.manifest.paths path numbered.added.grows in
    record { more = more.0; paths = more.1; lines = numbered.lines; declared = numbered.declared; recorded = still }
  where
    still : ((e : ℕ) → recorded_by old e ≡ []) → (e : ℕ) → recorded_by new e ≡ []
    still none zero = refl
    still none (suc e) =
        ap (λ (l : List (List ℕ)). map (text_at new.manifest.paths) (list_at l e)) numbered.recorded
        ∙ ap (map (text_at new.manifest.paths)) (none_of (text_at old.manifest.paths) (list_at old.recorded e) (none (suc e)))
