-- The main file, and what is seen when all is read.
use Rattle.std.proofs.Common.{◌≡◌, ℕ, false, List, [], ◌∷◌, Option, None, Some, Result, Ok, Err, IsErrAnd, sym, ◌∙◌, ap, subst, arith}
use Rattle.std.specs.List.{AllZip, AllByRecursion}
use Rattle.model.specs.declared.fault.SiteFault.{SiteFault}
use Rattle.model.specs.declared.fault.SiteFault.TheVariants.{Device, Stopped}
use Rattle.model.specs.declared.graph.BuildGraph.{BuildGraph}
use Rattle.model.specs.World.{World}
use Rattle.model.specs.Calls.{HasCause, is_stop}
use Rattle.manifest.specs.declared.fault.FaultKind.TheVariants.{NotFound}
use Rattle.manifest.specs.declared.fault.ReadError.{ReadError}
use Rattle.manifest.specs.declared.fault.ReadError.TheVariants.{Memory, Site, Refused}
use Rattle.manifest.specs.declared.kept.Declared.{Declared}
use Rattle.manifest.specs.declared.kept.ReadEdge.{ReadEdge}
use Rattle.manifest.specs.Readings.{Outcome, fault_at, Refuse, Then}
use Rattle.manifest.specs.Readings.Outcome.{Reached, Broken}
use Rattle.manifest.specs.Readings.Then.{goes_on, stops}
use Rattle.manifest.specs.Readings.Where.{with_value}
use Rattle.manifest.specs.States.{State, nothing}
use Rattle.manifest.specs.Files.{Reads, deepest}
use Rattle.manifest.specs.Graphs.{Declares, OfMain, AtEnd}
use Rattle.manifest.specs.Answer.{held, site_part, in_texts, ReadsFile, IsFaultSeen, IsAnswerOf}
use Rattle.paths.specs.declared.line.Line.{Line}
use Rattle.paths.specs.declared.manifest.Manifest.{Manifest}
use Rattle.manifest.specs.declared.kept.Named.{Named}
use Rattle.manifest.specs.Held.{IsStateOf, IsFormed, IsBuildOf, IsLineFor, AreNamed, AreLinesFormed, ArePathsFormed}
use Rattle.manifest.specs.InNumbers.{IsWithin, paths_at}
use Rattle.manifest.specs.Places.{IsFaultAt}
use Rattle.manifest.specs.Seen.{IsCaused}
use Rattle.manifest.proofs.Binds.{refuse_at}
use Rattle.manifest.proofs.Looking.{NoneFailed}
use Rattle.manifest.proofs.ReadTo.{seen_fault, seen_fault_wider}

-- ---- causes

not_both : {T : Type 0} (first : Result T SiteFault) (content : T) (fault : SiteFault) → first ≡ Ok content → first ≡ Err fault → ⊥
not_both first content fault one other = cc

not_stopped : {T : Type 0} (first : Result T SiteFault) (content : T) → first ≡ Ok content → is_stop first ≡ false
not_stopped first content given = ap is_stop given

-- the main file was given, so the site had not stopped
pub main_cause : {T U : Type 0} (old mid new : World) (first : Result T SiteFault) (content : T) (r : Result U ReadError)
    → HasCause old mid first → first ≡ Ok content → IsCaused mid new (site_part r) → HasCause old new (site_part r)
main_cause old mid new first content r cause given rest =
    let same = cause.others (not_both first content Device given) in
    record {
      grows = omega (arith, cause.grows, rest.grows);
      device = λ is. let more = rest.device is in omega (arith, same, more);
      others = λ no. rest.others no ∙ same;
      stopped = rest.stopped (cause.stopped ∙ not_stopped first content given);
      after_stop = λ stopped. absurd (not_both first content Stopped given (cause.after_stop stopped).0);
      earlier = rest.earlier ∙ cause.earlier;
    }

pub texts_cause : (old new : World) (R : Outcome BuildGraph → Type 0) (r : Result Manifest ReadError) → NoneFailed old new → IsAnswerOf R (in_texts r) → IsCaused old new (site_part r)
texts_cause old new R (Ok value) none is = none
texts_cause old new R (Err Memory) none is = none
texts_cause old new R (Err (Site fault)) none is = absurd is
texts_cause old new R (Err (Refused fault)) none is = none

-- ---- nothing is read yet

no_edges : (P : ReadEdge → Type 0) (edges : List ReadEdge) → AllZip IsBuildOf edges [] → AllByRecursion P edges
no_edges P [] all = tt
no_edges P (edge ∷ edges) all = absurd all

no_lines : (kept : Named) → AreNamed kept [] → AreLinesFormed kept
no_lines kept is = by kept.lines is.lines
  where
    by : (lines : List Line) → AllZip (IsLineFor kept.table) [] lines → AllByRecursion (λ (line : Line). IsWithin kept.table line × ArePathsFormed (paths_at kept.table line)) lines
    by [] all = tt
    by (line ∷ lines) all = absurd all

pub formed_new : (declared : Declared) → IsStateOf declared nothing → IsFormed declared
formed_new declared is = record { past = []; scopes = is.scopes; edges = no_edges _ declared.edges.items is.edges; paths = no_lines declared.paths is.paths }

-- ---- readings

module _ (old new : World) (name kept : List ℕ) (same : kept ≡ name) (answer : Option (List ℕ)) (sees : held old.history new.history name answer) where
  pub read_absent : (error : ReadError) → answer ≡ None → IsFaultAt (record { file = kept; line = 0 }) (NotFound name) error → IsFaultSeen (Declares (held old.history new.history) name) error
  read_absent error none is =
      seen_fault_wider (Refuse {X = BuildGraph} (fault_at (record { file = kept; line = 0 }) (NotFound name))) (Declares (held old.history new.history) name) error
      (λ fault reading. record {
        reading = with_value sees (subst (λ (a : Option (List ℕ)). OfMain (held old.history new.history) name a (Broken fault)) (sym none)
            (subst (λ (n : List ℕ). Refuse {X = BuildGraph} (fault_at (record { file = n; line = 0 }) (NotFound name)) (Broken fault)) same reading));
      })
      (seen_fault (Refuse {X = BuildGraph} (fault_at (record { file = kept; line = 0 }) (NotFound name))) error (refuse_at BuildGraph (record { file = kept; line = 0 }) (NotFound name) error is))

  module _ (bytes slice : List ℕ) (some : answer ≡ Some bytes) (all : slice ≡ bytes) where
    of_main : (outcome : Outcome BuildGraph) → Then (Reads (held old.history new.history) deepest kept slice nothing) AtEnd outcome → Declares (held old.history new.history) name outcome
    of_main outcome is = record {
      reading =
          with_value sees (subst (λ (a : Option (List ℕ)). OfMain (held old.history new.history) name a outcome) (sym some)
          (subst (λ (n : List ℕ). Then (Reads (held old.history new.history) deepest n bytes nothing) AtEnd outcome) same
          (subst (λ (b : List ℕ). Then (Reads (held old.history new.history) deepest kept b nothing) AtEnd outcome) all is)));
    }

    pub read_broken : (error : ReadError) (r : Result Manifest ReadError) → IsErrAnd r (λ (e : ReadError). e ≡ error)
        → IsFaultSeen (Reads (held old.history new.history) deepest kept slice nothing) error → ReadsFile name old.history new.history (in_texts r)
    read_broken error (Ok manifest) passed is = absurd passed
    read_broken error (Err other) passed is =
        subst (IsFaultSeen (Declares (held old.history new.history) name)) (sym passed)
        (seen_fault_wider (Reads (held old.history new.history) deepest kept slice nothing) (Declares (held old.history new.history) name) error
        (λ fault reading. of_main (Broken fault) (stops reading)) is)

    pub read_done : (state : State) (r : Result BuildGraph ReadError) → Reads (held old.history new.history) deepest kept slice nothing (Reached state) → IsAnswerOf (AtEnd state) r → ReadsFile name old.history new.history r
    read_done state (Ok graph) reading is = of_main (Reached graph) (goes_on reading is)
    read_done state (Err error) reading is =
        seen_fault_wider (AtEnd state) (Declares (held old.history new.history) name) error
        (λ fault at_end. of_main (Broken fault) (goes_on reading at_end)) (seen_fault (AtEnd state) error is)
