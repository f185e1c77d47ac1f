-- What was found of commands by what was seen of paths: it is so as long as that is known.
use Rattle.std.specs.Prelude.{◌≡◌, ◌<◌, ◌⊎◌, ℕ, suc, Bool, true, false, IsTrue, IfOk, List, [], ◌++◌, map, length, slice_index_or, Option, Some, None, is_some, Result}
use Rattle.model.specs.declared.act.Act.{Act}
use Rattle.model.specs.declared.graph.Edge.{Edge}
use Rattle.model.specs.declared.reason.Reason.{Reason}
use Rattle.model.specs.declared.record.Record.{Record}
use Rattle.model.specs.declared.record.DepsRecord.{DepsRecord}
use Rattle.model.specs.World.{World}
use Rattle.model.specs.Graph.{has_number, edge_at, Addition, IsMadeOnce}
use Rattle.model.specs.Judgement.{OutputFacts, InputFacts, Facts as AllFacts, reason_of}
use Rattle.model.specs.OutOfDate.{deps_start}
use Rattle.model.specs.Phases.{IsGrownBy}
use Rattle.model.specs.Records.{in_force, deps_in_force}
use Rattle.paths.specs.Told.{text_at}
use Rattle.graph.specs.declared.graph.Graph.{Graph}
use Rattle.graph.specs.Held.{list_at}
use Rattle.graph.specs.Linked.{StandFor}
use Rattle.graph.specs.Links.{links_of}
use Rattle.graph.specs.Statements.{HasMore}
use Rattle.graph.specs.Told.{declared_by}
use Rattle.records.specs.declared.records.Records.{Records}
use Rattle.records.specs.Known.{AreKnown}
use Rattle.judge.specs.declared.answers.Answer.{Answer}
use Rattle.judge.specs.declared.answers.Answers.{Answers}
use Rattle.judge.specs.declared.input_facts.Inputs.{Inputs}
use Rattle.judge.specs.declared.looks.Look.{Look}
use Rattle.judge.specs.declared.looks.Looks.{Looks}
use Rattle.judge.specs.declared.output_facts.Outputs.{Outputs}
use Rattle.judge.specs.Seen.{look_at, StaysKnown}
use Rattle.judge.specs.Summaries.{AreOutputs, AreInputs}
use Rattle.judge.specs.Facts.{AreKnownOf, HasDepfile, seen_stamp, seen_inputs, AreAsked, IsReadAmong}
use Rattle.judge.specs.Judged.{KeepsDepfile}

-- ---- outputs and inputs, as they were seen

-- an output, as these records have it and as it was seen
abbrev pub seen_output : List (List ℕ) → List Record → List DepsRecord → List Look → ℕ → OutputFacts
seen_output paths rs ds seen p =
    record { stamp = seen_stamp (look_at seen p); made = in_force rs (text_at paths p); deps_start = deps_start (deps_in_force ds (text_at paths p)) }

-- these outputs of an edge that does this were asked for and taken in, by whatever records are known
pub record AreMadeSeen (graph : Graph) (records : Records) (act : Act) (seen : List Look) (numbers : List ℕ) (outputs : Outputs) : Type 0 where
  pub asked : AreAsked seen numbers
  pub are : (rs : List Record) (ds : List DepsRecord) → AreKnownOf graph.manifest.paths numbers rs ds records → AreOutputs act (map (seen_output graph.manifest.paths rs ds seen) numbers) outputs

-- all that the edge reads and its recorded inputs were asked for, and come to this
pub record AreReadSeen (graph : Graph) (flags : List Bool) (seen : List Look) (e : ℕ) (inputs : Inputs) : Type 0 where
  pub numbers : List ℕ
  pub within : (p : ℕ) → has_number numbers p ≡ true → p < length graph.manifest.paths
  pub read : IsReadAmong graph e numbers
  pub asked : AreAsked seen numbers
  pub recorded : AreAsked seen ((links_of graph).recorded e)
  pub are : AreInputs (seen_inputs graph flags false seen numbers ++ seen_inputs graph flags true seen ((links_of graph).recorded e)) inputs

-- ---- reasons

-- the facts of the definition, of an edge with these outputs and inputs
abbrev pub facts_for : Edge → Bool → List OutputFacts → List InputFacts → AllFacts
facts_for edge depfile outputs inputs = record { act = edge.act; restat = edge.restat; deps = edge.deps; depfile = depfile; outputs = outputs; inputs = inputs }

-- the reason of the definition, whatever outputs and inputs the summaries are of
abbrev pub IsReasonWith : Edge → Bool → Outputs → Inputs → Option Reason → Type 0
IsReasonWith edge depfile outputs inputs reason =
    (outs : List OutputFacts) (ins : List InputFacts) → AreOutputs edge.act outs outputs → AreInputs ins inputs → reason ≡ reason_of (facts_for edge depfile outs ins)

-- there is a reason where one holds by the outputs that the summary is of, and by the depfile, whatever the inputs are
abbrev pub IsStaleWith : Edge → Bool → Outputs → Option Reason → Type 0
IsStaleWith edge depfile outputs reason =
    (outs : List OutputFacts) → AreOutputs edge.act outs outputs → is_some (reason_of (facts_for edge depfile outs [])) ≡ true → is_some reason ≡ true

-- by what was seen this is why the command of the edge has to run, if it has to, where its depfile is there, or is not
pub record IsReasonSeen (graph : Graph) (records : Records) (flags : List Bool) (seen : List Look) (e : ℕ) (depfile : Bool) (reason : Option Reason) : Type 0 where
  pub outputs : Outputs
  pub inputs : Inputs
  pub made : AreMadeSeen graph records (edge_at (declared_by graph).edges (suc e)).act seen ((links_of graph).outputs e) outputs
  pub read : AreReadSeen graph flags seen e inputs
  pub told : IsReasonWith (edge_at (declared_by graph).edges (suc e)) depfile outputs inputs reason
  pub stale : IsStaleWith (edge_at (declared_by graph).edges (suc e)) depfile outputs reason

-- ---- answers that are kept

abbrev pub answer_at : Answers → ℕ → Option Answer
answer_at answers e = slice_index_or answers.known.items e None

-- the answer is right by what was seen, as if nothing was made anew
pub record IsAnswerSeen (graph : Graph) (records : Records) (looks : List Look) (e : ℕ) (answer : Answer) : Type 0 where
  pub reason : Option Reason
  pub is : is_some reason ≡ answer.due
  pub seen : IsReasonSeen graph records [] looks e answer.depfile reason

-- each that is kept is
abbrev pub AreAnswers : Graph → Records → List Look → Answers → Type 0
AreAnswers graph records seen answers = (e : ℕ) (answer : Answer) → answer_at answers e ≡ Some answer → IsAnswerSeen graph records seen e answer

-- so it is, of what looks have
abbrev pub KnowsRight : Graph → Records → Looks → Type 0
KnowsRight graph records looks = AreAnswers graph records looks.seen.items looks.sums.answers

-- none is kept
abbrev pub KnowsNone : Answers → Type 0
KnowsNone answers = (e : ℕ) → answer_at answers e ≡ None

-- the same are kept
abbrev pub KnowsSame : Answers → Answers → Type 0
KnowsSame old new = (e : ℕ) → answer_at new e ≡ answer_at old e

-- the same are kept, but that this one may be, of this edge
pub record KnowsWith (edge : ℕ) (answer : Answer) (old new : Answers) : Type 0 where
  pub this : (answer_at new edge ≡ Some answer) ⊎ (answer_at new edge ≡ answer_at old edge)
  pub others : (e : ℕ) → (e ≡ edge → ⊥) → answer_at new e ≡ answer_at old e

-- the same are kept, but for those of these edges
pub record KnowsOthers (edges : List ℕ) (old new : Answers) : Type 0 where
  pub gone : (e : ℕ) → has_number edges e ≡ true → answer_at new e ≡ None
  pub others : (e : ℕ) → has_number edges e ≡ false → answer_at new e ≡ answer_at old e

-- ---- What calls answer. `world` tells the world of the site, which the call found as `old` and left as `new`.

-- of these outputs, by what was seen when the call ended
abbrev pub FindsMade : {E : Type 0} → Graph → Records → Looks → Act → List ℕ → Result Outputs E → Type 0
FindsMade graph records after act numbers result = IfOk result (λ outputs. AreMadeSeen graph records act after.seen.items numbers outputs)

-- of the inputs of the edge
abbrev pub FindsInputs : {E : Type 0} → Graph → Looks → List Bool → ℕ → Result Inputs E → Type 0
FindsInputs graph after flags e result = IfOk result (λ inputs. AreReadSeen graph flags after.seen.items e inputs)

-- of its reason
abbrev pub FindsReasonBy : {E : Type 0} → Graph → Records → List Bool → Looks → ℕ → Bool → Result (Option Reason) E → Type 0
FindsReasonBy graph records flags after e depfile result = IfOk result (λ reason. IsReasonSeen graph records flags after.seen.items e depfile reason)

-- whether the depfile of the edge is there, where the edge names one, is to leave it, and it kept its file
abbrev pub IsDepfileFound : Bool → Graph → ℕ → Bool → World → World → Type 0
IsDepfileFound tells graph e is old new =
    IsTrue tells → KeepsDepfile tells (declared_by graph).edges old new (suc e) → HasDepfile (edge_at (declared_by graph).edges (suc e)).act (edge_at (declared_by graph).edges (suc e)).deps is new.history

abbrev pub FindsDepfileOf : {S E : Type 0} → Bool → (S → World) → S → S → Graph → ℕ → Result Bool E → Type 0
FindsDepfileOf tells world old new graph e result = IfOk result (λ is. IsDepfileFound tells graph e is (world old) (world new))

-- ---- a law

-- of each path that was looked up the records tell what they told
pub record TellSame (old new : Records) : Type 0 where
  pub build_log : new.logs.build_log.log ≡ old.logs.build_log.log
  pub deps_log : new.logs.deps_log.log ≡ old.logs.deps_log.log
  pub places : new.places.items ≡ old.places.items
  pub deps_places : new.deps_places.items ≡ old.deps_places.items

-- The graph has got what a dyndep file says, and more paths. No edges but these, which named it, have changed by that, and got recorded
-- inputs; none of them is phony.
pub record HasGrownBy (edges : List ℕ) (old new : Graph) : Type 0 where
  pub file : List ℕ
  pub additions : List Addition
  pub grown : IsGrownBy file additions (declared_by old).edges (declared_by new).edges
  pub once : IsMadeOnce (declared_by new).edges
  pub paths : HasMore old.manifest.paths new.manifest.paths
  pub others : (e : ℕ) → has_number edges e ≡ false → (edge_at (declared_by old).edges (suc e)).dyndep ≡ Some file → ⊥
  pub aliases : (i : ℕ) → (edge_at (declared_by old).edges i).phony ≡ true → (edge_at (declared_by old).edges i).dyndep ≡ None
  pub recorded : (e : ℕ) → has_number edges e ≡ false → list_at new.recorded e ≡ list_at old.recorded e

-- the numbers of the lists of both graphs stand for those of their edges
pub record StandBoth (old new : Graph) : Type 0 where
  pub before : StandFor (declared_by old).edges old.manifest.paths (links_of old)
  pub after : StandFor (declared_by new).edges new.manifest.paths (links_of new)

-- some records were known of the graph, and what was known of it is known of the other one
pub record AreKnownStill (old new : Graph) (was is : Records) : Type 0 where
  pub rs : List Record
  pub ds : List DepsRecord
  pub known : AreKnown old rs ds was
  pub stay : (rs : List Record) (ds : List DepsRecord) → AreKnown old rs ds was → AreKnown new rs ds is

-- Answers are right where nothing is kept, where what was seen stays and where the records tell the same; and after a load, but for
-- those of its edges.
pub record AnswersFollow : Type 0 where
  pub none : (graph : Graph) (records : Records) (seen : List Look) (answers : Answers) → KnowsNone answers → AreAnswers graph records seen answers
  pub stay : (graph : Graph) (records : Records) (old new : List Look) → StaysKnown old new → (answers : Answers) → AreAnswers graph records old answers → AreAnswers graph records new answers
  pub told : (graph : Graph) (old new : Records) → TellSame old new → (seen : List Look) (answers : Answers) → AreAnswers graph old seen answers → AreAnswers graph new seen answers
  pub loaded : (edges : List ℕ) (old new : Graph) → HasGrownBy edges old new → StandBoth old new → (was is : Records) → AreKnownStill old new was is → (seen : List Look) (answers left : Answers) → KnowsOthers edges answers left
      → AreAnswers old was seen answers → AreAnswers new is seen left
