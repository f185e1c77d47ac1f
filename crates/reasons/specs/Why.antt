-- Why commands are due, by what was seen of files and by the records of the logs.
use Rattle.std.specs.Prelude.{◌≡◌, ◌<◌, ℕ, suc, Bool, true, false, ◌&&◌, ◌||◌, ◌⊎◌, ◌++◌, ◌∷◌, not, List, [], map, filter, find, length, Option, Some, None, is_some, is_none, if◌then◌else◌, IfOk, OnOk, Result, Vec}
use Rattle.std.specs.List.{AllByRecursion, flat_map}
use Rattle.std.specs.Option.{option_or}
use Rattle.std.specs.declared.alloc.Global.{Global}
use Rattle.model.specs.declared.act.Act.{Act}
use Rattle.model.specs.declared.reason.Reason.{Reason}
use Rattle.model.specs.declared.reason.Reason.TheVariants.{OutputAbsent, NoRecord, OtherAct, InputAbsent, InputChanged, InputLater, OutputOlder, DepsUnknown}
use Rattle.model.specs.declared.record.Record.{Record}
use Rattle.model.specs.declared.record.DepsRecord.{DepsRecord}
use Rattle.model.specs.World.{World}
use Rattle.model.specs.Graph.{has_number, edge_at}
use Rattle.model.specs.Judgement.{OutputFacts, has_other_act, is_later, is_same_number, start_of}
use Rattle.model.specs.OutOfDate.{deps_start}
use Rattle.model.specs.Records.{in_force, deps_in_force}
use Rattle.paths.specs.Told.{text_at}
use Rattle.graph.specs.declared.cone.Cone.{Cone}
use Rattle.graph.specs.declared.graph.Graph.{Graph}
use Rattle.graph.specs.Cone.{IsOrder}
use Rattle.graph.specs.Links.{Links, links_of}
use Rattle.graph.specs.Alias.{counts_if_present}
use Rattle.graph.specs.ReadingOf.{IsReadingOf}
use Rattle.graph.specs.Told.{declared_by}
use Rattle.judge.specs.declared.looks.Look.{Look}
use Rattle.judge.specs.declared.looks.Looks.{Looks}
use Rattle.judge.specs.Looking.{HasLooked}
use Rattle.judge.specs.Seen.{look_at, is_asked, IfKept}
use Rattle.records.specs.declared.records.Records.{Records}
use Rattle.records.specs.Known.{IsOf, IsOfDeps, AreKnown}
use Rattle.judge.specs.declared.output_facts.Outputs.{Outputs}
use Rattle.judge.specs.Summaries.{AreOutputs, TakesOutput}
use Rattle.judge.specs.Facts.{seen_stamp}
use Rattle.judge.specs.Judged.{IsAnswer, KeepsDepfile}
use Rattle.judge.specs.Dues.{due_at, is_made_due}
use Rattle.reasons.specs.declared.told.DueCommand.{DueCommand}
use Rattle.reasons.specs.Order.{IsSameCone}

-- ---- what was seen and recorded of outputs

-- so it is for any paths for which the records are known, among which are these
abbrev pub OfRecords : Records → List ℕ → (List (List ℕ) → List Record → List DepsRecord → Type 0) → Type 0
OfRecords records numbers So =
    (paths : List (List ℕ)) (rs : List Record) (ds : List DepsRecord) → IsOf rs paths records → IsOfDeps ds paths records
    → ((p : ℕ) → has_number numbers p ≡ true → p < length paths) → So paths rs ds

-- these paths were asked for
abbrev pub HaveAsked : List Look → List ℕ → Type 0
HaveAsked seen numbers = (p : ℕ) → has_number numbers p ≡ true → is_asked (look_at seen p) ≡ true

-- and so were the regular inputs of these edges
abbrev pub HaveAskedOf : Graph → Looks → List ℕ → Type 0
HaveAskedOf graph looks edges = HaveAsked looks.seen.items (flat_map (links_of graph).regular edges)

-- an output, as it was seen and recorded
abbrev pub seen_output : List (List ℕ) → List Record → List DepsRecord → List Look → ℕ → OutputFacts
seen_output paths rs ds seen p =
    record { stamp = seen_stamp (look_at seen p); made = in_force rs (text_at paths p); deps_start = deps_start (deps_in_force ds (text_at paths p)) }

-- the output was taken in after others, as it was seen and recorded
abbrev pub TakesSeen : Records → List Look → Act → ℕ → Outputs → Outputs → Type 0
TakesSeen records seen act p old new =
    (paths : List (List ℕ)) (rs : List Record) (ds : List DepsRecord) → IsOf rs paths records → IsOfDeps ds paths records → p < length paths
    → TakesOutput act (seen_output paths rs ds seen p) old new

-- what was taken in are these outputs, as they were seen and recorded
abbrev pub SumsOutputs : Records → Looks → Act → List ℕ → Outputs → Type 0
SumsOutputs records looks act numbers outputs =
    OfRecords records numbers (λ paths rs ds. AreOutputs act (map (seen_output paths rs ds looks.seen.items) numbers) outputs)

-- ---- of which path a reason holds

-- by the outputs that were taken in, the reason holds of one of them; one that is about what is read holds of none
abbrev pub output_tells : Outputs → Reason → Bool
output_tells outputs OutputAbsent = outputs.has_absent
output_tells outputs NoRecord = outputs.has_unknown
output_tells outputs OtherAct = outputs.has_other_act
output_tells outputs DepsUnknown = outputs.has_other_deps
output_tells outputs InputAbsent = false
output_tells outputs InputChanged = false
output_tells outputs InputLater = false
output_tells outputs OutputOlder = false

-- by the outputs that were taken in, the reason holds of a path that is read, which has this stamp, and whether it is made anew; one that is
-- about outputs holds of none
abbrev pub input_tells : Outputs → Reason → Bool → Option ℕ → Bool
input_tells outputs InputAbsent anew stamp = is_none stamp
input_tells outputs InputChanged anew stamp = anew
input_tells outputs InputLater anew stamp = is_later stamp outputs.earliest_start
input_tells outputs OutputOlder anew stamp = is_later stamp outputs.earliest_stamp
input_tells outputs OutputAbsent anew stamp = false
input_tells outputs NoRecord anew stamp = false
input_tells outputs OtherAct anew stamp = false
input_tells outputs DepsUnknown anew stamp = false

-- the path of this stamp counts: its file is there, or no phony edge with inputs makes it
abbrev pub counts : Links → Option ℕ → ℕ → Bool
counts links stamp p = is_some stamp || not (counts_if_present links p)

-- it counts, or is taken always, and the reason holds of it
abbrev pub is_sought : Links → List Bool → List Look → Outputs → Reason → Bool → ℕ → Bool
is_sought links anew seen outputs reason always p =
    (always || counts links (seen_stamp (look_at seen p)) p) && input_tells outputs reason (is_made_due links anew p) (seen_stamp (look_at seen p))

abbrev pub first_of : Links → List Bool → List Look → Outputs → Reason → Bool → List ℕ → Option ℕ
first_of links anew seen outputs reason always paths = find (λ p. is_sought links anew seen outputs reason always p) paths

-- the first of the regular inputs of these edges that count
abbrev pub first_read : Graph → List Bool → Looks → Outputs → Reason → List ℕ → Option ℕ
first_read graph anew looks outputs reason edges =
    first_of (links_of graph) anew looks.seen.items outputs reason false (flat_map (links_of graph).regular edges)

-- the first of the regular inputs of these edges that count, then of the recorded inputs of the edge
abbrev pub first_input : Links → List Bool → List Look → Outputs → Reason → List ℕ → ℕ → Option ℕ
first_input links anew seen outputs reason edges e =
    option_or (first_of links anew seen outputs reason false (flat_map links.regular edges)) (first_of links anew seen outputs reason true (links.recorded e))

-- the reason holds of the output; one that is about what is read holds of none
abbrev pub holds_of_output : Act → Reason → OutputFacts → Bool
holds_of_output act OutputAbsent o = is_none o.stamp
holds_of_output act NoRecord o = is_none o.made
holds_of_output act OtherAct o = has_other_act act o.made
holds_of_output act DepsUnknown o = not (is_same_number (start_of o.made) o.deps_start)
holds_of_output act InputAbsent o = false
holds_of_output act InputChanged o = false
holds_of_output act InputLater o = false
holds_of_output act OutputOlder o = false

-- the first of these outputs of which the reason holds
abbrev pub first_output : List (List ℕ) → List Record → List DepsRecord → List Look → Act → Reason → List ℕ → Option ℕ
first_output paths rs ds seen act reason numbers = find (λ p. holds_of_output act reason (seen_output paths rs ds seen p)) numbers

-- it is the first of these outputs of which the reason holds, if one is
abbrev pub IsFirstOutput : Records → Looks → Act → Reason → List ℕ → Option ℕ → Type 0
IsFirstOutput records looks act reason numbers found =
    OfRecords records numbers (λ paths rs ds. found ≡ first_output paths rs ds looks.seen.items act reason numbers)

-- ---- the table

-- the reason stands behind that of what is made anew
abbrev pub is_behind : Reason → Bool
is_behind InputLater = true
is_behind OutputOlder = true
is_behind DepsUnknown = true
is_behind OutputAbsent = false
is_behind NoRecord = false
is_behind OtherAct = false
is_behind InputAbsent = false
is_behind InputChanged = false

-- the first reason that holds, where this one does of the files as they are, of which none was made anew, and whether a due command makes
-- what is read
abbrev pub told_reason : Option Reason → Bool → Reason
told_reason None anew = InputChanged
told_reason (Some reason) anew = if anew && is_behind reason then InputChanged else reason

-- ---- one command

-- what the edge does
abbrev pub act_of : Graph → ℕ → Act
act_of graph e = (edge_at (declared_by graph).edges (suc e)).act

-- the first path of which the reason holds, of the outputs of the edge, else of what it reads
abbrev pub IsPath : Graph → List Bool → List Look → Outputs → Reason → List ℕ → ℕ → Option ℕ → List (List ℕ) → List Record → List DepsRecord → Type 0
IsPath graph flags seen outputs reason edges e path paths rs ds =
    path ≡ option_or (first_output paths rs ds seen (act_of graph e) reason ((links_of graph).outputs e)) (first_input (links_of graph) flags seen outputs reason edges e)

-- What is told of an edge that the judgement found so, by what was seen: it reads the regular inputs of these edges; the flags say which
-- edges are due and have commands, and which of these make something anew whatever those before them leave.
pub record IsTold (graph : Graph) (records : Records) (flags firm : List Bool) (seen : List Look) (found : Option Reason) (edges : List ℕ) (e : ℕ) (command : DueCommand) : Type 0 where
  pub outputs : Outputs
  pub are : OfRecords records ((links_of graph).outputs e) (λ paths rs ds. AreOutputs (act_of graph e) (map (seen_output paths rs ds seen) ((links_of graph).outputs e)) outputs)
  pub reason : command.reason ≡ told_reason found (is_some (first_input (links_of graph) flags seen outputs InputChanged edges e))
  pub path : OfRecords records ((links_of graph).outputs e) (IsPath graph flags seen outputs command.reason edges e command.path)
  pub sure : command.is_sure ≡ (is_some found || is_some (first_input (links_of graph) firm seen outputs InputChanged edges e))

-- the judgement found this of the edge in a part of the call
pub record WasFound (tells : Bool) (graph : Graph) (records : Records) (old new : World) (before after : Looks) (e : ℕ) (found : Option Reason) : Type 0 where
  pub from : World
  pub to : World
  pub first : Looks
  pub second : Looks
  pub earlier : HasLooked tells graph old from before first
  pub asked : HasLooked tells graph from to first second
  pub later : HasLooked tells graph to new second after
  pub answer : (rs : List Record) (ds : List DepsRecord) → AreKnown graph rs ds records → KeepsDepfile tells (declared_by graph).edges from to (suc e)
      → IfKept tells graph.manifest.paths from to first.seen.items (IsAnswer graph rs ds [] e found)

-- All that the edge makes and reads was asked for by some point of the call, and it is told why its command is due.
pub record IsWhy (tells : Bool) (graph : Graph) (records : Records) (flags : List Bool) (old new : World) (before after : Looks) (e : ℕ) (command : DueCommand) : Type 0 where
  pub within : e < length graph.manifest.lines
  pub found : Option Reason
  pub judged : WasFound tells graph records old new before after e found
  pub there : World
  pub seen : Looks
  pub earlier : HasLooked tells graph old there before seen
  pub later : HasLooked tells graph there new seen after
  pub edges : List ℕ
  pub read : IsReadingOf graph e edges
  pub outputs : HaveAsked seen.seen.items ((links_of graph).outputs e)
  pub regular : HaveAsked seen.seen.items (flat_map (links_of graph).regular edges)
  pub recorded : HaveAsked seen.seen.items ((links_of graph).recorded e)
  pub firm : List Bool
  pub told : IsTold graph records flags firm seen.seen.items found edges e command

-- ---- all of them

-- of each of so many edges the flag says whether it is due and has a command
abbrev pub AreCommands : Graph → List Bool → ℕ → List Bool → Type 0
AreCommands graph due count flags = (e : ℕ) → e < count → due_at flags e ≡ (due_at due e && not ((links_of graph).phony e))

-- no edge with a flag is phony
abbrev pub AreNotPhony : Graph → List Bool → Type 0
AreNotPhony graph flags = (e : ℕ) → due_at flags e ≡ true → (links_of graph).phony e ≡ false

abbrev pub edge_in : DueCommand → ℕ
edge_in command = command.edge

-- of each it is told why it is due
abbrev pub AreWhy : Bool → Graph → Records → List Bool → World → World → Looks → Looks → List DueCommand → Type 0
AreWhy tells graph records flags old new before after told = AllByRecursion (λ command. IsWhy tells graph records flags old new before after command.edge command) told

-- the command of the edge, which has a flag, was told behind these
pub record TellsThis (tells : Bool) (graph : Graph) (records : Records) (flags : List Bool) (old new : World) (before after : Looks) (e : ℕ) (told_before told : List DueCommand) : Type 0 where
  pub flag : due_at flags e ≡ true
  pub command : DueCommand
  pub is : told ≡ told_before ++ command ∷ []
  pub edge : command.edge ≡ e
  pub why : IsWhy tells graph records flags old new before after e command

-- if it has none, nothing was told
abbrev pub TellsOne : Bool → Graph → Records → List Bool → World → World → Looks → Looks → ℕ → List DueCommand → List DueCommand → Type 0
TellsOne tells graph records flags old new before after e told_before told =
    ((due_at flags e ≡ false) × (told ≡ told_before)) ⊎ TellsThis tells graph records flags old new before after e told_before told

-- Just the due commands of the cone, each once and after the makers of what it needs, with what is told of each.
pub record HasTold (tells : Bool) (graph : Graph) (cone : Cone) (records : Records) (due : List Bool) (old new : World) (before after : Looks) (told : List DueCommand) : Type 0 where
  pub order : List ℕ
  pub ordered : IsOrder (links_of graph) [] order
  pub same : IsSameCone graph cone order
  pub flags : List Bool
  pub fits : length flags ≡ length graph.manifest.lines
  pub commands : AreCommands graph due (length graph.manifest.lines) flags
  pub listed : map edge_in told ≡ filter (due_at flags) order
  pub all : AreWhy tells graph records flags old new before after told

-- ---- What calls say that are given a site: `world` tells the world of the site, which the call found as `old` and left as `new`.

abbrev pub FindsWhy : {S E : Type 0} → Bool → (S → World) → S → S → Graph → Records → List Bool → Looks → Looks → ℕ → Result DueCommand E → Type 0
FindsWhy tells world old new graph records flags before after e result =
    IfOk result (IsWhy tells graph records flags (world old) (world new) before after e)

abbrev pub TellsEdge : {S E : Type 0} → Bool → (S → World) → S → S → Graph → Records → List Bool → Looks → Looks → ℕ → Vec DueCommand Global → Vec DueCommand Global → Result (Unit {0}) E → Type 0
TellsEdge tells world old new graph records flags before after e told_before told result =
    OnOk result (TellsOne tells graph records flags (world old) (world new) before after e told_before.items told.items)

abbrev pub TellsWhy : {S E : Type 0} → Bool → (S → World) → S → S → Graph → Records → List Bool → Looks → Looks → Vec DueCommand Global → Result (Unit {0}) E → Type 0
TellsWhy tells world old new graph records flags before after told result =
    OnOk result (AreWhy tells graph records flags (world old) (world new) before after told.items)

abbrev pub TellsDue : {S E : Type 0} → Bool → (S → World) → S → S → Graph → Cone → Records → List Bool → Looks → Looks → Result (Vec DueCommand Global) E → Type 0
TellsDue tells world old new graph cone records due before after result =
    IfOk result (λ told. HasTold tells graph cone records due (world old) (world new) before after told.items)
