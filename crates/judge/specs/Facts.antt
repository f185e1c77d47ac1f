-- What the judgement of an edge reads, by the numbers of paths.
use Rattle.std.specs.Prelude.{◌≡◌, ◌≢◌, ◌<◌, ◌↔◌, ◌⊎◌, ◌||◌, not, ℕ, suc, Bool, true, false, IsTrue, IfOk, IsSome, List, [], ◌∷◌, ◌++◌, if◌then◌else◌, map, length, get_or, Option, Some, None, is_some, Result, bytes_eq}
use Rattle.std.specs.List.{AllByRecursion, flat_map}
use Rattle.model.specs.declared.act.Act.{Act}
use Rattle.model.specs.declared.event.Moment.{Moment}
use Rattle.model.specs.declared.graph.Deps.{Deps}
use Rattle.model.specs.declared.graph.Deps.TheVariants.{Unset}
use Rattle.model.specs.declared.record.Record.{Record}
use Rattle.model.specs.declared.record.DepsRecord.{DepsRecord}
use Rattle.model.specs.World.{World, View, file_at, stamp_of}
use Rattle.model.specs.Graph.{has_number}
use Rattle.model.specs.Reading.{IsRead}
use Rattle.model.specs.OutOfDate.{deps_start}
use Rattle.model.specs.Records.{in_force, deps_in_force}
use Rattle.model.specs.Judgement.{OutputFacts, InputFacts}
use Rattle.paths.specs.declared.manifest.Command.{Command}
use Rattle.paths.specs.Told.{text_at}
use Rattle.graph.specs.declared.graph.Graph.{Graph}
use Rattle.graph.specs.Links.{links_of}
use Rattle.graph.specs.Alias.{counts_if_present}
use Rattle.graph.specs.ReadingOf.{IsCountedIn}
use Rattle.graph.specs.Told.{declared_by}
use Rattle.judge.specs.declared.looks.Look.{Look}
use Rattle.judge.specs.declared.looks.Look.TheVariants.{Unasked, Absent, Stamp}
use Rattle.judge.specs.declared.looks.Looks.{Looks}
use Rattle.judge.specs.Seen.{look_at, is_asked, AreKept}
use Rattle.judge.specs.declared.input_facts.Inputs.{Inputs}
use Rattle.judge.specs.declared.output_facts.Outputs.{Outputs}
use Rattle.judge.specs.Summaries.{AreOutputs, AreInputs}
use Rattle.records.specs.declared.records.Records.{Records}
use Rattle.records.specs.Known.{IsOf, IsOfDeps, OfKnownDeps}

-- a path past the end of the list was not made anew
abbrev pub flag_at : List Bool → ℕ → Bool
flag_at flags p = get_or flags p false

-- an output, as these records and files have it
abbrev pub output_at : List (List ℕ) → List Record → List DepsRecord → List Moment → ℕ → OutputFacts
output_at paths rs ds files p =
    record { stamp = stamp_of (file_at files (text_at paths p)); made = in_force rs (text_at paths p); deps_start = deps_start (deps_in_force ds (text_at paths p)) }

-- the records are these for the paths in front, among which are those of these numbers
pub record AreKnownOf (paths : List (List ℕ)) (numbers : List ℕ) (rs : List Record) (ds : List DepsRecord) (records : Records) : Type 0 where
  pub first : List (List ℕ)
  pub more : List (List ℕ)
  pub grown : paths ≡ first ++ more
  pub within : (p : ℕ) → has_number numbers p ≡ true → p < length first
  pub known : IsOf rs first records
  pub told : IsOfDeps ds first records

-- the stamp of the file at the path of this number
abbrev pub stamp_at : List (List ℕ) → List Moment → ℕ → Option ℕ
stamp_at paths files p = stamp_of (file_at files (text_at paths p))

-- the path of this stamp as an input, always or where it counts: its file is there, or no phony edge with inputs makes it
abbrev pub one_input : Graph → List Bool → Bool → ℕ → Option ℕ → List InputFacts
one_input graph flags always p stamp =
    if always || (is_some stamp || not (counts_if_present (links_of graph) p)) then record { stamp = stamp; changed = flag_at flags p } ∷ [] else []

-- these paths as inputs, as these files have them
abbrev pub all_inputs : Graph → List Bool → Bool → List Moment → List ℕ → List InputFacts
all_inputs graph flags always files numbers = flat_map (λ p. one_input graph flags always p (stamp_at graph.manifest.paths files p)) numbers

-- the paths of these numbers are in the set
abbrev pub AreIn : (List ℕ → Bool) → List (List ℕ) → List ℕ → Type 0
AreIn set paths numbers = AllByRecursion (λ p. set (text_at paths p) ≡ true) numbers

-- ---- what calls answer, for each set of paths that keep their files

-- these outputs were taken in
abbrev pub HasOutputs : Graph → Act → List Record → List DepsRecord → List ℕ → Outputs → (List ℕ → Bool) → List Moment → Type 0
HasOutputs graph act rs ds numbers outputs set files =
    AreIn set graph.manifest.paths numbers → AreOutputs act (map (output_at graph.manifest.paths rs ds files) numbers) outputs

-- it was seen whether the depfile is there, where the command names one and is to leave it
abbrev pub HasDepfile : Act → Deps → Bool → List Moment → Type 0
HasDepfile act deps is files = act.depfile ≢ [] → deps ≡ Unset → is ≡ is_some (file_at files act.depfile)

-- the path of this stamp was taken in, after others
abbrev pub TakesOne : Graph → List Bool → Bool → ℕ → Option ℕ → Inputs → Inputs → Type 0
TakesOne graph flags always p stamp old new = (inputs : List InputFacts) → AreInputs inputs old → AreInputs (inputs ++ one_input graph flags always p stamp) new

-- these are all inputs of an edge that reads these paths, as far as they count
abbrev pub HasInputs : Graph → List Bool → List ℕ → ℕ → Inputs → (List ℕ → Bool) → List Moment → Type 0
HasInputs graph flags numbers e inputs set files =
    AreIn set graph.manifest.paths numbers → AreIn set graph.manifest.paths ((links_of graph).recorded e)
    → AreInputs (all_inputs graph flags false files numbers ++ all_inputs graph flags true files ((links_of graph).recorded e)) inputs

-- just what the edge reads is named by these edges and counts, in each view
abbrev pub IsReadBy : Graph → ℕ → List ℕ → Type 0
IsReadBy graph e edges = (view : View) (p : List ℕ) → IsRead (declared_by graph).edges view (suc e) p ↔ IsCountedIn graph edges view p

-- in this view the path is one of these, and counts
pub record IsCountedAmong (graph : Graph) (numbers : List ℕ) (view : View) (p : List ℕ) : Type 0 where
  pub path : ℕ
  pub listed : has_number numbers path ≡ true
  pub text : text_at graph.manifest.paths path ≡ p
  pub counts : (counts_if_present (links_of graph) path ≡ false) ⊎ IsSome (view p)

-- just what the edge reads is one of these paths and counts, in each view
abbrev pub IsReadAmong : Graph → ℕ → List ℕ → Type 0
IsReadAmong graph e numbers = (view : View) (p : List ℕ) → IsRead (declared_by graph).edges view (suc e) p ↔ IsCountedAmong graph numbers view p

-- ---- by what was seen of paths

-- the stamp that was seen
abbrev pub seen_stamp : Look → Option ℕ
seen_stamp Unasked = None
seen_stamp Absent = None
seen_stamp (Stamp stamp) = Some stamp

-- these paths as inputs, as they were seen
abbrev pub seen_inputs : Graph → List Bool → Bool → List Look → List ℕ → List InputFacts
seen_inputs graph flags always seen numbers = flat_map (λ p. one_input graph flags always p (seen_stamp (look_at seen p))) numbers

-- these paths were asked for
abbrev pub AreAsked : List Look → List ℕ → Type 0
AreAsked seen numbers = AllByRecursion (λ p. is_asked (look_at seen p) ≡ true) numbers

-- these paths were asked for and taken in, after others
pub record HasTaken (graph : Graph) (flags : List Bool) (always : Bool) (seen : List Look) (numbers : List ℕ) (old new : Inputs) : Type 0 where
  pub asked : AreAsked seen numbers
  pub takes : (inputs : List InputFacts) → AreInputs inputs old → AreInputs (inputs ++ seen_inputs graph flags always seen numbers) new

-- ---- What calls say that are given a site: `world` tells the world of the site, which the call found as `old` and left as `new`.

-- the answer says whether the depfile of the command is there, where that kept its file
abbrev pub FindsDepfile : {S E : Type 0} → Bool → (S → World) → S → S → Command → Result Bool E → Type 0
FindsDepfile tells world old new command result =
    IfOk result (λ is. IsTrue tells → (command.act.depfile ≢ [] → AreKept (bytes_eq command.act.depfile) (world old).history (world new).history)
    → HasDepfile command.act command.deps is (world new).history)

-- these paths were taken in after others, as they were seen
abbrev pub TakesPaths : Graph → List Bool → Bool → Looks → List ℕ → Inputs → Inputs → Type 0
TakesPaths graph flags always looks numbers old new = HasTaken graph flags always looks.seen.items numbers old new

-- and so were the regular inputs of these edges, as far as they count
abbrev pub TakesEdges : Graph → List Bool → Looks → List ℕ → Inputs → Inputs → Type 0
TakesEdges graph flags looks edges old new = TakesPaths graph flags false looks (flat_map (links_of graph).regular edges) old new

-- the start that the deps record in force of the path names, by whatever records these are
abbrev pub IsDepsStart : Records → ℕ → Option ℕ → Type 0
IsDepsStart records p start = OfKnownDeps records (λ ds paths. p < length paths → start ≡ deps_start (deps_in_force ds (text_at paths p)))
