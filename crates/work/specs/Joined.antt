-- What a graph and its run become when what a dyndep file says joins them, and why it does not.
use Rattle.std.specs.Prelude.{◌≡◌, ◌⊎◌, ◌<◌, ◌++◌, ℕ, Bool, true, IsTrue, List, length, vec_len, Option, Some, None, All, Ok, Err, map, take}
use Rattle.model.specs.declared.fault.SiteFault.TheVariants.{Memory}
use Rattle.model.specs.declared.graph.Edge.{Edge}
use Rattle.model.specs.declared.record.Record.{Record}
use Rattle.model.specs.declared.record.DepsRecord.{DepsRecord}
use Rattle.model.specs.World.{World, view_of}
use Rattle.model.specs.Calls.{Sees, is_stop}
use Rattle.model.specs.Graph.{has as has_text, Addition, targets_of, IsMadeOnce}
use Rattle.model.specs.Phases.{IsGrownBy}
use Rattle.model.specs.Records.{Store, recorded_inputs}
use Rattle.model.specs.SingleBuild.{Asked, IsShownCycle, asked_with, declared_graph}
use Rattle.dyndep.specs.declared.addition.Addition.{Addition as Statement}
use Rattle.dyndep.specs.declared.fault.DynFault.TheVariants as said
use Rattle.dyndep.specs.declared.fault.ReadError.{ReadError}
use Rattle.dyndep.specs.declared.fault.ReadError.TheVariants as unread
use Rattle.plan.specs.Flags.{has}
use Rattle.paths.specs.Told.{text_at, texts_at}
use Rattle.graph.specs.declared.cone.Cone.{Cone}
use Rattle.graph.specs.declared.cone.ConeFault.{ConeFault}
use Rattle.graph.specs.declared.fault.ExtendFault.{ExtendFault}
use Rattle.graph.specs.declared.graph.Graph.{Graph}
use Rattle.graph.specs.Alone.{HasGrownAlone}
use Rattle.graph.specs.Back.{Undoes}
use Rattle.graph.specs.declared.back.Before.{Before}
use Rattle.graph.specs.Extended.{HasLoaded, IsUnfit, IsRemadeBy, IsRefusedLoad, addition_of}
use Rattle.graph.specs.Linked.{IsConeOf}
use Rattle.graph.specs.LoadedEdges.{numbers_in}
use Rattle.graph.specs.Targets.{IsConeOfNumbers, IsNoConeAgain}
use Rattle.graph.specs.Told.{declared_by, recorded_by, AreSameInputs}
use Rattle.judge.specs.Seen.{look_at}
use Rattle.records.specs.declared.records.Records.{Records}
use Rattle.records.specs.Known.{IsOf, IsOfDeps, AreKnown}
use Rattle.plan.specs.declared.plan.Plan.{Plan}
use Rattle.plan.specs.Planned.{IsPlanOver}
use Rattle.plan.specs.Extended.{GoesOnFrom}
use Rattle.work.specs.declared.state.Work.{Work}
use Rattle.work.specs.declared.report.Refusal.{Refusal}
use Rattle.work.specs.declared.report.Refusal.TheVariants.{File, MadeTwice, NoDyndepInput, Occupied, NoDyndep, BadVersion, BadStatement, Unfit, UnknownTarget, Cycle, Missing}
use Rattle.work.specs.declared.stop.Stop.{Stop}
use Rattle.work.specs.declared.stop.Stop.TheVariants as stop
use Rattle.work.specs.Standing.{IfFault}
use Rattle.work.specs.Loads.{IsSaying}
use Rattle.work.specs.Recorded.{HasMorePaths, AreToJoin, HasJoinedOf}
use Rattle.model.specs.declared.fault.SiteFault.{SiteFault}
use Rattle.judge.specs.declared.looks.Looks.{Looks}

-- ---- what was read

-- at some moment of a call the path held this, and it is so
pub record WasHeld (tells : Bool) (path : List ℕ) (So : Option (List ℕ) → Type 0) (old new : World) : Type 0 where
  pub held : Option (List ℕ)
  pub so : So held
  pub seen : IsTrue tells → Sees (λ history. view_of history path) held old.history new.history

-- the dyndep file at the path is absent, or holds what cannot be read
abbrev pub IsUnread : Bool → List ℕ → World → World → Refusal → Type 0
IsUnread tells path old new (File fault) = ⊥
IsUnread tells path old new (MadeTwice other) = ⊥
IsUnread tells path old new (NoDyndepInput other) = ⊥
IsUnread tells path old new (Occupied occupied) = ⊥
IsUnread tells path old new (NoDyndep file) = (file ≡ path) × WasHeld tells path (λ held. held ≡ None) old new
IsUnread tells path old new (BadVersion file) = (file ≡ path) × WasHeld tells path (IsSaying (Err said.BadVersion)) old new
IsUnread tells path old new (BadStatement file) = (file ≡ path) × WasHeld tells path (IsSaying (Err said.BadStatement)) old new
IsUnread tells path old new (Unfit unfit) = ⊥
IsUnread tells path old new (UnknownTarget target) = ⊥
IsUnread tells path old new (Cycle paths) = ⊥
IsUnread tells path old new (Missing missing) = ⊥

-- so it is of a file of the graph
abbrev pub IsUnreadAt : {S : Type 0} → Bool → (S → World) → S → S → Graph → ℕ → Refusal → Type 0
IsUnreadAt tells world old new graph file refusal = IsUnread tells (text_at graph.manifest.paths file) (world old) (world new) refusal

-- the site has stopped just where the fault says so
abbrev pub StopsAsSaid : World → SiteFault → Type 0
StopsAsSaid now fault = now.stopped ≡ is_stop {T = Unit {0}} (Err fault)

-- what ends a build whose dyndep file at the path was not read
abbrev pub stop_of : List ℕ → ReadError → Stop
stop_of path unread.Memory = stop.Fault Memory
stop_of path (unread.Fault said.BadVersion) = stop.Refused (BadVersion path)
stop_of path (unread.Fault said.BadStatement) = stop.Refused (BadStatement path)

-- a fault is want of memory
abbrev pub IsMemory : Stop → Type 0
IsMemory stop = IfFault stop (λ fault. fault ≡ Memory)

-- ---- why it does not join

-- the file does not fit these edges, or makes a path anew
abbrev pub IsUnfitBy : List Edge → List ℕ → List Addition → Refusal → Type 0
IsUnfitBy edges file additions (File fault) = ⊥
IsUnfitBy edges file additions (MadeTwice path) = IsRemadeBy edges file additions path
IsUnfitBy edges file additions (NoDyndepInput other) = ⊥
IsUnfitBy edges file additions (Occupied occupied) = ⊥
IsUnfitBy edges file additions (NoDyndep other) = ⊥
IsUnfitBy edges file additions (BadVersion other) = ⊥
IsUnfitBy edges file additions (BadStatement other) = ⊥
IsUnfitBy edges file additions (Unfit unfit) = (unfit.file ≡ file) × IsUnfit edges file additions unfit.output
IsUnfitBy edges file additions (UnknownTarget target) = ⊥
IsUnfitBy edges file additions (Cycle paths) = ⊥
IsUnfitBy edges file additions (Missing missing) = ⊥

-- edges need one another in a circle
abbrev pub IsCircle : Asked → Store → Refusal → Type 0
IsCircle asked store (File fault) = ⊥
IsCircle asked store (MadeTwice path) = ⊥
IsCircle asked store (NoDyndepInput other) = ⊥
IsCircle asked store (Occupied occupied) = ⊥
IsCircle asked store (NoDyndep other) = ⊥
IsCircle asked store (BadVersion other) = ⊥
IsCircle asked store (BadStatement other) = ⊥
IsCircle asked store (Unfit unfit) = ⊥
IsCircle asked store (UnknownTarget target) = ⊥
IsCircle asked store (Cycle paths) = IsShownCycle asked store paths
IsCircle asked store (Missing missing) = ⊥

-- the edges have what the file says, and need one another in a circle by it
pub record IsCircleBy (asked : Asked) (store : Store) (file : List ℕ) (additions : List Addition) (refusal : Refusal) : Type 0 where
  pub next : List Edge
  pub grown : IsGrownBy file additions asked.graph.edges next
  pub once : IsMadeOnce next
  pub circle : IsCircle (asked_with asked next) store refusal

abbrev pub IsUnjoined : Asked → Store → List ℕ → List Addition → Refusal → Type 0
IsUnjoined asked store file additions refusal = IsUnfitBy asked.graph.edges file additions refusal ⊎ IsCircleBy asked store file additions refusal

-- ---- what joins

-- What was asked is done over this graph, with the recorded inputs that are in use; this is its cone, and the plan and what was seen
-- have room for its paths; this file is to be loaded.
pub record MayJoin (asked : Asked) (store : Store) (graph : Graph) (state : Work) (file : ℕ) : Type 0 where
  pub same : asked.graph ≡ declared_by graph
  pub recorded : AreSameInputs (recorded_inputs store asked.graph.edges) (recorded_by graph)
  pub known : AreKnown graph store.records store.deps state.records
  pub over : IsPlanOver graph state.plan
  pub some : 0 < length state.plan.loads.items
  pub within : file < length graph.manifest.paths
  pub seen : length state.looks.seen.items ≡ length graph.manifest.paths
  pub targets : All (λ p. p < length graph.manifest.paths) state.cone.targets.items
  pub numbers : texts_at graph.manifest.paths state.cone.targets.items ≡ targets_of (declared_graph asked) asked.targets
  pub listed : IsConeOf (declared_by graph).edges (recorded_inputs store (declared_by graph).edges) (texts_at graph.manifest.paths state.cone.targets.items) state.cone.order.items state.cone.marks.items

-- the graph got what the file says, and the recorded inputs that are in use then
pub record HasJoinedFile (store : Store) (graph grown : Graph) (file : List ℕ) (additions : List Addition) : Type 0 where
  pub loaded : Graph
  pub has : HasLoaded graph loaded file additions
  pub more : HasMorePaths loaded grown
  pub recorded : AreSameInputs (recorded_inputs store (declared_by grown).edges) (recorded_by grown)

-- and the plan goes on over the cone of the same targets
pub record GoesOnWith (store : Store) (graph grown : Graph) (targets : List ℕ) (cone : Cone) (old new : Plan) (file : List ℕ) (additions : List Addition) : Type 0 where
  pub joined : HasJoinedFile store graph grown file additions
  pub cone_of : IsConeOfNumbers grown (recorded_inputs store (declared_by grown).edges) targets cone
  pub planned : GoesOnFrom graph grown cone old new

-- the state has room for the paths of the graph, and what it knew stays
pub record HasRoomIn (graph : Graph) (old new : Work) : Type 0 where
  pub fits : length new.looks.seen.items ≡ length graph.manifest.paths
  pub looks : (p : ℕ) → look_at new.looks.seen.items p ≡ look_at old.looks.seen.items p
  pub changed : (p : ℕ) → has new.plan.changed.items p ≡ has old.plan.changed.items p
  pub tick : new.tick ≡ old.tick
  pub starts : new.starts.items ≡ old.starts.items
  pub failed : new.failed.items ≡ old.failed.items

-- what was known of the one graph is known of the other
abbrev pub StayKnown : Graph → Graph → Records → Records → Type 0
StayKnown graph grown old new = (rs : List Record) (ds : List DepsRecord) → AreKnown graph rs ds old → AreKnown grown rs ds new

-- of the state nothing is changed but how the records are kept
pub record IsAsBefore (old new : Work) : Type 0 where
  pub cone : new.cone ≡ old.cone
  pub plan : new.plan ≡ old.plan
  pub looks : new.looks.seen.items ≡ old.looks.seen.items
  pub logs : new.records.logs ≡ old.records.logs
  pub tick : new.tick ≡ old.tick
  pub starts : new.starts.items ≡ old.starts.items
  pub failed : new.failed.items ≡ old.failed.items

-- nothing is changed but that
pub record IsUndone (graph grown : Graph) (old new : Work) : Type 0 where
  pub graph_is : grown ≡ graph
  pub state : IsAsBefore old new
  pub known : StayKnown graph graph old.records new.records

-- ---- on the way

-- what was asked is done over this graph, to which what the file says has joined so far, so that it became the one that was loaded
pub record IsJoining (asked : Asked) (store : Store) (graph loaded : Graph) (state : Work) (before : Before) : Type 0 where
  pub file : ℕ
  pub additions : List Addition
  pub may : MayJoin asked store graph state file
  pub undoes : Undoes graph loaded file before
  pub has : HasLoaded graph loaded (text_at graph.manifest.paths file) additions
  pub alone : HasGrownAlone (numbers_in before.edges.items) before.file graph loaded

-- so it is of some graph
abbrev pub IsLoaded : Graph → Work → Before → Type 0
IsLoaded loaded state before = (asked : Asked) × (store : Store) × (graph : Graph) × IsJoining asked store graph loaded state before

-- each plan goes on, over the graph as it was before the file joined,
abbrev pub GoesOnBy : ℕ → List Statement → Work → Work → Type 0
GoesOnBy file said state after =
    (asked : Asked) (store : Store) → MayJoin asked store state.graph state file
    → GoesOnWith store state.graph after.graph state.cone.targets.items after.cone state.plan after.plan (text_at state.graph.manifest.paths file) (map addition_of said)

-- or behind that
abbrev pub GoesOnOver : Before → Work → Work → Type 0
GoesOnOver before state after =
    (asked : Asked) (store : Store) (graph : Graph) → (joining : IsJoining asked store graph state.graph state before)
    → GoesOnWith store graph after.graph state.cone.targets.items after.cone state.plan after.plan (text_at graph.manifest.paths joining.file) joining.additions

-- a refusal has its cause in what the file says, over the graph as it was before the file joined,
abbrev pub UnjoinedBy : ℕ → List Statement → Work → Refusal → Type 0
UnjoinedBy file said state refusal =
    (asked : Asked) (store : Store) → MayJoin asked store state.graph state file → IsUnjoined asked store (text_at state.graph.manifest.paths file) (map addition_of said) refusal

-- or behind that
abbrev pub UnjoinedOver : Before → Graph → Work → Refusal → Type 0
UnjoinedOver before loaded state refusal =
    (asked : Asked) (store : Store) (graph : Graph) → (joining : IsJoining asked store graph loaded state before)
    → IsUnjoined asked store (text_at graph.manifest.paths joining.file) joining.additions refusal

-- of each graph that had its paths in front it is so
abbrev pub OfShorter : Graph → (Graph → Type 0) → Type 0
OfShorter graph So = (was : Graph) (more : List (List ℕ)) → graph.manifest.paths ≡ was.manifest.paths ++ more → So was

-- what was known of each such graph is known of the grown one
abbrev pub StayKnownFrom : Graph → Graph → Records → Records → Type 0
StayKnownFrom graph grown old new = OfShorter graph (λ was. StayKnown was grown old new)

-- what was seen of the paths that there were before is as it was
abbrev pub SawBefore : Looks → Looks → Type 0
SawBefore old new = take (length old.seen.items) new.seen.items ≡ old.seen.items

-- the graph has got what this file says
abbrev pub HasLoadedFile : ℕ → List Statement → Graph → Graph → Type 0
HasLoadedFile file said graph grown = HasLoaded graph grown (text_at graph.manifest.paths file) (map addition_of said)

-- the recorded inputs of these edges join the graph, by records that were known of the one before
abbrev pub JoinsOf : List ℕ → Graph → Graph → Graph → Records → Type 0
JoinsOf edges was loaded grown records =
    (rs : List Record) (ds : List DepsRecord) → AreKnown was rs ds records → AreToJoin edges loaded rs ds → HasJoinedOf edges loaded grown rs ds

-- so those of the edges whose file was loaded do, whichever graph was the one before
abbrev pub JoinsFrom : Before → Graph → Graph → Records → Type 0
JoinsFrom before loaded grown records = OfShorter loaded (λ was. JoinsOf (numbers_in before.edges.items) was loaded grown records)

-- some records were known of a graph that had its paths in front
abbrev pub WereKnown : Graph → Records → Type 0
WereKnown graph records =
    (was : Graph) × (more : List (List ℕ)) × (rs : List Record) × (ds : List DepsRecord) × (graph.manifest.paths ≡ was.manifest.paths ++ more) × AreKnown was rs ds records

-- what was looked up is what was
pub record AreSamePlaces (old new : Records) : Type 0 where
  pub places : new.places.items ≡ old.places.items
  pub deps_places : new.deps_places.items ≡ old.deps_places.items

-- what was looked up is what was, or stands for all paths of the graph: what went beyond can be forgotten
abbrev pub MayShrink : Graph → Records → Records → Type 0
MayShrink graph old new =
    AreSamePlaces old new
    ⊎ OfShorter graph (λ was. (rs : List Record) (ds : List DepsRecord) → AreKnown was rs ds old → IsOf rs graph.manifest.paths new × IsOfDeps ds graph.manifest.paths new)

-- the logs, the file of ticks, the stamps of starts and the failed edges are as before
pub record KeepsRest (old new : Work) : Type 0 where
  pub logs : new.records.logs ≡ old.records.logs
  pub tick : new.tick ≡ old.tick
  pub starts : new.starts.items ≡ old.starts.items
  pub failed : new.failed.items ≡ old.failed.items

-- ---- the cone of the same targets

-- this was asked, with the edges of the graph and these targets, and its recorded inputs are in use
abbrev pub IsAskedOver : Graph → List ℕ → Type 0
IsAskedOver graph targets =
    (asked : Asked) × (store : Store) × (asked.graph ≡ declared_by graph) × (targets_of (declared_graph asked) asked.targets ≡ texts_at graph.manifest.paths targets) × AreSameInputs (recorded_inputs store asked.graph.edges) (recorded_by graph)

-- their cone, by each function of recorded inputs that has the same paths
abbrev pub IsConeAgain : Graph → List ℕ → Cone → Type 0
IsConeAgain graph targets grown = (recorded : ℕ → List (List ℕ)) → AreSameInputs recorded (recorded_by graph) → IsConeOfNumbers graph recorded targets grown

-- the cone behind a load: the one that was made, else the one that was
abbrev pub cone_then : Cone → Option Cone → Cone
cone_then kept None = kept
cone_then kept (Some made) = made

-- it has a mark for each edge of the graph
abbrev pub HasMarksFor : Graph → Cone → Type 0
HasMarksFor graph cone = vec_len cone.marks ≡ length graph.manifest.lines

-- behind a load of this run the cone is that of its targets
abbrev pub IsConeBehind : Work → Option Cone → Type 0
IsConeBehind state grown = IsConeAgain state.graph state.cone.targets.items (cone_then state.cone grown)

-- of whatever was asked so, edges need one another in a circle
abbrev pub IsCircleOver : Graph → List ℕ → Refusal → Type 0
IsCircleOver graph targets refusal =
    (asked : Asked) (store : Store) → asked.graph ≡ declared_by graph → targets_of (declared_graph asked) asked.targets ≡ texts_at graph.manifest.paths targets → AreSameInputs (recorded_inputs store asked.graph.edges) (recorded_by graph)
    → IsCircle asked store refusal

-- it is that of the same targets over a graph that was there before the load that this undoes
pub record MayKeep (graph : Graph) (cone : Cone) (load : Before) : Type 0 where
  pub old : Graph
  pub earlier : ℕ → List (List ℕ)
  pub within : load.file < length old.manifest.paths
  pub lines : length graph.manifest.lines ≡ length old.manifest.lines
  pub additions : List Addition
  pub grown : IsGrownBy (text_at old.manifest.paths load.file) additions (declared_by old).edges (declared_by graph).edges
  pub alone : HasGrownAlone (numbers_in load.edges.items) load.file old graph
  pub were : AreSameInputs earlier (recorded_by old)
  pub stay : (i : ℕ) (p : List ℕ) → has_text (earlier i) p ≡ true → has_text (recorded_by graph i) p ≡ true
  pub was : IsConeOf (declared_by old).edges earlier (texts_at graph.manifest.paths cone.targets.items) cone.order.items cone.marks.items

-- ---- what a fault of the graph says

-- the additions do not fit the edges of the graph, or make a path anew
abbrev pub IsUnfitAt : ℕ → List Statement → Graph → Refusal → Type 0
IsUnfitAt file said graph refusal = IsUnfitBy (declared_by graph).edges (text_at graph.manifest.paths file) (map addition_of said) refusal

-- so it is of each load that ended by the fault
abbrev pub IsUnfitOf : Graph → ℕ → ExtendFault → Refusal → Type 0
IsUnfitOf graph file fault refusal =
    (of : Graph) (additions : List Addition) → IsRefusedLoad of (text_at graph.manifest.paths file) additions fault → IsUnfitBy (declared_by of).edges (text_at graph.manifest.paths file) additions refusal

-- edges need one another in a circle, of whatever was asked, if by that there is no cone again
abbrev pub IsCircleOf : List (List ℕ) → ConeFault → Refusal → Type 0
IsCircleOf paths fault refusal = (asked : Asked) (store : Store) → IsNoConeAgain asked store paths fault → IsCircle asked store refusal

-- the file at the path said this
abbrev pub WasSaid : {S : Type 0} → Bool → (S → World) → S → S → Graph → ℕ → List Statement → Type 0
WasSaid tells world old new graph file additions = WasHeld tells (text_at graph.manifest.paths file) (IsSaying (Ok additions)) (world old) (world new)
