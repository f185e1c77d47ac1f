-- Which edges are due after some steps, by the numbers of edges and paths.
use Rattle.std.specs.Prelude.{◌≡◌, ◌↔◌, ◌||◌, ℕ, suc, ◌==◌, Bool, true, false, if◌then◌else◌, IfOk, List, [], length, slice_index_or, Option, Some, None, Result, Vec}
use Rattle.std.specs.List.{AllByRecursion, list_any}
use Rattle.std.specs.Option.{is_none}
use Rattle.std.specs.declared.alloc.Global.{Global}
use Rattle.model.specs.declared.event.Moment.{Moment}
use Rattle.model.specs.declared.graph.Edge.{Edge}
use Rattle.model.specs.World.{World, file_at}
use Rattle.model.specs.Calls.{OnlyLooks}
use Rattle.model.specs.Graph.{has, has_number, maker}
use Rattle.model.specs.Reading.{needs}
use Rattle.model.specs.Records.{Store, recorded_inputs}
use Rattle.model.specs.Schedule.{Step}
use Rattle.model.specs.OutOfDate.{IsDue, ListsCounted}
use Rattle.theory.specs.Order.{IsOrderly}
use Rattle.paths.specs.Told.{text_at}
use Rattle.graph.specs.declared.cone.Cone.{Cone}
use Rattle.graph.specs.declared.graph.Graph.{Graph}
use Rattle.graph.specs.Links.{Links, links_of}
use Rattle.graph.specs.Told.{declared_by}
use Rattle.plan.specs.declared.plan.Plan.{Plan}
use Rattle.plan.specs.declared.step.Standing.TheVariants.{Unjudged}
use Rattle.plan.specs.Standing.{standing_at}
use Rattle.records.specs.declared.records.Records.{Records}
use Rattle.judge.specs.declared.looks.Looks.{Looks}
use Rattle.judge.specs.Judged.{IsReasonFound}
use Rattle.judge.specs.Stores.{IsStoreOf}
use Rattle.judge.specs.Quiet.{StillFinds, OfSteps, IfQuietAt}
use Rattle.judge.specs.UnderWay.{IsUnderWay}

-- ---- by the numbers

abbrev pub due_at : List Bool → ℕ → Bool
due_at due e = slice_index_or due e false

-- there is no file at the path of this number
abbrev pub is_absent : List (List ℕ) → List Moment → ℕ → Bool
is_absent paths files p = is_none (file_at files (text_at paths p))

-- what is made is due where its maker is; a source is where that is said of it
abbrev pub due_by : List Bool → Bool → Option ℕ → Bool
due_by due source None = source
due_by due source (Some e) = due_at due e

-- one of the due edges makes the path
abbrev pub is_made_due : Links → List Bool → ℕ → Bool
is_made_due links due p = due_by due false (links.maker p)

-- one of the due edges makes the path, or it is an absent source
abbrev pub is_due_path : List (List ℕ) → Links → List Moment → List Bool → ℕ → Bool
is_due_path paths links files due p = due_by due (is_absent paths files p) (links.maker p)

-- the phony edge is due, where these are the due edges before it
abbrev pub is_due_alias : List (List ℕ) → Links → List Moment → List Bool → ℕ → Bool
is_due_alias paths links files due e =
    if (length (links.inputs e) == 0) then list_any (is_absent paths files) (links.outputs e) else list_any (is_due_path paths links files due) (links.regular e)

-- one of the due edges makes a regular or a recorded input of the edge
abbrev pub reads_due : Links → List Bool → ℕ → Bool
reads_due links due e = list_any (is_made_due links due) (links.regular e) || list_any (is_made_due links due) (links.recorded e)

-- ---- what calls answer, where the files are these, and are known at the paths of a set

-- the path, if it is a source, is in the set
abbrev pub IsSourceIn : (List ℕ → Bool) → Graph → ℕ → Type 0
IsSourceIn set graph p = (links_of graph).maker p ≡ None → set (text_at graph.manifest.paths p) ≡ true

-- the sources among these paths are in the set
abbrev pub AreSourcesIn : (List ℕ → Bool) → Graph → List ℕ → Type 0
AreSourcesIn set graph ps = AllByRecursion (IsSourceIn set graph) ps

-- the sources among the inputs of all edges are in the set
abbrev pub HasAllSources : (List ℕ → Bool) → Graph → Type 0
HasAllSources set graph = (e : ℕ) → AreSourcesIn set graph ((links_of graph).inputs e)

abbrev pub IsAbsentAt : Graph → ℕ → Bool → (List ℕ → Bool) → List Moment → Type 0
IsAbsentAt graph p is set files = set (text_at graph.manifest.paths p) ≡ true → is ≡ is_absent graph.manifest.paths files p

-- ---- in the words of the model

-- of each maker of what edge i needs it is known whether it is due; what edge i reads can be listed
pub record AreMakersKnown (edges : List Edge) (store : Store) (before : List Step) (files : List Moment) (due : List Bool) (i : ℕ) : Type 0 where
  pub makers : (p : List ℕ) (m : ℕ) → has (needs edges (recorded_inputs store edges) i) p ≡ true → maker edges p ≡ Some (suc m) → (due_at due m ≡ true) ↔ IsDue edges store before files (suc m)
  pub read : List (List ℕ)
  pub counted : ListsCounted edges store files i read

-- the edge that counts as e in the code is due, where this is known of the edges before it
abbrev pub IsDueEdge : Graph → Store → List Step → List Bool → ℕ → List Moment → Bool → Type 0
IsDueEdge graph store before due e files is =
    AreMakersKnown (declared_by graph).edges store before files due (suc e) → (is ≡ true) ↔ IsDue (declared_by graph).edges store before files (suc e)

-- none but the listed edges
abbrev pub AreListed : List ℕ → List Bool → Type 0
AreListed listed due = (e : ℕ) → due_at due e ≡ true → has_number listed e ≡ true

-- just the listed edges that are due
abbrev pub AreDue : List Edge → Store → List Step → List Moment → List ℕ → List Bool → Type 0
AreDue edges store before files listed due = (e : ℕ) → (due_at due e ≡ true) ↔ ((has_number listed e ≡ true) × IsDue edges store before files (suc e))

-- ---- commands that are not due

-- of the command of the edge no reason was found why it has to run, where none has ended: so it is as long as calls only look
abbrev pub IsFoundClean : Bool → Graph → Records → World → World → Looks → ℕ → Type 0
IsFoundClean tells graph records old new seen e = (later : World) → OnlyLooks tells new later → IsReasonFound tells graph records old later seen [] e None

-- the edge has a command, which the plan has not judged
abbrev pub AwaitsJudgement : Graph → Plan → ℕ → Type 0
AwaitsJudgement graph plan e = ((links_of graph).phony e ≡ false) × (standing_at plan.standings.items e ≡ Unjudged)

-- so it is of each of these edges that was not judged, and is not due by these flags
abbrev pub AreFoundClean : Bool → Graph → Records → Plan → World → World → Looks → List ℕ → List Bool → Type 0
AreFoundClean tells graph records plan old new seen listed due =
    (e : ℕ) → has_number listed e ≡ true → due_at due e ≡ false → AwaitsJudgement graph plan e → IsFoundClean tells graph records old new seen e

-- ---- What calls say that are given a site: `world` tells the world of the site, which the call found as `old` and left as `new`. What is
-- known of files is what was seen of them before.

-- the answer says whether the path of this number is absent
abbrev pub FindsAbsent : {S E : Type 0} → Bool → (S → World) → S → S → Graph → Looks → ℕ → Result Bool E → Type 0
FindsAbsent tells world old new graph seen p result = StillFinds tells world old new graph seen result (IsAbsentAt graph p)

-- what is said of steps that may be, where these are the records that were read
abbrev pub OfBuild : Graph → Records → (Store → List (List ℕ) → List Step → Type 0) → Type 0
OfBuild graph records P =
    OfSteps (λ store targets before. IsStoreOf graph records store → IsOrderly (declared_by graph).edges before → P store targets before)

-- where it is not, no reason was found
abbrev pub FindsCleanCommand : {S E : Type 0} → Bool → (S → World) → S → S → Graph → Records → Looks → ℕ → Result Bool E → Type 0
FindsCleanCommand tells world old new graph records seen e result =
    IfOk result (λ is. is ≡ false → IsFoundClean tells graph records (world old) (world new) seen e)

-- where it has a command and is not, no reason was found
abbrev pub FindsClean : {S E : Type 0} → Bool → (S → World) → S → S → Graph → Records → Looks → ℕ → Result Bool E → Type 0
FindsClean tells world old new graph records seen e result =
    IfOk result (λ is. is ≡ false → (links_of graph).phony e ≡ false → IsFoundClean tells graph records (world old) (world new) seen e)

-- So it is after the steps of any build of which the records, the cone and the plan are these.
abbrev pub IfUnderWay : {S : Type 0} → Bool → (S → World) → S → S → Graph → Records → Cone → Plan → Looks → (Store → List (List ℕ) → List Step → List Moment → Type 0) → Type 0
IfUnderWay tells world old new graph records cone plan seen So =
    OfSteps (λ store targets before. IsUnderWay graph records cone plan store targets before
    → IfQuietAt tells world old new graph store targets before seen (λ files. So store targets before files))

-- the flags that are answered say which edges of the cone are due
abbrev pub FindsDueEdges : {S E : Type 0} → Bool → (S → World) → S → S → Graph → Records → Cone → Plan → Looks → Result (Vec Bool Global) E → Type 0
FindsDueEdges tells world old new graph records cone plan seen result =
    IfOk result (λ due. IfUnderWay tells world old new graph records cone plan seen (λ store targets before files.
    AreDue (declared_by graph).edges store before files cone.order.items due.items))

-- of each of the rest that was not judged, no reason was found
abbrev pub FindsRest : {S E : Type 0} → Bool → (S → World) → S → S → Graph → Records → Cone → Plan → Looks → Result (Vec Bool Global) E → Type 0
FindsRest tells world old new graph records cone plan seen result =
    IfOk result (λ due. AreFoundClean tells graph records plan (world old) (world new) seen cone.order.items due.items)
