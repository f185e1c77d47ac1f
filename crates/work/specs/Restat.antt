-- Outputs of commands with `restat` (manual: "Rule variables"): which of them count as changed.
use Rattle.std.specs.Prelude.{◌≡◌, ◌<◌, ◌==◌, not, ℕ, Bool, true, false, List, length, slice_index, slice_index_or, Result, OnOk, Vec}
use Rattle.std.specs.declared.alloc.Global.{Global}
use Rattle.plan.specs.Flags as flags
use Rattle.model.specs.World.{World}
use Rattle.model.specs.Graph.{has_number}
use Rattle.graph.specs.declared.graph.Graph.{Graph}
use Rattle.graph.specs.Links.{links_of}
use Rattle.judge.specs.declared.looks.Look.{Look}
use Rattle.judge.specs.declared.looks.Look.TheVariants.{Unasked, Absent, Stamp}
use Rattle.judge.specs.declared.looks.Looks.{Looks}
use Rattle.judge.specs.Looking.{HasLooked}
use Rattle.judge.specs.Seen.{look_at, is_asked}
use Rattle.work.specs.declared.state.Work.{Work}
use Rattle.work.specs.EdgeIn.{edge_in}

-- both show a file, of one stamp
abbrev pub is_same_look : Look → Look → Bool
is_same_look Unasked after = false
is_same_look Absent after = false
is_same_look (Stamp before) Unasked = false
is_same_look (Stamp before) Absent = false
is_same_look (Stamp before) (Stamp after) = before == after

-- for each of these paths the flag says whether what is seen of it differs from what was
pub record AreChangesOf (before after : List Look) (paths : List ℕ) (given : List Bool) : Type 0 where
  pub fits : length given ≡ length paths
  pub are : (k : ℕ) → k < length paths → flags.has given k ≡ not (is_same_look (look_at before (slice_index paths k)) (look_at after (slice_index paths k)))

-- this was seen of each of these paths
abbrev pub AreLooksOf : List Look → List ℕ → List Look → Type 0
AreLooksOf looks paths seen = (length seen ≡ length paths) × ((k : ℕ) → k < length paths → slice_index_or seen k Unasked ≡ look_at looks (slice_index paths k))

-- each flag says whether what is seen of the path at its place differs from what was
abbrev pub AreFlagsOf : List Look → List ℕ → List Look → List Bool → Type 0
AreFlagsOf looks paths before given =
    (length given ≡ length paths) × ((k : ℕ) → k < length paths → flags.has given k ≡ not (is_same_look (slice_index_or before k Unasked) (look_at looks (slice_index paths k))))

-- with `restat` each output of the edge was asked for
abbrev pub AreAskedBefore : Graph → ℕ → Looks → Type 0
AreAskedBefore graph e looks = (edge_in graph e).restat ≡ true → (p : ℕ) → has_number ((links_of graph).outputs e) p ≡ true → is_asked (look_at looks.seen.items p) ≡ true

-- of each output of the edge the flag says whether what is seen of it differs from what was,
abbrev pub FlagsDiffer : ℕ → Work → Work → Type 0
FlagsDiffer e before after =
    (p : ℕ) → has_number ((links_of before.graph).outputs e) p ≡ true → flags.has after.plan.changed.items p ≡ not (is_same_look (look_at before.looks.seen.items p) (look_at after.looks.seen.items p))

-- and of other paths it is as it was
abbrev pub FlagsStay : ℕ → Work → Work → Type 0
FlagsStay e before after = (p : ℕ) → has_number ((links_of before.graph).outputs e) p ≡ false → flags.has after.plan.changed.items p ≡ flags.has before.plan.changed.items p

-- Whether the flag of an output is right, by what was seen of it before and is now: where these are compared it tells whether the stamp
-- differs, else it is set.
abbrev pub IsFlagged : Bool → Look → Look → Bool → Type 0
IsFlagged true before after flag = (is_asked after ≡ true) × (flag ≡ not (is_same_look before after))
IsFlagged false before after flag = flag ≡ true

-- what was seen of the outputs of an edge is forgotten, and nothing else is
pub record IsForgotten (graph : Graph) (e : ℕ) (before after : Looks) : Type 0 where
  pub forgotten : (p : ℕ) → has_number ((links_of graph).outputs e) p ≡ true → look_at after.seen.items p ≡ Unasked
  pub others : (p : ℕ) → has_number ((links_of graph).outputs e) p ≡ false → look_at after.seen.items p ≡ look_at before.seen.items p
  pub fits : length after.seen.items ≡ length before.seen.items

-- The outputs of the edge were forgotten, and then asked for.
pub record LooksAnew (tells : Bool) (graph : Graph) (e : ℕ) (old new : World) (before after : Looks) : Type 0 where
  pub between : Looks
  pub forgets : IsForgotten graph e before between
  pub looked : HasLooked tells graph old new between after
  pub asked : (p : ℕ) → has_number ((links_of graph).outputs e) p ≡ true → is_asked (look_at after.seen.items p) ≡ true

-- so it does in a call that is well
abbrev pub SeesAnew : {S T E : Type 0} → Bool → (S → World) → S → S → Graph → ℕ → Looks → Looks → Result T E → Type 0
SeesAnew tells world old new graph e before after result = OnOk result (LooksAnew tells graph e (world old) (world new) before after)

-- for each output of the edge the flag says whether what is seen of it differs from what was
abbrev pub TellsChanges : Graph → ℕ → Looks → Looks → Vec Bool Global → Type 0
TellsChanges graph e before after given = AreChangesOf before.seen.items after.seen.items ((links_of graph).outputs e) given.items
