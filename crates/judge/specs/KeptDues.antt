-- Flags of due edges that are kept, and the places in the order of a cone at which they are to be found again.
use Rattle.std.specs.Prelude.{◌≡◌, ◌≢◌, ◌⊎◌, ◌<◌, ◌≤◌, ℕ, suc, Bool, true, false, List, [], ◌∷◌, length, vec_len, get_or, slice_set, Some, None, Option, IfOk, IfNone, Result}
use Rattle.model.specs.declared.graph.Deps.{Deps}
use Rattle.model.specs.declared.graph.Deps.TheVariants.{Unset}
use Rattle.model.specs.Graph.{has_number, edge_at}
use Rattle.model.specs.Records.{Store}
use Rattle.model.specs.Schedule.{Step}
use Rattle.graph.specs.declared.cone.Cone.{Cone}
use Rattle.graph.specs.declared.graph.Graph.{Graph}
use Rattle.graph.specs.Cone.{mark_at, is_listed}
use Rattle.graph.specs.Linked.{StandFor}
use Rattle.graph.specs.Links.{links_of, users_at}
use Rattle.graph.specs.Places.{place_in}
use Rattle.graph.specs.Told.{declared_by}
use Rattle.plan.specs.declared.plan.Plan.{Plan}
use Rattle.plan.specs.Flags.{has, AreNone}
use Rattle.plan.specs.Standing.{standing_at}
use Rattle.records.specs.declared.records.Records.{Records}
use Rattle.judge.specs.declared.answers.Answers.{Answers}
use Rattle.judge.specs.declared.dues.Dues.{Dues}
use Rattle.judge.specs.declared.lack.Found.{Found}
use Rattle.judge.specs.declared.lack.Lack.{Lack}
use Rattle.judge.specs.declared.looks.Look.{Look}
use Rattle.judge.specs.declared.looks.Looks.{Looks}
use Rattle.judge.specs.Answers.{HasGrownBy, StandBoth, AreKnownStill, TellSame}
use Rattle.judge.specs.Seen.{StaysKnown}
use Rattle.judge.specs.UnderWay.{IsUnderWay, judged_due, was_due}
use Rattle.judge.specs.Dues.{due_at, AreListed}
use Rattle.judge.specs.Lacks.{IfPresent}
use Rattle.judge.specs.Ruled.{is_absent_seen, WasAsked, IsRuled, IsFoundAnew, ComeAfterMakers}

-- ---- edges and places

-- the marks of the cone say which edges are listed
abbrev pub AreMarksOf : Cone → Type 0
AreMarksOf cone = (e : ℕ) → is_listed (mark_at cone.marks.items e) ≡ has_number cone.order.items e

-- where the edge stands in the order of the cone
abbrev pub place_of : Cone → ℕ → ℕ
place_of cone e = place_in cone.places.items e

-- which edge stands at this place
abbrev pub edge_of_place : Cone → ℕ → ℕ
edge_of_place cone k = get_or cone.order.items k 0

-- one of these edges is listed, and stands at this place
pub record StandsAmong (cone : Cone) (edges : List ℕ) (k : ℕ) : Type 0 where
  pub edge : ℕ
  pub given : has_number edges edge ≡ true
  pub listed : has_number cone.order.items edge ≡ true
  pub place : place_of cone edge ≡ k

-- a listed edge that needs one of these paths stands there
pub record StandsAmongUsers (graph : Graph) (cone : Cone) (paths : List ℕ) (k : ℕ) : Type 0 where
  pub path : ℕ
  pub given : has_number paths path ≡ true
  pub user : StandsAmong cone (users_at graph path) k

-- ---- places that are noted

-- the places of those of these edges that are listed are noted beside those that were, and nothing else is changed
pub record NotesEdges (cone : Cone) (edges : List ℕ) (old new : Dues) : Type 0 where
  pub known : new.known ≡ old.known
  pub flags : new.flags.items ≡ old.flags.items
  pub fresh : new.fresh ≡ old.fresh
  pub fits : length new.todo ≡ length old.todo
  pub more : (k : ℕ) → has old.todo k ≡ true → has new.todo k ≡ true
  pub all : (e : ℕ) → has_number edges e ≡ true → has_number cone.order.items e ≡ true → has new.todo (place_of cone e) ≡ true
  pub only : (k : ℕ) → has new.todo k ≡ true → (has old.todo k ≡ true) ⊎ StandsAmong cone edges k

-- and so are those of the edges that need one of these paths
pub record NotesUsers (graph : Graph) (cone : Cone) (paths : List ℕ) (old new : Dues) : Type 0 where
  pub known : new.known ≡ old.known
  pub flags : new.flags.items ≡ old.flags.items
  pub fresh : new.fresh ≡ old.fresh
  pub fits : length new.todo ≡ length old.todo
  pub more : (k : ℕ) → has old.todo k ≡ true → has new.todo k ≡ true
  pub all : (p e : ℕ) → has_number paths p ≡ true → has_number (users_at graph p) e ≡ true → has_number cone.order.items e ≡ true → has new.todo (place_of cone e) ≡ true
  pub only : (k : ℕ) → has new.todo k ≡ true → (has old.todo k ≡ true) ⊎ StandsAmongUsers graph cone paths k

-- each listed edge that needs what the edge makes is noted
abbrev pub HasNotedUsers : Graph → Cone → ℕ → List Bool → Type 0
HasNotedUsers graph cone e todo =
    (p q : ℕ) → has_number ((links_of graph).outputs e) p ≡ true → has_number (users_at graph p) q ≡ true → has_number cone.order.items q ≡ true → has todo (place_of cone q) ≡ true

-- and so are those of these edges, and those of the edges that need what they make
pub record NotesGrown (graph : Graph) (cone : Cone) (edges : List ℕ) (old new : Dues) : Type 0 where
  pub known : new.known ≡ old.known
  pub flags : new.flags.items ≡ old.flags.items
  pub fresh : new.fresh ≡ old.fresh
  pub fits : length new.todo ≡ length old.todo
  pub more : (k : ℕ) → has old.todo k ≡ true → has new.todo k ≡ true
  pub all : (e : ℕ) → has_number edges e ≡ true → has_number cone.order.items e ≡ true → has new.todo (place_of cone e) ≡ true
  pub users : (e : ℕ) → has_number edges e ≡ true → HasNotedUsers graph cone e new.todo
  pub only : (k : ℕ) → has new.todo k ≡ true → (has old.todo k ≡ true) ⊎ (k < length cone.order.items)

-- the marks say which edges are listed, and there is room for their places
pub record HasPlaces (cone : Cone) (dues : Dues) : Type 0 where
  pub marks : AreMarksOf cone
  pub room : length cone.order.items ≤ length dues.todo

-- ---- one edge that was found again

-- The flag of the edge is this, and its sources are to be asked for. It is noted no more, and where its flag has changed, the edges are that
-- need what it makes.
pub record NotesFound (graph : Graph) (cone : Cone) (e : ℕ) (is : Bool) (old new : Dues) : Type 0 where
  pub known : new.known ≡ old.known
  pub fits : length new.flags.items ≡ length old.flags.items
  pub room : length new.todo ≡ length old.todo
  pub fresh : new.fresh ≡ slice_set old.fresh e true
  pub flag : due_at new.flags.items e ≡ is
  pub others : (q : ℕ) → (q ≡ e → ⊥) → due_at new.flags.items q ≡ due_at old.flags.items q
  pub more : (k : ℕ) → (k ≡ place_of cone e → ⊥) → has old.todo k ≡ true → has new.todo k ≡ true
  pub users : (due_at new.flags.items e ≡ due_at old.flags.items e) ⊎ HasNotedUsers graph cone e new.todo
  pub only : (k : ℕ) → has new.todo k ≡ true → ((has old.todo k ≡ true) × ((k ≡ place_of cone e) → ⊥)) ⊎ StandsAmongUsers graph cone ((links_of graph).outputs e) k

-- ---- what is kept

-- the command leaves no depfile that the site is asked for
abbrev pub LeavesNone : List ℕ → Deps → Type 0
LeavesNone depfile deps = depfile ≢ [] → deps ≡ Unset → ⊥

-- the site is not asked for the depfile of the edge
abbrev pub AsksForNone : Graph → ℕ → Type 0
AsksForNone graph e = (links_of graph).phony e ≡ false → LeavesNone (edge_at (declared_by graph).edges (suc e)).act.depfile (edge_at (declared_by graph).edges (suc e)).deps

-- the flag of the edge is what was judged of it or what the rule says, with some depfile
pub record IsRuledStill (graph : Graph) (records : Records) (plan : Plan) (seen : List Look) (due : List Bool) (e : ℕ) : Type 0 where
  pub depfile : Bool
  pub ruled : IsRuled graph records plan seen due depfile e

-- The cone is one of makers first, of which the marks tell, and there is room for its places.
pub record IsRoomFor (graph : Graph) (cone : Cone) (dues : Dues) : Type 0 where
  pub fits : length dues.flags.items ≡ length graph.manifest.lines
  pub sized : vec_len cone.marks ≡ length graph.manifest.lines
  pub room : length cone.order.items ≤ length dues.todo
  pub within : (k : ℕ) → has dues.todo k ≡ true → k < length cone.order.items
  pub marks : AreMarksOf cone
  pub ordered : ComeAfterMakers (links_of graph) cone.order.items

-- each flag is right but for those that are noted, and no edge outside of the cone has one
pub record AreRuledBut (graph : Graph) (records : Records) (cone : Cone) (plan : Plan) (seen : List Look) (dues : Dues) : Type 0 where
  pub room : IsRoomFor graph cone dues
  pub flagged : AreListed cone.order.items dues.flags.items
  pub each : (k : ℕ) → k < length cone.order.items → has dues.todo k ≡ false → IsRuledStill graph records plan seen dues.flags.items (edge_of_place cone k)

-- of no edge that is not noted a depfile is asked for, as far as its flag is what was found of its command
abbrev pub AskForNone : Graph → Cone → Plan → Dues → Type 0
AskForNone graph cone plan dues =
    (k : ℕ) → k < length cone.order.items → has dues.todo k ≡ false → IsFoundAnew graph plan dues.flags.items (edge_of_place cone k) → AsksForNone graph (edge_of_place cone k)

-- the site is asked for the depfile of no edge of the cone
abbrev pub AsksNowhere : Graph → Cone → Type 0
AsksNowhere graph cone = (k : ℕ) → k < length cone.order.items → AsksForNone graph (edge_of_place cone k)

-- ---- sources

-- the path is no missing source, as it was seen
abbrev pub IsSourceSeen : Graph → List Look → ℕ → Type 0
IsSourceSeen graph seen p = (links_of graph).maker p ≡ None → (WasAsked seen p) × (is_absent_seen seen p ≡ false)

-- so it is of each of these
abbrev pub AreSourcesSeen : Graph → List Look → List ℕ → Type 0
AreSourcesSeen graph seen paths = (p : ℕ) → has_number paths p ≡ true → IsSourceSeen graph seen p

-- there is room to say of each edge that its sources are to be asked for, and it is said of edges alone
pub record HasFreshRoom (graph : Graph) (dues : Dues) : Type 0 where
  pub room : length graph.manifest.lines ≤ length dues.fresh
  pub within : (e : ℕ) → has dues.fresh e ≡ true → e < length graph.manifest.lines

-- no due edge lacks a source but those whose sources are to be asked for
pub record LacksNoneOf (graph : Graph) (seen : List Look) (dues : Dues) : Type 0 where
  pub room : HasFreshRoom graph dues
  pub edges : (e : ℕ) → due_at dues.flags.items e ≡ true → has dues.fresh e ≡ false → AreSourcesSeen graph seen ((links_of graph).inputs e)

-- no target is missing, and no due edge lacks a source but those, and those that are to be found again
pub record LacksNoneBut (graph : Graph) (cone : Cone) (seen : List Look) (dues : Dues) : Type 0 where
  pub room : HasFreshRoom graph dues
  pub targets : AreSourcesSeen graph seen cone.targets.items
  pub edges : (e : ℕ) → due_at dues.flags.items e ≡ true → has dues.todo (place_of cone e) ≡ false → has dues.fresh e ≡ false → AreSourcesSeen graph seen ((links_of graph).inputs e)

-- ---- all of it

-- flags that are kept are right but for those that are noted, no depfile is asked for, and no source is missing but where that is to be asked
pub record AreKeptRight (graph : Graph) (records : Records) (cone : Cone) (plan : Plan) (seen : List Look) (dues : Dues) : Type 0 where
  pub but : AreRuledBut graph records cone plan seen dues
  pub asks : AsksNowhere graph cone
  pub lacks : LacksNoneBut graph cone seen dues

-- so it is of what looks keep, if they keep any
abbrev pub KeepsDues : Graph → Records → Cone → Plan → Looks → Type 0
KeepsDues graph records cone plan looks = looks.sums.answers.dues.known ≡ true → AreKeptRight graph records cone plan looks.seen.items looks.sums.answers.dues

-- the cone is one of makers first, and its marks say which edges are listed
pub record HasMakersFirst (graph : Graph) (cone : Cone) : Type 0 where
  pub sized : vec_len cone.marks ≡ length graph.manifest.lines
  pub marks : AreMarksOf cone
  pub ordered : ComeAfterMakers (links_of graph) cone.order.items

-- just these flags are kept, and none of them is to be found again, nor is any source to be asked for
pub record BeginsWith (places : ℕ) (due : List Bool) (new : Dues) : Type 0 where
  pub flags : new.flags.items ≡ due
  pub room : places ≤ length new.todo
  pub none : AreNone new.todo
  pub asking : length due ≤ length new.fresh
  pub old : AreNone new.fresh

-- and no depfile is asked for
pub record HasBegunWith (graph : Graph) (cone : Cone) (due : List Bool) (new : Dues) : Type 0 where
  pub begins : BeginsWith (vec_len cone.order) due new
  pub asks : AsksNowhere graph cone

-- these flags are kept, or none are
abbrev pub BeginsFlags : Graph → Cone → List Bool → Dues → Type 0
BeginsFlags graph cone due new = new.known ≡ true → HasBegunWith graph cone due new

-- what was found of commands is kept as it was
abbrev pub KeepsAnswers : Answers → Answers → Type 0
KeepsAnswers old new = new.known ≡ old.known

-- and so are flags, and which of them are to be found again
pub record KeepsFlags (old new : Answers) : Type 0 where
  pub answers : KeepsAnswers old new
  pub known : new.dues.known ≡ old.dues.known
  pub flags : new.dues.flags ≡ old.dues.flags
  pub todo : new.dues.todo ≡ old.dues.todo

-- ---- what calls answer

-- the path is no missing source, where that is answered
abbrev pub SeesSource : {E : Type 0} → Graph → ℕ → Looks → Result Bool E → Type 0
SeesSource graph p after result = IfOk result (λ is. is ≡ false → IsSourceSeen graph after.seen.items p)

-- none of these paths is one, where no first one is answered
abbrev pub SeesSources : {E : Type 0} → Graph → List ℕ → Looks → Result (Option ℕ) E → Type 0
SeesSources graph paths after result = IfOk result (λ found. IfNone found (AreSourcesSeen graph after.seen.items paths))

-- nor is an input of the edge, if that is due
abbrev pub SeesInputs : {E : Type 0} → Graph → List Bool → ℕ → Looks → Result (Option ℕ) E → Type 0
SeesInputs graph due e after result = IfOk result (λ found. IfNone found (due_at due e ≡ true → AreSourcesSeen graph after.seen.items ((links_of graph).inputs e)))

-- nor an input of a due edge
abbrev pub SeesAllInputs : {E : Type 0} → Graph → List Bool → Looks → Result (Option Lack) E → Type 0
SeesAllInputs graph due after result = IfOk result (λ found. IfNone found ((e : ℕ) → due_at due e ≡ true → AreSourcesSeen graph after.seen.items ((links_of graph).inputs e)))

-- the flags that are kept beside these looks
abbrev pub flags_kept : Looks → List Bool
flags_kept looks = looks.sums.answers.dues.flags.items

-- the flags that are answered are those that are kept, if any are
abbrev pub KeepsFound : {E : Type 0} → Looks → Result Found E → Type 0
KeepsFound after result = IfOk result (λ found. IfPresent found (λ due. after.sums.answers.dues.known ≡ true → after.sums.answers.dues.flags.items ≡ due))

-- ---- a law

-- the plan tells of each edge what it told, but of this one
abbrev pub TellsSameBut : Graph → Plan → Plan → ℕ → Type 0
TellsSameBut graph plan next e = (q : ℕ) → (q ≡ e → ⊥) → judged_due graph next q ≡ judged_due graph plan q

-- Flags stay right where what was seen stays, where the records tell the same and where the plan does, where an edge that is judged is noted,
-- or was not due and is judged clean, and after a load, where what it changes is noted. In a build under way the cone is one of makers first.
pub record DuesFollow : Type 0 where
  pub none : (graph : Graph) (records : Records) (cone : Cone) (plan : Plan) (looks : Looks) → looks.sums.answers.dues.known ≡ false → KeepsDues graph records cone plan looks
  pub placed : (graph : Graph) → StandFor (declared_by graph).edges graph.manifest.paths (links_of graph) → (records : Records) (cone : Cone) (plan : Plan) (store : Store) (targets : List (List ℕ)) (before : List Step)
      → IsUnderWay graph records cone plan store targets before → HasMakersFirst graph cone
  pub stay : (graph : Graph) (records : Records) (cone : Cone) (plan : Plan) (old new : List Look) → StaysKnown old new → (dues : Dues) → AreKeptRight graph records cone plan old dues → AreKeptRight graph records cone plan new dues
  pub told : (graph : Graph) (old new : Records) → TellSame old new → (cone : Cone) (plan : Plan) (seen : List Look) (dues : Dues) → AreKeptRight graph old cone plan seen dues → AreKeptRight graph new cone plan seen dues
  pub judged : (graph : Graph) (records : Records) (cone : Cone) (plan next : Plan) (e : ℕ) → TellsSameBut graph plan next e → (seen : List Look) (old new : Dues) → NotesEdges cone (e ∷ []) old new
      → AreKeptRight graph records cone plan seen old → AreKeptRight graph records cone next seen new
  pub clean : (graph : Graph) (records : Records) (cone : Cone) (plan next : Plan) (e : ℕ) → TellsSameBut graph plan next e → was_due (standing_at next.standings.items e) ≡ Some false → (seen : List Look) (dues : Dues) → due_at dues.flags.items e ≡ false
      → AreKeptRight graph records cone plan seen dues → AreKeptRight graph records cone next seen dues
  pub loaded : (edges : List ℕ) (old new : Graph) → HasGrownBy edges old new → StandBoth old new → (was is : Records) → AreKnownStill old new was is → (cone : Cone) (plan next : Plan) (store other : Store) (targets others : List (List ℕ)) (steps : List Step)
      → IsUnderWay old was cone plan store targets steps → IsUnderWay new is cone next other others steps → (before after : Dues) → NotesGrown new cone edges before after → (seen : List Look)
      → AreKeptRight old was cone plan seen before → AreKeptRight new is cone next seen after
