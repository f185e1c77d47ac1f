-- What calls leave that ask for paths.
use Rattle.std.specs.Prelude.{◌≡◌, ℕ, Bool, true, false, IsTrue, IfOk, List, ◌++◌, length, replicate, Option, Result, slice_set}
use Rattle.model.specs.declared.event.Moment.{Moment}
use Rattle.model.specs.World.{World, file_at}
use Rattle.model.specs.Calls.{OnlyLooks}
use Rattle.model.specs.Graph.{has_number}
use Rattle.paths.specs.Told.{text_at}
use Rattle.graph.specs.declared.graph.Graph.{Graph}
use Rattle.judge.specs.declared.looks.Looks.{Looks}
use Rattle.judge.specs.declared.looks.Look.TheVariants.{Unasked}
use Rattle.judge.specs.Seen.{look_at, look_of, is_asked, IfStays, AreSeen, AreKept, IfKept, AreSeenOf, IsStampIn, StaysKnown, StaysSeen}

-- the call only looked, what it saw besides is so of the paths that kept their files, and what was seen before it is still known
pub record HasLooked (tells : Bool) (graph : Graph) (old new : World) (before after : Looks) : Type 0 where
  pub looks : OnlyLooks tells old new
  pub fits : length after.seen.items ≡ length before.seen.items
  pub seen : IfKept tells graph.manifest.paths old new before.seen.items (λ set files. AreSeenOf set graph.manifest.paths files after.seen.items)
  pub stays : (p : ℕ) → is_asked (look_at before.seen.items p) ≡ true → look_at after.seen.items p ≡ look_at before.seen.items p

-- ---- one call after another

pub record LooksFollow (tells : Bool) (a b c : World) : Type 0 where
  -- no call leaves what is left by none
  pub none : (graph : Graph) (looks : Looks) → HasLooked tells graph a a looks looks
  -- what both leave is left by the one and then the other
  pub looked : (graph : Graph) (first second third : Looks) → HasLooked tells graph a b first second → HasLooked tells graph b c second third → HasLooked tells graph a c first third
  -- paths that keep their files through both keep them through each
  pub earlier : IsTrue tells → (set : List ℕ → Bool) → OnlyLooks tells a b → OnlyLooks tells b c → AreKept set a.history c.history → AreKept set a.history b.history
  pub later : IsTrue tells → (set : List ℕ → Bool) → OnlyLooks tells a b → OnlyLooks tells b c → AreKept set a.history c.history → AreKept set b.history c.history

-- in calls that only look the files of such paths are those of before
abbrev pub FilesStay : Bool → World → World → Type 0
FilesStay tells old new = IsTrue tells → (set : List ℕ → Bool) → OnlyLooks tells old new → AreKept set old.history new.history → (p : List ℕ) → set p ≡ true → file_at new.history p ≡ file_at old.history p

-- ---- What a call says that is given a site and looks. `world` tells the world of the site, which the call found as `old` and left as `new`.

-- HasLooked, of the site
abbrev pub HasLookedAt : {S : Type 0} → Bool → (S → World) → S → S → Graph → Looks → Looks → Type 0
HasLookedAt tells world old new graph before after = HasLooked tells graph (world old) (world new) before after

-- IfKept, of the site and of what was seen before
abbrev pub IfKeptAt : {S : Type 0} → Bool → (S → World) → S → S → Graph → Looks → ((List ℕ → Bool) → List Moment → Type 0) → Type 0
IfKeptAt tells world old new graph before So = IfKept tells graph.manifest.paths (world old) (world new) before.seen.items So

-- what was seen is so of the paths that kept their files
abbrev pub StaysRight : {S : Type 0} → Bool → (S → World) → S → S → Graph → Looks → Looks → Type 0
StaysRight tells world old new graph before after =
    IfKeptAt tells world old new graph before (λ set files. AreSeenOf set graph.manifest.paths files after.seen.items)

-- the answer is the stamp of the path of this number, where that kept its file
abbrev pub FindsStamp : {S E : Type 0} → Bool → (S → World) → S → S → Graph → Looks → ℕ → Result (Option ℕ) E → Type 0
FindsStamp tells world old new graph before p result =
    IfOk result (λ stamp. IfKeptAt tells world old new graph before (IsStampIn (text_at graph.manifest.paths p) stamp))

-- ---- what becomes of looks

abbrev pub was_asked : Looks → ℕ → Bool
was_asked looks p = is_asked (look_at looks.seen.items p)

-- none of the graph's paths was asked for
abbrev pub AreUnasked : Graph → Looks → Type 0
AreUnasked graph looks = looks.seen.items ≡ replicate (length graph.manifest.paths) Unasked

-- this stamp is noted of the path
abbrev pub IsNoted : Looks → ℕ → Option ℕ → Type 0
IsNoted looks p stamp = look_at looks.seen.items p ≡ look_of stamp

-- just this stamp was noted, of this path
abbrev pub NotesStamp : ℕ → Option ℕ → Looks → Looks → Type 0
NotesStamp p stamp before after = after.seen.items ≡ slice_set before.seen.items p (look_of stamp)

-- what was asked for is still known
abbrev pub KeepsAsked : Looks → Looks → Type 0
KeepsAsked before after = StaysKnown before.seen.items after.seen.items

-- these paths were asked for
abbrev pub HasAsked : List ℕ → Looks → Type 0
HasAsked numbers looks = (p : ℕ) → has_number numbers p ≡ true → is_asked (look_at looks.seen.items p) ≡ true

-- all is as it was
abbrev pub KeepsAll : Looks → Looks → Type 0
KeepsAll before after = (p : ℕ) → look_at after.seen.items p ≡ look_at before.seen.items p

-- and all but what was seen of one path
abbrev pub KeepsAllBut : ℕ → Looks → Looks → Type 0
KeepsAllBut path before after = (p : ℕ) → (p ≡ path → ⊥) → look_at after.seen.items p ≡ look_at before.seen.items p

-- what was seen of the first paths of the graph, which have room, is so of all
abbrev pub StaysSeenIn : Graph → Looks → Looks → Type 0
StaysSeenIn graph before after =
    (paths more : List (List ℕ)) → graph.manifest.paths ≡ paths ++ more → length before.seen.items ≡ length paths
    → StaysSeen paths graph.manifest.paths before.seen.items after.seen.items

-- these paths were forgotten
abbrev pub HasForgotten : List ℕ → Looks → Type 0
HasForgotten numbers looks = (p : ℕ) → has_number numbers p ≡ true → look_at looks.seen.items p ≡ Unasked

-- and no others
abbrev pub KeepsOthers : List ℕ → Looks → Looks → Type 0
KeepsOthers numbers before after = (p : ℕ) → has_number numbers p ≡ false → look_at after.seen.items p ≡ look_at before.seen.items p
