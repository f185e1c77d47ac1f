-- What calls tell of the files at the paths of a set, one call after another, and where all files were the same.
use Rattle.std.proofs.Common.{◌≡◌, ℕ, ◌<◌, zero, suc, Bool, true, IsTrue, List, [], ◌∷◌, Option, Some, None, bytes_eq, get_or, length, refl, sym, ◌∙◌, ap, arith}
use Rattle.std.specs.List.{AllByRecursion}
use Rattle.std.specs.Option.{is_none}
use Rattle.model.specs.declared.event.Moment.{Moment}
use Rattle.model.specs.declared.graph.Edge.{Edge}
use Rattle.model.specs.World.{World, File, file_at, stamp_of}
use Rattle.model.specs.Calls.{OnlyLooks}
use Rattle.model.specs.Graph.{edge_at}
use Rattle.model.specs.Records.{Store}
use Rattle.model.specs.Schedule.{Step}
use Rattle.theory.proofs.Lists.{bytes_same}
use Rattle.graph.specs.declared.graph.Graph.{Graph}
use Rattle.graph.specs.Told.{declared_by}
use Rattle.judge.specs.declared.looks.Looks.{Looks}
use Rattle.judge.specs.Seen.{AreKept, IfKept, IsStampIn}
use Rattle.judge.specs.Looking.{HasLooked, LooksFollow, FilesStay}
use Rattle.judge.specs.Quiet.{HasPathsFor, KeepsDepfiles, AreSameOf, AreAlike, IfStill, IfQuiet}

-- ---- several calls

-- the laws of what was looked at
abbrev pub Follow : Type 0
Follow = (tells : Bool) (a b c : World) → LooksFollow tells a b c

abbrev pub Stay : Type 0
Stay = (tells : Bool) (old new : World) → FilesStay tells old new

pub looked_then : Follow → (tells : Bool) (graph : Graph) (a b c : World) (first_looks second_looks third_looks : Looks) → HasLooked tells graph a b first_looks second_looks
    → HasLooked tells graph b c second_looks third_looks → HasLooked tells graph a c first_looks third_looks
looked_then follow tells graph a b c first_looks second_looks third_looks first second = (follow tells a b c).looked graph first_looks second_looks third_looks first second

module _ (follow : Follow) (stay : Stay) (tells : Bool) (graph : Graph) (a b c : World) (first_looks second_looks : Looks) (first : HasLooked tells graph a b first_looks second_looks) (second : OnlyLooks tells b c) where
  kept_first : IsTrue tells → (set : List ℕ → Bool) → AreKept set a.history c.history → AreKept set a.history b.history
  kept_first told set kept = (follow tells a b c).earlier told set first.looks second kept

  kept_second : IsTrue tells → (set : List ℕ → Bool) → AreKept set a.history c.history → AreKept set b.history c.history
  kept_second told set kept = (follow tells a b c).later told set first.looks second kept

  same_first : IsTrue tells → (set : List ℕ → Bool) → AreKept set a.history c.history → (files : List Moment) → AreSameOf set c.history files → AreSameOf set b.history files
  same_first told set kept files same p is = same p is ∙ stay tells b c told set second (kept_second told set kept) p is

  -- what the first or the second of two calls tells is so behind both
  pub still_first : (So : (List ℕ → Bool) → List Moment → Type 0) → IfStill tells graph a b first_looks So → IfStill tells graph a c first_looks So
  still_first So so told set kept seen files same = so told set (kept_first told set kept) seen files (same_first told set kept files same)

  pub still_second : (So : (List ℕ → Bool) → List Moment → Type 0) → IfStill tells graph b c second_looks So → IfStill tells graph a c first_looks So
  still_second So so told set kept seen files same = so told set (kept_second told set kept) (first.seen told set (kept_first told set kept) seen) files same

  module _ (store : Store) (targets : List (List ℕ)) (before : List Step) where
    abbrev edges : List Edge
    edges = (declared_by graph).edges

    abbrev depfile : ℕ → List ℕ
    depfile i = (edge_at edges i).act.depfile

    depfiles_first : KeepsDepfiles tells edges before a c → KeepsDepfiles tells edges before a b
    depfiles_first keeps i command fresh told named = kept_first told (bytes_eq (depfile i)) (keeps i command fresh told named)

    depfiles_second : KeepsDepfiles tells edges before a c → KeepsDepfiles tells edges before b c
    depfiles_second keeps i command fresh told named = kept_second told (bytes_eq (depfile i)) (keeps i command fresh told named)

    alike_first : KeepsDepfiles tells edges before a c → IsTrue tells → (set : List ℕ → Bool) → AreKept set a.history c.history → (files : List Moment) → AreAlike edges before set c.history files
        → AreAlike edges before set b.history files
    alike_first keeps told set kept files alike = record {
      paths = same_first told set kept files alike.paths;
      depfiles = λ i command fresh named.
          alike.depfiles i command fresh named
          ∙ stay tells b c told (bytes_eq (depfile i)) second (kept_second told (bytes_eq (depfile i)) (keeps i command fresh told named)) (depfile i) (bytes_same (depfile i));
    }

    pub quiet_first : (So : List Moment → Type 0) → IfQuiet tells graph store targets before a b first_looks So → IfQuiet tells graph store targets before a c first_looks So
    quiet_first So so keeps told set kept seen has files alike =
        so (depfiles_first keeps) told set (kept_first told set kept) seen has files (alike_first keeps told set kept files alike)

    pub quiet_second : (So : List Moment → Type 0) → IfQuiet tells graph store targets before b c second_looks So → IfQuiet tells graph store targets before a c first_looks So
    quiet_second So so keeps told set kept seen has files alike =
        so (depfiles_second keeps) told set (kept_second told set kept) (first.seen told set (kept_first told set kept) seen) has files alike

-- ---- what is so at the paths of each set

module _ (tells : Bool) (graph : Graph) (a b : World) (looks : Looks) where
  -- a stamp is absent where its file is
  pub absent_still : (path : List ℕ) (stamp : Option ℕ) → IfKept tells graph.manifest.paths a b looks.seen.items (IsStampIn path stamp)
      → IfStill tells graph a b looks (λ set files. set path ≡ true → is_none stamp ≡ is_none (file_at files path))
  absent_still path stamp so told set kept seen files same is =
      ap is_none (so told set kept seen is) ∙ (no_stamp (file_at b.history path) ∙ ap is_none (sym (same path is)))
    where
      no_stamp : (file : Option File) → is_none (stamp_of file) ≡ is_none file
      no_stamp None = refl
      no_stamp (Some file) = refl

  module _ (store : Store) (targets : List (List ℕ)) (before : List Step) where
    pub quiet_both : (So To Both : List Moment → Type 0) → ((files : List Moment) → So files → To files → Both files)
        → IfQuiet tells graph store targets before a b looks So → IfQuiet tells graph store targets before a b looks To → IfQuiet tells graph store targets before a b looks Both
    quiet_both So To Both both so to keeps told set kept seen has files alike =
        both files (so keeps told set kept seen has files alike) (to keeps told set kept seen has files alike)

    -- what is so at the paths of each set is so at those that may be looked at
    pub quiet_of : (So : (List ℕ → Bool) → List Moment → Type 0) (To : List Moment → Type 0)
        → ((set : List ℕ → Bool) (files : List Moment) → HasPathsFor (declared_by graph).edges store targets before set → So set files → To files)
        → IfStill tells graph a b looks So → IfQuiet tells graph store targets before a b looks To
    quiet_of So To to so keeps told set kept seen has files alike = to set files has (so told set kept seen files alike.paths)

-- ---- what is so of each element

pub all_at : {X : Type 0} (P : X → Type 0) (xs : List X) (k : ℕ) (d : X) → k < length xs → AllByRecursion P xs → P (get_or xs k d)
all_at P [] k d lt all = absurd (omega (arith, lt))
all_at P (x ∷ xs) zero d lt all = all.0
all_at P (x ∷ xs) (suc k) d lt all = all_at P xs k d (omega (arith, lt)) all.1

-- ---- where all files stay, each set of paths keeps its files
