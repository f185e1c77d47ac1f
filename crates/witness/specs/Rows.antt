-- The definitions on worked rows: what they call right, and what they call wrong.
use Rattle.std.specs.Prelude.{◌≡◌, ℕ, Bool, true, false, if◌then◌else◌, List, [], ◌∷◌, Option, Some, None, bytes_eq, codes}
use Rattle.model.specs.declared.graph.Deps.TheVariants.{Unset}
use Rattle.model.specs.declared.graph.Edge.{Edge}
use Rattle.model.specs.declared.graph.Pool.{Pool}
use Rattle.model.specs.declared.reason.Reason.TheVariants.{OutputAbsent, NoRecord, InputAbsent, InputChanged, InputLater, OutputOlder}
use Rattle.model.specs.World.{View}
use Rattle.model.specs.Clean.{clean_build}
use Rattle.model.specs.Reading.{IsRead, IsInCone, IsCycle}
use Rattle.model.specs.Records.{Made}
use Rattle.model.specs.Judgement.{Facts, reason_of}
use Rattle.model.specs.Schedule.{Task, Judged, Started, Ended, IsLawful}
use Rattle.witness.specs.Beyond.{none_recorded}
use Rattle.witness.specs.Example.{act_with, edge_with, two_edges, toys, one_by_one}

-- one file, and no other
abbrev pub only : List ℕ → List ℕ → View
only path content = λ p. if bytes_eq path p then Some content else None

-- ---- contents: `build b: cat a`, `build c: cat b a`

abbrev pub b_and_c : List Edge
b_and_c =
    edge_with (codes "b" ∷ []) (codes "a" ∷ []) [] [] (act_with (codes "cat b a") [])
    ∷ edge_with (codes "c" ∷ []) (codes "b" ∷ codes "a" ∷ []) [] [] (act_with (codes "cat c b a") [])
    ∷ []

-- ---- reading sets: `build force: phony`, `build all: phony x y`, `build o: cat a all | force || m`

abbrev pub phony_with : List (List ℕ) → List (List ℕ) → Edge
phony_with outs ins = record {
  explicit_outputs = outs;
  implicit_outputs = [];
  explicit_inputs = ins;
  implicit_inputs = [];
  order_only_inputs = [];
  validations = [];
  act = act_with [] [];
  description = [];
  deps = Unset;
  restat = false;
  pool = None;
  dyndep = None;
  phony = true;
}

abbrev pub through_phony : List Edge
through_phony =
    phony_with (codes "force" ∷ []) []
    ∷ phony_with (codes "all" ∷ []) (codes "x" ∷ codes "y" ∷ [])
    ∷ edge_with (codes "o" ∷ []) (codes "a" ∷ codes "all" ∷ codes "force" ∷ []) (codes "m" ∷ []) [] (act_with (codes "cat o a") [])
    ∷ []

abbrev pub no_file : View
no_file = λ p. None

-- ---- cones: `build b: cat a |@ v`, `build v: cat b`, `build w: cat a`

abbrev pub with_validation : List Edge
with_validation =
    edge_with (codes "b" ∷ []) (codes "a" ∷ []) [] (codes "v" ∷ []) (act_with (codes "cat b a") [])
    ∷ edge_with (codes "v" ∷ []) (codes "b" ∷ []) [] [] (act_with (codes "cat v b") [])
    ∷ edge_with (codes "w" ∷ []) (codes "a" ∷ []) [] [] (act_with (codes "cat w a") [])
    ∷ []

-- ---- reasons

abbrev pub known : ℕ → Option Made
known start = Some (record { act = act_with (codes "cat b a") []; start = start })

-- one output with this stamp and record, one input with this stamp and flag
abbrev pub facts : Bool → Option ℕ → Option Made → Option ℕ → Bool → Facts
facts restat output made input changed = record {
  act = act_with (codes "cat b a") [];
  restat = restat;
  deps = Unset;
  depfile = false;
  outputs = record { stamp = output; made = made; deps_start = None } ∷ [];
  inputs = record { stamp = input; changed = changed } ∷ [];
}

-- ---- schedules

abbrev pub task_with : List Edge → List Pool → List (List ℕ) → ℕ → Task
task_with edges pools targets jobs = record {
  graph = record { edges = edges; pools = pools; defaults = []; builddir = [] };
  recorded = none_recorded;
  targets = targets;
  jobs = jobs;
  keep = 1;
}

-- a command that makes one file from `a`, in a pool or in none
abbrev pub in_pool : Option (List ℕ) → List ℕ → List ℕ → Edge
in_pool pool out command = record {
  explicit_outputs = out ∷ [];
  implicit_outputs = [];
  explicit_inputs = codes "a" ∷ [];
  implicit_inputs = [];
  order_only_inputs = [];
  validations = [];
  act = act_with command [];
  description = [];
  deps = Unset;
  restat = false;
  pool = pool;
  dyndep = None;
  phony = false;
}

-- two commands that read `a` alone, in a pool or in none
abbrev pub side_by_side : Option (List ℕ) → List Edge
side_by_side pool = in_pool pool (codes "x1") (codes "cat x1 a") ∷ in_pool pool (codes "x2") (codes "cat x2 a") ∷ []

abbrev pub x1_and_x2 : List (List ℕ)
x1_and_x2 = codes "x1" ∷ codes "x2" ∷ []

-- What the definitions say of these rows.
pub record WorkedRows : Type 0 where
  pub contents : clean_build toys b_and_c (only (codes "a") (codes "x")) (codes "c") ≡ Some (codes "xx")
  -- an old output is no source
  pub no_source : clean_build toys b_and_c (only (codes "b") (codes "x")) (codes "c") ≡ None
  -- a phony is replaced by what it reads, and one without inputs stays; a phony that is no file is not read, nor is an order-only input
  pub read : IsRead through_phony no_file 3 (codes "x") × IsRead through_phony no_file 3 (codes "force")
  pub unread : (IsRead through_phony no_file 3 (codes "all") → ⊥) × (IsRead through_phony no_file 3 (codes "m") → ⊥)
  -- a file at a phony's path is read beside what the phony reads
  pub read_file : IsRead through_phony (only (codes "all") []) 3 (codes "all") × IsRead through_phony (only (codes "all") []) 3 (codes "x")
  -- validations are in the cone, and make no cycle
  pub cone : IsInCone with_validation none_recorded (codes "b" ∷ []) 2 × (IsInCone with_validation none_recorded (codes "b" ∷ []) 3 → ⊥)
  pub no_cycle : (i : ℕ) → IsCycle with_validation none_recorded i → ⊥
  -- which reason comes first; equal stamps are no reason
  pub reasons :
      (reason_of (facts false None None None true) ≡ Some OutputAbsent)
      × (reason_of (facts false (Some 5) None None true) ≡ Some NoRecord)
      × (reason_of (facts false (Some 5) (known 3) None true) ≡ Some InputAbsent)
      × (reason_of (facts false (Some 5) (known 3) (Some 4) true) ≡ Some InputChanged)
      × (reason_of (facts false (Some 5) (known 3) (Some 4) false) ≡ Some InputLater)
      × (reason_of (facts false (Some 2) (known 3) (Some 3) false) ≡ Some OutputOlder)
      × (reason_of (facts true (Some 2) (known 3) (Some 3) false) ≡ None)
      × (reason_of (facts false (Some 3) (known 3) (Some 3) false) ≡ None)
  pub lawful : IsLawful (task_with two_edges [] (codes "o" ∷ []) 1) one_by_one
  -- an edge is judged before what it reads is made
  pub unsettled : IsLawful (task_with two_edges [] (codes "o" ∷ []) 1) (Judged 2 true ∷ []) → ⊥
  -- a second command of a pool of depth 1 is started
  pub past_depth : IsLawful (task_with (side_by_side (Some (codes "p"))) (record { name = codes "p"; depth = 1 } ∷ []) x1_and_x2 0) (Judged 1 true ∷ Judged 2 true ∷ Started 1 ∷ Started 2 ∷ []) → ⊥
  -- a command is taken in while another may start
  pub too_soon : IsLawful (task_with (side_by_side None) [] x1_and_x2 2) (Judged 1 true ∷ Judged 2 true ∷ Started 1 ∷ Ended 1 true ∷ []) → ⊥
