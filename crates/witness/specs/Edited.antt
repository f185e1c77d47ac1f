-- A source is edited while the command that read it runs: alone, and beside another command.
use Rattle.std.specs.Prelude.{◌≡◌, ℕ, ◌==◌, if◌then◌else◌, Bool, true, false, List, [], ◌∷◌, ◌++◌, Option, Some, None, bytes_eq, codes}
use Rattle.model.specs.declared.act.Act.{Act}
use Rattle.model.specs.declared.event.Event.TheVariants.{Start, Finish}
use Rattle.model.specs.declared.event.Moment.{Moment}
use Rattle.model.specs.declared.event.Moment.TheVariants.{Wrote, Happened}
use Rattle.model.specs.declared.event.Writer.TheVariants.{Program, Command, Someone}
use Rattle.model.specs.declared.graph.Deps.TheVariants.{Unset}
use Rattle.model.specs.declared.graph.Edge.{Edge}
use Rattle.model.specs.declared.outcome.Outcome.{Outcome}
use Rattle.model.specs.World.{view_of}
use Rattle.model.specs.Faithful.{IsFaithfulRecord}
use Rattle.model.specs.Outcome.{Behaviour}
use Rattle.model.specs.Records.{recorded_inputs}
use Rattle.model.specs.Schedule.{Step, Judged, Started, Ended}
use Rattle.model.specs.Premises.{AreQuiet, FilesAreKept, KeepsFaith, Premises}
use Rattle.model.specs.SingleBuild.{Asked, IsCleanlyBuilt}
use Rattle.witness.specs.Small.{copy, copied, edge_with, edges, asked, copies, no_records, done_under}
use Rattle.witness.specs.Refused.{own, ran_well}

-- the source `a` holds `x`
abbrev pub entry : List Moment
entry = Wrote Someone (codes "a") (Some (codes "x")) 9 ∷ []

-- The tick has the stamp of the write before it; the command read `a`, then that is edited, then `b` is written, both under one stamp.
abbrev pub behind : List Moment
behind =
    Wrote Someone (codes "a") (Some (codes "y")) 10
    ∷ Wrote (Command 1) (codes "b") (Some (codes "x")) 10
    ∷ Happened (Finish 1 true)
    ∷ Wrote Program (codes "l") (Some (codes "done")) 10
    ∷ []

abbrev pub build : List Moment
build =
    Wrote Program (codes "t") (Some []) 9
    ∷ Wrote Program (codes "l") (Some (codes "begun")) 9
    ∷ Happened (Start 1 copy 9)
    ∷ behind

-- that, and what is written next
abbrev pub and_later : List Moment
and_later = entry ++ build ++ Wrote Program (codes "t") (Some []) 11 ∷ []

-- that the command made `b`, recorded under this stamp, may be believed
abbrev pub IsBelievedUnder : ℕ → Type 0
IsBelievedUnder stamp = IsFaithfulRecord copies (done_under stamp) and_later (codes "b") (record { act = copy; start = stamp })

-- ---- beside another command

abbrev pub copy_c : Act
copy_c = record { command = codes "copy c"; depfile = []; response_path = []; response_content = [] }

-- `build e: copy_c c`
abbrev pub edge_of_c : Edge
edge_of_c = record {
  explicit_outputs = codes "e" ∷ [];
  implicit_outputs = [];
  explicit_inputs = codes "c" ∷ [];
  implicit_inputs = [];
  order_only_inputs = [];
  validations = [];
  act = copy_c;
  description = [];
  deps = Unset;
  restat = false;
  pool = None;
  dyndep = None;
  phony = false;
}

-- `build a: phony`, which only names the source
abbrev pub line_of_a : Edge
line_of_a = record {
  explicit_outputs = codes "a" ∷ [];
  implicit_outputs = [];
  explicit_inputs = [];
  implicit_inputs = [];
  order_only_inputs = [];
  validations = [];
  act = record { command = []; depfile = []; response_path = []; response_content = [] };
  description = [];
  deps = Unset;
  restat = false;
  pool = None;
  dyndep = None;
  phony = true;
}

abbrev pub both : List Edge
both = edge_with copy ∷ edge_of_c ∷ line_of_a ∷ []

abbrev pub asked_both : Asked
asked_both = record { graph = record { edges = both; pools = []; defaults = []; builddir = [] }; declared = both; targets = []; folder = []; jobs = 1; keep = 1 }

abbrev pub copied_c : Option (List ℕ) → Outcome
copied_c None = record { ok = false; writes = [] }
copied_c (Some content) = record { ok = true; writes = record { path = codes "e"; content = Some content; only_changes = false } ∷ [] }

-- the one command copies `a` to `b`, the other `c` to `e`
abbrev pub copy_both : Behaviour
copy_both = record {
  outcome = λ act view. if bytes_eq act.command (codes "copy") then copied (view (codes "a")) else copied_c (view (codes "c"));
  depfile = λ content. Some [];
  dyndep = λ content. None;
}

abbrev pub both_ran : List Step
both_ran = Judged 1 true ∷ Started 1 ∷ Ended 1 true ∷ Judged 2 true ∷ Started 2 ∷ Ended 2 true ∷ []

abbrev pub both_there : List Moment
both_there = Wrote Someone (codes "a") (Some (codes "x")) 8 ∷ Wrote Someone (codes "c") (Some (codes "z")) 9 ∷ []

-- behind the start of the one command, and of the other
abbrev pub behind_second : List Moment
behind_second =
    Wrote (Command 2) (codes "e") (Some (codes "z")) 11
    ∷ Happened (Finish 2 true)
    ∷ Wrote Program (codes "l") (Some (codes "done")) 11
    ∷ []

abbrev pub behind_first : List Moment
behind_first =
    Wrote Someone (codes "a") (Some (codes "y")) 10
    ∷ Wrote (Command 1) (codes "b") (Some (codes "x")) 10
    ∷ Happened (Finish 1 true)
    ∷ Wrote Program (codes "l") (Some (codes "done")) 10
    ∷ Wrote Program (codes "t") (Some []) 10
    ∷ Happened (Start 2 copy_c 10)
    ∷ behind_second

abbrev pub build_both : List Moment
build_both =
    Wrote Program (codes "t") (Some []) 9
    ∷ Wrote Program (codes "l") (Some (codes "begun")) 9
    ∷ Happened (Start 1 copy 9)
    ∷ behind_first

pub record EditedBeside : Type 0 where
  -- the premises of contents are met, with the other command's edge quiet; the edited source is free, though a phony line names it
  pub premises : Premises copy_both own both both (recorded_inputs no_records both) both_ran both_there (both_there ++ build_both)
  pub free : premises.files.kept.free (codes "a") ≡ true
  pub quiet : (i : ℕ) → premises.files.quiet i ≡ (i == 2)
  -- so it left what the clean build gives, and the one that read the edited source did not
  pub clean : IsCleanlyBuilt copy_both (λ i. i == 2) asked_both no_records (view_of (both_there ++ build_both))
  pub other : IsCleanlyBuilt copy_both (λ i. true) asked_both no_records (view_of (both_there ++ build_both)) → ⊥

pub record EditedRows : Type 0 where
  -- the premises of faithful records are met
  pub faith : KeepsFaith copies own edges no_records ran_well entry (entry ++ build)
  -- the output is not what the clean build gives; and no premises of contents are met in which its edge is quiet
  pub other : IsCleanlyBuilt copies (λ i. true) asked no_records (view_of (entry ++ build)) → ⊥
  pub loud : (files : FilesAreKept own edges entry (entry ++ build)) (quiet : ℕ → Bool)
      → AreQuiet copies quiet files.free edges (recorded_inputs no_records edges) ran_well entry (entry ++ build) → quiet 1 ≡ true → ⊥
  -- beside it another command ran, which read another source
  pub beside : EditedBeside
  -- the record has the stamp of the start: under that of the finish, or of the edit, it would say that `b` was made from what `a` holds now
  pub by_start : IsBelievedUnder 9
  pub by_finish : IsBelievedUnder 10 → ⊥
