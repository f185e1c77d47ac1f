-- What others may not do while a build runs: where they do, a premise is broken, and what is recorded may not be believed.
use Rattle.std.specs.Prelude.{true, false, List, [], ◌∷◌, ◌++◌, Some, None, codes}
use Rattle.model.specs.declared.act.Act.{Act}
use Rattle.model.specs.declared.event.Event.TheVariants.{Start, Finish}
use Rattle.model.specs.declared.event.Moment.{Moment}
use Rattle.model.specs.declared.event.Moment.TheVariants.{Wrote, Happened}
use Rattle.model.specs.declared.event.Writer.TheVariants.{Program, Command, Someone}
use Rattle.model.specs.declared.graph.Edge.{Edge}
use Rattle.model.specs.declared.record.Record.TheVariants.{Done}
use Rattle.model.specs.Faithful.{IsFaithfulRecord}
use Rattle.model.specs.Outcome.{Behaviour}
use Rattle.model.specs.Premises.{FilesAreKept, KeepsFaith, StampsGrow}
use Rattle.model.specs.Records.{Store}
use Rattle.witness.specs.Small.{act_with, edge_with, copy, edges, copies, done_under}
use Rattle.witness.specs.Refused.{own}

-- the source `a` holds `x`, and the command has copied it to `b`
abbrev pub before : List Moment
before = Wrote Someone (codes "a") (Some (codes "x")) 9 ∷ []

abbrev pub ran : List Moment
ran =
    Wrote Program (codes "t") (Some []) 9
    ∷ Happened (Start 1 copy 9)
    ∷ Wrote (Command 1) (codes "b") (Some (codes "x")) 10
    ∷ Happened (Finish 1 true)
    ∷ []

abbrev pub copied_over : List Moment
copied_over = before ++ ran

-- somebody writes `b`
abbrev pub patched : List Moment
patched = Wrote Someone (codes "b") (Some (codes "z")) 11 ∷ []

-- somebody puts an older `a` back
abbrev pub put_back : List Moment
put_back = Wrote Someone (codes "a") (Some (codes "y")) 8 ∷ []

-- the command of an edge that makes `a` gives it an older time
abbrev pub dated_back : List Moment
dated_back = Wrote (Command 2) (codes "a") (Some (codes "y")) 8 ∷ []

-- a source of which nothing can be made; somebody writes into the log that `b` was
abbrev pub failing : List Moment
failing = Wrote Someone (codes "a") (Some (codes "no")) 9 ∷ []

abbrev pub forged : List Moment
forged = Wrote Someone (codes "l") (Some (codes "done")) 10 ∷ []

-- ---- the depfile and the response file of a command

-- the command makes `b`, and tells in its depfile that it read `h`; a depfile lists one path, which is its text
abbrev pub scan : Act
scan = act_with (codes "scan") (codes "d") []

abbrev pub tells_h : Behaviour
tells_h = record {
  outcome = λ act view. record {
    ok = true;
    writes =
        record { path = codes "b"; content = Some (codes "x"); only_changes = false }
        ∷ record { path = codes "d"; content = Some (codes "h"); only_changes = false }
        ∷ [];
  };
  depfile = λ content. Some (content ∷ []);
  dyndep = λ content. None;
}

abbrev pub scans : List Edge
scans = edge_with scan ∷ []

abbrev pub scanned : List Moment
scanned =
    Wrote Program (codes "t") (Some []) 9
    ∷ Happened (Start 1 scan 9)
    ∷ Wrote (Command 1) (codes "b") (Some (codes "x")) 10
    ∷ Wrote (Command 1) (codes "d") (Some (codes "h")) 10
    ∷ Happened (Finish 1 true)
    ∷ []

-- somebody writes `k` into the depfile, before it is read
abbrev pub retold : List Moment
retold = Wrote Someone (codes "d") (Some (codes "k")) 10 ∷ []

abbrev pub retold_over : List Moment
retold_over = before ++ scanned ++ retold

-- what the logs tell then
abbrev pub told_k : Store
told_k = record {
  records = Done (codes "b" ∷ []) 9 scan ∷ [];
  deps = record { outputs = codes "b" ∷ []; start = 9; paths = codes "k" ∷ [] } ∷ [];
}

-- the command makes `b` of what stands in its response file, which is `x`
abbrev pub paste : Act
paste = act_with (codes "paste") [] (codes "r")

abbrev pub pastes : Behaviour
pastes = record {
  outcome = λ act view. record {
    ok = true;
    writes = record { path = codes "b"; content = Some act.response_content; only_changes = false } ∷ [];
  };
  depfile = λ content. None;
  dyndep = λ content. None;
}

abbrev pub pasting : List Edge
pasting = edge_with paste ∷ []

-- the response file is written; somebody writes `z` there, before the command reads it
abbrev pub pasted : List Moment
pasted =
    Wrote Program (codes "r") (Some (codes "x")) 9
    ∷ Wrote Someone (codes "r") (Some (codes "z")) 9
    ∷ Wrote Program (codes "t") (Some []) 9
    ∷ Happened (Start 1 paste 9)
    ∷ Wrote (Command 1) (codes "b") (Some (codes "z")) 10
    ∷ Happened (Finish 1 true)
    ∷ []

abbrev pub pasted_b : Store
pasted_b = record { records = Done (codes "b" ∷ []) 9 paste ∷ []; deps = [] }

-- ---- what may be believed

-- that the command made `b`, started under 9, may be believed
abbrev pub IsBelieved : List Moment → Type 0
IsBelieved history = IsFaithfulRecord copies (done_under 9) history (codes "b") (record { act = copy; start = 9 })

-- that a command with a depfile, or with a response file, did so
abbrev pub IsBelievedOf : Behaviour → Store → Act → List Moment → Type 0
IsBelievedOf B store act history = IsFaithfulRecord B store history (codes "b") (record { act = act; start = 9 })

pub record ForbiddenRows : Type 0 where
  -- where nobody does any of this it may
  pub believed : IsBelieved copied_over
  -- an output, before it is recorded
  pub output : (FilesAreKept own edges before (copied_over ++ patched) → ⊥) × (IsBelieved (copied_over ++ patched) → ⊥)
  -- a source that has a record in force, as an earlier build file made it
  pub source : (KeepsFaith copies own [] (done_under 9) [] copied_over (copied_over ++ patched) → ⊥) × (IsBelieved (copied_over ++ patched) → ⊥)
  -- a log
  pub log : (FilesAreKept own edges failing (failing ++ forged) → ⊥) × (IsBelieved (failing ++ forged) → ⊥)
  -- a depfile, behind its command's end and before it is read: recorded inputs are not those that the command told
  pub depfile : (FilesAreKept own scans before retold_over → ⊥) × (IsBelievedOf tells_h told_k scan retold_over → ⊥)
  -- a response file: the output is made of another text than the act's
  pub response : (FilesAreKept own pasting before (before ++ pasted) → ⊥) × (IsBelievedOf pastes pasted_b paste (before ++ pasted) → ⊥)
  -- a time that is set back: of a source, or of an output that is read
  pub time : (StampsGrow copied_over (copied_over ++ put_back) → ⊥) × (IsBelieved (copied_over ++ put_back) → ⊥)
  pub time_of_output : (StampsGrow copied_over (copied_over ++ dated_back) → ⊥) × (IsBelieved (copied_over ++ dated_back) → ⊥)
