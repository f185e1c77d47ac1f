-- What happens on the disk: the sources, the first build, an edit of `k`, and the second build.
use Rattle.std.specs.Prelude.{ℕ, true, false, List, [], ◌∷◌, ◌++◌, Some, None, codes}
use Rattle.model.specs.declared.act.Act.{Act}
use Rattle.model.specs.declared.event.Event.{Event}
use Rattle.model.specs.declared.event.Event.TheVariants.{Start, Finish}
use Rattle.model.specs.declared.event.Moment.{Moment}
use Rattle.model.specs.declared.event.Moment.TheVariants.{Wrote, Happened}
use Rattle.model.specs.declared.event.Writer.TheVariants.{Program, Command, Someone}
use Rattle.model.specs.World.{World}
use Rattle.model.specs.Graph.{edge_at}
use Rattle.model.specs.Records.{build_log_name, tick_name}
use Rattle.model.specs.Schedule.{Step, Judged, Started, Ended}
use Rattle.witness.specs.Project.{edges, dyndep_text}

-- ---- moments

abbrev pub logs : List ℕ → ℕ → Moment
logs text stamp = Wrote Program build_log_name (Some text) stamp

abbrev pub ticks : ℕ → Moment
ticks stamp = Wrote Program tick_name (Some []) stamp

abbrev pub act_at : ℕ → Act
act_at i = (edge_at edges i).act

abbrev pub starts : ℕ → ℕ → Moment
starts i stamp = Happened (Start i (act_at i) stamp)

abbrev pub leaves : ℕ → List ℕ → List ℕ → ℕ → Moment
leaves job path content stamp = Wrote (Command job) path (Some content) stamp

abbrev pub ends : ℕ → Moment
ends i = Happened (Finish i true)

abbrev pub edits : List ℕ → List ℕ → ℕ → Moment
edits path content stamp = Wrote Someone path (Some content) stamp

-- ---- the sources, all under one stamp

abbrev pub sources : List Moment
sources = edits (codes "d.in") dyndep_text 1 ∷ edits (codes "a") (codes "x") 1 ∷ edits (codes "k") (codes "ku") 1 ∷ edits (codes "u") (codes "v") 1 ∷ []

-- ---- the first build

-- `dd` and `b` are being made at once; the second line of the log is written in two parts
abbrev pub two_run : List Moment
two_run =
    logs (codes "a\n") 2 ∷ ticks 2 ∷ starts 1 2
    ∷ logs (codes "a\nb") 3 ∷ logs (codes "a\nb\n") 3 ∷ ticks 3 ∷ starts 2 3 ∷ []

-- the scratch file, an edit of `a` after its command has read it, and `b`, which has the stamp of that edit
abbrev pub meanwhile : List Moment
meanwhile =
    leaves 2 (codes "t") (codes "1") 4 ∷ edits (codes "a") (codes "y") 4 ∷ leaves 2 (codes "b") (codes "x") 4 ∷ leaves 1 (codes "dd") dyndep_text 4
    ∷ edits (codes "t") (codes "2") 4 ∷ []

-- the dyndep file is made, and loaded; `h`, `o` with `x`, `q` and `z` are made
abbrev pub goes_on : List Moment
goes_on =
    ends 1 ∷ logs (codes "a\nb\nc\n") 5
    ∷ logs (codes "a\nb\nc\nd\n") 5 ∷ ticks 5 ∷ starts 3 5
    ∷ ends 2 ∷ logs (codes "a\nb\nc\nd\ne\n") 6
    ∷ logs (codes "a\nb\nc\nd\ne\nf\n") 6 ∷ Wrote Program (codes "o.rsp") (Some (codes "u")) 6 ∷ ticks 6 ∷ starts 6 6
    ∷ leaves 3 (codes "h") (codes "k") 7 ∷ ends 3 ∷ logs (codes "a\nb\nc\nd\ne\nf\ng\n") 7
    ∷ logs (codes "a\nb\nc\nd\ne\nf\ng\nh\n") 7 ∷ ticks 7 ∷ starts 5 7
    ∷ leaves 6 (codes "o") (codes "v") 8 ∷ leaves 6 (codes "x") (codes "v!") 8 ∷ ends 6 ∷ logs (codes "a\nb\nc\nd\ne\nf\ng\nh\ni\n") 8
    ∷ Wrote Program (codes "o.rsp") None 8
    ∷ logs (codes "a\nb\nc\nd\ne\nf\ng\nh\ni\nj\n") 8 ∷ ticks 8 ∷ starts 7 8
    ∷ leaves 5 (codes "q") (codes "k") 9 ∷ ends 5 ∷ logs (codes "a\nb\nc\nd\ne\nf\ng\nh\ni\nj\nk\n") 9
    ∷ leaves 7 (codes "z") (codes "v!") 9 ∷ ends 7 ∷ logs (codes "a\nb\nc\nd\ne\nf\ng\nh\ni\nj\nk\nl\n") 9 ∷ []

abbrev pub building : List Moment
building = two_run ++ (meanwhile ++ goes_on)

-- before the load, and after it
abbrev pub first_phase : List Step
first_phase = Judged 1 true ∷ Judged 2 true ∷ Judged 3 true ∷ Started 1 ∷ Started 2 ∷ Ended 1 true ∷ []

abbrev pub first_last : List Step
first_last =
    Judged 6 true ∷ Started 3 ∷ Ended 2 true ∷ Started 6 ∷ Ended 3 true ∷ Judged 5 true ∷ Started 5 ∷ Ended 6 true ∷ Judged 7 true ∷ Started 7
    ∷ Ended 5 true ∷ Ended 7 true ∷ []

abbrev pub first_steps : List Step
first_steps = first_phase ++ first_last

-- ---- the second build

-- `b` and `h` are made at once; what is in `h` already is left as it is
abbrev pub mending : List Moment
mending =
    logs (codes "a\nb\nc\nd\ne\nf\ng\nh\ni\nj\nk\nl\nm\n") 11 ∷ ticks 11 ∷ starts 2 11
    ∷ logs (codes "a\nb\nc\nd\ne\nf\ng\nh\ni\nj\nk\nl\nm\nn\n") 12 ∷ ticks 12 ∷ starts 3 12
    ∷ leaves 2 (codes "t") (codes "3") 13
    ∷ ends 3 ∷ logs (codes "a\nb\nc\nd\ne\nf\ng\nh\ni\nj\nk\nl\nm\nn\no\n") 13
    ∷ leaves 2 (codes "b") (codes "y") 13 ∷ ends 2 ∷ logs (codes "a\nb\nc\nd\ne\nf\ng\nh\ni\nj\nk\nl\nm\nn\no\np\n") 13 ∷ []

abbrev pub second_phase : List Step
second_phase = Judged 1 false ∷ []

abbrev pub second_last : List Step
second_last =
    Judged 2 true ∷ Judged 3 true ∷ Judged 6 false ∷ Judged 7 false ∷ Started 2 ∷ Started 3 ∷ Ended 3 true ∷ Judged 5 false ∷ Ended 2 true ∷ []

abbrev pub second_steps : List Step
second_steps = second_phase ++ second_last

-- ---- the disk between

abbrev pub world_of : List Moment → List Event → ℕ → World
world_of history events tick =
    record { history = history; events = events; earlier = []; ticked = tick; failures = 0; failures_at_start = 0; wait_refused = None; stopped = false }

abbrev pub begins : ℕ → ℕ → Event
begins i stamp = Start i (act_at i) stamp

abbrev pub first_events : List Event
first_events =
    begins 1 2 ∷ begins 2 3 ∷ Finish 1 true ∷ begins 3 5 ∷ Finish 2 true ∷ begins 6 6 ∷ Finish 3 true ∷ begins 5 7 ∷ Finish 6 true ∷ begins 7 8
    ∷ Finish 5 true ∷ Finish 7 true ∷ []

abbrev pub second_events : List Event
second_events = begins 2 11 ∷ begins 3 12 ∷ Finish 3 true ∷ Finish 2 true ∷ []

abbrev pub first : World
first = world_of sources [] 0

abbrev pub built : World
built = world_of (first.history ++ building) first_events 8

abbrev pub edited : World
edited = world_of (built.history ++ Wrote Program (codes "k") (Some (codes "kw")) 10 ∷ []) first_events 8

abbrev pub last : World
last = world_of (edited.history ++ mending) (first_events ++ second_events) 12
