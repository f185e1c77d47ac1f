-- What has happened goes on from one build among visits to the next.
use Rattle.std.proofs.Common.{◌≡◌, inl, inr, ℕ, true, List, [], ◌∷◌, ◌++◌, Option, Some, None, append_assoc, append-nil, drop, length, refl, sym, ◌∙◌, ap, subst}
use Rattle.std.proofs.Math.Seq.{drop-append_seam}
use Rattle.model.specs.declared.event.Moment.{Moment}
use Rattle.model.specs.declared.event.Moment.TheVariants.{Wrote}
use Rattle.model.specs.declared.event.Writer.TheVariants.{Program}
use Rattle.model.specs.declared.graph.BuildGraph.{BuildGraph}
use Rattle.model.specs.Calls.{OnlyLooks, OthersWrote}
use Rattle.model.specs.History.{IsEdit, IsLeftBy, IsWrittenWith}
use Rattle.model.specs.World.{World, IsRunning}
use Rattle.work.specs.declared.report.Options.{Options}
use Rattle.work.specs.declared.report.Report.{Report}
use Rattle.builder.specs.declared.asked.Asked.{Asked as Request}
use Rattle.builder.specs.declared.reading.Reading.{Reading}
use Rattle.paths.specs.Told.{graph_of}
use Rattle.seen_builds.specs.From.{IsSeenBuild}
use Rattle.seen_drive.specs.Between.{GoesOnTo}
use Rattle.seen_drive.specs.Claims.{Ran, ran_in, ran_next, ran_read, ran_seen}
use Rattle.seen_drive.specs.Visits.{Built, Edited, FollowsFrom, IsNextBuild, IsReadBuild, Restarted, Visit}

-- something more has happened
abbrev pub Grows : List Moment → List Moment → Type 0
Grows old new = (more : List Moment) × (new ≡ old ++ more)

none_more : (h : List Moment) → Grows h h
none_more h = ([], sym (append-nil h))

then_more : (a b c : List Moment) → Grows a b → Grows b c → Grows a c
then_more a b c (more, is) (also, next) =
    (more ++ also, next ∙ (ap (λ (h : List Moment). h ++ also) is ∙ append_assoc a more also))

as_dropped : (a b : List Moment) → Grows a b → GoesOnTo a b
as_dropped a b (more, is) = is ∙ ap (λ (l : List Moment). a ++ l) (sym (drop-append_seam a more) ∙ ap (λ (h : List Moment). drop (length a) h) (sym is))

-- ---- one visit

looks_grow : (old new : World) → OnlyLooks true old new → Grows old.history new.history
looks_grow old new looks = let others = looks.history refl in (others.more, others.grows)

wrote_grows : (path : List ℕ) (content : Option (List ℕ)) (old new : World) → IsWrittenWith path content old new → Grows old.history new.history
wrote_grows path content old new (stamp, adds) = (adds.earlier ++ Wrote Program path content stamp ∷ adds.later, adds.grows)

left_grows : (path : List ℕ) (content : Option (List ℕ)) (old new : World) → IsLeftBy path content old new → Grows old.history new.history
left_grows path (Some content) old new (inl others) = (others.more, others.grows)
left_grows path (Some content) old new (inr (other, wrote)) = wrote_grows path (Some other) old new wrote
left_grows path None old new (inl others) = (others.more, others.grows)
left_grows path None old new (inr wrote) = wrote_grows path None old new wrote

edit_grows : (path : List ℕ) (content : Option (List ℕ)) (old new : World) → IsEdit true path content old new → Grows old.history new.history
edit_grows path content old new edit = elim (edit.does refl) [
  | inl wrote ↦ wrote_grows path content old new wrote
  | inr refused ↦ left_grows path content old new refused.1
]

-- ---- the builds among visits

-- each begins behind the one before
abbrev pub GoOn : List Moment → List Ran → Type 0
GoOn start [] = Unit {0}
GoOn start (ran ∷ rest) = GoesOnTo start ran.run.entry.history × GoOn ran.run.exit.history rest

-- what comes behind a build that ended so
abbrev Behind : World → List Ran → Type 0
Behind new rest = (h : List Moment) → Grows h new.history → GoOn h rest

module _ (start : List Moment) (rest : List Ran) (report : Report) where
  seen_goes_on : (graph : BuildGraph) (request : Request) (old new : World) (build : IsSeenBuild true graph request old new report) → Grows start old.history → Behind new rest
      → GoOn start (ran_seen graph request old new report build ++ rest)
  seen_goes_on graph request old new (inl not) grows behind = behind start (then_more start old.history new.history grows (looks_grow old new not.asks.looks))
  seen_goes_on graph request old new (inr begins) grows behind = (
    as_dropped start begins.entry.history (then_more start old.history begins.entry.history grows (looks_grow old begins.entry begins.looks)),
    behind new.history (none_more new.history),
  )

  read_goes_on : (reading : Reading) (old new : World) (build : IsReadBuild true reading old new report) → Grows start old.history → Behind new rest
      → GoOn start (ran_read reading old new report build ++ rest)
  read_goes_on reading old new (inl (reports, same)) grows behind = behind start (subst (λ (w : World). Grows start w.history) (sym same) grows)
  read_goes_on reading old new (inr seen) grows behind = seen_goes_on (graph_of reading.manifest) reading.asked old new seen grows behind

  next_goes_on : (options : Options) (words : List (List ℕ)) (old new : World) (build : IsNextBuild true options words old new report) → Grows start old.history → Behind new rest
      → GoOn start (ran_next options words old new report build ++ rest)
  next_goes_on options words old new (inl unread) grows behind = behind start (then_more start old.history new.history grows (looks_grow old new unread.looks))
  next_goes_on options words old new (inr built) grows behind =
      read_goes_on built.reading built.between new built.built
      (then_more start old.history built.between.history grows (looks_grow old built.between built.was_read.looked.looks)) behind

-- a visit begins where this ended
from_there : (start : List Moment) (entry first : World) → entry ≡ first → Grows start first.history → Grows start entry.history
from_there start entry first is grows = subst (λ (w : World). Grows start w.history) (sym is) grows

pub visits_go_on : (options : Options) (start : List Moment) (visits : List (Visit true options)) (first last : World) → Grows start first.history → FollowsFrom visits first last
    → GoOn start (ran_in visits)
visits_go_on options start [] first last grows follows = tt
visits_go_on options start (Edited path content old new edit ∷ vs) first last grows follows =
    visits_go_on options start vs new last (then_more start old.history new.history (from_there start old first follows.0 grows) (edit_grows path content old new edit)) follows.1
visits_go_on options start (Built words old new report build ∷ vs) first last grows follows =
    next_goes_on start (ran_in vs) report options words old new build (from_there start old first follows.0 grows)
    (λ h more. visits_go_on options h vs new last more follows.1)
visits_go_on options start (Restarted old new restart ∷ vs) first last grows follows =
    let others : OthersWrote (IsRunning old.events) old.history new.history = restart.history refl in
    visits_go_on options start vs new last
    (then_more start old.history new.history (from_there start old first follows.0 grows) (others.more, others.grows)) follows.1
