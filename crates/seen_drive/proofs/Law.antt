-- What is claimed of builds one after another, of those among moves.
use Rattle.std.proofs.Common.{inl, List, [], ◌∷◌, None, false, append-nil, refl, sym}
use Rattle.model.specs.declared.event.Moment.{Moment}
use Rattle.model.specs.Records.{IsOwnIn}
use Rattle.model.specs.World.{World}
use Rattle.seen_builds.specs.Claims.{AreAsClaimed, AreNext, IsNext, RunsAreClean}
use Rattle.seen_builds.specs.Fresh.{FreshIsMet}
use Rattle.seen_builds.specs.Runs.{Before, Conventions, Run, Told, begun_in, ended_by}
use Rattle.seen_drive.specs.Claims.{AllFit, AreClaimed, AreKept, AreKeptFirst, AreSeenBehind, AreSeenFirst, IsKept, MovesAreClean, MovesAreSeen, MovesBegin, Ran, ran_in}
use Rattle.seen_drive.proofs.Behind.{behind_law}
use Rattle.seen_drive.proofs.Growing.{GoOn, visits_go_on}

abbrev runs_of : List Ran → List Run
runs_of [] = []
runs_of (ran ∷ rest) = ran.run ∷ runs_of rest

module _ (here : Conventions) where
  abbrev next_so : (before : Before) (ran : Ran) (fits : IsOwnIn here.own ran.run.request.folder) → IsKept here before ran fits → IsNext here before ran.run
  next_so before ran fits kept = record { was = ran.was; fits = fits; others = kept.others; number = kept.number; keeps = kept.keeps }

  abbrev all_next : (before : Before) (rans : List Ran) (fits : AllFit here rans) → AreKept here before rans fits → AreNext here before (runs_of rans)
  all_next before [] fits kept = tt
  all_next before (ran ∷ rest) fits kept = (next_so before ran fits.0 kept.0, all_next (ended_by ran.run) rest fits.1 kept.1)

  all_claimed : (before : Before) (rans : List Ran) (fits : AllFit here rans) (kept : AreKept here before rans fits)
      → AreAsClaimed here before (runs_of rans) (all_next before rans fits kept) → AreClaimed here rans fits
  all_claimed before [] fits kept claimed = tt
  all_claimed before (ran ∷ rest) fits kept claimed = (claimed.0, all_claimed (ended_by ran.run) rest fits.1 kept.1 claimed.1)

pub clean_law : RunsAreClean → MovesAreClean
clean_law law options here edges first visits faithful fits kept =
    all_claimed here (Told first.history) (ran_in visits) fits kept
    (law here edges first (runs_of (ran_in visits)) faithful (all_next here (Told first.history) (ran_in visits) fits kept))

-- a site on which nothing has happened
abbrev blank : World
blank = record {
  history = [];
  events = [];
  earlier = [];
  ticked = 0;
  failures = 0;
  failures_at_start = 0;
  wait_refused = None;
  stopped = false;
}

module _ (law : RunsAreClean) (fresh : FreshIsMet) (here : Conventions) where
  begin_so : (rans : List Ran) (fits : AllFit here rans) → AreKeptFirst here rans fits → AreClaimed here rans fits
  begin_so [] fits kept = tt
  begin_so (ran ∷ rest) fits kept =
      let met = fresh here [] blank ran.run refl kept.0.fresh in
      let first : IsKept here (Told []) ran fits.0 = record { others = met.1; number = met.2; keeps = kept.0.keeps } in
      let all : AreKept here (Told []) (ran ∷ rest) fits = (first, kept.1) in
      all_claimed here (Told []) (ran ∷ rest) fits all (law here [] blank (runs_of (ran ∷ rest)) met.0 (all_next here (Told []) (ran ∷ rest) fits all))

  -- what others did is seen
  seen_behind : (before : Ran) (rans : List Ran) (fits : AllFit here rans) → GoOn before.run.exit.history rans → AreSeenBehind here before.run rans fits
      → AreKept here (ended_by before.run) rans fits
  seen_behind before [] fits grows seen = tt
  seen_behind before (ran ∷ rest) fits grows seen = (
    record {
      others = inl (behind_law here.format here.own (begun_in before.run) before.run.exit (begun_in ran.run) before.was.built.noted grows.0 seen.0.others);
      number = seen.0.number;
      keeps = seen.0.keeps;
    },
    seen_behind ran rest fits.1 grows.1 seen.1,
  )

  seen_so : (start : List Moment) (rans : List Ran) (fits : AllFit here rans) → GoOn start rans → AreSeenFirst here rans fits → AreClaimed here rans fits
  seen_so start [] fits grows seen = tt
  seen_so start (ran ∷ rest) fits grows seen = begin_so (ran ∷ rest) fits (seen.0, seen_behind ran rest fits.1 grows.1 seen.1)

pub begin_law : RunsAreClean → FreshIsMet → MovesBegin
begin_law law fresh options here visits fits kept = begin_so law fresh here (ran_in visits) fits kept

pub seen_law : RunsAreClean → FreshIsMet → MovesAreSeen
seen_law law fresh options here first last visits follows fits seen =
    seen_so law fresh here first.history (ran_in visits) fits (visits_go_on options first.history visits first last ([], sym (append-nil first.history)) follows) seen
