-- A list of moves goes on by one visit, and by a restart before it where that was asked for.
use Rattle.std.proofs.Common.{◌≡◌, inl, inr, Bool, true, false, List, [], ◌∷◌, ◌++◌, refl, sym, ◌∙◌, ap, subst}
use Rattle.model.specs.declared.moves.Move.{Move}
use Rattle.model.specs.declared.moves.Move.TheVariants.{Build}
use Rattle.model.specs.Driven.{StartsAgain}
use Rattle.model.specs.Premises.{HaveEnded}
use Rattle.model.specs.World.{World}
use Rattle.work.specs.declared.report.Options.{Options}
use Rattle.work.specs.declared.report.Report.{Report}
use Rattle.seen_drive.specs.Visits.{Built, Edited, FollowsFrom, Restarted, RestartsFrom, Visit, asks_at_end, asks_restart, edit_move, exit_of, moves_in, reports_in}
use Rattle.seen_drive.specs.Moves.{AreDone, IsCarried}

module _ (tells : Bool) (options : Options) where
  follows_on : (vs next : List (Visit tells options)) (first mid last : World) → FollowsFrom vs first mid → FollowsFrom next mid last → FollowsFrom (vs ++ next) first last
  follows_on [] next first mid last is more = subst (λ (w : World). FollowsFrom next w last) is more
  follows_on (v ∷ vs) next first mid last is more = (is.0, follows_on vs next (exit_of v) mid last is.1 more)

  moves-append : (vs next : List (Visit tells options)) → moves_in (vs ++ next) ≡ moves_in vs ++ moves_in next
  moves-append [] next = refl
  moves-append (Edited path content old new edit ∷ vs) next = ap (λ (l : List Move). edit_move path content ∷ l) (moves-append vs next)
  moves-append (Built words old new report build ∷ vs) next = ap (λ (l : List Move). Build words ∷ l) (moves-append vs next)
  moves-append (Restarted old new restart ∷ vs) next = moves-append vs next

  reports-append : (vs next : List (Visit tells options)) → reports_in (vs ++ next) ≡ reports_in vs ++ reports_in next
  reports-append [] next = refl
  reports-append (Edited path content old new edit ∷ vs) next = reports-append vs next
  reports-append (Built words old new report build ∷ vs) next = ap (λ (l : List Report). report ∷ l) (reports-append vs next)
  reports-append (Restarted old new restart ∷ vs) next = reports-append vs next

  restarts_on : (asked : Bool) (vs next : List (Visit tells options)) → RestartsFrom (asks_at_end asked vs) next → RestartsFrom asked vs → RestartsFrom asked (vs ++ next)
  restarts_on asked [] next more fit = more
  restarts_on asked (v ∷ vs) next more fit = (fit.0, restarts_on (asks_restart v) vs next more fit.1)

  asks-append : (asked : Bool) (vs next : List (Visit tells options)) → asks_at_end asked (vs ++ next) ≡ asks_at_end (asks_at_end asked vs) next
  asks-append asked [] next = refl
  asks-append asked (v ∷ vs) next = asks-append (asks_restart v) vs next

  module _ (moves : List Move) (asked : Bool) (before after : List Report) (first now mid new : World) (move : Move) (again : Bool) (done : AreDone tells options moves asked before first now)
      (carried : IsCarried tells options move again before after mid new) where
    -- these visits carry out the next move
    by_these : (next : List (Visit tells options)) → FollowsFrom next now new → moves_in next ≡ move ∷ [] → reports_in next ≡ reports_in (carried.visit ∷ [])
        → RestartsFrom asked next → asks_at_end asked next ≡ again → AreDone tells options (moves ++ move ∷ []) again after first new
    by_these next follows does told fit asks =
        let vs = done.driven.visits in
        record {
          driven = record {
            visits = vs ++ next;
            follows = follows_on vs next first now new done.driven.follows follows;
            carries = moves-append vs next ∙ (ap (λ (l : List Move). l ++ moves_in next) done.driven.carries ∙ ap (λ (l : List Move). moves ++ l) does);
            restarts = restarts_on false vs next (subst (λ (b : Bool). RestartsFrom b next) (sym done.asks) fit) done.driven.restarts;
            reported = reports-append vs next
                ∙ (ap (λ (l : List Report). l ++ reports_in next) done.driven.reported
                ∙ (ap (λ (l : List Report). before ++ l) told ∙ sym carried.grows));
          };
          asks = asks-append false vs next ∙ (ap (λ (b : Bool). asks_at_end b next) done.asks ∙ asks);
          ended = carried.ended;
        }

    -- THE LOOP'S STEP
    pub goes_on : StartsAgain tells asked now mid → AreDone tells options (moves ++ move ∷ []) again after first new
    goes_on (inl (none, same)) = by_these (carried.visit ∷ []) (carried.entry ∙ same, sym carried.exit) carried.does refl (carried.none ∙ sym none, tt) carried.asks
    goes_on (inr (some, restart)) = by_these (Restarted now mid restart ∷ carried.visit ∷ []) (refl, (carried.entry, sym carried.exit)) carried.does refl
        (sym some, (carried.none, tt)) carried.asks
