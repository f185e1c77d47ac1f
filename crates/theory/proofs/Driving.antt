-- A list of moves goes on by one visit, and by a restart before it where that was asked for.
use Rattle.std.proofs.Common.{◌≡◌, ◌≢◌, inl, inr, Bool, true, false, List, [], ◌∷◌, ◌++◌, append_assoc, refl, sym, ◌∙◌, ap, subst}
use Rattle.std.proofs.lemmas.Bool.{false≢true}
use Rattle.model.specs.declared.graph.Edge.{Edge}
use Rattle.model.specs.declared.moves.Move.{Move}
use Rattle.model.specs.declared.moves.Move.TheVariants.{Write, Delete, Build}
use Rattle.model.specs.World.{World}
use Rattle.model.specs.Calls.{IsRestart}
use Rattle.model.specs.Outcome.{Behaviour}
use Rattle.model.specs.Records.{LogFormat}
use Rattle.model.specs.Premises.{HaveEnded}
use Rattle.model.specs.SingleBuild.{Answer}
use Rattle.model.specs.History.{Visit, Edited, Built, Unread, Restarted, IsHistory, EndsThese, entry_of, exit_of, last_edges}
use Rattle.model.specs.Driven.{Reader, Does, CarriesOut, RestartsFrom, is_restart, asks_restart, answers_in, IsDriven, HasLogs, asks_at_end, StartsAgain}
use Rattle.theory.proofs.Lists.{all_append}
use Rattle.theory.specs.Histories.{HasHeadline}
use Rattle.theory.specs.Driving.{IsDrivenTo}
use Rattle.theory.proofs.Over.{histories_grow, histories_are_as_claimed}

module _ (tells : Bool) (B : Behaviour) (format : LogFormat) (R : Reader) where
  pub no_restart : (move : Move) (v : Visit tells B format) → Does R move v → is_restart v ≡ false
  no_restart move (Edited path content old new edit) does = refl
  no_restart move (Built asked old new answer build) does = refl
  no_restart move (Unread old new answer cause) does = refl
  no_restart (Write p text) (Restarted edges old new restart) does = absurd does
  no_restart (Delete p) (Restarted edges old new restart) does = absurd does
  no_restart (Build words) (Restarted edges old new restart) does = absurd does

  pub ends_any : (move : Move) (v : Visit tells B format) → Does R move v → (edges : List Edge) → EndsThese edges v
  ends_any move (Edited path content old new edit) does edges = tt
  ends_any move (Built asked old new answer build) does edges = tt
  ends_any move (Unread old new answer cause) does edges = tt
  ends_any (Write p text) (Restarted others old new restart) does edges = absurd does
  ends_any (Delete p) (Restarted others old new restart) does edges = absurd does
  ends_any (Build words) (Restarted others old new restart) does edges = absurd does

  -- a list to which one is put is not empty
  pub some_moves : (moves : List Move) (move : Move) → moves ++ move ∷ [] ≢ []
  some_moves [] move is = cc
  some_moves (m ∷ moves) move is = cc

  -- the next move is carried out by these visits: one, or one after a restart
  pub carries_on : (moves : List Move) (vs next : List (Visit tells B format)) (move : Move) → CarriesOut R (move ∷ []) next → CarriesOut R moves vs → CarriesOut R (moves ++ move ∷ []) (vs ++ next)
  carries_on moves [] next move does carries = subst (λ (l : List Move). CarriesOut R (l ++ move ∷ []) next) (sym carries) does
  carries_on moves (w ∷ vs) next move does (inl (restart, some, carries)) = inl (restart, some_moves moves move, carries_on moves vs next move does carries)
  carries_on moves (w ∷ vs) next move does (inr (m, rest, splits, done, carries)) =
      inr (m, rest ++ move ∷ [], ap (λ (l : List Move). l ++ move ∷ []) splits, done, carries_on rest vs next move does carries)

  pub carries_one : (move : Move) (v : Visit tells B format) → Does R move v → CarriesOut R (move ∷ []) (v ∷ [])
  carries_one move v does = inr (move, [], refl, does, refl)

  pub restarts_on : (asked : Bool) (vs next : List (Visit tells B format)) → RestartsFrom (asks_at_end asked vs) next → RestartsFrom asked vs → RestartsFrom asked (vs ++ next)
  restarts_on asked [] next more fit = more
  restarts_on asked (w ∷ vs) next more fit = (fit.0, restarts_on (asks_restart w) vs next more fit.1)

  pub asks_last : (asked : Bool) (vs : List (Visit tells B format)) (v : Visit tells B format) → asks_at_end asked (vs ++ v ∷ []) ≡ asks_restart v
  asks_last asked [] v = refl
  asks_last asked (w ∷ vs) v = asks_last (asks_restart w) vs v

  answers-append : (vs ws : List (Visit tells B format)) → answers_in (vs ++ ws) ≡ answers_in vs ++ answers_in ws
  answers-append [] ws = refl
  answers-append (Edited path content old new edit ∷ vs) ws = answers-append vs ws
  answers-append (Built asked old new answer build ∷ vs) ws = ap (λ (l : List Answer). answer ∷ l) (answers-append vs ws)
  answers-append (Unread old new answer cause ∷ vs) ws = ap (λ (l : List Answer). answer ∷ l) (answers-append vs ws)
  answers-append (Restarted edges old new restart ∷ vs) ws = answers-append vs ws

  -- no restart was asked for
  by_visit : (moves : List Move) (answers : List Answer) (first now : World) (move : Move) (v : Visit tells B format) → IsDrivenTo tells B format R moves false answers first now
      → entry_of v ≡ now → Does R move v → HasHeadline v → HasLogs v → (asks_restart v ≡ false → HaveEnded (exit_of v))
      → IsDrivenTo tells B format R (moves ++ move ∷ []) (asks_restart v) (answers ++ answers_in (v ∷ [])) first (exit_of v)
  by_visit moves answers first now move v driven begins does headline logs ended = record {
    visits = driven.visits ++ v ∷ [];
    history = histories_grow tells B format driven.visits first now v driven.history begins (ends_any move v does (last_edges [] driven.visits));
    headlines = all_append HasHeadline driven.visits (v ∷ []) driven.headlines (headline, tt);
    logs = all_append HasLogs driven.visits (v ∷ []) driven.logs (logs, tt);
    carries = carries_on moves driven.visits (v ∷ []) move (carries_one move v does) driven.carries;
    restarts = restarts_on false driven.visits (v ∷ []) (no_restart move v does ∙ sym driven.asks, tt) driven.restarts;
    asks = asks_last false driven.visits v;
    ended = ended;
    answered = ap (λ (l : List Answer). l ++ answers_in (v ∷ [])) driven.answered ∙ sym (answers-append driven.visits (v ∷ []));
  }

  -- a restart was asked for, and comes before it
  by_restart : (moves : List Move) (answers : List Answer) (first now mid : World) (move : Move) (v : Visit tells B format) → IsDrivenTo tells B format R moves true answers first now → IsRestart tells now mid
      → entry_of v ≡ mid → Does R move v → HasHeadline v → HasLogs v → (asks_restart v ≡ false → HaveEnded (exit_of v))
      → IsDrivenTo tells B format R (moves ++ move ∷ []) (asks_restart v) (answers ++ answers_in (v ∷ [])) first (exit_of v)
  by_restart moves answers first now mid move v driven restart begins does headline logs ended = by_again (Restarted (last_edges [] driven.visits) now mid restart) refl refl refl refl refl refl
    where
      by_again : (r : Visit tells B format) → entry_of r ≡ now → exit_of r ≡ mid → is_restart r ≡ true → asks_restart r ≡ false → EndsThese (last_edges [] driven.visits) r → answers_in (r ∷ v ∷ []) ≡ answers_in (v ∷ [])
          → IsDrivenTo tells B format R (moves ++ move ∷ []) (asks_restart v) (answers ++ answers_in (v ∷ [])) first (exit_of v)
      by_again r entry exit is_one asks_none ends none_said = record {
        visits = driven.visits ++ r ∷ v ∷ [];
        history = subst (λ (l : List (Visit tells B format)). IsHistory l first (exit_of v)) (append_assoc driven.visits (r ∷ []) (v ∷ []))
            (histories_grow tells B format (driven.visits ++ r ∷ []) first (exit_of r) v (histories_grow tells B format driven.visits first now r driven.history entry ends) (begins ∙ sym exit)
            (ends_any move v does (last_edges [] (driven.visits ++ r ∷ []))));
        headlines = all_append HasHeadline driven.visits (r ∷ v ∷ []) driven.headlines (restart_headline r is_one, (headline, tt));
        logs = all_append HasLogs driven.visits (r ∷ v ∷ []) driven.logs (restart_logs r is_one, (logs, tt));
        carries = carries_on moves driven.visits (r ∷ v ∷ []) move (inl (is_one, some_moves [] move, carries_one move v does)) driven.carries;
        restarts = restarts_on false driven.visits (r ∷ v ∷ []) (is_one ∙ sym driven.asks, (no_restart move v does ∙ sym asks_none, tt)) driven.restarts;
        asks = ap (λ (l : List (Visit tells B format)). asks_at_end false l) (sym (append_assoc driven.visits (r ∷ []) (v ∷ []))) ∙ asks_last false (driven.visits ++ r ∷ []) v;
        ended = ended;
        answered = ap (λ (l : List Answer). l ++ answers_in (v ∷ [])) driven.answered ∙ (ap (λ (l : List Answer). answers_in driven.visits ++ l) (sym none_said) ∙ sym (answers-append driven.visits (r ∷ v ∷ [])));
      }
        where
          restart_logs : (r : Visit tells B format) → is_restart r ≡ true → HasLogs r
          restart_logs (Edited path content old new edit) is = tt
          restart_logs (Built asked old new answer build) is = absurd (false≢true is)
          restart_logs (Unread old new answer cause) is = tt
          restart_logs (Restarted edges old new again) is = tt

          restart_headline : (r : Visit tells B format) → is_restart r ≡ true → HasHeadline r
          restart_headline (Edited path content old new edit) is = tt
          restart_headline (Built asked old new answer build) is = absurd (false≢true is)
          restart_headline (Unread old new answer cause) is = tt
          restart_headline (Restarted edges old new again) is = tt

  -- at the beginning
  pub drives_begin : (first : World) → HaveEnded first → IsDrivenTo tells B format R [] false [] first first
  drives_begin first ended = record { visits = []; history = (ended, refl); headlines = tt; logs = tt; carries = refl; restarts = tt; asks = refl; ended = λ is. ended; answered = refl }

  -- One more move is carried out by a visit, the site being started again before it where that was asked for.
  pub drives_go_on : (moves : List Move) (asked : Bool) (answers : List Answer) (first now mid : World) (move : Move) (v : Visit tells B format)
      → IsDrivenTo tells B format R moves asked answers first now → StartsAgain tells asked now mid
      → entry_of v ≡ mid → Does R move v → HasHeadline v → HasLogs v → (asks_restart v ≡ false → HaveEnded (exit_of v))
      → IsDrivenTo tells B format R (moves ++ move ∷ []) (asks_restart v) (answers ++ answers_in (v ∷ [])) first (exit_of v)
  drives_go_on moves asked answers first now mid move v driven (inl (is, same)) begins does headline logs ended =
      by_visit moves answers first now move v (subst (λ (b : Bool). IsDrivenTo tells B format R moves b answers first now) is driven) (begins ∙ same) does headline logs ended
  drives_go_on moves asked answers first now mid move v driven (inr (is, restart)) begins does headline logs ended =
      by_restart moves answers first now mid move v (subst (λ (b : Bool). IsDrivenTo tells B format R moves b answers first now) is driven) restart begins does headline logs ended

  -- what was so carried out was driven, under the headline
  pub drives_end : (moves : List Move) (asked : Bool) (answers : List Answer) (first last : World) → IsDrivenTo tells B format R moves asked answers first last → IsDriven tells B format R moves answers first last
  drives_end moves asked answers first last driven = record {
    visits = driven.visits;
    history = driven.history;
    carries = driven.carries;
    restarts = driven.restarts;
    answered = driven.answered;
    logs = driven.logs;
    headline = histories_are_as_claimed tells B format driven.visits first last driven.history driven.headlines;
  }
