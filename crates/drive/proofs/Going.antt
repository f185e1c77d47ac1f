-- A list of moves goes on by one visit, and by a restart before it where that was asked for.
use Rattle.std.proofs.Common.{◌≡◌, ◌≢◌, inl, inr, ℕ, Bool, true, false, List, [], ◌∷◌, ◌++◌, append_assoc, refl, sym, ◌∙◌, ap, subst}
use Rattle.model.specs.declared.moves.Move.{Move}
use Rattle.model.specs.World.{World}
use Rattle.model.specs.Calls.{IsRestart}
use Rattle.model.specs.Outcome.{Behaviour}
use Rattle.model.specs.Records.{LogFormat}
use Rattle.model.specs.Premises.{HaveEnded}
use Rattle.model.specs.History.{Visit, Restarted, IsHistory, EndsThese, entry_of, exit_of, last_edges}
use Rattle.model.specs.Driven.{Reader, Does, is_restart, asks_restart, asks_at_end, StartsAgain, HasLogs}
use Rattle.theory.proofs.Lists.{all_append}
use Rattle.theory.specs.Histories.{HasHeadline}
use Rattle.theory.proofs.Over.{histories_grow}
use Rattle.theory.proofs.Driving.{no_restart, ends_any, some_moves, carries_on, carries_one, restarts_on, asks_last}
use Rattle.builder.specs.declared.asked.Limits.{Limits}
use Rattle.work.specs.declared.report.Report.{Report}
use Rattle.drive.specs.Driven.{words_in, builds_in, words_of, ReportEach, HasFiles}
use Rattle.drive.specs.Moves.{IsVisited, IsGone}
use Rattle.drive.proofs.Saying.{reported_on}

module _ (tells : Bool) (B : Behaviour) (format : LogFormat) (name : List ℕ) (limits : Limits) where
  abbrev R : Reader
  R = words_in tells name limits

  abbrev Gone : List Move → Bool → List Report → World → World → Type 0
  Gone moves again reports first now = IsGone tells B format name limits moves again reports first now

  -- no restart was asked for
  by_visit : (moves : List Move) (reports told : List Report) (first now : World) (move : Move) (v : Visit tells B format) → Gone moves false reports first now
      → entry_of v ≡ now → Does R move v → HasHeadline v → HasLogs v → HasFiles v → ReportEach name (words_of (move ∷ [])) (builds_in (v ∷ [])) told
      → Gone (moves ++ move ∷ []) (asks_restart v) (reports ++ told) first (exit_of v)
  by_visit moves reports told first now move v gone begins does headline logs files reported = record {
    visits = gone.visits ++ v ∷ [];
    history = histories_grow tells B format gone.visits first now v gone.history begins (ends_any tells B format R move v does (last_edges [] gone.visits));
    headlines = all_append HasHeadline gone.visits (v ∷ []) gone.headlines (headline, tt);
    logs = all_append HasLogs gone.visits (v ∷ []) gone.logs (logs, tt);
    files = all_append HasFiles gone.visits (v ∷ []) gone.files (files, tt);
    carries = carries_on tells B format R moves gone.visits (v ∷ []) move (carries_one tells B format R move v does) gone.carries;
    restarts = restarts_on tells B format R false gone.visits (v ∷ []) (no_restart tells B format R move v does ∙ sym gone.asks, tt) gone.restarts;
    asks = asks_last tells B format R false gone.visits v;
    reported = reported_on tells B format name moves (move ∷ []) gone.visits (v ∷ []) reports told gone.reported reported;
  }

  -- a restart was asked for, and comes before it
  by_restart : (moves : List Move) (reports told : List Report) (first now mid : World) (move : Move) (v : Visit tells B format) → Gone moves true reports first now → IsRestart tells now mid
      → entry_of v ≡ mid → Does R move v → HasHeadline v → HasLogs v → HasFiles v → ReportEach name (words_of (move ∷ [])) (builds_in (v ∷ [])) told
      → Gone (moves ++ move ∷ []) (asks_restart v) (reports ++ told) first (exit_of v)
  by_restart moves reports told first now mid move v gone restart begins does headline logs files reported =
      by_again (Restarted (last_edges [] gone.visits) now mid restart) refl refl refl refl refl tt tt tt refl
    where
      by_again : (r : Visit tells B format) → entry_of r ≡ now → exit_of r ≡ mid → is_restart r ≡ true → asks_restart r ≡ false → EndsThese (last_edges [] gone.visits) r → HasHeadline r → HasLogs r → HasFiles r
          → builds_in (r ∷ v ∷ []) ≡ builds_in (v ∷ []) → Gone (moves ++ move ∷ []) (asks_restart v) (reports ++ told) first (exit_of v)
      by_again r entry exit is_one asks_none ends its_headline its_logs its_files no_build = record {
        visits = gone.visits ++ r ∷ v ∷ [];
        history = subst (λ (l : List (Visit tells B format)). IsHistory l first (exit_of v)) (append_assoc gone.visits (r ∷ []) (v ∷ []))
            (histories_grow tells B format (gone.visits ++ r ∷ []) first (exit_of r) v (histories_grow tells B format gone.visits first now r gone.history entry ends) (begins ∙ sym exit)
            (ends_any tells B format R move v does (last_edges [] (gone.visits ++ r ∷ []))));
        headlines = all_append HasHeadline gone.visits (r ∷ v ∷ []) gone.headlines (its_headline, (headline, tt));
        logs = all_append HasLogs gone.visits (r ∷ v ∷ []) gone.logs (its_logs, (logs, tt));
        files = all_append HasFiles gone.visits (r ∷ v ∷ []) gone.files (its_files, (files, tt));
        carries = carries_on tells B format R moves gone.visits (r ∷ v ∷ []) move (inl (is_one, some_moves tells B format R [] move, carries_one tells B format R move v does)) gone.carries;
        restarts = restarts_on tells B format R false gone.visits (r ∷ v ∷ []) (is_one ∙ sym gone.asks, (no_restart tells B format R move v does ∙ sym asks_none, tt)) gone.restarts;
        asks = ap (λ (l : List (Visit tells B format)). asks_at_end false l) (sym (append_assoc gone.visits (r ∷ []) (v ∷ []))) ∙ asks_last tells B format R false (gone.visits ++ r ∷ []) v;
        reported = reported_on tells B format name moves (move ∷ []) gone.visits (r ∷ v ∷ []) reports told gone.reported
            (subst (λ (vs : List (Visit tells B format)). ReportEach name (words_of (move ∷ [])) vs told) (sym no_build) reported);
      }

  -- One more move is carried out by a visit, the site being started again before it where that was asked for.
  pub goes_on : (moves : List Move) (asked : Bool) (reports : List Report) (first now mid new : World) (move : Move) (again : Bool) (told : List Report)
      → Gone moves asked reports first now → StartsAgain tells asked now mid → IsVisited tells B format name limits move again told mid new
      → Gone (moves ++ move ∷ []) again (reports ++ told) first new
  goes_on moves asked reports first now mid new move again told gone starts visited =
      subst (λ (b : Bool). Gone (moves ++ move ∷ []) b (reports ++ told) first new) visited.asks
      (subst (λ (w : World). Gone (moves ++ move ∷ []) (asks_restart visited.visit) (reports ++ told) first w) visited.exit (elim starts [
        | inl none ↦ by_visit moves reports told first now move visited.visit (subst (λ (b : Bool). Gone moves b reports first now) none.0 gone) (visited.entry ∙ none.1) visited.does visited.headline visited.logs visited.files visited.reported
        | inr some ↦ by_restart moves reports told first now mid move visited.visit (subst (λ (b : Bool). Gone moves b reports first now) some.0 gone) some.1 visited.entry visited.does visited.headline visited.logs visited.files visited.reported
      ]))

  -- at the beginning
  pub gone_at_first : (first : World) → HaveEnded first → Gone [] false [] first first
  gone_at_first first ended = record { visits = []; history = (ended, refl); headlines = tt; logs = tt; files = tt; carries = refl; restarts = tt; asks = refl; reported = tt }
