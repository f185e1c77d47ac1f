-- The end of a list of moves, and where memory is wanting before it.
use Rattle.std.proofs.Common.{◌≡◌, inl, inr, ℕ, suc, ◌<◌, Bool, false, IsTrue, List, [], ◌∷◌, ◌++◌, Some, None, refl, sym, subst, arith}
use Rattle.std.specs.List.{AllByRecursion}
use Rattle.std.proofs.lemmas.List.{append-nil}
use Rattle.model.specs.declared.graph.Edge.{Edge}
use Rattle.model.specs.declared.moves.Move.{Move}
use Rattle.model.specs.declared.moves.Move.TheVariants.{Write, Delete, Build}
use Rattle.model.specs.World.{World}
use Rattle.model.specs.Calls.{IsRestart}
use Rattle.model.specs.Faithful.{IsFaithfulStore}
use Rattle.model.specs.Outcome.{Behaviour}
use Rattle.model.specs.Records.{LogFormat, OwnFiles}
use Rattle.model.specs.Premises.{HaveEnded, StampsGrow, NothingIsEdited}
use Rattle.model.specs.History.{Visit, IsKeptBetween, Restarted, IsHistory, IsHistoryFrom, Keeps, edges_after, exit_of, last_edges, world_after}
use Rattle.model.specs.Driven.{Reader, IsDriven, IsCutNext, StartsAgain, answers_in}
use Rattle.theory.proofs.Lists.{all_append}
use Rattle.theory.specs.Histories.{HasHeadline}
use Rattle.theory.proofs.Edits.{edit_keeps, restarted_idle}
use Rattle.theory.proofs.Over.{histories_are_as_claimed, histories_grow}
use Rattle.builder.specs.declared.asked.Limits.{Limits}
use Rattle.work.specs.declared.report.Report.{Report}
use Rattle.drive.specs.Driven.{words_in, WasDriven, EditLeavesOutputs, IsUnrefused, IsCutInEdit}
use Rattle.drive.specs.Moves.{IsGone}

-- ---- an edit that found no memory

module _ (tells : Bool) (tell : IsTrue tells) (B : Behaviour) (format : LogFormat) (own : OwnFiles) (edges : List Edge) (old new : World) (believed : IsFaithfulStore B format own edges old) (ended : HaveEnded old)
    (stamps : StampsGrow old.history new.history) (edits : NothingIsEdited old.history new.history) where
  -- it leaves what an edit may leave that the device refused
  abbrev as_refused : World
  as_refused = record new { failures = suc old.failures }

  one_more : old.failures < suc old.failures
  one_more = omega arith

  same_store : IsFaithfulStore B format own edges as_refused → IsFaithfulStore B format own edges new
  same_store store = record { build_log = store.build_log; deps_log = store.deps_log; records = store.records; deps = store.deps; running = store.running }

  pub cut_edit_keeps : (moves : List Move) → IsCutNext tells moves old new → EditLeavesOutputs format own moves old → IsFaithfulStore B format own edges new
  cut_edit_keeps [] cut leaves = absurd cut
  cut_edit_keeps (Write path content ∷ moves) cut leaves = same_store (edit_keeps B format own edges old as_refused believed stamps cut.events ended edits tells tell path (Some content)
      (record { events = cut.events; earlier = cut.earlier; does = λ told. inr (inl one_more, cut.left told) }) leaves)
  cut_edit_keeps (Delete path ∷ moves) cut leaves = same_store (edit_keeps B format own edges old as_refused believed stamps cut.events ended edits tells tell path None
      (record { events = cut.events; earlier = cut.earlier; does = λ told. inr (inl one_more, cut.left told) }) leaves)
  cut_edit_keeps (Build words ∷ moves) cut leaves = absurd cut

-- ---- the store at the end of visits

module _ (tells : Bool) (B : Behaviour) (format : LogFormat) where
  world_at_end : (edges : List Edge) (visits : List (Visit tells B format)) (first last : World) → IsHistoryFrom edges visits first last → world_after first visits ≡ last
  world_at_end edges [] first last history = sym history
  world_at_end edges (v ∷ visits) first last history = world_at_end (edges_after edges v) visits (exit_of v) last history.2

  last-append : (edges : List Edge) (visits : List (Visit tells B format)) (v : Visit tells B format) → last_edges edges (visits ++ v ∷ []) ≡ edges_after (last_edges edges visits) v
  last-append edges [] v = refl
  last-append edges (w ∷ visits) v = last-append (edges_after edges w) visits v

  -- from a faithful store it is faithful there
  faithful_at : (own : OwnFiles) → IsTrue tells → (visits : List (Visit tells B format)) (first last : World) → IsHistory visits first last → AllByRecursion HasHeadline visits
      → IsFaithfulStore B format own [] first → AllByRecursion (λ v. Keeps own v) visits → IsFaithfulStore B format own (last_edges [] visits) last
  faithful_at own tell visits first last history headlines faithful keeps =
      subst (λ (w : World). IsFaithfulStore B format own (last_edges [] visits) w) (world_at_end [] visits first last history.1)
      (histories_are_as_claimed tells B format visits first last history headlines own tell faithful visits [] (sym (append-nil visits)) keeps).0

  -- behind a restart too
  faithful_again : (own : OwnFiles) → IsTrue tells → (visits : List (Visit tells B format)) (first now mid : World) → IsHistory visits first now → AllByRecursion HasHeadline visits
      → IsFaithfulStore B format own [] first → AllByRecursion (λ v. Keeps own v) visits → IsRestart tells now mid
      → IsKeptBetween format own (last_edges [] visits) now mid
      → IsFaithfulStore B format own (last_edges [] visits) mid
  faithful_again own tell visits first now mid history headlines faithful keeps restart between =
      subst (λ (es : List Edge). IsFaithfulStore B format own es mid) (last-append [] visits (Restarted (last_edges [] visits) now mid restart))
      (faithful_at own tell (visits ++ Restarted (last_edges [] visits) now mid restart ∷ []) first mid
      (histories_grow tells B format visits first now (Restarted (last_edges [] visits) now mid restart) history refl refl)
      (all_append HasHeadline visits (Restarted (last_edges [] visits) now mid restart ∷ []) headlines (tt, tt)) faithful
      (all_append (λ v. Keeps own v) visits (Restarted (last_edges [] visits) now mid restart ∷ []) keeps (between, tt)))

-- ---- the end

module _ (tells : Bool) (B : Behaviour) (format : LogFormat) (name : List ℕ) (limits : Limits) where
  abbrev R : Reader
  R = words_in tells name limits

  module _ (moves : List Move) (asked : Bool) (reports : List Report) (first now : World) (gone : IsGone tells B format name limits moves asked reports first now) where
    -- the moves so far were driven, under the headline
    abbrev driven_so : IsDriven tells B format R moves (answers_in gone.visits) first now
    driven_so = record {
      visits = gone.visits;
      history = gone.history;
      carries = gone.carries;
      restarts = gone.restarts;
      answered = refl;
      logs = gone.logs;
      headline = histories_are_as_claimed tells B format gone.visits first now gone.history gone.headlines;
    }

    pub was_driven : WasDriven tells B format name limits moves reports first now
    was_driven = record { answers = answers_in gone.visits; driven = driven_so; reported = gone.reported; files = gone.files }

    module _ (rest : List Move) (mid new : World) (ended : asked ≡ false → HaveEnded now) (starts : StartsAgain tells asked now mid) (cut : IsCutNext tells rest mid new) (unrefused : IsUnrefused mid new) where
      idle : HaveEnded mid
      idle = elim starts [
        | inl none ↦ subst HaveEnded (sym none.1) (ended none.0)
        | inr some ↦ restarted_idle tells now mid some.1
      ]

      faithful_before : (own : OwnFiles) → IsTrue tells → IsFaithfulStore B format own [] first → AllByRecursion (λ v. Keeps own v) gone.visits
          → IsKeptBetween format own (last_edges [] gone.visits) now mid
          → IsFaithfulStore B format own (last_edges [] gone.visits) mid
      faithful_before own tell faithful keeps between = elim starts [
        | inl none ↦ subst (λ (w : World). IsFaithfulStore B format own (last_edges [] gone.visits) w) (sym none.1) (faithful_at tells B format own tell gone.visits first now gone.history gone.headlines faithful keeps)
        | inr some ↦ faithful_again tells B format own tell gone.visits first now mid gone.history gone.headlines faithful keeps some.1 between
      ]

      pub cut_in_edit : IsCutInEdit tells B format R (moves ++ rest) first new
      cut_in_edit = record {
        short = record {
          done = moves;
          rest = rest;
          splits = refl;
          answers = answers_in gone.visits;
          before = now;
          driven = driven_so;
          next = inr (mid, subst (λ (b : Bool). StartsAgain tells b now mid) (sym gone.asks) starts, cut);
        };
        files = gone.files;
        again = mid;
        starts = subst (λ (b : Bool). StartsAgain tells b now mid) (sym gone.asks) starts;
        cut = cut;
        unrefused = unrefused;
        faithful = λ own tell faithful keeps between later others leaves.
            cut_edit_keeps tells tell B format own (last_edges [] gone.visits) mid new (faithful_before own tell faithful keeps between) idle later others rest cut leaves;
      }
