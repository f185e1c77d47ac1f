-- What the writes of a command do to history, files and events.
use Rattle.std.proofs.Common.{◌≡◌, ℕ, ◌+◌, Bool, true, false, List, [], ◌∷◌, ◌++◌, Option, Some, None, refl, sym, ◌∙◌, ap, cond, ◌&&◌, bytes_eq, append_assoc, subst}
use Rattle.std.specs.Option.{option_eq}
use Rattle.std.proofs.lemmas.List.{append-nil}
use Rattle.std.proofs.lemmas.Slice.Eq.{bytes_eq-Decides}
use Rattle.model.specs.declared.event.Event.{Event}
use Rattle.model.specs.declared.event.Event.TheVariants.{Finish}
use Rattle.model.specs.declared.event.Moment.{Moment}
use Rattle.model.specs.declared.event.Moment.TheVariants.{Wrote, Happened}
use Rattle.model.specs.declared.event.Writer.TheVariants.{Command}
use Rattle.model.specs.declared.outcome.Outcome.{Outcome}
use Rattle.model.specs.declared.outcome.Write.{Write}
use Rattle.model.specs.World.{View, World, written, file_at, content_of, view_of, latest, runs, IsRunning}
use Rattle.model.specs.Calls.{AllByOthers, OthersWrote, Finishes}
use Rattle.sim.specs.History.{is_skipped, with_event, with_write, with_writes, after_write, after_writes}
use Rattle.sim.specs.World.{happened, worked}
use Rattle.sim.proofs.Views.{file_from-push}
use Rattle.sim.specs.Jobs.{Told, with_finish}
use Rattle.sim.specs.World.{world_with}

-- ---- files

and_second : (a b : Bool) → (a && b) ≡ true → b ≡ true
and_second true b both = both
and_second false b both = let never : ⊥ = cc in absurd never

same_content : (a b : Option (List ℕ)) → option_eq bytes_eq a b ≡ true → a ≡ b
same_content None None same = refl
same_content None (Some b) same = let never : ⊥ = cc in absurd never
same_content (Some a) None same = let never : ⊥ = cc in absurd never
same_content (Some a) (Some b) same = ap Some ((bytes_eq-Decides a b).0 same)

content_of-written : (content : Option (List ℕ)) (stamp : ℕ) → content_of (written content stamp) ≡ content
content_of-written None stamp = refl
content_of-written (Some content) stamp = refl

-- a write that is skipped would have changed nothing
skipped : (h : List Moment) (write : Write) (path : List ℕ) → is_skipped (view_of h) write ≡ true → view_of h path ≡ after_write (view_of h) write path
skipped h write path skip = by_test (bytes_eq write.path path) refl
  where
    by_test : (b : Bool) → bytes_eq write.path path ≡ b → view_of h path ≡ cond b write.content (view_of h path)
    by_test true e = ap (view_of h) (sym ((bytes_eq-Decides write.path path).0 e)) ∙ same_content (view_of h write.path) write.content (and_second write.only_changes (option_eq bytes_eq (view_of h write.path) write.content) skip)
    by_test false e = refl

with_write-view : (job : ℕ) (write : Write) (h : List Moment) (path : List ℕ) → view_of (with_write job write h) path ≡ after_write (view_of h) write path
with_write-view job write h path = by_test (is_skipped (view_of h) write) refl
  where
    by_path : (b : Bool) → content_of (cond b (written write.content (latest h + 1)) (file_at h path)) ≡ cond b write.content (view_of h path)
    by_path true = content_of-written write.content (latest h + 1)
    by_path false = refl

    by_test : (b : Bool) → is_skipped (view_of h) write ≡ b → view_of (cond b h (h ++ Wrote (Command job) write.path write.content (latest h + 1) ∷ [])) path ≡ after_write (view_of h) write path
    by_test true e = skipped h write path e
    by_test false e = ap content_of (file_from-push path None h (Wrote (Command job) write.path write.content (latest h + 1))) ∙ by_path (bytes_eq write.path path)

after_writes-same : (u v : View) → ((path : List ℕ) → u path ≡ v path) → (writes : List Write) (path : List ℕ) → after_writes u writes path ≡ after_writes v writes path
after_writes-same u v same [] path = same path
after_writes-same u v same (write ∷ writes) path =
    after_writes-same (after_write u write) (after_write v write) (λ p. ap (cond (bytes_eq write.path p) write.content) (same p)) writes path

pub with_writes-view : (job : ℕ) (writes : List Write) (h : List Moment) (path : List ℕ) → view_of (with_writes job writes h) path ≡ after_writes (view_of h) writes path
with_writes-view job [] h path = refl
with_writes-view job (write ∷ writes) h path =
    with_writes-view job writes (with_write job write h) path ∙ after_writes-same (view_of (with_write job write h)) (after_write (view_of h) write) (with_write-view job write h) writes path

-- ---- history

pub append_all : (running : ℕ → Type 0) (h k : List Moment) → AllByOthers running h → AllByOthers running k → AllByOthers running (h ++ k)
append_all running [] k all_h all_k = all_k
append_all running (m ∷ h) k all_h all_k = (all_h.0, append_all running h k all_h.1 all_k)

with_write-others : (running : ℕ → Type 0) (job : ℕ) (write : Write) (h : List Moment) → running job → OthersWrote running h (with_write job write h)
with_write-others running job write h runs_job = by_test (is_skipped (view_of h) write)
  where
    by_test : (b : Bool) → OthersWrote running h (cond b h (h ++ Wrote (Command job) write.path write.content (latest h + 1) ∷ []))
    by_test true = record { more = []; grows = sym (append-nil h); all = tt }
    by_test false = record { more = Wrote (Command job) write.path write.content (latest h + 1) ∷ []; grows = refl; all = (runs_job, tt) }

pub with_writes-others : (running : ℕ → Type 0) (job : ℕ) (writes : List Write) (h : List Moment) → running job → OthersWrote running h (with_writes job writes h)
with_writes-others running job [] h runs_job = record { more = []; grows = sym (append-nil h); all = tt }
with_writes-others running job (write ∷ writes) h runs_job =
    let first = with_write-others running job write h runs_job in
    let rest = with_writes-others running job writes (with_write job write h) runs_job in
    record {
      more = first.more ++ rest.more;
      grows = rest.grows ∙ ap (λ (l : List Moment). l ++ rest.more) first.grows ∙ append_assoc h first.more rest.more;
      all = append_all running first.more rest.more first.all rest.all;
    }

pub others_then : (running : ℕ → Type 0) (h k l : List Moment) → OthersWrote running h k → OthersWrote running k l → OthersWrote running h l
others_then running h k l first rest = record {
  more = first.more ++ rest.more;
  grows = rest.grows ∙ ap (λ (m : List Moment). m ++ rest.more) first.grows ∙ append_assoc h first.more rest.more;
  all = append_all running first.more rest.more first.all rest.all;
}

pub nobody_wrote : (running : ℕ → Type 0) (h k : List Moment) → k ≡ h → OthersWrote running h k
nobody_wrote running h k same = record { more = []; grows = same ∙ sym (append-nil h); all = tt }

pub job_wrote : (job : ℕ) (writes : List Write) (h k : List Moment) (events : List Event) → runs job events ≡ true → k ≡ with_writes job writes h → OthersWrote (IsRunning events) h k
job_wrote job writes h k events live is = subst (OthersWrote (IsRunning events) h) (sym is) (with_writes-others (IsRunning events) job writes h live)

-- ---- the call

pub ends_world : (job : ℕ) (given : Outcome) (h new : List Moment) (told after : Told) (tick failures at_start : ℕ) (refused : Option ℕ) → after ≡ with_finish job given.ok told
    → new ≡ with_event (Some (Finish job given.ok)) (with_writes job given.writes h)
    → world_with new after tick failures at_start refused ≡ happened (Finish job given.ok) (worked job given (world_with h told tick failures at_start refused))
ends_world job given h new told after tick failures at_start refused told_is is = λ i. world_with (is i) (told_is i) tick failures at_start refused

pub ends_view : (job : ℕ) (given : Outcome) (h new : List Moment) (path : List ℕ) → new ≡ with_event (Some (Finish job given.ok)) (with_writes job given.writes h) → view_of new path ≡ after_writes (view_of h) given.writes path
ends_view job given h new path is =
    ap (λ (moments : List Moment). view_of moments path) is
    ∙ ap content_of (file_from-push path None (with_writes job given.writes h) (Happened (Finish job given.ok)))
    ∙ with_writes-view job given.writes h path

pub finishes_now : (job : ℕ) (ok : Bool) (outcome : Outcome) (old new : World) → runs job old.events ≡ true → new ≡ happened (Finish job ok) (worked job outcome old) → Finishes true job ok old new
finishes_now job ok outcome old new ran is =
    let others = with_writes-others (IsRunning old.events) job outcome.writes old.history ran in
    record {
      ran = ran;
      events = ap (λ (w : World). w.events) is;
      ticked = ap (λ (w : World). w.ticked) is;
      at_start = ap (λ (w : World). w.failures_at_start) is;
      history = λ _. record {
        earlier = others.more;
        later = [];
        grows = ap (λ (w : World). w.history) is ∙ ap (λ (l : List Moment). l ++ Happened (Finish job ok) ∷ []) others.grows ∙ append_assoc old.history others.more (Happened (Finish job ok) ∷ []);
        all_earlier = others.all;
        all_later = tt;
      };
    }
