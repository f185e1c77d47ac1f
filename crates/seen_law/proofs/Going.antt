-- Each call of the real site, as it is told.
use Rattle.std.proofs.Common.{◌≡◌, inl, inr, ℕ, suc, ◌<◌, nat_lt, ◌==◌, Bool, true, false, List, [], ◌∷◌, ◌++◌, Option, Some, None, refl, sym, ◌∙◌, ap, subst, append_assoc, arith}
use Rattle.std.proofs.lemmas.Bool.{cases_Bool, cond-false, cond-true, eq-eqb, ltb-true}
use Rattle.model.specs.declared.act.Act.{Act}
use Rattle.model.specs.declared.event.Event.{Event}
use Rattle.model.specs.declared.event.Event.TheVariants.{Start, Finish}
use Rattle.model.specs.declared.event.Moment.{Moment}
use Rattle.model.specs.declared.event.Moment.TheVariants.{Wrote, Happened}
use Rattle.model.specs.declared.event.Writer.TheVariants.{Program}
use Rattle.model.specs.World.{World, File, IsRunning, written, file_from, file_at, content_of, stamp_of, runs}
use Rattle.model.specs.Calls.{IsByOthers, AllByOthers, OthersWrote, Adds, OnlyLooks, Sees, Ticks, Writes, Appends, Starts, Finishes, IsRestart, content_or_empty}
use Rattle.theory.proofs.Lists.{all_append, all_parts, same_rest}
use Rattle.theory.proofs.Files.{file_from-append}
use Rattle.theory.proofs.Events.{runs_push}
use Rattle.seen_law.specs.Retold.{Telling, Started, none_started, started_after, start_these, stamp_told, under, told_file, teller, wrote_as, write_told, takes_all, files_from, retell, retold}
use Rattle.seen_law.specs.Laws.{GoesAs, IsTold, IsPlain, started_so, told_then, LooksAt, IsCalled, LooksAreTold, AnswersAreTold, TakenIsLater, WritesAreTold, EventsAreTold, FilesAreTold}
use Rattle.seen_law.proofs.Retelling.{started-append, retell-append, files_told, others_told, others_start_none, taken_by, told_holds}

-- what the program writes where it counts under this stamp is told as that
write_under : (t : Telling) (started : Started) (p content : List ℕ) (stamp counts : ℕ) → t.hidden p ≡ false → t.counts p (record { content = content; stamp = stamp }) ≡ Some counts
    → write_told t started Program p (Some content) stamp ≡ Wrote Program p (Some content) counts
write_under t started p content stamp counts apart is =
    ap (λ (h : Bool). wrote_as (teller h Program) p (told_file t.counts (started p) p (written (Some content) stamp)) stamp) apart
    ∙ ap (λ (c : Option ℕ). wrote_as Program p (under (stamp_told c (started p) stamp) content) stamp) is

-- what it deletes is told as deleted
remove_under : (t : Telling) (started : Started) (p : List ℕ) (stamp : ℕ) → t.hidden p ≡ false → write_told t started Program p None stamp ≡ Wrote Program p None stamp
remove_under t started p stamp apart = ap (λ (h : Bool). wrote_as (teller h Program) p None stamp) apart

-- what always counts is told as what it holds
holds_same : (t : Telling) (p : List ℕ) → IsTold t p → (started : Option ℕ) (file : Option File) → content_or_empty (told_file t.counts started p file) ≡ content_or_empty file
holds_same t p told started None = refl
holds_same t p told started (Some file) =
    ap (λ (c : Option ℕ). content_or_empty (under (stamp_told c started file.stamp) file.content)) (told.1 file).1

module _ (t : Telling) (first before more : List Moment) (real new : World) (called : IsCalled t first before more real) where
  -- the site as it is told before the call
  abbrev old_told : List Moment
  old_told = before ++ retell t none_started (file_at first) more

  abbrev now_started : Started
  now_started = started_after t none_started more

  abbrev now_files : List ℕ → Option File
  now_files = files_from (file_at first) more

  -- these moments as they are told
  abbrev told_of : List Moment → List Moment
  told_of ms = retell t now_started now_files ms

  told_on : (ms : List Moment) → before ++ retell t none_started (file_at first) (more ++ ms) ≡ old_told ++ told_of ms
  told_on ms =
      ap (λ (l : List Moment). before ++ l) (retell-append t none_started (file_at first) more ms)
      ∙ sym (append_assoc before (retell t none_started (file_at first) more) (told_of ms))

  real_on : (history ms : List Moment) → history ≡ real.history ++ ms → history ≡ first ++ (more ++ ms)
  real_on history ms grows = grows ∙ (ap (λ (l : List Moment). l ++ ms) called.so_far ∙ append_assoc first more ms)

  -- what is told of the path behind these moments
  told_at : (p : List ℕ) (ms : List Moment) → file_at (old_told ++ told_of ms) p ≡ told_file t.counts (started_after t now_started ms p) p (file_at (real.history ++ ms) p)
  told_at p ms =
      ap (λ (h : List Moment). file_at h p) (sym (told_on ms))
      ∙ (file_from-append p None before (retell t none_started (file_at first) (more ++ ms))
      ∙ (ap (λ (f : Option File). file_from p f (retell t none_started (file_at first) (more ++ ms))) (called.begins p)
      ∙ (files_told t none_started (file_at first) p (more ++ ms)
      ∙ (ap (λ (s : Started). told_file t.counts (s p) p (file_from p (file_at first p) (more ++ ms))) (started-append t none_started more ms)
      ∙ ap (λ (f : Option File). told_file t.counts (started_after t now_started ms p) p f)
      (sym (file_from-append p None first (more ++ ms)) ∙ ap (λ (h : List Moment). file_at h p) (sym (real_on (real.history ++ ms) ms refl)))))))

  -- behind what others wrote
  told_by_others : (running : ℕ → Type 0) (p : List ℕ) (ms : List Moment) → AllByOthers running ms → file_at (old_told ++ told_of ms) p ≡ told_then t more p (file_at (real.history ++ ms) p)
  told_by_others running p ms all =
      told_at p ms ∙ ap (λ (s : Started). told_file t.counts (s p) p (file_at (real.history ++ ms) p)) (others_start_none t running now_started ms all)

  -- ---- calls that look

  looks_by : (ms : List Moment) → new.history ≡ real.history ++ ms → AllByOthers (IsRunning real.events) (told_of ms)
      → new.events ≡ real.events → new.ticked ≡ real.ticked → new.failures_at_start ≡ real.failures_at_start
      → OnlyLooks true (retold t first before more real) (retold t first before (more ++ ms) new)
  looks_by ms grows all events ticked at_start = record {
    events = events;
    ticked = ticked;
    at_start = at_start;
    history = λ tells. record { more = told_of ms; grows = told_on ms; all = all };
  }

  looks : OnlyLooks true real new → GoesAs t first before more real new (OnlyLooks true)
  looks is =
      let wrote = is.history refl in
      record {
        since = wrote.more;
        grows = real_on new.history wrote.more wrote.grows;
        so = looks_by wrote.more wrote.grows (others_told t (IsRunning real.events) now_started now_files wrote.more wrote.all) is.events is.ticked is.at_start;
      }

  -- what is kept from the build, between what others wrote
  hidden_others : (running : ℕ → Type 0) (p : List ℕ) (content : Option (List ℕ)) (stamp : ℕ) (earlier later : List Moment) → t.hidden p ≡ true → AllByOthers running earlier → AllByOthers running later
      → AllByOthers running (told_of (earlier ++ Wrote Program p content stamp ∷ later))
  hidden_others running p content stamp earlier later is all_earlier all_later =
      let then_started : Started = started_after t now_started earlier in
      let then_files : List ℕ → Option File = files_from now_files earlier in
      let told : Option File = told_file t.counts (then_started p) p (written content stamp) in
      subst (λ (l : List Moment). AllByOthers running l) (sym (retell-append t now_started now_files earlier (Wrote Program p content stamp ∷ later)))
      (all_append (IsByOthers running) (told_of earlier) (retell t then_started then_files (Wrote Program p content stamp ∷ later))
      (others_told t running now_started now_files earlier all_earlier) (
        subst (λ (h : Bool). IsByOthers running (wrote_as (teller h Program) p told stamp)) (sym is) tt,
        others_told t running then_started (files_from then_files (Wrote Program p content stamp ∷ [])) later all_later,
      ))

  hidden_write : (p : List ℕ) (content : Option (List ℕ)) → t.hidden p ≡ true → Writes true p content real new → GoesAs t first before more real new (OnlyLooks true)
  hidden_write p content is writes =
      let adds = (writes.history refl).1 in
      let ms : List Moment = adds.earlier ++ Wrote Program p content (writes.history refl).0 ∷ adds.later in
      record {
        since = ms;
        grows = real_on new.history ms adds.grows;
        so = looks_by ms adds.grows (hidden_others (IsRunning real.events) p content (writes.history refl).0 adds.earlier adds.later is adds.all_earlier adds.all_later) writes.events writes.ticked writes.at_start;
      }

  hidden_append : (p bytes : List ℕ) → t.hidden p ≡ true → Appends true p bytes real new → GoesAs t first before more real new (OnlyLooks true)
  hidden_append p bytes is appends =
      let adds = appends.history refl in
      let content : Option (List ℕ) = Some (content_or_empty (file_at (real.history ++ adds.earlier) p) ++ bytes) in
      let ms : List Moment = adds.earlier ++ Wrote Program p content adds.stamp ∷ adds.later in
      record {
        since = ms;
        grows = real_on new.history ms adds.grows;
        so = looks_by ms adds.grows (hidden_others (IsRunning real.events) p content adds.stamp adds.earlier adds.later is adds.all_earlier adds.all_later) appends.events appends.ticked appends.at_start;
      }

  -- ---- answers

  -- a moment of the call
  module _ (is : OnlyLooks true real new) (earlier later : List Moment) (grows : new.history ≡ real.history ++ (earlier ++ later)) where
    abbrev wrote : OthersWrote (IsRunning real.events) real.history new.history
    wrote = is.history refl

    all_of : AllByOthers (IsRunning real.events) (earlier ++ later)
    all_of = subst (λ (l : List Moment). AllByOthers (IsRunning real.events) l) (same_rest real.history wrote.more (earlier ++ later) (sym wrote.grows ∙ grows)) wrote.all

    looks_then : OnlyLooks true (retold t first before more real) (retold t first before (more ++ (earlier ++ later)) new)
    looks_then = looks_by (earlier ++ later) grows (others_told t (IsRunning real.events) now_started now_files (earlier ++ later) all_of) is.events is.ticked is.at_start

    told_split : before ++ retell t none_started (file_at first) (more ++ (earlier ++ later)) ≡ old_told ++ (told_of earlier ++ retell t (started_after t now_started earlier) (files_from now_files earlier) later)
    told_split = told_on (earlier ++ later) ∙ ap (λ (l : List Moment). old_told ++ l) (retell-append t now_started now_files earlier later)

    file_then : (p : List ℕ) → file_at (old_told ++ told_of earlier) p ≡ told_then t more p (file_at (real.history ++ earlier) p)
    file_then p = told_by_others (IsRunning real.events) p earlier (all_parts (IsByOthers (IsRunning real.events)) earlier later all_of).0

  stamps : OnlyLooks true real new → (p : List ℕ) (answer : Option ℕ) → Sees (λ history. stamp_of (told_then t more p (file_at history p))) answer real.history new.history
      → GoesAs t first before more real new (LooksAt (λ history. stamp_of (file_at history p)) answer)
  stamps is p answer sees = record {
    since = sees.earlier ++ sees.later;
    grows = real_on new.history (sees.earlier ++ sees.later) sees.grows;
    so = (
      looks_then is sees.earlier sees.later sees.grows,
      record {
        earlier = told_of sees.earlier;
        later = retell t (started_after t now_started sees.earlier) (files_from now_files sees.earlier) sees.later;
        grows = told_split is sees.earlier sees.later sees.grows;
        is = sees.is ∙ ap stamp_of (sym (file_then is sees.earlier sees.later sees.grows p));
      },
    );
  }

  contents : OnlyLooks true real new → (p : List ℕ) (answer : Option (List ℕ)) → Sees (λ history. content_of (told_then t more p (file_at history p))) answer real.history new.history
      → GoesAs t first before more real new (LooksAt (λ history. content_of (file_at history p)) answer)
  contents is p answer sees = record {
    since = sees.earlier ++ sees.later;
    grows = real_on new.history (sees.earlier ++ sees.later) sees.grows;
    so = (
      looks_then is sees.earlier sees.later sees.grows,
      record {
        earlier = told_of sees.earlier;
        later = retell t (started_after t now_started sees.earlier) (files_from now_files sees.earlier) sees.later;
        grows = told_split is sees.earlier sees.later sees.grows;
        is = sees.is ∙ ap content_of (sym (file_then is sees.earlier sees.later sees.grows p));
      },
    );
  }

  -- ---- the call's own moment

  -- a write, as it is told, between what others wrote
  told_around : (p : List ℕ) (content : Option (List ℕ)) (stamp : ℕ) (earlier later : List Moment) (m : Moment) → write_told t (started_after t now_started earlier) Program p content stamp ≡ m
      → before ++ retell t none_started (file_at first) (more ++ (earlier ++ Wrote Program p content stamp ∷ later))
      ≡ old_told ++ (told_of earlier ++ m ∷ retell t (started_after t now_started earlier) (files_from (files_from now_files earlier) (Wrote Program p content stamp ∷ [])) later)
  told_around p content stamp earlier later m is =
      told_on (earlier ++ Wrote Program p content stamp ∷ later)
      ∙ (ap (λ (l : List Moment). old_told ++ l) (retell-append t now_started now_files earlier (Wrote Program p content stamp ∷ later))
      ∙ ap (λ (n : Moment). old_told ++ (told_of earlier ++ n ∷ retell t (started_after t now_started earlier) (files_from (files_from now_files earlier) (Wrote Program p content stamp ∷ [])) later)) is)

  later_told : (running : ℕ → Type 0) (earlier later : List Moment) (m : Moment) → AllByOthers running later
      → AllByOthers running (retell t (started_after t now_started earlier) (files_from (files_from now_files earlier) (m ∷ [])) later)
  later_told running earlier later m all = others_told t running (started_after t now_started earlier) (files_from (files_from now_files earlier) (m ∷ [])) later all

  adds_write : (p : List ℕ) (content : Option (List ℕ)) (stamp told : ℕ) (adds : Adds (IsRunning real.events) (IsRunning real.events) (Wrote Program p content stamp) real.history new.history)
      → write_told t (started_after t now_started adds.earlier) Program p content stamp ≡ Wrote Program p content told
      → Adds (IsRunning real.events) (IsRunning real.events) (Wrote Program p content told) old_told (before ++ retell t none_started (file_at first) (more ++ (adds.earlier ++ Wrote Program p content stamp ∷ adds.later)))
  adds_write p content stamp told adds is = record {
    earlier = told_of adds.earlier;
    later = retell t (started_after t now_started adds.earlier) (files_from (files_from now_files adds.earlier) (Wrote Program p content stamp ∷ [])) adds.later;
    grows = told_around p content stamp adds.earlier adds.later (Wrote Program p content told) is;
    all_earlier = others_told t (IsRunning real.events) now_started now_files adds.earlier adds.all_earlier;
    all_later = later_told (IsRunning real.events) adds.earlier adds.later (Wrote Program p content stamp) adds.all_later;
  }

  writes : (p content : List ℕ) → IsTold t p → Writes true p (Some content) real new → GoesAs t first before more real new (Writes true p (Some content))
  writes p content told does =
      let stamp : ℕ = (does.history refl).0 in
      let adds = (does.history refl).1 in
      let counts = told.1 (record { content = content; stamp = stamp }) in
      let ms : List Moment = adds.earlier ++ Wrote Program p (Some content) stamp ∷ adds.later in
      record {
        since = ms;
        grows = real_on new.history ms adds.grows;
        so = record {
          events = does.events;
          ticked = does.ticked;
          at_start = does.at_start;
          history = λ tells. (counts.0, adds_write p (Some content) stamp counts.0 adds (write_under t (started_after t now_started adds.earlier) p content stamp counts.0 told.0 counts.1));
        };
      }

  removes : (p : List ℕ) → t.hidden p ≡ false → Writes true p None real new → GoesAs t first before more real new (Writes true p None)
  removes p apart does =
      let stamp : ℕ = (does.history refl).0 in
      let adds = (does.history refl).1 in
      let ms : List Moment = adds.earlier ++ Wrote Program p None stamp ∷ adds.later in
      record {
        since = ms;
        grows = real_on new.history ms adds.grows;
        so = record {
          events = does.events;
          ticked = does.ticked;
          at_start = does.at_start;
          history = λ tells. (stamp, adds_write p None stamp stamp adds (remove_under t (started_after t now_started adds.earlier) p stamp apart));
        };
      }

  -- what always counts holds in both what it holds
  same_content : (p : List ℕ) → IsTold t p → (ms : List Moment) → content_or_empty (file_at (old_told ++ told_of ms) p) ≡ content_or_empty (file_at (real.history ++ ms) p)
  same_content p told ms =
      ap content_or_empty (told_at p ms) ∙ holds_same t p told (started_after t now_started ms p) (file_at (real.history ++ ms) p)

  appends : (p bytes : List ℕ) → IsTold t p → Appends true p bytes real new → GoesAs t first before more real new (Appends true p bytes)
  appends p bytes told does =
      let adds = does.history refl in
      let held : List ℕ = content_or_empty (file_at (real.history ++ adds.earlier) p) ++ bytes in
      let counts = told.1 (record { content = held; stamp = adds.stamp }) in
      let ms : List Moment = adds.earlier ++ Wrote Program p (Some held) adds.stamp ∷ adds.later in
      record {
        since = ms;
        grows = real_on new.history ms adds.grows;
        so = record {
          events = does.events;
          ticked = does.ticked;
          at_start = does.at_start;
          history = λ tells. record {
            stamp = counts.0;
            earlier = told_of adds.earlier;
            later = retell t (started_after t now_started adds.earlier) (files_from (files_from now_files adds.earlier) (Wrote Program p (Some held) adds.stamp ∷ [])) adds.later;
            grows = told_around p (Some held) adds.stamp adds.earlier adds.later (Wrote Program p (Some (content_or_empty (file_at (old_told ++ told_of adds.earlier) p) ++ bytes)) counts.0)
                (write_under t (started_after t now_started adds.earlier) p held adds.stamp counts.0 told.0 counts.1
                ∙ ap (λ (c : List ℕ). Wrote Program p (Some (c ++ bytes)) counts.0) (sym (same_content p told adds.earlier)));
            all_earlier = others_told t (IsRunning real.events) now_started now_files adds.earlier adds.all_earlier;
            all_later = later_told (IsRunning real.events) adds.earlier adds.later (Wrote Program p (Some held) adds.stamp) adds.all_later;
          };
        };
      }

  ticks : (p : List ℕ) (stamp : ℕ) → IsPlain t p → Ticks true p stamp real new → GoesAs t first before more real new (Ticks true p stamp)
  ticks p stamp plain does =
      let adds = does.history refl in
      let held : List ℕ = content_or_empty (file_at (real.history ++ adds.earlier) p) in
      let told : IsTold t p = (plain.0, λ file. (file.stamp, plain.1 file)) in
      let ms : List Moment = adds.earlier ++ Wrote Program p (Some held) stamp ∷ adds.later in
      record {
        since = ms;
        grows = real_on new.history ms adds.grows;
        so = record {
          events = does.events;
          ticked = does.ticked;
          at_start = does.at_start;
          history = λ tells. record {
            earlier = told_of adds.earlier;
            later = retell t (started_after t now_started adds.earlier) (files_from (files_from now_files adds.earlier) (Wrote Program p (Some held) stamp ∷ [])) adds.later;
            grows = told_around p (Some held) stamp adds.earlier adds.later (Wrote Program p (Some (content_or_empty (file_at (old_told ++ told_of adds.earlier) p))) stamp)
                (write_under t (started_after t now_started adds.earlier) p held stamp stamp plain.0 (plain.1 (record { content = held; stamp = stamp }))
                ∙ ap (λ (c : List ℕ). Wrote Program p (Some c) stamp) (sym (same_content p told adds.earlier)));
            all_earlier = others_told t (IsRunning real.events) now_started now_files adds.earlier adds.all_earlier;
            all_later = later_told (IsRunning real.events) adds.earlier adds.later (Wrote Program p (Some held) stamp) adds.all_later;
          };
        };
      }

  -- ---- events

  runs_now : (job : ℕ) (act : Act) (stamp : ℕ) (old events : List Event) → events ≡ old ++ Start job act stamp ∷ [] → IsRunning events job
  runs_now job act stamp old events is =
      ap (λ (l : List Event). runs job l) is ∙ (runs_push job old (Start job act stamp) ∙ cond-true (job == job) true (runs job old) (eq-eqb job job refl))

  starts : (job : ℕ) (act : Act) → Starts true job act real new → GoesAs t first before more real new (Starts true job act)
  starts job act does =
      let adds = does.history refl in
      let then_started : Started = started_after t now_started adds.earlier in
      let then_files : List ℕ → Option File = files_from now_files adds.earlier in
      let behind : Started = start_these then_started (t.makes job) real.ticked in
      let taken : List Moment = takes_all t.counts then_started behind job then_files (t.makes job) in
      let ms : List Moment = adds.earlier ++ Happened (Start job act real.ticked) ∷ adds.later in
      record {
        since = ms;
        grows = real_on new.history ms adds.grows;
        so = record {
          events = does.events;
          ticked = does.ticked;
          at_start = does.at_start;
          history = λ tells. record {
            earlier = told_of adds.earlier;
            later = taken ++ retell t behind then_files adds.later;
            grows = told_on ms ∙ ap (λ (l : List Moment). old_told ++ l) (retell-append t now_started now_files adds.earlier (Happened (Start job act real.ticked) ∷ adds.later));
            all_earlier = others_told t (IsRunning real.events) now_started now_files adds.earlier adds.all_earlier;
            all_later = all_append (IsByOthers (IsRunning new.events)) taken (retell t behind then_files adds.later)
                (taken_by (IsRunning new.events) t.counts then_started behind job (runs_now job act real.ticked real.events new.events does.events) then_files (t.makes job))
                (others_told t (IsRunning new.events) behind then_files adds.later adds.all_later);
          };
        };
      }

  finishes : (job : ℕ) (ok : Bool) → Finishes true job ok real new → GoesAs t first before more real new (Finishes true job ok)
  finishes job ok does =
      let adds = does.history refl in
      let then_started : Started = started_after t now_started adds.earlier in
      let then_files : List ℕ → Option File = files_from now_files adds.earlier in
      let ms : List Moment = adds.earlier ++ Happened (Finish job ok) ∷ adds.later in
      record {
        since = ms;
        grows = real_on new.history ms adds.grows;
        so = record {
          ran = does.ran;
          events = does.events;
          ticked = does.ticked;
          at_start = does.at_start;
          history = λ tells. record {
            earlier = told_of adds.earlier;
            later = retell t then_started then_files adds.later;
            grows = told_on ms ∙ ap (λ (l : List Moment). old_told ++ l) (retell-append t now_started now_files adds.earlier (Happened (Finish job ok) ∷ adds.later));
            all_earlier = others_told t (IsRunning real.events) now_started now_files adds.earlier adds.all_earlier;
            all_later = others_told t (IsRunning new.events) then_started then_files adds.later adds.all_later;
          };
        };
      }

  restarts : IsRestart true real new → GoesAs t first before more real new (IsRestart true)
  restarts does =
      let wrote = does.history refl in
      record {
        since = wrote.more;
        grows = real_on new.history wrote.more wrote.grows;
        so = record {
          earlier = does.earlier;
          events = does.events;
          stopped = does.stopped;
          waits = does.waits;
          history = λ tells. record {
            more = told_of wrote.more;
            grows = told_on wrote.more;
            all = others_told t (IsRunning real.events) now_started now_files wrote.more wrote.all;
          };
        };
      }

-- ---- the laws

pub looks_law : LooksAreTold
looks_law t first before more real new called =
    (looks t first before more real new called, hidden_write t first before more real new called, hidden_append t first before more real new called)

pub answers_law : AnswersAreTold
answers_law t first before more real new called is p =
    (stamps t first before more real new called is p, contents t first before more real new called is p)

pub writes_law : WritesAreTold
writes_law t first before more real new called p =
    (writes t first before more real new called p, removes t first before more real new called p, appends t first before more real new called p, ticks t first before more real new called p)

pub events_law : EventsAreTold
events_law t first before more real new called =
    (starts t first before more real new called, finishes t first before more real new called, restarts t first before more real new called)

pub file_law : (t : Telling) (first before more : List Moment) (real : World) → IsCalled t first before more real → (p : List ℕ)
    → file_at (retold t first before more real).history p ≡ told_then t more p (file_at real.history p)
file_law t first before more real called p =
    file_from-append p None before (retell t none_started (file_at first) more)
    ∙ (ap (λ (f : Option File). file_from p f (retell t none_started (file_at first) more)) (called.begins p)
    ∙ (files_told t none_started (file_at first) p more
    ∙ ap (λ (f : Option File). told_then t more p f) (sym (file_from-append p None first more) ∙ ap (λ (h : List Moment). file_at h p) (sym called.so_far))))

pub files_law : FilesAreTold
files_law t first before more real called p = (
  file_law t first before more real called p,
  λ content is. told_holds t.counts (started_so t more p) p (file_at real.history p) content (ap content_of (sym (file_law t first before more real called p)) ∙ is),
)

pub taken_law : TakenIsLater
taken_law start stamp = elim (cases_Bool (nat_lt start stamp)) [
  | inl later ↦ subst (λ (k : ℕ). start < k) (sym (cond-true (nat_lt start stamp) stamp (suc start) later)) (ltb-true start stamp later)
  | inr early ↦ subst (λ (k : ℕ). start < k) (sym (cond-false (nat_lt start stamp) stamp (suc start) early)) (omega arith)
]
