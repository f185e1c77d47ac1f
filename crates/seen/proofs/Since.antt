-- What happened since a build began, and which commands were started in that.
use Rattle.std.proofs.Common.{◌≡◌, ◌⊎◌, inl, inr, ℕ, Bool, true, false, Option, Some, None, Result, Ok, Err, List, [], ◌∷◌, ◌++◌, refl, sym, ◌∙◌, ap, subst, append_assoc, append-nil}
use Rattle.std.specs.Prelude.{IsTrue, IfOk, OnErr, OnOk, drop, length}
use Rattle.std.proofs.Math.Seq.{drop-append_seam, drop-length}
use Rattle.model.specs.declared.act.Act.{Act}
use Rattle.model.specs.declared.event.Event.TheVariants.{Start, Finish}
use Rattle.model.specs.declared.event.Finished.{Finished}
use Rattle.model.specs.declared.event.Moment.{Moment}
use Rattle.model.specs.declared.fault.SiteFault.{SiteFault}
use Rattle.model.specs.declared.event.Moment.TheVariants.{Wrote, Happened}
use Rattle.model.specs.declared.event.Writer.TheVariants.{Program, Command, Someone}
use Rattle.model.specs.World.{World}
use Rattle.model.specs.Calls.{AllByOthers, Adds, Appends, AppendsOrNot, Finishes, IsRestart, OnlyLooks, OthersWrote, SpoilsOrNot, Starts, Ticks, TicksOrNot, Writes, WritesOrNot}
use Rattle.model.specs.Graph.{has}
use Rattle.seen_law.specs.Retold.{Telling, Started, begun, none_started, start_these, started_after}
use Rattle.seen_true.specs.Going.{since}
use Rattle.seen_true.specs.Counting.{telling}
use Rattle.seen.specs.Begun.{Begun, GoesOn}

started-append : (t : Telling) (started : Started) (xs ys : List Moment) → started_after t started (xs ++ ys) ≡ started_after t (started_after t started xs) ys
started-append t started [] ys = refl
started-append t started (Wrote by p content stamp ∷ xs) ys = started-append t started xs ys
started-append t started (Happened (Start job act stamp) ∷ xs) ys = started-append t (start_these started (t.makes job) stamp) xs ys
started-append t started (Happened (Finish job ok) ∷ xs) ys = started-append t started xs ys

-- what others wrote starts nothing
others_none : (running : ℕ → Type 0) (t : Telling) (started : Started) (ms : List Moment) → AllByOthers running ms → started_after t started ms ≡ started
others_none running t started [] all = refl
others_none running t started (Wrote Program p content stamp ∷ ms) all = others_none running t started ms all.1
others_none running t started (Wrote (Command job) p content stamp ∷ ms) all = others_none running t started ms all.1
others_none running t started (Wrote Someone p content stamp ∷ ms) all = others_none running t started ms all.1
others_none running t started (Happened (Start job act stamp) ∷ ms) all = absurd all.0
others_none running t started (Happened (Finish job ok) ∷ ms) all = absurd all.0

module _ (b : Begun) (x y : World) (so_far : x.history ≡ b.first ++ since b x) where
  -- behind these moments
  grown : (ms : List Moment) → y.history ≡ x.history ++ ms → y.history ≡ b.first ++ (since b x ++ ms)
  grown ms grows = grows ∙ (ap (λ (h : List Moment). h ++ ms) so_far ∙ append_assoc b.first (since b x) ms)

  pub since_on : (ms : List Moment) → y.history ≡ x.history ++ ms → since b y ≡ since b x ++ ms
  since_on ms grows = ap (λ (h : List Moment). drop (length b.first) h) (grown ms grows) ∙ drop-append_seam b.first (since b x ++ ms)

  pub goes_by : (ms : List Moment) → y.history ≡ x.history ++ ms → y.history ≡ b.first ++ since b y
  goes_by ms grows = grown ms grows ∙ ap (λ (h : List Moment). b.first ++ h) (sym (since_on ms grows))

  abbrev now : Started
  now = started_after (telling b.knows) none_started (since b x)

  started_by_all : (ms : List Moment) → y.history ≡ x.history ++ ms → started_after (telling b.knows) none_started (since b y) ≡ started_after (telling b.knows) now ms
  started_by_all ms grows = ap (λ (l : List Moment). started_after (telling b.knows) none_started l) (since_on ms grows) ∙ started-append (telling b.knows) none_started (since b x) ms

  started_same : (running : ℕ → Type 0) (ms : List Moment) → y.history ≡ x.history ++ ms → AllByOthers running ms → started_after (telling b.knows) none_started (since b y) ≡ now
  started_same running ms grows all = started_by_all ms grows ∙ others_none running (telling b.knows) now ms all

  started_around : (before after : ℕ → Type 0) (m : Moment) (earlier later : List Moment) → y.history ≡ x.history ++ (earlier ++ m ∷ later) → AllByOthers before earlier → AllByOthers after later
      → started_after (telling b.knows) none_started (since b y) ≡ started_after (telling b.knows) now (m ∷ [])
  started_around before after m earlier later grows all_earlier all_later =
      started_by_all (earlier ++ m ∷ later) grows
      ∙ (started-append (telling b.knows) now earlier (m ∷ later)
      ∙ (ap (λ (s : Started). started_after (telling b.knows) s (m ∷ later)) (others_none before (telling b.knows) now earlier all_earlier)
      ∙ (started-append (telling b.knows) now (m ∷ []) later
      ∙ others_none after (telling b.knows) (started_after (telling b.knows) now (m ∷ [])) later all_later)))

-- The history goes on, and these commands were started.
pub record Follows (b : Begun) (x y : World) (started : Started) : Type 0 where
  pub so_far : y.history ≡ b.first ++ since b y
  pub is : started_after (telling b.knows) none_started (since b y) ≡ started

abbrev pub started_in : Begun → World → Started
started_in b x = started_after (telling b.knows) none_started (since b x)

module _ (b : Begun) (x y : World) (so_far : x.history ≡ b.first ++ since b x) where
  others_follow : (running : ℕ → Type 0) → OthersWrote running x.history y.history → Follows b x y (started_in b x)
  others_follow running wrote = record { so_far = goes_by b x y so_far wrote.more wrote.grows; is = started_same b x y so_far running wrote.more wrote.grows wrote.all }

  pub looks_follow : OnlyLooks true x y → Follows b x y (started_in b x)
  looks_follow does = others_follow _ (does.history refl)

  pub restarts_follow : IsRestart true x y → Follows b x y (started_in b x)
  restarts_follow does = others_follow _ (does.history refl)

  pub writes_follow : (p : List ℕ) (content : _) → Writes true p content x y → Follows b x y (started_in b x)
  writes_follow p content does =
      let adds = (does.history refl).1 in
      record {
        so_far = goes_by b x y so_far (adds.earlier ++ Wrote Program p content (does.history refl).0 ∷ adds.later) adds.grows;
        is = started_around b x y so_far _ _ (Wrote Program p content (does.history refl).0) adds.earlier adds.later adds.grows adds.all_earlier adds.all_later;
      }

  pub appends_follow : (p bytes : List ℕ) → Appends true p bytes x y → Follows b x y (started_in b x)
  appends_follow p bytes does =
      let adds = does.history refl in
      record { so_far = goes_by b x y so_far _ adds.grows; is = started_around b x y so_far _ _ _ adds.earlier adds.later adds.grows adds.all_earlier adds.all_later }

  pub ticks_follow : (p : List ℕ) (stamp : ℕ) → Ticks true p stamp x y → Follows b x y (started_in b x)
  ticks_follow p stamp does =
      let adds = does.history refl in
      record { so_far = goes_by b x y so_far _ adds.grows; is = started_around b x y so_far _ _ _ adds.earlier adds.later adds.grows adds.all_earlier adds.all_later }

  pub finishes_follow : (job : ℕ) (ok : Bool) → Finishes true job ok x y → Follows b x y (started_in b x)
  finishes_follow job ok does =
      let adds = does.history refl in
      record { so_far = goes_by b x y so_far _ adds.grows; is = started_around b x y so_far _ _ _ adds.earlier adds.later adds.grows adds.all_earlier adds.all_later }

  pub starts_follow : (job : ℕ) (act : Act) → Starts true job act x y → Follows b x y (start_these (started_in b x) ((telling b.knows).makes job) x.ticked)
  starts_follow job act does =
      let adds = does.history refl in
      record { so_far = goes_by b x y so_far _ adds.grows; is = started_around b x y so_far _ _ _ adds.earlier adds.later adds.grows adds.all_earlier adds.all_later }

-- ---- where the site may not tell its files

-- the history goes on, and no command was started
pub record Stays (tells : Bool) (b : Begun) (x y : World) : Type 0 where
  pub so_far : GoesOn tells b y
  pub started : IsTrue tells → (p : List ℕ) → started_in b y p ≡ started_in b x p

never : false ≡ true → ⊥
never e = cc

stays_by : (tells : Bool) (b : Begun) (x y : World) → (IsTrue tells → Follows b x y (started_in b x)) → Stays tells b x y
stays_by tells b x y follows = record { so_far = λ is. (follows is).so_far; started = λ is p. ap (λ (s : Started). s p) (follows is).is }

module _ (tells : Bool) (b : Begun) (x y : World) (so_far : GoesOn tells b x) where
  by_tells : (does : Bool → Type 0) → (does true → x.history ≡ b.first ++ since b x → Follows b x y (started_in b x)) → does tells → Stays tells b x y
  by_tells does law done = stays_by tells b x y (by tells so_far done)
    where
      by : (it : Bool) → GoesOn it b x → does it → IsTrue it → Follows b x y (started_in b x)
      by false goes is told = absurd (never told)
      by true goes is told = law is (goes refl)

  pub looks_stay : OnlyLooks tells x y → Stays tells b x y
  looks_stay = by_tells (λ it. OnlyLooks it x y) (λ does goes. looks_follow b x y goes does)

  pub restarts_stay : IsRestart tells x y → Stays tells b x y
  restarts_stay = by_tells (λ it. IsRestart it x y) (λ does goes. restarts_follow b x y goes does)

  pub writes_stay : (p : List ℕ) (content : Option (List ℕ)) → Writes tells p content x y → Stays tells b x y
  writes_stay p content = by_tells (λ it. Writes it p content x y) (λ does goes. writes_follow b x y goes p content does)

  pub appends_stay : (p bytes : List ℕ) → Appends tells p bytes x y → Stays tells b x y
  appends_stay p bytes = by_tells (λ it. Appends it p bytes x y) (λ does goes. appends_follow b x y goes p bytes does)

  pub ticks_stay : (p : List ℕ) (stamp : ℕ) → Ticks tells p stamp x y → Stays tells b x y
  ticks_stay p stamp = by_tells (λ it. Ticks it p stamp x y) (λ does goes. ticks_follow b x y goes p stamp does)

  pub finishes_stay : (job : ℕ) (ok : Bool) → Finishes tells job ok x y → Stays tells b x y
  finishes_stay job ok = by_tells (λ it. Finishes it job ok x y) (λ does goes. finishes_follow b x y goes job ok does)

  -- ---- by what was answered

  pub wrote : (p content : List ℕ) (r : Result (Unit {0}) SiteFault) → OnOk r (Writes tells p (Some content) x y) → OnErr r (SpoilsOrNot tells p x y) → Stays tells b x y
  wrote p content (Ok v) ok err = writes_stay p (Some content) ok
  wrote p content (Err fault) ok (inl looks) = looks_stay looks
  wrote p content (Err fault) ok (inr does) = writes_stay p (Some does.0) does.1

  pub replaced : (p : List ℕ) (content : Option (List ℕ)) (r : Result (Unit {0}) SiteFault) → OnOk r (Writes tells p content x y) → OnErr r (WritesOrNot tells p content x y) → Stays tells b x y
  replaced p content (Ok v) ok err = writes_stay p content ok
  replaced p content (Err fault) ok (inl looks) = looks_stay looks
  replaced p content (Err fault) ok (inr does) = writes_stay p content does

  pub appended : (p bytes : List ℕ) (r : Result (Unit {0}) SiteFault) → OnOk r (Appends tells p bytes x y) → OnErr r (AppendsOrNot tells p bytes x y) → Stays tells b x y
  appended p bytes (Ok v) ok err = appends_stay p bytes ok
  appended p bytes (Err fault) ok (inl looks) = looks_stay looks
  appended p bytes (Err fault) ok (inr does) = appends_stay p does.0 does.3

  pub ticked : (p : List ℕ) (r : Result ℕ SiteFault) → IfOk r (λ stamp. Ticks tells p stamp x y) → OnErr r (TicksOrNot tells p x y) → Stays tells b x y
  ticked p (Ok stamp) ok err = ticks_stay p stamp ok
  ticked p (Err fault) ok (inl looks) = looks_stay looks
  ticked p (Err fault) ok (inr does) = ticks_stay p does.0 does.1

  pub waited : (r : Result Finished SiteFault) → IfOk r (λ finished. Finishes tells finished.job finished.ok x y) → OnErr r (OnlyLooks tells x y) → Stays tells b x y
  waited (Ok finished) ok err = finishes_stay finished.job finished.ok ok
  waited (Err fault) ok err = looks_stay err

  -- a start is noted under its stamp
  pub starts_stay : (job : ℕ) (act : Act) → Starts tells job act x y → GoesOn tells b y × (IsTrue tells → (p : List ℕ) → started_in b y p ≡ begun (started_in b x p) (has ((telling b.knows).makes job) p) x.ticked)
  starts_stay job act done = by tells so_far done
    where
      by : (it : Bool) → GoesOn it b x → Starts it job act x y → GoesOn it b y × (IsTrue it → (p : List ℕ) → started_in b y p ≡ begun (started_in b x p) (has ((telling b.knows).makes job) p) x.ticked)
      by false goes is = (λ told. absurd (never told), λ told. absurd (never told))
      by true goes is =
          let follows = starts_follow b x y (goes refl) job act is in
          (λ told. follows.so_far, λ told p. ap (λ (s : Started). s p) follows.is)

-- ---- at the beginning

nothing_since : (b : Begun) (x : World) → x.history ≡ b.first → since b x ≡ []
nothing_since b x is = ap (drop (length b.first)) is ∙ drop-length b.first

pub at_first : (b : Begun) (x : World) → x.history ≡ b.first → x.history ≡ b.first ++ since b x
at_first b x is = is ∙ (sym (append-nil b.first) ∙ ap (λ (l : List Moment). b.first ++ l) (sym (nothing_since b x is)))

pub none_since : (b : Begun) (x : World) → x.history ≡ b.first → (p : List ℕ) → started_in b x p ≡ None
none_since b x is p = ap (λ (l : List Moment). started_after (telling b.knows) none_started l p) (nothing_since b x is)
