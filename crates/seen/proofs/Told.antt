-- Each call on the site below, as it is told.
use Rattle.std.proofs.Common.{◌≡◌, ◌⊎◌, inl, inr, ℕ, Bool, true, false, List, [], ◌∷◌, ◌++◌, Option, Some, None, Result, Ok, Err, refl, sym, ◌∙◌, ap, subst}
use Rattle.std.specs.Prelude.{IsTrue, IfOk, OnErr, OnOk, bytes_eq, drop, length}
use Rattle.std.proofs.Math.Seq.{drop-append_seam}
use Rattle.std.proofs.lemmas.Slice.Eq.{bytes_eq-Decides}
use Rattle.model.specs.declared.act.Act.{Act}
use Rattle.model.specs.declared.event.Finished.{Finished}
use Rattle.model.specs.declared.event.Moment.{Moment}
use Rattle.model.specs.declared.fault.SiteFault.{SiteFault}
use Rattle.model.specs.World.{World, File, content_of, file_at, stamp_of}
use Rattle.model.specs.Calls.{Appends, AppendsOrNot, Finishes, HasCause, IsRestart, KeepsWait, NotesWait, OnlyLooks, Sees, SpoilsOrNot, Starts, StartsOrNot, Ticks, TicksOrNot, Writes, WritesOrNot}
use Rattle.seen_law.specs.Retold.{retold}
use Rattle.seen_law.specs.Laws.{AnswersAreTold, EventsAreTold, GoesAs, IsCalled, IsPlain, IsTold, LooksAreTold, LooksAt, WritesAreTold, told_then}
use Rattle.seen_true.specs.Going.{since}
use Rattle.seen_true.specs.Counting.{telling}
use Rattle.seen.specs.Begun.{Begun, BeginsTold, GoesOn, told_world}

-- what the call did is so of the worlds that are told
gone : (b : Begun) (x y : World) (does : World → World → Type 0)
    → GoesAs (telling b.knows) b.first b.before (since b x) x y does → does (told_world true b x) (told_world true b y)
gone b x y does g =
    subst (λ (ms : List Moment). does (told_world true b x) (retold (telling b.knows) b.first b.before ms y))
    (sym (ap (λ (h : List Moment). drop (length b.first) h) g.grows ∙ drop-append_seam b.first (since b x ++ g.since)))
    g.so

module _ (b : Begun) (x y : World) (so_far : x.history ≡ b.first ++ since b x) (begins : BeginsTold b) where
  called : IsCalled (telling b.knows) b.first b.before (since b x) x
  called = record { begins = begins; so_far = so_far }

  looks_law : LooksAreTold → OnlyLooks true x y → OnlyLooks true (told_world true b x) (told_world true b y)
  looks_law law does = gone b x y (OnlyLooks true) ((law (telling b.knows) b.first b.before (since b x) x y called).0 does)

module _ (tells : Bool) (b : Begun) (x y : World) where
  pub cause_on : {T : Type 0} (r : Result T SiteFault) → HasCause x y r → HasCause (told_world tells b x) (told_world tells b y) r
  cause_on r cause = by tells
    where
      by : (tells : Bool) → HasCause (told_world tells b x) (told_world tells b y) r
      by false = cause
      by true = record {
        grows = cause.grows;
        device = cause.device;
        others = cause.others;
        stopped = cause.stopped;
        after_stop = λ stopped. ((cause.after_stop stopped).0, ap (told_world true b) (cause.after_stop stopped).1);
        earlier = cause.earlier;
      }

  pub waits_on : KeepsWait x y → KeepsWait (told_world tells b x) (told_world tells b y)
  waits_on waits = by tells
    where
      by : (tells : Bool) → KeepsWait (told_world tells b x) (told_world tells b y)
      by false = waits
      by true = waits

-- ---- calls that look, and what the site writes for itself

pub looks_on : (tells : Bool) (b : Begun) (x y : World) → GoesOn tells b x → (IsTrue tells → BeginsTold b) → LooksAreTold → OnlyLooks tells x y → OnlyLooks tells (told_world tells b x) (told_world tells b y)
looks_on false b x y so_far begins law does = does
looks_on true b x y so_far begins law does = looks_law b x y (so_far refl) (begins refl) law does

pub hidden_write : (tells : Bool) (b : Begun) (x y : World) → GoesOn tells b x → (IsTrue tells → BeginsTold b) → LooksAreTold → (p : List ℕ) (content : Option (List ℕ)) → (IsTrue tells → (telling b.knows).hidden p ≡ true)
    → Writes tells p content x y → OnlyLooks tells (told_world tells b x) (told_world tells b y)
hidden_write false b x y so_far begins law p content is does = record { events = does.events; ticked = does.ticked; at_start = does.at_start; history = λ told. absurd (by told) }
  where
    by : IsTrue false → ⊥
    by told = cc
hidden_write true b x y so_far begins law p content is does =
    gone b x y (OnlyLooks true) ((law (telling b.knows) b.first b.before (since b x) x y (called b x y (so_far refl) (begins refl))).1 p content (is refl) does)

pub hidden_append : (tells : Bool) (b : Begun) (x y : World) → GoesOn tells b x → (IsTrue tells → BeginsTold b) → LooksAreTold → (p bytes : List ℕ) → (IsTrue tells → (telling b.knows).hidden p ≡ true)
    → Appends tells p bytes x y → OnlyLooks tells (told_world tells b x) (told_world tells b y)
hidden_append false b x y so_far begins law p bytes is does = record { events = does.events; ticked = does.ticked; at_start = does.at_start; history = λ told. absurd (by told) }
  where
    by : IsTrue false → ⊥
    by told = cc
hidden_append true b x y so_far begins law p bytes is does =
    gone b x y (OnlyLooks true) ((law (telling b.knows) b.first b.before (since b x) x y (called b x y (so_far refl) (begins refl))).2 p bytes (is refl) does)

-- ---- what the program does

-- one call, which is on the real site as it is on the one that is told
module _ (tells : Bool) (b : Begun) (x y : World) (so_far : GoesOn tells b x) (begins : IsTrue tells → BeginsTold b) where
  call_on : (does : Bool → World → World → Type 0) → (IsTrue tells → does true x y → GoesAs (telling b.knows) b.first b.before (since b x) x y (does true)) → does tells x y → does tells (told_world tells b x) (told_world tells b y)
  call_on does law done = by tells (λ is. law is) done
    where
      by : (it : Bool) → (IsTrue it → does true x y → GoesAs (telling b.knows) b.first b.before (since b x) x y (does true)) → does it x y → does it (told_world it b x) (told_world it b y)
      by false so is = is
      by true so is = gone b x y (does true) (so refl is)

  here : IsTrue tells → IsCalled (telling b.knows) b.first b.before (since b x) x
  here is = called b x y (so_far is) (begins is)

  module _ (law : WritesAreTold) where
    pub writes_on : (p content : List ℕ) → (IsTrue tells → IsTold (telling b.knows) p) → Writes tells p (Some content) x y → Writes tells p (Some content) (told_world tells b x) (told_world tells b y)
    writes_on p content told does = call_on (λ it. Writes it p (Some content)) (λ is. (law (telling b.knows) b.first b.before (since b x) x y (here is) p).0 content (told is)) does

    pub removes_on : (p : List ℕ) → (IsTrue tells → (telling b.knows).hidden p ≡ false) → Writes tells p None x y → Writes tells p None (told_world tells b x) (told_world tells b y)
    removes_on p apart does = call_on (λ it. Writes it p None) (λ is. (law (telling b.knows) b.first b.before (since b x) x y (here is) p).1 (apart is)) does

    pub appends_on : (p bytes : List ℕ) → (IsTrue tells → IsTold (telling b.knows) p) → Appends tells p bytes x y → Appends tells p bytes (told_world tells b x) (told_world tells b y)
    appends_on p bytes told does = call_on (λ it. Appends it p bytes) (λ is. (law (telling b.knows) b.first b.before (since b x) x y (here is) p).2 bytes (told is)) does

    pub ticks_on : (p : List ℕ) (stamp : ℕ) → (IsTrue tells → IsPlain (telling b.knows) p) → Ticks tells p stamp x y → Ticks tells p stamp (told_world tells b x) (told_world tells b y)
    ticks_on p stamp plain does = call_on (λ it. Ticks it p stamp) (λ is. (law (telling b.knows) b.first b.before (since b x) x y (here is) p).3 stamp (plain is)) does

    module _ (looks : LooksAreTold) where
      abbrev look : OnlyLooks tells x y → OnlyLooks tells (told_world tells b x) (told_world tells b y)
      look = looks_on tells b x y so_far begins looks

      pub writes_or_not_on : (p content : List ℕ) → (IsTrue tells → IsTold (telling b.knows) p) → WritesOrNot tells p (Some content) x y → WritesOrNot tells p (Some content) (told_world tells b x) (told_world tells b y)
      writes_or_not_on p content told (inl looked) = inl (look looked)
      writes_or_not_on p content told (inr does) = inr (writes_on p content told does)

      pub removes_or_not_on : (p : List ℕ) → (IsTrue tells → (telling b.knows).hidden p ≡ false) → WritesOrNot tells p None x y → WritesOrNot tells p None (told_world tells b x) (told_world tells b y)
      removes_or_not_on p apart (inl looked) = inl (look looked)
      removes_or_not_on p apart (inr does) = inr (removes_on p apart does)

      pub spoils_or_not_on : (p : List ℕ) → (IsTrue tells → IsTold (telling b.knows) p) → SpoilsOrNot tells p x y → SpoilsOrNot tells p (told_world tells b x) (told_world tells b y)
      spoils_or_not_on p told (inl looked) = inl (look looked)
      spoils_or_not_on p told (inr does) = inr (does.0, writes_on p does.0 told does.1)

      pub appends_or_not_on : (p bytes : List ℕ) → (IsTrue tells → IsTold (telling b.knows) p) → AppendsOrNot tells p bytes x y → AppendsOrNot tells p bytes (told_world tells b x) (told_world tells b y)
      appends_or_not_on p bytes told (inl looked) = inl (look looked)
      appends_or_not_on p bytes told (inr does) = inr (does.0, does.1, does.2, appends_on p does.0 told does.3)

      pub ticks_or_not_on : (p : List ℕ) → (IsTrue tells → IsPlain (telling b.knows) p) → TicksOrNot tells p x y → TicksOrNot tells p (told_world tells b x) (told_world tells b y)
      ticks_or_not_on p plain (inl looked) = inl (look looked)
      ticks_or_not_on p plain (inr does) = inr (does.0, ticks_on p does.0 plain does.1)

  module _ (law : EventsAreTold) where
    pub starts_on : (job : ℕ) (act : Act) → Starts tells job act x y → Starts tells job act (told_world tells b x) (told_world tells b y)
    starts_on job act does = call_on (λ it. Starts it job act) (λ is. (law (telling b.knows) b.first b.before (since b x) x y (here is)).0 job act) does

    pub starts_or_not_on : LooksAreTold → (job : ℕ) (act : Act) → StartsOrNot tells job act x y → StartsOrNot tells job act (told_world tells b x) (told_world tells b y)
    starts_or_not_on looks job act (inl looked) = inl (looks_on tells b x y so_far begins looks looked)
    starts_or_not_on looks job act (inr does) = inr (starts_on job act does)

    pub finishes_on : (job : ℕ) (ok : Bool) → Finishes tells job ok x y → Finishes tells job ok (told_world tells b x) (told_world tells b y)
    finishes_on job ok does = call_on (λ it. Finishes it job ok) (λ is. (law (telling b.knows) b.first b.before (since b x) x y (here is)).1 job ok) does

    pub restarts_on : IsRestart tells x y → IsRestart tells (told_world tells b x) (told_world tells b y)
    restarts_on does = call_on (λ it. IsRestart it) (λ is. (law (telling b.knows) b.first b.before (since b x) x y (here is)).2) does

-- ---- results

pub ok_on : {T P Q : Type 0} (r : Result T SiteFault) → (P → Q) → OnOk r P → OnOk r Q
ok_on (Ok v) f is = f is
ok_on (Err fault) f is = tt

pub err_on : {T P Q : Type 0} (r : Result T SiteFault) → (P → Q) → OnErr r P → OnErr r Q
err_on (Ok v) f is = tt
err_on (Err fault) f is = f is

pub if_ok_on : {T : Type 0} {P Q : T → Type 0} (r : Result T SiteFault) → ((v : T) → P v → Q v) → IfOk r P → IfOk r Q
if_ok_on (Ok v) f is = f v is
if_ok_on (Err fault) f is = tt

-- that a wait was refused is noted
pub notes_on : {T : Type 0} (tells : Bool) (b : Begun) (x y : World) (r : Result T SiteFault) → NotesWait x y r → NotesWait (told_world tells b x) (told_world tells b y) r
notes_on false b x y r notes = notes
notes_on true b x y (Ok v) notes = notes
notes_on true b x y (Err fault) notes = notes

-- ---- answers

pub stamps_on : (b : Begun) (x y : World) → x.history ≡ b.first ++ since b x → BeginsTold b → AnswersAreTold → OnlyLooks true x y → (p : List ℕ) (answer : Option ℕ)
    → Sees (λ history. stamp_of (told_then (telling b.knows) (since b x) p (file_at history p))) answer x.history y.history
    → LooksAt (λ history. stamp_of (file_at history p)) answer (told_world true b x) (told_world true b y)
stamps_on b x y so_far begins law looks p answer sees =
    gone b x y (LooksAt (λ history. stamp_of (file_at history p)) answer) ((law (telling b.knows) b.first b.before (since b x) x y (called b x y so_far begins) looks p).0 answer sees)

pub contents_on : (b : Begun) (x y : World) → x.history ≡ b.first ++ since b x → BeginsTold b → AnswersAreTold → OnlyLooks true x y → (p : List ℕ) (answer : Option (List ℕ))
    → Sees (λ history. content_of (told_then (telling b.knows) (since b x) p (file_at history p))) answer x.history y.history
    → LooksAt (λ history. content_of (file_at history p)) answer (told_world true b x) (told_world true b y)
contents_on b x y so_far begins law looks p answer sees =
    gone b x y (LooksAt (λ history. content_of (file_at history p)) answer) ((law (telling b.knows) b.first b.before (since b x) x y (called b x y so_far begins) looks p).1 answer sees)

-- ---- what is put behind or in the place of the notes

pub own_bytes : (own path : List ℕ) → path ≡ own → bytes_eq own path ≡ true
own_bytes own path is = (bytes_eq-Decides own path).1 (sym is)

pub hidden_appended : (tells : Bool) (b : Begun) (x y : World) → GoesOn tells b x → (IsTrue tells → BeginsTold b) → LooksAreTold → (p bytes : List ℕ) → (IsTrue tells → (telling b.knows).hidden p ≡ true)
    → (r : Result (Unit {0}) SiteFault) → OnOk r (Appends tells p bytes x y) → OnErr r (AppendsOrNot tells p bytes x y) → OnlyLooks tells (told_world tells b x) (told_world tells b y)
hidden_appended tells b x y so_far begins law p bytes is (Ok v) ok err = hidden_append tells b x y so_far begins law p bytes is ok
hidden_appended tells b x y so_far begins law p bytes is (Err fault) ok (inl looks) = looks_on tells b x y so_far begins law looks
hidden_appended tells b x y so_far begins law p bytes is (Err fault) ok (inr does) = hidden_append tells b x y so_far begins law p does.0 is does.3

pub hidden_replaced : (tells : Bool) (b : Begun) (x y : World) → GoesOn tells b x → (IsTrue tells → BeginsTold b) → LooksAreTold → (p : List ℕ) (content : Option (List ℕ)) → (IsTrue tells → (telling b.knows).hidden p ≡ true)
    → (r : Result (Unit {0}) SiteFault) → OnOk r (Writes tells p content x y) → OnErr r (WritesOrNot tells p content x y) → OnlyLooks tells (told_world tells b x) (told_world tells b y)
hidden_replaced tells b x y so_far begins law p content is (Ok v) ok err = hidden_write tells b x y so_far begins law p content is ok
hidden_replaced tells b x y so_far begins law p content is (Err fault) ok (inl looks) = looks_on tells b x y so_far begins law looks
hidden_replaced tells b x y so_far begins law p content is (Err fault) ok (inr does) = hidden_write tells b x y so_far begins law p content is does
