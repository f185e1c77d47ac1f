-- Which commands are listed as running.
use Rattle.std.proofs.Common.{◌≡◌, ℕ, ◌+◌, ◌≤◌, ◌<◌, ◌==◌, nat_lt, Bool, true, false, List, [], ◌∷◌, ◌++◌, length, take, drop, Option, Some, None, option_map, refl, sym, ◌∙◌, ap, cond, arith, length-append}
use Rattle.std.specs.Option.{is_some}
use Rattle.std.specs.Ordering.{nat_cmp, is_eq, is_gt, is_lt, match_ordering}
use Rattle.std.specs.declared.cmp.Ordering.{Ordering}
use Rattle.std.specs.declared.cmp.Ordering.TheVariants.{Less, Equal, Greater}
use Rattle.std.specs.BTreeMap.{insert_entry, is_at}
use Rattle.std.specs.Map.{remove_entry}
use Rattle.std.proofs.lemmas.Bool.{ne_eqb, eq-eqb, eqb-true, ltb-true, ltb-false}
use Rattle.std.proofs.lemmas.List.{drop-append-le, take-append-le}
use Rattle.model.specs.declared.act.Act.{Act}
use Rattle.model.specs.declared.event.Event.{Event}
use Rattle.model.specs.declared.event.Event.TheVariants.{Start, Finish}
use Rattle.model.specs.World.{runs}
use Rattle.sim.specs.declared.jobs.Running.{Running}
use Rattle.sim.specs.Jobs.{Told, running_at, one_running, IsListed}
use Rattle.sim.specs.declared.jobs.Order.{Order}
use Rattle.sim.specs.declared.jobs.Order.TheVariants.{First, Last}
use Rattle.sim.specs.Running.{act_of, IsEnd}
use Rattle.sim.proofs.Runs.{act_of-push, act_runs}

abbrev pub act_at : ℕ → List (ℕ × Running) → Option Act
act_at job running = option_map (λ (one : Running). one.act) (running_at job running)

-- ---- numbers

at_is : (job q : ℕ) → is_at (nat_cmp job) q ≡ (job == q)
at_is job q = by_tests (nat_lt job q) (job == q) (λ below. ne_eqb job q (λ same. omega (arith, ltb-true job q below, same)))
  where
    by_tests : (l e : Bool) → (l ≡ true → e ≡ false) → is_eq (cond l Less (cond e Equal Greater)) ≡ e
    by_tests true e apart = sym (apart refl)
    by_tests false true apart = refl
    by_tests false false apart = refl

-- ---- one start, one end

started_act : (job q : ℕ) (one : Running) (found new : Option Running) → new ≡ cond (is_at (nat_cmp job) q) (Some one) found → option_map (λ (r : Running). r.act) new ≡ cond (job == q) (Some one.act) (option_map (λ (r : Running). r.act) found)
started_act job q one found new is = ap (option_map (λ (r : Running). r.act)) (is ∙ ap (λ b. cond b (Some one) found) (at_is job q)) ∙ by_test (job == q)
  where
    by_test : (b : Bool) → option_map (λ (r : Running). r.act) (cond b (Some one) found) ≡ cond b (Some one.act) (option_map (λ (r : Running). r.act) found)
    by_test true = refl
    by_test false = refl

ended_act : (job q : ℕ) (found new : Option Running) → new ≡ cond (is_at (nat_cmp job) q) None found → option_map (λ (r : Running). r.act) new ≡ cond (job == q) None (option_map (λ (r : Running). r.act) found)
ended_act job q found new is = ap (option_map (λ (r : Running). r.act)) (is ∙ ap (λ b. cond b None found) (at_is job q)) ∙ by_test (job == q)
  where
    by_test : (b : Bool) → option_map (λ (r : Running). r.act) (cond b None found) ≡ cond b None (option_map (λ (r : Running). r.act) found)
    by_test true = refl
    by_test false = refl

since_push : (before : ℕ) (events new : List Event) (event : Event) → before ≤ length events → new ≡ events ++ event ∷ [] → drop before new ≡ drop before events ++ event ∷ []
since_push before events new event within is = ap (drop before) is ∙ drop-append-le before events (event ∷ []) within

pub before_push : (before : ℕ) (events new : List Event) (event : Event) → before ≤ length events → new ≡ events ++ event ∷ [] → take before new ≡ take before events
before_push before events new event within is = ap (take before) is ∙ take-append-le before events (event ∷ []) within

pub listed_start : (job q stamp before : ℕ) (one : Running) (events new : List Event) (running after : List (ℕ × Running)) → before ≤ length events → new ≡ events ++ Start job one.act stamp ∷ []
    → running_at q after ≡ cond (is_at (nat_cmp job) q) (Some one) (running_at q running) → act_at q running ≡ act_of q (drop before events) → act_at q after ≡ act_of q (drop before new)
listed_start job q stamp before one events new running after within is updated listed =
    started_act job q one (running_at q running) (running_at q after) updated
    ∙ ap (λ (a : Option Act). cond (job == q) (Some one.act) a) listed
    ∙ sym (act_of-push q None (drop before events) (Start job one.act stamp))
    ∙ sym (ap (act_of q) (since_push before events new (Start job one.act stamp) within is))

pub listed_finish : (job q before : ℕ) (ok : Bool) (events new : List Event) (running after : List (ℕ × Running)) → before ≤ length events → new ≡ events ++ Finish job ok ∷ []
    → running_at q after ≡ cond (is_at (nat_cmp job) q) None (running_at q running) → act_at q running ≡ act_of q (drop before events) → act_at q after ≡ act_of q (drop before new)
listed_finish job q before ok events new running after within is updated listed =
    ended_act job q (running_at q running) (running_at q after) updated
    ∙ ap (λ (a : Option Act). cond (job == q) None a) listed
    ∙ sym (act_of-push q None (drop before events) (Finish job ok))
    ∙ sym (ap (act_of q) (since_push before events new (Finish job ok) within is))

pub longer_by : (before : ℕ) (events new : List Event) (event : Event) → before ≤ length events → new ≡ events ++ event ∷ [] → before ≤ length new
longer_by before events new event within is = let more : length new ≡ length events + 1 = ap length is ∙ length-append events (event ∷ []) in omega (arith, within, more)

-- ---- who runs

mapped_some : (found : Option Running) → is_some (option_map (λ (r : Running). r.act) found) ≡ is_some found
mapped_some None = refl
mapped_some (Some one) = refl

-- a command is listed exactly where it runs
pub listed_runs : (job : ℕ) (running : List (ℕ × Running)) (events : List Event) → act_at job running ≡ act_of job events → is_some (running_at job running) ≡ runs job events
listed_runs job running events listed = sym (mapped_some (running_at job running)) ∙ ap is_some listed ∙ act_runs job None events

-- one that runs is found
pub found_listed : (job : ℕ) (found : Option Running) (running : List (ℕ × Running)) (events : List Event) → found ≡ running_at job running → act_at job running ≡ act_of job events → runs job events ≡ true → is_some found ≡ true
found_listed job found running events is listed live = ap is_some is ∙ listed_runs job running events listed ∙ live

-- and one that is found runs
pub listed_live : (job : ℕ) (one : Running) (running : List (ℕ × Running)) (events : List Event) → running_at job running ≡ Some one → act_at job running ≡ act_of job events → runs job events ≡ true
listed_live job one running events is listed = sym (listed_runs job running events listed) ∙ ap is_some is

pub kept : (gone : Bool) (found new : Option Running) (one : Running) → new ≡ cond gone None found → new ≡ Some one → found ≡ Some one
kept true found new one is some = let never : ⊥ = cc in absurd never
kept false found new one is some = sym is ∙ some

-- ---- the lowest and the highest

pub not_above : (low high : ℕ) → is_gt (nat_cmp low high) ≡ false → low ≤ high
not_above low high is = by_tests (nat_lt low high) (low == high) refl refl is
  where
    by_tests : (l e : Bool) → nat_lt low high ≡ l → (low == high) ≡ e → is_gt (cond l Less (cond e Equal Greater)) ≡ false → low ≤ high
    by_tests true e below same none = omega (arith, ltb-true low high below)
    by_tests false true below same none = omega (arith, eqb-true low high same)
    by_tests false false below same none = let never : ⊥ = cc in absurd never

pub not_below : (low high : ℕ) → is_lt (nat_cmp high low) ≡ false → low ≤ high
not_below low high is = by_test (nat_lt high low) refl is
  where
    by_test : (l : Bool) → nat_lt high low ≡ l → is_lt (cond l Less (cond (high == low) Equal Greater)) ≡ false → low ≤ high
    by_test true below none = let never : ⊥ = cc in absurd never
    by_test false below none = omega (arith, ltb-false high low below)

pub ends_among : (order : Order) (job : ℕ) (these those : ℕ → Type 0) → ((other : ℕ) → those other → these other) → IsEnd order job these → IsEnd order job those
ends_among First job these those within end = λ other among. end other (within other among)
ends_among Last job these those within end = λ other among. end other (within other among)

pub none_listed : (found : Option Running) → is_some found ≡ false → found ≡ None
none_listed None none = refl
none_listed (Some one) none = let never : ⊥ = cc in absurd never

-- ---- a start that is taken back

self_cmp : (job : ℕ) → nat_cmp job job ≡ Equal
self_cmp job = λ i. cond (by_test (nat_lt job job) refl i) Less (cond (eq-eqb job job refl i) Equal Greater)
  where
    by_test : (b : Bool) → nat_lt job job ≡ b → b ≡ false
    by_test true e = let never : ⊥ = omega (arith, ltb-true job job e) in absurd never
    by_test false e = refl

is_eq_some : (b : Bool) (one : Running) (rest : Option Running) → b ≡ true → cond b (Some one) rest ≡ None → ⊥
is_eq_some true one rest is none = let never : ⊥ = cc in never
is_eq_some false one rest is none = let never : ⊥ = cc in never

pub remove_inserted : (job : ℕ) (one : Running) (running : List (ℕ × Running)) → running_at job running ≡ None → remove_entry (is_at (nat_cmp job)) (insert_entry nat_cmp running job one) ≡ running
remove_inserted job one [] none = ap (λ (o : Ordering). cond (is_eq o) [] ((job, one) ∷ [])) (self_cmp job)
remove_inserted job one (entry ∷ running) none = by_order (nat_cmp job entry.0) refl (λ rest. remove_inserted job one running rest)
  where
    by_order : (o : Ordering) → nat_cmp job entry.0 ≡ o → (running_at job running ≡ None → remove_entry (is_at (nat_cmp job)) (insert_entry nat_cmp running job one) ≡ running)
        → remove_entry (is_at (nat_cmp job)) (insert_entry nat_cmp (entry ∷ running) job one) ≡ entry ∷ running
    by_order Less e rest = ap (λ (o : Ordering). remove_entry (is_at (nat_cmp job)) (match_ordering o ((job, one) ∷ entry ∷ running) ((entry.0, one) ∷ running) (entry ∷ insert_entry nat_cmp running job one))) e
        ∙ ap (λ (o : Ordering). cond (is_eq o) (entry ∷ running) ((job, one) ∷ remove_entry (is_at (nat_cmp job)) (entry ∷ running))) (self_cmp job)
    by_order Equal e rest = absurd (is_eq_some (is_at (nat_cmp job) entry.0) entry.1 (running_at job running) (ap is_eq e) none)
    by_order Greater e rest = ap (λ (o : Ordering). remove_entry (is_at (nat_cmp job)) (match_ordering o ((job, one) ∷ entry ∷ running) ((entry.0, one) ∷ running) (entry ∷ insert_entry nat_cmp running job one))) e
        ∙ ap (λ (o : Ordering). cond (is_eq o) (insert_entry nat_cmp running job one) (entry ∷ remove_entry (is_at (nat_cmp job)) (insert_entry nat_cmp running job one))) e
        ∙ ap (λ (l : List (ℕ × Running)). entry ∷ l) (rest (sym (ap (λ (o : Ordering). cond (is_eq o) (Some entry.1) (running_at job running)) e) ∙ none))

-- once a start is taken back the commands are as they were
pub unlisted : (job : ℕ) (act : Act) (done : Option Bool) (events : List Event) (running listed after : List (ℕ × Running)) → act_at job running ≡ act_of job events → runs job events ≡ false
    → IsListed job act done running listed → after ≡ remove_entry (is_at (nat_cmp job)) listed → after ≡ running
unlisted job act done events running listed after told idle is removed =
    removed ∙ ap (remove_entry (is_at (nat_cmp job))) is.entries
    ∙ remove_inserted job (one_running act done) running (none_listed (running_at job running) (listed_runs job running events told ∙ idle))

-- ---- room

pub room_listed : (n n' m cap cap' : ℕ) → n + (m + 1) ≤ cap → cap ≤ cap' → n' ≡ n + 1 → n' + m ≤ cap'
room_listed n n' m cap cap' room grows one = omega (arith, room, grows, one)

pub one_more : (events new : List Event) (event : Event) → new ≡ events ++ event ∷ [] → length new ≡ length events + 1
one_more events new event is = ap length is ∙ length-append events (event ∷ [])

-- ---- what is told

abbrev told : ℕ → List Event → List (ℕ × Running) → Bool → Told
told before events running stopped = record { earlier = take before events; events = drop before events; running = running; stopped = stopped }

pub told_so : (before : ℕ) (events new : List Event) (running after : List (ℕ × Running)) (stopped : Bool) → new ≡ events → after ≡ running → told before new after stopped ≡ told before events running stopped
told_so before events new running after stopped is same = λ i. told before (is i) (same i) stopped

pub with_room : (n n' m m' cap cap' : ℕ) → n + m ≤ cap → n' ≡ n → m' ≡ m → cap ≤ cap' → n' + m' ≤ cap'
with_room n n' m m' cap cap' room one two grows = omega (arith, room, one, two, grows)

pub room_end : (n n' m m' cap cap' : ℕ) (gone : Bool) → gone ≡ true → n + m ≤ cap → cap ≤ cap' → n' ≡ n + 1 → m' + cond gone 1 0 ≡ m → n' + m' ≤ cap'
room_end n n' m m' cap cap' true is room grows one two = omega (arith, room, grows, one, two)
room_end n n' m m' cap cap' false is room grows one two = let never : ⊥ = cc in absurd never

pub room_for_end : (n m m' cap : ℕ) (gone : Bool) → gone ≡ true → n + m ≤ cap → m' + cond gone 1 0 ≡ m → n < cap
room_for_end n m m' cap true is room two = omega (arith, room, two)
room_for_end n m m' cap false is room two = let never : ⊥ = cc in absurd never
