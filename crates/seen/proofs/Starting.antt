-- Under which stamps commands were started.
use Rattle.std.proofs.Common.{◌≡◌, ◌⊎◌, ◌<◌, ◌-◌, ◌++◌, append_assoc, inl, inr, Result, Ok, Err, bytes_eq, ℕ, zero, suc, ◌==◌, ◌&&◌, nat_lt, Bool, true, false, if◌then◌else◌, List, [], ◌∷◌, Option, Some, None, is_none, length, replicate, set, slice_get, refl, sym, ◌∙◌, ap, subst, arith}
use Rattle.std.specs.Prelude.{IsTrue, OnErr, OnOk}
use Rattle.std.proofs.lemmas.Bool.{le-ltb, cases_Bool, cond-true, cond-false, false≢true, eqb-true, eq-eqb, ltb-true, lt-ltb}
use Rattle.model.specs.declared.act.Act.{Act}
use Rattle.model.specs.declared.event.Event.{Event}
use Rattle.model.specs.declared.event.Event.TheVariants.{Start}
use Rattle.model.specs.declared.fault.SiteFault.{SiteFault}
use Rattle.model.specs.Calls.{OnlyLooks, Starts, StartsOrNot}
use Rattle.model.specs.Graph.{has}
use Rattle.model.specs.World.{File, World}
use Rattle.seen_law.specs.Retold.{begun}
use Rattle.seen.specs.declared.counts.Counts.{Counts}
use Rattle.seen.specs.declared.makers.Makers.{Makers}
use Rattle.seen.specs.declared.own.Own.{Own}
use Rattle.seen_true.specs.Counting.{telling}
use Rattle.seen.specs.Begun.{Begun, GoesOn}
use Rattle.seen.specs.Looking.{NotesStart}
use Rattle.seen.proofs.Since.{looks_stay, started_in, starts_stay}
use Rattle.seen.specs.Beginning.{counts_at, joined, started_by}
use Rattle.seen.specs.Makers.{is_job, maker_of}
use Rattle.seen.specs.Starts.{noted_start, stamp_in, start_in}

-- ---- a list of starts

length_set : (starts : List (Option ℕ)) (i : ℕ) (start : Option ℕ) → length (set starts i start) ≡ length starts
length_set [] i start = refl
length_set (s ∷ starts) zero start = refl
length_set (s ∷ starts) (suc i) start = ap suc (length_set starts i start)

get_set : (starts : List (Option ℕ)) (i : ℕ) (start : Option ℕ) → i < length starts → slice_get (set starts i start) i ≡ Some start
get_set [] i start low = absurd (omega (arith, low))
get_set (s ∷ starts) zero start low = refl
get_set (s ∷ starts) (suc i) start low = get_set starts i start (omega (arith, low))

get_other : (starts : List (Option ℕ)) (i j : ℕ) (start : Option ℕ) → (j ≡ i → ⊥) → slice_get (set starts i start) j ≡ slice_get starts j
get_other [] i j start apart = refl
get_other (s ∷ starts) zero zero start apart = absurd (apart refl)
get_other (s ∷ starts) zero (suc j) start apart = refl
get_other (s ∷ starts) (suc i) zero start apart = refl
get_other (s ∷ starts) (suc i) (suc j) start apart = get_other starts i j start (λ same. apart (ap suc same))

apart_of : (j job : ℕ) → (j == job) ≡ false → j ≡ job → ⊥
apart_of j job apart same = false≢true (sym apart ∙ eq-eqb j job same)

-- ---- one start more

module _ (starts : List (Option ℕ)) (job : ℕ) where
  noted_if : (start : Option ℕ) (b : Bool) → (nat_lt job (length starts) && is_none (joined (slice_get starts job))) ≡ b → noted_start starts job start ≡ (if b then set starts job start else starts)
  noted_if start b is = ap (λ (it : Bool). if it then set starts job start else starts) is

  pub noted_length : (start : Option ℕ) → length (noted_start starts job start) ≡ length starts
  noted_length start = by (nat_lt job (length starts) && is_none (joined (slice_get starts job))) refl
    where
      by : (b : Bool) → (nat_lt job (length starts) && is_none (joined (slice_get starts job))) ≡ b → length (noted_start starts job start) ≡ length starts
      by true is = ap length (noted_if start true is) ∙ length_set starts job start
      by false is = ap length (noted_if start false is)

  -- of another edge nothing is noted
  noted_other : (start : Option ℕ) (j : ℕ) → (j == job) ≡ false → slice_get (noted_start starts job start) j ≡ slice_get starts j
  noted_other start j apart = by (nat_lt job (length starts) && is_none (joined (slice_get starts job))) refl
    where
      by : (b : Bool) → (nat_lt job (length starts) && is_none (joined (slice_get starts job))) ≡ b → slice_get (noted_start starts job start) j ≡ slice_get starts j
      by true is = ap (λ (l : List (Option ℕ)). slice_get l j) (noted_if start true is) ∙ get_other starts job j start (apart_of j job apart)
      by false is = ap (λ (l : List (Option ℕ)). slice_get l j) (noted_if start false is)

  -- the first start of this one is kept
  noted_here : (stamp : ℕ) → job < length starts → joined (slice_get (noted_start starts job (Some stamp)) job) ≡ begun (joined (slice_get starts job)) true stamp
  noted_here stamp low = by (joined (slice_get starts job)) refl
    where
      lt : nat_lt job (length starts) ≡ true
      lt = lt-ltb job (length starts) low

      by : (was : Option ℕ) → joined (slice_get starts job) ≡ was → joined (slice_get (noted_start starts job (Some stamp)) job) ≡ begun was true stamp
      by None is =
          ap (λ (l : List (Option ℕ)). joined (slice_get l job)) (noted_if (Some stamp) true (ap (λ (b : Bool). b && is_none (joined (slice_get starts job))) lt ∙ ap is_none is))
          ∙ ap joined (get_set starts job (Some stamp) low)
      by (Some first) is =
          ap (λ (l : List (Option ℕ)). joined (slice_get l job)) (noted_if (Some stamp) false (ap (λ (b : Bool). b && is_none (joined (slice_get starts job))) lt ∙ ap is_none is)) ∙ is

  begun_other : (was : Option ℕ) (stamp : ℕ) → begun was false stamp ≡ was
  begun_other None stamp = refl
  begun_other (Some first) stamp = refl

  pub noted_begun : (stamp : ℕ) (maker : Option ℕ) → ((j : ℕ) → maker ≡ Some j → j < length starts) → started_by (noted_start starts job (Some stamp)) maker ≡ begun (started_by starts maker) (is_job job maker) stamp
  noted_begun stamp None room = refl
  noted_begun stamp (Some j) room = elim (cases_Bool (j == job)) [
    | inl here ↦ (
        let same : j ≡ job = eqb-true j job here in
        subst (λ (i : ℕ). joined (slice_get (noted_start starts job (Some stamp)) i) ≡ begun (joined (slice_get starts i)) (j == job) stamp) (sym same)
        (noted_here stamp (room job (ap Some same)) ∙ ap (λ (b : Bool). begun (joined (slice_get starts job)) b stamp) (sym here)))
    | inr there ↦ ap joined (noted_other (Some stamp) j there)
        ∙ (sym (begun_other (joined (slice_get starts j)) stamp) ∙ ap (λ (b : Bool). begun (joined (slice_get starts j)) b stamp) (sym there))
  ]

  -- no start changes nothing
  none_here : joined (slice_get (noted_start starts job None) job) ≡ joined (slice_get starts job)
  none_here = by (nat_lt job (length starts)) (joined (slice_get starts job)) refl refl
    where
      by : (low : Bool) (was : Option ℕ) → nat_lt job (length starts) ≡ low → joined (slice_get starts job) ≡ was → joined (slice_get (noted_start starts job None) job) ≡ joined (slice_get starts job)
      by false was is_low is = ap (λ (l : List (Option ℕ)). joined (slice_get l job)) (noted_if None false (ap (λ (b : Bool). b && is_none (joined (slice_get starts job))) is_low))
      by true (Some first) is_low is =
          ap (λ (l : List (Option ℕ)). joined (slice_get l job)) (noted_if None false (ap (λ (b : Bool). b && is_none (joined (slice_get starts job))) is_low ∙ ap is_none is))
      by true None is_low is =
          ap (λ (l : List (Option ℕ)). joined (slice_get l job)) (noted_if None true (ap (λ (b : Bool). b && is_none (joined (slice_get starts job))) is_low ∙ ap is_none is))
          ∙ (ap joined (get_set starts job None (ltb-true job (length starts) is_low)) ∙ sym is)

  pub noted_none : (maker : Option ℕ) → started_by (noted_start starts job None) maker ≡ started_by starts maker
  noted_none None = refl
  noted_none (Some j) = elim (cases_Bool (j == job)) [
    | inl here ↦ subst (λ (i : ℕ). joined (slice_get (noted_start starts job None) i) ≡ joined (slice_get starts i)) (sym (eqb-true j job here)) none_here
    | inr there ↦ ap joined (noted_other None j there)
  ]

-- ---- the event of a start

last_of : (es : List Event) (e : Event) → slice_get (es ++ e ∷ []) (length es) ≡ Some e
last_of [] e = refl
last_of (x ∷ es) e = last_of es e

one_more : (es : List Event) (e : Event) → length (es ++ e ∷ []) ≡ suc (length es)
one_more [] e = refl
one_more (x ∷ es) e = ap suc (one_more es e)

start_more : (es : List Event) (e : Event) → start_in (es ++ e ∷ []) (length es) ≡ stamp_in (Some e)
start_more es e =
    cond-true (nat_lt (length es) (length (es ++ e ∷ []))) (stamp_in (slice_get (es ++ e ∷ []) (length (es ++ e ∷ []) - 1))) None
    (lt-ltb (length es) (length (es ++ e ∷ [])) (omega (arith, one_more es e)))
    ∙ ap stamp_in (ap (λ (n : ℕ). slice_get (es ++ e ∷ []) n) (here (one_more es e)) ∙ last_of es e)
  where
    here : length (es ++ e ∷ []) ≡ suc (length es) → length (es ++ e ∷ []) - 1 ≡ length es
    here is = omega (arith, is)

start_none : (es : List Event) → start_in es (length es) ≡ None
start_none es = cond-false (nat_lt (length es) (length es)) (stamp_in (slice_get es (length es - 1))) None (le-ltb (length es) (length es) (omega arith))

-- what the events of the site tell of a start
module _ (x y : World) (events : List Event) (before : ℕ) (start : Option ℕ) (counted : before ≡ length (x.earlier ++ x.events)) (told : events ≡ y.earlier ++ y.events) (earlier : y.earlier ≡ x.earlier)
    (is : start ≡ start_in events before) where
  there : (es : List Event) → y.events ≡ x.events ++ es → start ≡ start_in ((x.earlier ++ x.events) ++ es) (length (x.earlier ++ x.events))
  there es grows =
      is ∙ (λ i. start_in (told i) (counted i))
      ∙ ap (λ (l : List Event). start_in l (length (x.earlier ++ x.events))) ((λ i. earlier i ++ grows i) ∙ sym (append_assoc x.earlier x.events es))

  pub start_is : (job : ℕ) (act : Act) → y.events ≡ x.events ++ Start job act x.ticked ∷ [] → start ≡ Some x.ticked
  start_is job act grows = there (Start job act x.ticked ∷ []) grows ∙ start_more (x.earlier ++ x.events) (Start job act x.ticked)

  pub start_not : y.events ≡ x.events → start ≡ None
  start_not same =
      is ∙ (λ i. start_in (told i) (counted i))
      ∙ (ap (λ (l : List Event). start_in l (length (x.earlier ++ x.events))) (λ i. earlier i ++ same i) ∙ start_none (x.earlier ++ x.events))

-- ---- what is known of starts

module _ (tells : Bool) (b : Begun) (x y : World) (k k2 : Counts) (job : ℕ) (act : Act) (start : Option ℕ) (so_far : GoesOn tells b x) (notes : NotesStart job start k k2)
    (makes : IsTrue tells → (j : ℕ) (p : List ℕ) → has ((telling b.knows).makes j) p ≡ is_job j (maker_of k.makers p))
    (room : IsTrue tells → (p : List ℕ) (j : ℕ) → maker_of k.makers p ≡ Some j → j < length k.starts.items)
    (started : IsTrue tells → (p : List ℕ) → started_in b x p ≡ started_by k.starts.items (maker_of k.makers p)) where
  abbrev Kept : Type 0
  Kept = GoesOn tells b y × (IsTrue tells → (p : List ℕ) → started_in b y p ≡ started_by k2.starts.items (maker_of k2.makers p))

  known_now : (p : List ℕ) (s : Option ℕ) → start ≡ s → started_by (noted_start k.starts.items job s) (maker_of k.makers p) ≡ started_by k2.starts.items (maker_of k2.makers p)
  known_now p s is =
      ap (λ (o : Option ℕ). started_by (noted_start k.starts.items job o) (maker_of k.makers p)) (sym is)
      ∙ (ap (λ (l : List (Option ℕ)). started_by l (maker_of k.makers p)) (sym notes.starts) ∙ ap (λ (m : Makers). started_by k2.starts.items (maker_of m p)) (sym notes.makers))

  kept_looks : OnlyLooks tells x y → start ≡ None → Kept
  kept_looks looks none =
      let stays = looks_stay tells b x y so_far looks in
      (stays.so_far, λ is p. stays.started is p ∙ (started is p ∙ (sym (noted_none k.starts.items job (maker_of k.makers p)) ∙ known_now p None none)))

  kept_starts : Starts tells job act x y → start ≡ Some x.ticked → Kept
  kept_starts does some =
      let stays = starts_stay tells b x y so_far job act does in (
        stays.0,
        λ is p. stays.1 is p
            ∙ ((λ i. begun (started is p i) (makes is job p i) x.ticked)
            ∙ (sym (noted_begun k.starts.items job x.ticked (maker_of k.makers p) (room is p)) ∙ known_now p (Some x.ticked) some)),
      )

  pub start_kept : (events : List Event) (before : ℕ) → before ≡ length (x.earlier ++ x.events) → events ≡ y.earlier ++ y.events → y.earlier ≡ x.earlier → start ≡ start_in events before
      → (r : Result (Unit {0}) SiteFault) → OnOk r (Starts tells job act x y) → OnErr r (StartsOrNot tells job act x y) → Kept
  start_kept events before counted told earlier is (Ok v) ok err = kept_starts ok (start_is x y events before start counted told earlier is job act ok.events)
  start_kept events before counted told earlier is (Err fault) ok (inl looks) = kept_looks looks (start_not x y events before start counted told earlier is looks.events)
  start_kept events before counted told earlier is (Err fault) ok (inr does) = kept_starts does (start_is x y events before start counted told earlier is job act does.events)

  -- nothing else is new
  pub counted_kept : (IsTrue tells → (p : List ℕ) (file : File) → (telling b.knows).counts p file ≡ counts_at k.notes k.makers k.own k.number p file)
      → IsTrue tells → (p : List ℕ) (file : File) → (telling b.knows).counts p file ≡ counts_at k2.notes k2.makers k2.own k2.number p file
  counted_kept counted is p file = counted is p file ∙ (λ i. counts_at (sym notes.notes i) (sym notes.makers i) (sym notes.own i) (sym notes.number i) p file)

  pub hidden_kept : (IsTrue tells → (p : List ℕ) → (telling b.knows).hidden p ≡ bytes_eq k.own.seen p) → IsTrue tells → (p : List ℕ) → (telling b.knows).hidden p ≡ bytes_eq k2.own.seen p
  hidden_kept hidden is p = hidden is p ∙ ap (λ (o : Own). bytes_eq o.seen p) (sym notes.own)

  pub makes_kept : IsTrue tells → (j : ℕ) (p : List ℕ) → has ((telling b.knows).makes j) p ≡ is_job j (maker_of k2.makers p)
  makes_kept is j p = makes is j p ∙ ap (λ (m : Makers). is_job j (maker_of m p)) (sym notes.makers)

  pub room_kept : IsTrue tells → (p : List ℕ) (j : ℕ) → maker_of k2.makers p ≡ Some j → j < length k2.starts.items
  room_kept is p j made =
      subst (λ (n : ℕ). j < n) (sym (noted_length k.starts.items job start) ∙ ap length (sym notes.starts))
      (room is p j (ap (λ (m : Makers). maker_of m p) (sym notes.makers) ∙ made))

-- ---- at the beginning

none_at : (n i : ℕ) → joined (slice_get (replicate n None) i) ≡ None
none_at zero i = refl
none_at (suc n) zero = refl
none_at (suc n) (suc i) = none_at n i

pub none_replicated : (n : ℕ) (maker : Option ℕ) → started_by (replicate n None) maker ≡ None
none_replicated n None = refl
none_replicated n (Some job) = none_at n job

pub length_replicated : (n : ℕ) → length {A = Option ℕ} (replicate n None) ≡ n
length_replicated zero = refl
length_replicated (suc n) = ap suc (length_replicated n)
