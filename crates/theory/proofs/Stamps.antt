-- Stamps that grow: what is stamped early was there early.
use Rattle.std.proofs.Common.{◌≡◌, inl, inr, ℕ, suc, ◌<◌, ◌≤◌, max, cond, List, [], ◌∷◌, ◌++◌, Option, Some, None, bytes_eq, refl, sym, ◌∙◌, ap, subst, arith}
use Rattle.std.proofs.Math.Nat.{le-max_left, le-max_right}
use Rattle.std.proofs.lemmas.Bool.{cases_Bool, cond-true, cond-false}
use Rattle.model.specs.declared.act.Act.{Act}
use Rattle.model.specs.declared.event.Event.TheVariants.{Start, Finish}
use Rattle.model.specs.declared.event.Moment.{Moment}
use Rattle.model.specs.declared.event.Moment.TheVariants.{Wrote, Happened}
use Rattle.model.specs.declared.event.Writer.{Writer}
use Rattle.model.specs.World.{File, written, file_from, file_at, next_from, next_stamp}
use Rattle.model.specs.Premises.{Increases, StampsGrow}
use Rattle.theory.specs.Logged.{WasStamped}
use Rattle.theory.proofs.Files.{file_from-append}

written_is : (content : Option (List ℕ)) (stamp : ℕ) (file : File) → written content stamp ≡ Some file → stamp ≡ file.stamp
written_is None stamp file is = cc
written_is (Some content) stamp file is = cc

-- a file that is stamped earlier than all of these writes was there before them
pub early_file : (p : List ℕ) (next : ℕ) (held : Option File) (ms : List Moment) → Increases next ms
    → (file : File) → file_from p held ms ≡ Some file → file.stamp < next → held ≡ Some file
early_file p next held [] grows file is early = is
early_file p next held (Happened (Start job act stamp) ∷ ms) grows file is early =
    early_file p (max next (suc stamp)) held ms grows file is (omega (arith, early, le-max_left next (suc stamp)))
early_file p next held (Happened (Finish job ok) ∷ ms) grows file is early = early_file p next held ms grows file is early
early_file p next held (Wrote by path content stamp ∷ ms) grows file is early =
    let before : cond (bytes_eq path p) (written content stamp) held ≡ Some file = early_file p stamp (cond (bytes_eq path p) (written content stamp) held) ms grows.1 file is (omega (arith, early, grows.0)) in
    elim (cases_Bool (bytes_eq path p)) [
      | inl here ↦
          let same : stamp ≡ file.stamp = written_is content stamp file (sym (cond-true (bytes_eq path p) (written content stamp) held here) ∙ before) in
          absurd (omega (arith, grows.0, early, same))
      | inr there ↦ sym (cond-false (bytes_eq path p) (written content stamp) held there) ∙ before
    ]

-- a file that is earlier than all that may still be stamped is as it was
pub file_was : (old new more : List Moment) → new ≡ old ++ more → StampsGrow old new → (p : List ℕ) (file : File) → file_at new p ≡ Some file → file.stamp < next_stamp old → file_at old p ≡ Some file
file_was old new more grows stamps p file is early =
    early_file p (next_stamp old) (file_at old p) more (stamps more grows) file
    (sym (file_from-append p None old more) ∙ (ap (λ (h : List Moment). file_at h p) (sym grows) ∙ is)) early

-- ---- the next stamp

pub next_from-append : (n : ℕ) (xs ys : List Moment) → next_from n (xs ++ ys) ≡ next_from (next_from n xs) ys
next_from-append n [] ys = refl
next_from-append n (Wrote by path content stamp ∷ xs) ys = next_from-append (max n stamp) xs ys
next_from-append n (Happened (Start job act stamp) ∷ xs) ys = next_from-append (max n (suc stamp)) xs ys
next_from-append n (Happened (Finish job ok) ∷ xs) ys = next_from-append n xs ys

pub next_grows : (n : ℕ) (ms : List Moment) → n ≤ next_from n ms
next_grows n [] = omega arith
next_grows n (Wrote by path content stamp ∷ ms) = omega (arith, le-max_left n stamp, next_grows (max n stamp) ms)
next_grows n (Happened (Start job act stamp) ∷ ms) = omega (arith, le-max_left n (suc stamp), next_grows (max n (suc stamp)) ms)
next_grows n (Happened (Finish job ok) ∷ ms) = next_grows n ms

pub next_later : (old new more : List Moment) → new ≡ old ++ more → next_stamp old ≤ next_stamp new
next_later old new more grows =
    subst (λ (k : ℕ). next_stamp old ≤ k) (sym (ap next_stamp grows ∙ next_from-append 0 old more)) (next_grows (next_stamp old) more)

-- all that is stamped behind a start is later
pub start_within : (n : ℕ) (before : List Moment) (job : ℕ) (act : Act) (stamp : ℕ) (after : List Moment) → stamp < next_from n (before ++ Happened (Start job act stamp) ∷ after)
start_within n [] job act stamp after = omega (arith, le-max_right n (suc stamp), next_grows (max n (suc stamp)) after)
start_within n (Wrote b p c s ∷ before) job act stamp after = start_within (max n s) before job act stamp after
start_within n (Happened (Start j a s) ∷ before) job act stamp after = start_within (max n (suc s)) before job act stamp after
start_within n (Happened (Finish j ok) ∷ before) job act stamp after = start_within n before job act stamp after

pub stamp_beyond : (next : ℕ) (before : List Moment) (by : Writer) (path : List ℕ) (content : Option (List ℕ)) (stamp : ℕ) (after : List Moment) → Increases next (before ++ Wrote by path content stamp ∷ after) → next ≤ stamp
stamp_beyond next [] by path content stamp after grows = grows.0
stamp_beyond next (Wrote b p c s ∷ before) by path content stamp after grows =
    omega (arith, grows.0, stamp_beyond s before by path content stamp after grows.1)
stamp_beyond next (Happened (Start j a s) ∷ before) by path content stamp after grows =
    omega (arith, le-max_left next (suc s), stamp_beyond (max next (suc s)) before by path content stamp after grows)
stamp_beyond next (Happened (Finish j ok) ∷ before) by path content stamp after grows = stamp_beyond next before by path content stamp after grows

-- the stamp of a start that was given since then is no earlier than all before, and earlier than all that may still be given
pub stamp_lies : (stamp : ℕ) (old new : List Moment) → WasStamped stamp old new → StampsGrow old new → (next_stamp old ≤ stamp) × (stamp < next_stamp new)
stamp_lies stamp old new was stamps = (
  stamp_beyond (next_stamp old) was.before was.by was.path was.content stamp (was.between ++ Happened (Start was.job was.act stamp) ∷ was.after)
      (stamps (was.before ++ Wrote was.by was.path was.content stamp ∷ (was.between ++ Happened (Start was.job was.act stamp) ∷ was.after)) was.splits),
  subst (λ (k : ℕ). stamp < k) (sym (ap next_stamp was.splits
      ∙ (next_from-append 0 old (was.before ++ Wrote was.by was.path was.content stamp ∷ (was.between ++ Happened (Start was.job was.act stamp) ∷ was.after))
      ∙ next_from-append (next_stamp old) was.before (Wrote was.by was.path was.content stamp ∷ (was.between ++ Happened (Start was.job was.act stamp) ∷ was.after)))))
      (start_within (max (next_from (next_stamp old) was.before) stamp) was.between was.job was.act stamp was.after),
)
