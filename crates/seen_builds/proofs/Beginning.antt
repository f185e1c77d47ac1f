-- What is told at the beginning of a build is what counts, whatever was told before.
use Rattle.std.proofs.Common.{◌≡◌, inl, inr, ◌||◌, ℕ, Bool, true, false, List, [], ◌∷◌, ◌++◌, Option, Some, None, bytes_eq, refl, sym, ◌∙◌, ap, subst}
use Rattle.std.proofs.lemmas.Bool.{cases_Bool, cond-false, cond-true, false≢true}
use Rattle.model.specs.declared.event.Moment.{Moment}
use Rattle.model.specs.declared.event.Moment.TheVariants.{Wrote, Happened}
use Rattle.model.specs.declared.event.Writer.TheVariants.{Someone}
use Rattle.model.specs.Graph.{has}
use Rattle.model.specs.World.{File, content_of, file_after, file_at, file_from, next_stamp, written}
use Rattle.theory.proofs.Files.{file_from-append}
use Rattle.theory.proofs.Lists.{bytes_same, has-left, has-right, same_bytes}
use Rattle.seen_law.specs.Retold.{Telling, BeginsSo, stamp_or, told_file, wrote_as}
use Rattle.seen_law.specs.Meanwhile.{counted_at, edits, told_next}
use Rattle.seen_true.specs.Between.{paths_between}
use Rattle.seen_true.specs.Soundly.{written_in}

-- ---- a write of what counts

written_back : (file : Option File) (stamp : ℕ) → written (content_of file) (stamp_or stamp file) ≡ file
written_back None stamp = refl
written_back (Some file) stamp = refl

wrote_here : (p : List ℕ) (file now : Option File) (stamp : ℕ) → file_after p now (wrote_as Someone p file stamp) ≡ file
wrote_here p file now stamp = cond-true (bytes_eq p p) (written (content_of file) (stamp_or stamp file)) now (bytes_same p) ∙ written_back file stamp

wrote_there : (q p : List ℕ) (file now : Option File) (stamp : ℕ) → bytes_eq q p ≡ false → file_after p now (wrote_as Someone q file stamp) ≡ now
wrote_there q p file now stamp there = cond-false (bytes_eq q p) (written (content_of file) (stamp_or stamp file)) now there

-- ---- a list of writes

or_none : (a b : Bool) → (a || b) ≡ false → (a ≡ false) × (b ≡ false)
or_none true b is = absurd (false≢true (sym is))
or_none false b is = (refl, is)

-- where none of these moments writes, nothing is new
unwritten : (p : List ℕ) (file : Option File) (ms : List Moment) → has (written_in ms) p ≡ false → file_from p file ms ≡ file
unwritten p file [] none = refl
unwritten p file (Wrote by path content stamp ∷ ms) none =
    let parts = or_none (bytes_eq path p) (has (written_in ms) p) none in
    ap (λ (f : Option File). file_from p f ms) (cond-false (bytes_eq path p) (written content stamp) file parts.0) ∙ unwritten p file ms parts.1
unwritten p file (Happened event ∷ ms) none = unwritten p file ms none

module _ (t : Telling) (told real : List Moment) where
  abbrev write_of : List ℕ → Moment
  write_of q = wrote_as Someone q (counted_at t real q) (next_stamp told)

  abbrev counted : List ℕ → Option File
  counted p = counted_at t real p

  after_here : (q p : List ℕ) (file : Option File) → bytes_eq q p ≡ true → file_after p file (write_of q) ≡ counted p
  after_here q p file here =
      subst (λ (r : List ℕ). file_after p file (write_of r) ≡ counted p) (sym (same_bytes q p here)) (wrote_here p (counted p) file (next_stamp told))

  -- where what counts stands already, it stands behind all writes of what counts
  stands : (p : List ℕ) (paths : List (List ℕ)) → file_from p (counted p) (edits t told real paths) ≡ counted p
  stands p [] = refl
  stands p (q ∷ paths) = ap (λ (f : Option File). file_from p f (edits t told real paths)) one ∙ stands p paths
    where
      one : file_after p (counted p) (write_of q) ≡ counted p
      one = elim (cases_Bool (bytes_eq q p)) [
        | inl here ↦ after_here q p (counted p) here
        | inr there ↦ wrote_there q p (counted q) (counted p) (next_stamp told) there
      ]

  -- a path of the list is written
  writes_one : (p : List ℕ) (file : Option File) (paths : List (List ℕ)) → has paths p ≡ true → file_from p file (edits t told real paths) ≡ counted p
  writes_one p file [] is = absurd (false≢true is)
  writes_one p file (q ∷ paths) is = elim (cases_Bool (bytes_eq q p)) [
    | inl here ↦ ap (λ (f : Option File). file_from p f (edits t told real paths)) (after_here q p file here) ∙ stands p paths
    | inr there ↦ ap (λ (f : Option File). file_from p f (edits t told real paths)) (wrote_there q p (counted q) file (next_stamp told) there)
        ∙ writes_one p file paths (sym (ap (λ (b : Bool). b || has paths p) there) ∙ is)
  ]

  -- no other path is
  leaves_one : (p : List ℕ) (file : Option File) (paths : List (List ℕ)) → has paths p ≡ false → file_from p file (edits t told real paths) ≡ file
  leaves_one p file [] is = refl
  leaves_one p file (q ∷ paths) is =
      let parts = or_none (bytes_eq q p) (has paths p) is in
      ap (λ (f : Option File). file_from p f (edits t told real paths)) (wrote_there q p (counted q) file (next_stamp told) parts.0) ∙ leaves_one p file paths parts.1

  -- a path at which neither history has a write is absent in both
  pub nowhere : (p : List ℕ) → has (paths_between told real) p ≡ false → file_at told p ≡ counted p
  nowhere p none =
      let before = unwritten p None told (left_none (written_in told) (written_in real) p none) in
      let now = unwritten p None real (right_none (written_in told) (written_in real) p none) in
      before ∙ sym (ap (λ (f : Option File). told_file t.counts None p f) now)
    where
      by : (xs ys : List (List ℕ)) (p : List ℕ) → has (xs ++ ys) p ≡ false → (b : Bool) → (b ≡ true → has (xs ++ ys) p ≡ true) → b ≡ false
      by xs ys p none true f = absurd (false≢true (sym none ∙ f refl))
      by xs ys p none false f = refl

      left_none : (xs ys : List (List ℕ)) (p : List ℕ) → has (xs ++ ys) p ≡ false → has xs p ≡ false
      left_none xs ys p none = by xs ys p none (has xs p) (λ h. has-left xs ys p h)

      right_none : (xs ys : List (List ℕ)) (p : List ℕ) → has (xs ++ ys) p ≡ false → has ys p ≡ false
      right_none xs ys p none = by xs ys p none (has ys p) (λ h. has-right xs ys p h)

  -- so what is told is what counts
  pub always_begins : BeginsSo t real (told_next t told real (paths_between told real))
  always_begins p = file_from-append p None told (edits t told real (paths_between told real)) ∙ elim (cases_Bool (has (paths_between told real) p)) [
    | inl listed ↦ writes_one p (file_at told p) (paths_between told real) listed
    | inr not_listed ↦ leaves_one p (file_at told p) (paths_between told real) not_listed ∙ nowhere p not_listed
  ]
