-- What the loop over the moves keeps.
use Rattle.std.proofs.Common.{◌≡◌, inl, inr, ℕ, suc, ◌+◌, ◌<◌, ◌≤◌, Bool, false, List, [], ◌∷◌, ◌++◌, take, drop, length, length-append, get_or, refl, sym, ◌∙◌, ap, subst, arith}
use Rattle.std.proofs.Math.Seq.{take-suc}
use Rattle.std.proofs.lemmas.List.{drop_more, take-append-drop}
use Rattle.model.specs.declared.moves.Move.{Move}
use Rattle.model.specs.declared.moves.Move.TheVariants.{Write, Delete, Build}
use Rattle.model.specs.Driven.{StartsAgain, IsCutNext}
use Rattle.model.specs.Premises.{HaveEnded}
use Rattle.model.specs.World.{World, IsIdle}
use Rattle.work.specs.declared.report.Options.{Options}
use Rattle.work.specs.declared.report.Report.{Report}
use Rattle.drive.specs.Driven.{IsUnrefused}
use Rattle.drive.specs.Moves.{builds_among}
use Rattle.seen_drive.specs.Visits.{StopsShort, reports_in}
use Rattle.seen_drive.specs.Moves.{AreDone, IsCarried}
use Rattle.seen_drive.proofs.Visited.{cut_before}

module _ (tells : Bool) (options : Options) where
  pub done_at_first : (first : World) → IsIdle first.events → AreDone tells options [] false [] first first
  done_at_first first idle = record { driven = record { visits = []; follows = refl; carries = refl; restarts = tt; reported = refl }; asks = refl; ended = λ is. idle }

  -- where a move begins no command runs
  pub idle_again : (asked : Bool) (now mid : World) → StartsAgain tells asked now mid → (asked ≡ false → HaveEnded now) → IsIdle mid.events
  idle_again asked now mid (inl (none, same)) ended = subst HaveEnded (sym same) (ended none)
  idle_again asked now mid (inr (some, restart)) ended = subst IsIdle (sym restart.events) (λ job. refl)

  -- an edit behind these moves found no memory
  pub short_at : (done rest : List Move) (asked : Bool) (reports : List Report) (first now mid new : World) (move : Move) → AreDone tells options done asked reports first now
      → StartsAgain tells asked now mid → IsCutNext tells (move ∷ []) mid new → IsUnrefused mid new → StopsShort tells options (done ++ move ∷ rest) first new
  short_at done rest asked reports first now mid new move are starts cut unrefused = inr (record {
    done = done;
    rest = move ∷ rest;
    splits = refl;
    reports = reports;
    before = now;
    driven = are.driven;
    again = mid;
    starts = subst (λ (b : Bool). StartsAgain tells b now mid) (sym are.asks) starts;
    cut = cut_before tells mid new move rest cut;
    unrefused = unrefused;
  })

-- ---- lists

pub take_more : (xs : List Move) (i : ℕ) (m : Move) → i < length xs → m ≡ get_or xs i m → take i xs ++ m ∷ [] ≡ take (i + 1) xs
take_more xs i m less is =
    let next : suc i ≡ i + 1 = omega arith in
    ap (λ (x : Move). take i xs ++ x ∷ []) is ∙ (sym (take-suc xs i m less) ∙ ap (λ (n : ℕ). take n xs) next)

drop_one : (xs : List Move) (i : ℕ) (m : Move) → i < length xs → m ≡ get_or xs i m → drop i xs ≡ m ∷ drop (i + 1) xs
drop_one xs i m less is = drop_more xs i m less ∙ ap (λ (x : Move). x ∷ drop (i + 1) xs) (sym is)

pub split_at : (xs : List Move) (i : ℕ) (m : Move) → i < length xs → m ≡ get_or xs i m → take i xs ++ m ∷ drop (i + 1) xs ≡ xs
split_at xs i m less is = ap (λ (l : List Move). take i xs ++ l) (sym (drop_one xs i m less is)) ∙ take-append-drop i xs

-- ---- room for the reports

none_more : (n : ℕ) → 0 + n ≡ n
none_more n = omega arith

one_more : (n : ℕ) → 1 + n ≡ suc n
one_more n = omega arith

builds_first : (m : Move) (ms : List Move) → builds_among (m ∷ []) + builds_among ms ≡ builds_among (m ∷ ms)
builds_first (Write path content) ms = none_more (builds_among ms)
builds_first (Delete path) ms = none_more (builds_among ms)
builds_first (Build words) ms = one_more (builds_among ms)

builds_from : (xs : List Move) (i : ℕ) (m : Move) → i < length xs → m ≡ get_or xs i m → builds_among (m ∷ []) + builds_among (drop (i + 1) xs) ≡ builds_among (drop i xs)
builds_from xs i m less is = builds_first m (drop (i + 1) xs) ∙ ap (λ (l : List Move). builds_among l) (sym (drop_one xs i m less is))

pub room_at_first : (moves : List Move) (reports : List Report) (room : ℕ) → reports ≡ [] → builds_among moves ≤ room → length reports + builds_among moves ≤ room
room_at_first moves reports room none fits =
    let empty : length reports ≡ 0 = ap (λ (l : List Report). length l) none in
    omega (arith, empty, fits)

-- there is room for what this move reports
pub room_for_one : (xs : List Move) (i : ℕ) (m : Move) (used room : ℕ) → i < length xs → m ≡ get_or xs i m → used + builds_among (drop i xs) ≤ room → used + builds_among (m ∷ []) ≤ room
room_for_one xs i m used room less is fits = let parts = builds_from xs i m less is in omega (arith, parts, fits)

module _ (tells : Bool) (options : Options) where
  -- and then for what comes behind it
  pub room_behind : (xs : List Move) (i : ℕ) (m : Move) (again : Bool) (before after : List Report) (old new : World) (room more : ℕ) → i < length xs → m ≡ get_or xs i m → length before + builds_among (drop i xs) ≤ room → room ≤ more
      → IsCarried tells options m again before after old new → length after + builds_among (drop (i + 1) xs) ≤ more
  room_behind xs i m again before after old new room more less is fits grows carried =
      let parts = builds_from xs i m less is in
      let told = reports_in (carried.visit ∷ []) in
      let counted : length told ≡ builds_among (m ∷ []) = carried.counted in
      let longer : length after ≡ length before + length told = ap (λ (l : List Report). length l) carried.grows ∙ length-append before told in
      omega (arith, parts, counted, longer, fits, grows)
