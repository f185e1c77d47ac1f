-- What the loop over the moves keeps.
use Rattle.std.proofs.Common.{◌≡◌, inl, inr, ℕ, suc, ◌+◌, ◌<◌, ◌≤◌, Bool, false, List, [], ◌∷◌, ◌++◌, take, drop, length, length-append, get_or, refl, sym, ◌∙◌, ap, subst, arith}
use Rattle.std.proofs.Math.Seq.{take-suc}
use Rattle.std.proofs.lemmas.List.{drop_more, take-append-drop}
use Rattle.model.specs.declared.act.Act.{Act}
use Rattle.model.specs.declared.moves.Move.{Move}
use Rattle.model.specs.declared.moves.Move.TheVariants.{Write, Delete, Build}
use Rattle.model.specs.declared.outcome.Outcome.{Outcome}
use Rattle.model.specs.Driven.{StartsAgain, IsCutNext}
use Rattle.model.specs.Premises.{HaveEnded}
use Rattle.model.specs.World.{World, View, IsIdle}
use Rattle.builder.specs.declared.asked.Limits.{Limits}
use Rattle.work.specs.declared.report.Report.{Report}
use Rattle.drive.specs.Driven.{behaving, Drives, StopsShort, IsUnrefused}
use Rattle.drive.specs.Moves.{builds_among, IsCarried, AreDone}
use Rattle.drive.proofs.Going.{goes_on, gone_at_first}
use Rattle.drive.proofs.Ended.{was_driven, cut_in_edit}
use Rattle.drive.proofs.Visited.{cut_before}

module _ (tells : Bool) (outcome : Act → View → Outcome) (name : List ℕ) (limits : Limits) where
  pub done_at_first : (first : World) → IsIdle first.events → AreDone tells outcome name limits [] false [] first first
  done_at_first first idle = record {
    ended = λ is. idle;
    gone = λ format depfile dyndep depfiles dyndeps reads. gone_at_first tells (behaving outcome depfile dyndep) format name limits first idle;
  }

  -- THE LOOP'S STEP
  pub carried_on : (moves : List Move) (asked : Bool) (before after : List Report) (first now mid new : World) (move : Move) (again : Bool)
      → AreDone tells outcome name limits moves asked before first now → StartsAgain tells asked now mid → IsCarried tells outcome name limits move again before after mid new
      → AreDone tells outcome name limits (moves ++ move ∷ []) again after first new
  carried_on moves asked before after first now mid new move again are starts carried =
      subst (λ (reports : List Report). AreDone tells outcome name limits (moves ++ move ∷ []) again reports first new) (sym carried.grows) (record {
        ended = carried.done.ended;
        gone = λ format depfile dyndep depfiles dyndeps reads.
            goes_on tells (behaving outcome depfile dyndep) format name limits moves asked before first now mid new move again carried.told (are.gone format depfile dyndep depfiles dyndeps reads) starts
            (carried.done.visited format depfile dyndep depfiles dyndeps reads);
      })

  -- where a move begins no command runs
  pub idle_again : (asked : Bool) (now mid : World) → StartsAgain tells asked now mid → (asked ≡ false → HaveEnded now) → IsIdle mid.events
  idle_again asked now mid (inl (none, same)) ended = subst HaveEnded (sym same) (ended none)
  idle_again asked now mid (inr (some, restart)) ended = subst IsIdle (sym restart.events) (λ job. refl)

  -- THE END OF THE LIST
  pub all_done : (moves : List Move) (asked : Bool) (reports : List Report) (first now : World) → AreDone tells outcome name limits moves asked reports first now → Drives tells outcome name limits moves reports first now
  all_done moves asked reports first now are = λ format depfile dyndep depfiles dyndeps reads.
      was_driven tells (behaving outcome depfile dyndep) format name limits moves asked reports first now (are.gone format depfile dyndep depfiles dyndeps reads)

  -- an edit behind these moves found no memory
  pub short_at : (done rest : List Move) (asked : Bool) (reports : List Report) (first now mid new : World) (move : Move) → AreDone tells outcome name limits done asked reports first now
      → StartsAgain tells asked now mid → IsCutNext tells (move ∷ []) mid new → IsUnrefused mid new → StopsShort tells outcome name limits (done ++ move ∷ rest) first new
  short_at done rest asked reports first now mid new move are starts cut unrefused = inr (λ format depfile dyndep depfiles dyndeps reads.
      cut_in_edit tells (behaving outcome depfile dyndep) format name limits done asked reports first now (are.gone format depfile dyndep depfiles dyndeps reads) (move ∷ rest) mid new are.ended starts
      (cut_before tells mid new move rest cut) unrefused)

-- ---- lists

pub take_more : (xs : List Move) (i : ℕ) (m : Move) → i < length xs → m ≡ get_or xs i m → take i xs ++ m ∷ [] ≡ take (i + 1) xs
take_more xs i m less is =
    let next : suc i ≡ i + 1 = omega arith in
    ap (λ (x : Move). take i xs ++ x ∷ []) is ∙ (sym (take-suc xs i m less) ∙ ap (λ (n : ℕ). take n xs) next)

drop_one : (xs : List Move) (i : ℕ) (m : Move) → i < length xs → m ≡ get_or xs i m → drop i xs ≡ m ∷ drop (i + 1) xs
drop_one xs i m less is = drop_more xs i m less ∙ ap (λ (x : Move). x ∷ drop (i + 1) xs) (sym is)

pub split_at : (xs : List Move) (i : ℕ) (m : Move) → i < length xs → m ≡ get_or xs i m → take i xs ++ m ∷ drop (i + 1) xs ≡ xs
split_at xs i m less is = ap (λ (l : List Move). take i xs ++ l) (sym (drop_one xs i m less is)) ∙ take-append-drop i xs

-- ---- room for the reports

none_more : (n : ℕ) → 0 + n ≡ n
none_more n = omega arith

one_more : (n : ℕ) → 1 + n ≡ suc n
one_more n = omega arith

builds_first : (m : Move) (ms : List Move) → builds_among (m ∷ []) + builds_among ms ≡ builds_among (m ∷ ms)
builds_first (Write path content) ms = none_more (builds_among ms)
builds_first (Delete path) ms = none_more (builds_among ms)
builds_first (Build words) ms = one_more (builds_among ms)

builds_from : (xs : List Move) (i : ℕ) (m : Move) → i < length xs → m ≡ get_or xs i m → builds_among (m ∷ []) + builds_among (drop (i + 1) xs) ≡ builds_among (drop i xs)
builds_from xs i m less is = builds_first m (drop (i + 1) xs) ∙ ap (λ (l : List Move). builds_among l) (sym (drop_one xs i m less is))

pub room_at_first : (moves : List Move) (reports : List Report) (count room : ℕ) → reports ≡ [] → count ≡ builds_among moves → room ≡ count → length reports + builds_among moves ≤ room
room_at_first moves reports count room none counts made =
    let empty : length reports ≡ 0 = ap (λ (l : List Report). length l) none in
    omega (arith, empty, counts, made)

-- there is room for what this move reports
pub room_for_one : (xs : List Move) (i : ℕ) (m : Move) (used room : ℕ) → i < length xs → m ≡ get_or xs i m → used + builds_among (drop i xs) ≤ room → used + builds_among (m ∷ []) ≤ room
room_for_one xs i m used room less is fits = let parts = builds_from xs i m less is in omega (arith, parts, fits)

module _ (tells : Bool) (outcome : Act → View → Outcome) (name : List ℕ) (limits : Limits) where
  -- and then for what comes behind it
  pub room_behind : (xs : List Move) (i : ℕ) (m : Move) (again : Bool) (before after : List Report) (old new : World) (room more : ℕ) → i < length xs → m ≡ get_or xs i m → length before + builds_among (drop i xs) ≤ room → room ≤ more
      → IsCarried tells outcome name limits m again before after old new → length after + builds_among (drop (i + 1) xs) ≤ more
  room_behind xs i m again before after old new room more less is fits grows carried =
      let parts = builds_from xs i m less is in
      let counted = carried.done.counted in
      let longer : length after ≡ length before + length carried.told = ap (λ (l : List Report). length l) carried.grows ∙ length-append before carried.told in
      omega (arith, parts, counted, longer, fits, grows)
