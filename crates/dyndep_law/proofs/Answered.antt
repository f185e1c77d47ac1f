-- Grammars under which each text says something: how they are put together.
use Rattle.std.proofs.Common.{◌≡◌, ℕ, zero, suc, ◌<◌, ◌≤◌, Bool, true, false, List, [], ◌∷◌, ◌++◌, length, length-append, refl, sym, ◌∙◌, ap, append_assoc, arith}
use Rattle.lexer.specs.Grammar.{Outcome, Is, Give, Then, Either, Many}
use Rattle.lexer.specs.Grammar.Outcome.{Reached, Broken}
use Rattle.lexer.specs.Grammar.Then.{goes_on, is_stuck}

-- the one text stands at the end of the other
pub record Ends (bytes rest : List ℕ) : Type 0 where
  pub taken : List ℕ
  pub spelled : bytes ≡ taken ++ rest

pub ends_itself : (bytes : List ℕ) → Ends bytes bytes
ends_itself bytes = record { taken = []; spelled = refl }

pub ends_both : {a b c : List ℕ} → Ends a b → Ends b c → Ends a c
ends_both {c = c} first second = record {
  taken = first.taken ++ second.taken;
  spelled = first.spelled ∙ (ap (λ (rest : List ℕ). first.taken ++ rest) second.spelled ∙ sym (append_assoc first.taken second.taken c));
}

pub no_longer : {a b : List ℕ} → Ends a b → length b ≤ length a
no_longer {b = b} ends = rw ends.spelled (omega (arith, length-append ends.taken b))

-- the place where a reading ends, or is stuck
abbrev pub place_of : {X : Type 0} → Outcome X → List ℕ
place_of (Reached value rest) = rest
place_of (Broken kind rest) = rest

-- fewer than so many bytes are left behind what was read
abbrev pub Under : {X : Type 0} → ℕ → Outcome X → Type 0
Under n (Reached value rest) = length rest < n
Under n (Broken kind rest) = Unit {0}

pub record Answer {X : Type 0} (One : List ℕ → Outcome X → Type 0) (n : ℕ) (bytes : List ℕ) : Type 0 where
  pub outcome : Outcome X
  pub reads : One bytes outcome
  pub ends : Ends bytes (place_of outcome)
  pub under : Under n outcome

-- each text says something, and each item takes something of it
abbrev pub Total : {X : Type 0} → (List ℕ → Outcome X → Type 0) → Type 0
Total One = (bytes : List ℕ) → Answer One (suc (length bytes)) bytes

abbrev pub Takes : {X : Type 0} → (List ℕ → Outcome X → Type 0) → Type 0
Takes One = (bytes : List ℕ) → Answer One (length bytes) bytes

under_more : {X : Type 0} (m n : ℕ) (outcome : Outcome X) → m ≤ n → Under m outcome → Under n outcome
under_more m n (Reached value rest) le under = omega (arith, le, under)
under_more m n (Broken kind rest) le under = tt

pub answers_more : {X : Type 0} (One : List ℕ → Outcome X → Type 0) (m n : ℕ) (bytes : List ℕ) → m ≤ n → Answer One m bytes → Answer One n bytes
answers_more One m n bytes le answer = record { outcome = answer.outcome; reads = answer.reads; ends = answer.ends; under = under_more m n answer.outcome le answer.under }

pub takes_total : {X : Type 0} (One : List ℕ → Outcome X → Type 0) → Takes One → Total One
takes_total One takes bytes = answers_more One (length bytes) (suc (length bytes)) bytes (omega arith) (takes bytes)

-- ---- the parts

-- what a text says is computed
pub is_answered : {X : Type 0} (reading : List ℕ → Outcome X) (n : ℕ) (bytes : List ℕ) → Ends bytes (place_of (reading bytes)) → Under n (reading bytes) → Answer (Is reading) n bytes
is_answered reading n bytes ends under = record { outcome = reading bytes; reads = refl; ends = ends; under = under }

pub give_total : {X : Type 0} (value : X) → Total (Give value)
give_total value bytes = record { outcome = Reached value bytes; reads = refl; ends = ends_itself bytes; under = omega arith }

-- one behind another, where what stands behind has to be read up to `n` only
then_by : {X Y : Type 0} (First : List ℕ → Outcome X → Type 0) (Next : X → List ℕ → Outcome Y → Type 0) (m n : ℕ) (bytes : List ℕ) (outcome : Outcome X) → First bytes outcome → Ends bytes (place_of outcome) → Under m outcome → ((value : X) (next : List ℕ) → length next < m → Answer (Next value) n next) → Answer (Then First Next) n bytes
then_by First Next m n bytes (Reached value next) reads ends under then =
    let more = then value next under in
    record { outcome = more.outcome; reads = goes_on reads more.reads; ends = ends_both ends more.ends; under = more.under }
then_by First Next m n bytes (Broken kind rest) reads ends under then = record { outcome = Broken kind rest; reads = is_stuck reads; ends = ends; under = tt }

pub then_up_to : {X Y : Type 0} (First : List ℕ → Outcome X → Type 0) (Next : X → List ℕ → Outcome Y → Type 0) (m n : ℕ) (bytes : List ℕ) → Answer First m bytes → ((value : X) (next : List ℕ) → length next < m → Answer (Next value) n next) → Answer (Then First Next) n bytes
then_up_to First Next m n bytes first then = then_by First Next m n bytes first.outcome first.reads first.ends first.under then

pub then_answered : {X Y : Type 0} (First : List ℕ → Outcome X → Type 0) (Next : X → List ℕ → Outcome Y → Type 0) (n : ℕ) (bytes : List ℕ) → Answer First n bytes → ((value : X) → Total (Next value)) → Answer (Then First Next) n bytes
then_answered First Next n bytes first then = then_up_to First Next n n bytes first (λ value next lt. answers_more (Next value) (suc (length next)) n next (omega (arith, lt)) (then value next))

pub then_total : {X Y : Type 0} (First : List ℕ → Outcome X → Type 0) (Next : X → List ℕ → Outcome Y → Type 0) → Total First → ((value : X) → Total (Next value)) → Total (Then First Next)
then_total First Next first then bytes = then_answered First Next (suc (length bytes)) bytes (first bytes) then

pub then_takes : {X Y : Type 0} (First : List ℕ → Outcome X → Type 0) (Next : X → List ℕ → Outcome Y → Type 0) → Takes First → ((value : X) → Total (Next value)) → Takes (Then First Next)
then_takes First Next first then bytes = then_answered First Next (length bytes) bytes (first bytes) then

pub either_total : {X : Type 0} (test : List ℕ → Bool) (First Second : List ℕ → Outcome X → Type 0) → Total First → Total Second → Total (λ bytes. Either (test bytes) First Second bytes)
either_total test First Second first second bytes = by (test bytes) refl
  where
    by : (is : Bool) → test bytes ≡ is → Answer (λ (text : List ℕ). Either (test text) First Second text) (suc (length bytes)) bytes
    by true is = let one = first bytes in record { outcome = one.outcome; reads = rw is one.reads; ends = one.ends; under = one.under }
    by false is = let one = second bytes in record { outcome = one.outcome; reads = rw is one.reads; ends = one.ends; under = one.under }

-- ---- rows

-- where the row ends, nothing is taken
abbrev pub bound : Bool → List ℕ → ℕ
bound true bytes = suc (length bytes)
bound false bytes = length bytes

bound_within : (is : Bool) (bytes : List ℕ) → bound is bytes ≤ suc (length bytes)
bound_within true bytes = omega arith
bound_within false bytes = omega arith

module _ {X : Type 0} (One : List ℕ → Outcome X → Type 0) (ends : List ℕ → Bool) (one : (bytes : List ℕ) → ends bytes ≡ false → Answer One (length bytes) bytes) where
  row_on : (item : X) (bytes next : List ℕ) → ends bytes ≡ false → One bytes (Reached item next) → Ends bytes next → (n : ℕ) → n ≤ length bytes → (outcome : Outcome (List X)) → Many One ends next outcome → Ends next (place_of outcome) → Under n outcome → Answer (Many One ends) (length bytes) bytes
  row_on item bytes next goes reads before n le (Reached items rest) more behind under = record {
    outcome = Reached (item ∷ items) rest;
    reads = ((next, (goes, reads), more.0), more.1);
    ends = ends_both before behind;
    under = omega (arith, le, under);
  }
  row_on item bytes next goes reads before n le (Broken kind rest) more behind under = record {
    outcome = Broken kind rest;
    reads = (item ∷ more.0, more.1, (next, (goes, reads), more.2), more.3, more.4);
    ends = ends_both before behind;
    under = tt;
  }

  many_up_to : (fuel : ℕ) (bytes : List ℕ) → length bytes < fuel → (is : Bool) → ends bytes ≡ is → Answer (Many One ends) (bound is bytes) bytes
  many_up_to zero bytes lt is e = absurd (omega (arith, lt))
  many_up_to (suc fuel) bytes lt true e = record { outcome = Reached [] bytes; reads = (refl, e); ends = ends_itself bytes; under = omega arith }
  many_up_to (suc fuel) bytes lt false e = by_item (one bytes e).outcome (one bytes e).reads (one bytes e).ends (one bytes e).under (λ next less. many_up_to fuel next (omega (arith, lt, less)) (ends next) refl)
    where
      by_item : (outcome : Outcome X) → One bytes outcome → Ends bytes (place_of outcome) → Under (length bytes) outcome → ((next : List ℕ) → length next < length bytes → Answer (Many One ends) (bound (ends next) next) next) → Answer (Many One ends) (length bytes) bytes
      by_item (Reached item next) reads before under rest =
          let more = rest next under in
          let within = bound_within (ends next) next in
          row_on item bytes next e reads before (bound (ends next) next) (omega (arith, within, under)) more.outcome more.reads more.ends more.under
      by_item (Broken kind rest) reads before under more = record { outcome = Broken kind rest; reads = ([], bytes, refl, e, reads); ends = before; under = tt }

  pub many_answered : (bytes : List ℕ) → Answer (Many One ends) (bound (ends bytes) bytes) bytes
  many_answered bytes = many_up_to (suc (length bytes)) bytes (omega arith) (ends bytes) refl

  pub many_total : Total (Many One ends)
  many_total bytes = answers_more (Many One ends) (bound (ends bytes) bytes) (suc (length bytes)) bytes (bound_within (ends bytes) bytes) (many_answered bytes)
