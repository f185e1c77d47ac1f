-- Looking backwards with closed scopes passed over gives what the open scopes say, the innermost first.
use Rattle.std.proofs.Common.{◌≡◌, ◌≢◌, ◌<◌, ◌≤◌, ◌==◌, ℕ, zero, suc, Bool, true, false, cond, List, [], ◌∷◌, drop, length, Option, None, Some, refl, sym, ◌∙◌, ap, subst, arith}
use Rattle.std.proofs.lemmas.Bool.{eqb-true, eq-eqb}
use Rattle.scopes.specs.Moves.{Move, Bind, DeclareRule, Enter, Leave, or_else, last_said, entered, open_scopes, begins_with, last_in, first_in, IsLawful}

-- numbers that fall, all below a bound
abbrev pub Falls : ℕ → List ℕ → Type 0
Falls bound [] = Unit {0}
Falls bound (s ∷ ss) = (s < bound) × Falls s ss

pub falls_weaken : (m n : ℕ) (ss : List ℕ) → m ≤ n → Falls m ss → Falls n ss
falls_weaken m n [] le falls = tt
falls_weaken m n (s ∷ ss) le falls = (omega arith, falls.1)

falls_drop : (bound k : ℕ) (ss : List ℕ) → Falls bound ss → Falls bound (drop k ss)
falls_drop bound zero ss falls = falls
falls_drop bound (suc k) [] falls = tt
falls_drop bound (suc k) (s ∷ ss) falls = falls_weaken s bound (drop k ss) (omega arith) (falls_drop s k ss falls.1)

pub falls_open : (past : List Move) → Falls (suc (entered past)) (open_scopes past)
falls_open [] = (omega arith, tt)
falls_open (Enter ∷ past) = (omega arith, falls_open past)
falls_open (Leave ∷ past) = falls_drop (suc (entered past)) 1 (open_scopes past) (falls_open past)
falls_open (Bind name value ∷ past) = falls_open past
falls_open (DeclareRule name rule ∷ past) = falls_open past

not_equal : (a b : ℕ) → a ≢ b → (a == b) ≡ false
not_equal a b other = by (a == b) refl
  where
    by : (c : Bool) → (a == b) ≡ c → (a == b) ≡ false
    by true is = absurd (other (eqb-true a b is))
    by false is = is

begins_not : (bound s : ℕ) (ss : List ℕ) → Falls bound ss → bound ≤ s → begins_with s ss ≡ false
begins_not bound s [] falls high = refl
begins_not bound s (t ∷ ts) falls high = not_equal s t (λ same. absurd (omega arith))

begins_other : (s h : ℕ) (ss : List ℕ) → s < h → begins_with s (h ∷ ss) ≡ false
begins_other s h ss low = not_equal s h (λ same. absurd (omega arith))

pub begins : (h : ℕ) (ss : List ℕ) → begins_with h (h ∷ ss) ≡ true
begins h ss = eq-eqb h h refl

-- an open scope is always there
pub some_open : (past : List Move) → IsLawful past → (h : ℕ) × (ss : List ℕ) × (open_scopes past ≡ h ∷ ss)
some_open [] lawful = (0, [], refl)
some_open (Enter ∷ past) lawful = (suc (entered past), open_scopes past, refl)
some_open (Leave ∷ past) lawful = by (open_scopes past) lawful.0
  where
    by : (ss : List ℕ) → 1 < length ss → (h : ℕ) × (ts : List ℕ) × (drop 1 ss ≡ h ∷ ts)
    by [] some = absurd (omega arith)
    by (a ∷ []) some = absurd (omega arith)
    by (a ∷ b ∷ ss) some = (b, ss, refl)
some_open (Bind name value ∷ past) lawful = some_open past lawful
some_open (DeclareRule name rule ∷ past) lawful = some_open past lawful

module _ {V : Type 0} (says : Move → Option V) where
  or_else_assoc : (a b c : Option V) → or_else (or_else a b) c ≡ or_else a (or_else b c)
  or_else_assoc None b c = refl
  or_else_assoc (Some v) b c = refl

  -- nothing is said in a scope that was not entered yet
  pub said_nowhere : (past : List Move) (s : ℕ) → entered past < s → last_in says past s ≡ None
  said_nowhere [] s beyond = refl
  said_nowhere (Enter ∷ past) s beyond = said_nowhere past s (omega arith)
  said_nowhere (Leave ∷ past) s beyond = said_nowhere past s beyond
  said_nowhere (Bind name value ∷ past) s beyond =
      ap (λ (b : Bool). cond b (or_else (says (Bind name value)) (last_in says past s)) (last_in says past s)) (begins_not (suc (entered past)) s (open_scopes past) (falls_open past) (omega arith))
      ∙ said_nowhere past s beyond
  said_nowhere (DeclareRule name rule ∷ past) s beyond =
      ap (λ (b : Bool). cond b (or_else (says (DeclareRule name rule)) (last_in says past s)) (last_in says past s)) (begins_not (suc (entered past)) s (open_scopes past) (falls_open past) (omega arith))
      ∙ said_nowhere past s beyond

  -- the test of what a statement says, in the open scope and in another
  abbrev SaysHere : Move → List Move → Type 0
  SaysHere move past = (s : ℕ) → last_in says (move ∷ past) s ≡ cond (begins_with s (open_scopes past)) (or_else (says move) (last_in says past s)) (last_in says past s)

  module _ (move : Move) (past : List Move) (here : SaysHere move past) where
    outside : (h : ℕ) (ss : List ℕ) → open_scopes past ≡ h ∷ ss → (ts : List ℕ) → Falls h ts → first_in says (move ∷ past) ts ≡ first_in says past ts
    outside h ss is [] falls = refl
    outside h ss is (t ∷ ts) falls =
        let other : begins_with t (open_scopes past) ≡ false = ap (begins_with t) is ∙ begins_other t h ss falls.0 in
        let same : last_in says (move ∷ past) t ≡ last_in says past t = here t ∙ ap (λ (b : Bool). cond b (or_else (says move) (last_in says past t)) (last_in says past t)) other in
        ap (λ (o : Option V). or_else o (first_in says (move ∷ past) ts)) same ∙ ap (or_else (last_in says past t)) (outside h ss is ts (falls_weaken t h ts (omega arith) falls.1))

    inside : (h : ℕ) (ss : List ℕ) → open_scopes past ≡ h ∷ ss → Falls h ss → first_in says (move ∷ past) (h ∷ ss) ≡ or_else (says move) (first_in says past (h ∷ ss))
    inside h ss is falls =
        let first : begins_with h (open_scopes past) ≡ true = ap (begins_with h) is ∙ begins h ss in
        let said : last_in says (move ∷ past) h ≡ or_else (says move) (last_in says past h) = here h ∙ ap (λ (b : Bool). cond b (or_else (says move) (last_in says past h)) (last_in says past h)) first in
        ap (λ (o : Option V). or_else o (first_in says (move ∷ past) ss)) said
        ∙ (ap (or_else (or_else (says move) (last_in says past h))) (outside h ss is ss falls)
        ∙ or_else_assoc (says move) (last_in says past h) (first_in says past ss))

  entered_same : (past : List Move) (ss : List ℕ) → first_in says (Enter ∷ past) ss ≡ first_in says past ss
  entered_same past [] = refl
  entered_same past (s ∷ ss) = ap (or_else (last_in says past s)) (entered_same past ss)

  left_same : (past : List Move) (ss : List ℕ) → first_in says (Leave ∷ past) ss ≡ first_in says past ss
  left_same past [] = refl
  left_same past (s ∷ ss) = ap (or_else (last_in says past s)) (left_same past ss)

  drop_none : (k : ℕ) → first_in says [] (drop k []) ≡ None
  drop_none zero = refl
  drop_none (suc k) = refl

  drop_drop : (k : ℕ) (ss : List ℕ) → drop k (drop 1 ss) ≡ drop (suc k) ss
  drop_drop zero [] = refl
  drop_drop (suc k) [] = refl
  drop_drop k (s ∷ ss) = refl

  said : (move : Move) (past : List Move) → SaysHere move past → IsLawful past
      → ((k : ℕ) → first_in says past (drop k (open_scopes past)) ≡ last_said says k past)
      → (first_in says (move ∷ past) (open_scopes past) ≡ or_else (says move) (last_said says zero past))
      × ((k : ℕ) → first_in says (move ∷ past) (drop (suc k) (open_scopes past)) ≡ last_said says (suc k) past)
  said move past here lawful before =
      let some = some_open past lawful in
      let falls : Falls (suc (entered past)) (some.0 ∷ some.1) = subst (Falls (suc (entered past))) some.2 (falls_open past) in (
        ap (first_in says (move ∷ past)) some.2 ∙ (inside move past here some.0 some.1 some.2 falls.1 ∙ ap (or_else (says move)) (sym (ap (first_in says past) some.2) ∙ before zero)),
        λ k. ap (λ (ss : List ℕ). first_in says (move ∷ past) (drop (suc k) ss)) some.2
            ∙ (outside move past here some.0 some.1 some.2 (drop k some.1) (falls_drop some.0 k some.1 falls.1)
            ∙ (sym (ap (λ (ss : List ℕ). first_in says past (drop (suc k) ss)) some.2) ∙ before (suc k))),
      )

  pub looks_back : (past : List Move) → IsLawful past → (k : ℕ) → first_in says past (drop k (open_scopes past)) ≡ last_said says k past
  looks_back [] lawful zero = refl
  looks_back [] lawful (suc k) = drop_none k
  looks_back (Leave ∷ past) lawful k = left_same past (drop k (drop 1 (open_scopes past))) ∙ (ap (first_in says past) (drop_drop k (open_scopes past)) ∙ looks_back past lawful.1 (suc k))
  looks_back (Enter ∷ past) lawful zero =
      ap (λ (o : Option V). or_else o (first_in says (Enter ∷ past) (open_scopes past))) (said_nowhere past (suc (entered past)) (omega arith))
      ∙ (entered_same past (open_scopes past) ∙ looks_back past lawful zero)
  looks_back (Enter ∷ past) lawful (suc k) = entered_same past (drop k (open_scopes past)) ∙ looks_back past lawful k
  looks_back (Bind name value ∷ past) lawful zero = (said (Bind name value) past (λ s. refl) lawful (looks_back past lawful)).0
  looks_back (Bind name value ∷ past) lawful (suc k) = (said (Bind name value) past (λ s. refl) lawful (looks_back past lawful)).1 k
  looks_back (DeclareRule name rule ∷ past) lawful zero = (said (DeclareRule name rule) past (λ s. refl) lawful (looks_back past lawful)).0
  looks_back (DeclareRule name rule ∷ past) lawful (suc k) = (said (DeclareRule name rule) past (λ s. refl) lawful (looks_back past lawful)).1 k
