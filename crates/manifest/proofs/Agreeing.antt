-- Readings that come to the same: what each of them comes to is related, and a fault is the same fault.
use Rattle.std.proofs.Common.{◌≡◌, List, [], ◌∷◌, Option, None, Some, refl, sym, ap, subst}
use Rattle.manifest.specs.declared.fault.FileFault.{FileFault}
use Rattle.manifest.specs.Readings.{Outcome, Give, Refuse, Unless, Then, Where, Cut, Each}
use Rattle.manifest.specs.Readings.Outcome.{Reached, Broken}
use Rattle.manifest.specs.Readings.Unless.{refused, in_order}
use Rattle.manifest.specs.Readings.Then.{goes_on, stops}
use Rattle.manifest.specs.Readings.Where.{with_value}

abbrev pub SameOutcome : {X Y : Type 0} → (X → Y → Type 0) → Outcome X → Outcome Y → Type 0
SameOutcome R (Reached x) (Reached y) = R x y
SameOutcome R (Reached x) (Broken g) = ⊥
SameOutcome R (Broken f) (Reached y) = ⊥
SameOutcome R (Broken f) (Broken g) = f ≡ g

abbrev pub Agree : {X Y : Type 0} → (X → Y → Type 0) → (Outcome X → Type 0) → (Outcome Y → Type 0) → Type 0
Agree {X} {Y} R A B = (a : Outcome X) (b : Outcome Y) → A a → B b → SameOutcome R a b

-- one reading comes to one thing
abbrev pub One : {X : Type 0} → (Outcome X → Type 0) → Type 0
One {X} A = Agree {X = X} {Y = X} (λ x y. x ≡ y) A A

pub same_outcome : {X : Type 0} (a b : Outcome X) → SameOutcome {X = X} {Y = X} (λ x y. x ≡ y) a b → a ≡ b
same_outcome (Reached x) (Reached y) e = ap Reached e
same_outcome (Reached x) (Broken g) e = absurd e
same_outcome (Broken f) (Reached y) e = absurd e
same_outcome (Broken f) (Broken g) e = ap Broken e

module _ {X Y : Type 0} (R : X → Y → Type 0) where
  pub give_agree : (x : X) (y : Y) → R x y → Agree R (Give x) (Give y)
  give_agree x y related a b is is' = subst (λ (o : Outcome X). SameOutcome R o b) (sym is) (subst (λ (o : Outcome Y). SameOutcome R (Reached x) o) (sym is') related)

  pub refuse_agree : (f g : FileFault) → f ≡ g → Agree R (Refuse f) (Refuse g)
  refuse_agree f g same a b is is' = subst (λ (o : Outcome X). SameOutcome R o b) (sym is) (subst (λ (o : Outcome Y). SameOutcome R (Broken f) o) (sym is') same)

  pub unless_agree : (bad bad' : Type 0) (f g : FileFault) (A : Outcome X → Type 0) (B : Outcome Y → Type 0) → (bad → bad') → (bad' → bad) → f ≡ g → Agree R A B → Agree R (Unless bad f A) (Unless bad' g B)
  unless_agree bad bad' f g A B to from same next a b (refused is) (refused is') = same
  unless_agree bad bad' f g A B to from same next a b (refused is) (in_order not after) = absurd (not (to is))
  unless_agree bad bad' f g A B to from same next a b (in_order not after) (refused is) = absurd (not (from is))
  unless_agree bad bad' f g A B to from same next a b (in_order not after) (in_order not' after') = next a b after after'

  -- the same condition and the same fault
  pub unless_same : (bad : Type 0) (f : FileFault) (A : Outcome X → Type 0) (B : Outcome Y → Type 0) → Agree R A B → Agree R (Unless bad f A) (Unless bad f B)
  unless_same bad f A B next = unless_agree bad bad f f A B (λ is. is) (λ is. is) refl next

  pub cut_agree : (fault : Option FileFault) (A : Outcome X → Type 0) (B : Outcome Y → Type 0) → Agree R A B → Agree R (Cut fault A) (Cut fault B)
  cut_agree None A B next = next
  cut_agree (Some fault) A B next = refuse_agree fault fault refl

module _ {X Y Z W : Type 0} (R : X → Y → Type 0) (Q : Z → W → Type 0) where
  pub then_agree : (First : Outcome X → Type 0) (First' : Outcome Y → Type 0) (Next : X → Outcome Z → Type 0) (Next' : Y → Outcome W → Type 0)
      → Agree R First First' → ((x : X) (y : Y) → R x y → Agree Q (Next x) (Next' y)) → Agree Q (Then First Next) (Then First' Next')
  then_agree First First' Next Next' firsts nexts a b (goes_on {value = x} is after) (goes_on {value = y} is' after') = nexts x y (firsts (Reached x) (Reached y) is is') a b after after'
  then_agree First First' Next Next' firsts nexts a b (goes_on {value = x} is after) (stops {fault = g} is') = absurd (firsts (Reached x) (Broken g) is is')
  then_agree First First' Next Next' firsts nexts a b (stops {fault = f} is) (goes_on {value = y} is' after') = absurd (firsts (Broken f) (Reached y) is is')
  then_agree First First' Next Next' firsts nexts a b (stops {fault = f} is) (stops {fault = g} is') = firsts (Broken f) (Broken g) is is'

  pub where_agree : (Fits : X → Type 0) (Fits' : Y → Type 0) (Next : X → Outcome Z → Type 0) (Next' : Y → Outcome W → Type 0)
      → ((x : X) (y : Y) → Fits x → Fits' y → R x y) → ((x : X) (y : Y) → R x y → Agree Q (Next x) (Next' y)) → Agree Q (Where Fits Next) (Where Fits' Next')
  where_agree Fits Fits' Next Next' fits nexts a b (with_value {value = x} is after) (with_value {value = y} is' after') = nexts x y (fits x y is is') a b after after'

-- a value that only one fits
module _ {X Z W : Type 0} (Q : Z → W → Type 0) where
  pub where_one : (Fits : X → Type 0) (Next : X → Outcome Z → Type 0) (Next' : X → Outcome W → Type 0)
      → ((x y : X) → Fits x → Fits y → x ≡ y) → ((x : X) → Agree Q (Next x) (Next' x)) → Agree Q (Where Fits Next) (Where Fits Next')
  where_one Fits Next Next' fits nexts = where_agree {X = X} {Y = X} {Z = Z} {W = W} (λ x y. x ≡ y) Q Fits Fits Next Next' fits (λ x y same. subst (λ (z : X). Agree Q (Next x) (Next' z)) same (nexts x))

  pub then_one : (First : Outcome X → Type 0) (Next : X → Outcome Z → Type 0) (Next' : X → Outcome W → Type 0)
      → One First → ((x : X) → Agree Q (Next x) (Next' x)) → Agree Q (Then First Next) (Then First Next')
  then_one First Next Next' one nexts = then_agree {X = X} {Y = X} {Z = Z} {W = W} (λ x y. x ≡ y) Q First First Next Next' one (λ x y same. subst (λ (z : X). Agree Q (Next x) (Next' z)) same (nexts x))

module _ {X S T : Type 0} (Q : S → T → Type 0) where
  pub each_agree : (One_ : X → S → Outcome S → Type 0) (One' : X → T → Outcome T → Type 0) → ((x : X) (s : S) (t : T) → Q s t → Agree Q (One_ x s) (One' x t))
      → (xs : List X) (s : S) (t : T) → Q s t → Agree Q (Each One_ xs s) (Each One' xs t)
  each_agree One_ One' each [] s t related = give_agree Q s t related
  each_agree One_ One' each (x ∷ xs) s t related =
      then_agree {X = S} {Y = T} {Z = S} {W = T} Q Q (One_ x s) (One' x t) (Each One_ xs) (Each One' xs) (each x s t related) (each_agree One_ One' each xs)
