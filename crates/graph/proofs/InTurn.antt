-- What edges become one after the other is what each of them becomes.
use Rattle.std.proofs.Common.{◌≡◌, inl, inr, ℕ, zero, suc, ◌+◌, ◌-◌, ◌<◌, ◌≤◌, ◌==◌, true, false, List, [], ◌∷◌, ◌++◌, Option, Some, None, length, drop, take, get_or, refl, sym, ◌∙◌, ap, subst, arith, length-append}
use Rattle.std.specs.Prelude.{All}
use Rattle.std.proofs.Math.ListN.{set}
use Rattle.std.proofs.Math.Seq.{take-append_seam, drop-cons}
use Rattle.std.proofs.lemmas.Bool.{cases_Bool, eqb-true, eq-eqb, false≢true}
use Rattle.std.proofs.lemmas.List.{drop_all, ext_get_or, get_or-set_same, get_or-set_other, get_or-take, length-set, length-take, take_all}
use Rattle.model.specs.Graph.{has_number, Addition}
use Rattle.paths.specs.declared.line.Line.{Line}
use Rattle.paths.specs.declared.manifest.Action.{Action}
use Rattle.paths.specs.Lists.{no_line, line_at, grown_line}
use Rattle.paths.specs.Shrunk.{shrunk_line}
use Rattle.paths.specs.Commands.{no_action}
use Rattle.graph.specs.declared.choice.Choice.{Choice}
use Rattle.graph.specs.declared.loaded.Gain.{Gain}
use Rattle.graph.specs.Chosen.{chosen_edges, choice_in, AreRising, IsWithin}
use Rattle.graph.specs.InTurn.{lines_with, lines_given, lines_without, lines_taken, AreGivenTo, actions_given}
use Rattle.graph.specs.Statements.{gain_at, line_with, action_at, action_with, AreGrownLines, AreLoadedActions}
use Rattle.graph.proofs.Chosen.{no_choice, rising_tail, rising_absent, choice_here, choice_past, choice_absent}
use Rattle.graph.proofs.Extending.{same_line}

-- ---- a list from a place on

pub drop_next : (cs : List Choice) (k : ℕ) (x : Choice) → k < length cs → x ≡ get_or cs k x → drop k cs ≡ x ∷ drop (k + 1) cs
drop_next cs k x low is =
    let next : suc k ≡ k + 1 = omega arith in
    drop-cons cs k x low ∙ (ap (λ (y : Choice). y ∷ drop (suc k) cs) (sym is) ∙ ap (λ (n : ℕ). x ∷ drop n cs) next)

pub drop_past : (cs : List Choice) (k : ℕ) → length cs ≤ k → drop k cs ≡ []
drop_past cs k past = drop_all k cs past

-- ---- lines

pub length-with : (gains : List Gain) (lines : List Line) (e : ℕ) (o : Option ℕ) → length (lines_with gains lines e o) ≡ length lines
length-with gains lines e None = refl
length-with gains lines e (Some k) = length-set lines e (grown_line (line_at lines e) (gain_at gains k).outputs (gain_at gains k).inputs)

pub length-given : (gains : List Gain) (lines : List Line) (cs : List Choice) → length (lines_given gains lines cs) ≡ length lines
length-given gains lines [] = refl
length-given gains lines (c ∷ cs) = length-given gains (lines_with gains lines c.edge c.statement) cs ∙ length-with gains lines c.edge c.statement

line_here : (gains : List Gain) (lines : List Line) (e : ℕ) (o : Option ℕ) → e < length lines → line_at (lines_with gains lines e o) e ≡ line_with gains (line_at lines e) o
line_here gains lines e None low = sym (same_line (line_at lines e))
line_here gains lines e (Some k) low = get_or-set_same lines e (grown_line (line_at lines e) (gain_at gains k).outputs (gain_at gains k).inputs) no_line low

line_there : (gains : List Gain) (lines : List Line) (n e : ℕ) (o : Option ℕ) → (e ≡ n → ⊥) → line_at (lines_with gains lines n o) e ≡ line_at lines e
line_there gains lines n e None other = refl
line_there gains lines n e (Some k) other = get_or-set_other lines n e (grown_line (line_at lines n) (gain_at gains k).outputs (gain_at gains k).inputs) no_line other

line_each : (gains : List Gain) (lines : List Line) (cs : List Choice) (e : ℕ) → AreRising (chosen_edges cs) → e < length lines → line_at (lines_given gains lines cs) e ≡ line_with gains (line_at lines e) (choice_in cs e)
line_each gains lines [] e rising low = sym (same_line (line_at lines e))
line_each gains lines (c ∷ cs) e rising low =
    line_each gains (lines_with gains lines c.edge c.statement) cs e (rising_tail c.edge (chosen_edges cs) rising) (let long = length-with gains lines c.edge c.statement in omega (arith, low, long))
    ∙ elim (cases_Bool (c.edge == e)) [
      | inl here ↦
          let same : c.edge ≡ e = eqb-true c.edge e here in
          ap (line_with gains (line_at (lines_with gains lines c.edge c.statement) e)) (choice_absent cs e (subst (λ (n : ℕ). has_number (chosen_edges cs) n ≡ false) same (rising_absent c.edge (chosen_edges cs) rising)))
          ∙ (same_line (line_at (lines_with gains lines c.edge c.statement) e)
          ∙ (subst (λ (n : ℕ). line_at (lines_with gains lines n c.statement) e ≡ line_with gains (line_at lines e) c.statement) (sym same) (line_here gains lines e c.statement low)
          ∙ ap (line_with gains (line_at lines e)) (sym (choice_here c cs e here))))
      | inr past ↦
          ap (λ (l : Line). line_with gains l (choice_in cs e)) (line_there gains lines c.edge e c.statement (λ same. false≢true (sym past ∙ eq-eqb c.edge e (sym same))))
          ∙ ap (line_with gains (line_at lines e)) (sym (choice_past c cs e past))
    ]

pub lines_are : (gains : List Gain) (lines grown : List Line) (cs : List Choice) → AreRising (chosen_edges cs) → grown ≡ lines_given gains lines cs → AreGrownLines lines (choice_in cs) gains grown
lines_are gains lines grown cs rising is = subst (AreGrownLines lines (choice_in cs) gains) (sym is) record { fits = length-given gains lines cs; each = λ e low. line_each gains lines cs e rising low }

-- ---- the first so many

pub take_push : (cs : List Choice) (k : ℕ) (x : Choice) → k < length cs → x ≡ get_or cs k x → take (k + 1) cs ≡ take k cs ++ x ∷ []
take_push cs k x low is = ap (λ (n : ℕ). take n cs) next ∙ by cs k low is
  where
    next : k + 1 ≡ suc k
    next = omega arith

    by : (l : List Choice) (j : ℕ) → j < length l → x ≡ get_or l j x → take (suc j) l ≡ take j l ++ x ∷ []
    by [] j lt read = absurd (omega (arith, lt))
    by (c ∷ l) zero lt read = ap (λ (y : Choice). y ∷ []) (sym read)
    by (c ∷ l) (suc j) lt read = ap (λ (rest : List Choice). c ∷ rest) (by l j (omega (arith, lt)) read)

pub all_chosen : (cs : List Choice) (k : ℕ) → length cs ≤ k → take k cs ≡ cs
all_chosen cs k past = take_all k cs past

pub given_push : (gains : List Gain) (lines : List Line) (cs : List Choice) (x : Choice) → lines_given gains lines (cs ++ x ∷ []) ≡ lines_with gains (lines_given gains lines cs) x.edge x.statement
given_push gains lines [] x = refl
given_push gains lines (c ∷ cs) x = given_push gains (lines_with gains lines c.edge c.statement) cs x

pub edges_take : (k : ℕ) (cs : List Choice) → chosen_edges (take k cs) ≡ take k (chosen_edges cs)
edges_take zero cs = refl
edges_take (suc k) [] = refl
edges_take (suc k) (c ∷ cs) = ap (λ (l : List ℕ). c.edge ∷ l) (edges_take k cs)

pub rising_take : (k : ℕ) (xs : List ℕ) → AreRising xs → AreRising (take k xs)
rising_take k xs rising i j less within =
    let size = length-take k xs in
    let low : j < k = omega (arith, within, size) in
    let fits : j < length xs = omega (arith, within, size) in
    let one = get_or-take k xs i 0 (omega (arith, less, low)) in
    let two = get_or-take k xs j 0 low in
    let rises = rising i j less fits in
    omega (arith, one, two, rises)

abbrev line_without : List Gain → Line → Option ℕ → Line
line_without gains line None = line
line_without gains line (Some k) = shrunk_line line (length (gain_at gains k).outputs) (length (gain_at gains k).inputs)

pub length-without : (gains : List Gain) (lines : List Line) (e : ℕ) (o : Option ℕ) → length (lines_without gains lines e o) ≡ length lines
length-without gains lines e None = refl
length-without gains lines e (Some k) = length-set lines e (shrunk_line (line_at lines e) (length (gain_at gains k).outputs) (length (gain_at gains k).inputs))

length-taken : (gains : List Gain) (lines : List Line) (cs : List Choice) → length (lines_taken gains lines cs) ≡ length lines
length-taken gains lines [] = refl
length-taken gains lines (c ∷ cs) = length-taken gains (lines_without gains lines c.edge c.statement) cs ∙ length-without gains lines c.edge c.statement

less_here : (gains : List Gain) (lines : List Line) (e : ℕ) (o : Option ℕ) → e < length lines → line_at (lines_without gains lines e o) e ≡ line_without gains (line_at lines e) o
less_here gains lines e None low = refl
less_here gains lines e (Some k) low = get_or-set_same lines e (shrunk_line (line_at lines e) (length (gain_at gains k).outputs) (length (gain_at gains k).inputs)) no_line low

less_there : (gains : List Gain) (lines : List Line) (n e : ℕ) (o : Option ℕ) → (e ≡ n → ⊥) → line_at (lines_without gains lines n o) e ≡ line_at lines e
less_there gains lines n e None other = refl
less_there gains lines n e (Some k) other = get_or-set_other lines n e (shrunk_line (line_at lines n) (length (gain_at gains k).outputs) (length (gain_at gains k).inputs)) no_line other

taken_each : (gains : List Gain) (lines : List Line) (cs : List Choice) (e : ℕ) → AreRising (chosen_edges cs) → e < length lines → line_at (lines_taken gains lines cs) e ≡ line_without gains (line_at lines e) (choice_in cs e)
taken_each gains lines [] e rising low = refl
taken_each gains lines (c ∷ cs) e rising low =
    taken_each gains (lines_without gains lines c.edge c.statement) cs e (rising_tail c.edge (chosen_edges cs) rising) (let long = length-without gains lines c.edge c.statement in omega (arith, low, long))
    ∙ elim (cases_Bool (c.edge == e)) [
      | inl here ↦
          let same : c.edge ≡ e = eqb-true c.edge e here in
          ap (line_without gains (line_at (lines_without gains lines c.edge c.statement) e)) (choice_absent cs e (subst (λ (n : ℕ). has_number (chosen_edges cs) n ≡ false) same (rising_absent c.edge (chosen_edges cs) rising)))
          ∙ (subst (λ (n : ℕ). line_at (lines_without gains lines n c.statement) e ≡ line_without gains (line_at lines e) c.statement) (sym same) (less_here gains lines e c.statement low)
          ∙ ap (line_without gains (line_at lines e)) (sym (choice_here c cs e here)))
      | inr past ↦
          ap (λ (l : Line). line_without gains l (choice_in cs e)) (less_there gains lines c.edge e c.statement (λ same. false≢true (sym past ∙ eq-eqb c.edge e (sym same))))
          ∙ ap (line_without gains (line_at lines e)) (sym (choice_past c cs e past))
    ]

cut_back : (xs ys : List ℕ) → take (length (xs ++ ys) - length ys) (xs ++ ys) ≡ xs
cut_back xs ys = let sum = length-append xs ys in ap (λ (n : ℕ). take n (xs ++ ys)) (omega (arith, sum)) ∙ take-append_seam xs ys

line_back : (gains : List Gain) (line : Line) (o : Option ℕ) → line_without gains (line_with gains line o) o ≡ line
line_back gains line None = same_line line
line_back gains line (Some k) =
    let outs = cut_back line.implicit_outputs (gain_at gains k).outputs in
    let ins = cut_back line.implicit_inputs (gain_at gains k).inputs in
    let made : List ℕ → List ℕ → Line =
    λ os is. record { explicit_outputs = line.explicit_outputs; implicit_outputs = os; explicit_inputs = line.explicit_inputs; implicit_inputs = is; order_only_inputs = line.order_only_inputs; validations = line.validations } in
    ap (λ (os : List ℕ). made os (take (length (line.implicit_inputs ++ (gain_at gains k).inputs) - length (gain_at gains k).inputs) (line.implicit_inputs ++ (gain_at gains k).inputs))) outs ∙ ap (λ (is : List ℕ). made line.implicit_outputs is) ins

-- what edges gained and lose again
pub taken_back : (gains : List Gain) (cs : List Choice) (before now : List Line) → AreGivenTo gains cs before now → lines_taken gains now cs ≡ before
taken_back gains cs before now given = ext_get_or no_line (lines_taken gains now cs) before sizes (λ e low.
    let fits : e < length before = let size = sizes in omega (arith, low, size) in
    let grown = ap (λ (l : List Line). line_at l e) given.are ∙ line_each gains before cs e given.rising fits in
    taken_each gains now cs e given.rising (let size = ap (λ (l : List Line). length l) given.are in let long = length-given gains before cs in omega (arith, fits, size, long))
    ∙ (ap (λ (l : Line). line_without gains l (choice_in cs e)) grown ∙ line_back gains (line_at before e) (choice_in cs e)))
  where
    sizes : length (lines_taken gains now cs) ≡ length before
    sizes = length-taken gains now cs ∙ (ap (λ (l : List Line). length l) given.are ∙ length-given gains before cs)

-- ---- actions

pub length-acting : (additions : List Addition) (actions : List Action) (cs : List Choice) → length (actions_given additions actions cs) ≡ length actions
length-acting additions actions [] = refl
length-acting additions actions (c ∷ cs) = length-acting additions (set actions c.edge (action_with additions (action_at actions c.edge) c.statement)) cs ∙ length-set actions c.edge (action_with additions (action_at actions c.edge) c.statement)

action_each : (additions : List Addition) (lines count : ℕ) (actions : List Action) (cs : List Choice) → length actions ≡ lines → All (IsWithin lines count) cs → AreRising (chosen_edges cs) → (e : ℕ) → action_at (actions_given additions actions cs) e ≡ action_with additions (action_at actions e) (choice_in cs e)
action_each additions lines count actions [] fits within rising e = refl
action_each additions lines count actions (c ∷ cs) fits within rising e =
    action_each additions lines count (set actions c.edge (action_with additions (action_at actions c.edge) c.statement)) cs (length-set actions c.edge (action_with additions (action_at actions c.edge) c.statement) ∙ fits)
    (λ k d low. within (suc k) d (omega (arith, low))) (rising_tail c.edge (chosen_edges cs) rising) e
    ∙ elim (cases_Bool (c.edge == e)) [
      | inl here ↦
          let same : c.edge ≡ e = eqb-true c.edge e here in
          let edge : c.edge < lines = (within 0 no_choice (omega arith)).edge in
          ap (action_with additions (action_at (set actions c.edge (action_with additions (action_at actions c.edge) c.statement)) e)) (choice_absent cs e (subst (λ (n : ℕ). has_number (chosen_edges cs) n ≡ false) same (rising_absent c.edge (chosen_edges cs) rising)))
          ∙ (subst (λ (n : ℕ). action_at (set actions n (action_with additions (action_at actions n) c.statement)) e ≡ action_with additions (action_at actions e) c.statement) (sym same)
          (get_or-set_same actions e (action_with additions (action_at actions e) c.statement) no_action (omega (arith, edge, fits, same)))
          ∙ ap (action_with additions (action_at actions e)) (sym (choice_here c cs e here)))
      | inr past ↦
          ap (λ (a : Action). action_with additions a (choice_in cs e)) (get_or-set_other actions c.edge e (action_with additions (action_at actions c.edge) c.statement) no_action (λ same. false≢true (sym past ∙ eq-eqb c.edge e (sym same))))
          ∙ ap (action_with additions (action_at actions e)) (sym (choice_past c cs e past))
    ]

pub actions_are : (additions : List Addition) (lines count : ℕ) (actions loaded : List Action) (cs : List Choice) → length actions ≡ lines → All (IsWithin lines count) cs → AreRising (chosen_edges cs) → loaded ≡ actions_given additions actions cs
    → AreLoadedActions actions (choice_in cs) additions loaded
actions_are additions lines count actions loaded cs fits within rising is = subst (AreLoadedActions actions (choice_in cs) additions) (sym is) record { fits = length-acting additions actions cs; each = action_each additions lines count actions cs fits within rising }
