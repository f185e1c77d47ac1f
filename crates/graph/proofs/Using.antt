-- Who names paths once edges gained inputs.
use Rattle.std.proofs.Common.{◌≡◌, ◌⊎◌, inl, inr, ℕ, zero, suc, ◌+◌, ◌-◌, ◌<◌, ◌≤◌, ◌==◌, Bool, true, false, cond, List, [], ◌∷◌, ◌++◌, Option, Some, None, length, get_or, refl, sym, ◌∙◌, ap, subst, arith, length-append}
use Rattle.std.specs.Prelude.{All, replicate}
use Rattle.std.proofs.lemmas.Bool.{cases_Bool, cases_lt, eqb-true, false≢true, false_from_ne_true}
use Rattle.std.proofs.lemmas.List.{get_or_past, get_or_append_left, get_or-append_right, length-replicate}
use Rattle.model.specs.Graph.{has_number, Addition}
use Rattle.theory.proofs.Lists.{has_number-cases}
use Rattle.paths.specs.declared.line.Line.{Line}
use Rattle.paths.specs.declared.manifest.Manifest.{Manifest}
use Rattle.paths.specs.Lists.{no_line, line_at, line_inputs, grown_line}
use Rattle.graph.specs.declared.choice.Choice.{Choice}
use Rattle.graph.specs.declared.loaded.Gain.{Gain}
use Rattle.graph.specs.Chosen.{chosen_edges, choice_in, AreRising, IsWithin}
use Rattle.graph.specs.Held.{list_at, more_lists, times, AreRecorded, AreUsers}
use Rattle.graph.specs.InTurn.{users_with, users_given, AreInputsBelow}
use Rattle.graph.specs.Statements.{gain_at, gain_of, HasMore, AreGainsIn, AreGrownLines}
use Rattle.graph.proofs.Chosen.{no_choice, rising_tail, rising_absent, choice_here, choice_past, choice_absent, there_has, edge_there, edges_length}
use Rattle.graph.proofs.Gaining.{more_length}
use Rattle.graph.proofs.Lists.{times-append, times_none, times_pushed, length-pushed}
use Rattle.graph.proofs.Makes.{input_below}
use Rattle.graph.proofs.Texts.{within_of}

-- ---- empty lists behind the others

pub length-more : (lists : List (List ℕ)) (count : ℕ) → length lists ≤ count → length (more_lists lists count) ≡ count
length-more lists count fits =
    let sum = length-append lists (replicate (count - length lists) []) in
    let rest = length-replicate {A = List ℕ} (count - length lists) [] in
    omega (arith, sum, rest, fits)

pub front_list : (lists : List (List ℕ)) (count p : ℕ) → p < length lists → list_at (more_lists lists count) p ≡ list_at lists p
front_list lists count p low = get_or_append_left lists (replicate (count - length lists) []) [] p low

-- an empty list, whichever is asked for
empty_at : (n k : ℕ) → list_at (replicate n []) k ≡ []
empty_at zero k = get_or_past [] k [] (omega arith)
empty_at (suc n) zero = refl
empty_at (suc n) (suc k) = empty_at n k

pub back_list : (lists : List (List ℕ)) (count p : ℕ) → length lists ≤ p → list_at (more_lists lists count) p ≡ []
back_list lists count p past = get_or-append_right lists (replicate (count - length lists) []) (length lists) p [] refl past ∙ empty_at (count - length lists) (p - length lists)

-- ---- edges that gained inputs

pub length-used_with : (gains : List Gain) (users : List (List ℕ)) (e : ℕ) (o : Option ℕ) → length (users_with gains users e o) ≡ length users
length-used_with gains users e None = refl
length-used_with gains users e (Some k) = length-pushed users (gain_at gains k).inputs e

pub length-used : (gains : List Gain) (users : List (List ℕ)) (cs : List Choice) → length (users_given gains users cs) ≡ length users
length-used gains users [] = refl
length-used gains users (c ∷ cs) = length-used gains (users_with gains users c.edge c.statement) cs ∙ length-used_with gains users c.edge c.statement

pub used_push : (gains : List Gain) (users : List (List ℕ)) (cs : List Choice) (x : Choice) → users_given gains users (cs ++ x ∷ []) ≡ users_with gains (users_given gains users cs) x.edge x.statement
used_push gains users [] x = refl
used_push gains users (c ∷ cs) x = used_push gains (users_with gains users c.edge c.statement) cs x

none_more : (b : Bool) → ◌≡◌ {A = ℕ} (cond b 0 0) 0
none_more true = refl
none_more false = refl

times_with : (gains : List Gain) (users : List (List ℕ)) (n : ℕ) (o : Option ℕ) → AreInputsBelow (length users) gains → (p e : ℕ) → times (list_at (users_with gains users n o) p) e ≡ times (list_at users p) e + cond (n == e) (times (gain_of gains o).inputs p) 0
times_with gains users n None below p e = let none : cond (n == e) (times (gain_of gains None).inputs p) 0 ≡ 0 = none_more (n == e) in omega (arith, none)
times_with gains users n (Some k) below p e = times_pushed users (gain_at gains k).inputs p n e (within_of (length users) (gain_at gains k).inputs (below k))

times_given : (gains : List Gain) (users : List (List ℕ)) (cs : List Choice) → AreInputsBelow (length users) gains → AreRising (chosen_edges cs) → (p e : ℕ) → times (list_at (users_given gains users cs) p) e ≡ times (list_at users p) e + times (gain_of gains (choice_in cs e)).inputs p
times_given gains users [] below rising p e = let none : times (gain_of gains (choice_in [] e)).inputs p ≡ 0 = refl in omega (arith, none)
times_given gains users (c ∷ cs) below rising p e =
    let first : times (list_at (users_with gains users c.edge c.statement) p) e ≡ times (list_at users p) e + cond (c.edge == e) (times (gain_of gains c.statement).inputs p) 0 = times_with gains users c.edge c.statement below p e in
    let later : times (list_at (users_given gains (users_with gains users c.edge c.statement) cs) p) e ≡ times (list_at (users_with gains users c.edge c.statement) p) e + times (gain_of gains (choice_in cs e)).inputs p =
    times_given gains (users_with gains users c.edge c.statement) cs (subst (λ (n : ℕ). AreInputsBelow n gains) (sym (length-used_with gains users c.edge c.statement)) below) (rising_tail c.edge (chosen_edges cs) rising) p e in
    elim (cases_Bool (c.edge == e)) [
      | inl here ↦
          let absent = subst (λ (n : ℕ). has_number (chosen_edges cs) n ≡ false) (eqb-true c.edge e here) (rising_absent c.edge (chosen_edges cs) rising) in
          let none : times (gain_of gains (choice_in cs e)).inputs p ≡ 0 = ap (λ (o : Option ℕ). times (gain_of gains o).inputs p) (choice_absent cs e absent) in
          let mine : cond (c.edge == e) (times (gain_of gains c.statement).inputs p) 0 ≡ times (gain_of gains c.statement).inputs p = ap (λ (b : Bool). cond b (times (gain_of gains c.statement).inputs p) 0) here in
          let chosen : times (gain_of gains (choice_in (c ∷ cs) e)).inputs p ≡ times (gain_of gains c.statement).inputs p = ap (λ (o : Option ℕ). times (gain_of gains o).inputs p) (choice_here c cs e here) in
          omega (arith, none, mine, chosen, first, later)
      | inr past ↦
          let mine : cond (c.edge == e) (times (gain_of gains c.statement).inputs p) 0 ≡ 0 = ap (λ (b : Bool). cond b (times (gain_of gains c.statement).inputs p) 0) past in
          let chosen : times (gain_of gains (choice_in (c ∷ cs) e)).inputs p ≡ times (gain_of gains (choice_in cs e)).inputs p = ap (λ (o : Option ℕ). times (gain_of gains o).inputs p) (choice_past c cs e past) in
          omega (arith, mine, chosen, first, later)
    ]

-- ---- the inputs of a line that grew

times_grown : (line : Line) (outs ins : List ℕ) (p : ℕ) → times (line_inputs (grown_line line outs ins)) p ≡ times (line_inputs line) p + times ins p
times_grown line outs ins p =
    let whole : times (line_inputs (grown_line line outs ins)) p ≡ times (line.explicit_inputs ++ (line.implicit_inputs ++ ins)) p + times line.order_only_inputs p = times-append (line.explicit_inputs ++ (line.implicit_inputs ++ ins)) line.order_only_inputs p in
    let b = times-append line.explicit_inputs (line.implicit_inputs ++ ins) p in
    let c = times-append line.implicit_inputs ins p in
    let before : times (line_inputs line) p ≡ times (line.explicit_inputs ++ line.implicit_inputs) p + times line.order_only_inputs p = times-append (line.explicit_inputs ++ line.implicit_inputs) line.order_only_inputs p in
    let e = times-append line.explicit_inputs line.implicit_inputs p in
    omega (arith, whole, b, c, before, e)

-- ---- all paths

pub inputs_below : (paths : List (List ℕ)) (additions : List Addition) (gains : List Gain) → AreGainsIn paths additions gains → AreInputsBelow (length paths) gains
inputs_below paths additions gains gained k p h = elim (cases_lt k (length gains)) [
  | inl low ↦ (gained.each k (let fits = gained.fits in omega (arith, low, fits))).inputs.within p h
  | inr past ↦ absurd (false≢true (sym (ap (λ (g : Gain). has_number g.inputs p) (get_or_past gains k (record { outputs = []; inputs = [] }) past)) ∙ h))
]

module _ (old : Manifest) (paths : List (List ℕ)) (lines : List Line) (recorded users : List (List ℕ)) (noted : AreRecorded old recorded) (using : AreUsers old recorded users) (more : HasMore old.paths paths)
    (gains : List Gain) (below : AreInputsBelow (length paths) gains) (cs : List Choice) (rising : AreRising (chosen_edges cs)) (count : ℕ) (within : All (IsWithin (length old.lines) count) cs) (grown : AreGrownLines old.lines (choice_in cs) gains lines) where
  longer : length users ≤ length paths
  longer = let long = more_length old.paths paths more in let fits = using.fits in omega (arith, long, fits)

  -- nobody names a path that is new
  none_before : (p e : ℕ) → length old.paths ≤ p → times (line_inputs (line_at old.lines e) ++ list_at recorded e) p ≡ 0
  none_before p e past = times_none (line_inputs (line_at old.lines e) ++ list_at recorded e) p (false_from_ne_true (has_number (line_inputs (line_at old.lines e) ++ list_at recorded e) p) (λ has. by (has_number-cases (line_inputs (line_at old.lines e)) (list_at recorded e) p has)))
    where
      by : (has_number (line_inputs (line_at old.lines e)) p ≡ true) ⊎ (has_number (list_at recorded e) p ≡ true) → ⊥
      by (inl input) = let low = input_below old e p input in omega (arith, low, past)
      by (inr one) = let low = noted.within e p one in omega (arith, low, past)

  counted_before : (p e : ℕ) → p < length paths → times (list_at (more_lists users (length paths)) p) e ≡ times (line_inputs (line_at old.lines e) ++ list_at recorded e) p
  counted_before p e low = elim (cases_lt p (length old.paths)) [
    | inl known ↦ ap (λ (l : List ℕ). times l e) (front_list users (length paths) p (let fits = using.fits in omega (arith, known, fits))) ∙ using.counted p e known
    | inr new ↦ ap (λ (l : List ℕ). times l e) (back_list users (length paths) p (let fits = using.fits in omega (arith, new, fits))) ∙ sym (none_before p e new)
  ]

  -- what an edge that is none gains
  none_chosen : (e : ℕ) → length old.lines ≤ e → choice_in cs e ≡ None
  none_chosen e past = choice_absent cs e (false_from_ne_true (has_number (chosen_edges cs) e) (λ has.
      let at = there_has (chosen_edges cs) e has in
      let long = edges_length cs in
      let bound = at.1 in
      let low : at.0 < length cs = omega (arith, bound, long) in
      let edge = (within at.0 no_choice low).edge in
      let here = edge_there cs at.0 no_choice low in
      let same = at.2 in
      omega (arith, edge, here, same, past)))

  inputs_now : (p e : ℕ) → times (line_inputs (line_at lines e)) p ≡ times (line_inputs (line_at old.lines e)) p + times (gain_of gains (choice_in cs e)).inputs p
  inputs_now p e = elim (cases_lt e (length old.lines)) [
    | inl low ↦ ap (λ (l : Line). times (line_inputs l) p) (grown.each e low) ∙ times_grown (line_at old.lines e) (gain_of gains (choice_in cs e)).outputs (gain_of gains (choice_in cs e)).inputs p
    | inr past ↦
        let one : times (line_inputs (line_at lines e)) p ≡ 0 = ap (λ (l : Line). times (line_inputs l) p) (get_or_past lines e no_line (let fits = grown.fits in omega (arith, past, fits))) in
        let two : times (line_inputs (line_at old.lines e)) p ≡ 0 = ap (λ (l : Line). times (line_inputs l) p) (get_or_past old.lines e no_line past) in
        let three : times (gain_of gains (choice_in cs e)).inputs p ≡ 0 = ap (λ (o : Option ℕ). times (gain_of gains o).inputs p) (none_chosen e past) in
        omega (arith, one, two, three)
  ]

  abbrev pub users_now : List (List ℕ)
  users_now = users_given gains (more_lists users (length paths)) cs

  pub users_fit : length users_now ≡ length paths
  users_fit = length-used gains (more_lists users (length paths)) cs ∙ length-more users (length paths) longer

  pub users_counted : (p e : ℕ) → p < length paths → times (list_at users_now p) e ≡ times (line_inputs (line_at lines e) ++ list_at recorded e) p
  users_counted p e low =
      let given = times_given gains (more_lists users (length paths)) cs (subst (λ (n : ℕ). AreInputsBelow n gains) (sym (length-more users (length paths) longer)) below) rising p e in
      let before = counted_before p e low in
      let sum = times-append (line_inputs (line_at old.lines e)) (list_at recorded e) p in
      let other = times-append (line_inputs (line_at lines e)) (list_at recorded e) p in
      let grew = inputs_now p e in
      omega (arith, given, before, sum, other, grew)
