-- Makers once edges gained outputs.
use Rattle.std.proofs.Common.{◌≡◌, ◌⊎◌, inl, inr, ℕ, zero, suc, ◌-◌, ◌<◌, ◌≤◌, Bool, true, false, cond, List, [], ◌∷◌, ◌++◌, Option, Some, None, length, get_or, refl, sym, ◌∙◌, ap, subst, arith, append_assoc}
use Rattle.std.specs.Prelude.{replicate}
use Rattle.std.proofs.Math.ListN.{set}
use Rattle.std.proofs.lemmas.Bool.{cases_Bool, cases_eq, cases_lt, false≢true, false_from_ne_true}
use Rattle.std.proofs.lemmas.List.{get_or_past, get_or_append_left, get_or-append_right, get_or-set_same, get_or-set_other}
use Rattle.model.specs.Graph.{has_number, Addition}
use Rattle.theory.proofs.Lists.{has_number-left, has_number-right, has_number-cases}
use Rattle.paths.specs.declared.line.Line.{Line}
use Rattle.paths.specs.declared.manifest.Manifest.{Manifest}
use Rattle.paths.specs.Lists.{no_line, line_at, line_outputs, grown_line}
use Rattle.graph.specs.declared.loaded.Gain.{Gain}
use Rattle.graph.specs.Held.{maker_in, StandOnce, AreMakers}
use Rattle.graph.specs.InTurn.{lines_with, ClaimsWith, AreMakersIn, AreOutputsBelow}
use Rattle.graph.specs.Making.{HaveClaimed}
use Rattle.graph.specs.Statements.{gain_at, AreGainsIn}
use Rattle.graph.proofs.Lists.{once_append}

some_same : (a b : ℕ) → Some a ≡ Some b → a ≡ b
some_same a b is = cc

none_some : (a : ℕ) → None ≡ Some a → ⊥
none_some a is = cc

-- ---- makers of more paths

none_at : (n k : ℕ) → maker_in (replicate n None) k ≡ None
none_at zero k = get_or_past [] k None (omega arith)
none_at (suc n) zero = refl
none_at (suc n) (suc k) = none_at n k

pub longer_same : (makers : List (Option ℕ)) (n p : ℕ) → maker_in (makers ++ replicate n None) p ≡ maker_in makers p
longer_same makers n p = elim (cases_lt p (length makers)) [
  | inl low ↦ get_or_append_left makers (replicate n None) None p low
  | inr past ↦ get_or-append_right makers (replicate n None) (length makers) p None refl past ∙ (none_at n (p - length makers) ∙ sym (get_or_past makers p None past))
]

pub makers_same : (lines : List Line) (old new : List (Option ℕ)) → ((p : ℕ) → maker_in new p ≡ maker_in old p) → AreMakersIn lines old → AreMakersIn lines new
makers_same lines old new same are = record {
  made = λ p e is. are.made p e (sym (same p) ∙ is);
  all = λ p e has. same p ∙ are.all p e has;
  once = are.once;
}

-- ---- one edge that gains outputs

module _ (lines : List Line) (n : ℕ) (within : n < length lines) (outs ins : List ℕ) (old new : List (Option ℕ)) (are : AreMakersIn lines old) (claimed : HaveClaimed old new outs n) where
  abbrev grown : List Line
  grown = set lines n (grown_line (line_at lines n) outs ins)

  here : line_outputs (line_at grown n) ≡ line_outputs (line_at lines n) ++ outs
  here = ap line_outputs (get_or-set_same lines n (grown_line (line_at lines n) outs ins) no_line within) ∙ sym (append_assoc (line_at lines n).explicit_outputs (line_at lines n).implicit_outputs outs)

  there : (e : ℕ) → (e ≡ n → ⊥) → line_outputs (line_at grown e) ≡ line_outputs (line_at lines e)
  there e other = ap line_outputs (get_or-set_other lines n e (grown_line (line_at lines n) outs ins) no_line other)

  -- what the edge made, and what it gained
  makes : (e p : ℕ) → has_number (line_outputs (line_at grown e)) p ≡ true → (has_number (line_outputs (line_at lines e)) p ≡ true) ⊎ ((e ≡ n) × (has_number outs p ≡ true))
  makes e p has = elim (cases_eq e n) [
    | inl same ↦ elim (has_number-cases (line_outputs (line_at lines n)) outs p (subst (λ (l : List ℕ). has_number l p ≡ true) here (subst (λ (m : ℕ). has_number (line_outputs (line_at grown m)) p ≡ true) same has))) [
      | inl was ↦ inl (subst (λ (m : ℕ). has_number (line_outputs (line_at lines m)) p ≡ true) (sym same) was)
      | inr gained ↦ inr (same, gained)
    ]
    | inr other ↦ inl (subst (λ (l : List ℕ). has_number l p ≡ true) (there e other) has)
  ]

  made_still : (e p : ℕ) → has_number (line_outputs (line_at lines e)) p ≡ true → has_number (line_outputs (line_at grown e)) p ≡ true
  made_still e p has = elim (cases_eq e n) [
    | inl same ↦ subst (λ (m : ℕ). has_number (line_outputs (line_at grown m)) p ≡ true) (sym same)
        (subst (λ (l : List ℕ). has_number l p ≡ true) (sym here) (has_number-left (line_outputs (line_at lines n)) outs p (subst (λ (m : ℕ). has_number (line_outputs (line_at lines m)) p ≡ true) same has)))
    | inr other ↦ subst (λ (l : List ℕ). has_number l p ≡ true) (sym (there e other)) has
  ]

  made_now : (p : ℕ) → has_number outs p ≡ true → has_number (line_outputs (line_at grown n)) p ≡ true
  made_now p has = subst (λ (l : List ℕ). has_number l p ≡ true) (sym here) (has_number-right (line_outputs (line_at lines n)) outs p has)

  apart : (e p : ℕ) → has_number (line_outputs (line_at lines e)) p ≡ true → has_number outs p ≡ false
  apart e p has = false_from_ne_true (has_number outs p) (λ gained. none_some e (sym (claimed.fresh p gained) ∙ are.all p e has))

  pub makers_grown : AreMakersIn grown new
  makers_grown = record {
    made = λ p e is. elim (cases_Bool (has_number outs p)) [
      | inl gained ↦
          let same : n ≡ e = some_same n e (sym (claimed.is p ∙ ap (λ (b : Bool). cond b (Some n) (maker_in old p)) gained) ∙ is) in
          subst (λ (m : ℕ). has_number (line_outputs (line_at grown m)) p ≡ true) same (made_now p gained)
      | inr other ↦ made_still e p (are.made p e (sym (claimed.is p ∙ ap (λ (b : Bool). cond b (Some n) (maker_in old p)) other) ∙ is))
    ];
    all = λ p e has. elim (makes e p has) [
      | inl was ↦ claimed.is p ∙ (ap (λ (b : Bool). cond b (Some n) (maker_in old p)) (apart e p was) ∙ are.all p e was)
      | inr gained ↦ claimed.is p ∙ (ap (λ (b : Bool). cond b (Some n) (maker_in old p)) gained.1 ∙ ap (λ (m : ℕ). Some m) (sym gained.0))
    ];
    once = λ e. elim (cases_eq e n) [
      | inl same ↦ subst (λ (m : ℕ). StandOnce (line_outputs (line_at grown m))) (sym same) (subst StandOnce (sym here) (once_append (line_outputs (line_at lines n)) outs (are.once n) claimed.once (λ p has. apart n p has)))
      | inr other ↦ subst StandOnce (sym (there e other)) (are.once e)
    ];
  }

pub makers_with : (gains : List Gain) (lines : List Line) (old new : List (Option ℕ)) (n : ℕ) (o : Option ℕ) → n < length lines → AreMakersIn lines old → ClaimsWith gains old new n o → AreMakersIn (lines_with gains lines n o) new
makers_with gains lines old new n None within are same = subst (AreMakersIn lines) (sym same) are
makers_with gains lines old new n (Some k) within are claimed = makers_grown lines n within (gain_at gains k).outputs (gain_at gains k).inputs old new are claimed

pub outputs_below : (paths : List (List ℕ)) (additions : List Addition) (gains : List Gain) → AreGainsIn paths additions gains → AreOutputsBelow (length paths) gains
outputs_below paths additions gains gained k p h = elim (cases_lt k (length gains)) [
  | inl low ↦ (gained.each k (let fits = gained.fits in omega (arith, low, fits))).outputs.within p h
  | inr past ↦ absurd (false≢true (sym (ap (λ (g : Gain). has_number g.outputs p) (get_or_past gains k (record { outputs = []; inputs = [] }) past)) ∙ h))
]

pub makers_are : (manifest : Manifest) (makers : List (Option ℕ)) → length makers ≤ length manifest.paths → AreMakersIn manifest.lines makers → AreMakers manifest makers
makers_are manifest makers fits are = record { fits = fits; made = are.made; all = are.all; once = are.once }

pub are_makers : (manifest : Manifest) (makers : List (Option ℕ)) → AreMakers manifest makers → AreMakersIn manifest.lines makers
are_makers manifest makers are = record { made = are.made; all = are.all; once = are.once }
