-- A phony edge of which what was seen says whether it is due.
use Rattle.std.proofs.Common.{◌≡◌, inl, inr, ℕ, ◌==◌, Bool, true, false, List, [], ◌∷◌, Option, Some, None, length, refl, sym, ◌∙◌, ap, subst}
use Rattle.std.specs.List.{AllByRecursion, list_any}
use Rattle.std.specs.Option.{is_none}
use Rattle.std.proofs.lemmas.Bool.{false≢true, cases_Bool, or_cases, eqb-true}
use Rattle.model.specs.declared.event.Moment.{Moment}
use Rattle.model.specs.World.{File, file_at, stamp_of}
use Rattle.model.specs.Graph.{has_number}
use Rattle.paths.specs.Told.{text_at}
use Rattle.graph.specs.declared.graph.Graph.{Graph}
use Rattle.graph.specs.Links.{links_of}
use Rattle.judge.specs.declared.looks.Look.{Look}
use Rattle.judge.specs.Seen.{look_of, AreSeenOf}
use Rattle.judge.specs.Facts.{seen_stamp, AreIn}
use Rattle.judge.specs.Quiet.{AreSameOf}
use Rattle.judge.specs.Dues.{due_by, is_absent, is_due_path, is_due_alias, IsSourceIn, AreSourcesIn}
use Rattle.judge.specs.Ruled.{is_absent_seen, is_due_seen, WasAsked, WasSourceAsked, IsAnyAsked, IsAliasRuled}
use Rattle.judge.proofs.AliasDues.{alias_by_outputs, alias_by_inputs}
use Rattle.judge.proofs.NumbersAsTexts.{any_number, number_any}

-- ---- lists

each_of : (P : ℕ → Type 0) (xs : List ℕ) → AllByRecursion P xs → (n : ℕ) → has_number xs n ≡ true → P n
each_of P [] all n h = absurd (false≢true h)
each_of P (x ∷ xs) all n h = elim (or_cases (x == n) (has_number xs n) h) [
  | inl here ↦ subst P (eqb-true x n here) all.0
  | inr there ↦ each_of P xs all.1 n there
]

-- where the test of what was asked for is that of later, so is the answer
any_same : (Asked : ℕ → Type 0) (test later : ℕ → Bool) (paths : List ℕ) → ((p : ℕ) → has_number paths p ≡ true → Asked p → test p ≡ later p) → (is : Bool) → IsAnyAsked Asked test paths is → is ≡ list_any later paths
any_same Asked test later paths same true ruled = let at = ruled.one refl in sym (number_any later paths at.0 at.1 (sym (same at.0 at.1 at.2) ∙ at.3))
any_same Asked test later paths same false ruled = elim (cases_Bool (list_any later paths)) [
  | inl any ↦
      let at = any_number later paths any in
      let one = ruled.none refl at.0 at.1 in
      absurd (false≢true (sym one.1 ∙ (same at.0 at.1 one.0 ∙ at.2)))
  | inr other ↦ sym other
]

-- ---- by the files that were seen

absent_of : (file : Option File) → is_none (seen_stamp (look_of (stamp_of file))) ≡ is_none file
absent_of None = refl
absent_of (Some file) = refl

module _ (graph : Graph) (set : List ℕ → Bool) (now files : List Moment) (seen : List Look) (are : AreSeenOf set graph.manifest.paths now seen) (alike : AreSameOf set now files) (due : List Bool) where
  pub absent_same : (p : ℕ) → set (text_at graph.manifest.paths p) ≡ true → WasAsked seen p → is_absent_seen seen p ≡ is_absent graph.manifest.paths files p
  absent_same p inside asked =
      ap (λ (look : Look). is_none (seen_stamp look)) (are p asked inside)
      ∙ (absent_of (file_at now (text_at graph.manifest.paths p)) ∙ ap (λ (file : Option File). is_none file) (sym (alike (text_at graph.manifest.paths p) inside)))

  due_same : (p : ℕ) → IsSourceIn set graph p → WasSourceAsked (links_of graph) seen p → is_due_seen (links_of graph) seen due p ≡ is_due_path graph.manifest.paths (links_of graph) files due p
  due_same p source asked = by_maker ((links_of graph).maker p) refl
    where
      by_maker : (o : Option ℕ) → (links_of graph).maker p ≡ o → due_by due (is_absent_seen seen p) o ≡ due_by due (is_absent graph.manifest.paths files p) o
      by_maker None is = absent_same p (source is) (asked is)
      by_maker (Some e) is = refl

  pub alias_ruled : (e : ℕ) (is : Bool) → IsAliasRuled (links_of graph) seen due e is → AreIn set graph.manifest.paths ((links_of graph).outputs e) → AreSourcesIn set graph ((links_of graph).regular e)
      → is ≡ is_due_alias graph.manifest.paths (links_of graph) files due e
  alias_ruled e is ruled made sources = elim (cases_Bool (length ((links_of graph).inputs e) == 0)) [
    | inl empty ↦
        any_same (WasAsked seen) (is_absent_seen seen) (is_absent graph.manifest.paths files) ((links_of graph).outputs e)
        (λ p listed asked. absent_same p (each_of (λ n. set (text_at graph.manifest.paths n) ≡ true) ((links_of graph).outputs e) made p listed) asked) is (ruled.of_nothing empty)
        ∙ alias_by_outputs graph.manifest.paths (links_of graph) files due e empty
    | inr some ↦
        any_same (WasSourceAsked (links_of graph) seen) (is_due_seen (links_of graph) seen due) (is_due_path graph.manifest.paths (links_of graph) files due) ((links_of graph).regular e)
        (λ p listed asked. due_same p (each_of (IsSourceIn set graph) ((links_of graph).regular e) sources p listed) asked) is (ruled.of_inputs some)
        ∙ alias_by_inputs graph.manifest.paths (links_of graph) files due e some
  ]
