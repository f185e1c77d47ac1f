-- What statements add can be told, or that they add nothing of the kind.
use Rattle.std.proofs.Common.{◌≡◌, ◌⊎◌, inl, inr, ℕ, zero, suc, ◌<◌, Bool, true, false, List, [], ◌∷◌, length, length-append, take, drop, map, refl, sym, ◌∙◌, ap, arith}
use Rattle.std.specs.List.{AllByRecursion, AllZip}
use Rattle.std.proofs.lemmas.List.{take-append-drop}
use Rattle.std.proofs.lemmas.Bool.{false≢true}
use Rattle.lexer.specs.Path.{HasCanonical}
use Rattle.lexer.specs.Said.{Fragments, BuildForm, Form}
use Rattle.lexer.specs.Said.Form.{binding, block_binding, rule, build, pool, defaults, includes, subninja}
use Rattle.dyndep.specs.declared.addition.Addition.{Addition}
use Rattle.dyndep.specs.Dyndep.{IsPath, ArePaths, text_of, is_dyndep, binds_restat, restat_of, BindsRestat, IsAddition, AreAdditions}
use Rattle.dyndep.specs.Dyndep.AreAdditions.{nothing}
use Rattle.dyndep.specs.Refused.{AddsOne, AddsNone, AddsNoneByLine, AreNoAdditions, NoPaths, is_of_block, begins_block, block_length, IsSplit, StatementsAdd}

-- ---- what stands in front of the next statement

front_all : (forms : List Form) → AllByRecursion (λ form. is_of_block form ≡ true) (take (block_length forms) forms)
front_all [] = tt
front_all (form ∷ forms) = by (is_of_block form) refl (front_all forms)
  where
    by : (b : Bool) → is_of_block form ≡ b → AllByRecursion (λ form. is_of_block form ≡ true) (take (block_length forms) forms) → AllByRecursion (λ form. is_of_block form ≡ true) (take (block_length (form ∷ forms)) (form ∷ forms))
    by true is more = let count : block_length (form ∷ forms) ≡ suc (block_length forms) = rw is (omega arith) in rw count (is, more)
    by false is more = let count : block_length (form ∷ forms) ≡ 0 = rw is refl in rw count tt

behind_ends : (forms : List Form) → begins_block (drop (block_length forms) forms) ≡ false
behind_ends [] = refl
behind_ends (form ∷ forms) = by (is_of_block form) refl (behind_ends forms)
  where
    by : (b : Bool) → is_of_block form ≡ b → begins_block (drop (block_length forms) forms) ≡ false → begins_block (drop (block_length (form ∷ forms)) (form ∷ forms)) ≡ false
    by true is more = let count : block_length (form ∷ forms) ≡ suc (block_length forms) = rw is (omega arith) in rw count more
    by false is more = let count : block_length (form ∷ forms) ≡ 0 = rw is refl in rw count is

-- forms are split behind the block of a statement
forms_split : (forms : List Form) → IsSplit forms (take (block_length forms) forms) (drop (block_length forms) forms)
forms_split forms = record { whole = sym (take-append-drop (block_length forms) forms); all = front_all forms; ends = behind_ends forms }

module _ (canonical : HasCanonical) (add : StatementsAdd) where
  -- ---- paths

  path_found : (text : List ℕ) → ((path : List ℕ) × IsPath text path) ⊎ ((path : List ℕ) → ¬ (IsPath text path))
  path_found [] = inr (λ path is. is.0 refl)
  path_found (b ∷ text) = let path = canonical (b ∷ text) in inl (path.0, (λ none. absurd (cc), path.1))

  texts_found : (texts : List (List ℕ)) → ((paths : List (List ℕ)) × AllZip IsPath texts paths) ⊎ ((paths : List (List ℕ)) → ¬ (AllZip IsPath texts paths))
  texts_found [] = inl ([], tt)
  texts_found (text ∷ texts) = elim (path_found text) [
    | inr none ↦ inr (none_first none)
    | inl path ↦ elim (texts_found texts) [
      | inl more ↦ inl (path.0 ∷ more.0, (path.1, more.1))
      | inr none ↦ inr (none_behind none)
    ]
  ]
    where
      none_first : ((path : List ℕ) → ¬ (IsPath text path)) → (paths : List (List ℕ)) → ¬ (AllZip IsPath (text ∷ texts) paths)
      none_first none [] all = all
      none_first none (path ∷ paths) all = none path all.0

      none_behind : ((paths : List (List ℕ)) → ¬ (AllZip IsPath texts paths)) → (paths : List (List ℕ)) → ¬ (AllZip IsPath (text ∷ texts) paths)
      none_behind none [] all = all
      none_behind none (path ∷ paths) all = none paths all.1

  paths_found : (values : List Fragments) → ((paths : List (List ℕ)) × ArePaths values paths) ⊎ NoPaths values
  paths_found values = texts_found (map text_of values)

  output_found : (values : List Fragments) → ((path : List ℕ) × ArePaths values (path ∷ [])) ⊎ ((path : List ℕ) → ¬ (ArePaths values (path ∷ [])))
  output_found [] = inr (λ path all. all)
  output_found (value ∷ []) = elim (path_found (text_of value)) [
    | inl path ↦ inl (path.0, (path.1, tt))
    | inr none ↦ inr (λ path all. none path all.0)
  ]
  output_found (value ∷ other ∷ values) = inr (λ path all. all.1)

  -- ---- statements

  binds_found : (block : List Form) → BindsRestat block ⊎ (¬ (BindsRestat block))
  binds_found [] = inl tt
  binds_found (form ∷ block) = by (binds_restat form) refl (binds_found block)
    where
      by : (is : Bool) → binds_restat form ≡ is → BindsRestat block ⊎ (¬ (BindsRestat block)) → BindsRestat (form ∷ block) ⊎ (¬ (BindsRestat (form ∷ block)))
      by true is (inl more) = inl (is, more)
      by true is (inr none) = inr (λ all. none all.1)
      by false is more = inr (λ all. false≢true (sym is ∙ all.0))

  line_found : (line : BuildForm) (block : List Form) → ((addition : Addition) × IsAddition line block addition) ⊎ AddsNoneByLine line block
  line_found line block = by (is_dyndep line) refl (output_found line.explicit_outputs) (paths_found line.implicit_outputs) (paths_found line.implicit_inputs) (binds_found block)
    where
      by : (is : Bool) → is_dyndep line ≡ is
          → ((path : List ℕ) × ArePaths line.explicit_outputs (path ∷ [])) ⊎ ((path : List ℕ) → ¬ (ArePaths line.explicit_outputs (path ∷ [])))
          → ((paths : List (List ℕ)) × ArePaths line.implicit_outputs paths) ⊎ NoPaths line.implicit_outputs
          → ((paths : List (List ℕ)) × ArePaths line.implicit_inputs paths) ⊎ NoPaths line.implicit_inputs
          → BindsRestat block ⊎ (¬ (BindsRestat block))
          → ((addition : Addition) × IsAddition line block addition) ⊎ AddsNoneByLine line block
      by false is output outputs inputs binds = inr (λ addition adds. false≢true (sym is ∙ adds.is_dyndep_line))
      by true is (inr none) outputs inputs binds = inr (λ addition adds. none addition.output adds.output)
      by true is (inl output) (inr none) inputs binds = inr (λ addition adds. none addition.outputs adds.outputs)
      by true is (inl output) (inl outputs) (inr none) binds = inr (λ addition adds. none addition.inputs adds.inputs)
      by true is (inl output) (inl outputs) (inl inputs) (inr none) = inr (λ addition adds. none adds.block_binds)
      by true is (inl output) (inl outputs) (inl inputs) (inl binds) = inl (
        record { output = output.0; outputs = outputs.0; inputs = inputs.0; restat = restat_of false block },
        record { is_dyndep_line = is; output = output.1; outputs = outputs.1; inputs = inputs.1; block_binds = binds; restat_is = refl },
      )

  one_found : (form : Form) (block : List Form) → ((addition : Addition) × AddsOne form block addition) ⊎ AddsNone form block
  one_found (binding name value) block = inr (λ addition adds. adds)
  one_found (block_binding name value) block = inr (λ addition adds. adds)
  one_found (rule name) block = inr (λ addition adds. adds)
  one_found (build line) block = line_found line block
  one_found (pool name) block = inr (λ addition adds. adds)
  one_found (defaults paths) block = inr (λ addition adds. adds)
  one_found (includes path) block = inr (λ addition adds. adds)
  one_found (subninja path) block = inr (λ addition adds. adds)

  -- ---- one after the other

  abbrev AreFound : List Form → Type 0
  AreFound forms = ((all : List Addition) × AreAdditions forms all) ⊎ AreNoAdditions forms

  found_first : (form : Form) (rest block behind : List Form) → IsSplit rest block behind → AreFound behind → AreFound (form ∷ rest)
  found_first form rest block behind split more = by (one_found form block) more
    where
      by : ((addition : Addition) × AddsOne form block addition) ⊎ AddsNone form block → AreFound behind → AreFound (form ∷ rest)
      by (inr none) more = inr (add.none form rest block behind split none)
      by (inl one) (inl more) = inl (one.0 ∷ more.0, add.one form rest block behind one.0 split one.1 more.0 more.1)
      by (inl one) (inr none) = inr (λ all are. let left = add.rest form rest block behind one.0 split one.1 all are in none left.0 left.1)

  additions_up_to : (fuel : ℕ) (forms : List Form) → length forms < fuel → AreFound forms
  additions_up_to zero forms lt = absurd (omega (arith, lt))
  additions_up_to (suc fuel) [] lt = inl ([], nothing)
  additions_up_to (suc fuel) (form ∷ rest) lt =
      let split = forms_split rest in
      let parts = ap length split.whole ∙ length-append (take (block_length rest) rest) (drop (block_length rest) rest) in
      found_first form rest (take (block_length rest) rest) (drop (block_length rest) rest) split (additions_up_to fuel (drop (block_length rest) rest) (omega (arith, lt, parts)))

  pub additions_found : (forms : List Form) → ((all : List Addition) × AreAdditions forms all) ⊎ AreNoAdditions forms
  additions_found forms = additions_up_to (suc (length forms)) forms (omega arith)
