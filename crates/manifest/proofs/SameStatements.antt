-- Statements say the same over states that say the same.
use Rattle.std.proofs.Common.{◌≡◌, ◌⊎◌, inl, inr, ◌<◌, ◌||◌, ℕ, Bool, true, false, cond, List, [], ◌∷◌, ◌++◌, length, map, Option, None, Some, IsSome, codes, refl, sym, ◌∙◌, ap, subst}
use Rattle.std.specs.Str.{bytes_eq}
use Rattle.lexer.specs.Path.{IsCanonical}
use Rattle.lexer.specs.Said.{Fragments, BuildForm}
use Rattle.lexer.specs.declared.fault.FaultKind.TheVariants.{TooLarge, EmptyPath}
use Rattle.model.specs.Graph.{console}
use Rattle.model.specs.declared.graph.Pool.{Pool}
use Rattle.scopes.specs.declared.template.Rule.{Rule}
use Rattle.scopes.specs.Moves.{Move, Bind, rule_at, last_in, rule_named}
use Rattle.manifest.specs.declared.fault.FaultKind.TheVariants.{Line, UnexpectedVariable, BadDepth, NeedsVersion}
use Rattle.manifest.specs.declared.fault.FileFault.{FileFault}
use Rattle.manifest.specs.Spelled.{EdgePaths}
use Rattle.manifest.specs.Readings.{Reading, Give, Unless, Where, Cut, Place, fault_at}
use Rattle.manifest.specs.Expansion.{Bound, value_here, text_at, text_of, some_text, is_large, is_empty, ArePaths}
use Rattle.manifest.specs.States.{State, Build, Default, with_move, with_build, present, is_pool, named, different}
use Rattle.manifest.specs.Blocks.{BlockLine, RuleText, RuleLine, RuleBlock, IsRuleOf, BuildBlock, build_block}
use Rattle.manifest.specs.Declarations.{AsksTooMuch, OfBinding, IsRepeated, RuleOf, OfRule, is_phony, rule_here, IsUnknownRule, RuleHere, ArePathsOf, IsTooMuch, most_edges, most_paths, build_here, PathsOf, OfBuildIn, OfBuild, PoolLine, SomeDepth, DepthOf, OfPool, DefaultPaths, OfDefault}
use Rattle.manifest.specs.Numbers.{depth_in}
use Rattle.manifest.proofs.Agreeing.{Agree, One, give_agree, refuse_agree, unless_agree, unless_same, cut_agree, then_agree, then_one, where_agree, where_one, each_agree}
use Rattle.manifest.proofs.Sameness.{SameRule, SameOption, SameMove, SameBuild, SameBuilds, SameState}
use Rattle.manifest.proofs.SamePasts.{rule_at_same, rule_in_same, value_here_same, text_at_same, build_block_same, present_same, named_same, length_same, builds_push, is_some_same, is_some_same'}

-- ---- bindings

abbrev bound_as : Place → List ℕ → List ℕ → State → Reading State
bound_as place name value state =
    Unless (is_large value ≡ true) (fault_at place (Line TooLarge)) (Unless (AsksTooMuch name value) (fault_at place (NeedsVersion value)) (Give (with_move (Bind name value) state)))

pub move_same : (s t : State) (m n : Move) → SameState s t → SameMove m n → SameState (with_move m s) (with_move n t)
move_same s t m n same moves = record { past = (moves, same.past); builds = same.builds; pools = same.pools; defaults = same.defaults }

pub binding_same : (place : Place) (name : List ℕ) (value : Fragments) (s t : State) → SameState s t → Agree SameState (OfBinding place name value s) (OfBinding place name value t)
binding_same place name value s t same =
    subst (λ (v : List ℕ). Agree SameState (bound_as place name (text_at s.past value) s) (bound_as place name v t)) (text_at_same s.past t.past same.past value)
    (unless_same SameState _ _ _ _ (unless_same SameState _ _ _ _ (give_agree SameState _ _ (move_same s t _ _ same (refl, refl)))))

-- ---- rules

repeated_to : (s t : State) (name : List ℕ) → SameState s t → IsRepeated s name → IsRepeated t name
repeated_to s t name same (inl phony) = inl phony
repeated_to s t name same (inr some) =
    inr (subst (λ (n : ℕ). IsSome (last_in (rule_named name) t.past n)) (present_same s t same) (is_some_same _ _ (rule_in_same s.past t.past same.past name (present s)) some))

repeated_from : (s t : State) (name : List ℕ) → SameState s t → IsRepeated t name → IsRepeated s name
repeated_from s t name same (inl phony) = inl phony
repeated_from s t name same (inr some) =
    inr (is_some_same' _ _ (rule_in_same s.past t.past same.past name (present s)) (subst (λ (n : ℕ). IsSome (last_in (rule_named name) t.past n)) (sym (present_same s t same)) some))

rule_texts_one : (file : List ℕ) (block : List BlockLine) → One (RuleBlock file block [])
rule_texts_one file block =
    each_agree (λ x y. x ≡ y) (RuleLine file) (RuleLine file)
    (λ line s t same. unless_same (λ x y. x ≡ y) _ _ _ _ (give_agree (λ x y. x ≡ y) _ _ (ap (λ (ts : List RuleText). record { name = line.name; value = line.value } ∷ ts) same))) block [] [] refl

rule_of_same : (place : Place) (name : List ℕ) (block : List BlockLine) (behind : Option FileFault) → Agree SameRule (RuleOf place name block behind) (RuleOf place name block behind)
rule_of_same place name block behind =
    then_one SameRule (RuleBlock place.file block []) _ _ (rule_texts_one place.file block)
    (λ texts. cut_agree SameRule behind _ _ (unless_same SameRule _ _ _ _ (unless_same SameRule _ _ _ _
    (where_agree SameRule SameRule (IsRuleOf texts) (IsRuleOf texts) _ _ (λ r q is is' name. is name ∙ sym (is' name)) (λ r q related. give_agree SameRule r q related)))))

pub rule_same : (place : Place) (name : List ℕ) (block : List BlockLine) (behind : Option FileFault) (s t : State) → SameState s t → Agree SameState (OfRule place name block behind s) (OfRule place name block behind t)
rule_same place name block behind s t same =
    unless_agree SameState _ _ _ _ _ _ (repeated_to s t name same) (repeated_from s t name same) refl
    (then_agree SameRule SameState _ _ _ _ (rule_of_same place name block behind) (λ r q related. give_agree SameState _ _ (move_same s t _ _ same (refl, related))))

-- ---- paths

abbrev paths_as : Place → (List ℕ → List ℕ) → List Fragments → Reading (List (List ℕ))
paths_as place value texts =
    Unless (some_text is_empty value texts ≡ true) (fault_at place (Line EmptyPath))
    (Unless (some_text is_large value texts ≡ true) (fault_at place (Line TooLarge)) (Where (ArePaths value texts) (λ (paths : List (List ℕ)). Give paths)))

module _ (one_form : (text a b : List ℕ) → IsCanonical text a → IsCanonical text b → a ≡ b) where
  pub one_paths : (value : List ℕ → List ℕ) (texts : List Fragments) (ps qs : List (List ℕ)) → ArePaths value texts ps → ArePaths value texts qs → ps ≡ qs
  one_paths value [] [] [] are are' = refl
  one_paths value [] [] (b ∷ qs) are are' = absurd are'
  one_paths value [] (a ∷ ps) qs are are' = absurd are
  one_paths value (text ∷ texts) [] qs are are' = absurd are
  one_paths value (text ∷ texts) (a ∷ ps) [] are are' = absurd are'
  one_paths value (text ∷ texts) (a ∷ ps) (b ∷ qs) are are' =
      ap (λ (l : List ℕ). l ∷ ps) (one_form (text_of value text) a b are.0 are'.0) ∙ ap (λ (ls : List (List ℕ)). b ∷ ls) (one_paths value texts ps qs are.1 are'.1)

  one_edge_paths : (value : List ℕ → List ℕ) (form : BuildForm) (a b : EdgePaths) → ArePathsOf value form a → ArePathsOf value form b → a ≡ b
  one_edge_paths value form a b is is' =
      let e1 = one_paths value form.explicit_outputs a.explicit_outputs b.explicit_outputs is.explicit_outputs is'.explicit_outputs in
      let e2 = one_paths value form.implicit_outputs a.implicit_outputs b.implicit_outputs is.implicit_outputs is'.implicit_outputs in
      let e3 = one_paths value form.explicit_inputs a.explicit_inputs b.explicit_inputs is.explicit_inputs is'.explicit_inputs in
      let e4 = one_paths value form.implicit_inputs a.implicit_inputs b.implicit_inputs is.implicit_inputs is'.implicit_inputs in
      let e5 = one_paths value form.order_only_inputs a.order_only_inputs b.order_only_inputs is.order_only_inputs is'.order_only_inputs in
      let e6 = one_paths value form.validations a.validations b.validations is.validations is'.validations in
      ap {B = EdgePaths} (λ (x : List (List ℕ)). record { explicit_outputs = x; implicit_outputs = a.implicit_outputs; explicit_inputs = a.explicit_inputs; implicit_inputs = a.implicit_inputs; order_only_inputs = a.order_only_inputs; validations = a.validations }) e1
      ∙ (ap {B = EdgePaths} (λ (x : List (List ℕ)). record { explicit_outputs = b.explicit_outputs; implicit_outputs = x; explicit_inputs = a.explicit_inputs; implicit_inputs = a.implicit_inputs; order_only_inputs = a.order_only_inputs; validations = a.validations }) e2
      ∙ (ap {B = EdgePaths} (λ (x : List (List ℕ)). record { explicit_outputs = b.explicit_outputs; implicit_outputs = b.implicit_outputs; explicit_inputs = x; implicit_inputs = a.implicit_inputs; order_only_inputs = a.order_only_inputs; validations = a.validations }) e3
      ∙ (ap {B = EdgePaths} (λ (x : List (List ℕ)). record { explicit_outputs = b.explicit_outputs; implicit_outputs = b.implicit_outputs; explicit_inputs = b.explicit_inputs; implicit_inputs = x; order_only_inputs = a.order_only_inputs; validations = a.validations }) e4
      ∙ (ap {B = EdgePaths} (λ (x : List (List ℕ)). record { explicit_outputs = b.explicit_outputs; implicit_outputs = b.implicit_outputs; explicit_inputs = b.explicit_inputs; implicit_inputs = b.implicit_inputs; order_only_inputs = x; validations = a.validations }) e5
      ∙ (ap {B = EdgePaths} (λ (x : List (List ℕ)). record { explicit_outputs = b.explicit_outputs; implicit_outputs = b.implicit_outputs; explicit_inputs = b.explicit_inputs; implicit_inputs = b.implicit_inputs; order_only_inputs = b.order_only_inputs; validations = x }) e6)))))

  paths_one : (place : Place) (value : List ℕ → List ℕ) (form : BuildForm) → One (PathsOf place value form)
  paths_one place value form =
      unless_same (λ x y. x ≡ y) _ _ _ _ (unless_same (λ x y. x ≡ y) _ _ _ _
      (where_one (λ x y. x ≡ y) (ArePathsOf value form) _ _ (one_edge_paths value form) (λ paths. give_agree (λ x y. x ≡ y) paths paths refl)))

  default_paths_one : (place : Place) (value : List ℕ → List ℕ) (texts : List Fragments) → One (paths_as place value texts)
  default_paths_one place value texts =
      unless_same (λ x y. x ≡ y) _ _ _ _ (unless_same (λ x y. x ≡ y) _ _ _ _
      (where_one (λ x y. x ≡ y) (ArePaths value texts) _ _ (one_paths value texts) (λ paths. give_agree (λ x y. x ≡ y) paths paths refl)))

-- ---- build statements

unknown_to : (place : Place) (s t : State) (name : List ℕ) → SameState s t → IsUnknownRule s name → IsUnknownRule t name
unknown_to place s t name same is = (is.0, none_to _ _ (rule_at_same s.past t.past same.past name) is.1)
  where
    none_to : (a b : Option Rule) → SameOption SameRule a b → a ≡ None → b ≡ None
    none_to None None is e = refl
    none_to None (Some q) is e = absurd is
    none_to (Some r) b is e = let clash : Some r ≡ None = e in cc

unknown_from : (place : Place) (s t : State) (name : List ℕ) → SameState s t → IsUnknownRule t name → IsUnknownRule s name
unknown_from place s t name same is = (is.0, none_from _ _ (rule_at_same s.past t.past same.past name) is.1)
  where
    none_from : (a b : Option Rule) → SameOption SameRule a b → b ≡ None → a ≡ None
    none_from None b is e = refl
    none_from (Some r) None is e = absurd is
    none_from (Some r) (Some q) is e = let clash : Some q ≡ None = e in cc

here_same : (s t : State) (name : List ℕ) → SameState s t → SameOption SameRule (rule_here s name) (rule_here t name)
here_same s t name same = by (is_phony name)
  where
    by : (b : Bool) → SameOption SameRule (cond b None (rule_at s.past name)) (cond b None (rule_at t.past name))
    by true = tt
    by false = rule_at_same s.past t.past same.past name

rule_here_same : (place : Place) (s t : State) (name : List ℕ) → SameState s t → Agree (SameOption SameRule) (RuleHere place s name) (RuleHere place t name)
rule_here_same place s t name same =
    unless_agree (SameOption SameRule) _ _ _ _ _ _ (unknown_to place s t name same) (unknown_from place s t name same) refl
    (give_agree (SameOption SameRule) (rule_here s name) (rule_here t name) (here_same s t name same))

abbrev too_much : ℕ → ℕ → Type 0
too_much edges paths = (most_edges < edges) ⊎ (most_paths < paths)

too_much_to : (bs cs : List Build) → SameBuilds bs cs → IsTooMuch bs → IsTooMuch cs
too_much_to bs cs same is =
    subst (λ (n : ℕ). too_much n (different (named cs))) (length_same bs cs same) (subst (λ (ps : List (List ℕ)). too_much (length bs) (different ps)) (named_same bs cs same) is)

too_much_from : (bs cs : List Build) → SameBuilds bs cs → IsTooMuch cs → IsTooMuch bs
too_much_from bs cs same is =
    subst (λ (n : ℕ). too_much n (different (named bs))) (sym (length_same bs cs same)) (subst (λ (ps : List (List ℕ)). too_much (length cs) (different ps)) (sym (named_same bs cs same)) is)

build_same : (place : Place) (form : BuildForm) (block : List Bound) (paths : EdgePaths) (r q : Option Rule) (s t : State) → SameState s t → SameOption SameRule r q
    → SameBuild (build_here place form r block paths s) (build_here place form q block paths t)
build_same place form block paths r q s t same rules = record { place = refl; scope = present_same s t same; rule_name = refl; rule = rules; block = refl; paths = refl }

module _ (one_form : (text a b : List ℕ) → IsCanonical text a → IsCanonical text b → a ≡ b) where
  build_in_same : (place : Place) (form : BuildForm) (block : BuildBlock) (s t : State) → SameState s t → Agree SameState (OfBuildIn place form block s) (OfBuildIn place form block t)
  build_in_same place form block s t same =
      then_agree (SameOption SameRule) SameState _ _ _ _ (rule_here_same place s t form.rule same) (λ r q rules.
      then_agree (λ x y. x ≡ y) SameState _ _ _ _ (paths_same block.bound)
      (λ paths paths' equal. subst (λ (ps : EdgePaths). Agree SameState (after s r paths) (after t q ps)) equal (after_same r q rules paths)))
    where
      after : State → Option Rule → EdgePaths → Reading State
      after state rule paths =
          Unless (IsTooMuch (state.builds ++ build_here place form rule block.bound paths state ∷ [])) (fault_at place (Line TooLarge))
          (Cut block.fault (Give (with_build (build_here place form rule block.bound paths state) state)))

      paths_same : (bound : List Bound) → Agree {X = EdgePaths} {Y = EdgePaths} (λ x y. x ≡ y) (PathsOf place (value_here bound s.past) form) (PathsOf place (value_here bound t.past) form)
      paths_same bound =
          subst (λ (value : List ℕ → List ℕ). Agree {X = EdgePaths} {Y = EdgePaths} (λ x y. x ≡ y) (PathsOf place (value_here bound s.past) form) (PathsOf place value form))
          (value_here_same s.past t.past same.past bound) (paths_one one_form place (value_here bound s.past) form)

      after_same : (r q : Option Rule) → SameOption SameRule r q → (paths : EdgePaths) → Agree SameState (after s r paths) (after t q paths)
      after_same r q rules paths =
          let one = build_same place form block.bound paths r q s t same rules in
          let all = builds_push s.builds t.builds _ _ same.builds one in
          unless_agree SameState _ _ _ _ _ _ (too_much_to _ _ all) (too_much_from _ _ all) refl
          (cut_agree SameState block.fault _ _ (give_agree SameState _ _ (record { past = same.past; builds = all; pools = same.pools; defaults = same.defaults })))

  pub build_statement_same : (place : Place) (form : BuildForm) (block : List BlockLine) (s t : State) → SameState s t → Agree SameState (OfBuild place form block s) (OfBuild place form block t)
  build_statement_same place form block s t same =
      subst (λ (b : BuildBlock). Agree SameState (OfBuild place form block s) (OfBuildIn place form b t)) (build_block_same place.file s.past t.past same.past block [])
      (build_in_same place form (build_block place.file s.past block []) s t same)

  pub default_same : (place : Place) (texts : List Fragments) (s t : State) → SameState s t → Agree SameState (OfDefault place texts s) (OfDefault place texts t)
  default_same place texts s t same =
      then_agree (λ x y. x ≡ y) SameState _ _ _ _
      (subst (λ (value : List ℕ → List ℕ). Agree {X = List (List ℕ)} {Y = List (List ℕ)} (λ x y. x ≡ y) (DefaultPaths place texts s) (paths_as place value texts)) (value_here_same s.past t.past same.past [])
      (default_paths_one one_form place (value_here [] s.past) texts))
      (λ paths paths' equal. give_agree SameState _ _ (record {
        past = same.past;
        builds = same.builds;
        pools = same.pools;
        defaults = ap (λ (ds : List Default). ds ++ map (λ path. record { place = place; path = path }) paths) same.defaults ∙ ap (λ (ps : List (List ℕ)). t.defaults ++ map (λ path. record { place = place; path = path }) ps) equal;
      }))

-- ---- pools

abbrev line_as : List ℕ → List ℕ → BlockLine → List ℕ → Reading (Option ℕ)
line_as file pool line value =
    Unless (bytes_eq line.name (codes "depth") ≡ false) (fault_at (record { file = file; line = line.line }) (UnexpectedVariable line.name))
    (Unless (is_large value ≡ true) (fault_at (record { file = file; line = line.line }) (Line TooLarge))
    (Unless (depth_in value ≡ None) (fault_at (record { file = file; line = line.line }) (BadDepth pool))
    (Give (depth_in value))))

line_same : (file pool : List ℕ) (line : BlockLine) (s t : State) → SameState s t → (a b : Option ℕ)
    → Agree {X = Option ℕ} {Y = Option ℕ} (λ x y. x ≡ y) (PoolLine s file pool line a) (PoolLine t file pool line b)
line_same file pool line s t same a b =
    subst (λ (v : List ℕ). Agree {X = Option ℕ} {Y = Option ℕ} (λ x y. x ≡ y) (line_as file pool line (text_at s.past line.value)) (line_as file pool line v)) (text_at_same s.past t.past same.past line.value)
    (unless_same (λ x y. x ≡ y) _ _ _ _ (unless_same (λ x y. x ≡ y) _ _ _ _ (unless_same (λ x y. x ≡ y) _ _ _ _ (give_agree (λ x y. x ≡ y) _ _ refl))))

some_depth_one : (place : Place) (name : List ℕ) (depth : Option ℕ) → One (SomeDepth place name depth)
some_depth_one place name None = refuse_agree (λ x y. x ≡ y) _ _ refl
some_depth_one place name (Some depth) = give_agree (λ x y. x ≡ y) depth depth refl

depth_same : (place : Place) (name : List ℕ) (block : List BlockLine) (behind : Option FileFault) (s t : State) → SameState s t
    → Agree {X = ℕ} {Y = ℕ} (λ x y. x ≡ y) (DepthOf place name block behind s) (DepthOf place name block behind t)
depth_same place name block behind s t same =
    then_agree (λ x y. x ≡ y) (λ x y. x ≡ y) _ _ _ _
    (each_agree (λ x y. x ≡ y) (PoolLine s place.file name) (PoolLine t place.file name) (λ line a b e. line_same place.file name line s t same a b) block None None refl)
    (λ a b e. subst (λ (d : Option ℕ). Agree {X = ℕ} {Y = ℕ} (λ x y. x ≡ y) (Cut behind (SomeDepth place name a)) (Cut behind (SomeDepth place name d))) e
    (cut_agree (λ x y. x ≡ y) behind _ _ (some_depth_one place name a)))

pub pool_same : (place : Place) (name : List ℕ) (block : List BlockLine) (behind : Option FileFault) (s t : State) → SameState s t → Agree SameState (OfPool place name block behind s) (OfPool place name block behind t)
pool_same place name block behind s t same =
    unless_agree SameState _ _ _ _ _ _ (λ is. ap (λ (pools : List Pool). bytes_eq name console || is_pool pools name) (sym same.pools) ∙ is) (λ is. ap (λ (pools : List Pool). bytes_eq name console || is_pool pools name) same.pools ∙ is) refl
    (then_agree (λ x y. x ≡ y) SameState _ _ _ _ (depth_same place name block behind s t same) (λ a b e. give_agree SameState _ _ (record {
      past = same.past;
      builds = same.builds;
      pools = ap (λ (ps : List Pool). ps ++ record { name = name; depth = a } ∷ []) same.pools ∙ ap (λ (d : ℕ). t.pools ++ record { name = name; depth = d } ∷ []) e;
      defaults = same.defaults;
    })))
