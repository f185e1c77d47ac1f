-- Edges and graphs of states that say the same.
use Rattle.std.proofs.Common.{◌≡◌, ℕ, Bool, true, false, if◌then◌else◌, List, [], ◌∷◌, ◌++◌, map, Option, None, Some, refl, sym, ◌∙◌, ap, subst}
use Rattle.std.specs.Prelude.{bytes_eq, codes, unwrap_or}
use Rattle.std.proofs.Math.Path.{fun_ext}
use Rattle.lexer.specs.declared.fault.FaultKind.TheVariants.{TooLarge}
use Rattle.lexer.specs.Path.{IsCanonical}
use Rattle.model.specs.declared.graph.BuildGraph.{BuildGraph}
use Rattle.model.specs.declared.graph.Deps.{Deps}
use Rattle.model.specs.declared.graph.Edge.{Edge}
use Rattle.model.specs.declared.graph.Pool.{Pool}
use Rattle.model.specs.Graph.{has}
use Rattle.scopes.specs.declared.template.Template.{Template}
use Rattle.scopes.specs.declared.template.Rule.{Rule}
use Rattle.scopes.specs.Texts.{joined}
use Rattle.scopes.specs.Rule.{template_of}
use Rattle.scopes.specs.Moves.{Move, or_else, value_at_end}
use Rattle.scopes.specs.Use.{is_special, unless_bound, IsValueAtUse}
use Rattle.scopes.specs.Large.{IsTooLargeAtUse}
use Rattle.manifest.specs.declared.fault.FaultKind.{FaultKind}
use Rattle.manifest.specs.declared.fault.FaultKind.TheVariants.{Line, UnknownPool, Circle, UnknownDeps, UnknownDefault}
use Rattle.manifest.specs.Spelled.{EdgePaths}
use Rattle.manifest.specs.declared.values.Values.{Values}
use Rattle.manifest.specs.Readings.{Outcome, Give, Then, Where, Place, fault_at}
use Rattle.manifest.specs.Expansion.{Bound, bound}
use Rattle.manifest.specs.States.{State, Build, Default, named}
use Rattle.manifest.specs.Uses.{opened_in, fixed_in, shown, LeadsIntoCircle, HasLargeValue, IsValueOf, AreValuesOf}
use Rattle.manifest.specs.Edges.{IsPathOrNone, IsFileOrNone, IsEdgeOf, IsEdgeFor, is_unknown_pool, is_unknown_deps, ExpandedValues, CheckedPool, CheckedDeps, CommandValues, ValuesOfRule, ValuesOf, OfEdge, OfEdges}
use Rattle.manifest.specs.Graphs.{OfDefault, OfDefaults, builddir_in, graph_of, AtEnd}
use Rattle.manifest.proofs.Agreeing.{Agree, One, give_agree, unless_agree, unless_same, then_agree, where_agree, then_one}
use Rattle.manifest.proofs.Sameness.{SameRule, SameOption, SamePast, SameBuild, SameBuilds, SameState}

abbrev Eq : {X : Type 0} → X → X → Type 0
Eq x y = x ≡ y

-- ---- what names stand for

abbrev opened_with : List Bound → Option Template → List ℕ → Option Template
opened_with block template name = if is_special name then None else unless_bound (bound block name) template

opened_same : (b c : Build) (r k : Rule) → SameBuild b c → SameRule r k → opened_in b r ≡ opened_in c k
opened_same b c r k same rules = fun_ext at
  where
    at : (name : List ℕ) → opened_in b r name ≡ opened_in c k name
    at name = ap (λ (l : List Bound). opened_with l (template_of r name) name) same.block
        ∙ ap (λ (t : Option Template). opened_with c.block t name) (rules name)

abbrev special_with : EdgePaths → List ℕ → List ℕ → Option (List ℕ)
special_with paths asked name =
    if bytes_eq name (codes "in") then Some (joined (32 ∷ []) (shown asked paths.explicit_inputs))
    else (if bytes_eq name (codes "out") then Some (joined (32 ∷ []) (shown asked paths.explicit_outputs))
    else (if bytes_eq name (codes "in_newline") then Some (joined (10 ∷ []) (shown asked paths.explicit_inputs)) else None))

abbrev fixed_with : EdgePaths → List Bound → Option (List ℕ) → List ℕ → List ℕ → List ℕ
fixed_with paths block value asked name = unwrap_or (special_with paths asked name) (unwrap_or (or_else (bound block name) value) [])

-- ---- equal field by field

abbrev values_of : List ℕ → List ℕ → List ℕ → List ℕ → List ℕ → List ℕ → List ℕ → List ℕ → List ℕ → Values
values_of x0 x1 x2 x3 x4 x5 x6 x7 x8 = record { command = x0; depfile = x1; deps = x2; dyndep = x3; description = x4; pool = x5; restat = x6; rspfile = x7; rspfile_content = x8 }

values_same : (x0 y0 x1 y1 x2 y2 x3 y3 x4 y4 x5 y5 x6 y6 x7 y7 x8 y8 : List ℕ) →
    x0 ≡ y0 → x1 ≡ y1 → x2 ≡ y2 → x3 ≡ y3 → x4 ≡ y4 → x5 ≡ y5 → x6 ≡ y6 → x7 ≡ y7 → x8 ≡ y8 →
    values_of x0 x1 x2 x3 x4 x5 x6 x7 x8 ≡ values_of y0 y1 y2 y3 y4 y5 y6 y7 y8
values_same x0 y0 x1 y1 x2 y2 x3 y3 x4 y4 x5 y5 x6 y6 x7 y7 x8 y8 e0 e1 e2 e3 e4 e5 e6 e7 e8 = cc

abbrev edge_of : List (List ℕ) → List (List ℕ) → List (List ℕ) → List (List ℕ) → List (List ℕ) → List (List ℕ) → List ℕ → List ℕ → List ℕ → List ℕ → List ℕ → Deps → Bool → Option (List ℕ) → Option (List ℕ) → Bool → Edge
edge_of x0 x1 x2 x3 x4 x5 x6 x7 x8 x9 x10 x11 x12 x13 x14 x15 =
    record { explicit_outputs = x0; implicit_outputs = x1; explicit_inputs = x2; implicit_inputs = x3; order_only_inputs = x4; validations = x5; act = record { command = x6; depfile = x7; response_path = x8; response_content = x9 }; description = x10; deps = x11; restat = x12; pool = x13; dyndep = x14; phony = x15 }

edge_same : (x0 y0 x1 y1 x2 y2 x3 y3 x4 y4 x5 y5 : List (List ℕ)) (x6 y6 x7 y7 x8 y8 x9 y9 x10 y10 : List ℕ) (x11 y11 : Deps) (x12 y12 : Bool) (x13 y13 x14 y14 : Option (List ℕ)) (x15 y15 : Bool) →
    x0 ≡ y0 → x1 ≡ y1 → x2 ≡ y2 → x3 ≡ y3 → x4 ≡ y4 → x5 ≡ y5 → x6 ≡ y6 → x7 ≡ y7 → x8 ≡ y8 → x9 ≡ y9 → x10 ≡ y10 → x11 ≡ y11 → x12 ≡ y12 → x13 ≡ y13 → x14 ≡ y14 → x15 ≡ y15 →
    edge_of x0 x1 x2 x3 x4 x5 x6 x7 x8 x9 x10 x11 x12 x13 x14 x15 ≡ edge_of y0 y1 y2 y3 y4 y5 y6 y7 y8 y9 y10 y11 y12 y13 y14 y15
edge_same x0 y0 x1 y1 x2 y2 x3 y3 x4 y4 x5 y5 x6 y6 x7 y7 x8 y8 x9 y9 x10 y10 x11 y11 x12 y12 x13 y13 x14 y14 x15 y15 e0 e1 e2 e3 e4 e5 e6 e7 e8 e9 e10 e11 e12 e13 e14 e15 = cc

-- ---- values

large_moves : (b c : Build) (r k : Rule) (p q : List Move) → opened_in b r ≡ opened_in c k → ((asked : List ℕ) → fixed_in b p asked ≡ fixed_in c q asked)
    → HasLargeValue b r p → HasLargeValue c k q
large_moves b c r k p q opens fixed h = record {
  name = h.name;
  expanded = h.expanded;
  large = subst (λ (o : List ℕ → Option Template). IsTooLargeAtUse o (fixed_in c q h.name) h.name) opens
      (subst (λ (f : List ℕ → List ℕ). IsTooLargeAtUse (opened_in b r) f h.name) (fixed h.name) h.large);
}

fault_same : (b c : Build) (kind : Build → FaultKind) → SameBuild b c → kind b ≡ kind c → fault_at b.place (kind b) ≡ fault_at c.place (kind c)
fault_same b c kind same kinds = ap (λ (p : Place). fault_at p (kind b)) same.place ∙ ap (λ (f : FaultKind). fault_at c.place f) kinds

checked_pool : (pools : List Pool) (b c : Build) → SameBuild b c → (v : Values) → Agree {X = Unit {0}} {Y = Unit {0}} Eq (CheckedPool pools b v) (CheckedPool pools c v)
checked_pool pools b c same v =
    unless_agree {X = Unit {0}} {Y = Unit {0}} Eq (is_unknown_pool pools v.pool ≡ true) (is_unknown_pool pools v.pool ≡ true) (fault_at b.place (UnknownPool v.pool)) (fault_at c.place (UnknownPool v.pool)) (Give tt) (Give tt)
    (λ is. is) (λ is. is) (fault_same b c (λ _. UnknownPool v.pool) same refl) (give_agree {X = Unit {0}} {Y = Unit {0}} Eq tt tt refl)

checked_deps : (b c : Build) → SameBuild b c → (v : Values) → Agree {X = Unit {0}} {Y = Unit {0}} Eq (CheckedDeps b v) (CheckedDeps c v)
checked_deps b c same v =
    unless_agree {X = Unit {0}} {Y = Unit {0}} Eq (is_unknown_deps v ≡ true) (is_unknown_deps v ≡ true) (fault_at b.place (UnknownDeps v.deps)) (fault_at c.place (UnknownDeps v.deps)) (Give tt) (Give tt)
    (λ is. is) (λ is. is) (fault_same b c (λ _. UnknownDeps v.deps) same refl) (give_agree {X = Unit {0}} {Y = Unit {0}} Eq tt tt refl)

-- ---- defaults

default_one : (paths : List (List ℕ)) (default : Default) → One (OfDefault paths default)
default_one paths default =
    unless_same {X = Unit {0}} {Y = Unit {0}} Eq (has paths default.path ≡ false) (fault_at default.place (UnknownDefault default.path)) (Give tt) (Give tt) (give_agree {X = Unit {0}} {Y = Unit {0}} Eq tt tt refl)

pub defaults_one : (paths : List (List ℕ)) (defaults : List Default) → One (OfDefaults paths defaults)
defaults_one paths [] = give_agree {X = Unit {0}} {Y = Unit {0}} Eq tt tt refl
defaults_one paths (default ∷ defaults) =
    then_one {X = Unit {0}} {Z = Unit {0}} {W = Unit {0}} Eq (OfDefault paths default) (λ _. OfDefaults paths defaults) (λ _. OfDefaults paths defaults) (default_one paths default) (λ _. defaults_one paths defaults)

module _ (one_form : (text a b : List ℕ) → IsCanonical text a → IsCanonical text b → a ≡ b)
    (one_value : (opens : List ℕ → Option Template) (fixed : List ℕ → List ℕ) (name one other : List ℕ) → IsValueAtUse opens fixed name one → IsValueAtUse opens fixed name other → one ≡ other)
    (value_at_end_same : (p q : List Move) → SamePast p q → (s : ℕ) (name : List ℕ) → value_at_end p s name ≡ value_at_end q s name)
    (named_same : (bs cs : List Build) → SameBuilds bs cs → named bs ≡ named cs) where
  -- ---- paths

  one_path : (text a b : List ℕ) → IsPathOrNone text a → IsPathOrNone text b → a ≡ b
  one_path [] a b one other = one ∙ sym other
  one_path (t ∷ text) a b one other = one_form (t ∷ text) a b one other

  one_file : (text : List ℕ) (a b : Option (List ℕ)) → IsFileOrNone text a → IsFileOrNone text b → a ≡ b
  one_file [] a b one other = one ∙ sym other
  one_file (t ∷ text) None b one other = absurd one
  one_file (t ∷ text) (Some a) None one other = absurd other
  one_file (t ∷ text) (Some a) (Some b) one other = ap (λ (z : List ℕ). Some z) (one_form (t ∷ text) a b one other)

  -- ---- one edge

  edge_of_one : (paths : EdgePaths) (values : Values) (x y : Edge) → IsEdgeOf paths values x → IsEdgeOf paths values y → x ≡ y
  edge_of_one paths values x y one other =
      let depfile : x.act.depfile ≡ y.act.depfile = one_path values.depfile x.act.depfile y.act.depfile one.depfile other.depfile in
      let response : x.act.response_path ≡ y.act.response_path = one_path values.rspfile x.act.response_path y.act.response_path one.response_path other.response_path in
      let dyndep : x.dyndep ≡ y.dyndep = one_file values.dyndep x.dyndep y.dyndep one.dyndep other.dyndep in
      edge_same x.explicit_outputs y.explicit_outputs x.implicit_outputs y.implicit_outputs x.explicit_inputs y.explicit_inputs x.implicit_inputs y.implicit_inputs x.order_only_inputs y.order_only_inputs x.validations y.validations x.act.command y.act.command x.act.depfile y.act.depfile x.act.response_path y.act.response_path x.act.response_content y.act.response_content x.description y.description x.deps y.deps x.restat y.restat x.pool y.pool x.dyndep y.dyndep x.phony y.phony
      (one.explicit_outputs ∙ sym other.explicit_outputs) (one.implicit_outputs ∙ sym other.implicit_outputs) (one.explicit_inputs ∙ sym other.explicit_inputs) (one.implicit_inputs ∙ sym other.implicit_inputs) (one.order_only_inputs ∙ sym other.order_only_inputs) (one.validations ∙ sym other.validations) (one.command ∙ sym other.command) depfile response (one.response_content ∙ sym other.response_content) (one.description ∙ sym other.description) (one.deps ∙ sym other.deps) (one.restat ∙ sym other.restat) (one.pool ∙ sym other.pool) dyndep (one.phony ∙ sym other.phony)

  edge_one : (paths : EdgePaths) (values : Option Values) (x y : Edge) → IsEdgeFor paths values x → IsEdgeFor paths values y → x ≡ y
  edge_one paths None x y one other = one ∙ sym other
  edge_one paths (Some values) x y one other = edge_of_one paths values x y one other

  -- ---- what a rule is expanded to

  module _ (p q : List Move) (past : SamePast p q) where
    fixed_same : (b c : Build) → SameBuild b c → (asked : List ℕ) → fixed_in b p asked ≡ fixed_in c q asked
    fixed_same b c same asked = fun_ext at
      where
        at : (name : List ℕ) → fixed_in b p asked name ≡ fixed_in c q asked name
        at name =
            let value : value_at_end p b.scope name ≡ value_at_end q c.scope name = value_at_end_same p q past b.scope name ∙ ap (λ (s : ℕ). value_at_end q s name) same.scope in
            ap (λ (e : EdgePaths). fixed_with e b.block (value_at_end p b.scope name) asked name) same.paths
            ∙ (ap (λ (l : List Bound). fixed_with c.paths l (value_at_end p b.scope name) asked name) same.block
            ∙ ap (λ (v : Option (List ℕ)). fixed_with c.paths c.block v asked name) value)

    module _ (b c : Build) (same : SameBuild b c) where
      module _ (r k : Rule) (rules : SameRule r k) where
        value_same : (name one other : List ℕ) → IsValueOf b r p name one → IsValueOf c k q name other → one ≡ other
        value_same name one other is is' = one_value (opened_in c k) (fixed_in c q name) name one other
            (subst (λ (o : List ℕ → Option Template). IsValueAtUse o (fixed_in c q name) name one) (opened_same b c r k same rules)
            (subst (λ (f : List ℕ → List ℕ). IsValueAtUse (opened_in b r) f name one) (fixed_same b c same name) is)) is'

        values_one : (v w : Values) → AreValuesOf b r p v → AreValuesOf c k q w → v ≡ w
        values_one v w one other =
            let e1 : v.command ≡ w.command = value_same (codes "command") v.command w.command one.command other.command in
            let e2 : v.depfile ≡ w.depfile = value_same (codes "depfile") v.depfile w.depfile one.depfile other.depfile in
            let e3 : v.deps ≡ w.deps = value_same (codes "deps") v.deps w.deps one.deps other.deps in
            let e4 : v.dyndep ≡ w.dyndep = value_same (codes "dyndep") v.dyndep w.dyndep one.dyndep other.dyndep in
            let e5 : v.description ≡ w.description = value_same (codes "description") v.description w.description one.description other.description in
            let e6 : v.pool ≡ w.pool = value_same (codes "pool") v.pool w.pool one.pool other.pool in
            let e7 : v.restat ≡ w.restat = value_same (codes "restat") v.restat w.restat one.restat other.restat in
            let e8 : v.rspfile ≡ w.rspfile = value_same (codes "rspfile") v.rspfile w.rspfile one.rspfile other.rspfile in
            let e9 : v.rspfile_content ≡ w.rspfile_content = value_same (codes "rspfile_content") v.rspfile_content w.rspfile_content one.rspfile_content other.rspfile_content in
            values_same v.command w.command v.depfile w.depfile v.deps w.deps v.dyndep w.dyndep v.description w.description v.pool w.pool v.restat w.restat v.rspfile w.rspfile v.rspfile_content w.rspfile_content e1 e2 e3 e4 e5 e6 e7 e8 e9

        expanded_agree : Agree {X = Values} {Y = Values} Eq (ExpandedValues p b r) (ExpandedValues q c k)
        expanded_agree =
            let opens : opened_in b r ≡ opened_in c k = opened_same b c r k same rules in
            unless_agree {X = Values} {Y = Values} Eq (LeadsIntoCircle (opened_in b r)) (LeadsIntoCircle (opened_in c k)) (fault_at b.place (Circle b.rule_name)) (fault_at c.place (Circle c.rule_name)) _ _
            (subst LeadsIntoCircle opens) (subst LeadsIntoCircle (sym opens)) (fault_same b c (λ (x : Build). Circle x.rule_name) same (ap (λ (n : List ℕ). Circle n) same.rule_name))
            (unless_agree {X = Values} {Y = Values} Eq (HasLargeValue b r p) (HasLargeValue c k q) (fault_at b.place (Line TooLarge)) (fault_at c.place (Line TooLarge)) _ _
            (large_moves b c r k p q opens (fixed_same b c same)) (large_moves c b k r q p (sym opens) (λ asked. sym (fixed_same b c same asked)))
            (fault_same b c (λ _. Line TooLarge) same refl)
            (where_agree {X = Values} {Y = Values} {Z = Values} {W = Values} Eq Eq (AreValuesOf b r p) (AreValuesOf c k q) (λ (values : Values). Give values) (λ (values : Values). Give values)
            values_one (λ x y e. give_agree {X = Values} {Y = Values} Eq x y e)))

        module _ (pools : List Pool) where
          abbrev After : Build → Values → Outcome Values → Type 0
          After build values = Then (CheckedPool pools build values) (λ _. Then (CheckedDeps build values) (λ _. Give values))

          after_agree : (v : Values) → Agree {X = Values} {Y = Values} Eq (After b v) (After c v)
          after_agree v =
              then_agree {X = Unit {0}} {Y = Unit {0}} {Z = Values} {W = Values} Eq Eq (CheckedPool pools b v) (CheckedPool pools c v) (λ _. Then (CheckedDeps b v) (λ _. Give v)) (λ _. Then (CheckedDeps c v) (λ _. Give v))
              (checked_pool pools b c same v)
              (λ _ _ _. then_agree {X = Unit {0}} {Y = Unit {0}} {Z = Values} {W = Values} Eq Eq (CheckedDeps b v) (CheckedDeps c v) (λ _. Give v) (λ _. Give v) (checked_deps b c same v)
              (λ _ _ _. give_agree {X = Values} {Y = Values} Eq v v refl))

          command_agree : Agree {X = Values} {Y = Values} Eq (CommandValues p pools b r) (CommandValues q pools c k)
          command_agree =
              then_agree {X = Values} {Y = Values} {Z = Values} {W = Values} Eq Eq (ExpandedValues p b r) (ExpandedValues q c k) (After b) (After c) expanded_agree
              (λ v w e. subst (λ (z : Values). Agree {X = Values} {Y = Values} Eq (After b v) (After c z)) e (after_agree v))

      module _ (pools : List Pool) where
        rule_agree : (one other : Option Rule) → SameOption SameRule one other → Agree {X = Option Values} {Y = Option Values} Eq (ValuesOfRule p pools b one) (ValuesOfRule q pools c other)
        rule_agree None None rules = give_agree {X = Option Values} {Y = Option Values} Eq None None refl
        rule_agree None (Some k) rules = absurd rules
        rule_agree (Some r) None rules = absurd rules
        rule_agree (Some r) (Some k) rules =
            then_agree {X = Values} {Y = Values} {Z = Option Values} {W = Option Values} Eq Eq (CommandValues p pools b r) (CommandValues q pools c k)
            (λ (values : Values). Give (Some values)) (λ (values : Values). Give (Some values)) (command_agree r k rules pools)
            (λ v w e. give_agree {X = Option Values} {Y = Option Values} Eq (Some v) (Some w) (ap (λ (z : Values). Some z) e))

        abbrev EdgeFor : EdgePaths → Option Values → Outcome Edge → Type 0
        EdgeFor paths values = Where (IsEdgeFor paths values) (λ (edge : Edge). Give edge)

        for_agree : (v : Option Values) → Agree {X = Edge} {Y = Edge} Eq (EdgeFor b.paths v) (EdgeFor c.paths v)
        for_agree v =
            where_agree {X = Edge} {Y = Edge} {Z = Edge} {W = Edge} Eq Eq (IsEdgeFor b.paths v) (IsEdgeFor c.paths v) (λ (edge : Edge). Give edge) (λ (edge : Edge). Give edge)
            (λ x y one other. edge_one c.paths v x y (subst (λ (e : EdgePaths). IsEdgeFor e v x) same.paths one) other)
            (λ x y e. give_agree {X = Edge} {Y = Edge} Eq x y e)

        pub edge_agree : Agree {X = Edge} {Y = Edge} Eq (OfEdge p pools b) (OfEdge q pools c)
        edge_agree =
            then_agree {X = Option Values} {Y = Option Values} {Z = Edge} {W = Edge} Eq Eq (ValuesOf p pools b) (ValuesOf q pools c) (EdgeFor b.paths) (EdgeFor c.paths)
            (rule_agree b.rule c.rule same.rule)
            (λ v w e. subst (λ (z : Option Values). Agree {X = Edge} {Y = Edge} Eq (EdgeFor b.paths v) (EdgeFor c.paths z)) e (for_agree v))

    pub edges_agree : (pools : List Pool) (bs cs : List Build) → SameBuilds bs cs → (before : List Edge)
        → Agree {X = List Edge} {Y = List Edge} Eq (OfEdges p pools bs before) (OfEdges q pools cs before)
    edges_agree pools [] [] same before = give_agree {X = List Edge} {Y = List Edge} Eq before before refl
    edges_agree pools [] (c ∷ cs) same before = absurd same
    edges_agree pools (b ∷ bs) [] same before = absurd same
    edges_agree pools (b ∷ bs) (c ∷ cs) same before =
        then_agree {X = Edge} {Y = Edge} {Z = List Edge} {W = List Edge} Eq Eq (OfEdge p pools b) (OfEdge q pools c)
        (λ edge. OfEdges p pools bs (before ++ edge ∷ [])) (λ edge. OfEdges q pools cs (before ++ edge ∷ [])) (edge_agree b c same.0 pools)
        (λ x y e. subst (λ (z : Edge). Agree {X = List Edge} {Y = List Edge} Eq (OfEdges p pools bs (before ++ x ∷ [])) (OfEdges q pools cs (before ++ z ∷ []))) e
        (edges_agree pools bs cs same.1 (before ++ x ∷ [])))

  -- ---- the graph

  module _ (s t : State) (same : SameState s t) where
    abbrev graph_with : List Edge → List Pool → List Default → List ℕ → BuildGraph
    graph_with edges pools defaults builddir = record {
      edges = edges;
      pools = pools;
      defaults = map (λ (default : Default). default.path) defaults;
      builddir = builddir;
    }

    builddir_same : builddir_in s.past ≡ builddir_in t.past
    builddir_same = ap (λ (o : Option (List ℕ)). unwrap_or o []) (value_at_end_same s.past t.past same.past 0 (codes "builddir"))

    graph_same : (edges : List Edge) → graph_of s edges ≡ graph_of t edges
    graph_same edges =
        ap (λ (l : List Pool). graph_with edges l s.defaults (builddir_in s.past)) same.pools
        ∙ (ap (λ (l : List Default). graph_with edges t.pools l (builddir_in s.past)) same.defaults
        ∙ ap (λ (d : List ℕ). graph_with edges t.pools t.defaults d) builddir_same)

    all_edges_agree : Agree {X = List Edge} {Y = List Edge} Eq (OfEdges s.past s.pools s.builds []) (OfEdges t.past t.pools t.builds [])
    all_edges_agree = subst (λ (l : List Pool). Agree {X = List Edge} {Y = List Edge} Eq (OfEdges s.past s.pools s.builds []) (OfEdges t.past l t.builds [])) same.pools
        (edges_agree s.past t.past same.past s.pools s.builds t.builds same.builds [])

    all_defaults_agree : Agree {X = Unit {0}} {Y = Unit {0}} Eq (OfDefaults (named s.builds) s.defaults) (OfDefaults (named t.builds) t.defaults)
    all_defaults_agree =
        subst (λ (l : List Default). Agree {X = Unit {0}} {Y = Unit {0}} Eq (OfDefaults (named s.builds) s.defaults) (OfDefaults (named t.builds) l)) same.defaults
        (subst (λ (l : List (List ℕ)). Agree {X = Unit {0}} {Y = Unit {0}} Eq (OfDefaults (named s.builds) s.defaults) (OfDefaults l s.defaults)) (named_same s.builds t.builds same.builds)
        (defaults_one (named s.builds) s.defaults))

    abbrev Ends : State → List Edge → Outcome BuildGraph → Type 0
    Ends state edges = Then (OfDefaults (named state.builds) state.defaults) (λ _. Give (graph_of state edges))

    ends_agree : (edges : List Edge) → Agree {X = BuildGraph} {Y = BuildGraph} Eq (Ends s edges) (Ends t edges)
    ends_agree edges =
        then_agree {X = Unit {0}} {Y = Unit {0}} {Z = BuildGraph} {W = BuildGraph} Eq Eq (OfDefaults (named s.builds) s.defaults) (OfDefaults (named t.builds) t.defaults)
        (λ _. Give (graph_of s edges)) (λ _. Give (graph_of t edges)) all_defaults_agree
        (λ _ _ _. give_agree {X = BuildGraph} {Y = BuildGraph} Eq (graph_of s edges) (graph_of t edges) (graph_same edges))

  pub at_end_same : (s t : State) → SameState s t → Agree {X = BuildGraph} {Y = BuildGraph} (λ x y. x ≡ y) (AtEnd s) (AtEnd t)
  at_end_same s t same =
      then_agree {X = List Edge} {Y = List Edge} {Z = BuildGraph} {W = BuildGraph} Eq Eq (OfEdges s.past s.pools s.builds []) (OfEdges t.past t.pools t.builds [])
      (Ends s t same s) (Ends s t same t) (all_edges_agree s t same)
      (λ x y e. subst (λ (z : List Edge). Agree {X = BuildGraph} {Y = BuildGraph} Eq (Ends s t same s x) (Ends s t same t z)) e (ends_agree s t same x))
