-- What is known of the rule's texts while they are expanded in order.
use Rattle.std.proofs.Common.{◌≡◌, ◌⊎◌, inl, inr, ◌<◌, ◌≤◌, ◌+◌, ◌||◌, ℕ, Bool, true, false, cond, List, [], ◌∷◌, ◌++◌, length, take, get_or, map, Option, None, Some, is_some, IsSome, unwrap_or, codes, refl, sym, ◌∙◌, ap, subst}
use Rattle.std.specs.Str.{bytes_eq}
use Rattle.std.specs.Map.Iter.{deref}
use Rattle.std.proofs.lemmas.Bool.{false≢true}
use Rattle.indexmap.specs.IndexMap.{get_by_text}
use Rattle.scopes.specs.declared.template.Template.{Template}
use Rattle.scopes.specs.declared.usage.Use.{Use}
use Rattle.scopes.specs.declared.usage.Paths.{Paths}
use Rattle.scopes.specs.declared.all_scopes.Scopes.{Scopes}
use Rattle.scopes.specs.declared.at_use.Known.{Known}
use Rattle.scopes.specs.Block.{block_value}
use Rattle.scopes.specs.Rule.{template_of}
use Rattle.scopes.specs.Texts.{joined, largest_value}
use Rattle.scopes.specs.Moves.{Move, or_else, value_at_end}
use Rattle.scopes.specs.Scopes.{IsScopesOf}
use Rattle.scopes.specs.Use.{opened, fixed, paths_for, special_value, unless_bound, has, Follows, IsOrderFrom, IsValueAtUse, Fixed, Opened}
use Rattle.scopes.specs.Known.{known_value, text_of, Learns}
use Rattle.std.proofs.lemmas.List.{take_more, take_all}
use Rattle.scopes.specs.Large.{IsTooLargeAtUse}
use Rattle.scopes.proofs.Valuing.{order_at, large_whole, way_opened}
use Rattle.text.proofs.Plain.{same_bytes, bytes_eq-same}
use Rattle.scopes.proofs.Walking.{has_cases}

pub record Knows (scopes : Scopes) (at : Use) (asked : List ℕ) (known : Known) (done : List (List ℕ)) : Type 0 where
  pub scopes_are : known.scopes.now ≡ scopes
  pub at_is : known.at.now ≡ at
  pub paths_are : known.paths ≡ paths_for at asked
  pub opens : (y v : List ℕ) → get_by_text known.values y ≡ Some v → IsSome (opened at y)
  pub right : (y v : List ℕ) → get_by_text known.values y ≡ Some v → (past : List Move) → IsScopesOf scopes past → IsValueAtUse (opened at) (fixed at asked past) y v
  pub all : (y : List ℕ) → has done y ≡ true → IsSome (get_by_text known.values y)

pub knows_none : (scopes : Scopes) (at : Use) (asked : List ℕ) (known : Known) → known.scopes.now ≡ scopes → known.at.now ≡ at → known.paths ≡ paths_for at asked
    → ((y : List ℕ) → get_by_text known.values y ≡ None) → Knows scopes at asked known []
knows_none scopes at asked known s a p none = record {
  scopes_are = s;
  at_is = a;
  paths_are = p;
  opens = λ y v is. absurd (clash y v is);
  right = λ y v is. absurd (clash y v is);
  all = λ y h. absurd (false≢true h);
}
  where
    clash : (y v : List ℕ) → get_by_text known.values y ≡ Some v → ⊥
    clash y v is = let e : None ≡ Some v = sym (none y) ∙ is in cc

-- what a name stands for, of its parts
abbrev looked_up : Paths → Use → Option (List ℕ) → List Move → List ℕ → List ℕ
looked_up paths at value past name = unwrap_or (special_value paths name) (unwrap_or (or_else (block_value at.block.now name) (or_else value (value_at_end past at.scope name))) [])

-- a name that stands for a text of the rule stands for nothing else
opened_alone : (at : Use) (paths : Paths) (name : List ℕ) → IsSome (opened at name) → (special_value paths name ≡ None) × (block_value at.block.now name ≡ None)
opened_alone at paths name some = by (bytes_eq name (codes "in")) (bytes_eq name (codes "out")) (bytes_eq name (codes "in_newline")) (block_value at.block.now name) (template_of at.rule.now name) some
  where
    by : (a b c : Bool) (o : Option (List ℕ)) (t : Option Template) → IsSome (cond (a || (b || c)) None (unless_bound o t))
        → (cond a (Some (joined (32 ∷ []) (map deref paths.inputs.now))) (cond b (Some (joined (32 ∷ []) (map deref paths.outputs.now))) (cond c (Some (joined (10 ∷ []) (map deref paths.inputs.now))) None)) ≡ None) × (o ≡ None)
    by true b c o t is = absurd (false≢true is)
    by false true c o t is = absurd (false≢true is)
    by false false true o t is = absurd (false≢true is)
    by false false false None t is = (refl, refl)
    by false false false (Some v) t is = absurd (false≢true is)

module _ (scopes : Scopes) (at : Use) (asked : List ℕ) (known : Known) (done : List (List ℕ)) (knows : Knows scopes at asked known done) where
  pub knows_value : (past : List Move) → IsScopesOf scopes past → (y : List ℕ) → (IsSome (opened at y) → has done y ≡ true) → IsValueAtUse (opened at) (fixed at asked past) y (known_value known past y)
  knows_value past is y listed = subst (IsValueAtUse (opened at) (fixed at asked past) y) (sym same) (by (opened at y) refl (get_by_text known.values y) refl)
    where
      same : known_value known past y ≡ looked_up (paths_for at asked) at (get_by_text known.values y) past y
      same = ap (λ (p : Paths). looked_up p known.at.now (get_by_text known.values y) past y) knows.paths_are ∙ ap (λ (u : Use). looked_up (paths_for at asked) u (get_by_text known.values y) past y) knows.at_is

      by : (o : Option Template) → opened at y ≡ o → (w : Option (List ℕ)) → get_by_text known.values y ≡ w → IsValueAtUse (opened at) (fixed at asked past) y (looked_up (paths_for at asked) at w past y)
      by None closed None found = Fixed y (looked_up (paths_for at asked) at None past y) closed refl
      by None closed (Some v) found = absurd (false≢true (sym (ap is_some closed) ∙ knows.opens y v found))
      by (Some t) is_open None found = absurd (false≢true (sym (ap is_some found) ∙ knows.all y (listed (ap is_some is_open))))
      by (Some t) is_open (Some v) found =
          let alone = opened_alone at (paths_for at asked) y (ap is_some is_open) in
          let value : looked_up (paths_for at asked) at (Some v) past y ≡ v =
          ap (λ (s : Option (List ℕ)). unwrap_or s (unwrap_or (or_else (block_value at.block.now y) (Some v)) [])) alone.0 ∙ ap (λ (b : Option (List ℕ)). unwrap_or (or_else b (Some v)) []) alone.1 in
          subst (IsValueAtUse (opened at) (fixed at asked past) y) (sym value) (knows.right y v found past is)

  -- the text of a name whose names are done
  pub knows_text : (past : List Move) → IsScopesOf scopes past → (name : List ℕ) (follows : Follows (opened at) done name) → IsValueAtUse (opened at) (fixed at asked past) name (text_of known past follows.template)
  knows_text past is name follows = Opened name (text_of known past follows.template) follows.template (known_value known past) follows.opens_to (λ o named. knows_value past is o (follows.named o named)) refl

  pub knows_more : (name : List ℕ) (follows : Follows (opened at) done name) (new : Known) (value : List ℕ) → new.scopes.now ≡ scopes → new.at.now ≡ at → new.paths ≡ paths_for at asked → Learns known new name value
      → ((past : List Move) → IsScopesOf scopes past → value ≡ text_of known past follows.template) → Knows scopes at asked new (done ++ name ∷ [])
  knows_more name follows new value s a p learns text = record {
    scopes_are = s;
    at_is = a;
    paths_are = p;
    opens = λ y v found. opens_by y v (bytes_eq name y) refl (sym (learns y) ∙ found);
    right = λ y v found. right_by y v (bytes_eq name y) refl (sym (learns y) ∙ found);
    all = λ y h. ap is_some (learns y) ∙ all_by y (bytes_eq name y) refl (has_cases done name y h);
  }
    where
      opens_by : (y v : List ℕ) (b : Bool) → bytes_eq name y ≡ b → cond b (Some value) (get_by_text known.values y) ≡ Some v → IsSome (opened at y)
      opens_by y v true same found = subst (λ (n : List ℕ). IsSome (opened at n)) (same_bytes name y same) (ap is_some follows.opens_to)
      opens_by y v false other found = knows.opens y v found

      right_by : (y v : List ℕ) (b : Bool) → bytes_eq name y ≡ b → cond b (Some value) (get_by_text known.values y) ≡ Some v → (past : List Move) → IsScopesOf scopes past → IsValueAtUse (opened at) (fixed at asked past) y v
      right_by y v true same found past is =
          let e : value ≡ v = cc in
          subst (λ (n : List ℕ). IsValueAtUse (opened at) (fixed at asked past) n v) (same_bytes name y same)
          (subst (IsValueAtUse (opened at) (fixed at asked past) name) (sym (text past is) ∙ e) (knows_text past is name follows))
      right_by y v false other found past is = knows.right y v found past is

      all_by : (y : List ℕ) (b : Bool) → bytes_eq name y ≡ b → (has done y ≡ true) ⊎ (name ≡ y) → is_some (cond b (Some value) (get_by_text known.values y)) ≡ true
      all_by y true same cases = refl
      all_by y false other (inl old) = knows.all y old
      all_by y false other (inr new) = absurd (false≢true (sym other ∙ (ap (bytes_eq name) (sym new) ∙ bytes_eq-same name)))

-- one text more is learnt
module _ (scopes : Scopes) (at : Use) (asked : List ℕ) (known : Known) (items : List (List ℕ)) (i : ℕ) (name : List ℕ) (knows : Knows scopes at asked known (take i items))
    (order : IsOrderFrom (opened at) asked items) (low : i < length items) (is_name : name ≡ get_or items i name) where
  placed : Follows (opened at) (take i items) name × (has items name ≡ true)
  placed = order_at (opened at) [] items i name order.ordered low is_name

  opens_now : opened known.at.now name ≡ Some placed.0.template
  opens_now = ap (λ (u : Use). opened u name) knows.at_is ∙ placed.0.opens_to

  scopes_now : (past : List Move) → IsScopesOf scopes past → IsScopesOf known.scopes.now past
  scopes_now past is = subst (λ (s : Scopes). IsScopesOf s past) (sym knows.scopes_are) is

  pub knows_learnt : (new : Known) → new.scopes ≡ known.scopes → new.at ≡ known.at → new.paths ≡ known.paths
      → ((template : Template) → opened known.at.now name ≡ Some template → (value : List ℕ) × Learns known new name value × ((past : List Move) → IsScopesOf known.scopes.now past → value ≡ text_of known past template))
      → Knows scopes at asked new (take (i + 1) items)
  knows_learnt new s a p learns =
      let learnt = learns placed.0.template opens_now in
      let more : take (i + 1) items ≡ take i items ++ name ∷ [] = take_more items i name low ∙ ap (λ (n : List ℕ). take i items ++ n ∷ []) (sym is_name) in
      subst (Knows scopes at asked new) (sym more)
      (knows_more scopes at asked known (take i items) knows name placed.0 new learnt.0 (ap (λ x. x.now) s ∙ knows.scopes_are) (ap (λ x. x.now) a ∙ knows.at_is) (p ∙ knows.paths_are) learnt.1
      (λ past is. learnt.2 past (scopes_now past is)))

  pub knows_here : (value : List ℕ) → ((template : Template) → opened known.at.now name ≡ Some template → (past : List Move) → IsScopesOf known.scopes.now past → value ≡ text_of known past template)
      → (past : List Move) → IsScopesOf scopes past → IsValueAtUse (opened at) (fixed at asked past) name value
  knows_here value text past is =
      subst (IsValueAtUse (opened at) (fixed at asked past) name) (sym (text placed.0.template opens_now past (scopes_now past is))) (knows_text scopes at asked known (take i items) knows past is name placed.0)

  pub knows_large : ((template : Template) → opened known.at.now name ≡ Some template → (past : List Move) → IsScopesOf known.scopes.now past → largest_value < length (text_of known past template))
      → (past : List Move) → IsScopesOf scopes past → IsTooLargeAtUse (opened at) (fixed at asked past) asked
  knows_large large past is =
      large_whole (opened at) (fixed at asked past) asked items order (way_opened (opened at) asked name placed.0.template (order.on_the_way name placed.1) placed.0.opens_to) name
      (text_of known past placed.0.template) placed.1 (knows_text scopes at asked known (take i items) knows past is name placed.0)
      (large placed.0.template opens_now past (scopes_now past is))

-- all texts are learnt
module _ (scopes : Scopes) (at : Use) (asked : List ℕ) (known : Known) (items : List (List ℕ)) (i : ℕ) (knows : Knows scopes at asked known (take i items))
    (order : IsOrderFrom (opened at) asked items) (high : length items ≤ i) where
  pub knows_asked : (past : List Move) → IsScopesOf scopes past → IsValueAtUse (opened at) (fixed at asked past) asked (known_value known past asked)
  knows_asked past is = knows_value scopes at asked known (take i items) knows past is asked (λ some. ap (λ (l : List (List ℕ)). has l asked) (take_all i items high) ∙ order.all some)

  pub knows_all_scopes : (past : List Move) → IsScopesOf scopes past → IsScopesOf known.scopes.now past
  knows_all_scopes past is = subst (λ (s : Scopes). IsScopesOf s past) (sym knows.scopes_are) is
