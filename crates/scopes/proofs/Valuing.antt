-- The values of rule variables where their rule is used.
use Rattle.std.proofs.Common.{◌≡◌, inl, inr, ◌<◌, ◌≤◌, ℕ, zero, suc, Bool, true, false, List, [], ◌∷◌, ◌++◌, length, take, get_or, Option, None, Some, is_some, IsSome, refl, sym, ◌∙◌, ap, subst, arith, append_assoc}
use Rattle.std.specs.Str.{bytes_eq}
use Rattle.std.proofs.lemmas.Bool.{false≢true}
use Rattle.std.proofs.lemmas.List.{length-append}
use Rattle.scopes.specs.declared.template.Template.{Template}
use Rattle.scopes.specs.declared.template.Part.{Part}
use Rattle.scopes.specs.declared.template.Part.TheVariants.{Text, Name}
use Rattle.scopes.specs.Texts.{names, expansion, largest_value}
use Rattle.scopes.specs.Use.{has, Names, Leads, Once, More, IsOnTheWay, HasCircle, Follows, IsOrder, IsOrderFrom, IsValueAtUse, Fixed, Opened}
use Rattle.scopes.specs.Large.{IsTooLargeAtUse}
use Rattle.text.proofs.Plain.{same_bytes, bytes_eq-same, or_false}
use Rattle.scopes.proofs.Walking.{has_cases, or_left, or_right'}

-- a text reads only the names that it has
same_expansion : (f g : List ℕ → List ℕ) (parts : List Part) → ((o : List ℕ) → names parts o ≡ true → f o ≡ g o) → expansion f parts ≡ expansion g parts
same_expansion f g [] same = refl
same_expansion f g (Text text ∷ parts) same = ap (λ (l : List ℕ). text ++ l) (same_expansion f g parts same)
same_expansion f g (Name name ∷ parts) same =
    ap (λ (l : List ℕ). l ++ expansion f parts) (same name (or_left (bytes_eq name name) (names parts name) (bytes_eq-same name)))
    ∙ ap (λ (l : List ℕ). g name ++ l) (same_expansion f g parts (λ o h. same o (or_right' (bytes_eq name o) (names parts o) h)))

-- and holds the value of each
holds : (f : List ℕ → List ℕ) (parts : List Part) (o : List ℕ) → names parts o ≡ true → length (f o) ≤ length (expansion f parts)
holds f [] o named = absurd (false≢true named)
holds f (Text text ∷ parts) o named = omega (arith, holds f parts o named, length-append text (expansion f parts))
holds f (Name name ∷ parts) o named = elim (or_false (bytes_eq name o) (names parts o) named) [
  | inl here ↦ let e : length (f name) ≡ length (f o) = ap (λ (n : List ℕ). length (f n)) (same_bytes name o here) in omega (arith, e, length-append (f name) (expansion f parts))
  | inr there ↦ omega (arith, holds f parts o there, length-append (f name) (expansion f parts))
]

module _ (opens : List ℕ → Option Template) (fixed : List ℕ → List ℕ) where
  clash : (name : List ℕ) (t : Template) → opens name ≡ None → opens name ≡ Some t → ⊥
  clash name t none some = let e : None ≡ Some t = sym none ∙ some in cc

  -- a name has one value
  pub one_value : (name v w : List ℕ) → IsValueAtUse opens fixed name v → IsValueAtUse opens fixed name w → v ≡ w
  one_value name v w (Fixed n x none is) (Fixed m y none' is') = is ∙ sym is'
  one_value name v w (Fixed n x none is) (Opened m y t values some each is') = absurd (clash name t none some)
  one_value name v w (Opened n x t values some each is) (Fixed m y none is') = absurd (clash name t none some)
  one_value name v w (Opened n x t f some each is) (Opened m y u g some' each' is') =
      let same : t ≡ u = (let e : Some t ≡ Some u = sym some ∙ some' in cc) in
      is ∙ (same_expansion f g t.parts (λ o h. one_value o (f o) (g o) (each o h) (each' o (ap (λ (x : Template). names x.parts o) (sym same) ∙ h)))
      ∙ (ap (λ (x : Template). expansion g x.parts) same ∙ sym is'))

  -- the value of a name holds that of each name on the way
  named_holds : (name v other w : List ℕ) → IsValueAtUse opens fixed name v → Names opens name other → (x : List ℕ) × IsValueAtUse opens fixed other x × (length x ≤ length v)
  named_holds name v other w (Fixed n x none is) named = absurd (clash name named.template none named.opens_to)
  named_holds name v other w (Opened n x t values some each is) named =
      let same : named.template ≡ t = (let e : Some named.template ≡ Some t = sym named.opens_to ∙ some in cc) in
      let in_t : names t.parts other ≡ true = ap (λ (y : Template). names y.parts other) (sym same) ∙ named.named in
      let long : length v ≡ length (expansion values t.parts) = ap length is in
      (values other, each other in_t, omega (arith, long, holds values t.parts other in_t))

  pub way_holds : (name other v w : List ℕ) → Leads opens name other → IsValueAtUse opens fixed name v → IsValueAtUse opens fixed other w → length w ≤ length v
  way_holds name other v w (Once n o named) value inner =
      let found = named_holds name v other w value named in
      let same : length w ≡ length found.0 = ap length (one_value other w found.0 inner found.1) in
      omega (arith, same, found.2)
  way_holds name other v w (More n next o named leads) value inner =
      let found = named_holds name v next w value named in
      let rest = way_holds next other found.0 w leads found.1 inner in
      omega (arith, rest, found.2)

  -- a name with a value is on no circle
  pub no_circle : (name v : List ℕ) → IsValueAtUse opens fixed name v → Leads opens name name → ⊥
  no_circle name v (Fixed n x none is) (Once a b named) = clash name named.template none named.opens_to
  no_circle name v (Fixed n x none is) (More a next b named leads) = clash name named.template none named.opens_to
  no_circle name v (Opened n x t values some each is) (Once a b named) =
      let same : named.template ≡ t = (let e : Some named.template ≡ Some t = sym named.opens_to ∙ some in cc) in
      no_circle name (values name) (each name (ap (λ (y : Template). names y.parts name) (sym same) ∙ named.named)) (Once name name named)
  no_circle name v (Opened n x t values some each is) (More a next b named leads) =
      let same : named.template ≡ t = (let e : Some named.template ≡ Some t = sym named.opens_to ∙ some in cc) in
      no_circle next (values next) (each next (ap (λ (y : Template). names y.parts next) (sym same) ∙ named.named)) (around next leads)
    where
      around : (start : List ℕ) → Leads opens start name → Leads opens start next
      around start (Once c d m) = More start name next m (Once name next named)
      around start (More c e d m l) = More start e next m (around e l)

  -- each name on the way has a value
  way_value : (name other v : List ℕ) → Leads opens name other → IsValueAtUse opens fixed name v → (w : List ℕ) × IsValueAtUse opens fixed other w
  way_value name other v (Once n o named) value = let found = named_holds name v other v value named in (found.0, found.1)
  way_value name other v (More n next o named leads) value = let found = named_holds name v next v value named in way_value next other found.0 leads found.1

  pub no_circle_on_the_way : (name v : List ℕ) → IsValueAtUse opens fixed name v → HasCircle opens name → ⊥
  no_circle_on_the_way name v value circle = elim circle.on_the_way [
    | inl same ↦ no_circle circle.at v (subst (λ (n : List ℕ). IsValueAtUse opens fixed n v) same value) circle.circle
    | inr leads ↦ let inner = way_value name circle.at v leads value in no_circle circle.at inner.0 inner.1 circle.circle
  ]

  -- each name in an order has a value
  pub next_value : (before : List (List ℕ)) → ((y : List ℕ) → has before y ≡ true → (v : List ℕ) × IsValueAtUse opens fixed y v) → (name : List ℕ) → Follows opens before name → (v : List ℕ) × IsValueAtUse opens fixed name v
  next_value before known name follows = (
    expansion (λ y. (pick y).0) follows.template.parts,
    Opened name _ follows.template (λ y. (pick y).0) follows.opens_to (λ o named. (pick o).1 named) refl,
  )
    where
      by : (y : List ℕ) (o : Option Template) → opens y ≡ o → (b : Bool) → has before y ≡ b → (v : List ℕ) × (names follows.template.parts y ≡ true → IsValueAtUse opens fixed y v)
      by y None is b h = (fixed y, λ _. Fixed y (fixed y) is refl)
      by y (Some t) is true h = ((known y h).0, λ _. (known y h).1)
      by y (Some t) is false h = ([], λ named. absurd (false≢true (sym h ∙ follows.named y named (ap is_some is))))

      pick : (y : List ℕ) → (v : List ℕ) × (names follows.template.parts y ≡ true → IsValueAtUse opens fixed y v)
      pick y = by y (opens y) refl (has before y) refl

  pub order_values : (before es : List (List ℕ)) → ((y : List ℕ) → has before y ≡ true → (v : List ℕ) × IsValueAtUse opens fixed y v) → IsOrder opens before es
      → (y : List ℕ) → has es y ≡ true → (v : List ℕ) × IsValueAtUse opens fixed y v
  order_values before [] known order y h = absurd (false≢true h)
  order_values before (e ∷ es) known order y h = elim (or_false (bytes_eq e y) (has es y) h) [
    | inl here ↦ subst (λ (n : List ℕ). (v : List ℕ) × IsValueAtUse opens fixed n v) (same_bytes e y here) (next_value before known e order.0)
    | inr there ↦ order_values (before ++ e ∷ []) es
        (λ z hz. elim (has_cases before e z hz) [ inl old ↦ known z old | inr new ↦ subst (λ (n : List ℕ). (v : List ℕ) × IsValueAtUse opens fixed n v) new (next_value before known e order.0) ])
        order.1 y there
  ]

  -- a text on the way that is too large makes the value too large
  pub large_whole : (asked : List ℕ) (order : List (List ℕ)) → IsOrderFrom opens asked order → IsSome (opens asked) → (name w : List ℕ) → has order name ≡ true → IsValueAtUse opens fixed name w → largest_value < length w
      → IsTooLargeAtUse opens fixed asked
  large_whole asked order is some name w listed value large =
      let whole = order_values [] order (λ y h. absurd (false≢true h)) is.ordered asked (is.all some) in
      record {
        value = whole.0;
        is_value = whole.1;
        large = elim (is.on_the_way name listed) [
          | inl same ↦ let e : length whole.0 ≡ length w = ap length (one_value name whole.0 w (subst (λ (n : List ℕ). IsValueAtUse opens fixed n whole.0) same whole.1) value) in omega (arith, e, large)
          | inr leads ↦ let more = way_holds asked name whole.0 w leads whole.1 value in omega (arith, more, large)
        ];
      }

-- the name at a place of an order
pub order_at : (opens : List ℕ → Option Template) (before es : List (List ℕ)) (i : ℕ) (x : List ℕ) → IsOrder opens before es → i < length es → x ≡ get_or es i x → Follows opens (before ++ take i es) x × (has es x ≡ true)
order_at opens before [] i x order low is = absurd (omega (arith, low))
order_at opens before (e ∷ es) zero x order low is =
    (subst (Follows opens (before ++ [])) (sym is) (subst (λ (l : List (List ℕ)). Follows opens l e) (sym (nothing before)) order.0), or_left (bytes_eq e x) (has es x) (ap (bytes_eq e) is ∙ bytes_eq-same e))
  where
    nothing : (l : List (List ℕ)) → l ++ [] ≡ l
    nothing [] = refl
    nothing (y ∷ ys) = ap (λ (m : List (List ℕ)). y ∷ m) (nothing ys)
order_at opens before (e ∷ es) (suc i) x order low is =
    let rest = order_at opens (before ++ e ∷ []) es i x order.1 (omega (arith, low)) is in
    (subst (λ (l : List (List ℕ)). Follows opens l x) (append_assoc before (e ∷ []) (take i es)) rest.0, or_right' (bytes_eq e x) (has es x) rest.1)

-- what leads anywhere is a text of the rule
pub way_opened : (opens : List ℕ → Option Template) (name other : List ℕ) (t : Template) → IsOnTheWay opens name other → opens other ≡ Some t → IsSome (opens name)
way_opened opens name other t (inl same) is = ap is_some (ap opens same ∙ is)
way_opened opens name other t (inr (Once n o named)) is = ap is_some named.opens_to
way_opened opens name other t (inr (More n next o named leads)) is = ap is_some named.opens_to
