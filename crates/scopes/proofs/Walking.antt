-- What stands after one more step of a walk along the names of a rule's texts.
use Rattle.std.proofs.Common.{◌≡◌, ◌⊎◌, inl, inr, ◌<◌, ◌≤◌, ◌+◌, ◌||◌, not, ℕ, zero, suc, Bool, true, false, cond, List, [], ◌∷◌, ◌++◌, length, get_or, reverse, Option, None, Some, is_some, IsSome, String, string_bytes, Global, refl, sym, ◌∙◌, ap, subst, arith, append_assoc}
use Rattle.std.specs.Map.{lookup}
use Rattle.std.specs.Str.{bytes_eq}
use Rattle.std.proofs.lemmas.Bool.{false≢true}
use Rattle.std.proofs.lemmas.List.{reverse-append, append-nil}
use Rattle.text.proofs.Plain.{same_bytes, bytes_eq-same, or_false}
use Rattle.scopes.specs.declared.template.Template.{Template}
use Rattle.scopes.specs.declared.template.Part.{Part}
use Rattle.scopes.specs.declared.template.Part.TheVariants.{Text, Name}
use Rattle.scopes.specs.Texts.{names}
use Rattle.scopes.specs.declared.usage.Use.{Use}
use Rattle.scopes.specs.Block.{block_value}
use Rattle.scopes.specs.Rule.{template_of}
use Rattle.scopes.specs.Use.{opened, is_special, unless_bound, has, Names, Leads, Once, More, IsOnTheWay, HasCircle, Follows, IsOrder}
use Rattle.scopes.specs.Walk.{IsNamedInTurn, IsWalkAt, is_unseen, count_names}
use Rattle.scopes.specs.Steps.{IsReady, IsNext, AllDone, Waits, IsWaiting}

pub or_left : (a b : Bool) → a ≡ true → (a || b) ≡ true
or_left true b is = refl
or_left false b is = absurd (false≢true is)

pub or_right' : (a b : Bool) → b ≡ true → (a || b) ≡ true
or_right' true b is = refl
or_right' false b is = is

pub has_push : (xs : List (List ℕ)) (x y : List ℕ) → has (xs ++ x ∷ []) y ≡ (has xs y || bytes_eq x y)
has_push [] x y = or_nothing (bytes_eq x y)
  where
    or_nothing : (b : Bool) → (b || false) ≡ (false || b)
    or_nothing true = refl
    or_nothing false = refl
has_push (z ∷ xs) x y = ap (λ (b : Bool). bytes_eq z y || b) (has_push xs x y) ∙ or_assoc (bytes_eq z y) (has xs y) (bytes_eq x y)
  where
    or_assoc : (a b c : Bool) → (a || (b || c)) ≡ ((a || b) || c)
    or_assoc true b c = refl
    or_assoc false b c = refl

pub has_cases : (xs : List (List ℕ)) (x y : List ℕ) → has (xs ++ x ∷ []) y ≡ true → (has xs y ≡ true) ⊎ (x ≡ y)
has_cases xs x y is = elim (or_false (has xs y) (bytes_eq x y) (sym (has_push xs x y) ∙ is)) [
  | inl old ↦ inl old
  | inr new ↦ inr (same_bytes x y new)
]

pub has_old : (xs : List (List ℕ)) (x y : List ℕ) → has xs y ≡ true → has (xs ++ x ∷ []) y ≡ true
has_old xs x y is = has_push xs x y ∙ or_left (has xs y) (bytes_eq x y) is

pub has_new : (xs : List (List ℕ)) (x : List ℕ) → has (xs ++ x ∷ []) x ≡ true
has_new xs x = has_push xs x x ∙ or_right' (has xs x) (bytes_eq x x) (bytes_eq-same x)

has_reverse : (xs : List (List ℕ)) (y : List ℕ) → has (reverse xs) y ≡ has xs y
has_reverse [] y = refl
has_reverse (x ∷ xs) y = ap (λ (l : List (List ℕ)). has l y) (reverse-append (x ∷ []) xs) ∙ (has_push (reverse xs) x y ∙ (ap (λ (b : Bool). b || bytes_eq x y) (has_reverse xs y) ∙ or_comm (has xs y) (bytes_eq x y)))
  where
    or_comm : (a b : Bool) → (a || b) ≡ (b || a)
    or_comm true true = refl
    or_comm true false = refl
    or_comm false true = refl
    or_comm false false = refl

pub some_of : {X : Type 0} (o : Option X) → IsSome o → (x : X) × (o ≡ Some x)
some_of None is = absurd (false≢true is)
some_of (Some x) is = (x, refl)

snoc_last : (xs ys : List (List ℕ)) (x y : List ℕ) → xs ++ x ∷ [] ≡ ys ++ y ∷ [] → x ≡ y
snoc_last xs ys x y e = first x y (reverse xs) (reverse ys) (sym (reverse-append xs (x ∷ [])) ∙ (ap reverse e ∙ reverse-append ys (y ∷ [])))
  where
    first : (a b : List ℕ) (as' bs : List (List ℕ)) → a ∷ as' ≡ b ∷ bs → a ≡ b
    first a b as' bs h = cc

module _ (opens : List ℕ → Option Template) where
  pub leads_push : (a b c : List ℕ) → Leads opens a b → Names opens b c → Leads opens a c
  leads_push a b c (Once x y n) m = More a b c n (Once b c m)
  leads_push a b c (More x next y n l) m = More a next c n (leads_push next b c l m)

  pub way_push : (a b c : List ℕ) → IsOnTheWay opens a b → Names opens b c → IsOnTheWay opens a c
  way_push a b c way m = elim way [
    | inl same ↦ inr (Once a c (subst (λ (n : List ℕ). Names opens n c) (sym same) m))
    | inr leads ↦ inr (leads_push a b c leads m)
  ]

  -- each of the stack leads to the last
  leads_top : (t : List ℕ) (rest : List (List ℕ)) → IsNamedInTurn opens (t ∷ rest) → (y : List ℕ) → has (t ∷ rest) y ≡ true → (y ≡ t) ⊎ Leads opens y t
  leads_top t [] turn y is = elim (or_false (bytes_eq t y) false is) [
    | inl here ↦ inl (sym (same_bytes t y here))
    | inr none ↦ absurd (false≢true none)
  ]
  leads_top t (x ∷ rest) turn y is = by (leads_top x rest turn.1 y)
    where
      by : (has (x ∷ rest) y ≡ true → (y ≡ x) ⊎ Leads opens y x) → (y ≡ t) ⊎ Leads opens y t
      by below = elim (or_false (bytes_eq t y) (has (x ∷ rest) y) is) [
        | inl here ↦ inl (sym (same_bytes t y here))
        | inr further ↦ elim (below further) [
          | inl same ↦ inr (Once y t (subst (λ (n : List ℕ). Names opens n t) (sym same) turn.0))
          | inr leads ↦ inr (leads_push y x t leads turn.0)
        ]
      ]

  turn_tail : (t : List ℕ) (rest : List (List ℕ)) → IsNamedInTurn opens (t ∷ rest) → IsNamedInTurn opens rest
  turn_tail t [] turn = tt
  turn_tail t (x ∷ rest) turn = turn.1

  order_push : (before es : List (List ℕ)) (e : List ℕ) → IsOrder opens before es → Follows opens (before ++ es) e → IsOrder opens before (es ++ e ∷ [])
  order_push before [] e order next = (subst (λ (l : List (List ℕ)). Follows opens l e) (append-nil before) next, tt)
  order_push before (d ∷ es) e order next =
      (order.0, order_push (before ++ d ∷ []) es e order.1 (subst (λ (l : List (List ℕ)). Follows opens l e) (sym (append_assoc before (d ∷ []) es)) next))

  module _ (asked : List ℕ) (stack order : List (List ℕ)) (at : IsWalkAt opens asked stack order) where
    module _ (next : List ℕ) (is : IsNext opens stack order next) where
      top_last : reverse stack ≡ is.last ∷ reverse is.front
      top_last = ap reverse is.stack_is ∙ reverse-append is.front (is.last ∷ [])

      last_stacked : has stack is.last ≡ true
      last_stacked = ap (λ (l : List (List ℕ)). has l is.last) is.stack_is ∙ has_new is.front is.last

      pub walk_enter : IsWalkAt opens asked (stack ++ next ∷ []) order
      walk_enter = record {
        in_turn = subst (IsNamedInTurn opens) (sym (reverse-append stack (next ∷ []) ∙ ap (λ (l : List (List ℕ)). next ∷ l) top_last)) (is.named, subst (IsNamedInTurn opens) top_last at.in_turn);
        opened = λ y h. elim (has_cases stack next y h) [ inl old ↦ at.opened y old | inr new ↦ subst (λ (n : List ℕ). IsSome (opens n)) new is.opened ];
        stacked = λ y h. elim (has_cases stack next y h) [
          | inl old ↦ at.stacked y old
          | inr new ↦ subst (IsOnTheWay opens asked) new (way_push asked is.last next (at.stacked is.last last_stacked) is.named)
        ];
        listed = at.listed;
        ordered = at.ordered;
        begun = λ some. elim (or_false (has stack asked) (has order asked) (at.begun some)) [
          | inl old ↦ or_left (has (stack ++ next ∷ []) asked) (has order asked) (has_old stack next asked old)
          | inr done ↦ or_right' (has (stack ++ next ∷ []) asked) (has order asked) done
        ];
      }

      pub walk_circle : has stack next ≡ true → HasCircle opens asked
      walk_circle again = record {
        at = next;
        on_the_way = at.stacked next again;
        circle = elim (leads_top is.last (reverse is.front) (subst (IsNamedInTurn opens) top_last at.in_turn) next (ap (λ (l : List (List ℕ)). has l next) (sym top_last) ∙ (has_reverse stack next ∙ again))) [
          | inl same ↦ Once next next (subst (λ (n : List ℕ). Names opens n next) (sym same) is.named)
          | inr leads ↦ leads_push next is.last next leads is.named
        ];
      }

    pub walk_list : (front : List (List ℕ)) (last : List ℕ) → stack ≡ front ++ last ∷ [] → Follows opens order last → IsWalkAt opens asked front (order ++ last ∷ [])
    walk_list front last parts follows =
        let top : reverse stack ≡ last ∷ reverse front = ap reverse parts ∙ reverse-append front (last ∷ []) in
        let was : (y : List ℕ) → has front y ≡ true → has stack y ≡ true = λ y h. ap (λ (l : List (List ℕ)). has l y) parts ∙ has_old front last y h in
        let here : has stack last ≡ true = ap (λ (l : List (List ℕ)). has l last) parts ∙ has_new front last in
        record {
          in_turn = turn_tail last (reverse front) (subst (IsNamedInTurn opens) top at.in_turn);
          opened = λ y h. at.opened y (was y h);
          stacked = λ y h. at.stacked y (was y h);
          listed = λ y h. elim (has_cases order last y h) [ inl old ↦ at.listed y old | inr new ↦ subst (IsOnTheWay opens asked) new (at.stacked last here) ];
          ordered = order_push [] order last at.ordered follows;
          begun = λ some. elim (or_false (has stack asked) (has order asked) (at.begun some)) [
            | inl old ↦ elim (has_cases front last asked (ap (λ (l : List (List ℕ)). has l asked) (sym parts) ∙ old)) [
              | inl before ↦ or_left (has front asked) (has (order ++ last ∷ []) asked) before
              | inr same ↦ or_right' (has front asked) (has (order ++ last ∷ []) asked) (ap (has (order ++ last ∷ [])) (sym same) ∙ has_new order last)
            ]
            | inr done ↦ or_right' (has front asked) (has (order ++ last ∷ []) asked) (has_old order last asked done)
          ];
        }

  -- where all parts are done, the text follows
  pub all_done : (order : List (List ℕ)) (parts : List Part) → AllDone opens order parts → (other : List ℕ) → names parts other ≡ true → IsSome (opens other) → has order other ≡ true
  all_done order [] done other named some = absurd (false≢true named)
  all_done order (Text text ∷ parts) done other named some = all_done order parts done.1 other named some
  all_done order (Name name ∷ parts) done other named some = elim (or_false (bytes_eq name other) (names parts other) named) [
    | inl same ↦ let e = same_bytes name other same in ap (has order) (sym e) ∙ done.0 (subst (λ (n : List ℕ). IsSome (opens n)) (sym e) some)
    | inr further ↦ all_done order parts done.1 other further some
  ]

  named_at : (parts : List Part) (i : ℕ) (part : Part) (name : List ℕ) → i < length parts → part ≡ get_or parts i part → part ≡ Name name → names parts name ≡ true
  named_at [] i part name low at is = absurd (omega (arith, low))
  named_at (Text text ∷ parts) zero part name low at is = absurd (let clash : Name name ≡ Text text = sym is ∙ at in cc)
  named_at (Name other ∷ parts) zero part name low at is =
      let same : Name name ≡ Name other = sym is ∙ at in
      let e : other ≡ name = cc in
      or_left (bytes_eq other name) (names parts name) (ap (bytes_eq other) (sym e) ∙ bytes_eq-same other)
  named_at (Text text ∷ parts) (suc i) part name low at is = named_at parts i part name (omega (arith, low)) at is
  named_at (Name other ∷ parts) (suc i) part name low at is = or_right' (bytes_eq other name) (names parts name) (named_at parts i part name (omega (arith, low)) at is)

  pub waiting : (order : List (List ℕ)) (parts : List Part) (i : ℕ) (part : Part) (next : List ℕ) → i < length parts → part ≡ get_or parts i part → Waits opens order part next → IsWaiting opens order parts next
  waiting order parts i part next low at waits = record { named = named_at parts i part next low at waits.part_is; opened = waits.opened; unlisted = waits.unlisted }

  -- what an open text waits for is named by it
  pub next_of : (stack order : List (List ℕ)) (front : List (List ℕ)) (last : List ℕ) → stack ≡ front ++ last ∷ [] → (t : Template) → opens last ≡ Some t → (next : List ℕ) → IsWaiting opens order t.parts next → IsNext opens stack order next
  next_of stack order front last parts t is next waits = record { front = front; last = last; stack_is = parts; named = record { template = t; opens_to = is; named = waits.named }; opened = waits.opened; unlisted = waits.unlisted }

  pub ready_of : (stack order : List (List ℕ)) (front : List (List ℕ)) (last : List ℕ) → stack ≡ front ++ last ∷ [] → (t : Template) → opens last ≡ Some t → AllDone opens order t.parts → IsReady opens stack order
  ready_of stack order front last parts t is done = record { front = front; last = last; stack_is = parts; follows = record { template = t; opens_to = is; named = all_done order t.parts done } }

  pub stack_opened : (asked : List ℕ) (stack order : List (List ℕ)) → IsWalkAt opens asked stack order → (front : List (List ℕ)) (last : List ℕ) → stack ≡ front ++ last ∷ [] → opens last ≡ None → ⊥
  stack_opened asked stack order at front last parts none =
      false≢true (sym (ap is_some none) ∙ at.opened last (ap (λ (l : List (List ℕ)). has l last) parts ∙ has_new front last))

  pub follows_last : (stack order : List (List ℕ)) → IsReady opens stack order → (front : List (List ℕ)) (last : List ℕ) → stack ≡ front ++ last ∷ [] → Follows opens order last
  follows_last stack order is front last parts = subst (Follows opens order) (snoc_last is.front front is.last last (sym is.stack_is ∙ parts)) is.follows

-- ---- the work that is left

count_le : (f g : List ℕ → Bool) → ((k : List ℕ) → g k ≡ true → f k ≡ true) → (es : List (String Global × Template)) → count_names g es ≤ count_names f es
count_le f g implies [] = omega arith
count_le f g implies (e ∷ es) =
    let rest = count_le f g implies es in
    let here : cond {A = ℕ} (g (string_bytes e.0)) 1 0 ≤ cond {A = ℕ} (f (string_bytes e.0)) 1 0 = one (g (string_bytes e.0)) (f (string_bytes e.0)) (implies (string_bytes e.0)) in
    let f_is : count_names f (e ∷ es) ≡ cond (f (string_bytes e.0)) 1 0 + count_names f es = refl in
    let g_is : count_names g (e ∷ es) ≡ cond (g (string_bytes e.0)) 1 0 + count_names g es = refl in
    omega (arith, rest, here, f_is, g_is)
  where
    one : (b c : Bool) → (b ≡ true → c ≡ true) → cond {A = ℕ} b 1 0 ≤ cond {A = ℕ} c 1 0
    one false c h = omega arith
    one true true h = omega arith
    one true false h = absurd (false≢true (h refl))

pub count_less : (f g : List ℕ → Bool) → ((k : List ℕ) → g k ≡ true → f k ≡ true) → (n : List ℕ) → f n ≡ true → g n ≡ false → (es : List (String Global × Template)) (t : Template)
    → lookup (λ (k : String Global). bytes_eq n (string_bytes k)) es ≡ Some t
    → count_names g es < count_names f es
count_less f g implies n yes_f no_g [] t found = absurd (none_some found)
  where
    none_some : None ≡ Some t → ⊥
    none_some e = cc
count_less f g implies n yes_f no_g (e ∷ es) t found = by (bytes_eq n (string_bytes e.0)) refl (count_less f g implies n yes_f no_g es t)
  where
    by : (b : Bool) → bytes_eq n (string_bytes e.0) ≡ b → (lookup (λ (k : String Global). bytes_eq n (string_bytes k)) es ≡ Some t → count_names g es < count_names f es)
        → count_names g (e ∷ es) < count_names f (e ∷ es)
    by true is rest =
        let f_is : count_names f (e ∷ es) ≡ cond (f (string_bytes e.0)) 1 0 + count_names f es = refl in
        let g_is : count_names g (e ∷ es) ≡ cond (g (string_bytes e.0)) 1 0 + count_names g es = refl in
        let same : n ≡ string_bytes e.0 = same_bytes n (string_bytes e.0) is in
        let f_here : cond {A = ℕ} (f (string_bytes e.0)) 1 0 ≡ 1 = ap (λ (b : Bool). cond {A = ℕ} b 1 0) (ap f (sym same) ∙ yes_f) in
        let g_here : cond {A = ℕ} (g (string_bytes e.0)) 1 0 ≡ 0 = ap (λ (b : Bool). cond {A = ℕ} b 1 0) (ap g (sym same) ∙ no_g) in
        let others = count_le f g implies es in
        omega (arith, f_here, g_here, others, f_is, g_is)
    by false is rest =
        let f_is : count_names f (e ∷ es) ≡ cond (f (string_bytes e.0)) 1 0 + count_names f es = refl in
        let g_is : count_names g (e ∷ es) ≡ cond (g (string_bytes e.0)) 1 0 + count_names g es = refl in
        let others = rest (sym (ap (λ (b : Bool). cond b (Some e.1) (lookup (λ (k : String Global). bytes_eq n (string_bytes k)) es)) is) ∙ found) in
        let here : cond {A = ℕ} (g (string_bytes e.0)) 1 0 ≤ cond {A = ℕ} (f (string_bytes e.0)) 1 0 = one (g (string_bytes e.0)) (f (string_bytes e.0)) (implies (string_bytes e.0)) in
        omega (arith, others, here, f_is, g_is)
      where
        one : (b c : Bool) → (b ≡ true → c ≡ true) → cond {A = ℕ} b 1 0 ≤ cond {A = ℕ} c 1 0
        one false c h = omega arith
        one true true h = omega arith
        one true false h = absurd (false≢true (h refl))

pub unseen_enter : (stack order : List (List ℕ)) (next : List ℕ) → has stack next ≡ false → has order next ≡ false → (es : List (String Global × Template)) (t : Template)
    → lookup (λ (k : String Global). bytes_eq next (string_bytes k)) es ≡ Some t
    → count_names (is_unseen (stack ++ next ∷ []) order) es < count_names (is_unseen stack order) es
unseen_enter stack order next unstacked unlisted es t found =
    count_less (is_unseen stack order) (is_unseen (stack ++ next ∷ []) order) implies next
    (ap not (ap (λ (b : Bool). b || has order next) unstacked ∙ unlisted))
    (ap not (or_left (has (stack ++ next ∷ []) next) (has order next) (has_new stack next)))
    es t found
  where
    fewer : (a b c : Bool) → not ((a || b) || c) ≡ true → not (a || c) ≡ true
    fewer true b c h = absurd (false≢true h)
    fewer false true c h = absurd (false≢true h)
    fewer false false c h = h

    implies : (k : List ℕ) → is_unseen (stack ++ next ∷ []) order k ≡ true → is_unseen stack order k ≡ true
    implies k h = fewer (has stack k) (bytes_eq next k) (has order k) (sym (ap (λ (b : Bool). not (b || has order k)) (has_push stack next k)) ∙ h)

pub unseen_list : (front order : List (List ℕ)) (last : List ℕ) (es : List (String Global × Template))
    → count_names (is_unseen front (order ++ last ∷ [])) es ≤ count_names (is_unseen (front ++ last ∷ []) order) es
unseen_list front order last es = count_le (is_unseen (front ++ last ∷ []) order) (is_unseen front (order ++ last ∷ [])) implies es
  where
    turned : (a b c : Bool) → not (a || (c || b)) ≡ true → not ((a || b) || c) ≡ true
    turned true b c h = h
    turned false true true h = h
    turned false true false h = h
    turned false false c h = sym (ap not (or_nothing c)) ∙ h
      where
        or_nothing : (d : Bool) → (d || false) ≡ d
        or_nothing true = refl
        or_nothing false = refl

    implies : (k : List ℕ) → is_unseen front (order ++ last ∷ []) k ≡ true → is_unseen (front ++ last ∷ []) order k ≡ true
    implies k h = ap (λ (b : Bool). not (b || has order k)) (has_push front last k) ∙ turned (has front k) (bytes_eq last k) (has order k) (sym (ap (λ (b : Bool). not (has front k || b)) (has_push order last k)) ∙ h)

-- a name that stands for a text of the rule is among its names
pub opened_text : (at : Use) (name : List ℕ) → IsSome (opened at name) → (t : Template) × (lookup (λ (k : String Global). bytes_eq name (string_bytes k)) at.rule.now.variables.entries ≡ Some t)
opened_text at name some = by (is_special name) (block_value at.block.now name) some
  where
    by : (b : Bool) (o : Option (List ℕ)) → IsSome (cond b None (unless_bound o (template_of at.rule.now name))) → (t : Template) × (template_of at.rule.now name ≡ Some t)
    by true o is = absurd (false≢true is)
    by false None is = some_of (template_of at.rule.now name) is
    by false (Some v) is = absurd (false≢true is)
