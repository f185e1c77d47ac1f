-- A table of paths that grows, and the numbers in it.
use Rattle.std.proofs.Common.{◌≡◌, ℕ, zero, suc, ◌<◌, ◌≤◌, ◌+◌, List, [], ◌∷◌, ◌++◌, length, map, get_or, Option, Some, None, true, false, Bool, if◌then◌else◌, refl, sym, ap, ◌∙◌, subst, arith, append_assoc, append-nil, length-append}
use Rattle.std.specs.Prelude.{slice_get}
use Rattle.std.specs.List.{AllByRecursion}
use Rattle.std.specs.Option.{option_to_list}
use Rattle.std.proofs.lemmas.List.{map-append}
use Rattle.model.specs.Graph.{has}
use Rattle.paths.specs.declared.line.Line.{Line}
use Rattle.paths.specs.Numbers.{IsAdded}
use Rattle.paths.specs.Told.{text_at, texts_at}
use Rattle.manifest.specs.InNumbers.{IsLonger, AreKeys, AreBelow, AreAdded, numbers_of, IsWithin, paths_at}
use Rattle.manifest.specs.Spelled.{EdgePaths}
use Rattle.manifest.specs.States.{all_of}
use Rattle.manifest.proofs.BuildKeys.{known_key, new_key}

-- ---- a table that grows

pub longer_same : (table : List (List ℕ)) → IsLonger table table
longer_same table = record { more = []; grows = sym (append-nil table) }

pub longer_on : (a b c : List (List ℕ)) → IsLonger a b → IsLonger b c → IsLonger a c
longer_on a b c one two = record {
  more = one.more ++ two.more;
  grows = two.grows ∙ (ap (λ (l : List (List ℕ)). l ++ two.more) one.grows ∙ append_assoc a one.more two.more);
}

pub longer_length : (a b : List (List ℕ)) → IsLonger a b → length a ≤ length b
longer_length a b one = let e : length b ≡ length a + length one.more = ap length one.grows ∙ length-append a one.more in omega arith

text_in : (table more : List (List ℕ)) (n : ℕ) → n < length table → text_at (table ++ more) n ≡ text_at table n
text_in [] more n low = absurd (omega arith)
text_in (x ∷ table) more zero low = refl
text_in (x ∷ table) more (suc n) low = text_in table more n (omega arith)

pub text_stays : (a b : List (List ℕ)) (n : ℕ) → IsLonger a b → n < length a → text_at b n ≡ text_at a n
text_stays a b n one low = ap (λ (l : List (List ℕ)). text_at l n) one.grows ∙ text_in a one.more n low

pub texts_stay : (a b : List (List ℕ)) (numbers : List ℕ) → IsLonger a b → AreBelow (length a) numbers → texts_at b numbers ≡ texts_at a numbers
texts_stay a b [] one low = refl
texts_stay a b (n ∷ numbers) one low = let here = text_stays a b n one low.0 in let rest = texts_stay a b numbers one low.1 in rw (here, rest) refl

pub texts_grow : (a b : List (List ℕ)) (numbers : List ℕ) (n : ℕ) → IsLonger a b → AreBelow (length a) numbers
    → texts_at b (numbers ++ n ∷ []) ≡ texts_at a numbers ++ text_at b n ∷ []
texts_grow a b numbers n one low = map-append (text_at b) numbers (n ∷ []) ∙ ap (λ (l : List (List ℕ)). l ++ text_at b n ∷ []) (texts_stay a b numbers one low)

pub below_more : (low high : ℕ) (numbers : List ℕ) → low ≤ high → AreBelow low numbers → AreBelow high numbers
below_more low high [] more all = tt
below_more low high (n ∷ numbers) more all = let h : n < low = all.0 in (omega arith, below_more low high numbers more all.1)

pub below_both : (count : ℕ) (xs ys : List ℕ) → AreBelow count xs → AreBelow count ys → AreBelow count (xs ++ ys)
below_both count [] ys one two = two
below_both count (x ∷ xs) ys one two = (one.0, below_both count xs ys one.1 two)

pub below_parts : (count : ℕ) (xs ys : List ℕ) → AreBelow count (xs ++ ys) → AreBelow count xs × AreBelow count ys
below_parts count [] ys all = (tt, all)
below_parts count (x ∷ xs) ys all = let rest = below_parts count xs ys all.1 in ((all.0, rest.0), rest.1)

-- ---- paths that are added

pub added_none : (table : List (List ℕ)) → AreAdded table table []
added_none table = record { grows = longer_same table; within = tt; keys = λ before keys. subst (AreKeys table) (sym (append-nil before)) keys }

pub added_on : (a b c : List (List ℕ)) (xs ys : List ℕ) → AreAdded a b xs → AreAdded b c ys → AreAdded a c (xs ++ ys)
added_on a b c xs ys one two = record {
  grows = longer_on a b c one.grows two.grows;
  within = below_both (length c) xs ys (below_more (length b) (length c) xs (longer_length b c two.grows) one.within) two.within;
  keys = λ before keys.
      let both = two.keys (before ++ texts_at b xs) (one.keys before keys) in
      let same : texts_at b xs ++ texts_at c ys ≡ texts_at c (xs ++ ys) =
      ap (λ (l : List (List ℕ)). l ++ texts_at c ys) (sym (texts_stay b c xs two.grows one.within)) ∙ sym (map-append (text_at c) xs ys) in
      subst (AreKeys c) (append_assoc before (texts_at b xs) (texts_at c ys) ∙ ap (λ (l : List (List ℕ)). before ++ l) same) both;
}

pub at_is : (table : List (List ℕ)) (n : ℕ) (path : List ℕ) → slice_get table n ≡ Some path → (n < length table) × (text_at table n ≡ path)
at_is [] n path is = absurd (cc)
at_is (x ∷ table) zero path is = let e : Some x ≡ Some path = is in (omega arith, cc)
at_is (x ∷ table) (suc n) path is = let rest = at_is table n path is in let low : n < length table = rest.0 in (omega arith, rest.1)

pub added_one : (old new : List (List ℕ)) (path : List ℕ) (n : ℕ) → IsAdded old new path n → AreAdded old new (n ∷ [])
added_one old new path n is = record {
  grows = by_grows (has old path) is.grows;
  within = ((at_is new n path is.at).0, tt);
  keys = λ before keys. subst (λ (p : List ℕ). AreKeys new (before ++ p ∷ [])) (sym (at_is new n path is.at).1) (by_keys (has old path) refl before keys);
}
  where
    by_grows : (b : Bool) → new ≡ (if b then old else old ++ path ∷ []) → IsLonger old new
    by_grows true e = record { more = []; grows = e ∙ sym (append-nil old) }
    by_grows false e = record { more = path ∷ []; grows = e }

    by_keys : (b : Bool) → has old path ≡ b → (before : List (List ℕ)) → AreKeys old before → AreKeys new (before ++ path ∷ [])
    by_keys true e before keys = subst (λ (l : List (List ℕ)). AreKeys l (before ++ path ∷ [])) (sym (is.grows ∙ ap (λ (b : Bool). if b then old else old ++ path ∷ []) e)) (known_key old before path keys e)
    by_keys false e before keys = subst (λ (l : List (List ℕ)). AreKeys l (before ++ path ∷ [])) (sym (is.grows ∙ ap (λ (b : Bool). if b then old else old ++ path ∷ []) e)) (new_key old before path keys e)

-- ---- the lists of a line

pub record AreListsBelow (count : ℕ) (line : Line) : Type 0 where
  pub explicit_outputs : AreBelow count line.explicit_outputs
  pub implicit_outputs : AreBelow count line.implicit_outputs
  pub explicit_inputs : AreBelow count line.explicit_inputs
  pub implicit_inputs : AreBelow count line.implicit_inputs
  pub order_only_inputs : AreBelow count line.order_only_inputs
  pub validations : AreBelow count line.validations

pub lists_of : (count : ℕ) (line : Line) → AreBelow count (numbers_of line) → AreListsBelow count line
lists_of count line all =
    let p1 = below_parts count line.explicit_outputs _ all in
    let p2 = below_parts count line.implicit_outputs _ p1.1 in
    let p3 = below_parts count line.explicit_inputs _ p2.1 in
    let p4 = below_parts count line.implicit_inputs _ p3.1 in
    let p5 = below_parts count line.order_only_inputs line.validations p4.1 in
    record { explicit_outputs = p1.0; implicit_outputs = p2.0; explicit_inputs = p3.0; implicit_inputs = p4.0; order_only_inputs = p5.0; validations = p5.1 }

pub same_paths : (a b : EdgePaths) → a.explicit_outputs ≡ b.explicit_outputs → a.implicit_outputs ≡ b.implicit_outputs → a.explicit_inputs ≡ b.explicit_inputs
    → a.implicit_inputs ≡ b.implicit_inputs → a.order_only_inputs ≡ b.order_only_inputs → a.validations ≡ b.validations → a ≡ b
same_paths a b e1 e2 e3 e4 e5 e6 =
    ap {B = EdgePaths} (λ (x : List (List ℕ)). record { explicit_outputs = x; implicit_outputs = a.implicit_outputs; explicit_inputs = a.explicit_inputs; implicit_inputs = a.implicit_inputs; order_only_inputs = a.order_only_inputs; validations = a.validations }) e1
    ∙ (ap {B = EdgePaths} (λ (x : List (List ℕ)). record { explicit_outputs = b.explicit_outputs; implicit_outputs = x; explicit_inputs = a.explicit_inputs; implicit_inputs = a.implicit_inputs; order_only_inputs = a.order_only_inputs; validations = a.validations }) e2
    ∙ (ap {B = EdgePaths} (λ (x : List (List ℕ)). record { explicit_outputs = b.explicit_outputs; implicit_outputs = b.implicit_outputs; explicit_inputs = x; implicit_inputs = a.implicit_inputs; order_only_inputs = a.order_only_inputs; validations = a.validations }) e3
    ∙ (ap {B = EdgePaths} (λ (x : List (List ℕ)). record { explicit_outputs = b.explicit_outputs; implicit_outputs = b.implicit_outputs; explicit_inputs = b.explicit_inputs; implicit_inputs = x; order_only_inputs = a.order_only_inputs; validations = a.validations }) e4
    ∙ (ap {B = EdgePaths} (λ (x : List (List ℕ)). record { explicit_outputs = b.explicit_outputs; implicit_outputs = b.implicit_outputs; explicit_inputs = b.explicit_inputs; implicit_inputs = b.implicit_inputs; order_only_inputs = x; validations = a.validations }) e5
    ∙ (ap {B = EdgePaths} (λ (x : List (List ℕ)). record { explicit_outputs = b.explicit_outputs; implicit_outputs = b.implicit_outputs; explicit_inputs = b.explicit_inputs; implicit_inputs = b.implicit_inputs; order_only_inputs = b.order_only_inputs; validations = x }) e6)))))

pub paths_stay : (a b : List (List ℕ)) (line : Line) → IsLonger a b → IsWithin a line → paths_at b line ≡ paths_at a line
paths_stay a b line one within =
    let lists = lists_of (length a) line within in
    same_paths (paths_at b line) (paths_at a line)
    (texts_stay a b line.explicit_outputs one lists.explicit_outputs) (texts_stay a b line.implicit_outputs one lists.implicit_outputs)
    (texts_stay a b line.explicit_inputs one lists.explicit_inputs) (texts_stay a b line.implicit_inputs one lists.implicit_inputs)
    (texts_stay a b line.order_only_inputs one lists.order_only_inputs) (texts_stay a b line.validations one lists.validations)

pub within_stays : (a b : List (List ℕ)) (line : Line) → IsLonger a b → IsWithin a line → IsWithin b line
within_stays a b line one within = below_more (length a) (length b) (numbers_of line) (longer_length a b one) within

-- the texts of all numbers are all texts
pub all_texts_of : (table : List (List ℕ)) (line : Line) → texts_at table (numbers_of line) ≡ all_of (paths_at table line)
all_texts_of table line =
    map-append (text_at table) line.explicit_outputs _ ∙ ap (λ (l : List (List ℕ)). texts_at table line.explicit_outputs ++ l)
    (map-append (text_at table) line.implicit_outputs _ ∙ ap (λ (l : List (List ℕ)). texts_at table line.implicit_outputs ++ l)
    (map-append (text_at table) line.explicit_inputs _ ∙ ap (λ (l : List (List ℕ)). texts_at table line.explicit_inputs ++ l)
    (map-append (text_at table) line.implicit_inputs _ ∙ ap (λ (l : List (List ℕ)). texts_at table line.implicit_inputs ++ l)
    (map-append (text_at table) line.order_only_inputs line.validations))))
