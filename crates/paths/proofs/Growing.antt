-- A line that grows: its lists are put at the end once more.
use Rattle.std.proofs.Common.{◌≡◌, inl, ℕ, zero, suc, ◌+◌, ◌<◌, ◌≤◌, List, [], ◌∷◌, ◌++◌, map, length, take, get_or, refl, sym, ◌∙◌, ap, arith, length-append, append_assoc}
use Rattle.std.proofs.Math.ListN.{set}
use Rattle.std.proofs.Math.Seq.{take-suc}
use Rattle.std.proofs.lemmas.List.{map-set}
use Rattle.paths.specs.declared.line.Line.{Line}
use Rattle.paths.specs.declared.lines.Row.{Row}
use Rattle.paths.specs.Lists.{no_line, between, line_of, grown_line, IsRowIn, AreRowsIn, AreLaidOut, Extends, IsAppended}
use Rattle.paths.proofs.Flat.{between_more, between_last, same_line, left_lines, left_rows, row_found}
use Rattle.paths.proofs.Apart.{apart_set, row_within}

-- ---- a list that became longer

extends_then : (xs mid new part : List ℕ) → Extends xs mid → new ≡ mid ++ part → Extends xs new
extends_then xs mid new part extends grown = record {
  more = extends.more ++ part;
  grows = grown ∙ (ap (λ (l : List ℕ). l ++ part) extends.grows ∙ append_assoc xs extends.more part);
}

extends_front : (xs mid last part : List ℕ) → mid ≡ xs ++ part → Extends mid last → Extends xs last
extends_front xs mid last part grown extends = record {
  more = part ++ extends.more;
  grows = extends.grows ∙ (ap (λ (l : List ℕ). l ++ extends.more) grown ∙ append_assoc xs part extends.more);
}

-- what stood there before stands there still
still : (xs new : List ℕ) (a b : ℕ) → Extends xs new → a ≤ b → b ≤ length xs → between new a b ≡ between xs a b
still xs new a b extends ab fits = ap (λ (l : List ℕ). between l a b) extends.grows ∙ between_more xs extends.more a b ab fits

-- where a part was put that stands there still
part_at : (xs mid last part : List ℕ) (a b : ℕ) → a ≡ length xs → mid ≡ xs ++ part → b ≡ length mid → Extends mid last → between last a b ≡ part
part_at xs mid last part a b at_a grown at_b extends =
    let long = ap length grown in
    let sum = length-append xs part in
    still mid last a b extends (omega (arith, at_a, at_b, long, sum)) (omega (arith, at_b))
    ∙ (ap (λ (l : List ℕ). between l a b) grown ∙ between_last xs part a b at_a (omega (arith, at_b, long)))

-- ---- all lists of a line

module _ (xs n1 n2 n3 n4 n5 n6 p1 p2 p3 p4 p5 p6 : List ℕ) (after : Row) (g1 : n1 ≡ xs ++ p1) (g2 : n2 ≡ n1 ++ p2) (g3 : n3 ≡ n2 ++ p3) (g4 : n4 ≡ n3 ++ p4) (g5 : n5 ≡ n4 ++ p5) (g6 : n6 ≡ n5 ++ p6)
    (e0 : after.start ≡ length xs) (e1 : after.explicit_outputs ≡ length n1) (e2 : after.implicit_outputs ≡ length n2) (e3 : after.explicit_inputs ≡ length n3)
    (e4 : after.implicit_inputs ≡ length n4) (e5 : after.order_only_inputs ≡ length n5) (e6 : after.validations ≡ length n6) where
  l6 : Extends n6 n6
  l6 = record { more = []; grows = sym (append_nil n6) }
    where
      append_nil : (l : List ℕ) → l ++ [] ≡ l
      append_nil [] = refl
      append_nil (n ∷ l) = ap (λ (rest : List ℕ). n ∷ rest) (append_nil l)

  l5 : Extends n5 n6
  l5 = extends_front n5 n6 n6 p6 g6 l6

  l4 : Extends n4 n6
  l4 = extends_front n4 n5 n6 p5 g5 l5

  l3 : Extends n3 n6
  l3 = extends_front n3 n4 n6 p4 g4 l4

  l2 : Extends n2 n6
  l2 = extends_front n2 n3 n6 p3 g3 l3

  l1 : Extends n1 n6
  l1 = extends_front n1 n2 n6 p2 g2 l2

  lists_are : line_of n6 after
      ≡ record { explicit_outputs = p1; implicit_outputs = p2; explicit_inputs = p3; implicit_inputs = p4; order_only_inputs = p5; validations = p6 }
  lists_are = same_line _ _ _ _ _ _ _ _ _ _ _ _
      (part_at xs n1 n6 p1 _ _ e0 g1 e1 l1) (part_at n1 n2 n6 p2 _ _ e1 g2 e2 l2) (part_at n2 n3 n6 p3 _ _ e2 g3 e3 l3)
      (part_at n3 n4 n6 p4 _ _ e3 g4 e4 l4) (part_at n4 n5 n6 p5 _ _ e4 g5 e5 l5) (part_at n5 n6 n6 p6 _ _ e5 g6 e6 l6)

  longer : (a b part : List ℕ) → b ≡ a ++ part → length a ≤ length b
  longer a b part grown = let long = ap length grown in let sum = length-append a part in omega (arith, long, sum)

  lists_lie : IsRowIn (length n6) after
  lists_lie = record {
    explicit_outputs = let more = longer xs n1 p1 g1 in omega (arith, e0, e1, more);
    implicit_outputs = let more = longer n1 n2 p2 g2 in omega (arith, e1, e2, more);
    explicit_inputs = let more = longer n2 n3 p3 g3 in omega (arith, e2, e3, more);
    implicit_inputs = let more = longer n3 n4 p4 g4 in omega (arith, e3, e4, more);
    order_only_inputs = let more = longer n4 n5 p5 g5 in omega (arith, e4, e5, more);
    validations = let more = longer n5 n6 p6 g6 in omega (arith, e5, e6, more);
    within = omega (arith, e6);
  }

  pub lists_appended : IsAppended xs n6 (record { explicit_outputs = p1; implicit_outputs = p2; explicit_inputs = p3; implicit_inputs = p4; order_only_inputs = p5; validations = p6 }) after
  lists_appended = record { extends = extends_front xs n1 n6 p1 g1 l1; lies = lists_lie; is = lists_are; behind = omega (arith, e0) }

module _ (xs n1 n2 n3 n4 n5 n6 : List ℕ) (row after : Row) (lies : IsRowIn (length xs) row) (outputs inputs : List ℕ)
    (g1 : n1 ≡ xs ++ between xs row.start row.explicit_outputs) (g2 : n2 ≡ n1 ++ (between n1 row.explicit_outputs row.implicit_outputs ++ outputs))
    (g3 : n3 ≡ n2 ++ between n2 row.implicit_outputs row.explicit_inputs) (g4 : n4 ≡ n3 ++ (between n3 row.explicit_inputs row.implicit_inputs ++ inputs))
    (g5 : n5 ≡ n4 ++ between n4 row.implicit_inputs row.order_only_inputs) (g6 : n6 ≡ n5 ++ between n5 row.order_only_inputs row.validations)
    (e0 : after.start ≡ length xs) (e1 : after.explicit_outputs ≡ length n1) (e2 : after.implicit_outputs ≡ length n2) (e3 : after.explicit_inputs ≡ length n3)
    (e4 : after.implicit_inputs ≡ length n4) (e5 : after.order_only_inputs ≡ length n5) (e6 : after.validations ≡ length n6) where
  x1 : Extends xs n1
  x1 = record { more = between xs row.start row.explicit_outputs; grows = g1 }

  x2 : Extends xs n2
  x2 = extends_then xs n1 n2 _ x1 g2

  x3 : Extends xs n3
  x3 = extends_then xs n2 n3 _ x2 g3

  x4 : Extends xs n4
  x4 = extends_then xs n3 n4 _ x3 g4

  x5 : Extends xs n5
  x5 = extends_then xs n4 n5 _ x4 g5

  order_only_low : row.order_only_inputs ≤ length xs
  order_only_low = omega (arith, lies.validations, lies.within)

  implicit_inputs_low : row.implicit_inputs ≤ length xs
  implicit_inputs_low = omega (arith, order_only_low, lies.order_only_inputs)

  explicit_inputs_low : row.explicit_inputs ≤ length xs
  explicit_inputs_low = omega (arith, implicit_inputs_low, lies.implicit_inputs)

  implicit_outputs_low : row.implicit_outputs ≤ length xs
  implicit_outputs_low = omega (arith, explicit_inputs_low, lies.explicit_inputs)

  pub grown_appended : IsAppended xs n6 (grown_line (line_of xs row) outputs inputs) after
  grown_appended =
      let whole = lists_appended xs n1 n2 n3 n4 n5 n6 _ _ _ _ _ _ after g1 g2 g3 g4 g5 g6 e0 e1 e2 e3 e4 e5 e6 in
      record {
        extends = whole.extends;
        lies = whole.lies;
        behind = omega (arith, e0);
        is = whole.is ∙ same_line _ _ _ _ _ _ _ _ _ _ _ _
            refl
            (ap (λ (l : List ℕ). l ++ outputs) (still xs n1 row.explicit_outputs row.implicit_outputs x1 lies.implicit_outputs implicit_outputs_low))
            (still xs n2 row.implicit_outputs row.explicit_inputs x2 lies.explicit_inputs explicit_inputs_low)
            (ap (λ (l : List ℕ). l ++ inputs) (still xs n3 row.explicit_inputs row.implicit_inputs x3 lies.implicit_inputs implicit_inputs_low))
            (still xs n4 row.implicit_inputs row.order_only_inputs x4 lies.order_only_inputs order_only_low)
            (still xs n5 row.order_only_inputs row.validations x5 lies.validations lies.within);
      }

-- ---- the row of an edge

pub rows_set : (n : ℕ) (rows : List Row) (place : ℕ) (row : Row) → AreRowsIn n rows → IsRowIn n row → AreRowsIn n (set rows place row)
rows_set n [] place row lie lies = tt
rows_set n (first ∷ rows) zero row lie lies = (lies, lie.1)
rows_set n (first ∷ rows) (suc place) row lie lies = (lie.0, rows_set n rows place row lie.1 lies)

pub grown_rows : (old new : List ℕ) (rows : List Row) (place : ℕ) (row : Row) (line : Line) → AreLaidOut (length old) rows → IsAppended old new line row → AreLaidOut (length new) (set rows place row)
grown_rows old new rows place row line laid added = record {
  lie = rows_set (length new) rows place row (left_rows old new rows laid.lie added.extends) added.lies;
  apart = apart_set rows place row laid.apart (λ k within. let low = row_within (length old) rows k laid.lie within in let behind = added.behind in inl (omega (arith, low, behind)));
}

pub grown_lines : (old new : List ℕ) (rows : List Row) (place : ℕ) (row : Row) (lines : List Line) (line : Line) → map (line_of old) rows ≡ lines → AreRowsIn (length old) rows → IsAppended old new line row
    → map (line_of new) (set rows place row) ≡ set lines place line
grown_lines old new rows place row lines line view lie added =
    map-set (line_of new) rows place row
    ∙ (ap (λ (l : List Line). set l place (line_of new row)) (left_lines old new rows lines view lie added.extends) ∙ ap (set lines place) added.is)

-- ---- lines without what they left

pub copied_next : (numbers from : List ℕ) (rows : List Row) (lines copied new : List Line) (place : ℕ) (row : Row) → map (line_of numbers) rows ≡ lines → AreRowsIn (length numbers) rows → place < length lines
    → row ≡ get_or rows place row → from ≡ numbers → copied ≡ take place lines → new ≡ copied ++ line_of from row ∷ [] → new ≡ take (place + 1) lines
copied_next numbers from rows lines copied new place row view lie lt is same so_far grown =
    let found = row_found numbers rows lines place place row view lie refl lt is in
    let next : suc place ≡ place + 1 = omega arith in
    grown ∙ (ap (λ (l : List Line). l ++ line_of from row ∷ []) so_far
    ∙ (ap (λ (l : List ℕ). take place lines ++ line_of l row ∷ []) same ∙ (ap (λ (l : Line). take place lines ++ l ∷ []) (sym found.is)
    ∙ (sym (take-suc lines place no_line lt) ∙ ap (λ (n : ℕ). take n lines) next))))
