-- A line that shrinks where it stands.
use Rattle.std.proofs.Common.{◌≡◌, ◌⊎◌, inl, inr, ℕ, ◌+◌, ◌-◌, ◌<◌, ◌≤◌, List, ◌++◌, map, length, take, drop, get_or, refl, sym, ◌∙◌, ap, subst, arith, length-append}
use Rattle.std.proofs.Math.ListN.{set}
use Rattle.std.proofs.Math.Seq.{take-append_seam}
use Rattle.std.proofs.lemmas.Bool.{cases_eq}
use Rattle.std.proofs.lemmas.List.{ext_get_or, get_or-map, get_or-take, get_or-drop, get_or-set_same, get_or-set_other, get_or_default, length-drop, length-map, length-set, length-take-le, take-take}
use Rattle.paths.specs.declared.line.Line.{Line}
use Rattle.paths.specs.declared.lines.Row.{Row}
use Rattle.paths.specs.Lists.{no_line, line_at, no_row, row_at, between, line_of, grown_line, IsRowIn, AreRowsIn, AreLaidOut}
use Rattle.paths.specs.Shrunk.{without_last, shrunk_line, with_shrunk, IsMovedTo, IsShrunkRow}
use Rattle.paths.proofs.Apart.{LieApart, lies_at, apart_both, apart_set_but}
use Rattle.paths.proofs.Flat.{same_line, row_found}
use Rattle.paths.proofs.Growing.{rows_set}

-- ---- parts of two lists

between_length : (xs : List ℕ) (a b : ℕ) → b ≤ length xs → length (between xs a b) ≡ b - a
between_length xs a b fits = let size = length-drop a xs in length-take-le (b - a) (drop a xs) (omega (arith, size, fits))

between_get : (xs : List ℕ) (a b k : ℕ) → k < b - a → get_or (between xs a b) k 0 ≡ get_or xs (a + k) 0
between_get xs a b k low = get_or-take (b - a) (drop a xs) k 0 low ∙ get_or-drop a xs k 0

-- parts of one length with the same numbers
between_same : (xs ys : List ℕ) (a b c d : ℕ) → b - a ≡ d - c → b ≤ length xs → d ≤ length ys → ((k : ℕ) → k < b - a → get_or xs (a + k) 0 ≡ get_or ys (c + k) 0) → between xs a b ≡ between ys c d
between_same xs ys a b c d count one two same =
    let first = between_length xs a b one in
    let second = between_length ys c d two in
    ext_get_or 0 (between xs a b) (between ys c d) (first ∙ (count ∙ sym second)) (λ k within.
    let low : k < b - a = omega (arith, within, first) in
    between_get xs a b k low ∙ (same k low ∙ sym (between_get ys c d k (omega (arith, low, count)))))

-- a part without its last numbers
cut_part : (xs : List ℕ) (a b gone count : ℕ) → b ≤ length xs → gone ≤ b - a → (b - a) - gone ≡ (b - a) - count → between xs a (b - gone) ≡ without_last count (between xs a b)
cut_part xs a b gone count fits most left =
    let size = between_length xs a b fits in
    let first : (b - gone) - a ≡ length (between xs a b) - count = omega (arith, most, left, size) in
    let low : (b - gone) - a ≤ b - a = omega arith in
    sym (take-take ((b - gone) - a) (b - a) (drop a xs) low) ∙ ap (λ (n : ℕ). take n (between xs a b)) first

-- ---- a row

module _ (xs ys : List ℕ) (row : Row) (lies : IsRowIn (length xs) row) (size : length ys ≡ length xs) (same : (k : ℕ) → row.start ≤ k → k < row.validations → get_or ys k 0 ≡ get_or xs k 0) where
  part : (a b : ℕ) → row.start ≤ a → b ≤ row.validations → between ys a b ≡ between xs a b
  part a b from to =
      let whole = lies.within in
      between_same ys xs a b a b refl (omega (arith, to, whole, size)) (omega (arith, to, whole)) (λ k low. same (a + k) (omega (arith, from)) (omega (arith, low, to)))

  -- a line whose numbers stay where they are
  line_stays : line_of ys row ≡ line_of xs row
  line_stays =
      let a = lies.explicit_outputs in
      let b = lies.implicit_outputs in
      let c = lies.explicit_inputs in
      let d = lies.implicit_inputs in
      let e = lies.order_only_inputs in
      let f = lies.validations in
      same_line _ _ _ _ _ _ _ _ _ _ _ _
      (part row.start row.explicit_outputs (omega arith) (omega (arith, b, c, d, e, f)))
      (part row.explicit_outputs row.implicit_outputs (omega (arith, a)) (omega (arith, c, d, e, f)))
      (part row.implicit_outputs row.explicit_inputs (omega (arith, a, b)) (omega (arith, d, e, f)))
      (part row.explicit_inputs row.implicit_inputs (omega (arith, a, b, c)) (omega (arith, e, f)))
      (part row.implicit_inputs row.order_only_inputs (omega (arith, a, b, c, d)) (omega (arith, f)))
      (part row.order_only_inputs row.validations (omega (arith, a, b, c, d, e)) (omega arith))

-- the lists of a row move together, in two steps
module _ (xs ys zs : List ℕ) (row after : Row) (lies : IsRowIn (length xs) row) (outputs inputs gone cut : ℕ)
    (few : gone ≤ row.implicit_outputs - row.explicit_outputs) (less : cut ≤ row.implicit_inputs - row.explicit_inputs)
    (left : (row.implicit_outputs - row.explicit_outputs) - gone ≡ (row.implicit_outputs - row.explicit_outputs) - outputs)
    (rest : (row.implicit_inputs - row.explicit_inputs) - cut ≡ (row.implicit_inputs - row.explicit_inputs) - inputs)
    (one : IsMovedTo xs ys row.implicit_outputs ((row.implicit_inputs - cut) - row.implicit_outputs) (row.implicit_outputs - gone))
    (two : IsMovedTo ys zs row.implicit_inputs (row.validations - row.implicit_inputs) ((row.implicit_inputs - cut) - gone))
    (is0 : after.start ≡ row.start) (is1 : after.explicit_outputs ≡ row.explicit_outputs) (is2 : after.implicit_outputs ≡ row.implicit_outputs - gone) (is3 : after.explicit_inputs ≡ row.explicit_inputs - gone)
    (is4 : after.implicit_inputs ≡ (row.implicit_inputs - cut) - gone) (is5 : after.order_only_inputs ≡ (row.order_only_inputs - gone) - cut) (is6 : after.validations ≡ (row.validations - gone) - cut) where
  p0 : row.start ≤ row.explicit_outputs
  p0 = lies.explicit_outputs

  p1 : row.explicit_outputs ≤ row.implicit_outputs
  p1 = lies.implicit_outputs

  p2 : row.implicit_outputs ≤ row.explicit_inputs
  p2 = lies.explicit_inputs

  p3 : row.explicit_inputs ≤ row.implicit_inputs
  p3 = lies.implicit_inputs

  p4 : row.implicit_inputs ≤ row.order_only_inputs
  p4 = lies.order_only_inputs

  p5 : row.order_only_inputs ≤ row.validations
  p5 = lies.validations

  p6 : row.validations ≤ length xs
  p6 = lies.within

  size : length zs ≡ length xs
  size = two.fits ∙ one.fits

  in_front : (k : ℕ) → k < row.implicit_outputs - gone → get_or zs k 0 ≡ get_or xs k 0
  in_front k low = two.front k (omega (arith, low, few, less, p1, p2, p3)) ∙ one.front k low

  first_part : (k : ℕ) → row.implicit_outputs ≤ k → k < row.implicit_inputs - cut → get_or zs (k - gone) 0 ≡ get_or xs k 0
  first_part k from to =
      let place : row.implicit_outputs + ((k - gone) - (row.implicit_outputs - gone)) ≡ k = omega (arith, from, few, p1) in
      two.front (k - gone) (omega (arith, from, to, few, less, p1, p2, p3))
      ∙ (one.moved (k - gone) (omega (arith, from)) (omega (arith, from, to, few, less, p1, p2, p3)) ∙ ap (λ (n : ℕ). get_or xs n 0) place)

  second_part : (k : ℕ) → row.implicit_inputs ≤ k → k < row.validations → get_or zs ((k - gone) - cut) 0 ≡ get_or xs k 0
  second_part k from to =
      let place : row.implicit_inputs + (((k - gone) - cut) - ((row.implicit_inputs - cut) - gone)) ≡ k = omega (arith, from, few, less, p1, p2, p3) in
      two.moved ((k - gone) - cut) (omega (arith, from)) (omega (arith, from, to, few, less, p1, p2, p3))
      ∙ (ap (λ (n : ℕ). get_or ys n 0) place ∙ one.behind k (omega (arith, from, few, less, p1, p2, p3)))

  beyond : (k : ℕ) → row.validations ≤ k → get_or zs k 0 ≡ get_or xs k 0
  beyond k from = two.behind k (omega (arith, from, few, less, p1, p2, p3, p4, p5)) ∙ one.behind k (omega (arith, from, few, less, p1, p2, p3, p4, p5))

  after_lies : IsRowIn (length zs) after
  after_lies = record {
    explicit_outputs = omega (arith, is0, is1, p0);
    implicit_outputs = omega (arith, is1, is2, few, p1);
    explicit_inputs = omega (arith, is2, is3, p2);
    implicit_inputs = omega (arith, is3, is4, less, p3);
    order_only_inputs = omega (arith, is4, is5, p4);
    validations = omega (arith, is5, is6, p5);
    within = let whole = size in omega (arith, is6, p6, whole);
  }

  explicit_outputs_are : between zs after.start after.explicit_outputs ≡ between xs row.start row.explicit_outputs
  explicit_outputs_are =
      let whole = size in
      between_same zs xs after.start after.explicit_outputs row.start row.explicit_outputs (omega (arith, is0, is1)) (omega (arith, is1, p1, p2, p3, p4, p5, p6, whole)) (omega (arith, p1, p2, p3, p4, p5, p6)) (λ k low.
      ap (λ (n : ℕ). get_or zs n 0) (omega (arith, is0)) ∙ in_front (row.start + k) (omega (arith, low, is0, is1, few, p0, p1)))

  implicit_outputs_are : between zs after.explicit_outputs after.implicit_outputs ≡ without_last outputs (between xs row.explicit_outputs row.implicit_outputs)
  implicit_outputs_are =
      let whole = size in
      between_same zs xs after.explicit_outputs after.implicit_outputs row.explicit_outputs (row.implicit_outputs - gone) (omega (arith, is1, is2)) (omega (arith, is2, p2, p3, p4, p5, p6, whole)) (omega (arith, p2, p3, p4, p5, p6)) (λ k low.
      ap (λ (n : ℕ). get_or zs n 0) (omega (arith, is1)) ∙ in_front (row.explicit_outputs + k) (omega (arith, low, is1, is2)))
      ∙ cut_part xs row.explicit_outputs row.implicit_outputs gone outputs (omega (arith, p2, p3, p4, p5, p6)) few left

  explicit_inputs_are : between zs after.implicit_outputs after.explicit_inputs ≡ between xs row.implicit_outputs row.explicit_inputs
  explicit_inputs_are =
      let whole = size in
      between_same zs xs after.implicit_outputs after.explicit_inputs row.implicit_outputs row.explicit_inputs (omega (arith, is2, is3, few, p1, p2)) (omega (arith, is3, p3, p4, p5, p6, whole)) (omega (arith, p3, p4, p5, p6)) (λ k low.
      ap (λ (n : ℕ). get_or zs n 0) (omega (arith, is2, few, p1)) ∙ first_part (row.implicit_outputs + k) (omega arith) (omega (arith, low, is2, is3, few, less, p1, p2, p3)))

  implicit_inputs_are : between zs after.explicit_inputs after.implicit_inputs ≡ without_last inputs (between xs row.explicit_inputs row.implicit_inputs)
  implicit_inputs_are =
      let whole = size in
      between_same zs xs after.explicit_inputs after.implicit_inputs row.explicit_inputs (row.implicit_inputs - cut) (omega (arith, is3, is4, few, less, p1, p2, p3)) (omega (arith, is4, p4, p5, p6, whole)) (omega (arith, p4, p5, p6)) (λ k low.
      ap (λ (n : ℕ). get_or zs n 0) (omega (arith, is3, few, p1, p2)) ∙ first_part (row.explicit_inputs + k) (omega (arith, p2)) (omega (arith, low, is3, is4, few, less, p1, p2, p3)))
      ∙ cut_part xs row.explicit_inputs row.implicit_inputs cut inputs (omega (arith, p4, p5, p6)) less rest

  order_only_inputs_are : between zs after.implicit_inputs after.order_only_inputs ≡ between xs row.implicit_inputs row.order_only_inputs
  order_only_inputs_are =
      let whole = size in
      between_same zs xs after.implicit_inputs after.order_only_inputs row.implicit_inputs row.order_only_inputs (omega (arith, is4, is5, few, less, p1, p2, p3, p4)) (omega (arith, is5, p5, p6, whole)) (omega (arith, p5, p6)) (λ k low.
      ap (λ (n : ℕ). get_or zs n 0) (omega (arith, is4, few, less, p1, p2, p3)) ∙ second_part (row.implicit_inputs + k) (omega arith) (omega (arith, low, is4, is5, few, less, p1, p2, p3, p4, p5)))

  validations_are : between zs after.order_only_inputs after.validations ≡ between xs row.order_only_inputs row.validations
  validations_are =
      let whole = size in
      between_same zs xs after.order_only_inputs after.validations row.order_only_inputs row.validations (omega (arith, is5, is6, few, less, p1, p2, p3, p4, p5)) (omega (arith, is6, p6, whole)) (omega (arith, p6)) (λ k low.
      ap (λ (n : ℕ). get_or zs n 0) (omega (arith, is5, few, less, p1, p2, p3, p4)) ∙ second_part (row.order_only_inputs + k) (omega (arith, p4)) (omega (arith, low, is5, is6, few, less, p1, p2, p3, p4, p5)))

  pub shrunk_row : IsShrunkRow xs zs row outputs inputs after
  shrunk_row = record {
    fits = size;
    lies = after_lies;
    is = same_line _ _ _ _ _ _ _ _ _ _ _ _ explicit_outputs_are implicit_outputs_are explicit_inputs_are implicit_inputs_are order_only_inputs_are validations_are;
    first = is0;
    last = omega (arith, is6);
    elsewhere = λ k apart. by k apart;
  }
    where
      by : (k : ℕ) → (k < row.start) ⊎ (row.validations ≤ k) → get_or zs k 0 ≡ get_or xs k 0
      by k (inl front) = in_front k (omega (arith, front, few, p0, p1))
      by k (inr behind) = beyond k behind

-- ---- all rows

module _ (old new : List ℕ) (rows : List Row) (lines : List Line) (e place outputs inputs : ℕ) (row after : Row) (view : map (line_of old) rows ≡ lines) (laid : AreLaidOut (length old) rows)
    (same : place ≡ e) (within : e < length lines) (read : row ≡ get_or rows place row) (shrunk : IsShrunkRow old new row outputs inputs after) where
  many : length lines ≡ length rows
  many = ap length (sym view) ∙ length-map rows (line_of old)

  low : place < length rows
  low = let count = many in omega (arith, count, within, same)

  here : row ≡ row_at rows place
  here = read ∙ get_or_default rows place row no_row low

  -- the new row is apart from those that the old one was apart from
  apart_still : (k : ℕ) → k < length rows → (k ≡ place → ⊥) → LieApart (row_at rows k) after
  apart_still k there other = by (apart_both rows k place laid.apart there low other)
    where
      start : (row_at rows place).start ≡ after.start
      start = ap (λ (r : Row). r.start) (sym here) ∙ sym shrunk.first

      end : after.validations ≤ (row_at rows place).validations
      end = subst (λ (r : Row). after.validations ≤ r.validations) here shrunk.last

      by : LieApart (row_at rows k) (row_at rows place) → LieApart (row_at rows k) after
      by (inl front) = let begin = start in inl (omega (arith, front, begin))
      by (inr behind) = let stop = end in inr (omega (arith, behind, stop))

  other_line : (k : ℕ) → k < length rows → (k ≡ place → ⊥) → line_of new (row_at rows k) ≡ line_of old (row_at rows k)
  other_line k there other = line_stays old new (row_at rows k) (lies_at (length old) rows k laid.lie there) shrunk.fits (λ n from to. shrunk.elsewhere n (by n from to (apart_both rows k place laid.apart there low other)))
    where
      by : (n : ℕ) → (row_at rows k).start ≤ n → n < (row_at rows k).validations → LieApart (row_at rows k) (row_at rows place) → (n < row.start) ⊎ (row.validations ≤ n)
      by n from to (inl front) = let begin = ap (λ (r : Row). r.start) here in inl (omega (arith, to, front, begin))
      by n from to (inr behind) = let stop = ap (λ (r : Row). r.validations) here in inr (omega (arith, from, behind, stop))

  pub shrunk_rows : AreLaidOut (length new) (set rows place after)
  shrunk_rows = record {
    lie = rows_set (length new) rows place after (subst (λ (n : ℕ). AreRowsIn n rows) (sym shrunk.fits) laid.lie) shrunk.lies;
    apart = apart_set_but rows place after laid.apart apart_still;
  }

  pub shrunk_lines : map (line_of new) (set rows place after) ≡ with_shrunk lines e outputs inputs
  shrunk_lines = ext_get_or no_line (map (line_of new) (set rows place after)) (with_shrunk lines e outputs inputs) sizes each
    where
      sizes : length (map (line_of new) (set rows place after)) ≡ length (with_shrunk lines e outputs inputs)
      sizes = length-map (set rows place after) (line_of new) ∙ (length-set rows place after ∙ (sym many ∙ sym (length-set lines e (shrunk_line (line_at lines e) outputs inputs))))

      mine : line_at lines e ≡ line_of old row
      mine = (row_found old rows lines e place row view laid.lie same within read).is

      at_old : (k : ℕ) → k < length rows → line_at lines k ≡ line_of old (row_at rows k)
      at_old k there = ap (λ (l : List Line). line_at l k) (sym view) ∙ get_or-map (line_of old) rows k no_row no_line there

      at_new : (k : ℕ) → k < length rows → line_at (map (line_of new) (set rows place after)) k ≡ line_of new (row_at (set rows place after) k)
      at_new k there = get_or-map (line_of new) (set rows place after) k no_row no_line (let long = length-set rows place after in omega (arith, there, long))

      each : (k : ℕ) → k < length (map (line_of new) (set rows place after)) → line_at (map (line_of new) (set rows place after)) k ≡ line_at (with_shrunk lines e outputs inputs) k
      each k bound = by (cases_eq k place)
        where
          there : k < length rows
          there = let count = length-map (set rows place after) (line_of new) in let long = length-set rows place after in omega (arith, bound, count, long)

          by : (k ≡ place) ⊎ (k ≡ place → ⊥) → line_at (map (line_of new) (set rows place after)) k ≡ line_at (with_shrunk lines e outputs inputs) k
          by (inl is) =
              at_new k there
              ∙ (ap (line_of new) (ap (row_at (set rows place after)) is ∙ get_or-set_same rows place after no_row low)
              ∙ (shrunk.is ∙ (ap (λ (l : Line). shrunk_line l outputs inputs) (sym mine)
              ∙ (sym (get_or-set_same lines e (shrunk_line (line_at lines e) outputs inputs) no_line within) ∙ ap (line_at (with_shrunk lines e outputs inputs)) (sym (is ∙ same))))))
          by (inr other) =
              at_new k there
              ∙ (ap (line_of new) (get_or-set_other rows place k after no_row other)
              ∙ (other_line k there other
              ∙ (sym (at_old k there) ∙ sym (get_or-set_other lines e k (shrunk_line (line_at lines e) outputs inputs) no_line (λ is. other (is ∙ sym same))))))

-- ---- what grew and shrinks is what it was

cut_back : (xs ys : List ℕ) → without_last (length ys) (xs ++ ys) ≡ xs
cut_back xs ys = let sum = length-append xs ys in ap (λ (n : ℕ). take n (xs ++ ys)) (omega (arith, sum)) ∙ take-append_seam xs ys

pub grown_back : (line : Line) (outputs inputs : List ℕ) → shrunk_line (grown_line line outputs inputs) (length outputs) (length inputs) ≡ line
grown_back line outputs inputs = same_line _ _ _ _ _ _ _ _ _ _ _ _ refl (cut_back line.implicit_outputs outputs) refl (cut_back line.implicit_inputs inputs) refl refl
