-- What is told of a command at its last line.
use Rattle.std.proofs.Common.{◌≡◌, ◌≢◌, ℕ, ◌+◌, ◌-◌, ◌<◌, ◌≤◌, Bool, true, false, List, [], ◌∷◌, ◌++◌, length, get_or, set, refl, sym, ap, subst, ◌∙◌, Option, Some, None, inl, inr, arith, append_assoc, append-nil}
use Prim.Native.Nat.{zero, suc}
use Rattle.std.specs.Prelude.{◌==◌, ◌⊎◌, codes, option_and_then, if◌then◌else◌}
use Rattle.std.proofs.lemmas.Bool.{eq-eqb, eqb-true}
use Rattle.std.proofs.lemmas.Bool.Decides.{eqb_tells}
use Rattle.std.proofs.lemmas.List.{get_or-set_other, get_or-set_same}
use Rattle.shares.specs.declared.families.Families.{Families}
use Rattle.shares.specs.declared.sharing.Share.{Share}
use Rattle.shares.specs.declared.sharing.Shares.{Shares}
use Rattle.shares.specs.Families.{after, after_all, nothing_yet, place_of_line}
use Rattle.shares.specs.Owners.{no_left, owner_at}
use Rattle.shares.specs.Sharing.{command_of, owned_by, read_more, shared, shared_by, shared_left, shared_of, shared_to, shares_of, text_of, told, told_by, told_of, told_to, with_this, without_open}
use Rattle.shares.specs.Whole.{AllFine, EachShareIsWhole, is_of, line_for, lines_of, owner_of, read_of, shared_all}
use Rattle.shares.proofs.Behind.{after_more}
use Rattle.shares.proofs.Counting.{both_count, count_of, counts, if_so}
use Rattle.shares.proofs.Owning.{all_fine, left_total}

-- ---- lines behind others

count_app : (c : ℕ) (owners : List (Option ℕ)) (families : Families) (front back : List (List ℕ))
    → count_of c owners families (front ++ back) ≡ count_of c owners families front + count_of c owners (after_all families front) back
count_app c owners families [] back = omega arith
count_app c owners families (line ∷ front) back =
    let more = count_app c owners (after families line) front back in
    omega (arith, more)

lines_app : (c : ℕ) (owners : List (Option ℕ)) (families : Families) (front back : List (List ℕ))
    → lines_of c owners families (front ++ back) ≡ lines_of c owners families front ++ lines_of c owners (after_all families front) back
lines_app c owners families [] back = refl
lines_app c owners families (line ∷ front) back =
    ap (λ (l : List ℕ). line_for c (owner_of owners families line) line ++ l) (lines_app c owners (after families line) front back)
    ∙ sym (append_assoc (line_for c (owner_of owners families line) line) (lines_of c owners (after families line) front) (lines_of c owners (after_all families (line ∷ front)) back))

no_lines : (c : ℕ) (owners : List (Option ℕ)) (families : Families) (lines : List (List ℕ)) → count_of c owners families lines ≡ 0 → lines_of c owners families lines ≡ []
no_lines c owners families [] none = refl
no_lines c owners families (line ∷ lines) none = by (is_of c (owner_of owners families line)) none (no_lines c owners (after families line) lines)
  where
    by : (b : Bool) → if_so b 1 + count_of c owners (after families line) lines ≡ 0
        → (count_of c owners (after families line) lines ≡ 0 → lines_of c owners (after families line) lines ≡ [])
        → (if b then line ++ codes "\n" else []) ++ lines_of c owners (after families line) lines ≡ []
    by true none more = absurd (omega (arith, none))
    by false none more = more (omega (arith, none))

-- ---- the lines so far of several commands

-- how often a command stands there
abbrev times : ℕ → List Share → ℕ
times c [] = 0
times c (share ∷ shares) = if_so (share.command == c) 1 + times c shares

times_less : (c d : ℕ) (shares : List Share) → times c (without_open d shares) ≤ times c shares
times_less c d [] = omega arith
times_less c d (share ∷ shares) = by (share.command == d) (times_less c d shares)
  where
    by : (b : Bool) → times c (without_open d shares) ≤ times c shares
        → times c (if b then shares else share ∷ without_open d shares) ≤ if_so (share.command == c) 1 + times c shares
    by true less = omega arith
    by false less = omega (arith, less)

times_last : (c : ℕ) (shares : List Share) (share : Share) → times c (shares ++ share ∷ []) ≡ times c shares + if_so (share.command == c) 1
times_last c [] share = omega arith
times_last c (first ∷ shares) share =
    let more = times_last c shares share in
    omega (arith, more)

times_gone : (c : ℕ) (shares : List Share) → times c shares ≤ 1 → times c (without_open c shares) ≡ 0
times_gone c [] once = refl
times_gone c (share ∷ shares) once = by (share.command == c) refl once (times_gone c shares)
  where
    by : (b : Bool) → (share.command == c) ≡ b → if_so b 1 + times c shares ≤ 1 → (times c shares ≤ 1 → times c (without_open c shares) ≡ 0)
        → times c (if b then shares else share ∷ without_open c shares) ≡ 0
    by true is once more = omega (arith, once)
    by false is once more =
        let rest = more (omega (arith, once)) in
        let here : if_so (share.command == c) 1 ≡ if_so false 1 = ap (λ (b : Bool). if_so b 1) is in
        omega (arith, rest, here)

text_other : (c d : ℕ) (shares : List Share) → d ≢ c → text_of c (without_open d shares) ≡ text_of c shares
text_other c d [] other = refl
text_other c d (share ∷ shares) other = elim (eqb_tells share.command d) [
  | inl same ↦ elim (eqb_tells share.command c) [
    | inl clash ↦ absurd (other (sym same.1 ∙ clash.1))
    | inr differ ↦ rw (same.0, differ.0) refl
  ]
  | inr apart ↦ rw apart.0 (by (share.command == c) (text_other c d shares other))
]
  where
    by : (b : Bool) → text_of c (without_open d shares) ≡ text_of c shares
        → (if b then share.text else text_of c (without_open d shares)) ≡ (if b then share.text else text_of c shares)
    by true more = refl
    by false more = more

text_last_other : (c : ℕ) (shares : List Share) (share : Share) → (share.command == c) ≡ false → text_of c (shares ++ share ∷ []) ≡ text_of c shares
text_last_other c [] share other = rw other refl
text_last_other c (first ∷ shares) share other = by (first.command == c) (text_last_other c shares share other)
  where
    by : (b : Bool) → text_of c (shares ++ share ∷ []) ≡ text_of c shares
        → (if b then first.text else text_of c (shares ++ share ∷ [])) ≡ (if b then first.text else text_of c shares)
    by true more = refl
    by false more = more

text_last : (c : ℕ) (shares : List Share) (share : Share) → times c shares ≡ 0 → share.command ≡ c → text_of c (shares ++ share ∷ []) ≡ share.text
text_last c [] share none is = rw (eq-eqb share.command c is) refl
text_last c (first ∷ shares) share none is = by (first.command == c) none (text_last c shares share)
  where
    by : (b : Bool) → if_so b 1 + times c shares ≡ 0 → (times c shares ≡ 0 → share.command ≡ c → text_of c (shares ++ share ∷ []) ≡ share.text)
        → (if b then first.text else text_of c (shares ++ share ∷ [])) ≡ share.text
    by true none more = absurd (omega (arith, none))
    by false none more = more (omega (arith, none)) is

within_some : (xs : List (Option ℕ)) (i m : ℕ) → get_or xs i no_left ≡ Some m → i < length xs
within_some [] i m is = absurd (cc)
within_some (x ∷ xs) zero m is = omega arith
within_some (x ∷ xs) (suc i) m is =
    let below = within_some xs i m is in
    omega (arith, below)

-- ---- so far

-- what is known of a command behind these lines, which has so many in all
pub record IsTold (c : ℕ) (owners : List (Option ℕ)) (n : ℕ) (front : List (List ℕ)) (shares : Shares) : Type 0 where
  pub families : shares.families ≡ after_all nothing_yet front
  pub same : shares.owners ≡ owners
  pub left : get_or shares.left c no_left ≡ Some (n - count_of c owners nothing_yet front)
  pub text : count_of c owners nothing_yet front < n → text_of c shares.begun ≡ lines_of c owners nothing_yet front
  pub once : times c shares.begun ≤ 1

-- a line that is not the command's
other_line : (c : ℕ) (owners : List (Option ℕ)) (n : ℕ) (front : List (List ℕ)) (old new : Shares) (line : List ℕ) → IsTold c owners n front old
    → is_of c (owner_of owners (after_all nothing_yet front) line) ≡ false → new.families ≡ after old.families line → new.owners ≡ old.owners
    → get_or new.left c no_left ≡ get_or old.left c no_left → text_of c new.begun ≡ text_of c old.begun → times c new.begun ≤ 1
    → IsTold c owners n (front ++ line ∷ []) new
other_line c owners n front old new line is other families same left text once =
    let last = after_all nothing_yet front in
    let none : if_so (is_of c (owner_of owners last line)) 1 ≡ if_so false 1 = ap (λ (b : Bool). if_so b 1) other in
    let count : count_of c owners nothing_yet (front ++ line ∷ []) ≡ count_of c owners nothing_yet front =
    let app = count_app c owners nothing_yet front (line ∷ []) in omega (arith, app, none) in
    let lines : lines_of c owners nothing_yet (front ++ line ∷ []) ≡ lines_of c owners nothing_yet front =
    lines_app c owners nothing_yet front (line ∷ [])
    ∙ (ap (λ (b : Bool). lines_of c owners nothing_yet front ++ ((if b then line ++ codes "\n" else []) ++ [])) other
    ∙ append-nil (lines_of c owners nothing_yet front)) in
    record {
      families = families ∙ (ap (λ (f : Families). after f line) is.families ∙ sym (after_more nothing_yet front line));
      same = same ∙ is.same;
      left = left ∙ (is.left ∙ ap (λ (k : ℕ). Some (n - k)) (sym count));
      text = λ below. text ∙ (is.text (omega (arith, below, count)) ∙ sym lines);
      once = once;
    }

if_small : (b : Bool) → if_so b 1 ≤ 1
if_small true = omega arith
if_small false = omega arith

once_by : (c : ℕ) (b : Bool) (shares : List Share) (share : Share) → times c shares ≡ 0 → times c (if b then shares else shares ++ share ∷ []) ≤ 1
once_by c true shares share none = omega (arith, none)
once_by c false shares share none =
    let last = times_last c shares share in
    let small = if_small (share.command == c) in
    omega (arith, none, last, small)

text_by : (c : ℕ) (b : Bool) (shares : List Share) (share : Share) → times c shares ≡ 0 → share.command ≡ c → b ≡ false
    → text_of c (if b then shares else shares ++ share ∷ []) ≡ share.text
text_by c true shares share none is other = absurd (cc)
text_by c false shares share none is other = text_last c shares share none is

not_one : (l : ℕ) → l ≢ 1 → (l == 1) ≡ false
not_one l other = elim (eqb_tells l 1) [
  | inl same ↦ absurd (other same.1)
  | inr differ ↦ differ.0
]

-- a line of the command, which has lines left
own_shared : (c : ℕ) (owners : List (Option ℕ)) (n : ℕ) (front : List (List ℕ)) (old : Shares) (line : List ℕ) (l : ℕ) → IsTold c owners n front old
    → l ≡ n - count_of c owners nothing_yet front → l ≢ 0 → count_of c owners nothing_yet (front ++ line ∷ []) ≡ count_of c owners nothing_yet front + 1
    → lines_of c owners nothing_yet (front ++ line ∷ []) ≡ lines_of c owners nothing_yet front ++ (line ++ codes "\n")
    → IsTold c owners n (front ++ line ∷ []) (shared_left c line l (read_more old line))
own_shared c owners n front old line l is size some count lines =
    let gone = times_gone c old.begun is.once in
    let this = with_this c line (read_more old line) in
    record {
      families = ap (λ (f : Families). after f line) is.families ∙ sym (after_more nothing_yet front line);
      same = is.same;
      left =
          get_or-set_same old.left c (Some (l - 1)) no_left (within_some old.left c (n - count_of c owners nothing_yet front) is.left)
          ∙ ap (λ (m : ℕ). Some m) (omega (arith, size, count));
      text = λ below.
          let more : l ≢ 1 = λ e. absurd (omega (arith, e, below, count, size)) in
          text_by c (l == 1) (without_open c old.begun) this gone refl (not_one l more)
          ∙ (ap (λ (text : List ℕ). (text ++ line) ++ codes "\n") (is.text (omega (arith, below, count)))
          ∙ (append_assoc (lines_of c owners nothing_yet front) line (codes "\n") ∙ sym lines));
      once = once_by c (l == 1) (without_open c old.begun) this gone;
    }

-- one that has none left, which does not come
own_ended : (c : ℕ) (owners : List (Option ℕ)) (n : ℕ) (front : List (List ℕ)) (old : Shares) (line : List ℕ) → IsTold c owners n front old
    → n - count_of c owners nothing_yet front ≡ 0 → count_of c owners nothing_yet (front ++ line ∷ []) ≡ count_of c owners nothing_yet front + 1
    → IsTold c owners n (front ++ line ∷ []) (read_more old line)
own_ended c owners n front old line is none count = record {
  families = ap (λ (f : Families). after f line) is.families ∙ sym (after_more nothing_yet front line);
  same = is.same;
  left = is.left ∙ ap (λ (m : ℕ). Some m) (omega (arith, none, count));
  text = λ below. absurd (omega (arith, none, count, below));
  once = is.once;
}

own_by : (c : ℕ) (owners : List (Option ℕ)) (n : ℕ) (front : List (List ℕ)) (old : Shares) (line : List ℕ) (l : ℕ) → IsTold c owners n front old
    → l ≡ n - count_of c owners nothing_yet front → count_of c owners nothing_yet (front ++ line ∷ []) ≡ count_of c owners nothing_yet front + 1
    → lines_of c owners nothing_yet (front ++ line ∷ []) ≡ lines_of c owners nothing_yet front ++ (line ++ codes "\n")
    → IsTold c owners n (front ++ line ∷ []) (if l == 0 then read_more old line else shared_left c line l (read_more old line))
own_by c owners n front old line l is size count lines = elim (eqb_tells l 0) [
  | inl none ↦ rw none.0 (own_ended c owners n front old line is (sym size ∙ none.1) count)
  | inr some ↦ rw some.0 (own_shared c owners n front old line l is size some.1 count lines)
]

-- a line of the command
own_line : (c : ℕ) (owners : List (Option ℕ)) (n : ℕ) (front : List (List ℕ)) (old : Shares) (line : List ℕ) → IsTold c owners n front old
    → is_of c (owner_of owners (after_all nothing_yet front) line) ≡ true → IsTold c owners n (front ++ line ∷ []) (shared_of c line (read_more old line))
own_line c owners n front old line is own =
    let k = count_of c owners nothing_yet front in
    let last = after_all nothing_yet front in
    let one : if_so (is_of c (owner_of owners last line)) 1 ≡ if_so true 1 = ap (λ (b : Bool). if_so b 1) own in
    let count : count_of c owners nothing_yet (front ++ line ∷ []) ≡ k + 1 =
    let app = count_app c owners nothing_yet front (line ∷ []) in omega (arith, app, one) in
    let lines : lines_of c owners nothing_yet (front ++ line ∷ []) ≡ lines_of c owners nothing_yet front ++ (line ++ codes "\n") =
    lines_app c owners nothing_yet front (line ∷ [])
    ∙ (ap (λ (b : Bool). lines_of c owners nothing_yet front ++ ((if b then line ++ codes "\n" else []) ++ [])) own
    ∙ ap (λ (l : List ℕ). lines_of c owners nothing_yet front ++ l) (append-nil (line ++ codes "\n"))) in
    subst (λ (l : Option ℕ). IsTold c owners n (front ++ line ∷ []) (shared_by c line l (read_more old line))) (sym is.left)
    (own_by c owners n front old line (n - k) is refl count lines)

-- a line of another command
apart_line : (c d : ℕ) (owners : List (Option ℕ)) (n : ℕ) (front : List (List ℕ)) (old : Shares) (line : List ℕ) (left : Option ℕ) → IsTold c owners n front old
    → is_of c (owner_of owners (after_all nothing_yet front) line) ≡ false → d ≢ c → IsTold c owners n (front ++ line ∷ []) (shared_by d line left (read_more old line))
apart_line c d owners n front old line None is other apart = other_line c owners n front old (read_more old line) line is other refl refl refl refl is.once
apart_line c d owners n front old line (Some l) is other apart = by (l == 0) (l == 1) refl
  where
    differs : (d == c) ≡ false
    differs = elim (eqb_tells d c) [
      | inl same ↦ absurd (apart same.1)
      | inr differ ↦ differ.0
    ]

    this : Share
    this = with_this d line (read_more old line)

    text : (b : Bool) → text_of c (if b then without_open d old.begun else without_open d old.begun ++ this ∷ []) ≡ text_of c old.begun
    text true = text_other c d old.begun apart
    text false = text_last_other c (without_open d old.begun) this differs ∙ text_other c d old.begun apart

    once : (b : Bool) → times c (if b then without_open d old.begun else without_open d old.begun ++ this ∷ []) ≤ 1
    once true = omega (arith, times_less c d old.begun, is.once)
    once false =
        let last = times_last c (without_open d old.begun) this in
        let none : if_so (d == c) 1 ≡ if_so false 1 = ap (λ (b : Bool). if_so b 1) differs in
        omega (arith, times_less c d old.begun, is.once, last, none)

    by : (b e : Bool) → (l == 1) ≡ e → IsTold c owners n (front ++ line ∷ []) (if b then read_more old line else shared_left d line l (read_more old line))
    by true e is_one = other_line c owners n front old (read_more old line) line is other refl refl refl refl is.once
    by false e is_one =
        other_line c owners n front old (shared_left d line l (read_more old line)) line is other refl refl
        (get_or-set_other old.left d c (Some (l - 1)) no_left (λ same. apart (sym same))) (text (l == 1)) (once (l == 1))

-- a line
line_told : (c : ℕ) (owners : List (Option ℕ)) (n : ℕ) (front : List (List ℕ)) (old : Shares) (line : List ℕ) (o : Option ℕ) → IsTold c owners n front old
    → owner_of owners (after_all nothing_yet front) line ≡ o → IsTold c owners n (front ++ line ∷ []) (shared_to o line (read_more old line))
line_told c owners n front old line None is of = other_line c owners n front old (read_more old line) line is (ap (is_of c) of) refl refl refl refl is.once
line_told c owners n front old line (Some d) is of = elim (eqb_tells d c) [
  | inl same ↦
      subst (λ (k : ℕ). IsTold c owners n (front ++ line ∷ []) (shared_of k line (read_more old line))) (sym same.1)
      (own_line c owners n front old line is (ap (is_of c) of ∙ same.0))
  | inr differ ↦ apart_line c d owners n front old line (get_or old.left d no_left) is (ap (is_of c) of ∙ differ.0) differ.1
]

-- whose a line is that is read, by what was known of the lines before it
command_is : (owners : List (Option ℕ)) (families : Families) (shares : Shares) (line : List ℕ) → shares.families ≡ families → shares.owners ≡ owners
    → command_of shares line ≡ owner_of owners families line
command_is owners families shares line same of =
    ap (λ (f : Families). option_and_then (λ place. owner_at place shares.owners) (place_of_line f line)) same
    ∙ ap (λ (os : List (Option ℕ)). option_and_then (λ place. owner_at place os) (place_of_line families line)) of

step_told : (c : ℕ) (owners : List (Option ℕ)) (n : ℕ) (front : List (List ℕ)) (old : Shares) (line : List ℕ) → IsTold c owners n front old
    → IsTold c owners n (front ++ line ∷ []) (shared old line)
step_told c owners n front old line is =
    let same = command_is owners (after_all nothing_yet front) old line is.families is.same in
    subst (λ (o : Option ℕ). IsTold c owners n (front ++ line ∷ []) (shared_to o line (read_more old line))) (sym same)
    (line_told c owners n front old line (owner_of owners (after_all nothing_yet front) line) is refl)

run_told : (c : ℕ) (owners : List (Option ℕ)) (n : ℕ) (front more : List (List ℕ)) (old : Shares) → IsTold c owners n front old
    → IsTold c owners n (front ++ more) (shared_all old more)
run_told c owners n front [] old is = subst (λ (ls : List (List ℕ)). IsTold c owners n ls old) (sym (append-nil front)) is
run_told c owners n front (line ∷ more) old is =
    subst (λ (ls : List (List ℕ)). IsTold c owners n ls (shared_all (shared old line) more)) (append_assoc front (line ∷ []) more)
    (run_told c owners n (front ++ line ∷ []) more (shared old line) (step_told c owners n front old line is))

-- ---- a command that has none left stays so

set_none : (xs : List (Option ℕ)) (i j : ℕ) (v : Option ℕ) → get_or xs i no_left ≡ None → (i ≢ j) → get_or (set xs j v) i no_left ≡ None
set_none xs i j v none other = get_or-set_other xs j i v no_left other ∙ none

none_by : (c d : ℕ) (line : List ℕ) (left : Option ℕ) (old : Shares) → get_or old.left d no_left ≡ left → get_or old.left c no_left ≡ None
    → get_or (shared_by d line left (read_more old line)).left c no_left ≡ None
none_by c d line None old at none = none
none_by c d line (Some l) old at none = by (l == 0)
  where
    other : c ≢ d
    other = λ e. absurd (let clash : None ≡ Some l = sym none ∙ (ap (λ (k : ℕ). get_or old.left k no_left) e ∙ at) in cc)

    by : (b : Bool) → get_or (if b then read_more old line else shared_left d line l (read_more old line)).left c no_left ≡ None
    by true = none
    by false = set_none old.left c d (Some (l - 1)) none other

none_to : (c : ℕ) (line : List ℕ) (o : Option ℕ) (old : Shares) → get_or old.left c no_left ≡ None → get_or (shared_to o line (read_more old line)).left c no_left ≡ None
none_to c line None old none = none
none_to c line (Some d) old none = none_by c d line (get_or old.left d no_left) old refl none

none_run : (c : ℕ) (lines : List (List ℕ)) (old : Shares) → get_or old.left c no_left ≡ None → get_or (shared_all old lines).left c no_left ≡ None
none_run c [] old none = none
none_run c (line ∷ lines) old none = none_run c lines (shared old line) (none_to c line (command_of old line) old none)

-- ---- what is told

-- a share that is told is of the line's command, which has one line left, and has what was held of it and this line
abbrev IsLast : Shares → List ℕ → Option ℕ → Share → Type 0
IsLast shares line o share =
    (o ≡ Some share.command) × (get_or shares.left share.command no_left ≡ Some 1)
    × (share.text ≡ (text_of share.command shares.begun ++ line) ++ codes "\n")

some_same : {A : Type 0} (x y : A) → Some x ≡ Some y → x ≡ y
some_same x y e = cc

last_by : (d : ℕ) (line : List ℕ) (left : Option ℕ) (shares : Shares) (share : Share) → get_or shares.left d no_left ≡ left
    → told_by d line left (read_more shares line) ≡ Some share → IsLast shares line (Some d) share
last_by d line None shares share at is = absurd (cc)
last_by d line (Some l) shares share at is = by (l == 1) refl is
  where
    by : (b : Bool) → (l == 1) ≡ b → (if b then Some (with_this d line (read_more shares line)) else None) ≡ Some share → IsLast shares line (Some d) share
    by true one is =
        subst (λ (s : Share). IsLast shares line (Some d) s) (some_same (with_this d line (read_more shares line)) share is)
        (refl, at ∙ ap (λ (k : ℕ). Some k) (eqb-true l 1 one), refl)
    by false one is = absurd (cc)

last_of : (line : List ℕ) (o : Option ℕ) (shares : Shares) (share : Share) → told_to o line (read_more shares line) ≡ Some share → IsLast shares line o share
last_of line None shares share is = absurd (cc)
last_of line (Some d) shares share is = last_by d line (get_or shares.left d no_left) shares share refl is

-- ---- the law

-- of a command that has so many lines
whole_of : (lines front : List (List ℕ)) (line : List ℕ) (back : List (List ℕ)) (share : Share) (n : ℕ) → lines ≡ front ++ line ∷ back
    → get_or (owned_by (read_of lines)).left share.command no_left ≡ Some n
    → IsLast (shared_all (shares_of (read_of lines)) front) line (command_of (shared_all (shares_of (read_of lines)) front) line) share
    → share.text ≡ lines_of share.command (owned_by (read_of lines)).owners nothing_yet lines
whole_of lines front line back share n parts has last =
    let c = share.command in
    let owners = (owned_by (read_of lines)).owners in
    let start : IsTold c owners n [] (shares_of (read_of lines)) =
    record { families = refl; same = refl; left = has ∙ ap (λ (m : ℕ). Some m) (omega arith); text = λ below. refl; once = omega arith } in
    let is = run_told c owners n [] front (shares_of (read_of lines)) start in
    let k = count_of c owners nothing_yet front in
    let one : n - k ≡ 1 = some_same (n - k) 1 (sym is.left ∙ last.1) in
    let below : k < n = omega (arith, one) in
    let total : n ≡ count_of c owners nothing_yet lines = left_total c (read_of lines) n has ∙ both_count c owners lines in
    let next = after_all nothing_yet front in
    let of : owner_of owners next line ≡ Some c = sym (command_is owners next (shared_all (shares_of (read_of lines)) front) line is.families is.same) ∙ last.0 in
    let own : is_of c (owner_of owners next line) ≡ true = ap (is_of c) of ∙ eq-eqb c c refl in
    let here : if_so (is_of c (owner_of owners next line)) 1 ≡ if_so true 1 = ap (λ (b : Bool). if_so b 1) own in
    let app : count_of c owners nothing_yet lines ≡ k + count_of c owners next (line ∷ back) =
    ap (λ (ls : List (List ℕ)). count_of c owners nothing_yet ls) parts ∙ count_app c owners nothing_yet front (line ∷ back) in
    let none : count_of c owners (after next line) back ≡ 0 = omega (arith, total, app, here, one) in
    last.2
    ∙ (ap (λ (text : List ℕ). (text ++ line) ++ codes "\n") (is.text below)
    ∙ (append_assoc (lines_of c owners nothing_yet front) line (codes "\n")
    ∙ (ap (λ (l : List ℕ). lines_of c owners nothing_yet front ++ l) (sym (append-nil (line ++ codes "\n")))
    ∙ (ap (λ (l : List ℕ). lines_of c owners nothing_yet front ++ ((line ++ codes "\n") ++ l)) (sym (no_lines c owners (after next line) back none))
    ∙ (ap (λ (b : Bool). lines_of c owners nothing_yet front ++ ((if b then line ++ codes "\n" else []) ++ lines_of c owners (after next line) back)) (sym own)
    ∙ (sym (lines_app c owners nothing_yet front (line ∷ back)) ∙ ap (λ (ls : List (List ℕ)). lines_of c owners nothing_yet ls) (sym parts)))))))

whole_by : (lines front : List (List ℕ)) (line : List ℕ) (back : List (List ℕ)) (share : Share) (left : Option ℕ) → lines ≡ front ++ line ∷ back
    → get_or (owned_by (read_of lines)).left share.command no_left ≡ left
    → IsLast (shared_all (shares_of (read_of lines)) front) line (command_of (shared_all (shares_of (read_of lines)) front) line) share
    → (share.text ≡ lines_of share.command (owned_by (read_of lines)).owners nothing_yet lines)
    × AllFine share.command (owned_by (read_of lines)).owners 0 (read_of lines).processes
whole_by lines front line back share None parts has last =
    let none = none_run share.command front (shares_of (read_of lines)) has in
    absurd (let clash : None ≡ Some 1 = sym none ∙ last.1 in cc)
whole_by lines front line back share (Some n) parts has last =
    (whole_of lines front line back share n parts has last, all_fine share.command (read_of lines) n has)

pub each_share : EachShareIsWhole
each_share lines front line back share parts is =
    let shares = shared_all (shares_of (read_of lines)) front in
    whole_by lines front line back share (get_or (owned_by (read_of lines)).left share.command no_left) parts refl (last_of line (command_of shares line) shares share is)
