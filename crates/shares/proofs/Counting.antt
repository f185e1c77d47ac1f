-- How many lines a command has, by its processes and by the lines themselves.
use Rattle.std.proofs.Common.{◌≡◌, ℕ, ◌+◌, ◌<◌, ◌≤◌, Bool, true, false, List, [], ◌∷◌, ◌++◌, length, get_or, set, replicate, refl, sym, ap, subst, ◌∙◌, Option, Some, None, arith, length-append}
use Prim.Native.Nat.{zero, suc}
use Rattle.std.specs.Prelude.{◌==◌, ◌||◌, bytes_eq, nat_le, option_and_then, if◌then◌else◌, ⊤}
use Rattle.std.proofs.lemmas.List.{length-set}
use Rattle.shares.specs.declared.families.Families.{Families}
use Rattle.shares.specs.declared.numbers.Numbered.{Numbered}
use Rattle.shares.specs.declared.processes.Origin.{Origin}
use Rattle.shares.specs.declared.processes.Origin.TheVariants.{Untold}
use Rattle.shares.specs.declared.processes.Process.{Process}
use Rattle.shares.specs.Lines.{child_of, is_end, is_left_out, leaves_numbers, numbered}
use Rattle.shares.specs.Numbers.{place_of, without}
use Rattle.shares.specs.Processes.{is_told, process_at, process_of}
use Rattle.shares.specs.Owners.{owner_at}
use Rattle.shares.specs.Families.{after, after_all, after_answer, after_body, after_child, after_child_at, after_end, after_number, after_parts, after_seen, after_start, after_told, freed, from_one, has_ended_now, is_mixed_by, is_mixed_now, mixed, nothing_yet, one_line_more, place_by, place_in, place_or_new, told_by, with_changed, with_command, with_line, with_process}
use Rattle.shares.specs.Whole.{is_of, owner_of}

-- so many, if they are this command's
abbrev pub if_so : Bool → ℕ → ℕ
if_so b n = if b then n else 0

abbrev pub counts : ℕ → Option ℕ → ℕ → ℕ
counts c owner n = if_so (is_of c owner) n

-- how many lines a command has among these processes, the first of which stands in this place
abbrev pub sum_of : ℕ → List (Option ℕ) → ℕ → List Process → ℕ
sum_of c owners i [] = 0
sum_of c owners i (p ∷ ps) = counts c (owner_at i owners) p.lines + sum_of c owners (suc i) ps

-- how many it has among these lines
abbrev pub count_of : ℕ → List (Option ℕ) → Families → List (List ℕ) → ℕ
count_of c owners families [] = 0
count_of c owners families (line ∷ lines) = counts c (owner_of owners families line) 1 + count_of c owners (after families line) lines

no_count : (b : Bool) → if_so b 0 ≡ 0
no_count true = refl
no_count false = refl

one_more : (b : Bool) (n : ℕ) → if_so b (n + 1) ≡ if_so b 1 + if_so b n
one_more true n = omega arith
one_more false n = omega arith

sum_fresh : (c : ℕ) (owners : List (Option ℕ)) (i : ℕ) (ps : List Process) (q : Process) → q.lines ≡ 0 → sum_of c owners i (ps ++ q ∷ []) ≡ sum_of c owners i ps
sum_fresh c owners i [] q none =
    let is : counts c (owner_at i owners) q.lines ≡ 0 = ap (λ (n : ℕ). counts c (owner_at i owners) n) none ∙ no_count (is_of c (owner_at i owners)) in
    omega (arith, is)
sum_fresh c owners i (p ∷ ps) q none = ap (λ (n : ℕ). counts c (owner_at i owners) p.lines + n) (sum_fresh c owners (suc i) ps q none)

sum_same : (c : ℕ) (owners : List (Option ℕ)) (i : ℕ) (ps : List Process) (place : ℕ) (q : Process) → q.lines ≡ (process_at place ps).lines
    → sum_of c owners i (set ps place q) ≡ sum_of c owners i ps
sum_same c owners i [] place q same = refl
sum_same c owners i (p ∷ ps) zero q same = ap (λ (n : ℕ). counts c (owner_at i owners) n + sum_of c owners (suc i) ps) same
sum_same c owners i (p ∷ ps) (suc place) q same =
    ap (λ (n : ℕ). counts c (owner_at i owners) p.lines + n) (sum_same c owners (suc i) ps place q same)

sum_more : (c : ℕ) (owners : List (Option ℕ)) (i : ℕ) (ps : List Process) (place : ℕ) (q : Process) → place < length ps → q.lines ≡ (process_at place ps).lines + 1
    → sum_of c owners i (set ps place q) ≡ counts c (owner_at (i + place) owners) 1 + sum_of c owners i ps
sum_more c owners i [] place q within more = absurd (omega arith)
sum_more c owners i (p ∷ ps) zero q within more =
    let here : i + zero ≡ i = omega arith in
    let is : counts c (owner_at i owners) q.lines ≡ counts c (owner_at i owners) 1 + counts c (owner_at i owners) p.lines =
    ap (λ (n : ℕ). counts c (owner_at i owners) n) more ∙ one_more (is_of c (owner_at i owners)) p.lines in
    let at : counts c (owner_at (i + zero) owners) 1 ≡ counts c (owner_at i owners) 1 = ap (λ (j : ℕ). counts c (owner_at j owners) 1) here in
    omega (arith, is, at)
sum_more c owners i (p ∷ ps) (suc place) q within more =
    let there : i + suc place ≡ suc i + place = omega arith in
    let later = sum_more c owners (suc i) ps place q (omega arith) more in
    let at : counts c (owner_at (i + suc place) owners) 1 ≡ counts c (owner_at (suc i + place) owners) 1 = ap (λ (j : ℕ). counts c (owner_at j owners) 1) there in
    omega (arith, later, at)

-- ---- numbers of processes that are there

abbrev Within : ℕ → List Numbered → Type 0
Within n [] = ⊤
Within n (one ∷ numbers) = (one.place < n) × Within n numbers

within_more : (m n : ℕ) (numbers : List Numbered) → m ≤ n → Within m numbers → Within n numbers
within_more m n [] more all = tt
within_more m n (one ∷ numbers) more all = (omega (arith, all.0), within_more m n numbers more all.1)

within_last : (n : ℕ) (numbers : List Numbered) (one : Numbered) → one.place < n → Within n numbers → Within n (numbers ++ one ∷ [])
within_last n [] one below all = (below, tt)
within_last n (first ∷ numbers) one below all = (all.0, within_last n numbers one below all.1)

within_without : (n : ℕ) (number : List ℕ) (numbers : List Numbered) → Within n numbers → Within n (without number numbers)
within_without n number [] all = tt
within_without n number (one ∷ numbers) all = by (bytes_eq one.number number) (within_without n number numbers all.1)
  where
    by : (b : Bool) → Within n (without number numbers) → Within n (if b then numbers else one ∷ without number numbers)
    by true rest = all.1
    by false rest = (all.0, rest)

within_place : (n : ℕ) (number : List ℕ) (numbers : List Numbered) (place : ℕ) → Within n numbers → place_of number numbers ≡ Some place → place < n
within_place n number [] place all is = absurd (cc)
within_place n number (one ∷ numbers) place all is = by (bytes_eq one.number number) refl (within_place n number numbers place all.1)
  where
    by : (b : Bool) → bytes_eq one.number number ≡ b → (place_of number numbers ≡ Some place → place < n) → place < n
    by true same rest =
        let here : Some one.place ≡ Some place = rw same at is in
        let at : one.place ≡ place = cc in
        subst (λ (k : ℕ). k < n) at all.0
    by false other rest = rest (rw other at is)

-- each number is one of a process that is there, and the command has so many lines
abbrev IsAt : ℕ → List (Option ℕ) → ℕ → Families → Type 0
IsAt c owners n families = Within (length families.processes) families.numbers × (sum_of c owners 0 families.processes ≡ n)

with_process_at : (c : ℕ) (owners : List (Option ℕ)) (n : ℕ) (number : List ℕ) (origin : Origin) (families : Families) → IsAt c owners n families → IsAt c owners n (with_process number origin families)
with_process_at c owners n number origin families is =
    let size : length (families.processes ++ process_of origin ∷ []) ≡ length families.processes + 1 = length-append families.processes (process_of origin ∷ []) in (
      within_last (length (families.processes ++ process_of origin ∷ [])) families.numbers (record { number = number; place = length families.processes }) (omega (arith, size))
          (within_more (length families.processes) (length (families.processes ++ process_of origin ∷ [])) families.numbers (omega (arith, size)) is.0),
      sum_fresh c owners 0 families.processes (process_of origin) refl ∙ is.1,
    )

changed_within : (place : ℕ) (change : Process → Process) (families : Families) → Within (length families.processes) families.numbers → Within (length (with_changed place change families).processes) families.numbers
changed_within place change families all =
    let size : length (set families.processes place (change (process_at place families.processes))) ≡ length families.processes = length-set families.processes place (change (process_at place families.processes)) in
    within_more (length families.processes) (length (set families.processes place (change (process_at place families.processes)))) families.numbers (omega (arith, size)) all

changed_at : (c : ℕ) (owners : List (Option ℕ)) (n place : ℕ) (change : Process → Process) (families : Families) → ((p : Process) → (change p).lines ≡ p.lines) → IsAt c owners n families → IsAt c owners n (with_changed place change families)
changed_at c owners n place change families same is = (
  changed_within place change families is.0,
  sum_same c owners 0 families.processes place (change (process_at place families.processes)) (same (process_at place families.processes)) ∙ is.1,
)

freed_at : (c : ℕ) (owners : List (Option ℕ)) (n : ℕ) (number : List ℕ) (families : Families) → IsAt c owners n families → IsAt c owners n (freed number families)
freed_at c owners n number families is = (within_without (length families.processes) number families.numbers is.0, is.1)

mixed_at : (c : ℕ) (owners : List (Option ℕ)) (n place : ℕ) (families : Families) → IsAt c owners n families → IsAt c owners n (mixed place families)
mixed_at c owners n place families is = changed_at c owners n place is_mixed_now families (λ p. refl) is

either_at : (c : ℕ) (owners : List (Option ℕ)) (n : ℕ) (b : Bool) (x y : Families) → IsAt c owners n x → IsAt c owners n y → IsAt c owners n (if b then x else y)
either_at c owners n true x y one other = one
either_at c owners n false x y one other = other

-- ---- a line

seen_at : (c : ℕ) (owners : List (Option ℕ)) (n : ℕ) (number : List ℕ) (found : Option ℕ) (families : Families) → IsAt c owners n families → IsAt c owners n (after_seen number found families)
seen_at c owners n number None families is = with_process_at c owners n number Untold families is
seen_at c owners n number (Some place) families is =
    either_at c owners n (process_at place families.processes).has_ended (mixed place families) families (mixed_at c owners n place families is) is

seen_within : (number : List ℕ) (found : Option ℕ) (families : Families) → Within (length families.processes) families.numbers → place_of number families.numbers ≡ found
    → place_or_new found families < length (after_seen number found families).processes
seen_within number None families all is = omega (arith, length-append families.processes (process_of Untold ∷ []))
seen_within number (Some place) families all is = by (process_at place families.processes).has_ended
  where
    below : place < length families.processes
    below = within_place (length families.processes) number families.numbers place all is

    by : (b : Bool) → place < length (if b then mixed place families else families).processes
    by true = omega (arith, below, length-set families.processes place (is_mixed_now (process_at place families.processes)))
    by false = below

ended_at : (c : ℕ) (owners : List (Option ℕ)) (n place : ℕ) (number : List ℕ) (families : Families) → IsAt c owners n families → IsAt c owners n (after_end place number families)
ended_at c owners n place number families is =
    let ended = changed_at c owners n place has_ended_now families (λ p. refl) is in
    either_at c owners n (is_told (process_at place families.processes)) (freed number (with_changed place has_ended_now families)) (with_changed place has_ended_now families)
    (freed_at c owners n number (with_changed place has_ended_now families) ended) ended

child_at : (c : ℕ) (owners : List (Option ℕ)) (n by : ℕ) (place : ℕ) (number : List ℕ) (origin : Origin) (families : Families) → IsAt c owners n families → IsAt c owners n (after_child by place number origin families)
child_at c owners n by place number origin families is =
    let changed = changed_at c owners n place (from_one origin) families (λ p. refl) is in
    either_at c owners n (is_told (process_at place families.processes) || nat_le place by) (mixed by (mixed place families))
    (if (process_at place families.processes).has_ended then freed number (with_changed place (from_one origin) families) else with_changed place (from_one origin) families)
    (mixed_at c owners n by (mixed place families) (mixed_at c owners n place families is))
    (either_at c owners n (process_at place families.processes).has_ended (freed number (with_changed place (from_one origin) families)) (with_changed place (from_one origin) families)
    (freed_at c owners n number (with_changed place (from_one origin) families) changed) changed)

child_found_at : (c : ℕ) (owners : List (Option ℕ)) (n by : ℕ) (number : List ℕ) (origin : Origin) (found : Option ℕ) (families : Families) → IsAt c owners n families → IsAt c owners n (after_child_at by number origin found families)
child_found_at c owners n by number origin None families is = with_process_at c owners n number origin families is
child_found_at c owners n by number origin (Some place) families is = child_at c owners n by place number origin families is

command_at : (c : ℕ) (owners : List (Option ℕ)) (n by : ℕ) (number : List ℕ) (families : Families) → IsAt c owners n families → IsAt c owners n (with_command by number families)
command_at c owners n by number families is = either_at c owners n (by == 0) (record families { commands = families.commands ++ number ∷ [] }) families is is

answer_at : (c : ℕ) (owners : List (Option ℕ)) (n by : ℕ) (child : Option (List ℕ)) (families : Families) → IsAt c owners n families → IsAt c owners n (after_answer by child families)
answer_at c owners n by None families is = is
answer_at c owners n by (Some number) families is =
    command_at c owners n by number (after_child_at by number (told_by by families) (place_of number families.numbers) families)
    (child_found_at c owners n by number (told_by by families) (place_of number families.numbers) families is)

told_at : (c : ℕ) (owners : List (Option ℕ)) (n place : ℕ) (number body : List ℕ) (families : Families) → IsAt c owners n families → IsAt c owners n (after_told place number body families)
told_at c owners n place number body families is =
    either_at c owners n (is_end body) (after_end place number families) (after_answer place (child_of body) families)
    (ended_at c owners n place number families is) (answer_at c owners n place (child_of body) families is)

line_at : (c : ℕ) (owners : List (Option ℕ)) (n place : ℕ) (families : Families) → place < length families.processes → IsAt c owners n families
    → IsAt c owners (counts c (owner_at place owners) 1 + n) (with_changed place one_line_more families)
line_at c owners n place families within is = (
  changed_within place one_line_more families is.0,
  (let more = sum_more c owners 0 families.processes place (one_line_more (process_at place families.processes)) within refl in
      let here : 0 + place ≡ place = omega arith in
      let at : counts c (owner_at (0 + place) owners) 1 ≡ counts c (owner_at place owners) 1 = ap (λ (j : ℕ). counts c (owner_at j owners) 1) here in
      more ∙ (ap (λ (k : ℕ). k + sum_of c owners 0 families.processes) at ∙ ap (λ (k : ℕ). counts c (owner_at place owners) 1 + k) is.1)),
)

left_or_not : (c : ℕ) (owners : List (Option ℕ)) (n place : ℕ) (families : Families) (b : Bool) → place < length families.processes → IsAt c owners n families
    → IsAt c owners (counts c (option_and_then (λ place. owner_at place owners) (if b then None else Some place)) 1 + n) (if b then families else with_changed place one_line_more families)
left_or_not c owners n place families true within is = (is.0, is.1 ∙ omega arith)
left_or_not c owners n place families false within is = line_at c owners n place families within is

parts_at : (c : ℕ) (owners : List (Option ℕ)) (n : ℕ) (families : Families) (parts : Option (List ℕ × List ℕ)) → IsAt c owners n families
    → IsAt c owners (counts c (option_and_then (λ place. owner_at place owners) (place_by families parts)) 1 + n) (after_parts families parts)
parts_at c owners n families None is = (is.0, is.1 ∙ omega arith)
parts_at c owners n families (Some parts) is =
    let seen = seen_at c owners n parts.0 (place_of parts.0 families.numbers) families is in
    let within = seen_within parts.0 (place_of parts.0 families.numbers) families is.0 refl in
    let place = place_in families parts.0 in
    let next = after_number families parts.0 in
    let k = counts c (option_and_then (λ place. owner_at place owners) (place_by families (Some parts))) 1 + n in
    let counted = left_or_not c owners n place next (is_left_out parts.1) within seen in
    told_at c owners k place parts.0 parts.1 (is_mixed_by place parts.1 (with_line place parts.1 next))
    (either_at c owners k (leaves_numbers parts.1) (mixed place (with_line place parts.1 next)) (with_line place parts.1 next)
    (mixed_at c owners k place (with_line place parts.1 next) counted) counted)

all_at : (c : ℕ) (owners : List (Option ℕ)) (n : ℕ) (families : Families) (lines : List (List ℕ)) → IsAt c owners n families
    → IsAt c owners (count_of c owners families lines + n) (after_all families lines)
all_at c owners n families [] is = (is.0, is.1 ∙ omega arith)
all_at c owners n families (line ∷ lines) is =
    let one = counts c (owner_of owners families line) 1 in
    let later = count_of c owners (after families line) lines in
    let rest = all_at c owners (one + n) (after families line) lines (parts_at c owners n families (numbered line) is) in
    let same : later + (one + n) ≡ (one + later) + n = omega arith in
    (rest.0, rest.1 ∙ same)

-- the lines of a command, by its processes and by the lines themselves
pub both_count : (c : ℕ) (owners : List (Option ℕ)) (lines : List (List ℕ)) → sum_of c owners 0 (after_all nothing_yet lines).processes ≡ count_of c owners nothing_yet lines
both_count c owners lines = (all_at c owners 0 nothing_yet lines (tt, refl)).1 ∙ omega arith
