-- What is taken in by what was seen of paths, and what phony edges read in sum.
use Rattle.std.proofs.Common.{◌≡◌, inl, inr, ℕ, suc, ◌+◌, ◌<◌, ◌==◌, ◌||◌, not, Bool, true, false, List, [], ◌∷◌, ◌++◌, Option, Some, None, is_some, if◌then◌else◌, cond, length, take, get_or, arith, refl, sym, ◌∙◌, ap, subst, append_assoc}
use Rattle.std.specs.Prelude.{nat_eq}
use Rattle.std.specs.List.{flat_map}
use Rattle.std.specs.Map.{lookup}
use Rattle.std.proofs.lemmas.Bool.{false≢true, or_left, or_right, eq-eqb, eqb-true, false_from_ne_true}
use Rattle.std.proofs.lemmas.List.{append-nil, take_more}
use Rattle.std.proofs.lemmas.Grind.{flat_map-append}
use Rattle.std.proofs.Math.Seq.{take-append_seam}
use Rattle.model.specs.declared.event.Moment.{Moment}
use Rattle.model.specs.Graph.{has_number}
use Rattle.model.specs.Reading.{IsRead}
use Rattle.model.specs.Judgement.{InputFacts}
use Rattle.theory.proofs.Lists.{all_append, has_number-left, has_number-right, has_number-cases, has_number-is, has_number-push, has_number-push_other}
use Rattle.graph.specs.declared.graph.Graph.{Graph}
use Rattle.graph.specs.Links.{Links, links_of}
use Rattle.graph.specs.Alias.{alias_at, counts_if_present}
use Rattle.graph.specs.ReadingOf.{IsReadingOf, ReadingStands}
use Rattle.graph.specs.Told.{declared_by}
use Rattle.judge.specs.declared.looks.Look.{Look}
use Rattle.judge.specs.Seen.{look_at, look_of, is_asked, AreSeenOf}
use Rattle.judge.specs.declared.input_facts.Inputs.{Inputs}
use Rattle.judge.specs.Summaries.{AreInputs}
use Rattle.judge.specs.declared.sums.Sums.{Sums}
use Rattle.judge.specs.Facts.{stamp_at, one_input, all_inputs, AreIn, IsReadBy, seen_stamp, seen_inputs, AreAsked, HasTaken}
use Rattle.judge.specs.Lasting.{is_made, any_made, read_made, IsLasting, AreLasting, AreMarked, KeepsUnmade}
use Rattle.judge.specs.Summed.{IsSum, AreSums, HasJoined}
use Rattle.judge.proofs.Taking.{flat_more}

-- what was seen is still known
abbrev pub Stays : List Look → List Look → Type 0
Stays seen new = (p : ℕ) → is_asked (look_at seen p) ≡ true → look_at new p ≡ look_at seen p

none_some : (x : ℕ) → None ≡ Some x → ⊥
none_some x is = cc

sum_same : (x y : Inputs) → Some x ≡ Some y → x ≡ y
sum_same x y is = cc

seen_of : (stamp : Option ℕ) → seen_stamp (look_of stamp) ≡ stamp
seen_of None = refl
seen_of (Some stamp) = refl

pub stamp_by : (stamp : Option ℕ) (look : Look) → look ≡ look_of stamp → seen_stamp look ≡ stamp
stamp_by stamp look is = ap seen_stamp is ∙ seen_of stamp

-- what is not in a list was not in it before one came behind, if one did
pub not_before : (pushed : Bool) (xs ys : List ℕ) (e q : ℕ) → ys ≡ (if pushed then xs ++ e ∷ [] else xs) → has_number ys q ≡ false → has_number xs q ≡ false
not_before true xs ys e q is absent =
    false_from_ne_true (has_number xs q) (λ has. false≢true (sym absent ∙ (ap (λ (l : List ℕ). has_number l q) is ∙ has_number-left xs (e ∷ []) q has)))
not_before false xs ys e q is absent = ap (λ (l : List ℕ). has_number l q) (sym is) ∙ absent

pub is_behind : (pushed : Bool) (xs ys : List ℕ) (e : ℕ) → ys ≡ (if pushed then xs ++ e ∷ [] else xs) → pushed ≡ true → has_number ys e ≡ true
is_behind true xs ys e is yes_ = ap (λ (l : List ℕ). has_number l e) is ∙ has_number-push xs e
is_behind false xs ys e is yes_ = absurd (false≢true yes_)

-- a test that is not so is false
pub turned : (b : Bool) → not b ≡ true → b ≡ false
turned true is = absurd (false≢true is)
turned false is = refl

no_sum : (inputs : Inputs) → None ≡ Some inputs → ⊥
no_sum inputs is = cc

popped_by : (rest : List ℕ) (x q : ℕ) (old new : Option Inputs) (inputs : Inputs) (b : Bool) → (x == q) ≡ b → new ≡ cond b None old → new ≡ Some inputs → has_number rest q ≡ false
    → (old ≡ Some inputs) × (has_number (rest ++ x ∷ []) q ≡ false)
popped_by rest x q old new inputs true same is has other = absurd (no_sum inputs (sym is ∙ has))
popped_by rest x q old new inputs false same is has other =
    (sym is ∙ has, has_number-push_other rest x q (λ one. false≢true (sym same ∙ eq-eqb x q one)) ∙ other)

-- what is left of sums and of the marked edges, when the last of these is taken out of both, was there before and is not marked
pub popped : (rest : List ℕ) (x q : ℕ) (old new : Option Inputs) (inputs : Inputs) → new ≡ cond (x == q) None old → new ≡ Some inputs → has_number rest q ≡ false
    → (old ≡ Some inputs) × (has_number (rest ++ x ∷ []) q ≡ false)
popped rest x q old new inputs is has other = popped_by rest x q old new inputs (x == q) refl is has other

-- no number is in a list that has none
pub no_number : (xs : List ℕ) (q : ℕ) → length xs ≡ 0 → has_number xs q ≡ false
no_number [] q none = refl
no_number (x ∷ xs) q none = absurd (omega (arith, none))

-- what is found in a map is found where the same entries are
pub found_in : (es fs : List (ℕ × Inputs)) (q : ℕ) (inputs : Inputs) → fs ≡ es → lookup (nat_eq q) fs ≡ Some inputs → lookup (nat_eq q) es ≡ Some inputs
found_in es fs q inputs same is = ap (lookup (nat_eq q)) (sym same) ∙ is

-- a list that is cut to its length of before is the one of before
pub taken_back : (old more pushed back : List ℕ) (n : ℕ) → n ≡ length old → pushed ≡ old ++ more → back ≡ take n pushed → back ≡ old
taken_back old more pushed back n len more_are back_are =
    back_are ∙ (ap (λ (k : ℕ). take k pushed) len ∙ (ap (take (length old)) more_are ∙ take-append_seam old more))

pub asked_stays : (seen new : List Look) → Stays seen new → (ns : List ℕ) → AreAsked seen ns → AreAsked new ns
asked_stays seen new stays [] asked = tt
asked_stays seen new stays (n ∷ ns) asked = (ap is_asked (stays n asked.0) ∙ asked.0, asked_stays seen new stays ns asked.1)

module _ (graph : Graph) (flags : List Bool) where
  -- ---- one list of paths and another

  pub inputs_same : (always : Bool) (seen new : List Look) → Stays seen new → (ns : List ℕ) → AreAsked seen ns → seen_inputs graph flags always seen ns ≡ seen_inputs graph flags always new ns
  inputs_same always seen new stays [] asked = refl
  inputs_same always seen new stays (n ∷ ns) asked =
      ap (λ (look : Look). one_input graph flags always n (seen_stamp look) ++ seen_inputs graph flags always seen ns) (sym (stays n asked.0))
      ∙ ap (λ (l : List InputFacts). one_input graph flags always n (seen_stamp (look_at new n)) ++ l) (inputs_same always seen new stays ns asked.1)

  pub taken_stays : (always : Bool) (seen new : List Look) → Stays seen new → (ns : List ℕ) (a b : Inputs) → HasTaken graph flags always seen ns a b → HasTaken graph flags always new ns a b
  taken_stays always seen new stays ns a b taken = record {
    asked = asked_stays seen new stays ns taken.asked;
    takes = λ inputs of. subst (λ (l : List InputFacts). AreInputs (inputs ++ l) b) (inputs_same always seen new stays ns taken.asked) (taken.takes inputs of);
  }

  pub taken_none : (always : Bool) (seen : List Look) (a : Inputs) → HasTaken graph flags always seen [] a a
  taken_none always seen a = record { asked = tt; takes = λ inputs of. subst (λ (l : List InputFacts). AreInputs l a) (sym (append-nil inputs)) of }

  pub taken_then : (always : Bool) (seen : List Look) (xs ys : List ℕ) (a b c : Inputs) → HasTaken graph flags always seen xs a b → HasTaken graph flags always seen ys b c → HasTaken graph flags always seen (xs ++ ys) a c
  taken_then always seen xs ys a b c one two = record {
    asked = all_append (λ p. is_asked (look_at seen p) ≡ true) xs ys one.asked two.asked;
    takes = λ inputs of.
        subst (λ (l : List InputFacts). AreInputs l c)
        (append_assoc inputs (seen_inputs graph flags always seen xs) (seen_inputs graph flags always seen ys)
        ∙ ap (λ (l : List InputFacts). inputs ++ l) (sym (flat_map-append (λ p. one_input graph flags always p (seen_stamp (look_at seen p))) xs ys)))
        (two.takes (inputs ++ seen_inputs graph flags always seen xs) (one.takes inputs of));
  }

  -- one path more, by what was seen before and after it
  pub taken_more : (always : Bool) (seen new : List Look) → Stays seen new → (xs : List ℕ) (k d : ℕ) → k < length xs → (a b c : Inputs) → HasTaken graph flags always seen (take k xs) a b
      → HasTaken graph flags always new (get_or xs k d ∷ []) b c → HasTaken graph flags always new (take (k + 1) xs) a c
  taken_more always seen new stays xs k d lt a b c one two =
      subst (λ (l : List ℕ). HasTaken graph flags always new l a c) (sym (take_more xs k d lt))
      (taken_then always new (take k xs) (get_or xs k d ∷ []) a b c (taken_stays always seen new stays (take k xs) a b one) two)

  -- the paths of one edge more
  pub taken_edge : (always : Bool) (of_edge : ℕ → List ℕ) (seen new : List Look) → Stays seen new → (xs : List ℕ) (k d : ℕ) → k < length xs → (a b c : Inputs) → HasTaken graph flags always seen (flat_map of_edge (take k xs)) a b
      → HasTaken graph flags always new (of_edge (get_or xs k d)) b c → HasTaken graph flags always new (flat_map of_edge (take (k + 1) xs)) a c
  taken_edge always of_edge seen new stays xs k d lt a b c one two =
      subst (λ (l : List ℕ). HasTaken graph flags always new l a c) (sym (flat_more of_edge xs k d lt))
      (taken_then always new (flat_map of_edge (take k xs)) (of_edge (get_or xs k d)) a b c (taken_stays always seen new stays (flat_map of_edge (take k xs)) a b one) two)

  -- ---- sums

  sum_stays : (seen new : List Look) → Stays seen new → (e : ℕ) (inputs : Inputs) → IsSum graph flags seen e inputs → IsSum graph flags new e inputs
  sum_stays seen new stays e inputs sum = record {
    edges = sum.edges;
    read = sum.read;
    asked = asked_stays seen new stays (flat_map (links_of graph).regular sum.edges) sum.asked;
    are = subst (λ (l : List InputFacts). AreInputs l inputs) (inputs_same false seen new stays (flat_map (links_of graph).regular sum.edges) sum.asked) sum.are;
  }

  pub sums_stay : (seen new : List Look) → Stays seen new → (sums : Sums) → AreSums graph flags seen sums → AreSums graph flags new sums
  sums_stay seen new stays sums so e inputs is = sum_stays seen new stays e inputs (so e inputs is)

  -- and so it is of the same sums
  pub sums_kept : (seen new : List Look) → Stays seen new → (sums later : Sums) → later ≡ sums → AreSums graph flags seen sums → AreSums graph flags new later
  sums_kept seen new stays sums later same so = subst (λ (s : Sums). AreSums graph flags new s) (sym {A = Sums} same) (sums_stay seen new stays sums so)

  -- what lasts does so by what was seen since
  lasting_stays : (seen new : List Look) → Stays seen new → (e : ℕ) (inputs : Inputs) → IsLasting graph flags seen e inputs → IsLasting graph flags new e inputs
  lasting_stays seen new stays e inputs lasting = record {
    sum = record {
      edges = lasting.sum.edges;
      read = lasting.sum.read;
      asked = asked_stays seen new stays (flat_map (links_of graph).regular lasting.sum.edges) lasting.sum.asked;
      are = subst (λ (l : List InputFacts). AreInputs l inputs) (inputs_same false seen new stays (flat_map (links_of graph).regular lasting.sum.edges) lasting.sum.asked) lasting.sum.are;
    };
    unmade = lasting.unmade;
  }

  pub marks_stay : (seen new : List Look) → Stays seen new → (sums : Sums) → AreMarked graph flags seen sums → AreMarked graph flags new sums
  marks_stay seen new stays sums so e inputs is other = lasting_stays seen new stays e inputs (so e inputs is other)

  pub marks_kept : (seen new : List Look) → Stays seen new → (sums later : Sums) → later ≡ sums → AreMarked graph flags seen sums → AreMarked graph flags new later
  marks_kept seen new stays sums later same so = subst (λ (s : Sums). AreMarked graph flags new s) (sym {A = Sums} same) (marks_stay seen new stays sums so)

  noted_by : (seen : List Look) (e q : ℕ) (sum : Inputs) (old new : Option Inputs) (b : Bool) → (b ≡ true → e ≡ q) → new ≡ cond b (Some sum) old → IsSum graph flags seen e sum
      → ((inputs : Inputs) → old ≡ Some inputs → IsSum graph flags seen q inputs) → (inputs : Inputs) → new ≡ Some inputs → IsSum graph flags seen q inputs
  noted_by seen e q sum old new true same is noted so inputs has =
      subst (λ (n : ℕ). IsSum graph flags seen n inputs) (same refl) (subst (IsSum graph flags seen e) (sum_same sum inputs (sym is ∙ has)) noted)
  noted_by seen e q sum old new false same is noted so inputs has = so inputs (sym is ∙ has)

  -- a sum that is noted is right, and so are the others
  pub sum_noted : (seen : List Look) (e q : ℕ) (sum : Inputs) (old new : Option Inputs) → new ≡ cond (e == q) (Some sum) old → IsSum graph flags seen e sum
      → ((inputs : Inputs) → old ≡ Some inputs → IsSum graph flags seen q inputs) → (inputs : Inputs) → new ≡ Some inputs → IsSum graph flags seen q inputs
  sum_noted seen e q sum old new is = noted_by seen e q sum old new (e == q) (λ same. eqb-true e q same) is

  -- so is one that lasts or is marked
  lasting_noted_by : (seen : List Look) (e q : ℕ) (sum : Inputs) (old new : Option Inputs) (b : Bool) → (b ≡ true → e ≡ q) → new ≡ cond b (Some sum) old → (e ≡ q → IsLasting graph flags seen e sum)
      → ((inputs : Inputs) → old ≡ Some inputs → IsLasting graph flags seen q inputs) → (inputs : Inputs) → new ≡ Some inputs → IsLasting graph flags seen q inputs
  lasting_noted_by seen e q sum old new true same is noted so inputs has =
      subst (λ (n : ℕ). IsLasting graph flags seen n inputs) (same refl) (subst (IsLasting graph flags seen e) (sum_same sum inputs (sym is ∙ has)) (noted (same refl)))
  lasting_noted_by seen e q sum old new false same is noted so inputs has = so inputs (sym is ∙ has)

  unless_marked : (passing : List ℕ) (e q : ℕ) (sum : Inputs) (seen : List Look) (lasts : Bool) → (lasts ≡ true → IsLasting graph flags seen e sum) → (lasts ≡ false → has_number passing e ≡ true)
      → has_number passing q ≡ false → e ≡ q → IsLasting graph flags seen e sum
  unless_marked passing e q sum seen true lasting marked other same = lasting refl
  unless_marked passing e q sum seen false lasting marked other same = absurd (false≢true (sym other ∙ (ap (has_number passing) (sym same) ∙ marked refl)))

  pub lasting_noted : (seen : List Look) (passing : List ℕ) (e q : ℕ) (lasts : Bool) (sum : Inputs) (old new : Option Inputs) → new ≡ cond (e == q) (Some sum) old
      → (lasts ≡ true → IsLasting graph flags seen e sum) → (lasts ≡ false → has_number passing e ≡ true)
      → ((inputs : Inputs) → old ≡ Some inputs → IsLasting graph flags seen q inputs) → (inputs : Inputs) → new ≡ Some inputs → has_number passing q ≡ false → IsLasting graph flags seen q inputs
  lasting_noted seen passing e q lasts sum old new is lasting marked so inputs has other =
      lasting_noted_by seen e q sum old new (e == q) (λ same. eqb-true e q same) is (unless_marked passing e q sum seen lasts lasting marked other) so inputs has

  -- what an edge reads in sum, where all of it was taken in after nothing
  pub sum_taken : (seen : List Look) (e : ℕ) (edges : List ℕ) (none inputs : Inputs) → IsReadingOf graph e edges → AreInputs [] none
      → HasTaken graph flags false seen (flat_map (links_of graph).regular edges) none inputs → IsSum graph flags seen e inputs
  sum_taken seen e edges none inputs reading of taken = record { edges = edges; read = reading.read; asked = taken.asked; are = taken.takes [] of }

  -- what an edge reads in sum lasts, where no command makes any of it
  pub lasting_taken : (seen : List Look) (e : ℕ) (edges : List ℕ) (none inputs : Inputs) → IsReadingOf graph e edges → AreInputs [] none
      → HasTaken graph flags false seen (flat_map (links_of graph).regular edges) none inputs → read_made (links_of graph) edges ≡ false → IsLasting graph flags seen e inputs
  lasting_taken seen e edges none inputs reading of taken unmade =
      record { sum = record { edges = edges; read = reading.read; asked = taken.asked; are = taken.takes [] of }; unmade = unmade }

  -- ---- what is read through phony edges

  pub joined_none : (seen : List Look) (a : Inputs) → HasJoined graph flags seen [] a a
  joined_none seen a = record {
    edges = [];
    read = λ view p. ((λ through. absurd (false≢true through.listed)), (λ is. absurd (false≢true is.listed)));
    taken = taken_none false seen a;
  }

  -- a path that no phony edge makes
  pub joined_plain : (seen : List Look) (x : ℕ) (a : Inputs) → alias_at (links_of graph) x ≡ None → HasJoined graph flags seen (x ∷ []) a a
  joined_plain seen x a plain = record {
    edges = [];
    read = λ view p. (
      (λ through. absurd (none_some through.alias (sym plain ∙ (ap (alias_at (links_of graph)) (has_number-is x through.path through.listed) ∙ through.made)))),
      (λ is. absurd (false≢true is.listed)),
    );
    taken = taken_none false seen a;
  }

  -- one list of paths and another
  joined_then : (seen : List Look) (xs ys : List ℕ) (a b c : Inputs) → HasJoined graph flags seen xs a b → HasJoined graph flags seen ys b c → HasJoined graph flags seen (xs ++ ys) a c
  joined_then seen xs ys a b c one two = record {
    edges = one.edges ++ two.edges;
    read = λ view p. (
      (λ through. elim (has_number-cases xs ys through.path through.listed) [
        | inl early ↦
            let is = (one.read view p).0 (record { path = through.path; listed = early; alias = through.alias; made = through.made; read = through.read }) in
            record { edge = is.edge; listed = has_number-left one.edges two.edges is.edge is.listed; path = is.path; input = is.input; text = is.text; counts = is.counts }
        | inr late ↦
            let is = (two.read view p).0 (record { path = through.path; listed = late; alias = through.alias; made = through.made; read = through.read }) in
            record { edge = is.edge; listed = has_number-right one.edges two.edges is.edge is.listed; path = is.path; input = is.input; text = is.text; counts = is.counts }
      ]),
      (λ is. elim (has_number-cases one.edges two.edges is.edge is.listed) [
        | inl early ↦
            let through = (one.read view p).1 (record { edge = is.edge; listed = early; path = is.path; input = is.input; text = is.text; counts = is.counts }) in
            record { path = through.path; listed = has_number-left xs ys through.path through.listed; alias = through.alias; made = through.made; read = through.read }
        | inr late ↦
            let through = (two.read view p).1 (record { edge = is.edge; listed = late; path = is.path; input = is.input; text = is.text; counts = is.counts }) in
            record { path = through.path; listed = has_number-right xs ys through.path through.listed; alias = through.alias; made = through.made; read = through.read }
      ]),
    );
    taken = subst (λ (l : List ℕ). HasTaken graph flags false seen l a c) (sym (flat_map-append (links_of graph).regular one.edges two.edges))
        (taken_then false seen (flat_map (links_of graph).regular one.edges) (flat_map (links_of graph).regular two.edges) a b c one.taken two.taken);
  }

  pub joined_stays : (seen new : List Look) → Stays seen new → (xs : List ℕ) (a b : Inputs) → HasJoined graph flags seen xs a b → HasJoined graph flags new xs a b
  joined_stays seen new stays xs a b joined = record {
    edges = joined.edges;
    read = joined.read;
    taken = taken_stays false seen new stays (flat_map (links_of graph).regular joined.edges) a b joined.taken;
  }

  -- one path more, by what was seen before and after it
  pub joined_more : (seen new : List Look) → Stays seen new → (xs : List ℕ) (k d : ℕ) → k < length xs → (a b c : Inputs) → HasJoined graph flags seen (take k xs) a b
      → HasJoined graph flags new (get_or xs k d ∷ []) b c → HasJoined graph flags new (take (k + 1) xs) a c
  joined_more seen new stays xs k d lt a b c one two =
      subst (λ (l : List ℕ). HasJoined graph flags new l a c) (sym (take_more xs k d lt))
      (joined_then new (take k xs) (get_or xs k d ∷ []) a b c (joined_stays seen new stays (take k xs) a b one) two)

  -- ---- all that an edge reads

  -- its own inputs, and what is read through the phony edges among those that make them
  pub read_by_all : ReadingStands graph → (seen : List Look) (e : ℕ) (a b : Inputs) (joined : HasJoined graph flags seen ((links_of graph).regular e) a b) → IsReadBy graph e (e ∷ joined.edges)
  read_by_all reads seen e a b joined view p = (
    (λ read. elim (reads.next view e p read) [
      | inl is ↦ record {
        edge = is.edge;
        listed = or_left (e == is.edge) (has_number joined.edges is.edge) (eq-eqb e is.edge (has_number-is e is.edge is.listed));
        path = is.path;
        input = is.input;
        text = is.text;
        counts = is.counts;
      }
      | inr next ↦
          let is = (joined.read view p).0 (record { path = next.0; listed = next.2; alias = next.1; made = next.3; read = next.4 }) in
          record { edge = is.edge; listed = or_right (e == is.edge) (has_number joined.edges is.edge) is.listed; path = is.path; input = is.input; text = is.text; counts = is.counts }
    ]),
    (λ is. elim (has_number-cases (e ∷ []) joined.edges is.edge is.listed) [
      | inl here ↦ subst (λ (n : ℕ). IsRead (declared_by graph).edges view (suc n) p) (sym (has_number-is e is.edge here)) (reads.counted (e ∷ joined.edges) view p is)
      | inr later ↦
          let through = (joined.read view p).1 (record { edge = is.edge; listed = later; path = is.path; input = is.input; text = is.text; counts = is.counts }) in
          reads.through e through.path through.alias through.listed through.made view p through.read
    ]),
  )

  -- ---- by the files that were seen

  pub seen_are : (always : Bool) (set : List ℕ → Bool) (files : List Moment) (seen : List Look) → AreSeenOf set graph.manifest.paths files seen → (ns : List ℕ) → AreAsked seen ns → AreIn set graph.manifest.paths ns
      → seen_inputs graph flags always seen ns ≡ all_inputs graph flags always files ns
  seen_are always set files seen are [] asked within = refl
  seen_are always set files seen are (n ∷ ns) asked within =
      ap (λ (s : Option ℕ). one_input graph flags always n s ++ seen_inputs graph flags always seen ns) (stamp_by (stamp_at graph.manifest.paths files n) (look_at seen n) (are n asked.0 within.0))
      ∙ ap (λ (l : List InputFacts). one_input graph flags always n (stamp_at graph.manifest.paths files n) ++ l) (seen_are always set files seen are ns asked.1 within.1)

-- ---- what no command makes

neither : (a b : Bool) → (a || b) ≡ false → (a ≡ false) × (b ≡ false)
neither true b is = absurd (false≢true (sym is))
neither false b is = (refl, is)

both_not : (a b : Bool) → a ≡ false → b ≡ false → (a || b) ≡ false
both_not true b first second = absurd (false≢true (sym first))
both_not false b first second = second

none_made : (links : Links) (xs ys : List ℕ) → any_made links xs ≡ false → any_made links ys ≡ false → any_made links (xs ++ ys) ≡ false
none_made links [] ys free rest = rest
none_made links (x ∷ xs) ys free rest =
    let parts = neither (is_made links x) (any_made links xs) free in
    both_not (is_made links x) (any_made links (xs ++ ys)) parts.0 (none_made links xs ys parts.1 rest)

none_read : (links : Links) (es : List ℕ) → read_made links es ≡ false → any_made links (flat_map links.regular es) ≡ false
none_read links [] free = refl
none_read links (e ∷ es) free =
    let parts = neither (any_made links (links.regular e)) (read_made links es) free in
    none_made links (links.regular e) (flat_map links.regular es) parts.0 (none_read links es parts.1)

module _ (graph : Graph) (f g : List Bool) (seen new : List Look) (keeps : KeepsUnmade graph f seen g new) where
  asked_kept : (ns : List ℕ) → any_made (links_of graph) ns ≡ false → AreAsked seen ns → AreAsked new ns
  asked_kept [] free asked = tt
  asked_kept (n ∷ ns) free asked =
      let parts = neither (is_made (links_of graph) n) (any_made (links_of graph) ns) free in
      (ap is_asked (keeps.looks n parts.0 asked.0) ∙ asked.0, asked_kept ns parts.1 asked.1)

  input_kept : (n : ℕ) → is_made (links_of graph) n ≡ false → is_asked (look_at seen n) ≡ true
      → one_input graph f false n (seen_stamp (look_at seen n)) ≡ one_input graph g false n (seen_stamp (look_at new n))
  input_kept n free asked =
      ap (λ (look : Look). one_input graph f false n (seen_stamp look)) (sym (keeps.looks n free asked))
      ∙ ap (λ (b : Bool). if false || (is_some (seen_stamp (look_at new n)) || not (counts_if_present (links_of graph) n)) then record { stamp = seen_stamp (look_at new n); changed = b } ∷ [] else [])
      (sym (keeps.flags n free))

  inputs_kept : (ns : List ℕ) → any_made (links_of graph) ns ≡ false → AreAsked seen ns → seen_inputs graph f false seen ns ≡ seen_inputs graph g false new ns
  inputs_kept [] free asked = refl
  inputs_kept (n ∷ ns) free asked =
      let parts = neither (is_made (links_of graph) n) (any_made (links_of graph) ns) free in
      ap (λ (l : List InputFacts). l ++ seen_inputs graph f false seen ns) (input_kept n parts.0 asked.0)
      ∙ ap (λ (l : List InputFacts). one_input graph g false n (seen_stamp (look_at new n)) ++ l) (inputs_kept ns parts.1 asked.1)

  lasting_kept : (e : ℕ) (inputs : Inputs) → IsLasting graph f seen e inputs → IsLasting graph g new e inputs
  lasting_kept e inputs lasting =
      let none = none_read (links_of graph) lasting.sum.edges lasting.unmade in
      record {
        sum = record {
          edges = lasting.sum.edges;
          read = lasting.sum.read;
          asked = asked_kept (flat_map (links_of graph).regular lasting.sum.edges) none lasting.sum.asked;
          are = subst (λ (l : List InputFacts). AreInputs l inputs) (inputs_kept (flat_map (links_of graph).regular lasting.sum.edges) none lasting.sum.asked) lasting.sum.are;
        };
        unmade = lasting.unmade;
      }

  -- what lasts is right where all that no command makes is known still, and lasts
  pub sums_last : (sums : Sums) → AreLasting graph f seen sums → AreSums graph g new sums
  sums_last sums lasting e inputs is = (lasting_kept e inputs (lasting e inputs is)).sum

  pub marks_last : (sums : Sums) → AreLasting graph f seen sums → AreMarked graph g new sums
  marks_last sums lasting e inputs is other = lasting_kept e inputs (lasting e inputs is)
