-- What is told of due commands, one after another.
use Rattle.std.proofs.Common.{◌≡◌, ◌⊎◌, inl, inr, ℕ, zero, suc, ◌+◌, ◌<◌, ◌==◌, ◌&&◌, ◌||◌, not, Bool, true, false, List, [], ◌∷◌, ◌++◌, Option, map, filter, cond, get_or, take, length, refl, sym, ◌∙◌, ap, arith, subst}
use Rattle.std.specs.List.{AllByRecursion, flat_map}
use Rattle.std.specs.Option.{option_or}
use Rattle.std.proofs.lemmas.Bool.{false≢true, and_parts}
use Rattle.std.proofs.lemmas.List.{take_more, map-append, append-nil, length-append}
use Rattle.std.proofs.lemmas.List.Elements.{filter-append}
use Rattle.std.proofs.lemmas.Grind.{flat_map-append}
use Rattle.std.proofs.Math.Seq.{get_or-append_seam}
use Rattle.std.proofs.Math.ListN.{get_or-append}
use Rattle.model.specs.declared.act.Act.{Act}
use Rattle.model.specs.declared.reason.Reason.{Reason}
use Rattle.model.specs.World.{World}
use Rattle.model.specs.Graph.{has_number}
use Rattle.theory.proofs.Lists.{all_append, has_number-cases}
use Rattle.graph.specs.declared.graph.Graph.{Graph}
use Rattle.graph.specs.Links.{links_of}
use Rattle.judge.specs.declared.looks.Look.{Look}
use Rattle.judge.specs.declared.looks.Looks.{Looks}
use Rattle.judge.specs.Looking.{HasLooked, LooksFollow}
use Rattle.judge.specs.Seen.{look_at, is_asked}
use Rattle.records.specs.declared.records.Records.{Records}
use Rattle.judge.specs.declared.output_facts.Outputs.{Outputs}
use Rattle.judge.specs.Summaries.{AreOutputs}
use Rattle.judge.specs.Dues.{due_at}
use Rattle.reasons.specs.declared.told.DueCommand.{DueCommand}
use Rattle.reasons.specs.Why.{OfRecords, HaveAsked, AreCommands, AreNotPhony, AreWhy, IsWhy, IsPath, TellsOne, act_of, edge_in, first_input, first_output, seen_output}

-- the laws of what was looked at
abbrev pub Follow : Type 0
Follow = (tells : Bool) (a b c : World) → LooksFollow tells a b c

-- ---- what was asked for

abbrev pub Stays : List Look → List Look → Type 0
Stays seen new = (p : ℕ) → is_asked (look_at seen p) ≡ true → look_at new p ≡ look_at seen p

pub asked_later : (seen new : List Look) → Stays seen new → (ns : List ℕ) → HaveAsked seen ns → HaveAsked new ns
asked_later seen new stays ns asked p h = ap is_asked (stays p (asked p h)) ∙ asked p h

pub asked_more : (of_edge : ℕ → List ℕ) (seen new : List Look) → Stays seen new → (xs : List ℕ) (k d : ℕ) → k < length xs → HaveAsked seen (flat_map of_edge (take k xs))
    → HaveAsked new (of_edge (get_or xs k d)) → HaveAsked new (flat_map of_edge (take (k + 1) xs))
asked_more of_edge seen new stays xs k d lt before here p h =
    let x = get_or xs k d in
    let longer : flat_map of_edge (take (k + 1) xs) ≡ flat_map of_edge (take k xs) ++ of_edge x =
    ap (flat_map of_edge) (take_more xs k d lt) ∙ (flat_map-append of_edge (take k xs) (x ∷ []) ∙ ap (λ (l : List ℕ). flat_map of_edge (take k xs) ++ l) (append-nil (of_edge x))) in
    elim (has_number-cases (flat_map of_edge (take k xs)) (of_edge x) p (subst (λ (l : List ℕ). has_number l p ≡ true) longer h)) [
      | inl earlier ↦ asked_later seen new stays (flat_map of_edge (take k xs)) before p earlier
      | inr now ↦ here p now
    ]

pub within_of : (n : ℕ) (xs ys : List ℕ) → ys ≡ xs → ((p : ℕ) → has_number xs p ≡ true → p < n) → (p : ℕ) → has_number ys p ≡ true → p < n
within_of n xs ys same each p h = each p (subst (λ (l : List ℕ). has_number l p ≡ true) same h)

-- ---- which edges are told of

pub one_longer : (flags : List Bool) (flag : Bool) (k : ℕ) → length flags ≡ k → length (flags ++ flag ∷ []) ≡ k + 1
one_longer flags flag k is = length-append flags (flag ∷ []) ∙ ap (λ (n : ℕ). n + 1) is

-- one flag more
pub commands_more : (graph : Graph) (due flags : List Bool) (k : ℕ) (flag : Bool) → length flags ≡ k → AreCommands graph due k flags → flag ≡ (due_at due k && not ((links_of graph).phony k))
    → AreCommands graph due (k + 1) (flags ++ flag ∷ [])
commands_more graph due flags k flag fits before is e lt = elim (before_or_last e k lt) [
  | inl earlier ↦ get_or-append flags (flag ∷ []) false e (omega (arith, earlier, fits)) ∙ before e earlier
  | inr here ↦
      subst (λ (n : ℕ). due_at (flags ++ flag ∷ []) n ≡ (due_at due n && not ((links_of graph).phony n))) (sym here)
      (subst (λ (n : ℕ). due_at (flags ++ flag ∷ []) n ≡ flag) fits (get_or-append_seam flags flag [] false) ∙ is)
]
  where
    before_or_last : (e k : ℕ) → e < k + 1 → (e < k) ⊎ (e ≡ k)
    before_or_last zero zero lt = inr refl
    before_or_last zero (suc k) lt = inl (omega arith)
    before_or_last (suc e) zero lt = absurd (omega (arith, lt))
    before_or_last (suc e) (suc k) lt = elim (before_or_last e k (omega (arith, lt))) [
      | inl earlier ↦ inl (omega (arith, earlier))
      | inr here ↦ inr (ap suc here)
    ]

not_true : (b : Bool) → not b ≡ true → b ≡ false
not_true true is = absurd (false≢true is)
not_true false is = refl

-- an edge that is due and has a command is not phony
pub not_phony : (graph : Graph) (due flags : List Bool) (n : ℕ) → length flags ≡ n → AreCommands graph due n flags → AreNotPhony graph flags
not_phony graph due flags n fits all e flag = not_true ((links_of graph).phony e) ((and_parts (due_at due e) (not ((links_of graph).phony e)) (sym (all e (subst (λ (k : ℕ). e < k) fits (below flags e flag))) ∙ flag)).1)
  where
    below : (flags : List Bool) (e : ℕ) → due_at flags e ≡ true → e < length flags
    below [] e is = absurd (false≢true is)
    below (x ∷ flags) zero is = omega arith
    below (x ∷ flags) (suc e) is = omega (arith, below flags e is)

-- a command with its flag more
pub listed_more : (flags : List Bool) (order : List ℕ) (k d : ℕ) → k < length order → (told : List DueCommand) (command : DueCommand) → map edge_in told ≡ filter (due_at flags) (take k order)
    → command.edge ≡ get_or order k d → due_at flags (get_or order k d) ≡ true → map edge_in (told ++ command ∷ []) ≡ filter (due_at flags) (take (k + 1) order)
listed_more flags order k d lt told command before is flag =
    let x = get_or order k d in
    let longer : filter (due_at flags) (take (k + 1) order) ≡ filter (due_at flags) (take k order) ++ filter (due_at flags) (x ∷ []) =
    ap (filter (due_at flags)) (take_more order k d lt) ∙ filter-append (due_at flags) (take k order) (x ∷ []) in
    map-append edge_in told (command ∷ [])
    ∙ (ap (λ (l : List ℕ). l ++ command.edge ∷ []) before
    ∙ (ap (λ (e : ℕ). filter (due_at flags) (take k order) ++ e ∷ []) is
    ∙ (ap (λ (b : Bool). filter (due_at flags) (take k order) ++ cond b (x ∷ []) []) (sym flag) ∙ sym longer)))

pub listed_same : (flags : List Bool) (order : List ℕ) (k d : ℕ) → k < length order → (told : List DueCommand) → map edge_in told ≡ filter (due_at flags) (take k order)
    → due_at flags (get_or order k d) ≡ false → map edge_in told ≡ filter (due_at flags) (take (k + 1) order)
listed_same flags order k d lt told before flag =
    let x = get_or order k d in
    let longer : filter (due_at flags) (take (k + 1) order) ≡ filter (due_at flags) (take k order) ++ filter (due_at flags) (x ∷ []) =
    ap (filter (due_at flags)) (take_more order k d lt) ∙ filter-append (due_at flags) (take k order) (x ∷ []) in
    before
    ∙ (sym (append-nil (filter (due_at flags) (take k order)))
    ∙ (ap (λ (b : Bool). filter (due_at flags) (take k order) ++ cond b (x ∷ []) []) (sym flag) ∙ sym longer))

-- ---- why

module _ (follow : Follow) (tells : Bool) (graph : Graph) (records : Records) (flags : List Bool) (old mid new : World) (before during after : Looks) where
  -- what was told by a point of the call is so in the whole
  pub why_later : HasLooked tells graph mid new during after → (e : ℕ) (command : DueCommand) → IsWhy tells graph records flags old mid before during e command → IsWhy tells graph records flags old new before after e command
  why_later more e command why = record {
    within = why.within;
    found = why.found;
    judged = record {
      from = why.judged.from;
      to = why.judged.to;
      first = why.judged.first;
      second = why.judged.second;
      earlier = why.judged.earlier;
      asked = why.judged.asked;
      later = (follow tells why.judged.to mid new).looked graph why.judged.second during after why.judged.later more;
      answer = why.judged.answer;
    };
    there = why.there;
    seen = why.seen;
    earlier = why.earlier;
    later = (follow tells why.there mid new).looked graph why.seen during after why.later more;
    edges = why.edges;
    read = why.read;
    outputs = why.outputs;
    regular = why.regular;
    recorded = why.recorded;
    firm = why.firm;
    told = why.told;
  }

  pub all_later : HasLooked tells graph mid new during after → (told : List DueCommand) → AreWhy tells graph records flags old mid before during told → AreWhy tells graph records flags old new before after told
  all_later more [] all = tt
  all_later more (command ∷ told) all = (why_later more command.edge command all.0, all_later more told all.1)

  -- what is told behind that
  pub why_behind : HasLooked tells graph old mid before during → (e : ℕ) (command : DueCommand) → IsWhy tells graph records flags mid new during after e command → IsWhy tells graph records flags old new before after e command
  why_behind first e command why = record {
    within = why.within;
    found = why.found;
    judged = record {
      from = why.judged.from;
      to = why.judged.to;
      first = why.judged.first;
      second = why.judged.second;
      earlier = (follow tells old mid why.judged.from).looked graph before during why.judged.first first why.judged.earlier;
      asked = why.judged.asked;
      later = why.judged.later;
      answer = why.judged.answer;
    };
    there = why.there;
    seen = why.seen;
    earlier = (follow tells old mid why.there).looked graph before during why.seen first why.earlier;
    later = why.later;
    edges = why.edges;
    read = why.read;
    outputs = why.outputs;
    regular = why.regular;
    recorded = why.recorded;
    firm = why.firm;
    told = why.told;
  }

  pub all_more : HasLooked tells graph old mid before during → HasLooked tells graph mid new during after → (told : List DueCommand) (e : ℕ) (command : DueCommand) → command.edge ≡ e
      → AreWhy tells graph records flags old mid before during told → IsWhy tells graph records flags mid new during after e command
      → AreWhy tells graph records flags old new before after (told ++ command ∷ [])
  all_more first more told e command is all why =
      all_append (λ it. IsWhy tells graph records flags old new before after it.edge it) told (command ∷ []) (all_later more told all)
      (subst (λ (n : ℕ). IsWhy tells graph records flags old new before after n command) (sym is) (why_behind first e command why), tt)

-- ---- one edge

module _ (graph : Graph) (records : Records) (seen : List Look) (e : ℕ) (act : Act) (is_act : act ≡ act_of graph e) (numbers : List ℕ) (are : numbers ≡ (links_of graph).outputs e) (outputs : Outputs) where
  -- what was taken in of the outputs of an edge, by what it does
  pub outputs_as : OfRecords records numbers (λ paths rs ds. AreOutputs act (map (seen_output paths rs ds seen) numbers) outputs)
      → OfRecords records ((links_of graph).outputs e) (λ paths rs ds. AreOutputs (act_of graph e) (map (seen_output paths rs ds seen) ((links_of graph).outputs e)) outputs)
  outputs_as taken =
      subst (λ (l : List ℕ). OfRecords records l (λ paths rs ds. AreOutputs (act_of graph e) (map (seen_output paths rs ds seen) l) outputs)) are
      (subst (λ (a : Act). OfRecords records numbers (λ paths rs ds. AreOutputs a (map (seen_output paths rs ds seen) numbers) outputs)) is_act taken)

  pub path_as : (flags : List Bool) (reason : Reason) (edges : List ℕ) (made read path : Option ℕ) → OfRecords records numbers (λ paths rs ds. made ≡ first_output paths rs ds seen act reason numbers)
      → read ≡ first_input (links_of graph) flags seen outputs reason edges e → path ≡ option_or made read → OfRecords records ((links_of graph).outputs e) (IsPath graph flags seen outputs reason edges e path)
  path_as flags reason edges made read path is_made is_read is paths rs ds of told within =
      is ∙ (ap (λ (o : Option ℕ). option_or o read) here ∙ ap (option_or (first_output paths rs ds seen (act_of graph e) reason ((links_of graph).outputs e))) is_read)
    where
      here : made ≡ first_output paths rs ds seen (act_of graph e) reason ((links_of graph).outputs e)
      here =
          is_made paths rs ds of told (λ p h. within p (subst (λ (l : List ℕ). has_number l p ≡ true) are h))
          ∙ (ap (λ (a : Act). first_output paths rs ds seen a reason numbers) is_act ∙ ap (first_output paths rs ds seen (act_of graph e) reason) are)

-- ---- all edges

module _ (follow : Follow) (tells : Bool) (graph : Graph) (records : Records) (flags : List Bool) (old mid new : World) (before during after : Looks) (first : HasLooked tells graph old mid before during) (more : HasLooked tells graph mid new during after)
    (order : List ℕ) (k e : ℕ) (lt : k < length order) (is : e ≡ get_or order k e) (told then_told : List DueCommand) (one : TellsOne tells graph records flags mid new during after e told then_told)
  where
    pub listed_then : map edge_in told ≡ filter (due_at flags) (take k order) → map edge_in then_told ≡ filter (due_at flags) (take (k + 1) order)
    listed_then listed = elim one [
      | inl none ↦ ap (map edge_in) none.1 ∙ listed_same flags order k e lt told listed (ap (due_at flags) (sym is) ∙ none.0)
      | inr this ↦ ap (map edge_in) this.is ∙ listed_more flags order k e lt told this.command listed (this.edge ∙ is) (ap (due_at flags) (sym is) ∙ this.flag)
    ]

    pub all_then : AreWhy tells graph records flags old mid before during told → AreWhy tells graph records flags old new before after then_told
    all_then all = elim one [
      | inl none ↦ subst (AreWhy tells graph records flags old new before after) (sym none.1) (all_later follow tells graph records flags old mid new before during after more told all)
      | inr this ↦ subst (AreWhy tells graph records flags old new before after) (sym this.is)
          (all_more follow tells graph records flags old mid new before during after first more told e this.command this.edge all this.why)
    ]

-- the edges of the told commands are edges of the graph
pub told_within : (tells : Bool) (graph : Graph) (records : Records) (flags : List Bool) (old new : World) (before after : Looks) (told : List DueCommand) → AreWhy tells graph records flags old new before after told
    → (k : ℕ) (d : DueCommand) → k < length told → (get_or told k d).edge < length graph.manifest.lines
told_within tells graph records flags old new before after [] all k d lt = absurd (omega (arith, lt))
told_within tells graph records flags old new before after (command ∷ told) all zero d lt = all.0.within
told_within tells graph records flags old new before after (command ∷ told) all (suc k) d lt = told_within tells graph records flags old new before after told all.1 k d (omega (arith, lt))
