-- Recorded inputs whose maker is not above.
use Rattle.std.proofs.Common.{◌≡◌, ◌≢◌, ◌⊎◌, ◌↔◌, inl, inr, ℕ, zero, suc, ◌+◌, ◌<◌, ◌==◌, ◌||◌, Bool, true, false, List, [], ◌∷◌, ◌++◌, Option, None, Some, IsSome, length, take, get_or, replicate, slice_get, refl, sym, ap, ◌∙◌, subst, arith, append_assoc}
use Rattle.std.proofs.lemmas.Bool.{cases_lt, eqb-true, eq-eqb, false_from_ne_true, false≢true, or_cases, or_left, or_right}
use Rattle.std.proofs.lemmas.List.{get_or-replicate, get_or_past, length-replicate, take_more}
use Rattle.std.proofs.lemmas.Option.{get_or_from_slice_get, none-some, same_Some, slice_get-get_or}
use denote.Ref.{Bor}
use Rattle.model.specs.declared.record.Record.{Record}
use Rattle.model.specs.declared.record.DepsRecord.{DepsRecord}
use Rattle.model.specs.Graph.{has, has_number}
use Rattle.model.specs.Records.{deps_in_force, paths_in}
use Rattle.log_text.specs.Kept.{if_some, texts_at}
use Rattle.tools.proofs.Removed.{has_at}
use Rattle.log_text.specs.DepsLog.{told_found}
use Rattle.log_text.specs.declared.deps.Deps.{Deps}
use Rattle.graph.specs.Links.{links_of}
use Rattle.graph.specs.declared.graph.Graph.{Graph}
use Rattle.paths.specs.Lists.{line_outputs, no_line}
use Rattle.paths.specs.Numbers.{HaveOnePlace}
use Rattle.paths.specs.Told.{text_at}
use Rattle.paths.specs.declared.line.Line.{Line}
use Rattle.records.specs.Known.{AreKnown, Knows, OfKnownDeps, IsTold}
use Rattle.records.specs.declared.records.Records.{Records}
use Rattle.tools.specs.Above.{AreAbove, AreNamedMade, Further, IsNamedAbove, IsNeededFor, Makes, MarksAlso}
use Rattle.tools.specs.Missing.{AddsDeps, AddsMissing, AreMissing, AreNeeded, IsApart, IsMadeFor, IsMadeOf, IsMissing, IsOneOf, IsUnmarked}
use Rattle.tools.specs.declared.missing.MissingDep.{MissingDep}
use Rattle.tools.proofs.Adding.{has_either, has_left, has_right}
use Rattle.tools.proofs.Burying.{at_or, or_at, texts_more}
use Rattle.tools.proofs.Rises.{has_push as number_push}

-- ---- lists

no_mid : (dep : MissingDep) (before after : List MissingDep) → [] ≡ before ++ dep ∷ after → ⊥
no_mid dep [] after is = absurd (cc)
no_mid dep (b ∷ before) after is = absurd (cc)

pub deps_empty : (deps : List MissingDep) → length deps ≡ 0 → deps ≡ []
deps_empty [] none = refl
deps_empty (dep ∷ deps) none = absurd (omega (arith, none))

pub one_none : (dep : MissingDep) → IsOneOf dep [] → ⊥
one_none dep one = no_mid dep one.0 one.1 one.2

one_cases : (old : List MissingDep) (d dep : MissingDep) (before after : List MissingDep) → old ++ d ∷ [] ≡ before ++ dep ∷ after → IsOneOf dep old ⊎ (dep ≡ d)
one_cases [] d dep [] after is = let same : d ∷ [] ≡ dep ∷ after = is in inr (cc)
one_cases [] d dep (b ∷ before) after is =
    let same : d ∷ [] ≡ b ∷ (before ++ dep ∷ after) = is in
    let rest : [] ≡ before ++ dep ∷ after = cc in
    absurd (no_mid dep before after rest)
one_cases (o ∷ old) d dep [] after is =
    let all : o ∷ (old ++ d ∷ []) ≡ dep ∷ after = is in
    let same : o ≡ dep = cc in
    inl ([], old, ap (λ (x : MissingDep). x ∷ old) same)
one_cases (o ∷ old) d dep (b ∷ before) after is =
    let all : o ∷ (old ++ d ∷ []) ≡ b ∷ (before ++ dep ∷ after) = is in
    let rest : old ++ d ∷ [] ≡ before ++ dep ∷ after = cc in
    elim (one_cases old d dep before after rest) [
      | inl one ↦ inl (o ∷ one.0, one.1, ap (λ (l : List MissingDep). o ∷ l) one.2)
      | inr last ↦ inr last
    ]

one_push : (old : List MissingDep) (d dep : MissingDep) → IsOneOf dep (old ++ d ∷ []) → IsOneOf dep old ⊎ (dep ≡ d)
one_push old d dep one = one_cases old d dep one.0 one.1 one.2

one_old : (old more : List MissingDep) (dep : MissingDep) → IsOneOf dep old → IsOneOf dep (old ++ more)
one_old old more dep one = (one.0, one.1 ++ more, ap (λ (l : List MissingDep). l ++ more) one.2 ∙ append_assoc one.0 (dep ∷ one.1) more)

one_last : (old : List MissingDep) (d dep : MissingDep) → dep ≡ d → IsOneOf dep (old ++ d ∷ [])
one_last old d dep is = (old, [], ap (λ (x : MissingDep). old ++ x ∷ []) (sym is))

-- ---- what is added

abbrev EitherDep : (MissingDep → Type 0) → (MissingDep → Type 0) → MissingDep → Type 0
EitherDep P Q dep = P dep ⊎ Q dep

pub deps_none : (old : List MissingDep) (P : MissingDep → Type 0) → ((dep : MissingDep) → P dep → ⊥) → AddsDeps old old P
deps_none old P none dep = (
  λ one. inl one,
  λ either. elim either [
    | inl one ↦ one
    | inr p ↦ absurd (none dep p)
  ],
)

pub deps_as : (old new : List MissingDep) (P Q : MissingDep → Type 0) → ((dep : MissingDep) → P dep → Q dep) → ((dep : MissingDep) → Q dep → P dep) → AddsDeps old new P → AddsDeps old new Q
deps_as old new P Q on back adds dep = (
  λ one. elim ((adds dep).0 one) [
    | inl was ↦ inl was
    | inr p ↦ inr (on dep p)
  ],
  λ either. elim either [
    | inl was ↦ (adds dep).1 (inl was)
    | inr q ↦ (adds dep).1 (inr (back dep q))
  ],
)

deps_then : (old mid new : List MissingDep) (P Q : MissingDep → Type 0) → AddsDeps old mid P → AddsDeps mid new Q → AddsDeps old new (EitherDep P Q)
deps_then old mid new P Q first second dep = (
  λ one. elim ((second dep).0 one) [
    | inl was ↦ elim ((first dep).0 was) [
      | inl is ↦ inl is
      | inr p ↦ inr (inl p)
    ]
    | inr q ↦ inr (inr q)
  ],
  λ either. elim either [
    | inl is ↦ (second dep).1 (inl ((first dep).1 (inl is)))
    | inr both ↦ elim both [
      | inl p ↦ (second dep).1 (inl ((first dep).1 (inr p)))
      | inr q ↦ (second dep).1 (inr q)
    ]
  ],
)

deps_push : (old new : List MissingDep) (d : MissingDep) → new ≡ old ++ d ∷ [] → AddsDeps old new (λ dep. dep ≡ d)
deps_push old new d is dep = (
  λ one. one_push old d dep (subst (λ (l : List MissingDep). IsOneOf dep l) is one),
  λ either. subst (λ (l : List MissingDep). IsOneOf dep l) (sym is) (elim either [
    | inl was ↦ one_old old (d ∷ []) dep was
    | inr last ↦ one_last old d dep last
  ]),
)

-- ---- makers

within_made : (graph : Graph) (p e : ℕ) → (links_of graph).maker p ≡ Some e → p < length graph.manifest.paths
within_made graph p e made = elim (cases_lt p (length graph.makers)) [
  | inl low ↦ omega (arith, low, graph.making.fits)
  | inr past ↦ absurd (none-some e (sym (get_or_past graph.makers p None past) ∙ made))
]

-- the text of a path that is made stands at its number
made_at : (graph : Graph) (p e : ℕ) → (links_of graph).maker p ≡ Some e → slice_get graph.manifest.paths p ≡ Some (text_at graph.manifest.paths p)
made_at graph p e made = slice_get-get_or graph.manifest.paths p [] (within_made graph p e made)

module _ (graph : Graph) (output : ℕ) (file : List ℕ) where
  pub made_none : (texts : List (List ℕ)) (old : List MissingDep) → ((dep : MissingDep) → IsMadeOf graph texts file dep → ⊥) → AddsDeps old old (IsMadeFor graph output texts file)
  made_none texts old none = deps_none old (IsMadeFor graph output texts file) (λ dep is. none dep is.1)

  pub made_start : (old : List MissingDep) → AddsDeps old old (IsMadeFor graph output [] file)
  made_start old = made_none [] old (λ dep is. false≢true is.told)

  -- a number that is no path's
  pub made_past : (found : Option (List ℕ)) (old : List MissingDep) → None ≡ found → AddsDeps old old (IsMadeFor graph output (if_some found) file)
  made_past found old none = made_none (if_some found) old (λ dep is. none-some (text_at graph.manifest.paths dep.input) (none ∙ sym (at_or found (text_at graph.manifest.paths dep.input) is.told)))

  -- the text of such an input is the one that was found
  is_path : (found : Option (List ℕ)) (path : List ℕ) (dep : MissingDep) → Some path ≡ found → IsMadeOf graph (if_some found) file dep → text_at graph.manifest.paths dep.input ≡ path
  is_path found path dep at is = same_Some (text_at graph.manifest.paths dep.input) path (at_or found (text_at graph.manifest.paths dep.input) is.told ∙ sym at)

  pub made_file : (found : Option (List ℕ)) (path : List ℕ) (old : List MissingDep) → Some path ≡ found → path ≡ file → AddsDeps old old (IsMadeFor graph output (if_some found) file)
  made_file found path old at same = made_none (if_some found) old (λ dep is. is.other (is_path found path dep at is ∙ same))

  pub made_unknown : (found : Option (List ℕ)) (path : List ℕ) (old : List MissingDep) → Some path ≡ found → has graph.manifest.paths path ≡ false → AddsDeps old old (IsMadeFor graph output (if_some found) file)
  made_unknown found path old at unknown = made_none (if_some found) old (λ dep is.
      false≢true (sym unknown ∙ (ap (has graph.manifest.paths) (sym (is_path found path dep at is)) ∙ has_at graph.manifest.paths dep.input (text_at graph.manifest.paths dep.input) (made_at graph dep.input dep.maker is.made))))

  -- it is the path with this number
  is_input : (found : Option (List ℕ)) (path : List ℕ) (input : ℕ) (dep : MissingDep) → Some path ≡ found → HaveOnePlace graph.manifest.paths → slice_get graph.manifest.paths input ≡ Some path → IsMadeOf graph (if_some found) file dep → dep.input ≡ input
  is_input found path input dep at once place is =
      once dep.input input path (made_at graph dep.input dep.maker is.made ∙ ap (λ (t : List ℕ). Some t) (is_path found path dep at is)) place

  pub made_source : (found : Option (List ℕ)) (path : List ℕ) (input : ℕ) (old : List MissingDep) → Some path ≡ found → HaveOnePlace graph.manifest.paths → slice_get graph.manifest.paths input ≡ Some path → None ≡ (links_of graph).maker input
      → AddsDeps old old (IsMadeFor graph output (if_some found) file)
  made_source found path input old at once place source = made_none (if_some found) old (λ dep is.
      none-some dep.maker (source ∙ (ap (links_of graph).maker (sym (is_input found path input dep at once place is)) ∙ is.made)))

  abbrev dep_of : ℕ → ℕ → ℕ → MissingDep
  dep_of o i m = record { output = o; input = i; maker = m }

  dep_is : (dep : MissingDep) (o i m : ℕ) → dep.output ≡ o → dep.input ≡ i → dep.maker ≡ m → dep ≡ dep_of o i m
  dep_is dep o i m first second third = ap (λ (n : ℕ). dep_of n dep.input dep.maker) first ∙ (ap (λ (n : ℕ). dep_of o n dep.maker) second ∙ ap (λ (n : ℕ). dep_of o i n) third)

  pub made_push : (found : Option (List ℕ)) (path : List ℕ) (input maker : ℕ) (old new : List MissingDep) → Some path ≡ found → path ≢ file → HaveOnePlace graph.manifest.paths → slice_get graph.manifest.paths input ≡ Some path
      → Some maker ≡ (links_of graph).maker input → new ≡ old ++ dep_of output input maker ∷ [] → AddsDeps old new (IsMadeFor graph output (if_some found) file)
  made_push found path input maker old new at other once place made is =
      deps_as old new (λ dep. dep ≡ dep_of output input maker) (IsMadeFor graph output (if_some found) file)
      (λ dep same. subst (λ (d : MissingDep). IsMadeFor graph output (if_some found) file d) (sym same) (refl, one))
      (λ dep both. dep_is dep output input maker both.0 (is_input found path input dep at once place both.1)
      (same_Some dep.maker maker (sym both.1.made ∙ (ap (links_of graph).maker (is_input found path input dep at once place both.1) ∙ sym made))))
      (deps_push old new (dep_of output input maker) is)
    where
      text_is : text_at graph.manifest.paths input ≡ path
      text_is = get_or_from_slice_get graph.manifest.paths input path [] place

      one : IsMadeOf graph (if_some found) file (dep_of output input maker)
      one = record {
        told = or_at found (text_at graph.manifest.paths input) (ap (λ (t : List ℕ). Some t) text_is ∙ at);
        made = sym made;
        other = λ same. other (sym text_is ∙ same);
      }

  -- one recorded path more
  pub made_more : (outputs : List (List ℕ)) (numbers : List ℕ) (i number : ℕ) (old mid new : List MissingDep) → i < length numbers → number ≡ get_or numbers i 0
      → AddsDeps old mid (IsMadeFor graph output (texts_at outputs (take i numbers)) file) → AddsDeps mid new (IsMadeFor graph output (if_some (slice_get outputs number)) file) → AddsDeps old new (IsMadeFor graph output (texts_at outputs (take (i + 1) numbers)) file)
  made_more outputs numbers i number old mid new low is before adds =
      deps_as old new (EitherDep (IsMadeFor graph output first file) (IsMadeFor graph output second file)) (IsMadeFor graph output (texts_at outputs (take (i + 1) numbers)) file)
      (λ dep either. elim either [
        | inl p ↦ (p.0, wider dep (has_left first second (text_at graph.manifest.paths dep.input) p.1.told) p.1.made p.1.other)
        | inr q ↦ (q.0, wider dep (has_right first second (text_at graph.manifest.paths dep.input) q.1.told) q.1.made q.1.other)
      ])
      (λ dep all. elim (has_either first second (text_at graph.manifest.paths dep.input) (subst (λ (l : List (List ℕ)). has l (text_at graph.manifest.paths dep.input) ≡ true) (sym more) all.1.told)) [
        | inl was ↦ inl (all.0, record { told = was; made = all.1.made; other = all.1.other })
        | inr now ↦ inr (all.0, record { told = now; made = all.1.made; other = all.1.other })
      ])
      (deps_then old mid new (IsMadeFor graph output first file) (IsMadeFor graph output second file) before adds)
    where
      first : List (List ℕ)
      first = texts_at outputs (take i numbers)

      second : List (List ℕ)
      second = if_some (slice_get outputs number)

      more : texts_at outputs (take i numbers) ++ if_some (slice_get outputs number) ≡ texts_at outputs (take (i + 1) numbers)
      more = texts_more outputs numbers i number low is

      wider : (dep : MissingDep) → has (first ++ second) (text_at graph.manifest.paths dep.input) ≡ true → (links_of graph).maker dep.input ≡ Some dep.maker → text_at graph.manifest.paths dep.input ≢ file → IsMadeOf graph (texts_at outputs (take (i + 1) numbers)) file dep
      wider dep there made other = record { told = subst (λ (l : List (List ℕ)). has l (text_at graph.manifest.paths dep.input) ≡ true) more there; made = made; other = other }

  -- none of these edges makes a recorded path
  pub apart_none : (texts : List (List ℕ)) (made old : List MissingDep) → made ≡ [] → AddsDeps [] made (IsMadeFor graph output texts file) → AddsDeps old old (IsApart graph output texts file)
  apart_none texts made old none adds = deps_none old (IsApart graph output texts file) (λ dep is. one_none dep (subst (λ (l : List MissingDep). IsOneOf dep l) none ((adds dep).1 (inr (is.0, is.1)))))

  pub apart_all : (texts : List (List ℕ)) (made : List MissingDep) (marks : List Bool) (old new : List MissingDep) → AddsDeps [] made (IsMadeFor graph output texts file) → AreNeeded graph output marks → AddsDeps old new (IsUnmarked marks made)
      → AddsDeps old new (IsApart graph output texts file)
  apart_all texts made marks old new are needed adds =
      deps_as old new (IsUnmarked marks made) (IsApart graph output texts file)
      (λ dep one. elim ((are dep).0 one.0) [
        | inl none ↦ absurd (one_none dep none)
        | inr is ↦ (is.0, is.1, λ above. false≢true (sym one.1 ∙ (needed dep.maker).1 above))
      ])
      (λ dep is. ((are dep).1 (inr (is.0, is.1)), false_from_ne_true (get_or marks dep.maker false) (λ marked. is.2 ((needed dep.maker).0 marked))))
      adds

-- ---- those without a mark

pub marked_none : (marks : List Bool) (dep : MissingDep) (old : List MissingDep) → get_or marks dep.maker false ≡ true → AddsDeps old old (IsUnmarked marks (dep ∷ []))
marked_none marks dep old marked = deps_none old (IsUnmarked marks (dep ∷ [])) (λ one is. elim (one_push [] dep one is.0) [
  | inl none ↦ one_none one none
  | inr same ↦ false≢true (sym is.1 ∙ (ap (λ (d : MissingDep). get_or marks d.maker false) same ∙ marked))
])

pub unmarked_one : (marks : List Bool) (dep : MissingDep) (old new : List MissingDep) → get_or marks dep.maker false ≡ false → new ≡ old ++ dep ∷ [] → AddsDeps old new (IsUnmarked marks (dep ∷ []))
unmarked_one marks dep old new unmarked is =
    deps_as old new (λ one. one ≡ dep) (IsUnmarked marks (dep ∷ []))
    (λ one same. (one_last [] dep one same, ap (λ (d : MissingDep). get_or marks d.maker false) same ∙ unmarked))
    (λ one both. elim (one_push [] dep one both.0) [
      | inl none ↦ absurd (one_none one none)
      | inr same ↦ same
    ])
    (deps_push old new dep is)

pub unmarked_start : (marks : List Bool) (old : List MissingDep) → AddsDeps old old (IsUnmarked marks [])
unmarked_start marks old = deps_none old (IsUnmarked marks []) (λ dep is. one_none dep is.0)

pub unmarked_more : (marks : List Bool) (made : List MissingDep) (i : ℕ) (dep : MissingDep) (old mid new : List MissingDep) → i < length made → dep ≡ get_or made i dep
    → AddsDeps old mid (IsUnmarked marks (take i made)) → AddsDeps mid new (IsUnmarked marks (dep ∷ [])) → AddsDeps old new (IsUnmarked marks (take (i + 1) made))
unmarked_more marks made i dep old mid new low is before adds =
    deps_as old new (EitherDep (IsUnmarked marks (take i made)) (IsUnmarked marks (dep ∷ []))) (IsUnmarked marks (take (i + 1) made))
    (λ one either. elim either [
      | inl p ↦ (subst (λ (l : List MissingDep). IsOneOf one l) (sym more) (one_old (take i made) (dep ∷ []) one p.0), p.1)
      | inr q ↦ elim (one_push [] dep one q.0) [
        | inl none ↦ absurd (one_none one none)
        | inr same ↦ (subst (λ (l : List MissingDep). IsOneOf one l) (sym more) (one_last (take i made) dep one same), q.1)
      ]
    ])
    (λ one both. elim (one_push (take i made) dep one (subst (λ (l : List MissingDep). IsOneOf one l) more both.0)) [
      | inl was ↦ inl (was, both.1)
      | inr same ↦ inr (one_last [] dep one same, both.1)
    ])
    (deps_then old mid new (IsUnmarked marks (take i made)) (IsUnmarked marks (dep ∷ [])) before adds)
  where
    more : take (i + 1) made ≡ take i made ++ dep ∷ []
    more = take_more made i dep low ∙ ap (λ (d : MissingDep). take i made ++ d ∷ []) (sym is)

-- ---- what is needed for an output

maker_within : (graph : Graph) (p e : ℕ) → (links_of graph).maker p ≡ Some e → e < length graph.manifest.lines
maker_within graph p e made = elim (cases_lt e (length graph.manifest.lines)) [
  | inl low ↦ low
  | inr past ↦ absurd (false≢true (sym (ap (λ (line : Line). has_number (line_outputs line) p) (get_or_past graph.manifest.lines e no_line past)) ∙ graph.making.made p e made))
]

needed_within : (graph : Graph) (paths : List ℕ) (e : ℕ) → IsNeededFor (links_of graph) paths e → e < length graph.manifest.lines
needed_within graph paths e (Makes f p asked made) = maker_within graph p e made
needed_within graph paths e (Further f d p needed input made) = maker_within graph p e made

pub marks_needed : (graph : Graph) (output n : ℕ) (paths edges : List ℕ) (start new : List Bool) → paths ≡ output ∷ [] → start ≡ replicate n false → n ≡ length graph.manifest.lines → AreAbove graph paths edges → length new ≡ length start → MarksAlso start new edges → AreNeeded graph output new
marks_needed graph output n paths edges start new is none count above same marks e = (
  λ marked. elim (cases_lt e (length start)) [
    | inl low ↦ subst (λ (l : List ℕ). IsNeededFor (links_of graph) l e) is ((above.just e).0 (sym (marked_as low) ∙ marked))
    | inr past ↦ absurd (false≢true (sym (get_or_past new e false (omega (arith, past, same))) ∙ marked))
  ],
  λ needed. let low : e < length start = omega (arith, size, count, needed_within graph (output ∷ []) e needed) in
      marked_as low ∙ (above.just e).1 (subst (λ (l : List ℕ). IsNeededFor (links_of graph) l e) (sym is) needed),
)
  where
    size : length start ≡ n
    size = ap length none ∙ length-replicate n false

    marked_as : e < length start → get_or new e false ≡ has_number edges e
    marked_as low = marks e low ∙ ap (λ (b : Bool). b || has_number edges e) (ap (λ (l : List Bool). get_or l e false) none ∙ get_or-replicate n e false false (subst (λ (m : ℕ). e < m) size low))

-- ---- what logs tell

front_text : (front more : List (List ℕ)) (p : ℕ) → p < length front → text_at (front ++ more) p ≡ text_at front p
front_text [] more p low = absurd (omega (arith, low))
front_text (t ∷ front) more zero low = refl
front_text (t ∷ front) more (suc p) low = front_text front more p (omega (arith, low))

made_then : (o : Option ℕ) → IsSome o → (e : ℕ) × (o ≡ Some e)
made_then None some = absurd (false≢true some)
made_then (Some e) some = (e, refl)

told_paths : (graph : Graph) (records : Records) (rs : List Record) (ds : List DepsRecord) → Knows graph records rs ds → (p : ℕ) → IsSome ((links_of graph).maker p) → (found : Option (Bor Deps))
    → OfKnownDeps records (λ all paths. p < length paths → IsTold records found all paths p) → paths_in (deps_in_force ds (text_at graph.manifest.paths p)) ≡ paths_in (told_found records.logs.deps_log.log found)
told_paths graph records rs ds known p some found told =
    let made = made_then ((links_of graph).maker p) some in
    let low = known.outputs made.0 p (graph.making.made p made.0 made.1) in
    let text : text_at graph.manifest.paths p ≡ text_at known.paths p = ap (λ (l : List (List ℕ)). text_at l p) known.grown ∙ front_text known.paths known.more p low in
    ap (λ (t : List ℕ). paths_in (deps_in_force ds t)) text ∙ ap paths_in (sym (told ds known.paths known.told low))

pub missing_none : (graph : Graph) (records : Records) (file : List ℕ) (p : ℕ) (old : List MissingDep) → IsSome ((links_of graph).maker p) → OfKnownDeps records (λ all paths. p < length paths → IsTold records None all paths p) → AddsMissing graph records file p old old
missing_none graph records file p old some told rs ds known = deps_none old (λ dep. (dep.output ≡ p) × IsMissing graph ds file dep) (λ dep is.
    false≢true (ap (λ (l : List (List ℕ)). has l (text_at graph.manifest.paths dep.input)) (sym (ap (λ (q : ℕ). paths_in (deps_in_force ds (text_at graph.manifest.paths q))) is.0 ∙ told_paths graph records rs ds known p some None told)) ∙ is.1.told))

pub missing_some : (graph : Graph) (records : Records) (file : List ℕ) (p : ℕ) (deps : Bor Deps) (old new : List MissingDep) → IsSome ((links_of graph).maker p) → OfKnownDeps records (λ all paths. p < length paths → IsTold records (Some deps) all paths p)
    → AddsDeps old new (IsApart graph p (texts_at records.logs.deps_log.log.outputs deps.now.paths) file) → AddsMissing graph records file p old new
missing_some graph records file p deps old new some told adds rs ds known =
    deps_as old new (IsApart graph p (texts_at records.logs.deps_log.log.outputs deps.now.paths) file) (λ dep. (dep.output ≡ p) × IsMissing graph ds file dep)
    (λ dep is. (
      is.0,
      record {
        output = subst (λ (q : ℕ). IsSome ((links_of graph).maker q)) (sym is.0) some;
        told = subst (λ (l : List (List ℕ)). has l (text_at graph.manifest.paths dep.input) ≡ true) (sym (at dep is.0)) is.1.told;
        made = is.1.made;
        other = is.1.other;
        apart = λ needed. is.2 (subst (λ (q : ℕ). IsNeededFor (links_of graph) (q ∷ []) dep.maker) is.0 needed);
      },
    ))
    (λ dep is. (
      is.0,
      record {
        told = subst (λ (l : List (List ℕ)). has l (text_at graph.manifest.paths dep.input) ≡ true) (at dep is.0) is.1.told;
        made = is.1.made;
        other = is.1.other;
      },
      λ needed. is.1.apart (subst (λ (q : ℕ). IsNeededFor (links_of graph) (q ∷ []) dep.maker) (sym is.0) needed),
    ))
    adds
  where
    at : (dep : MissingDep) → dep.output ≡ p → paths_in (deps_in_force ds (text_at graph.manifest.paths dep.output)) ≡ texts_at records.logs.deps_log.log.outputs deps.now.paths
    at dep is = ap (λ (q : ℕ). paths_in (deps_in_force ds (text_at graph.manifest.paths q))) is ∙ told_paths graph records rs ds known p some (Some deps) told

-- ---- all outputs

-- missing ones of these outputs
abbrev pub IsMissingOf : Graph → List DepsRecord → List ℕ → List ℕ → MissingDep → Type 0
IsMissingOf graph ds file outputs dep = (has_number outputs dep.output ≡ true) × IsMissing graph ds file dep

-- of this output
abbrev pub IsMissingAt : Graph → List DepsRecord → List ℕ → ℕ → MissingDep → Type 0
IsMissingAt graph ds file p dep = (dep.output ≡ p) × IsMissing graph ds file dep

pub missing_start : (graph : Graph) (ds : List DepsRecord) (file : List ℕ) (old : List MissingDep) → AddsDeps old old (IsMissingOf graph ds file [])
missing_start graph ds file old = deps_none old (IsMissingOf graph ds file []) (λ dep is. false≢true is.0)

pub missing_more : (graph : Graph) (ds : List DepsRecord) (file : List ℕ) (outputs : List ℕ) (i p : ℕ) (old mid new : List MissingDep) → i < length outputs → p ≡ get_or outputs i p
    → AddsDeps old mid (IsMissingOf graph ds file (take i outputs)) → AddsDeps mid new (λ dep. (dep.output ≡ p) × IsMissing graph ds file dep) → AddsDeps old new (IsMissingOf graph ds file (take (i + 1) outputs))
missing_more graph ds file outputs i p old mid new low is before adds =
    deps_as old new (EitherDep (IsMissingOf graph ds file (take i outputs)) (IsMissingAt graph ds file p)) (IsMissingOf graph ds file (take (i + 1) outputs))
    (λ dep either. elim either [
      | inl was ↦ (there dep ∙ or_left (has_number (take i outputs) dep.output) (p == dep.output) was.0, was.1)
      | inr now ↦ (there dep ∙ or_right (has_number (take i outputs) dep.output) (p == dep.output) (eq-eqb p dep.output (sym now.0)), now.1)
    ])
    (λ dep both. elim (or_cases (has_number (take i outputs) dep.output) (p == dep.output) (sym (there dep) ∙ both.0)) [
      | inl was ↦ inl (was, both.1)
      | inr now ↦ inr (sym (eqb-true p dep.output now), both.1)
    ])
    (deps_then old mid new (IsMissingOf graph ds file (take i outputs)) (IsMissingAt graph ds file p) before adds)
  where
    there : (dep : MissingDep) → has_number (take (i + 1) outputs) dep.output ≡ (has_number (take i outputs) dep.output || (p == dep.output))
    there dep = ap (λ (l : List ℕ). has_number l dep.output) (take_more outputs i p low ∙ ap (λ (q : ℕ). take i outputs ++ q ∷ []) (sym is)) ∙ number_push (take i outputs) p dep.output

pub missing_all : (graph : Graph) (ds : List DepsRecord) (file : List ℕ) (paths outputs : List ℕ) (found : List MissingDep) → AreNamedMade graph paths outputs → AddsDeps [] found (IsMissingOf graph ds file outputs) → AreMissing graph ds file paths found
missing_all graph ds file paths outputs found named adds = record {
  sound = λ dep one. elim ((adds dep).0 one) [
    | inl none ↦ absurd (one_none dep none)
    | inr is ↦ (is.1, ((named dep.output).0 is.0).0)
  ];
  whole = λ dep is above. (adds dep).1 (inr ((named dep.output).1 (above, is.output), is));
}

-- each of them is made
pub all_made : (graph : Graph) (paths outputs : List ℕ) (i p : ℕ) → AreNamedMade graph paths outputs → i < length outputs → p ≡ get_or outputs i p → IsSome ((links_of graph).maker p)
all_made graph paths outputs i p named low is = ((named p).0 (there outputs i low is)).1
  where
    there : (xs : List ℕ) (k : ℕ) → k < length xs → p ≡ get_or xs k p → has_number xs p ≡ true
    there [] k within at = absurd (omega (arith, within))
    there (x ∷ xs) zero within at = or_left (x == p) (has_number xs p) (eq-eqb x p (sym at))
    there (x ∷ xs) (suc k) within at = or_right (x == p) (has_number xs p) (there xs k (omega (arith, within)) at)
