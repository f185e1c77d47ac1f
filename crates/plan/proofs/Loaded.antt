-- Which dyndep files are loaded, and in which order.
use Rattle.std.proofs.Common.{◌≡◌, inl, inr, ℕ, zero, suc, ◌+◌, ◌<◌, Bool, true, false, List, [], ◌∷◌, ◌++◌, Option, None, Some, length, refl, sym, ◌∙◌, ap, subst, arith, append_assoc}
use Rattle.std.specs.Option.{is_some}
use Rattle.std.proofs.Math.ListN.{set}
use Rattle.std.proofs.lemmas.List.{length-set, get_or-set_same, get_or-set_other}
use Rattle.std.proofs.lemmas.Bool.{false≢true, true≢false, cases_eq, cases_Bool}
use Rattle.model.specs.Graph.{has_number}
use Rattle.theory.proofs.Lists.{has_number-left, has_number-right, has_number-cases, has_number-one, has_number-push, has_number-push_cases, has_number-push_other, same_some}
use Rattle.plan.specs.Flags.{has}
use Rattle.graph.specs.declared.graph.Graph.{Graph}
use Rattle.graph.specs.Links.{links_of}
use Rattle.graph.specs.Extended.{dyndep_at}
use Rattle.plan.specs.declared.step.Standing.{Standing}
use Rattle.plan.specs.Standing.{standing_at, is_outside}
use Rattle.plan.specs.Loads.{IsWanted, NoneIsWanted, AreWanted, IsTaken, NoneIsTaken, IsFirstToName, IsNamedBefore, AreNamedInOrder, HavePushed, BySource, ByEdge, AreInOrder, AreLoads}

-- ---- edges of the cone that name files

-- the flags of just the files that the first edges name are set
pub record AreWantedBy (graph : Graph) (standings : List Standing) (flags : List Bool) (count : ℕ) : Type 0 where
  pub fits : length flags ≡ length graph.manifest.paths
  pub named : (file : ℕ) → has flags file ≡ true → IsWanted graph standings file
  pub all : (e file : ℕ) → e < count → is_outside (standing_at standings e) ≡ false → dyndep_at graph e ≡ Some file → has flags file ≡ true

-- ---- files in the order in which they are named

ordered_push : (graph : Graph) (files : List ℕ) (last : ℕ) → AreNamedInOrder graph files → ((file : ℕ) → has_number files file ≡ true → IsNamedBefore graph file last) → AreNamedInOrder graph (files ++ last ∷ [])
ordered_push graph [] last ordered before = ((λ other h. absurd (false≢true h)), tt)
ordered_push graph (f ∷ files) last ordered before = (
  λ other h. elim (has_number-push_cases files last other h) [
    | inl there ↦ ordered.0 other there
    | inr same ↦ subst (IsNamedBefore graph f) same (before f (has_number-left (f ∷ []) files f (has_number-one f)))
  ],
  ordered_push graph files last ordered.1 (λ file h. before file (has_number-right (f ∷ []) files file h)),
)

pub flag_range : (flags : List Bool) (k : ℕ) → has flags k ≡ true → k < length flags
flag_range [] k is = absurd (false≢true is)
flag_range (x ∷ flags) zero is = omega arith
flag_range (x ∷ flags) (suc k) is = let rest = flag_range flags k is in omega (arith, rest)

-- the wanted files of one kind that the first edges name stand behind the others, and are not wanted any more
pub record HavePushedBy (graph : Graph) (made : Bool) (flags left : List Bool) (before after : List ℕ) (count : ℕ) : Type 0 where
  pub added : List ℕ
  pub fits : length left ≡ length flags
  pub splits : after ≡ before ++ added
  pub each : (file : ℕ) → has_number added file ≡ true → (has flags file ≡ true) × (is_some ((links_of graph).maker file) ≡ made)
  pub first : (file : ℕ) → has_number added file ≡ true → (d : ℕ) × IsFirstToName graph file d × (d < count)
  pub all : (e file : ℕ) → e < count → IsTaken graph flags made e file → has_number added file ≡ true
  pub ordered : AreNamedInOrder graph added
  pub rest : (file : ℕ) → has_number added file ≡ false → has left file ≡ has flags file
  pub gone : (file : ℕ) → has_number added file ≡ true → has left file ≡ false

module _ (graph : Graph) (made : Bool) (flags left : List Bool) (before after : List ℕ) (k : ℕ) (so_far : HavePushedBy graph made flags left before after k) where
  first_next : (file : ℕ) → has_number so_far.added file ≡ true → (d : ℕ) × IsFirstToName graph file d × (d < k + 1)
  first_next file h = let was = so_far.first file h in (was.0, was.1, omega (arith, was.2))

  pub pushed_same : NoneIsTaken graph left made k → HavePushedBy graph made flags left before after (k + 1)
  pushed_same none = record {
    added = so_far.added;
    fits = so_far.fits;
    splits = so_far.splits;
    each = so_far.each;
    first = first_next;
    all = λ e file lt taken. elim (cases_eq e k) [
      | inl same ↦ elim (cases_Bool (has_number so_far.added file)) [
        | inl there ↦ there
        | inr missing ↦ absurd (none file record { names = ap (dyndep_at graph) (sym same) ∙ taken.names; wanted = so_far.rest file missing ∙ taken.wanted; kind = taken.kind })
      ]
      | inr other ↦ so_far.all e file (omega (arith, lt, other)) taken
    ];
    ordered = so_far.ordered;
    rest = so_far.rest;
    gone = so_far.gone;
  }

  module _ (file : ℕ) (taken : IsTaken graph left made k file) where
    fresh : has_number so_far.added file ≡ false
    fresh = elim (cases_Bool (has_number so_far.added file)) [
      | inl there ↦ absurd (false≢true (sym (so_far.gone file there) ∙ taken.wanted))
      | inr missing ↦ missing
    ]

    was_wanted : has flags file ≡ true
    was_wanted = sym (so_far.rest file fresh) ∙ taken.wanted

    named_here : IsFirstToName graph file k
    named_here = record {
      names = taken.names;
      first = λ e lt names. false≢true (sym fresh ∙ so_far.all e file lt record { names = names; wanted = was_wanted; kind = taken.kind });
    }

    pub pushed_next : (now : List Bool) (more : List ℕ) → now ≡ set left file false → more ≡ after ++ file ∷ [] → HavePushedBy graph made flags now before more (k + 1)
    pushed_next now more set_is push_is = subst (λ (fs : List Bool). HavePushedBy graph made flags fs before more (k + 1)) (sym set_is) record {
      added = so_far.added ++ file ∷ [];
      fits = length-set left file false ∙ so_far.fits;
      splits = push_is ∙ (ap (λ (l : List ℕ). l ++ file ∷ []) so_far.splits ∙ append_assoc before so_far.added (file ∷ []));
      each = λ other h. elim (has_number-push_cases so_far.added file other h) [
        | inl there ↦ so_far.each other there
        | inr same ↦ subst (λ (n : ℕ). (has flags n ≡ true) × (is_some ((links_of graph).maker n) ≡ made)) same (was_wanted, taken.kind)
      ];
      first = λ other h. elim (has_number-push_cases so_far.added file other h) [
        | inl there ↦ first_next other there
        | inr same ↦ subst (λ (n : ℕ). (d : ℕ) × IsFirstToName graph n d × (d < k + 1)) same (k, named_here, omega arith)
      ];
      all = λ e other lt is. elim (cases_eq e k) [
        | inl here ↦ subst (λ (n : ℕ). has_number (so_far.added ++ file ∷ []) n ≡ true) (same_some file other (sym taken.names ∙ (ap (dyndep_at graph) (sym here) ∙ is.names))) (has_number-push so_far.added file)
        | inr elsewhere ↦ has_number-left so_far.added (file ∷ []) other (so_far.all e other (omega (arith, lt, elsewhere)) is)
      ];
      ordered = ordered_push graph so_far.added file so_far.ordered (λ other h. let was = so_far.first other h in record { edge = was.0; later = k; first = was.1; second = named_here; before = was.2 });
      rest = λ other h. elim (cases_eq other file) [
        | inl same ↦ absurd (false≢true (sym h ∙ subst (λ (n : ℕ). has_number (so_far.added ++ file ∷ []) n ≡ true) (sym same) (has_number-push so_far.added file)))
        | inr differ ↦ get_or-set_other left file other false false differ ∙ so_far.rest other (sym (has_number-push_other so_far.added file other (λ is. differ (sym is))) ∙ h)
      ];
      gone = λ other h. elim (cases_eq other file) [
        | inl same ↦ ap (has (set left file false)) same ∙ get_or-set_same left file false false (flag_range left file taken.wanted)
        | inr differ ↦ get_or-set_other left file other false false differ ∙ so_far.gone other (sym (has_number-push_other so_far.added file other (λ is. differ (sym is))) ∙ h)
      ];
    }

-- ---- sources, then what is made

some_maker : (o : Option ℕ) → is_some o ≡ true → (d : ℕ) × (o ≡ Some d)
some_maker None h = absurd (false≢true h)
some_maker (Some d) h = (d, refl)

no_maker : (o : Option ℕ) → is_some o ≡ false → o ≡ None
no_maker None h = refl
no_maker (Some d) h = absurd (true≢false h)

-- files of one kind, in the order in which they are named
one_kind : (graph : Graph) (made : Bool) (files : List ℕ) → AreNamedInOrder graph files → ((file : ℕ) → has_number files file ≡ true → is_some ((links_of graph).maker file) ≡ made) → AreInOrder graph files
one_kind graph made [] ordered kind = tt
one_kind graph made (f ∷ files) ordered kind = (
  λ other h. let before = ordered.0 other h in ByEdge before.edge before.later (λ none. no_maker ((links_of graph).maker f) (mine ∙ (sym (kind other (has_number-right (f ∷ []) files other h)) ∙ ap is_some none))) before.first before.second before.before,
  one_kind graph made files ordered.1 (λ file h. kind file (has_number-right (f ∷ []) files file h)),
)
  where
    mine : is_some ((links_of graph).maker f) ≡ made
    mine = kind f (has_number-left (f ∷ []) files f (has_number-one f))

both_kinds : (graph : Graph) (sources others : List ℕ) → AreInOrder graph sources → AreInOrder graph others → ((file : ℕ) → has_number sources file ≡ true → is_some ((links_of graph).maker file) ≡ false)
    → ((file : ℕ) → has_number others file ≡ true → is_some ((links_of graph).maker file) ≡ true) → AreInOrder graph (sources ++ others)
both_kinds graph [] others first second source made = second
both_kinds graph (f ∷ sources) others first second source made = (
  λ other h. elim (has_number-cases sources others other h) [
    | inl there ↦ first.0 other there
    | inr later ↦ let maker = some_maker ((links_of graph).maker other) (made other later) in BySource maker.0 (no_maker ((links_of graph).maker f) (source f (has_number-left (f ∷ []) sources f (has_number-one f)))) maker.1
  ],
  both_kinds graph sources others first.1 second (λ file h. source file (has_number-right (f ∷ []) sources file h)) made,
)

pub loads_are : (graph : Graph) (standings : List Standing) (flags left last : List Bool) (none sources loads : List ℕ) → AreWanted graph standings flags → none ≡ []
    → HavePushed graph false flags left none sources → HavePushed graph true left last sources loads → AreLoads graph standings loads
loads_are graph standings flags left last none sources loads wanted nothing first second = subst (AreLoads graph standings) (sym whole) record {
  named = λ file h. elim (has_number-cases first.added second.added file h) [
    | inl source ↦ wanted.named file (first.each file source).0
    | inr made ↦ wanted.named file (sym (first.others file (λ is. false≢true (sym is ∙ (second.each file made).1))) ∙ (second.each file made).0)
  ];
  all = λ e file inside names. elim (cases_Bool (is_some ((links_of graph).maker file))) [
    | inl made ↦ has_number-right first.added second.added file (second.all e file record {
      names = names;
      wanted = first.others file (λ is. false≢true (sym is ∙ made)) ∙ wanted.all e file inside names;
      kind = made;
    })
    | inr source ↦ has_number-left first.added second.added file (first.all e file record { names = names; wanted = wanted.all e file inside names; kind = source })
  ];
  ordered = both_kinds graph first.added second.added (one_kind graph false first.added first.ordered (λ file h. (first.each file h).1)) (one_kind graph true second.added second.ordered (λ file h. (second.each file h).1))
      (λ file h. (first.each file h).1) (λ file h. (second.each file h).1);
}
  where
    whole : loads ≡ first.added ++ second.added
    whole = second.splits ∙ ap (λ (l : List ℕ). l ++ second.added) (first.splits ∙ ap (λ (l : List ℕ). l ++ first.added) nothing)

pub loads_none : (graph : Graph) (standings : List Standing) (loads : List ℕ) → loads ≡ [] → NoneIsWanted graph standings → AreLoads graph standings loads
loads_none graph standings loads nothing none = subst (AreLoads graph standings) (sym nothing) record {
  named = λ file h. absurd (false≢true h);
  all = λ e file inside names. absurd (none file record { edge = e; inside = inside; names = names });
  ordered = tt;
}
