-- What statements add, one after the other.
use Rattle.std.proofs.Common.{◌≡◌, true, false, List, [], ◌∷◌, ◌++◌, refl, sym, ap, ◌∙◌, subst, append_assoc, append-nil}
use Rattle.std.specs.List.{AllByRecursion}
use Rattle.lexer.specs.Said.{Form}
use Rattle.lexer.specs.Said.Form.{binding, block_binding, rule, build, pool, defaults, includes, subninja}
use Rattle.dyndep.specs.declared.addition.Addition.{Addition}
use Rattle.dyndep.specs.Dyndep.{IsAddition, AreAdditions, BindsRestat, binds_restat}
use Rattle.dyndep.specs.Dyndep.AreAdditions.{nothing, one_more}
use Rattle.dyndep.specs.Refused.{AddsOne, AddsNone, AreNoAdditions, is_of_block, begins_block, IsSplit, StatementsAdd}

-- what is left adds more, and only so
pub record AddsSoFar (forms left : List Form) (additions : List Addition) : Type 0 where
  pub goes_on : (more : List Addition) → AreAdditions left more → AreAdditions forms (additions ++ more)
  pub comes_from : (all : List Addition) → AreAdditions forms all → (more : List Addition) × AreAdditions left more

nothing_added : (forms : List Form) → AddsSoFar forms forms []
nothing_added forms = record { goes_on = λ more are. are; comes_from = λ all are. (all, are) }

-- additions begin with no line of a block
pub begins_so : (forms : List Form) (additions : List Addition) → AreAdditions forms additions → begins_block forms ≡ false
begins_so forms additions nothing = refl
begins_so forms additions (one_more is more) = refl

of_block : (form : Form) → binds_restat form ≡ true → is_of_block form ≡ true
of_block (binding name value) e = absurd (cc)
of_block (block_binding name value) e = refl
of_block (rule name) e = absurd (cc)
of_block (build line) e = absurd (cc)
of_block (pool name) e = absurd (cc)
of_block (defaults paths) e = absurd (cc)
of_block (includes path) e = absurd (cc)
of_block (subninja path) e = absurd (cc)

pub binds_of_block : (block : List Form) → BindsRestat block → AllByRecursion (λ form. is_of_block form ≡ true) block
binds_of_block [] all = tt
binds_of_block (form ∷ block) all = (of_block form all.0, binds_of_block block all.1)

-- a text is cut behind its block in one way
pub one_cut : (block behind other rest : List Form) → block ++ behind ≡ other ++ rest → AllByRecursion (λ form. is_of_block form ≡ true) block → begins_block behind ≡ false
    → BindsRestat other → begins_block rest ≡ false → (block ≡ other) × (behind ≡ rest)
one_cut [] behind [] rest e all ends binds starts = (refl, e)
one_cut [] behind (form ∷ other) rest e all ends binds starts = absurd (
    let is : is_of_block form ≡ false = ap begins_block (sym e) ∙ ends in
    let block : is_of_block form ≡ true = of_block form binds.0 in
    let never : true ≡ false = sym block ∙ is in cc)
one_cut (form ∷ block) behind [] rest e all ends binds starts = absurd (
    let is : is_of_block form ≡ false = ap begins_block e ∙ starts in
    let never : true ≡ false = sym all.0 ∙ is in cc)
one_cut (form ∷ block) behind (next ∷ other) rest e all ends binds starts =
    let same : form ≡ next = cc in
    let tails : block ++ behind ≡ other ++ rest = cc in
    let more = one_cut block behind other rest tails all.1 ends binds.1 starts in
    (ap (λ (x : Form). x ∷ block) same ∙ ap (λ (xs : List Form). next ∷ xs) more.0, more.1)

-- the first statement and its block, and the additions behind them
record Inverts (form : Form) (block behind : List Form) : Type 0 where
  addition : Addition
  additions : List Addition
  is : AddsOne form block addition
  are : AreAdditions behind additions

inverted : (forms : List Form) (all : List Addition) → AreAdditions forms all → (form : Form) (rest block behind : List Form) → forms ≡ form ∷ rest → IsSplit rest block behind → Inverts form block behind
inverted forms all nothing form rest block behind e split = absurd (cc)
inverted forms all (one_more {line = line} {block = own} {forms = others} {addition = addition} {additions = additions} is more) form rest block behind e split =
    let tails : own ++ others ≡ rest = cc in
    let heads : build line ≡ form = cc in
    let cut = one_cut block behind own others (sym split.whole ∙ sym tails) split.all split.ends is.block_binds (begins_so others additions more) in
    record {
      addition = addition;
      additions = additions;
      is = subst (λ (f : Form). AddsOne f block addition) heads (subst (λ (b : List Form). IsAddition line b addition) (sym cut.0) is);
      are = subst (λ (fs : List Form). AreAdditions fs additions) (sym cut.1) more;
    }

joined : (form : Form) (block behind : List Form) (addition : Addition) (more : List Addition) → AddsOne form block addition → AreAdditions behind more → AreAdditions (form ∷ (block ++ behind)) (addition ∷ more)
joined (build line) block behind addition more is are = one_more is are
joined (binding name value) block behind addition more is are = absurd is
joined (block_binding name value) block behind addition more is are = absurd is
joined (rule name) block behind addition more is are = absurd is
joined (pool name) block behind addition more is are = absurd is
joined (defaults paths) block behind addition more is are = absurd is
joined (includes path) block behind addition more is are = absurd is
joined (subninja path) block behind addition more is are = absurd is

pub one_more_added : (forms rest block behind : List Form) (form : Form) (addition : Addition) (additions : List Addition) → AddsSoFar forms (form ∷ rest) additions → IsSplit rest block behind → AddsOne form block addition → AddsSoFar forms behind (additions ++ addition ∷ [])
one_more_added forms rest block behind form addition additions far split is = record {
  goes_on = λ more are. subst (λ (all : List Addition). AreAdditions forms all) (sym (append_assoc additions (addition ∷ []) more))
      (far.goes_on (addition ∷ more) (subst (λ (fs : List Form). AreAdditions (form ∷ fs) (addition ∷ more)) (sym split.whole) (joined form block behind addition more is are)));
  comes_from = λ all are. let before = far.comes_from all are in
      let parts = inverted (form ∷ rest) before.0 before.1 form rest block behind refl split in (parts.additions, parts.are);
}

pub all_added : (forms left : List Form) (additions : List Addition) → AddsSoFar forms left additions → left ≡ [] → AreAdditions forms additions
all_added forms left additions far none = subst (λ (all : List Addition). AreAdditions forms all) (append-nil additions) (far.goes_on [] (subst (λ (fs : List Form). AreAdditions fs []) (sym none) nothing))

pub none_added : (forms rest block behind : List Form) (form : Form) (additions : List Addition) → AddsSoFar forms (form ∷ rest) additions → IsSplit rest block behind → AddsNone form block → AreNoAdditions forms
none_added forms rest block behind form additions far split never all are =
    let before = far.comes_from all are in
    let parts = inverted (form ∷ rest) before.0 before.1 form rest block behind refl split in
    never parts.addition parts.is

pub statements_add : StatementsAdd
statements_add = record {
  one = λ form rest block behind addition split is more are. (one_more_added (form ∷ rest) rest block behind form addition [] (nothing_added (form ∷ rest)) split is).goes_on more are;
  rest = λ form rest block behind addition split is all are. (one_more_added (form ∷ rest) rest block behind form addition [] (nothing_added (form ∷ rest)) split is).comes_from all are;
  none = λ form rest block behind split none. none_added (form ∷ rest) rest block behind form [] (nothing_added (form ∷ rest)) split none;
}
