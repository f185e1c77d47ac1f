use Rattle.std.proofs.Common.{◌≡◌, ◌∷◌, ◌++◌, [], List, ℕ, refl, sym, ◌∙◌, subst, append_assoc, append-nil}
use Rattle.log_text.specs.Text.{EndsLine}
use Rattle.log_text.specs.declared.pieces.Stage.TheVariants.{First, Lines, Broken}
use Rattle.log_text.specs.Pieces.{BeginNoLog, IsKeptLog, StandsAt, HasRead}
use Rattle.log_text.proofs.Amid.{ends_none, ends_behind, begins_so, is_begun}
use Rattle.log_text.proofs.pieces.SoFar.pass_first.Goals as goal

-- the first line is known already
pub returns-then-not-is_first : goal.returns-then-not-is_first
returns-then-not-is_first g c = record {
  front = [];
  parts = refl;
  ends = c.requires;
  none = λ first. absurd (c.is_first.ensures.no c.if-not-is_first.true first);
  passed = λ lines read. subst (λ (xs : List ℕ). HasRead g.L.Records.forms g.L.Records.Keeps xs c.args.self.now) (sym (append-nil lines)) read;
}

-- there is no line
pub returns-in_default : goal.returns-in_default
returns-in_default g c = record {
  front = [];
  parts = refl;
  ends = c.requires;
  none = λ first. ends_none c.args.lines.now c.requires c.in_default.ensures.none;
  passed = λ lines read. subst (λ (xs : List ℕ). HasRead g.L.Records.forms g.L.Records.Keeps xs c.args.self.now) (sym (append-nil lines)) read;
}

-- it tells no version
pub returns-in_default-version_of : goal.returns-in_default-version_of
returns-in_default-version_of g c =
    let forms = g.L.Records.forms in
    let first = c.in-Some.first.now in
    let records = c.in-Some.records.now in
    let cut = c.in-Some.ensures.found in
    record {
      front = first ++ 10 ∷ [];
      parts = cut ∙ sym (append_assoc first (10 ∷ []) records);
      ends = ends_behind first records (subst EndsLine cut c.requires);
      none = λ e. absurd (let clash : Broken ≡ First = e in cc);
      passed = λ lines read.
          let none = subst (StandsAt forms g.L.Records.Keeps lines c.args.self.now.log) (c.is_first.ensures.yes c.if-not-is_first.false) read in
          subst (λ (xs : List ℕ). BeginNoLog forms (xs ++ (first ++ 10 ∷ []))) (sym none.0) (begins_so forms c.are_readable.ensures first c.in-Some.ensures.first c.in_default-version_of.ensures.none);
    }

-- it tells the version
pub returns : goal.returns
returns g c =
    let forms = g.L.Records.forms in
    let first = c.in-Some.first.now in
    let records = c.in-Some.records.now in
    let cut = c.in-Some.ensures.found in
    record {
      front = first ++ 10 ∷ [];
      parts = cut ∙ sym (append_assoc first (10 ∷ []) records);
      ends = ends_behind first records (subst EndsLine cut c.requires);
      none = λ e. absurd (let clash : Lines c.in-Some-version_of.version ≡ First = e in cc);
      passed = λ lines read.
          let none = subst (StandsAt forms g.L.Records.Keeps lines c.args.self.now.log) (c.is_first.ensures.yes c.if-not-is_first.false) read in
          subst (λ (xs : List ℕ). IsKeptLog (forms c.in-Some-version_of.version) g.L.Records.Keeps (xs ++ (first ++ 10 ∷ [])) c.args.self.now.log) (sym none.0) (is_begun forms g.L.Records.Keeps c.in-Some-version_of.version first c.args.self.now.log c.in-Some-version_of.ensures.found none.1);
    }
