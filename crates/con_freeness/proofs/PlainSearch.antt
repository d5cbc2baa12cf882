-- The least of some ids, while these are looked at one after another.
use Rattle.std.proofs.Common.{◌≡◌, ◌≢◌, ℕ, ◌+◌, ◌<◌, ◌≤◌, ◌⊎◌, inl, inr, List, Option, Some, None, sym, ◌∙◌, subst, arith}
use Rattle.std.proofs.lemmas.Bool.{cases_eq, cases_lt}
use Rattle.name_sets.specs.Texts.{IsBefore}
use Rattle.name_sets.specs.Least.{TellsLeast}
use Rattle.name_sets.specs.Search.{IsLesser}
use Rattle.name_sets.proofs.TextLemmas.{before_trans}

module _ (texts : List (List ℕ)) (P : ℕ → Type 0) where
  -- the answer is the least of those that are below an id
  abbrev pub TellsBelow : ℕ → Option ℕ → Type 0
  TellsBelow i answer = TellsLeast texts (λ id. P id × (id < i)) answer

  below_or_last : (i id : ℕ) → id < i + 1 → (id < i) ⊎ (id ≡ i)
  below_or_last i id l = by (cases_lt id i)
    where
      by : (id < i) ⊎ (i ≤ id) → (id < i) ⊎ (id ≡ i)
      by (inl below) = inl below
      by (inr from) = inr (omega (arith, from, l))

  pub starts : TellsBelow 0 None
  starts id h = let l = h.1 in omega arith

  -- one id more that isn't among them
  pub passed : (i : ℕ) (answer : Option ℕ) → (P i → ⊥) → TellsBelow i answer → TellsBelow (i + 1) answer
  passed i None absent none = λ id h. by id h.0 (below_or_last i id h.1)
    where
      by : (id : ℕ) → P id → (id < i) ⊎ (id ≡ i) → ⊥
      by id there (inl below) = none id (there, below)
      by id there (inr same) = absent (subst P same there)
  passed i (Some r) absent first = record {
    member = (first.member.0, omega (arith, first.member.1));
    least = λ other here apart. by other here.0 apart (below_or_last i other here.1);
  }
    where
      by : (other : ℕ) → P other → other ≢ r → (other < i) ⊎ (other ≡ i) → IsBefore texts r other
      by other there apart (inl below) = first.least other (there, below) apart
      by other there apart (inr same) = absurd (absent (subst P same there))

  -- one that is
  pub met : (i r : ℕ) (answer : Option ℕ) → P i → TellsBelow i answer → IsLesser texts answer i r → TellsBelow (i + 1) (Some r)
  met i r None here none is = record {
    member = (subst P (sym is) here, omega (arith, is));
    least = λ other h apart. by other h.0 (λ e. apart (e ∙ sym is)) (below_or_last i other h.1);
  }
    where
      by : (other : ℕ) → P other → other ≢ i → (other < i) ⊎ (other ≡ i) → IsBefore texts r other
      by other there apart (inl below) = absurd (none other (there, below))
      by other there apart (inr same) = absurd (apart same)
  met i r (Some o) here first (inl new) = record {
    member = (subst P (sym new.0) here, omega (arith, new.0));
    least = λ other h apart. subst (λ n. IsBefore texts n other) (sym new.0) (by other h.0 (λ e. apart (e ∙ sym new.0)) (below_or_last i other h.1) (cases_eq other o));
  }
    where
      by : (other : ℕ) → P other → other ≢ i → (other < i) ⊎ (other ≡ i) → (other ≡ o) ⊎ (other ≡ o → ⊥) → IsBefore texts i other
      by other there apart (inr same) which = absurd (apart same)
      by other there apart (inl below) (inl same) = subst (IsBefore texts i) (sym same) new.1
      by other there apart (inl below) (inr later) = before_trans texts i o other new.1 (first.least other (there, below) later)
  met i r (Some o) here first (inr kept) = record {
    member = (subst P (sym kept.0) first.member.0, omega (arith, kept.0, first.member.1));
    least = λ other h apart. subst (λ n. IsBefore texts n other) (sym kept.0) (by other h.0 (λ e. apart (e ∙ sym kept.0)) (below_or_last i other h.1) kept.1);
  }
    where
      by : (other : ℕ) → P other → other ≢ o → (other < i) ⊎ (other ≡ i) → (i ≡ o) ⊎ IsBefore texts o i → IsBefore texts o other
      by other there apart (inl below) which = first.least other (there, below) apart
      by other there apart (inr same) (inl one) = absurd (apart (same ∙ one))
      by other there apart (inr same) (inr before) = subst (IsBefore texts o) (sym same) before
