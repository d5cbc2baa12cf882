-- How each call keeps the map of names and the steps in accord.
use Rattle.std.proofs.Common.{◌≡◌, ◌≢◌, ℕ, ◌<◌, ◌≤◌, ◌⊎◌, inl, inr, true, false, true≢false, List, [], ◌∷◌, ◌++◌, set, length, get_or, slice_get, reverse, IsSome, is_some, is_none, not, Result, Ok, Err, OnErr, Option, None, Some, String, if◌then◌else◌, nat_eq, refl, sym, ap, subst, ◌∙◌, arith, eq-eqb, length-append}
use Rattle.std.proofs.lemmas.List.{get_or_append_left, get_or-set_same, get_or-set_other, length-set, length-reverse, reverse-reverse}
use Rattle.std.proofs.lemmas.Option.{slice_get_within, get_or_from_slice_get}
use borrow.Author.Tests.{eqb-true}
use Rattle.std.proofs.lemmas.Bool.{false_from_ne_true, cases_eq, cases_lt}
use Rattle.c_scope.specs.declared.step.Declaration.{Declaration}
use Rattle.c_scope.specs.declared.step.Step.{Step}
use Rattle.c_scope.specs.declared.step.Step.TheVariants.{Enter, Declare}
use Rattle.c_scope.specs.Names.{texts_of, places_of, IsNumber, Lacks, AreDistinct, HasName}
use Rattle.c_scope.specs.History.{IsBefore, start_of, last_place, tables_of, AreKept}
use Rattle.std.specs.Option.{MatchOption}
use Rattle.c_scope.specs.Tables.{look_up_first, innermost}
use Rattle.c_scope.proofs.HistoryLemmas.{last_none, history_more, tables_more, first_absent, first_present, found, Finds, start_within, reverse-push}

module _ {X : Type 0} where
  get_or-last : (xs : List X) (x d : X) → get_or (xs ++ x ∷ []) (length xs) d ≡ x
  get_or-last [] x d = refl
  get_or-last (y ∷ ys) x d = get_or-last ys x d

-- a text that was no name goes last
distinct-push : (texts : List (List ℕ)) (text : List ℕ) → Lacks texts text → AreDistinct texts → AreDistinct (texts ++ text ∷ [])
distinct-push texts text lacks distinct a b ha hb same = by (cases_lt a (length texts)) (cases_lt b (length texts))
  where
    left : (i : ℕ) → i < length texts → get_or (texts ++ text ∷ []) i [] ≡ get_or texts i []
    left i h = get_or_append_left texts (text ∷ []) [] i h

    last : (i : ℕ) → i < length (texts ++ text ∷ []) → length texts ≤ i → i ≡ length texts
    last i h above = omega (arith, length-append texts (text ∷ []))

    at_last : (i : ℕ) → i ≡ length texts → get_or (texts ++ text ∷ []) i [] ≡ text
    at_last i e = ap (λ n. get_or (texts ++ text ∷ []) n []) e ∙ get_or-last texts text []

    by : (a < length texts) ⊎ (length texts ≤ a) → (b < length texts) ⊎ (length texts ≤ b) → a ≡ b
    by (inl la) (inl lb) = distinct a b la lb (sym (left a la) ∙ same ∙ left b lb)
    by (inl la) (inr lb) = absurd (lacks a (record { within = la; is = sym (left a la) ∙ same ∙ at_last b (last b hb lb) }))
    by (inr la) (inl lb) = absurd (lacks b (record { within = lb; is = sym (left b lb) ∙ sym same ∙ at_last a (last a ha la) }))
    by (inr la) (inr lb) = last a ha la ∙ sym (last b hb lb)

-- a write of one name's place
written : (texts : List (List ℕ)) (places : List (Option ℕ)) (name : ℕ) (place : Option ℕ) (f : ℕ → Option ℕ) → length places ≡ length texts → name < length texts → place ≡ f name
    → ((other : ℕ) → other < length texts → other ≢ name → get_or places other None ≡ f other) → (other : ℕ) → other < length texts → get_or (set places name place) other None ≡ f other
written texts places name place f long within is others other h = by (cases_eq other name)
  where
    by : (other ≡ name) ⊎ (other ≡ name → ⊥) → get_or (set places name place) other None ≡ f other
    by (inl same) = ap (λ n. get_or (set places name place) n None) same ∙ get_or-set_same places name place None (omega (arith, long)) ∙ is ∙ ap f (sym same)
    by (inr apart) = get_or-set_other places name other place None apart ∙ others other h apart

not_same : (a b : ℕ) → (b ≡ a → ⊥) → nat_eq a b ≡ false
not_same a b apart = false_from_ne_true _ (λ e. apart (sym (eqb-true a b e)))

module _ {T : Type 0} where
  -- one more name without a declaration
  kept-push : (texts : List (List ℕ)) (places : List (Option ℕ)) (text : List ℕ) (steps : List (Step T)) → Lacks texts text → AreKept texts places steps → AreKept (texts ++ text ∷ []) (places ++ None ∷ []) steps
  kept-push texts places text steps lacks kept = record {
    distinct = distinct-push texts text lacks kept.distinct;
    history = history_more (length texts) (length (texts ++ text ∷ [])) steps (omega (arith, length-append texts (text ∷ []))) kept.history;
    long = omega (arith, length-append texts (text ∷ []), length-append places (None ∷ []), kept.long);
    latest = λ name h. by name h (cases_lt name (length texts));
  }
    where
      by : (name : ℕ) → name < length (texts ++ text ∷ []) → (name < length texts) ⊎ (length texts ≤ name) → get_or (places ++ None ∷ []) name None ≡ last_place steps name
      by name h (inl here) = get_or_append_left places (None ∷ []) None name (omega (arith, kept.long)) ∙ kept.latest name here
      by name h (inr last) =
          let is : name ≡ length places = omega (arith, kept.long, length-append texts (text ∷ [])) in
          ap (λ n. get_or (places ++ None ∷ []) n None) is ∙ get_or-last places None None ∙ sym (last_none (length texts) steps name kept.history last)

  pub kept-add : {A : Type 0} (old new : List (String A × Option ℕ)) (text : List ℕ) (steps : List (Step T)) → HasName old text new → AreKept (texts_of old) (places_of old) steps
      → AreKept (texts_of new) (places_of new) steps × (tables_of (texts_of new) steps ≡ tables_of (texts_of old) steps)
  kept-add old new text steps (inl same) kept = (subst (λ es. AreKept (texts_of es) (places_of es) steps) (sym same) kept, ap (λ es. tables_of (texts_of es) steps) same)
  kept-add old new text steps (inr more) kept = (
    subst (λ ts. AreKept ts (places_of new) steps) (sym more.1) (subst (λ ps. AreKept (texts_of old ++ text ∷ []) ps steps) (sym more.2) (kept-push (texts_of old) (places_of old) text steps more.0 kept)),
    ap (λ ts. tables_of ts steps) more.1 ∙ tables_more (texts_of old) text steps kept.history,
  )

  module _ (texts : List (List ℕ)) (places : List (Option ℕ)) where
    pub kept-enter : (steps : List (Step T)) (outer : ℕ) → outer ≡ start_of steps → AreKept texts places steps → AreKept texts places (Enter outer ∷ steps)
    kept-enter steps outer is kept = record { distinct = kept.distinct; history = (is, kept.history); long = kept.long; latest = kept.latest }

    pub kept-leave : (steps : List (Step T)) (outer : ℕ) → AreKept texts places (Enter outer ∷ steps) → AreKept texts places steps
    kept-leave steps outer kept = record { distinct = kept.distinct; history = kept.history.1; long = kept.long; latest = kept.latest }

    pub kept-declare : (steps : List (Step T)) (d : Declaration T) → d.name < length texts → d.hides ≡ get_or places d.name None → IsBefore (start_of steps) d.hides
        → AreKept texts places steps → AreKept texts (set places d.name (Some (length steps))) (Declare d ∷ steps)
    kept-declare steps d within hides before kept =
        let is : d.hides ≡ last_place steps d.name = hides ∙ kept.latest d.name within in
        record {
          distinct = kept.distinct;
          history = (within, is, subst (IsBefore (start_of steps)) is before, kept.history);
          long = length-set places d.name (Some (length steps)) ∙ kept.long;
          latest = written texts places d.name (Some (length steps)) (last_place (Declare d ∷ steps)) kept.long within
              (sym (ap (λ b. if b then Some (length steps) else last_place steps d.name) (eq-eqb d.name d.name refl)))
              (λ other h apart. kept.latest other h ∙ sym (ap (λ b. if b then Some (length steps) else last_place steps other) (not_same d.name other apart)));
        }

    pub kept-undo : (steps : List (Step T)) (d : Declaration T) → AreKept texts places (Declare d ∷ steps) → AreKept texts (set places d.name d.hides) steps
    kept-undo steps d kept = record {
      distinct = kept.distinct;
      history = kept.history.3;
      long = length-set places d.name d.hides ∙ kept.long;
      latest = written texts places d.name d.hides (last_place steps) kept.long kept.history.0 kept.history.1
          (λ other h apart. kept.latest other h ∙ ap (λ b. if b then Some (length steps) else last_place steps other) (not_same d.name other apart));
    }

-- what the place of a name's innermost declaration tells
module _ {T : Type 0} {texts : List (List ℕ)} {places : List (Option ℕ)} {steps : List (Step T)} (kept : AreKept texts places steps)
    (text : List ℕ) (name : ℕ) (number : IsNumber texts text name) (place : Option ℕ) (at : place ≡ get_or places name None) where
  last : place ≡ last_place steps name
  last = at ∙ kept.latest name number.within

  pub first-has : (IsBefore (start_of steps) place → ⊥) → IsSome (look_up_first (tables_of texts steps) text)
  first-has not_before = subst (λ t. IsSome (look_up_first (tables_of texts steps) t)) number.is (first_present texts kept.distinct name number.within steps kept.history (λ before. not_before (subst (IsBefore (start_of steps)) (sym last) before)))

  pub first-lacks : IsBefore (start_of steps) place → look_up_first (tables_of texts steps) text ≡ None
  first-lacks before = subst (λ t. look_up_first (tables_of texts steps) t ≡ None) number.is (first_absent texts kept.distinct name number.within steps kept.history (subst (IsBefore (start_of steps)) last before))

  pub finds : MatchOption place (innermost (tables_of texts steps) text ≡ None) (λ p. (d : Declaration T) × (slice_get (reverse steps) p ≡ Some (Declare d)) × (innermost (tables_of texts steps) text ≡ Some d.value))
  finds = subst (λ p. MatchOption p (innermost (tables_of texts steps) text ≡ None) (λ q. (d : Declaration T) × (slice_get (reverse steps) q ≡ Some (Declare d)) × (innermost (tables_of texts steps) text ≡ Some d.value))) (sym last) (by (last_place steps name) (found texts kept.distinct name number.within steps kept.history))
    where
      by : (p : Option ℕ) → MatchOption p (innermost (tables_of texts steps) (get_or texts name []) ≡ None) (Finds texts kept.distinct name number.within steps) → MatchOption p (innermost (tables_of texts steps) text ≡ None) (λ q. (d : Declaration T) × (slice_get (reverse steps) q ≡ Some (Declare d)) × (innermost (tables_of texts steps) text ≡ Some d.value))
      by None none = subst (λ t. innermost (tables_of texts steps) t ≡ None) number.is none
      by (Some p) some = (some.declaration, some.at, subst (λ t. innermost (tables_of texts steps) t ≡ Some some.declaration.value) number.is some.value)

-- where the innermost table has no declaration, the last step is none
pub no_declaration : {T : Type 0} (old new : List (Step T)) (step : Step T) (d : Declaration T) → old ≡ new ++ step ∷ [] → step ≡ Declare d → length old ≤ start_of (reverse old) → ⊥
no_declaration old new step d is last all =
    let steps : reverse old ≡ Declare d ∷ reverse new = ap reverse is ∙ reverse-push new step ∙ ap (λ s. s ∷ reverse new) last in
    let start : start_of (reverse old) ≡ start_of (reverse new) = ap start_of steps in
    absurd (omega (arith, start, start_within (reverse new), length-reverse new, ap length is, length-append new (step ∷ [])))

-- the value of a declaration
abbrev pub declared_value : {T : Type 0} → Step T → Option T
declared_value (Enter outer) = None
declared_value (Declare d) = Some d.value

-- what is at a place of the steps
pub stands_within : {T : Type 0} (steps : List (Step T)) (place : ℕ) (d : Declaration T) → slice_get (reverse (reverse steps)) place ≡ Some (Declare d) → place < length steps
stands_within steps place d at = slice_get_within steps place (Declare d) (subst (λ xs. slice_get xs place ≡ Some (Declare d)) (reverse-reverse steps) at)

pub stands_value : {T : Type 0} (steps : List (Step T)) (place : ℕ) (d : Declaration T) (step : Step T) → slice_get (reverse (reverse steps)) place ≡ Some (Declare d) → step ≡ get_or steps place step → declared_value step ≡ Some d.value
stands_value steps place d step at is = ap declared_value (is ∙ get_or_from_slice_get steps place (Declare d) step (subst (λ xs. slice_get xs place ≡ Some (Declare d)) (reverse-reverse steps) at))

-- what holds anyhow holds after a fault
pub after_fault : {A E : Type 0} (r : Result A E) (P : Type 0) → P → OnErr r P
after_fault (Ok x) P h = tt
after_fault (Err e) P h = h

-- a name that is there is no name that isn't
pub none_some : {T : Type 0} (o p : Option T) → o ≡ p → o ≡ None → IsSome p → ⊥
none_some o p is none some = true≢false (sym some ∙ ap is_some (sym is ∙ none))

pub told_some : {T : Type 0} (o p : Option T) → o ≡ p → IsSome o → false ≡ is_none p
told_some o p is some = ap not (sym some) ∙ ap is_none is

pub told_none : {T : Type 0} (o p : Option T) → o ≡ p → o ≡ None → true ≡ is_none p
told_none o p is none = ap is_none (sym none ∙ is)
