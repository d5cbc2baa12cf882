-- What the steps tell of the tables. The steps are listed from the last to the first.
use Rattle.std.proofs.Common.{◌≡◌, ℕ, zero, suc, ◌<◌, ◌≤◌, Bool, true, false, true≢false, List, [], ◌∷◌, ◌++◌, length, reverse, get_or, slice_get, Option, None, Some, IsSome, if◌then◌else◌, nat_eq, refl, sym, ap, subst, ◌∙◌, arith, eq-eqb, bytes_eq}
use Rattle.std.specs.Option.{MatchOption}
use borrow.Author.Tests.{eqb-true}
use Rattle.std.proofs.lemmas.Bool.{false_from_ne_true}
use Rattle.std.proofs.lemmas.Option.{none-some}
use Rattle.std.proofs.lemmas.List.{length-reverse, reverse-append, get_or_append_left}
use Rattle.c_scope.specs.declared.step.Declaration.{Declaration}
use Rattle.c_scope.specs.declared.step.Step.{Step}
use Rattle.c_scope.specs.declared.step.Step.TheVariants.{Enter, Declare}
use Rattle.c_scope.specs.Names.{Lacks, AreDistinct}
use Rattle.c_scope.specs.Tables.{look_up_first, innermost, declared}
use Rattle.c_scope.specs.History.{IsBefore, start_of, last_place, tables_of, IsHistory}
use Rattle.c_scope.proofs.NameLemmas.{bytes_same}
use Rattle.c_scope.proofs.TableLemmas.{length-declared, first-other, first-some, innermost-same, innermost-other}

module _ {X : Type 0} where
  pub reverse-push : (xs : List X) (x : X) → reverse (xs ++ x ∷ []) ≡ x ∷ reverse xs
  reverse-push xs x = reverse-append xs (x ∷ [])

  pub reverse-cons : (x : X) (xs : List X) → reverse (x ∷ xs) ≡ reverse xs ++ x ∷ []
  reverse-cons x xs = reverse-append (x ∷ []) xs

  slice_get-last : (xs : List X) (x : X) → slice_get (xs ++ x ∷ []) (length xs) ≡ Some x
  slice_get-last [] x = refl
  slice_get-last (y ∷ ys) x = slice_get-last ys x

  slice_get-left : (xs ys : List X) (i : ℕ) (x : X) → slice_get xs i ≡ Some x → slice_get (xs ++ ys) i ≡ Some x
  slice_get-left [] ys i x at = absurd (none_some at)
    where
      none_some : None ≡ Some x → ⊥
      none_some e = none-some x e
  slice_get-left (y ∷ xs) ys zero x at = at
  slice_get-left (y ∷ xs) ys (suc i) x at = slice_get-left xs ys i x at

at_if : (b : Bool) (start here : ℕ) (place : Option ℕ) → here < start → IsBefore start place → IsBefore start (if b then Some here else place)
at_if true start here place h before = h
at_if false start here place h before = before

later : (start end : ℕ) (place : Option ℕ) → start ≤ end → IsBefore start place → IsBefore end place
later start end None h before = tt
later start end (Some place) h before = omega arith

module _ {T : Type 0} where
  pub start_within : (steps : List (Step T)) → start_of steps ≤ length steps
  start_within [] = omega arith
  start_within (Enter outer ∷ steps) = omega arith
  start_within (Declare d ∷ steps) = omega (arith, start_within steps)

  -- there is always a table
  pub some_table : (texts : List (List ℕ)) (steps : List (Step T)) → 0 < length (tables_of texts steps)
  some_table texts [] = omega arith
  some_table texts (Enter outer ∷ steps) = omega arith
  some_table texts (Declare d ∷ steps) = omega (arith, length-declared (tables_of texts steps) (get_or texts d.name []) d.value, some_table texts steps)

  -- two tables where one was entered
  pub nested : (texts : List (List ℕ)) (steps : List (Step T)) → (0 < start_of steps → 1 < length (tables_of texts steps)) × (1 < length (tables_of texts steps) → 0 < start_of steps)
  nested texts [] = (λ h. absurd (omega arith), λ h. absurd (omega arith))
  nested texts (Enter outer ∷ steps) = (λ h. omega (arith, some_table texts steps), λ h. omega arith)
  nested texts (Declare d ∷ steps) =
      let l = length-declared (tables_of texts steps) (get_or texts d.name []) d.value in
      (λ h. let n = (nested texts steps).0 h in omega (arith, l, n), λ h. (nested texts steps).1 (omega (arith, l)))

  pub last_within : (steps : List (Step T)) (name : ℕ) → IsBefore (length steps) (last_place steps name)
  last_within [] name = tt
  last_within (Enter outer ∷ steps) name = later (length steps) (suc (length steps)) (last_place steps name) (omega arith) (last_within steps name)
  last_within (Declare d ∷ steps) name = at_if (nat_eq d.name name) (suc (length steps)) (length steps) (last_place steps name) (omega arith) (later (length steps) (suc (length steps)) (last_place steps name) (omega arith) (last_within steps name))

  -- a name that the steps don't know yet
  pub last_none : (names : ℕ) (steps : List (Step T)) (name : ℕ) → IsHistory names steps → names ≤ name → last_place steps name ≡ None
  last_none names [] name history above = refl
  last_none names (Enter outer ∷ steps) name history above = last_none names steps name history.1 above
  last_none names (Declare d ∷ steps) name history above = by (nat_eq d.name name) refl (last_none names steps name history.3 above)
    where
      by : (b : Bool) → nat_eq d.name name ≡ b → last_place steps name ≡ None → (if b then Some (length steps) else last_place steps name) ≡ None
      by true e rest = let same = eqb-true d.name name e in absurd (omega (arith, history.0))
      by false e rest = rest

  -- more names change nothing
  pub history_more : (names more : ℕ) (steps : List (Step T)) → names ≤ more → IsHistory names steps → IsHistory more steps
  history_more names more [] h history = tt
  history_more names more (Enter outer ∷ steps) h history = (history.0, history_more names more steps h history.1)
  history_more names more (Declare d ∷ steps) h history = (omega (arith, history.0), history.1, history.2, history_more names more steps h history.3)

  pub tables_more : (texts : List (List ℕ)) (text : List ℕ) (steps : List (Step T)) → IsHistory (length texts) steps → tables_of (texts ++ text ∷ []) steps ≡ tables_of texts steps
  tables_more texts text [] history = refl
  tables_more texts text (Enter outer ∷ steps) history = ap (λ ts. [] ∷ ts) (tables_more texts text steps history.1)
  tables_more texts text (Declare d ∷ steps) history =
      ap (λ ts. declared ts (get_or (texts ++ text ∷ []) d.name []) d.value) (tables_more texts text steps history.3)
      ∙ ap (λ n. declared (tables_of texts steps) n d.value) (get_or_append_left texts (text ∷ []) [] d.name history.0)

  -- a text that is no name is declared nowhere
  pub nowhere : (texts : List (List ℕ)) (text : List ℕ) (steps : List (Step T)) → Lacks texts text → IsHistory (length texts) steps → (look_up_first (tables_of texts steps) text ≡ None) × (innermost (tables_of texts steps) text ≡ None)
  nowhere texts text [] lacks history = (refl, refl)
  nowhere texts text (Enter outer ∷ steps) lacks history = (refl, (nowhere texts text steps lacks history.1).1)
  nowhere texts text (Declare d ∷ steps) lacks history =
      let apart : bytes_eq text (get_or texts d.name []) ≡ false = false_from_ne_true _ (λ e. lacks d.name (record { within = history.0; is = sym (bytes_same text (get_or texts d.name []) e) })) in
      let rest = nowhere texts text steps lacks history.3 in (
        first-other (tables_of texts steps) (get_or texts d.name []) d.value text apart ∙ rest.0,
        innermost-other (tables_of texts steps) (get_or texts d.name []) d.value text apart ∙ rest.1,
      )

apart : (texts : List (List ℕ)) → AreDistinct texts → (name : ℕ) → name < length texts → (other : ℕ) → other < length texts → nat_eq other name ≡ false → bytes_eq (get_or texts name []) (get_or texts other []) ≡ false
apart texts distinct name within other h e = false_from_ne_true _ (λ s. let same = distinct other name h within (sym (bytes_same (get_or texts name []) (get_or texts other []) s)) in true≢false (sym (eq-eqb other name same) ∙ e))

module _ {T : Type 0} (texts : List (List ℕ)) (distinct : AreDistinct texts) (name : ℕ) (within : name < length texts) where
  -- the innermost table has a name where its last declaration is no earlier than the table
  pub first_absent : (steps : List (Step T)) → IsHistory (length texts) steps → IsBefore (start_of steps) (last_place steps name) → look_up_first (tables_of texts steps) (get_or texts name []) ≡ None
  first_absent [] history before = refl
  first_absent (Enter outer ∷ steps) history before = refl
  first_absent (Declare d ∷ steps) history before = by (nat_eq d.name name) refl before (first_absent steps history.3)
    where
      by : (b : Bool) → nat_eq d.name name ≡ b → IsBefore (start_of steps) (if b then Some (length steps) else last_place steps name) → (IsBefore (start_of steps) (last_place steps name) → look_up_first (tables_of texts steps) (get_or texts name []) ≡ None)
          → look_up_first (declared (tables_of texts steps) (get_or texts d.name []) d.value) (get_or texts name []) ≡ None
      by true e before rest = absurd (omega (arith, before, start_within steps))
      by false e before rest = first-other (tables_of texts steps) (get_or texts d.name []) d.value (get_or texts name []) (apart texts distinct name within d.name history.0 e) ∙ rest before

  pub first_present : (steps : List (Step T)) → IsHistory (length texts) steps → (IsBefore (start_of steps) (last_place steps name) → ⊥) → IsSome (look_up_first (tables_of texts steps) (get_or texts name []))
  first_present [] history not_before = absurd (not_before tt)
  first_present (Enter outer ∷ steps) history not_before = absurd (not_before (last_within_next steps))
    where
      last_within_next : (steps : List (Step T)) → IsBefore (suc (length steps)) (last_place steps name)
      last_within_next steps = later (length steps) (suc (length steps)) (last_place steps name) (omega arith) (last_within steps name)
  first_present (Declare d ∷ steps) history not_before = by (nat_eq d.name name) refl not_before (first_present steps history.3)
    where
      by : (b : Bool) → nat_eq d.name name ≡ b → (IsBefore (start_of steps) (if b then Some (length steps) else last_place steps name) → ⊥)
          → ((IsBefore (start_of steps) (last_place steps name) → ⊥) → IsSome (look_up_first (tables_of texts steps) (get_or texts name [])))
          → IsSome (look_up_first (declared (tables_of texts steps) (get_or texts d.name []) d.value) (get_or texts name []))
      by true e not_before rest =
          let same : d.name ≡ name = eqb-true d.name name e in
          subst (λ n. IsSome (look_up_first (declared (tables_of texts steps) (get_or texts d.name []) d.value) (get_or texts n []))) same (first-some (tables_of texts steps) (get_or texts d.name []) d.value (some_table texts steps))
      by false e not_before rest = subst IsSome (sym (first-other (tables_of texts steps) (get_or texts d.name []) d.value (get_or texts name []) (apart texts distinct name within d.name history.0 e))) (rest not_before)

  -- and a name stands for the value of its last declaration
  pub record Finds (steps : List (Step T)) (place : ℕ) : Type 0 where
    pub declaration : Declaration T
    pub at : slice_get (reverse steps) place ≡ Some (Declare declaration)
    pub value : innermost (tables_of texts steps) (get_or texts name []) ≡ Some declaration.value

  further : (step : Step T) (steps : List (Step T)) (place : ℕ) (declaration : Declaration T) → slice_get (reverse steps) place ≡ Some (Declare declaration) → slice_get (reverse (step ∷ steps)) place ≡ Some (Declare declaration)
  further step steps place declaration at = ap (λ xs. slice_get xs place) (reverse-cons step steps) ∙ slice_get-left (reverse steps) (step ∷ []) place (Declare declaration) at

  pub found : (steps : List (Step T)) → IsHistory (length texts) steps → MatchOption (last_place steps name) (innermost (tables_of texts steps) (get_or texts name []) ≡ None) (Finds steps)
  found [] history = refl
  found (Enter outer ∷ steps) history = by (last_place steps name) (found steps history.1)
    where
      by : (place : Option ℕ) → MatchOption place (innermost (tables_of texts steps) (get_or texts name []) ≡ None) (Finds steps) → MatchOption place (innermost (tables_of texts (Enter outer ∷ steps)) (get_or texts name []) ≡ None) (Finds (Enter outer ∷ steps))
      by None none = none
      by (Some place) some = record { declaration = some.declaration; at = further (Enter outer) steps place some.declaration some.at; value = some.value }
  found (Declare d ∷ steps) history = by (nat_eq d.name name) refl (last_place steps name) (found steps history.3)
    where
      now : List (List (List ℕ × T))
      now = declared (tables_of texts steps) (get_or texts d.name []) d.value

      other : nat_eq d.name name ≡ false → innermost now (get_or texts name []) ≡ innermost (tables_of texts steps) (get_or texts name [])
      other e = innermost-other (tables_of texts steps) (get_or texts d.name []) d.value (get_or texts name []) (apart texts distinct name within d.name history.0 e)

      by : (b : Bool) → nat_eq d.name name ≡ b → (place : Option ℕ) → MatchOption place (innermost (tables_of texts steps) (get_or texts name []) ≡ None) (Finds steps) → MatchOption (if b then Some (length steps) else place) (innermost now (get_or texts name []) ≡ None) (Finds (Declare d ∷ steps))
      by true e place rest =
          let same : d.name ≡ name = eqb-true d.name name e in
          let before : IsBefore (start_of steps) (last_place steps name) = subst (λ n. IsBefore (start_of steps) (last_place steps n)) same history.2 in
          let none = first_absent steps history.3 before in
          record {
            declaration = d;
            at = ap (λ xs. slice_get xs (length steps)) (reverse-cons (Declare d) steps) ∙ ap (slice_get (reverse steps ++ Declare d ∷ [])) (sym (length-reverse steps)) ∙ slice_get-last (reverse steps) (Declare d);
            value = ap (λ n. innermost (declared (tables_of texts steps) (get_or texts n []) d.value) (get_or texts name [])) same ∙ innermost-same (tables_of texts steps) (get_or texts name []) d.value (some_table texts steps) none;
          }
      by false e None none = other e ∙ none
      by false e (Some place) some =
          record { declaration = some.declaration; at = further (Declare d) steps place some.declaration some.at; value = other e ∙ some.value }
