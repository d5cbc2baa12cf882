-- The words of variables: where each is, and what a store and a declaration make of them.
use Rattle.std.proofs.Common.{◌≡◌, ℕ, zero, suc, ◌<◌, ◌≤◌, ◌≢◌, Bool, true, false, IsTrue, cond, List, [], ◌∷◌, ◌++◌, length, slice_get, slice_set, Some, None, find, bytes_eq, refl, sym, ap, subst, ◌∙◌, arith}
use Rattle.std.proofs.lemmas.Option.{slice_get_within}
use Rattle.std.specs.Prelude.{option_map, if◌then◌else◌}
use Rattle.std.specs.Option.{is_some, option_or}
use Rattle.c_tree.specs.BareExpr.{Bytes}
use Rattle.c_tree.specs.BareDef.{BareBinding}
use Rattle.c_semantics.specs.Texts.{bound}
use Rattle.c_semantics.specs.Values.{Value}
use Rattle.c_semantics.specs.Pieces.{Variable, Scopes}
use Rattle.c_semantics.specs.Evaluation as ev
use Rattle.c_semantics.specs.Evaluation.{look_up, stored, with_value}
use Rattle.typed_trees.specs.ValueTypes.{Environment, ScopeHas, ScopesHave, in_scope}
use Rattle.typed_trees.proofs.ValuesOfTypes.{never}
use Rattle.bytecode.specs.Words.{Naming, word_of}
use Rattle.tree_code.specs.Ranges.{Ranged}
use Rattle.tree_code.specs.Code.{slot, slot_in}
use Rattle.tree_code.specs.CodeLaws.{Holds, variables_in}

-- ---- lists

got_set : (xs : List ℕ) (i : ℕ) (w : ℕ) → i < length xs → slice_get (slice_set xs i w) i ≡ Some w
got_set [] i w h = absurd (omega arith)
got_set (x ∷ xs) zero w h = refl
got_set (x ∷ xs) (suc i) w h = got_set xs i w (omega arith)

got_set_other : (xs : List ℕ) (i j : ℕ) (w : ℕ) → j ≢ i → slice_get (slice_set xs i w) j ≡ slice_get xs j
got_set_other [] i j w h = refl
got_set_other (x ∷ xs) zero zero w h = absurd (h refl)
got_set_other (x ∷ xs) zero (suc j) w h = refl
got_set_other (x ∷ xs) (suc i) zero w h = refl
got_set_other (x ∷ xs) (suc i) (suc j) w h = got_set_other xs i j w (λ e. h (ap suc e))

-- ---- all variables in one list

scopes_together : (tags : List Bytes) (bs cs : List BareBinding) (vs ws : List Variable) → ScopeHas tags bs vs → ScopeHas tags cs ws
    → ScopeHas tags (bs ++ cs) (vs ++ ws)
scopes_together tags [] cs [] ws h g = g
scopes_together tags [] cs (v ∷ vs) ws h g = absurd h
scopes_together tags (b ∷ bs) cs [] ws h g = absurd h
scopes_together tags (b ∷ bs) cs (v ∷ vs) ws h g = (h.0, h.1, scopes_together tags bs cs vs ws h.2 g)

all_have : (tags : List Bytes) (env : Environment) (scopes : Scopes) → ScopesHave tags env scopes
    → ScopeHas tags (in_scope env) (variables_in scopes)
all_have tags [] [] h = tt
all_have tags [] (vs ∷ scopes) h = absurd h
all_have tags (bs ∷ env) [] h = absurd h
all_have tags (bs ∷ env) (vs ∷ scopes) h =
    scopes_together tags bs (in_scope env) vs (variables_in scopes) h.0 (all_have tags env scopes h.1)

as_many : (tags : List Bytes) (bs : List BareBinding) (vs : List Variable) → ScopeHas tags bs vs → length bs ≡ length vs
as_many tags [] [] h = refl
as_many tags [] (v ∷ vs) h = absurd h
as_many tags (b ∷ bs) [] h = absurd h
as_many tags (b ∷ bs) (v ∷ vs) h = ap suc (as_many tags bs vs h.2)

pub as_many_variables : (tags : List Bytes) (env : Environment) (scopes : Scopes) → ScopesHave tags env scopes
    → length (in_scope env) ≡ length (variables_in scopes)
as_many_variables tags env scopes h = as_many tags (in_scope env) (variables_in scopes) (all_have tags env scopes h)

found_together : (vs ws : List Variable) (name : Bytes)
    → ev.in_scope (vs ++ ws) name ≡ option_or (ev.in_scope vs name) (ev.in_scope ws name)
found_together [] ws name = refl
found_together (v ∷ vs) ws name = by (bytes_eq name v.name) (found_together vs ws name)
  where
    by : (x : Bool) → ev.in_scope (vs ++ ws) name ≡ option_or (ev.in_scope vs name) (ev.in_scope ws name)
        → option_map (λ w. w.value) (cond x (Some v) (find (λ w. bytes_eq name w.name) (vs ++ ws)))
        ≡ option_or (option_map (λ w. w.value) (cond x (Some v) (find (λ w. bytes_eq name w.name) vs))) (ev.in_scope ws name)
    by true e = refl
    by false e = e

looked_up : (scopes : Scopes) (name : Bytes) → look_up scopes name ≡ ev.in_scope (variables_in scopes) name
looked_up [] name = refl
looked_up (vs ∷ scopes) name =
    ap (option_or (ev.in_scope vs name)) (looked_up scopes name) ∙ sym (found_together vs (variables_in scopes) name)

stored_here : (name : Bytes) (value : Value) (vs ws : List Variable) → is_some (ev.in_scope vs name) ≡ true
    → with_value name value vs ++ ws ≡ with_value name value (vs ++ ws)
stored_here name value [] ws e = absurd (never e)
stored_here name value (v ∷ vs) ws e = by (bytes_eq name v.name) e (stored_here name value vs ws)
  where
    by : (x : Bool) → is_some (option_map (λ w. w.value) (cond x (Some v) (find (λ w. bytes_eq name w.name) vs))) ≡ true
        → (is_some (ev.in_scope vs name) ≡ true → with_value name value vs ++ ws ≡ with_value name value (vs ++ ws))
        → (if x then record v { value = value } ∷ vs else v ∷ with_value name value vs) ++ ws
        ≡ (if x then record v { value = value } ∷ (vs ++ ws) else v ∷ with_value name value (vs ++ ws))
    by true e more = refl
    by false e more = ap (λ xs. v ∷ xs) (more e)

stored_later : (name : Bytes) (value : Value) (vs ws : List Variable) → is_some (ev.in_scope vs name) ≡ false
    → vs ++ with_value name value ws ≡ with_value name value (vs ++ ws)
stored_later name value [] ws e = refl
stored_later name value (v ∷ vs) ws e = by (bytes_eq name v.name) e (stored_later name value vs ws)
  where
    by : (x : Bool) → is_some (option_map (λ w. w.value) (cond x (Some v) (find (λ w. bytes_eq name w.name) vs))) ≡ false
        → (is_some (ev.in_scope vs name) ≡ false → vs ++ with_value name value ws ≡ with_value name value (vs ++ ws))
        → v ∷ (vs ++ with_value name value ws)
        ≡ (if x then record v { value = value } ∷ (vs ++ ws) else v ∷ with_value name value (vs ++ ws))
    by true e more = absurd (never (sym e))
    by false e more = ap (λ xs. v ∷ xs) (more e)

stored_together : (name : Bytes) (value : Value) (scopes : Scopes)
    → variables_in (stored name value scopes) ≡ with_value name value (variables_in scopes)
stored_together name value [] = refl
stored_together name value (vs ∷ scopes) =
    by (is_some (ev.in_scope vs name)) refl (stored_together name value scopes)
  where
    by : (x : Bool) → is_some (ev.in_scope vs name) ≡ x
        → variables_in (stored name value scopes) ≡ with_value name value (variables_in scopes)
        → variables_in (if x then with_value name value vs ∷ scopes else vs ∷ stored name value scopes)
        ≡ with_value name value (vs ++ variables_in scopes)
    by true e more = stored_here name value vs (variables_in scopes) e
    by false e more = ap (λ ws. vs ++ ws) more ∙ stored_later name value vs (variables_in scopes) e

-- ---- words of variables

module _ (names : Naming) where
  -- a variable's word
  pub record Found (locals : List ℕ) (n : ℕ) (v : Value) : Type 0 where
    pub there : slice_get locals n ≡ Some (word_of names v)
    pub ranged : Ranged v

  found_in : (tags : List Bytes) (bs : List BareBinding) (vs : List Variable) (locals : List ℕ) (name : Bytes) (value : Value)
      → ScopeHas tags bs vs → Holds names vs locals → ev.in_scope vs name ≡ Some value → Found locals (slot_in bs name) value
  found_in tags [] [] locals name value h g e = absurd (none e)
    where
      none : {v : Value} → None ≡ Some v → ⊥
      none e = cc
  found_in tags [] (v ∷ vs) locals name value h g e = absurd h
  found_in tags (b ∷ bs) [] locals name value h g e = absurd h
  found_in tags (b ∷ bs) (v ∷ vs) locals name value h g e =
      by (bytes_eq name b.name)
      (subst (λ n. option_map (λ w. w.value) (cond (bytes_eq name n) (Some v) (find (λ w. bytes_eq name w.name) vs)) ≡ Some value) h.0 e)
      (found_in tags bs vs locals name value h.2 g.2)
    where
      same : (u : Value) → Some u ≡ Some value → u ≡ value
      same u e = cc

      by : (x : Bool) → option_map (λ w. w.value) (cond x (Some v) (find (λ w. bytes_eq name w.name) vs)) ≡ Some value
          → (ev.in_scope vs name ≡ Some value → Found locals (slot_in bs name) value)
          → Found locals (if x then length bs else slot_in bs name) value
      by true e more =
          let is = same v.value e in
          record {
            there = ap (slice_get locals) (as_many tags bs vs h.2) ∙ g.0 ∙ ap (λ u. Some (word_of names u)) is;
            ranged = subst Ranged is g.1;
          }
      by false e more = more e

  pub found : (tags : List Bytes) (env : Environment) (scopes : Scopes) (locals : List ℕ) (name : Bytes) (value : Value)
      → ScopesHave tags env scopes → Holds names (variables_in scopes) locals → look_up scopes name ≡ Some value
      → Found locals (slot env name) value
  found tags env scopes locals name value h g e =
      found_in tags (in_scope env) (variables_in scopes) locals name value (all_have tags env scopes h) g (sym (looked_up scopes name) ∙ e)

  -- a change past all variables
  past : (vs : List Variable) (locals : List ℕ) (n w : ℕ) → length vs ≤ n → Holds names vs locals → Holds names vs (slice_set locals n w)
  past [] locals n w h g = tt
  past (v ∷ vs) locals n w h g =
      (got_set_other locals n (length vs) w (λ e. before e h) ∙ g.0, g.1, past vs locals n w (omega arith) g.2)
    where
      before : {a : ℕ} → a ≡ n → suc a ≤ n → ⊥
      before e l = omega arith

  slot_below : (bs : List BareBinding) (name : Bytes) → IsTrue (is_some (bound bs name)) → slot_in bs name < length bs
  slot_below [] name e = absurd (never e)
  slot_below (b ∷ bs) name e = by (bytes_eq name b.name) e (slot_below bs name)
    where
      by : (x : Bool) → IsTrue (is_some (cond x (Some b) (bound bs name))) → (IsTrue (is_some (bound bs name)) → slot_in bs name < length bs)
          → (if x then length bs else slot_in bs name) < suc (length bs)
      by true e more = omega arith
      by false e more = let h = more e in omega arith

  stored_in : (tags : List Bytes) (bs : List BareBinding) (vs : List Variable) (locals : List ℕ) (name : Bytes) (value : Value)
      → ScopeHas tags bs vs → IsTrue (is_some (bound bs name)) → Ranged value → Holds names vs locals
      → Holds names (with_value name value vs) (slice_set locals (slot_in bs name) (word_of names value))
  stored_in tags [] vs locals name value h e r g = absurd (never e)
  stored_in tags (b ∷ bs) [] locals name value h e r g = absurd h
  stored_in tags (b ∷ bs) (v ∷ vs) locals name value h e r g =
      by (bytes_eq name v.name) (ap (bytes_eq name) h.0) (stored_in tags bs vs locals name value h.2)
    where
      many : length bs ≡ length vs
      many = as_many tags bs vs h.2

      still : (ws : List Variable) → length (with_value name value ws) ≡ length ws
      still [] = refl
      still (w ∷ ws) = one (bytes_eq name w.name) (still ws)
        where
          one : (x : Bool) → length (with_value name value ws) ≡ length ws
              → length (if x then record w { value = value } ∷ ws else w ∷ with_value name value ws) ≡ suc (length ws)
          one true e = refl
          one false e = ap suc e

      by : (x : Bool) → x ≡ bytes_eq name b.name
          → (IsTrue (is_some (bound bs name)) → Ranged value → Holds names vs locals
          → Holds names (with_value name value vs) (slice_set locals (slot_in bs name) (word_of names value)))
          → Holds names (if x then record v { value = value } ∷ vs else v ∷ with_value name value vs)
          (slice_set locals (if bytes_eq name b.name then length bs else slot_in bs name) (word_of names value))
      by true is more =
          subst (λ n. Holds names (record v { value = value } ∷ vs) (slice_set locals n (word_of names value)))
          (sym many ∙ ap (λ x. if x then length bs else slot_in bs name) is) (
            got_set locals (length vs) (word_of names value) (slice_get_within locals (length vs) (word_of names v.value) g.0),
            r,
            past vs locals (length vs) (word_of names value) (omega arith) g.2,
          )
      by false is more =
          let there : IsTrue (is_some (bound bs name)) = subst (λ x. IsTrue (is_some (cond x (Some b) (bound bs name)))) (sym is) e in
          subst (λ n. Holds names (v ∷ with_value name value vs) (slice_set locals n (word_of names value)))
          (ap (λ x. if x then length bs else slot_in bs name) is) (
            ap (slice_get (slice_set locals (slot_in bs name) (word_of names value))) (still vs)
                ∙ got_set_other locals (slot_in bs name) (length vs) (word_of names value) (below (slot_below bs name there)) ∙ g.0,
            g.1,
            more there r g.2,
          )
        where
          below : {n : ℕ} → n < length bs → length vs ≢ n
          below l e = omega (arith, many, l, e)

  pub stored_holds : (tags : List Bytes) (env : Environment) (scopes : Scopes) (locals : List ℕ) (name : Bytes) (value : Value)
      → ScopesHave tags env scopes → IsTrue (is_some (bound (in_scope env) name)) → Ranged value → Holds names (variables_in scopes) locals
      → Holds names (variables_in (stored name value scopes)) (slice_set locals (slot env name) (word_of names value))
  stored_holds tags env scopes locals name value h e r g =
      subst (λ vs. Holds names vs (slice_set locals (slot env name) (word_of names value))) (sym (stored_together name value scopes))
      (stored_in tags (in_scope env) (variables_in scopes) locals name value (all_have tags env scopes h) e r g)

  -- a new variable
  new_holds : (vs : List Variable) (locals : List ℕ) (name : Bytes) (value : Value) → length vs < length locals → Ranged value
      → Holds names vs locals → Holds names (record { name = name; value = value } ∷ vs) (slice_set locals (length vs) (word_of names value))
  new_holds vs locals name value l r g =
      (got_set locals (length vs) (word_of names value) l, r, past vs locals (length vs) (word_of names value) (omega arith) g)

  pub declared_holds : (scopes : Scopes) (locals : List ℕ) (name : Bytes) (value : Value) → length (variables_in scopes) < length locals
      → Ranged value → Holds names (variables_in scopes) locals
      → Holds names (variables_in (ev.declared name value scopes)) (slice_set locals (length (variables_in scopes)) (word_of names value))
  declared_holds [] locals name value l r g = new_holds [] locals name value l r g
  declared_holds (vs ∷ scopes) locals name value l r g = new_holds (vs ++ variables_in scopes) locals name value l r g

  -- the end of a scope
  pub outer_hold : (vs ws : List Variable) (locals : List ℕ) → Holds names (vs ++ ws) locals → Holds names ws locals
  outer_hold [] ws locals g = g
  outer_hold (v ∷ vs) ws locals g = outer_hold vs ws locals g.2
