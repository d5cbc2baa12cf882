-- The newest values that a stop takes, by their types, and what is left under them.
use Rattle.std.proofs.Common.{ℕ, List, [], ◌∷◌, ◌++◌, map, take, drop, reverse, length, refl, sym, subst}
use Rattle.std.proofs.lemmas.List.{reverse-append}
use Rattle.c_ints.specs.declared.kind.Kind.{Kind}
use Rattle.c_tree.specs.BareExpr.{Bytes, BareType, Integer, Handle, Thread}
use Rattle.c_tree.specs.BareDef.{BareBinding}
use Rattle.c_semantics.specs.Values.{Value}
use Rattle.c_semantics.specs.Threads.{bind}
use Rattle.typed_trees.specs.ValueTypes.{HasType, HaveTypes, ScopeHas}
use Rattle.typed_trees.specs.PieceTypes.{Pops, PopsPrinted, Stack}

module _ (tags : List Bytes) where
  -- what is left under the newest n values
  pub record Left (then_are : Stack → Type 0) (n : ℕ) (values : List Value) : Type 0 where
    pub under : Stack
    pub holds : then_are under
    pub have : HaveTypes tags under (drop n values)

  pub record Taken (ts : List BareType) (then_are : Stack → Type 0) (values : List Value) : Type 0 where
    pub taken : HaveTypes tags ts (take (length ts) values)
    pub left : Left then_are (length ts) values

  pub taken_of : (ts : List BareType) (stack : Stack) (then_are : Stack → Type 0) (values : List Value) → Pops ts stack then_are
      → HaveTypes tags stack values → Taken ts then_are values
  taken_of [] stack then_are values p h = record { taken = tt; left = record { under = stack; holds = p; have = h } }
  taken_of (t ∷ ts) [] then_are values p h = absurd p
  taken_of (t ∷ ts) (u ∷ stack) then_are [] p h = absurd h
  taken_of (t ∷ ts) (u ∷ stack) then_are (v ∷ values) p h =
      let rest = taken_of ts stack then_are values p.1 h.1 in
      record {
        taken = (subst (λ x. HasType tags x v) p.0 h.0, rest.taken);
        left = record { under = rest.left.under; holds = rest.left.holds; have = rest.left.have };
      }

  pub printed_left : (ks : List Kind) (stack : Stack) (then_are : Stack → Type 0) (values : List Value) → PopsPrinted ks stack then_are
      → HaveTypes tags stack values → Left then_are (length ks) values
  printed_left [] stack then_are values p h = record { under = stack; holds = p; have = h }
  printed_left (k ∷ ks) [] then_are values p h = absurd p
  printed_left (k ∷ ks) (Integer j ∷ stack) then_are [] p h = absurd h
  printed_left (k ∷ ks) (Integer j ∷ stack) then_are (v ∷ values) p h =
      let rest = printed_left ks stack then_are values p.1 h.1 in
      record { under = rest.under; holds = rest.holds; have = rest.have }
  printed_left (k ∷ ks) (Handle tag ∷ stack) then_are values p h = absurd p
  printed_left (k ∷ ks) (Thread ∷ stack) then_are values p h = absurd p

  both_have : (ts us : List BareType) (vs ws : List Value) → HaveTypes tags ts vs → HaveTypes tags us ws → HaveTypes tags (ts ++ us) (vs ++ ws)
  both_have [] us [] ws g h = h
  both_have [] us (v ∷ vs) ws g h = absurd g
  both_have (t ∷ ts) us [] ws g h = absurd g
  both_have (t ∷ ts) us (v ∷ vs) ws g h = (g.0, both_have ts us vs ws g.1 h)

  pub reversed_have : (ts : List BareType) (vs : List Value) → HaveTypes tags ts vs → HaveTypes tags (reverse ts) (reverse vs)
  reversed_have [] [] h = tt
  reversed_have [] (v ∷ vs) h = absurd h
  reversed_have (t ∷ ts) [] h = absurd h
  reversed_have (t ∷ ts) (v ∷ vs) h =
      subst (λ us. HaveTypes tags us (reverse (v ∷ vs))) (sym (reverse-append (t ∷ []) ts))
      (subst (HaveTypes tags (reverse ts ++ t ∷ [])) (sym (reverse-append (v ∷ []) vs))
      (both_have (reverse ts) (t ∷ []) (reverse vs) (v ∷ []) (reversed_have ts vs h.1) (h.0, tt)))

  -- the parameters of a function with arguments of their types
  pub bound_have : (ps : List BareBinding) (vs : List Value) → HaveTypes tags (map (λ p. p.declared) ps) vs → ScopeHas tags ps (bind ps vs)
  bound_have [] vs h = tt
  bound_have (p ∷ ps) [] h = absurd h
  bound_have (p ∷ ps) (v ∷ vs) h = (refl, h.0, bound_have ps vs h.1)
