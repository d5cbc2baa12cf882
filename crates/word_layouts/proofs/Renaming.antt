-- A transform gives the same of values whose objects and threads are renamed, where the new names tell the objects apart.
use Rattle.std.proofs.Common.{◌≡◌, ℕ, zero, suc, ◌<◌, Bool, true, false, List, [], ◌∷◌, map, Option, Some, None, refl, sym, ap, subst, subst₂, ◌∙◌, arith}
use Rattle.std.specs.Prelude.{◌==◌, not, slice_index_or}
use Rattle.c_ints.specs.declared.operator.BinOp.{BinOp}
use Rattle.c_ints.specs.declared.operator.BinOp.TheVariants.{Add, Sub, Mul, Div, Rem, And, Or, Xor, Shl, Shr, Lt, Gt, Le, Ge, Eq, Ne}
use Rattle.c_ints.specs.declared.operator.SafeOp.{SafeOp}
use Rattle.c_ints.specs.declared.operator.UnOp.{UnOp}
use Rattle.std.specs.Option.{option_map, option_map_or}
use Rattle.c_ints.specs.declared.int.Int.{Int}
use Rattle.c_ints.specs.Arithmetic.{truth, binary_wrapped}
use Rattle.c_semantics.specs.Values.{Value, Number, Reference, Started, compared, int_of, is_true, same_object}
use Rattle.c_semantics.specs.Constants.{chosen, object_of, safe, wrapped, wrapped_unary}
use Rattle.constant_values.specs.Kinds.{converted_to_kind, zero_of_kind}
use Rattle.constant_values.specs.declared.kind.ValueKind.{ValueKind}
use Rattle.constant_values.specs.declared.kind.ValueKind.TheVariants as kind
use Rattle.versioned_structs.specs.declared.formula.Formula.{Formula, Formula-F}
use Rattle.versioned_structs.specs.declared.formula.Formula.TheFolds.{fold-roll-Formula, ind-Formula, map-Formula}
use Rattle.versioned_structs.specs.declared.formula.FormulaNode.{FormulaNode}
use Rattle.versioned_structs.specs.declared.formula.FormulaNode.TheVariants.{Constant, Old, Unary, Cast, Binary, Choice}
use Rattle.versioned_structs.specs.declared.transform.FieldChange.{FieldChange}
use Rattle.versioned_structs.specs.declared.transform.FieldChange.TheVariants.{Copied, Zero, Given}
use Rattle.versioned_structs.specs.Formulas.{node_value, value_in}
use Rattle.versioned_structs.specs.Transforms.{new_value, new_values}
use Rattle.bytecode.specs.Words.{Naming, Distinguishes}
use Rattle.word_layouts.specs.WordValues.{renamed}

-- the object of a value is one of the first ones
abbrev pub Known : ℕ → Value → Type 0
Known count (Reference (Some o)) = o < count
Known count _ = Unit {0}

abbrev pub AllKnown : ℕ → List Value → Type 0
AllKnown count [] = Unit {0}
AllKnown count (v ∷ vs) = Known count v × AllKnown count vs

equal_is : (m n : ℕ) → (m == n) ≡ true → m ≡ n
equal_is m n e = grind arith

unequal_is : (m n : ℕ) → (m == n) ≡ false → m ≡ n → ⊥
unequal_is m n e d = grind arith

same_numbers : (m n i j : ℕ) → (m ≡ n → i ≡ j) → (i ≡ j → m ≡ n) → (m == n) ≡ (i == j)
same_numbers m n i j f g = by (m == n) refl (i == j) refl
  where
    by : (x : Bool) → (m == n) ≡ x → (y : Bool) → (i == j) ≡ y → x ≡ y
    by true d true e = refl
    by true d false e = absurd (unequal_is i j e (f (equal_is m n d)))
    by false d true e = absurd (unequal_is m n d (g (equal_is i j e)))
    by false d false e = refl

module _ (n : Naming) (count : ℕ) (apart : Distinguishes count n) where
  -- a value that is renamed
  pub record Renames (v w : Value) : Type 0 where
    pub is : w ≡ renamed n v
    pub known : Known count v

  -- values that are
  pub record AllRename (vs ws : List Value) : Type 0 where
    pub are : ws ≡ map (renamed n) vs
    pub known : AllKnown count vs

  same_objects : (a b : Option ℕ) → Known count (Reference a) → Known count (Reference b)
      → same_object (option_map n.object a) (option_map n.object b) ≡ same_object a b
  same_objects None None g h = refl
  same_objects None (Some b) g h = refl
  same_objects (Some a) None g h = refl
  same_objects (Some a) (Some b) g h = same_numbers (n.object a) (n.object b) a b (apart.apart a b g h) (ap n.object)

  -- what compares two objects gives an integer
  compared_renames : (op : BinOp) (a b : Option ℕ) → Known count (Reference a) → Known count (Reference b)
      → Renames (compared op a b) (compared op (option_map n.object a) (option_map n.object b))
  compared_renames Eq a b g h = record { is = ap (λ s. Number (truth s)) (same_objects a b g h); known = tt }
  compared_renames Ne a b g h = record { is = ap (λ s. Number (truth (not s))) (same_objects a b g h); known = tt }
  compared_renames Add a b g h = record { is = refl; known = tt }
  compared_renames Sub a b g h = record { is = refl; known = tt }
  compared_renames Mul a b g h = record { is = refl; known = tt }
  compared_renames Div a b g h = record { is = refl; known = tt }
  compared_renames Rem a b g h = record { is = refl; known = tt }
  compared_renames And a b g h = record { is = refl; known = tt }
  compared_renames Or a b g h = record { is = refl; known = tt }
  compared_renames Xor a b g h = record { is = refl; known = tt }
  compared_renames Shl a b g h = record { is = refl; known = tt }
  compared_renames Shr a b g h = record { is = refl; known = tt }
  compared_renames Lt a b g h = record { is = refl; known = tt }
  compared_renames Gt a b g h = record { is = refl; known = tt }
  compared_renames Le a b g h = record { is = refl; known = tt }
  compared_renames Ge a b g h = record { is = refl; known = tt }

  safe_renames : (a b : Int) (o : Option SafeOp)
      → let v : Value = option_map_or (λ f. Number (binary_wrapped f a b)) o (int_of 0) in Renames v v
  safe_renames a b None = record { is = refl; known = tt }
  safe_renames a b (Some f) = record { is = refl; known = tt }

  -- a binary operator, on values by themselves
  wrapped_by : (op : BinOp) (a b : Value) → Known count a → Known count b → Renames (wrapped op a b) (wrapped op (renamed n a) (renamed n b))
  wrapped_by op (Number a) (Number b) g h = safe_renames a b (safe op)
  wrapped_by op (Number a) (Reference b) g h = compared_renames op None b tt h
  wrapped_by op (Number a) (Started b) g h = compared_renames op None None tt tt
  wrapped_by op (Reference a) (Number b) g h = compared_renames op a None g tt
  wrapped_by op (Reference a) (Reference b) g h = compared_renames op a b g h
  wrapped_by op (Reference a) (Started b) g h = compared_renames op a None g tt
  wrapped_by op (Started a) (Number b) g h = compared_renames op None None tt tt
  wrapped_by op (Started a) (Reference b) g h = compared_renames op None b tt h
  wrapped_by op (Started a) (Started b) g h = compared_renames op None None tt tt

  wrapped_renames : (op : BinOp) (a b x y : Value) → Renames a x → Renames b y → Renames (wrapped op a b) (wrapped op x y)
  wrapped_renames op a b x y g h =
      subst₂ (λ s t. Renames (wrapped op a b) (wrapped op s t)) (sym g.is) (sym h.is) (wrapped_by op a b g.known h.known)

  unary_by : (op : UnOp) (a : Value) → Renames (wrapped_unary op a) (wrapped_unary op (renamed n a))
  unary_by op (Number a) = record { is = refl; known = tt }
  unary_by op (Reference None) = record { is = refl; known = tt }
  unary_by op (Reference (Some o)) = record { is = refl; known = tt }
  unary_by op (Started t) = record { is = refl; known = tt }

  unary_renames : (op : UnOp) (a x : Value) → Renames a x → Renames (wrapped_unary op a) (wrapped_unary op x)
  unary_renames op a x g = subst (λ s. Renames (wrapped_unary op a) (wrapped_unary op s)) (sym g.is) (unary_by op a)

  pub zero_renames : (k : ValueKind) → Renames (zero_of_kind k) (zero_of_kind k)
  zero_renames (kind.Number k) = record { is = refl; known = tt }
  zero_renames kind.Reference = record { is = refl; known = tt }
  zero_renames kind.Thread = record { is = refl; known = tt }

  cast_by : (k : ValueKind) (a : Value) → Known count a → Renames (converted_to_kind k a) (converted_to_kind k (renamed n a))
  cast_by (kind.Number k) (Number a) g = record { is = refl; known = tt }
  cast_by (kind.Number k) (Reference a) g = record { is = refl; known = tt }
  cast_by (kind.Number k) (Started a) g = record { is = refl; known = tt }
  cast_by kind.Reference (Number a) g = record { is = refl; known = tt }
  cast_by kind.Reference (Reference a) g = record { is = refl; known = g }
  cast_by kind.Reference (Started a) g = record { is = refl; known = tt }
  cast_by kind.Thread (Number a) g = record { is = refl; known = tt }
  cast_by kind.Thread (Reference a) g = record { is = refl; known = tt }
  cast_by kind.Thread (Started a) g = record { is = refl; known = tt }

  cast_renames : (k : ValueKind) (a x : Value) → Renames a x → Renames (converted_to_kind k a) (converted_to_kind k x)
  cast_renames k a x g = subst (λ s. Renames (converted_to_kind k a) (converted_to_kind k s)) (sym g.is) (cast_by k a g.known)

  object_renames : (a : Value) → Known count a → Renames (Reference (object_of a)) (Reference (object_of (renamed n a)))
  object_renames (Number a) g = record { is = refl; known = tt }
  object_renames (Reference a) g = record { is = refl; known = g }
  object_renames (Started a) g = record { is = refl; known = tt }

  true_by : (c : Value) → is_true (renamed n c) ≡ is_true c
  true_by (Number c) = refl
  true_by (Reference None) = refl
  true_by (Reference (Some o)) = refl
  true_by (Started c) = refl

  chosen_by : (first : Bool) (a b : Value) → Known count a → Known count b → Renames (chosen first a b) (chosen first (renamed n a) (renamed n b))
  chosen_by first (Number a) (Number b) g h = record { is = refl; known = tt }
  chosen_by true (Number a) (Reference b) g h = object_renames (Number a) g
  chosen_by true (Number a) (Started b) g h = object_renames (Number a) g
  chosen_by true (Reference a) (Number b) g h = object_renames (Reference a) g
  chosen_by true (Reference a) (Reference b) g h = object_renames (Reference a) g
  chosen_by true (Reference a) (Started b) g h = object_renames (Reference a) g
  chosen_by true (Started a) (Number b) g h = object_renames (Started a) g
  chosen_by true (Started a) (Reference b) g h = object_renames (Started a) g
  chosen_by true (Started a) (Started b) g h = object_renames (Started a) g
  chosen_by false (Number a) (Reference b) g h = object_renames (Reference b) h
  chosen_by false (Number a) (Started b) g h = object_renames (Started b) h
  chosen_by false (Reference a) (Number b) g h = object_renames (Number b) h
  chosen_by false (Reference a) (Reference b) g h = object_renames (Reference b) h
  chosen_by false (Reference a) (Started b) g h = object_renames (Started b) h
  chosen_by false (Started a) (Number b) g h = object_renames (Number b) h
  chosen_by false (Started a) (Reference b) g h = object_renames (Reference b) h
  chosen_by false (Started a) (Started b) g h = object_renames (Started b) h

  chosen_renames : (c a b z x y : Value) → Renames c z → Renames a x → Renames b y
      → Renames (chosen (is_true c) a b) (chosen (is_true z) x y)
  chosen_renames c a b z x y f g h =
      subst (λ t. Renames (chosen (is_true c) a b) (chosen t x y)) (sym (ap is_true f.is ∙ true_by c))
      (subst₂ (λ s t. Renames (chosen (is_true c) a b) (chosen (is_true c) s t)) (sym g.is) (sym h.is)
      (chosen_by (is_true c) a b g.known h.known))

  -- the old value at a place
  index_by : (vs : List Value) (place : ℕ) → AllKnown count vs
      → Renames (slice_index_or vs place (int_of 0)) (slice_index_or (map (renamed n) vs) place (int_of 0))
  index_by [] zero known = record { is = refl; known = tt }
  index_by [] (suc place) known = record { is = refl; known = tt }
  index_by (v ∷ vs) zero known = record { is = refl; known = known.0 }
  index_by (v ∷ vs) (suc place) known = index_by vs place known.1

  module _ (old new : List Value) (olds : AllRename old new) where
    index_renames : (place : ℕ) → Renames (slice_index_or old place (int_of 0)) (slice_index_or new place (int_of 0))
    index_renames place =
        subst (λ ws. Renames (slice_index_or old place (int_of 0)) (slice_index_or ws place (int_of 0))) (sym olds.are)
        (index_by old place olds.known)

    -- a formula
    abbrev IsRenamed : Formula → Type 0
    IsRenamed f = Renames (value_in old f) (value_in new f)

    abbrev Proved : Type 0
    Proved = (f : Formula) × IsRenamed f

    abbrev Layer : Formula-F Formula → Type 0
    Layer x =
        Renames (node_value old (map-Formula Formula Value (value_in old) x).node) (node_value new (map-Formula Formula Value (value_in new) x).node)

    of_node : (x : FormulaNode Proved) → Layer (map-Formula Proved Formula (λ f. f.0) (record { node = x }))
    of_node (Constant i) = record { is = refl; known = tt }
    of_node (Old place) = index_renames place
    of_node (Unary op a) = unary_renames op (value_in old a.0) (value_in new a.0) a.1
    of_node (Cast k a) = cast_renames k (value_in old a.0) (value_in new a.0) a.1
    of_node (Binary op a b) = wrapped_renames op (value_in old a.0) (value_in old b.0) (value_in new a.0) (value_in new b.0) a.1 b.1
    of_node (Choice c a b) =
        chosen_renames (value_in old c.0) (value_in old a.0) (value_in old b.0) (value_in new c.0) (value_in new a.0) (value_in new b.0) c.1 a.1 b.1

    formula_renames : (f : Formula) → IsRenamed f
    formula_renames = ind-Formula IsRenamed (λ x y is.
        let layer : Layer x = subst Layer is (of_node y.node) in
        subst₂ (λ v w. Renames v w)
        (sym (fold-roll-Formula Value (λ f. node_value old f.node) x)) (sym (fold-roll-Formula Value (λ f. node_value new f.node) x)) layer)

    -- a field
    change_renames : (c : FieldChange) → Renames (new_value old c) (new_value new c)
    change_renames (Copied place) = index_renames place
    change_renames (Zero k) = zero_renames k
    change_renames (Given k f) = cast_renames k (value_in old f) (value_in new f) (formula_renames f)

    -- all fields
    pub changes_rename : (cs : List FieldChange) → AllRename (new_values cs old) (new_values cs new)
    changes_rename [] = record { are = refl; known = tt }
    changes_rename (c ∷ cs) =
        let first = change_renames c in
        let rest = changes_rename cs in
        record {
          are = ap (λ w. w ∷ new_values cs new) first.is ∙ ap (λ ws. renamed n (new_value old c) ∷ ws) rest.are;
          known = (first.known, rest.known);
        }

    pub cast_value_renames : (k : ValueKind) (f : Formula) → Renames (converted_to_kind k (value_in old f)) (converted_to_kind k (value_in new f))
    cast_value_renames k f = cast_renames k (value_in old f) (value_in new f) (formula_renames f)
