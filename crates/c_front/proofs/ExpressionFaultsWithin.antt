-- An expression whose parts have their places and faults within a number has so too, by its node.
use Rattle.std.proofs.Common.{ℕ, ◌≤◌, Bool, true, false, List, [], ◌∷◌, ◌++◌, length, Option, Some, None, if◌then◌else◌}
use Rattle.std.specs.List.{flat_map}
use Rattle.std.specs.Prelude.{◌==◌, is_some}
use Rattle.c_ints.specs.declared.operator.BinOp.{BinOp}
use Rattle.c_ints.specs.Number.{kind_of, value_of}
use Rattle.c_ints.specs.Arithmetic.{is_zero, binary_kind}
use Rattle.c_tree.specs.declared.name.CType.{CType}
use Rattle.c_tree.specs.declared.name.CType.TheVariants.{Integer, Handle, Thread}
use Rattle.c_tree.specs.declared.expr.ExprNode.{ExprNode}
use Rattle.c_tree.specs.declared.expr.ExprNode.TheVariants.{Number, Character, Null, Success, Error, Variable, Unary, Step, Cast, Binary, And, Or, Choice, Assign, Update, Call, Element, Arrow, Dot, Print, Calloc, Free, Create, Join, JoinInto, InitMutex, Lock, Unlock}
use Rattle.c_tree.specs.declared.def.Def.{Def}
use Rattle.c_expr_types.specs.declared.fault.TypeKind.TheVariants.{UnknownName, WrongType, WrongCount, BadFormat}
use Rattle.c_expr_types.specs.declared.found.Found.{Found}
use Rattle.c_expr_types.specs.declared.found.Found.TheVariants.{Value, Zero, Nothing}
use Rattle.c_expr_types.specs.declared.found.Part.{Part}
use Rattle.c_expr_types.specs.Faults.{fault}
use Rattle.c_expr_types.specs.Formats.{fits_format}
use Rattle.c_expr_types.specs.Found.{faults_of, wrong, is_integer, is_handle, int, has_value, is_value, is_evaluated, is_comparable, converts, required, place_required, type_of, kind_in, value_of_type}
use Rattle.c_definitions.specs.Lookup.{Names, Meaning, meaning_of, is_tag}
use Rattle.c_definitions.specs.Lookup.Meaning.{AVariable, AnArray, AFunction, AMutex}
use Rattle.c_expr_types.specs.Expressions.{is_condition, fits, is_equality, is_operand, is_unary_operand, is_assigned, conversion_faults, value_faults, argument_faults, is_thread, is_int, thread_parameter, is_thread_argument, parts, name_type, element_type, call_type, field_of, field_type, meeting, where_met, binary, spawn_type, mutex_call_type, unknown_tag, own, is_initialising, where_allowed, is_allowed, part}
use Rattle.c_front.proofs.FaultsWithin.{Within, FoundWithin, PartWithin, within_append, within_unless, after_within, required_within, place_required_within}

module _ (n : ℕ) where
  -- the tag of a type has such a place
  abbrev pub TypeWithin : CType → Type 0
  TypeWithin (Handle tag) = tag.place ≤ n
  TypeWithin _ = Unit {0}

  pub unknown_tag_within : (text : List Def) (t : CType) → TypeWithin t → Within n (unknown_tag text t)
  unknown_tag_within text (Integer k) h = tt
  unknown_tag_within text (Handle tag) h = within_unless n (is_tag text tag.text) UnknownName tag.place h
  unknown_tag_within text Thread h = tt

  abbrev pub PartsWithin : List Part → Type 0
  PartsWithin [] = Unit {0}
  PartsWithin (a ∷ others) = PartWithin n a × PartsWithin others

  -- the parts of an expression, and the places that it has beside its own
  abbrev pub NodeWithin : ExprNode Part → Type 0
  NodeWithin (Unary op a) = PartWithin n a
  NodeWithin (Step op a) = PartWithin n a
  NodeWithin (Cast t a) = TypeWithin t × PartWithin n a
  NodeWithin (Binary op a b) = PartWithin n a × PartWithin n b
  NodeWithin (And a b) = PartWithin n a × PartWithin n b
  NodeWithin (Or a b) = PartWithin n a × PartWithin n b
  NodeWithin (Choice a b c) = PartWithin n a × PartWithin n b × PartWithin n c
  NodeWithin (Assign a b) = PartWithin n a × PartWithin n b
  NodeWithin (Update op a b) = PartWithin n a × PartWithin n b
  NodeWithin (Call name arguments) = PartsWithin arguments
  NodeWithin (Element name a) = PartWithin n a
  NodeWithin (Arrow a field) = PartWithin n a × (field.place ≤ n)
  NodeWithin (Dot a field) = PartWithin n a
  NodeWithin (Print place format arguments) = (place ≤ n) × PartsWithin arguments
  NodeWithin (Calloc tag) = tag.place ≤ n
  NodeWithin (Free a) = PartWithin n a
  NodeWithin (Create a name b) = PartWithin n a × (name.place ≤ n) × PartWithin n b
  NodeWithin (Join a) = PartWithin n a
  NodeWithin (JoinInto a b) = PartWithin n a × PartWithin n b
  NodeWithin (InitMutex name) = name.place ≤ n
  NodeWithin (Lock name) = name.place ≤ n
  NodeWithin (Unlock name) = name.place ≤ n
  NodeWithin _ = Unit {0}

  -- Faults of parts.

  two_required : (x y : Bool) (a b : Part) → PartWithin n a → PartWithin n b → Within n (required x a ++ required y b)
  two_required x y a b h k = within_append n (required x a) (required y b) (required_within n x a h) (required_within n y b k)

  place_and_value : (x y : Bool) (a b : Part) → PartWithin n a → PartWithin n b → Within n (place_required x a ++ required y b)
  place_and_value x y a b h k =
      within_append n (place_required x a) (required y b) (place_required_within n x a h) (required_within n y b k)

  value_and_place : (x y : Bool) (a b : Part) → PartWithin n a → PartWithin n b → Within n (required x a ++ place_required y b)
  value_and_place x y a b h k =
      within_append n (required x a) (place_required y b) (required_within n x a h) (place_required_within n y b k)

  each_required : (test : Part → Bool) (arguments : List Part) → PartsWithin arguments
      → Within n (flat_map (λ a. required (test a) a) arguments)
  each_required test [] h = tt
  each_required test (a ∷ others) (h, k) =
      within_append n (required (test a) a) (flat_map (λ b. required (test b) b) others) (required_within n (test a) a h)
      (each_required test others k)

  converted : (types : List CType) (arguments : List Part) → PartsWithin arguments → Within n (conversion_faults types arguments)
  converted [] arguments h = tt
  converted (t ∷ types) [] h = tt
  converted (t ∷ types) (a ∷ others) (h, k) =
      within_append n (required (converts t a.found) a) (conversion_faults types others) (required_within n (converts t a.found) a h)
      (converted types others k)

  values : (arguments : List Part) → PartsWithin arguments → Within n (value_faults arguments)
  values arguments h = each_required (λ a. is_value a.found) arguments h

  as_many : (test : Bool) (types : List CType) (arguments : List Part) → PartsWithin arguments
      → Within n (if test then conversion_faults types arguments else value_faults arguments)
  as_many true types arguments h = converted types arguments h
  as_many false types arguments h = values arguments h

  arguments_within : (o : Option Meaning) (arguments : List Part) → PartsWithin arguments → Within n (argument_faults o arguments)
  arguments_within None arguments h = values arguments h
  arguments_within (Some (AFunction result types)) arguments h = as_many (length types == length arguments) types arguments h
  arguments_within (Some _) arguments h = values arguments h

  parts_within : (names : Names) (node : ExprNode Part) → NodeWithin node → Within n (parts names node)
  parts_within names (Unary op a) h = required_within n (is_unary_operand op a.found) a h
  parts_within names (Step op a) h = place_required_within n (has_value is_integer a.found) a h
  parts_within names (Cast t a) h = required_within n (fits names.text t a.found) a h.1
  parts_within names (Binary op a b) h = two_required (is_operand op a.found) (is_operand op b.found) a b h.0 h.1
  parts_within names (And a b) h = two_required (is_condition a.found) (is_condition b.found) a b h.0 h.1
  parts_within names (Or a b) h = two_required (is_condition a.found) (is_condition b.found) a b h.0 h.1
  parts_within names (Choice a b c) h =
      within_append n (required (is_condition a.found) a)
      (required (is_comparable b.found) b ++ required (is_comparable c.found) c)
      (required_within n (is_condition a.found) a h.0)
      (two_required (is_comparable b.found) (is_comparable c.found) b c h.1 h.2)
  parts_within names (Assign a b) h = place_and_value true (is_assigned a.found b.found) a b h.0 h.1
  parts_within names (Update op a b) h =
      place_and_value (has_value is_integer a.found) (has_value is_integer b.found) a b h.0 h.1
  parts_within names (Call name arguments) h = arguments_within (meaning_of names name) arguments h
  parts_within names (Element name a) h = required_within n (has_value is_integer a.found) a h
  parts_within names (Arrow a field) h = required_within n (has_value is_handle a.found) a h.0
  parts_within names (Dot a field) h = required_within n (is_value a.found) a h
  parts_within names (Print place format arguments) h = each_required (λ a. is_evaluated a.found) arguments h.1
  parts_within names (Free a) h = required_within n (has_value is_handle a.found) a h
  parts_within names (Create a name b) h =
      place_and_value (has_value is_thread a.found) (is_thread_argument (thread_parameter (meaning_of names name.text)) b.found) a b
      h.0 h.2
  parts_within names (Join a) h = required_within n (has_value is_thread a.found) a h
  parts_within names (JoinInto a b) h = value_and_place (has_value is_thread a.found) (has_value is_int b.found) a b h.0 h.1
  parts_within names _ h = tt

  -- An expression's own fault.

  if_within : (test : Bool) (a b : Found) → FoundWithin n a → FoundWithin n b → FoundWithin n (if test then a else b)
  if_within true a b h k = h
  if_within false a b h k = k

  value_within : (o : Option CType) → FoundWithin n (value_of_type o)
  value_within None = tt
  value_within (Some t) = tt

  name_within : (o : Option Meaning) (at : ℕ) → at ≤ n → FoundWithin n (name_type o at)
  name_within None at h = (h, tt)
  name_within (Some (AVariable t)) at h = tt
  name_within (Some _) at h = tt

  element_within : (o : Option Meaning) (at : ℕ) → at ≤ n → FoundWithin n (element_type o at)
  element_within None at h = (h, tt)
  element_within (Some (AnArray t)) at h = tt
  element_within (Some _) at h = (h, tt)

  call_within : (o : Option Meaning) (at count : ℕ) → at ≤ n → FoundWithin n (call_type o at count)
  call_within None at count h = (h, tt)
  call_within (Some (AFunction result types)) at count h =
      if_within (length types == count) (value_of_type result) (wrong WrongCount at) (value_within result) (h, tt)
  call_within (Some _) at count h = (h, tt)

  field_within : (o : Option CType) (at : ℕ) → at ≤ n → FoundWithin n (field_type o at)
  field_within None at h = (h, tt)
  field_within (Some t) at h = tt

  met_within : (o : Option CType) (at : ℕ) (found : Found) → at ≤ n → FoundWithin n found → FoundWithin n (where_met o at found)
  met_within None at found h k = (h, tt)
  met_within (Some t) at found h k = k

  spawn_within : (o : Option Meaning) (name at : ℕ) → name ≤ n → at ≤ n → FoundWithin n (spawn_type o name at)
  spawn_within None name at h k = (h, tt)
  spawn_within (Some meaning) name at h k =
      if_within (is_some (thread_parameter (Some meaning))) (Value int) (wrong WrongType at) tt (k, tt)

  mutex_within : (o : Option Meaning) (name at : ℕ) → name ≤ n → at ≤ n → FoundWithin n (mutex_call_type o name at)
  mutex_within None name at h k = (h, tt)
  mutex_within (Some AMutex) name at h k = tt
  mutex_within (Some _) name at h k = (k, tt)

  binary_within : (op : BinOp) (at : ℕ) (a b : Part) → at ≤ n → FoundWithin n (binary op at a b)
  binary_within op at a b h =
      let value : Found = Value (Integer (binary_kind op (kind_in a) (kind_in b))) in
      if_within (is_equality op) (where_met (meeting a.found b.found) at value) value
      (met_within (meeting a.found b.found) at value h tt) tt

  own_within : (names : Names) (at : ℕ) (node : ExprNode Part) → at ≤ n → NodeWithin node → FoundWithin n (own names at node)
  own_within names at (Number v) h k = if_within (is_zero (value_of v)) (Zero (kind_of v)) (Value (Integer (kind_of v))) tt tt
  own_within names at (Variable name) h k = name_within (meaning_of names name) at h
  own_within names at (Step op a) h k = value_within (type_of a.found)
  own_within names at (Cast t a) h k =
      after_within n (unknown_tag names.text t) (Value t) (unknown_tag_within names.text t k.0) tt
  own_within names at (Binary op a b) h k = binary_within op at a b h
  own_within names at (Choice a b c) h k =
      met_within (meeting b.found c.found) at (value_of_type (meeting b.found c.found)) h (value_within (meeting b.found c.found))
  own_within names at (Assign a b) h k = value_within (type_of a.found)
  own_within names at (Update op a b) h k = value_within (type_of a.found)
  own_within names at (Call name arguments) h k = call_within (meaning_of names name) at (length arguments) h
  own_within names at (Element name a) h k = element_within (meaning_of names name) at h
  own_within names at (Arrow a name) h k = field_within (field_of names.text (type_of a.found) name.text) name.place k.1
  own_within names at (Dot a name) h k = (h, tt)
  own_within names at (Print place format arguments) h k =
      if_within (fits_format format arguments) Nothing (wrong BadFormat place) tt (k.0, tt)
  own_within names at (Calloc tag) h k =
      if_within (is_tag names.text tag.text) (Value (Handle tag)) (wrong UnknownName tag.place) tt (k, tt)
  own_within names at (Create a name b) h k = spawn_within (meaning_of names name.text) name.place at k.1 h
  own_within names at (InitMutex name) h k = mutex_within (meaning_of names name.text) name.place at k h
  own_within names at (Lock name) h k = mutex_within (meaning_of names name.text) name.place at k h
  own_within names at (Unlock name) h k = mutex_within (meaning_of names name.text) name.place at k h
  own_within names at _ h k = tt

  allowed_within : (allowed : Bool) (at : ℕ) (found : Found) → at ≤ n → FoundWithin n found
      → FoundWithin n (where_allowed allowed at found)
  allowed_within true at found h k = after_within n [] found tt k
  allowed_within false at found h k = after_within n (fault WrongType at ∷ faults_of found) found (h, k) k

  pub part_within : (names : Names) (at : ℕ) (node : ExprNode Part) → at ≤ n → NodeWithin node → PartWithin n (part names at node)
  part_within names at node h k = (
    h,
    after_within n (parts names node) (where_allowed (is_allowed names.position (is_initialising node)) at (own names at node))
        (parts_within names node k)
        (allowed_within (is_allowed names.position (is_initialising node)) at (own names at node) h (own_within names at node h k)),
  )
