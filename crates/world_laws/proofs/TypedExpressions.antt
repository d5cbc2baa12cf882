-- An expression without faults stores values of the declared types.
use Rattle.std.proofs.Common.{◌≡◌, ℕ, Bool, true, List, [], ◌∷◌, map, Option, Some, None, option_map, refl, sym, ap, subst, subst₂, ◌∙◌}
use Rattle.c_tree.specs.declared.expr.StepOp.{StepOp}
use Rattle.c_tree.specs.declared.expr.StepOp.TheVariants.{PreIncrement, PreDecrement, PostIncrement, PostDecrement}
use Rattle.c_tree.specs.BareExpr.{Bytes, BareType, BareExpr}
use Rattle.c_tree.specs.BareExpr as bare
use Rattle.c_tree.specs.BareDef.{BareBinding}
use Rattle.c_tree.specs.Bare.{bare_arguments, bare_expr, bare_node, bare_type}
use Rattle.c_tree.specs.declared.name.CType.{CType}
use Rattle.c_tree.specs.declared.expr.Expr.{Expr, Expr-F}
use Rattle.c_tree.specs.declared.expr.Expr.TheFolds.{fold-roll-Expr, ind-Expr, map-Expr}
use Rattle.c_tree.specs.declared.expr.ExprNode.{ExprNode}
use Rattle.c_tree.specs.declared.expr.ExprNode.TheVariants.{Number, Character, Null, Success, Error, Variable, Unary, Step, Cast, Binary, And, Or, Choice, Assign, Update, Call, Element, Arrow, Dot, Print, Calloc, Free, Create, Join, JoinInto, InitMutex, Lock, Unlock}
use Rattle.c_tree.specs.declared.def.Def.{Def}
use Rattle.c_expr_types.specs.declared.fault.Fault.{Fault}
use Rattle.c_expr_types.specs.declared.found.Found.{Found}
use Rattle.c_expr_types.specs.declared.found.Found.TheVariants.{Place}
use Rattle.c_expr_types.specs.declared.found.Part.{Part}
use Rattle.c_expr_types.specs.Found.{faults_of, has_value, is_comparable, is_evaluated, is_handle, is_integer, place_required, required}
use Rattle.c_definitions.specs.Lookup.{Meaning, Names, defined, hidden_by, meaning_of}
use Rattle.c_definitions.specs.Lookup.Meaning.{AVariable, AnArray, AFunction, AMutex}
use Rattle.c_scope.specs.Tables.{innermost}
use Rattle.c_expr_types.specs.Expressions.{element_type, fits, infer, is_assigned, is_condition, is_int, is_operand, is_thread, is_thread_argument, is_unary_operand, name_type, own, part, parts, print_faults, thread_parameter}
use Rattle.c_semantics.specs.Texts.{Definitions, bound, parameters_of}
use Rattle.c_semantics.specs.Resolved.{Expression, Expressions}
use Rattle.c_semantics.specs.Resolved as made
use Rattle.c_semantics.specs.Resolution.{Resolved, common_type, handed, passed, resolved, resolved_all, side, step, variable}
use Rattle.typed_uses.proofs.Faultless.{Clean, built, is_place, meets, none_after, none_before}
use Rattle.typed_uses.proofs.SoundTexts.{Facts}
use Rattle.typed_uses.proofs.Lookups.{look}
use Rattle.typed_uses.proofs.Definitions.{array_type, variable_type}
use Rattle.typed_uses.proofs.Locals.{InStep}
use Rattle.typed_uses.proofs.NamedNodes.{arguments_clean}
use Rattle.typed_uses.proofs.Agreement.{TypeFits}
use Rattle.typed_uses.proofs.Expressions.{expression}
use Rattle.frame_bodies.proofs.Sound.{IsPlace, Sound, AllSound}
use Rattle.frame_bodies.proofs.TypedExpressions.{Called, expression_sound}
use Rattle.world_laws.proofs.Storing.{Takes, Stores, AllStore, PartsStore}
use Rattle.world_laws.proofs.DeclaredNames.{array_found, int_is, locked_is_mutex, spawned_returns_int, thread_is, variable_found}

-- ---- arguments and sides

passed_store : (text : Definitions) (es : Expressions) (ps : List BareBinding) → AllStore text es → AllStore text (passed es ps)
passed_store text made.NoExpressions ps h = tt
passed_store text (made.ExpressionThen e es) [] h = (h.0, passed_store text es [] h.1)
passed_store text (made.ExpressionThen e es) (p ∷ ps) h = (h.0, passed_store text es ps h.1)

handed_stores : (text : Definitions) (ps : List BareBinding) (e : Expression) → Stores text e → Stores text (handed ps e)
handed_stores text [] e h = h
handed_stores text (p ∷ ps) e h = h

side_stores : (text : Definitions) (type : BareType) (e : Expression) → Stores text e → Stores text (side type e)
side_stores text (bare.Integer k) e h = h
side_stores text (bare.Handle tag) e h = h
side_stores text bare.Thread e h = h

-- ---- places

-- a place takes values of a type, and its parts store theirs
record TakenPlace (text : List Def) (p : made.Place) (type : BareType) : Type 0 where
  takes : Takes (look text) p (Some type)
  parts : PartsStore (look text) p

of_type : (text : List Def) (p : made.Place) (t u : BareType) → t ≡ u → TakenPlace text p t → TakenPlace text p u
of_type text p t u e h = subst (TakenPlace text p) e h

variable_stores : (text : List Def) (name : Bytes) (b : Option BareBinding) → Stores (look text) (variable (look text) name b).tree
variable_stores text name None = tt
variable_stores text name (Some b) = tt

variable_taken : (text : List Def) (name : Bytes) (at : ℕ) (t : CType) (i : Option CType) (b : Option BareBinding) (m : Option Meaning)
    → Facts text → option_map (λ c. c.declared) b ≡ option_map bare_type i → defined text name ≡ m
    → name_type (hidden_by i m) at ≡ Place t → TakenPlace text (variable (look text) name b).place (bare_type t)
variable_taken text name at t (Some u) (Some b) m facts same is e = record { takes = (tt, tt); parts = tt }
variable_taken text name at t (Some u) None m facts same is e = cc
variable_taken text name at t None (Some b) m facts same is e = cc
variable_taken text name at t None None None facts same is e = cc
variable_taken text name at t None None (Some (AVariable u)) facts same is e =
    let same_type : u ≡ t = cc in
    let is_one : defined text name ≡ Some (AVariable t) = is ∙ ap (λ x. Some (AVariable x)) same_type in
    record { takes = (variable_found text name t facts is_one, ap Some (sym (variable_type text name t facts is_one).is)); parts = tt }
variable_taken text name at t None None (Some (AnArray u)) facts same is e = cc
variable_taken text name at t None None (Some (AFunction r ts)) facts same is e = cc
variable_taken text name at t None None (Some AMutex) facts same is e = cc

element_taken : (text : List Def) (name : Bytes) (at : ℕ) (t : CType) (index : Expression) (i : Option CType) (m : Option Meaning)
    → Facts text → defined text name ≡ m → element_type (hidden_by i m) at ≡ Place t → Stores (look text) index
    → TakenPlace text (made.Element name index) (bare_type t)
element_taken text name at t index (Some u) m facts is e h = cc
element_taken text name at t index None None facts is e h = cc
element_taken text name at t index None (Some (AVariable u)) facts is e h = cc
element_taken text name at t index None (Some (AnArray u)) facts is e h =
    let same_type : u ≡ t = cc in
    let is_one : defined text name ≡ Some (AnArray t) = is ∙ ap (λ x. Some (AnArray x)) same_type in
    record { takes = (array_found text name t facts is_one, ap Some (sym (array_type text name t facts is_one).is)); parts = h }
element_taken text name at t index None (Some (AFunction r ts)) facts is e h = cc
element_taken text name at t index None (Some AMutex) facts is e h = cc

step_stores : (text : List Def) (op : StepOp) (x : Resolved) → TakenPlace text x.place x.type → Stores (look text) (step op x).tree
step_stores text PreIncrement x h = (h.takes, h.parts, tt)
step_stores text PreDecrement x h = (h.takes, h.parts, tt)
step_stores text PostIncrement x h = (h.takes, h.parts)
step_stores text PostDecrement x h = (h.takes, h.parts)

-- ---- expressions

-- an expression stores values of the declared types, and where it is found to be a place, this takes values of its type
record Kept (text : List Def) (found : Found) (b : BareExpr) (r : Resolved) : Type 0 where
  stores : Stores (look text) r.tree
  place : (t : CType) → found ≡ Place t → IsPlace b → TakenPlace text r.place (bare_type t)

abbrev IfClean : List Def → Part → BareExpr → Resolved → Type 0
IfClean text p b r = Sound (Called text) b → Clean p.found → Kept text p.found b r

-- what is no place
unplaced : (names : Names) (at : ℕ) (n : ExprNode Part) (b : BareExpr) (r : Resolved) → (IsPlace b → ⊥)
    → (Sound (Called names.text) b → parts names n ≡ [] → Clean (own names at n) → Stores (look names.text) r.tree)
    → IfClean names.text (part names at n) b r
unplaced names at n b r none stores sound clean =
    let x = built names at n clean in
    record { stores = stores sound x.none x.clean; place = λ t e is. absurd (none is) }

-- a name, an element or a field
placed : (names : Names) (at : ℕ) (n : ExprNode Part) (b : BareExpr) (r : Resolved)
    → (Sound (Called names.text) b → parts names n ≡ [] → Stores (look names.text) r.tree)
    → (Sound (Called names.text) b → parts names n ≡ [] → (t : CType) → own names at n ≡ Place t → TakenPlace names.text r.place (bare_type t))
    → IfClean names.text (part names at n) b r
placed names at n b r stores taken sound clean =
    let x = built names at n clean in
    record { stores = stores sound x.none; place = λ t e is. taken sound x.none t (sym x.is ∙ e) }

never : ⊥ → ⊥
never h = h

module _ (names : Names) (locals : List BareBinding) (facts : Facts names.text) (s : InStep names.text names.scopes locals) where
  abbrev made_of : Expr → Resolved
  made_of e = resolved (look names.text) locals (bare_expr e)

  abbrev KeptExpr : Expr → Type 0
  KeptExpr e = IfClean names.text (infer names e) (bare_expr e) (made_of e)

  abbrev KeptExprs : List Expr → Type 0
  KeptExprs [] = Unit {0}
  KeptExprs (e ∷ es) = KeptExpr e × KeptExprs es

  abbrev Proved : Type 0
  Proved = (e : Expr) × KeptExpr e

  abbrev found : Proved → Part
  found e = infer names e.0

  abbrev tree : Proved → BareExpr
  tree e = bare_expr e.0

  abbrev made_by : Proved → Resolved
  made_by e = made_of e.0

  each : (es : List Proved) → KeptExprs (map (λ e. e.0) es)
  each [] = tt
  each (e ∷ es) = (e.1, each es)

  abbrev Cleans : List Part → Type 0
  Cleans [] = Unit {0}
  Cleans (p ∷ ps) = Clean p.found × Cleans ps

  all_store : (es : List Expr) → KeptExprs es → AllSound (Called names.text) (bare_arguments (map bare_expr es)) → Cleans (map (infer names) es)
      → AllStore (look names.text) (resolved_all (look names.text) locals (bare_arguments (map bare_expr es)))
  all_store [] kept sound clean = tt
  all_store (e ∷ es) kept sound clean = ((kept.0 sound.0 clean.0).stores, all_store es kept.1 sound.1 clean.1)

  printed_clean : (ps : List Part) → print_faults ps ≡ [] → Cleans ps
  printed_clean [] e = tt
  printed_clean (p ∷ ps) e =
      let own : List Fault = required (is_evaluated p.found) p in
      ((meets (is_evaluated p.found) p (none_before own _ e)).1, printed_clean ps (none_after own _ e))

  -- a part of which something is required
  part_stores : (holds : Bool) (a : Proved) → Sound (Called names.text) (tree a) → required holds (found a) ≡ [] → Stores (look names.text) (made_by a).tree
  part_stores holds a sound e = (a.1 sound (meets holds (found a) e).1).stores

  -- a part that is assigned to
  record Target (holds : Bool) (a : Proved) : Type 0 where
    type : CType
    is : (found a).found ≡ Place type
    holds_so : holds ≡ true
    resolved_as : (made_by a).type ≡ bare_type type
    taken : TakenPlace names.text (made_by a).place (bare_type type)

  target : (holds : Bool) (a : Proved) → IsPlace (tree a) → Sound (Called names.text) (tree a) → place_required holds (found a) ≡ []
      → Target holds a
  target holds a is sound e =
      let i = is_place holds (found a) e in
      let clean : Clean (found a).found = ap faults_of i.1 in
      let fits : TypeFits names.text (Place i.0) (made_by a).type =
      subst (λ x. TypeFits names.text x (made_by a).type) i.1 (expression names locals facts s a.0 clean).type in
      record {
        type = i.0;
        is = i.1;
        holds_so = i.2;
        resolved_as = fits.is;
        taken = (a.1 sound clean).place i.0 i.1 is;
      }

  -- it takes values of the type that it is resolved to
  own_type : (holds : Bool) (a : Proved) → Target holds a → TakenPlace names.text (made_by a).place (made_by a).type
  own_type holds a t = of_type names.text (made_by a).place (bare_type t.type) (made_by a).type (sym t.resolved_as) t.taken

  -- what is required of the type holds
  test_holds : (test : CType → Bool) (a : Proved) (t : Target (has_value test (found a).found) a) → test t.type ≡ true
  test_holds test a t = sym (ap (has_value test) t.is) ∙ t.holds_so

  abbrev Layer : Expr-F Expr → Type 0
  Layer x =
      IfClean names.text (part names x.place (map-Expr Expr Part (infer names) x).node) (bare_node (map-Expr Expr BareExpr bare_expr x).node)
      (resolved (look names.text) locals (bare_node (map-Expr Expr BareExpr bare_expr x).node))

  of_node : (place : ℕ) (n : ExprNode Proved) → Layer (map-Expr Proved Expr (λ e. e.0) (record { place = place; node = n }))
  of_node place (Number n) = unplaced names place (Number n) _ _ never (λ h p o. tt)
  of_node place (Character n) = unplaced names place (Character n) _ _ never (λ h p o. tt)
  of_node place Null = unplaced names place Null _ _ never (λ h p o. tt)
  of_node place Success = unplaced names place Success _ _ never (λ h p o. tt)
  of_node place Error = unplaced names place Error _ _ never (λ h p o. tt)
  of_node place (Variable name) =
      placed names place (Variable name) (bare.Variable name) (variable (look names.text) name (bound locals name))
      (λ h p. variable_stores names.text name (bound locals name))
      (λ h p t e. variable_taken names.text name place t (innermost names.scopes name) (bound locals name) (defined names.text name) facts (s.same name) refl e)
  of_node place (Unary op a) =
      unplaced names place (Unary op (found a)) (bare.Unary op (tree a)) _ never
      (λ h p o. part_stores (is_unary_operand op (found a).found) a h p)
  of_node place (Step op a) =
      unplaced names place (Step op (found a)) (bare.Step op (tree a)) (step op (made_by a)) never
      (λ h p o.
      step_stores names.text op (made_by a)
      (own_type (has_value is_integer (found a).found) a (target (has_value is_integer (found a).found) a h.0 h.1 p)))
  of_node place (Cast t a) =
      unplaced names place (Cast t (found a)) (bare.Cast (bare_type t) (tree a)) _ never (λ h p o. part_stores (fits names.text t (found a).found) a h p)
  of_node place (Binary op a b) =
      let left : List Fault = required (is_operand op (found a).found) (found a) in
      let type : BareType = common_type (made_by a).type (made_by b).type in
      unplaced names place (Binary op (found a) (found b)) (bare.Binary op (tree a) (tree b)) _ never
      (λ h p o. (
        side_stores (look names.text) type (made_by a).tree (part_stores (is_operand op (found a).found) a h.0 (none_before left _ p)),
        side_stores (look names.text) type (made_by b).tree (part_stores (is_operand op (found b).found) b h.1 (none_after left _ p)),
      ))
  of_node place (And a b) =
      let left : List Fault = required (is_condition (found a).found) (found a) in
      unplaced names place (And (found a) (found b)) (bare.And (tree a) (tree b)) _ never
      (λ h p o. (
        part_stores (is_condition (found a).found) a h.0 (none_before left _ p),
        part_stores (is_condition (found b).found) b h.1 (none_after left _ p),
      ))
  of_node place (Or a b) =
      let left : List Fault = required (is_condition (found a).found) (found a) in
      unplaced names place (Or (found a) (found b)) (bare.Or (tree a) (tree b)) _ never
      (λ h p o. (
        part_stores (is_condition (found a).found) a h.0 (none_before left _ p),
        part_stores (is_condition (found b).found) b h.1 (none_after left _ p),
      ))
  of_node place (Choice c a b) =
      let test : List Fault = required (is_condition (found c).found) (found c) in
      let left : List Fault = required (is_comparable (found a).found) (found a) in
      unplaced names place (Choice (found c) (found a) (found b)) (bare.Choice (tree c) (tree a) (tree b)) _ never
      (λ h p o. (
        part_stores (is_condition (found c).found) c h.0 (none_before test _ p),
        part_stores (is_comparable (found a).found) a h.1 (none_before left _ (none_after test _ p)),
        part_stores (is_comparable (found b).found) b h.2 (none_after left _ (none_after test _ p)),
      ))
  of_node place (Assign a b) =
      let left : List Fault = place_required true (found a) in
      unplaced names place (Assign (found a) (found b)) (bare.Assign (tree a) (tree b)) _ never
      (λ h p o.
      let x = own_type true a (target true a h.0 h.1 (none_before left _ p)) in
      (x.takes, x.parts, part_stores (is_assigned (found a).found (found b).found) b h.2 (none_after left _ p)))
  of_node place (Update op a b) =
      let whole : Bool = has_value is_integer (found a).found in
      let left : List Fault = place_required whole (found a) in
      unplaced names place (Update op (found a) (found b)) (bare.Update op (tree a) (tree b)) _ never
      (λ h p o.
      let x = own_type whole a (target whole a h.0 h.1 (none_before left _ p)) in
      (x.takes, x.parts, part_stores (has_value is_integer (found b).found) b h.2 (none_after left _ p)))
  of_node place (Call name es) =
      let given = map (infer names) (map (λ e. e.0) es) in
      unplaced names place (Call name given) (bare.Call name (bare_arguments (map bare_expr (map (λ e. e.0) es)))) _ never
      (λ h p o.
      passed_store (look names.text) _ (parameters_of (look names.text name))
      (all_store (map (λ e. e.0) es) (each es) h.1 (arguments_clean (meaning_of names name) given p)))
  of_node place (Element name a) =
      placed names place (Element name (found a)) (bare.Element name (tree a)) _
      (λ h p. part_stores (has_value is_integer (found a).found) a h p)
      (λ h p t e.
      element_taken names.text name place t (made_by a).tree (innermost names.scopes name) (defined names.text name) facts refl e
      (part_stores (has_value is_integer (found a).found) a h p))
  of_node place (Arrow a name) =
      placed names place (Arrow (found a) name) (bare.Arrow (tree a) name.text) _
      (λ h p. part_stores (has_value is_handle (found a).found) a h p)
      (λ h p t e. record { takes = (tt, tt); parts = part_stores (has_value is_handle (found a).found) a h p })
  of_node place (Dot a name) = unplaced names place (Dot (found a) name) (bare.Dot (tree a) name.text) _ never (λ h p o. tt)
  of_node place (Print at format es) =
      let given = map (infer names) (map (λ e. e.0) es) in
      unplaced names place (Print at format given) (bare.Print format (bare_arguments (map bare_expr (map (λ e. e.0) es)))) _ never
      (λ h p o. all_store (map (λ e. e.0) es) (each es) h (printed_clean given p))
  of_node place (Calloc tag) = unplaced names place (Calloc tag) (bare.Calloc tag.text) _ never (λ h p o. tt)
  of_node place (Free a) =
      unplaced names place (Free (found a)) (bare.Free (tree a)) _ never (λ h p o. part_stores (has_value is_handle (found a).found) a h p)
  of_node place (Create a name b) =
      let whole : Bool = has_value is_thread (found a).found in
      let left : List Fault = place_required whole (found a) in
      unplaced names place (Create (found a) name (found b)) (bare.Create (tree a) name.text (tree b)) _ never
      (λ h p o.
      let t = target whole a h.1 h.2 (none_before left _ p) in
      let x = of_type names.text (made_by a).place (bare_type t.type) bare.Thread (thread_is t.type (test_holds is_thread a t)) t.taken in (
        x.takes,
        spawned_returns_int names.text name.text (innermost names.scopes name.text) name.place place facts o,
        x.parts,
        handed_stores (look names.text) (parameters_of (look names.text name.text)) (made_by b).tree
            (part_stores (is_thread_argument (thread_parameter (meaning_of names name.text)) (found b).found) b h.3 (none_after left _ p)),
      ))
  of_node place (Join a) =
      unplaced names place (Join (found a)) (bare.Join (tree a)) _ never (λ h p o. part_stores (has_value is_thread (found a).found) a h p)
  of_node place (JoinInto a b) =
      let left : List Fault = required (has_value is_thread (found a).found) (found a) in
      let whole : Bool = has_value is_int (found b).found in
      unplaced names place (JoinInto (found a) (found b)) (bare.JoinInto (tree a) (tree b)) _ never
      (λ h p o.
      let t = target whole b h.0 h.2 (none_after left _ p) in
      let x = of_type names.text (made_by b).place (bare_type t.type) _ (int_is t.type (test_holds is_int b t)) t.taken in
      (x.takes, part_stores (has_value is_thread (found a).found) a h.1 (none_before left _ p), x.parts))
  of_node place (InitMutex name) = unplaced names place (InitMutex name) (bare.InitMutex name.text) _ never (λ h p o. tt)
  of_node place (Lock name) =
      unplaced names place (Lock name) (bare.Lock name.text) _ never
      (λ h p o. locked_is_mutex names.text name.text (innermost names.scopes name.text) name.place place facts o)
  of_node place (Unlock name) = unplaced names place (Unlock name) (bare.Unlock name.text) _ never (λ h p o. tt)

  kept : (e : Expr) → KeptExpr e
  kept = ind-Expr KeptExpr (λ x y is.
      let layer : Layer x = subst Layer is (of_node y.place y.node) in
      subst₂ (λ p b. IfClean names.text p b (resolved (look names.text) locals b))
      (sym (fold-roll-Expr Part (λ e. part names e.place e.node) x))
      (sym (fold-roll-Expr BareExpr (λ e. bare_node e.node) x)) layer)

  -- an expression without faults
  pub expression_stores : (e : Expr) → Clean (infer names e).found → Stores (look names.text) (made_of e).tree
  expression_stores e clean = (kept e (expression_sound names facts e clean) clean).stores
