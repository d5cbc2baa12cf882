-- The same of the forms that name something.
use Rattle.std.proofs.Common.{◌≡◌, ℕ, ◌==◌, Bool, true, false, IsTrue, List, [], ◌∷◌, ◌++◌, map, length, Option, Some, None, is_some, option_map, option_and_then, refl, sym, ap, subst, ◌∙◌, arith, rules, tests, if◌then◌else◌}
use Rattle.c_tree.specs.BareExpr.{Bytes, BareType, BareExpr, BareExprs}
use Rattle.c_tree.specs.BareExpr as bare
use Rattle.c_tree.specs.BareDef.{BareBinding}
use Rattle.c_tree.specs.Bare.{bare_arguments, bare_expr, bare_type}
use Rattle.c_tree.specs.declared.name.Name.{Name}
use Rattle.c_tree.specs.declared.name.CType.{CType}
use Rattle.c_tree.specs.declared.name.CType.TheVariants.{Handle}
use Rattle.c_tree.specs.declared.expr.Expr.{Expr}
use Rattle.c_tree.specs.declared.expr.ExprNode.TheVariants as node
use Rattle.c_tree.specs.declared.def.Binding.{Binding}
use Rattle.c_tree.specs.declared.def.Def.{Def}
use Rattle.c_expr_types.specs.declared.fault.Fault.{Fault}
use Rattle.c_expr_types.specs.declared.found.Found.{Found}
use Rattle.c_expr_types.specs.declared.found.Found.TheVariants.{Place, Value, Nothing, Designator}
use Rattle.c_expr_types.specs.declared.found.Part.{Part}
use Rattle.c_definitions.specs.Lookup.{Meaning, Names, defined, hidden_by, is_known, is_tag, meaning_of, members_of}
use Rattle.c_definitions.specs.Lookup.Meaning.{AVariable, AnArray, AFunction, AMutex}
use Rattle.c_expr_types.specs.Found.{converts, has_value, is_evaluated, is_handle, is_integer, is_scalar, is_value, place_required, required, type_of, value_of_type, wrong}
use Rattle.c_expr_types.specs.Found as found
use Rattle.c_expr_types.specs.declared.fault.TypeKind.TheVariants.{BadFormat, UnknownName, WrongCount, WrongType}
use Rattle.c_expr_types.specs.Formats.{fits_format}
use Rattle.c_expr_types.specs.Expressions.{argument_faults, call_type, conversion_faults, element_type, field_of, field_type, infer, is_int, is_thread, is_thread_argument, mutex_call_type, name_type, part, print_faults, spawn_type, thread_parameter, value_faults}
use Rattle.c_definitions.specs.Lookup.{member}
use Rattle.c_scope.specs.Tables.{innermost}
use Rattle.run_types.specs.Skeleton as kind
use Rattle.run_types.specs.CheckIns as check_in
use Rattle.c_semantics.specs.Names.{struct_name}
use Rattle.c_semantics.specs.Texts.{bound, bound_type, global_type, int, parameters_of, result_type}
use Rattle.c_semantics.specs.Texts as texts
use Rattle.c_semantics.specs.Resolved.{Expression, Expressions, NoExpressions, ExpressionThen}
use Rattle.c_semantics.specs.Resolved as made
use Rattle.c_semantics.specs.Resolution.{Resolved, field, handed, located, passed, resolved, resolved_all, tag_of, value, variable}
use Rattle.c_semantics.specs.Points.{of_expression, of_expressions, of_parts, writes}
use Rattle.typed_uses.proofs.Points.{Each, former, latter}
use Rattle.typed_uses.proofs.Faultless.{Clean, meets, none_after, none_before}
use Rattle.typed_uses.proofs.SoundTexts.{Facts}
use Rattle.typed_uses.proofs.Lookups.{Named, look}
use Rattle.typed_uses.proofs.Definitions.{HasType, array_type, function_type, named_in, struct_members, tag_named, variable_type}
use Rattle.typed_uses.proofs.Locals.{InStep, member_type}
use Rattle.typed_uses.proofs.Agreement.{Good, handle_is, located_good, value_good}
use Rattle.typed_uses.proofs.Nodes.{Fits, an_int, good_by, part_meets, placed, joined}

-- a name that is no variable's is one of the text's
outer_function : (i : Option CType) (m : Option Meaning) (r : Option CType) (ts : List CType) →
    hidden_by i m ≡ Some (AFunction r ts) → m ≡ Some (AFunction r ts)
outer_function None m r ts e = e
outer_function (Some t) m r ts e = cc

outer_array : (i : Option CType) (m : Option Meaning) (t : CType) → hidden_by i m ≡ Some (AnArray t) → m ≡ Some (AnArray t)
outer_array None m t e = e
outer_array (Some u) m t e = cc

outer_mutex : (i : Option CType) (m : Option Meaning) → hidden_by i m ≡ Some AMutex → m ≡ Some AMutex
outer_mutex None m e = e
outer_mutex (Some u) m e = cc

-- a name by itself
name_good : (text : List Def) (at : ℕ) (name : Bytes) (i : Option CType) (b : Option BareBinding) (m : Option Meaning) → Facts text →
    option_map (λ c. c.declared) b ≡ option_map bare_type i → ((t : CType) → i ≡ Some t → IsTrue (is_known text t)) →
    defined text name ≡ m → Clean (name_type (hidden_by i m) at) → Good text (name_type (hidden_by i m) at) (variable (look text) name b)
name_good text at name (Some t) (Some b) m facts same k is clean =
    located_good text (Place t) _ _ (record { is = cc; known = k t refl }) tt tt tt
name_good text at name (Some t) None m facts same k is clean = cc
name_good text at name None (Some b) m facts same k is clean = cc
name_good text at name None None None facts same k is clean = cc
name_good text at name None None (Some (AVariable t)) facts same k is clean =
    let there : Each (Named text) (kind.ReadGlobal name ∷ []) = (named_in text name (AVariable t) is, tt) in
    located_good text (Place t) _ _ (variable_type text name t facts is) tt there there
name_good text at name None None (Some (AnArray t)) facts same k is clean =
    let there : Each (Named text) (kind.ReadGlobal name ∷ []) = (named_in text name (AnArray t) is, tt) in
    located_good text Designator _ _ tt tt there there
name_good text at name None None (Some (AFunction r ts)) facts same k is clean =
    let there : Each (Named text) (kind.ReadGlobal name ∷ []) = (named_in text name (AFunction r ts) is, tt) in
    located_good text Designator _ _ tt tt there there
name_good text at name None None (Some AMutex) facts same k is clean =
    let there : Each (Named text) (kind.ReadGlobal name ∷ []) = (named_in text name AMutex is, tt) in
    located_good text Designator _ _ tt tt there there

pub named : (names : Names) (locals : List BareBinding) (at : ℕ) (name : Bytes) → Facts names.text → InStep names.text names.scopes locals →
    Fits names.text (part names at (node.Variable name)) (variable (look names.text) name (bound locals name))
named names locals at name facts s =
    good_by names at (node.Variable name) _ (λ p o.
    name_good names.text at name (innermost names.scopes name) (bound locals name) (defined names.text name) facts (s.same name) (s.known name) refl o)

-- an element of an array
element_good : (text : List Def) (at : ℕ) (name : Bytes) (i : Option CType) (m : Option Meaning) (index : Expression) → Facts text →
    hidden_by i (defined text name) ≡ m → Each (Named text) (of_expression index) → Clean (element_type m at) →
    Good text (element_type m at) (located (made.Element name index) (global_type (look text name)))
element_good text at name i None index facts is each clean = cc
element_good text at name i (Some (AVariable t)) index facts is each clean = cc
element_good text at name i (Some (AnArray t)) index facts is each clean =
    let defined_as = outer_array i (defined text name) t is in
    let there : Each (Named text) (kind.ReadElement name ∷ []) = (named_in text name (AnArray t) defined_as, tt) in
    located_good text (Place t) _ _ (array_type text name t facts defined_as) each there there
element_good text at name i (Some (AFunction r ts)) index facts is each clean = cc
element_good text at name i (Some AMutex) index facts is each clean = cc

pub element : (names : Names) (at : ℕ) (name : Bytes) (a : Part) (x : Resolved) → Facts names.text → Fits names.text a x →
    Fits names.text (part names at (node.Element name a)) (located (made.Element name x.tree) (global_type (look names.text name)))
element names at name a x facts f =
    good_by names at (node.Element name a) _ (λ p o.
    let m = part_meets names.text (has_value is_integer a.found) a x f p in
    element_good names.text at name (innermost names.scopes name) (meaning_of names name) x.tree facts refl m.good.tree o)

-- a field
field_good : (text : List Def) (at : ℕ) (tag : Name) (name : Bytes) (x : Resolved) (members : Option (List Binding)) → Facts text →
    members_of text tag.text ≡ members → IsTrue (is_known text (Handle tag)) → Each (Named text) (of_expression x.tree) →
    Clean (field_type (option_and_then (λ ms. member ms name) members) at) →
    Good text (field_type (option_and_then (λ ms. member ms name) members) at)
    (located (made.Field tag.text x.tree name) (bound_type (texts.members_of (look text (struct_name tag.text))) name))
field_good text at tag name x None facts is k each clean = cc
field_good text at tag name x (Some members) facts is k each clean = by (member members name) refl clean
  where
    r : Resolved
    r = located (made.Field tag.text x.tree name) (bound_type (texts.members_of (look text (struct_name tag.text))) name)

    by : (o : Option CType) → member members name ≡ o → Clean (field_type o at) → Good text (field_type o at) r
    by None e clean = cc
    by (Some t) e clean =
        let all = struct_members text tag.text members facts is in
        let there : Each (Named text) (kind.ReadField (struct_name tag.text) ∷ []) = (tag_named text tag.text facts k, tt) in
        located_good text (Place t) _ _
        (subst (λ ms. HasType text (bound_type ms name) t) (sym all.0) (member_type text [] members name t all.1 e)) each there there

pub arrow : (names : Names) (at : ℕ) (a : Part) (name : Name) (x : Resolved) → Facts names.text → Fits names.text a x →
    Fits names.text (part names at (node.Arrow a name)) (field (look names.text) x name.text)
arrow names at a name x facts f =
    good_by names at (node.Arrow a name) _ (λ p o.
    let m = part_meets names.text (has_value is_handle a.found) a x f p in
    let h = handle_is names.text a.found x.type m.holds m.good.type in
    let F = λ (o : Option CType). field_type (field_of names.text o name.text) name.place in
    let R = λ (type : BareType).
    located (made.Field (tag_of type) x.tree name.text)
    (bound_type (texts.members_of (look names.text (struct_name (tag_of type)))) name.text) in
    let g : Good names.text (F (Some (Handle h.tag))) (R (bare.Handle h.tag.text)) =
    field_good names.text name.place h.tag name.text x (members_of names.text h.tag.text) facts refl h.has.known m.good.tree
    (subst (λ t. Clean (F t)) h.of o) in
    subst (λ t. Good names.text (F t) (R x.type)) (sym h.of)
    (subst (λ type. Good names.text (F (Some (Handle h.tag))) (R type)) (sym h.has.is) g))

pub dot : (names : Names) (at : ℕ) (a : Part) (name : Name) (r : Resolved) → Fits names.text (part names at (node.Dot a name)) r
dot names at a name r = good_by names at (node.Dot a name) r (λ p o. cc)

-- objects
pub calloc : (names : Names) (at : ℕ) (tag : Name) → Facts names.text →
    Fits names.text (part names at (node.Calloc tag)) (value (made.New tag.text) (bare.Handle tag.text))
calloc names at tag facts =
    good_by names at (node.Calloc tag) _ (λ p o. by (is_tag names.text tag.text) refl o)
  where
    found_if : Bool → Found
    found_if b = if b then Value (Handle tag) else wrong UnknownName tag.place

    by : (b : Bool) → is_tag names.text tag.text ≡ b → Clean (found_if b) → Good names.text (found_if b) (value (made.New tag.text) (bare.Handle tag.text))
    by true e clean = value_good names.text _ _ _ (record { is = refl; known = e }) (tag_named names.text tag.text facts e, tt)
    by false e clean = cc

pub free : (names : Names) (at : ℕ) (a : Part) (x : Resolved) → Facts names.text → Fits names.text a x →
    Fits names.text (part names at (node.Free a)) (value (made.Free (tag_of x.type) x.tree) int)
free names at a x facts f =
    good_by names at (node.Free a) _ (λ p o.
    let m = part_meets names.text (has_value is_handle a.found) a x f p in
    let h = handle_is names.text a.found x.type m.holds m.good.type in
    subst (λ type. Good names.text Nothing (value (made.Free (tag_of type) x.tree) int)) (sym h.has.is)
    (value_good names.text Nothing _ _ tt
    (joined names.text (of_expression x.tree) _ m.good.tree (tag_named names.text h.tag.text facts h.has.known, tt))))

-- threads and mutexes
thread_function : (m : Meaning) (t : Option CType) → thread_parameter (Some m) ≡ t → is_some t ≡ true →
    (r : CType) × (u : CType) × (m ≡ AFunction (Some r) (u ∷ []))
thread_function (AVariable u) t e s = cc
thread_function (AnArray u) t e s = cc
thread_function AMutex t e s = cc
thread_function (AFunction None ts) t e s = cc
thread_function (AFunction (Some r) []) t e s = cc
thread_function (AFunction (Some r) (u ∷ [])) t e s = (r, u, refl)
thread_function (AFunction (Some r) (u ∷ v ∷ ts)) t e s = cc

spawned : (text : List Def) (name : Bytes) (at place : ℕ) (i : Option CType) (m : Option Meaning) (r : Resolved) →
    hidden_by i (defined text name) ≡ m → (Named text name → Good text (Value found.int) r) → Clean (spawn_type m place at) →
    Good text (spawn_type m place at) r
spawned text name at place i None r is good clean = cc
spawned text name at place i (Some m) r is good clean = by (is_some (thread_parameter (Some m))) refl clean
  where
    found_if : Bool → Found
    found_if b = if b then Value found.int else wrong WrongType at

    by : (b : Bool) → is_some (thread_parameter (Some m)) ≡ b → Clean (found_if b) → Good text (found_if b) r
    by true e clean =
        let f = thread_function m (thread_parameter (Some m)) refl e in
        good (named_in text name (AFunction (Some f.0) (f.1 ∷ []))
        (outer_function i (defined text name) (Some f.0) (f.1 ∷ []) (is ∙ ap Some f.2)))
    by false e clean = cc

handed_each : (text : List Def) (parameters : List BareBinding) (e : Expression) → Each (Named text) (of_expression e) →
    Each (Named text) (of_expression (handed parameters e))
handed_each text [] e each = each
handed_each text (p ∷ ps) e each = each

pub created : (names : Names) (at : ℕ) (a b : Part) (name : Name) (x y : Resolved) → Fits names.text a x → Fits names.text b y →
    Fits names.text (part names at (node.Create a name b))
    (value (made.Create x.place name.text (handed (parameters_of (look names.text name.text)) y.tree)) int)
created names at a b name x y f g =
    good_by names at (node.Create a name b) _ (λ p o.
    let argument : Expression = handed (parameters_of (look names.text name.text)) y.tree in
    let m = placed names.text (has_value is_thread a.found) a x f (none_before (place_required (has_value is_thread a.found) a) _ p) in
    let n = part_meets names.text (is_thread_argument (thread_parameter (meaning_of names name.text)) b.found) b y g
    (none_after (place_required (has_value is_thread a.found) a) _ p) in
    spawned names.text name.text at name.place (innermost names.scopes name.text) (meaning_of names name.text) _ refl
    (λ there. value_good names.text _ _ _ (an_int names.text)
    (joined names.text (of_parts x.place ++ of_expression argument) (kind.Spawn name.text ∷ writes x.place)
    (joined names.text (of_parts x.place) (of_expression argument) m.good.parts
    (handed_each names.text (parameters_of (look names.text name.text)) y.tree n.good.tree)) (there, m.good.writes))) o)

pub join : (names : Names) (at : ℕ) (a : Part) (x : Resolved) → Fits names.text a x →
    Fits names.text (part names at (node.Join a)) (value (made.Join x.tree) int)
join names at a x f =
    good_by names at (node.Join a) _ (λ p o.
    let m = part_meets names.text (has_value is_thread a.found) a x f p in
    value_good names.text _ _ _ (an_int names.text) (joined names.text (of_expression x.tree) (kind.Join ∷ []) m.good.tree (tt, tt)))

pub join_into : (names : Names) (at : ℕ) (a b : Part) (x y : Resolved) → Fits names.text a x → Fits names.text b y →
    Fits names.text (part names at (node.JoinInto a b)) (value (made.JoinInto x.tree y.place) int)
join_into names at a b x y f g =
    good_by names at (node.JoinInto a b) _ (λ p o.
    let m = part_meets names.text (has_value is_thread a.found) a x f (none_before (required (has_value is_thread a.found) a) _ p) in
    let n = placed names.text (has_value is_int b.found) b y g (none_after (required (has_value is_thread a.found) a) _ p) in
    value_good names.text _ _ _ (an_int names.text)
    (joined names.text (of_expression x.tree ++ of_parts y.place) (kind.Join ∷ writes y.place)
    (joined names.text (of_expression x.tree) (of_parts y.place) m.good.tree n.good.parts) (tt, n.good.writes)))

mutex_good : (text : List Def) (name : Bytes) (at place : ℕ) (i : Option CType) (m : Option Meaning) (r : Resolved) →
    hidden_by i (defined text name) ≡ m → (Named text name → Good text (Value found.int) r) → Clean (mutex_call_type m place at) →
    Good text (mutex_call_type m place at) r
mutex_good text name at place i None r is good clean = cc
mutex_good text name at place i (Some (AVariable t)) r is good clean = cc
mutex_good text name at place i (Some (AnArray t)) r is good clean = cc
mutex_good text name at place i (Some (AFunction q ts)) r is good clean = cc
mutex_good text name at place i (Some AMutex) r is good clean = good (named_in text name AMutex (outer_mutex i (defined text name) is))

pub mutex_made : (names : Names) (at : ℕ) (name : Name) →
    Fits names.text (part names at (node.InitMutex name)) (value (made.InitMutex name.text) int)
mutex_made names at name =
    good_by names at (node.InitMutex name) _ (λ p o.
    mutex_good names.text name.text at name.place (innermost names.scopes name.text) (meaning_of names name.text) _ refl
    (λ there. value_good names.text _ _ _ (an_int names.text) (there, tt)) o)

pub locked : (names : Names) (at : ℕ) (name : Name) →
    Fits names.text (part names at (node.Lock name)) (value (made.Lock name.text) int)
locked names at name =
    good_by names at (node.Lock name) _ (λ p o.
    mutex_good names.text name.text at name.place (innermost names.scopes name.text) (meaning_of names name.text) _ refl
    (λ there. value_good names.text _ _ _ (an_int names.text) (there, tt)) o)

pub unlocked : (names : Names) (at : ℕ) (name : Name) →
    Fits names.text (part names at (node.Unlock name)) (value (made.Unlock name.text) int)
unlocked names at name =
    good_by names at (node.Unlock name) _ (λ p o.
    mutex_good names.text name.text at name.place (innermost names.scopes name.text) (meaning_of names name.text) _ refl
    (λ there. value_good names.text _ _ _ (an_int names.text) (there, tt)) o)

-- arguments
abbrev pub Cleans : List Part → Type 0
Cleans [] = Unit {0}
Cleans (p ∷ ps) = Clean p.found × Cleans ps

values_clean : (ps : List Part) → value_faults ps ≡ [] → Cleans ps
values_clean [] e = tt
values_clean (p ∷ ps) e =
    let own : List Fault = required (is_value p.found) p in
    ((meets (is_value p.found) p (none_before own _ e)).1, values_clean ps (none_after own _ e))

printed_clean : (ps : List Part) → print_faults ps ≡ [] → Cleans ps
printed_clean [] e = tt
printed_clean (p ∷ ps) e =
    let own : List Fault = required (is_evaluated p.found) p in
    ((meets (is_evaluated p.found) p (none_before own _ e)).1, printed_clean ps (none_after own _ e))

converted_clean : (ts : List CType) (ps : List Part) → length ts ≡ length ps → conversion_faults ts ps ≡ [] → Cleans ps
converted_clean ts [] same e = tt
converted_clean [] (p ∷ ps) same e = absurd (omega (arith, same))
converted_clean (t ∷ ts) (p ∷ ps) same e =
    let own : List Fault = required (converts t p.found) p in
    ((meets (converts t p.found) p (none_before own _ e)).1, converted_clean ts ps (omega (arith, same)) (none_after own _ e))

pub arguments_clean : (m : Option Meaning) (ps : List Part) → argument_faults m ps ≡ [] → Cleans ps
arguments_clean None ps e = values_clean ps e
arguments_clean (Some (AVariable t)) ps e = values_clean ps e
arguments_clean (Some (AnArray t)) ps e = values_clean ps e
arguments_clean (Some AMutex) ps e = values_clean ps e
arguments_clean (Some (AFunction r ts)) ps e = by (length ts == length ps) refl e
  where
    by : (b : Bool) → (length ts == length ps) ≡ b → (if b then conversion_faults ts ps else value_faults ps) ≡ [] → Cleans ps
    by true same e = converted_clean ts ps (search (rules, tests, same)) e
    by false same e = values_clean ps e

passed_each : (text : List Def) (es : Expressions) (parameters : List BareBinding) → Each (Named text) (of_expressions es) →
    Each (Named text) (of_expressions (passed es parameters))
passed_each text NoExpressions parameters each = each
passed_each text (ExpressionThen e es) [] each =
    joined text (of_expression e) (of_expressions (passed es [])) (former (Named text) (of_expression e) (of_expressions es) each)
    (passed_each text es [] (latter (Named text) (of_expression e) (of_expressions es) each))
passed_each text (ExpressionThen e es) (p ∷ ps) each =
    joined text (of_expression e) (of_expressions (passed es ps)) (former (Named text) (of_expression e) (of_expressions es) each)
    (passed_each text es ps (latter (Named text) (of_expression e) (of_expressions es) each))

-- an expression, and each of some
abbrev pub FitsIn : Names → List BareBinding → Expr → Type 0
FitsIn names locals e = Fits names.text (infer names e) (resolved (look names.text) locals (bare_expr e))

abbrev pub EachFits : Names → List BareBinding → List Expr → Type 0
EachFits names locals [] = Unit {0}
EachFits names locals (e ∷ es) = FitsIn names locals e × EachFits names locals es

abbrev pub resolved_each : Names → List BareBinding → List Expr → Expressions
resolved_each names locals es = resolved_all (look names.text) locals (bare_arguments (map bare_expr es))

arguments_each : (names : Names) (locals : List BareBinding) (es : List Expr) → EachFits names locals es → Cleans (map (infer names) es) →
    Each (Named names.text) (of_expressions (resolved_each names locals es))
arguments_each names locals [] fit clean = tt
arguments_each names locals (e ∷ es) fit clean =
    let g : Good names.text (infer names e).found (resolved (look names.text) locals (bare_expr e)) = fit.0 clean.0 in
    joined names.text (of_expression (resolved (look names.text) locals (bare_expr e)).tree) (of_expressions (resolved_each names locals es)) g.tree
    (arguments_each names locals es fit.1 clean.1)

call_good : (text : List Def) (at count : ℕ) (name : Bytes) (i : Option CType) (m : Option Meaning) (tree : Expression) → Facts text →
    hidden_by i (defined text name) ≡ m → (Named text name → Each (Named text) (of_expression tree)) → Clean (call_type m at count) →
    Good text (call_type m at count) (value tree (result_type (look text name)))
call_good text at count name i None tree facts is each clean = cc
call_good text at count name i (Some (AVariable t)) tree facts is each clean = cc
call_good text at count name i (Some (AnArray t)) tree facts is each clean = cc
call_good text at count name i (Some AMutex) tree facts is each clean = cc
call_good text at count name i (Some (AFunction r ts)) tree facts is each clean = by (length ts == count) clean
  where
    defined_as : defined text name ≡ Some (AFunction r ts)
    defined_as = outer_function i (defined text name) r ts is

    result : (o : Option CType) → r ≡ o → Good text (value_of_type o) (value tree (result_type (look text name)))
    result None e = value_good text Nothing _ _ tt (each (named_in text name (AFunction r ts) defined_as))
    result (Some t) e =
        value_good text (Value t) _ _ (function_type text name t ts facts (defined_as ∙ ap (λ o. Some (AFunction o ts)) e))
        (each (named_in text name (AFunction r ts) defined_as))

    found_if : Bool → Found
    found_if b = if b then value_of_type r else wrong WrongCount at

    by : (b : Bool) → Clean (found_if b) → Good text (found_if b) (value tree (result_type (look text name)))
    by true clean = result r refl
    by false clean = cc

pub called : (names : Names) (locals : List BareBinding) (at : ℕ) (name : Bytes) (es : List Expr) → Facts names.text → EachFits names locals es →
    Fits names.text (part names at (node.Call name (map (infer names) es)))
    (value (made.Call name (passed (resolved_each names locals es) (parameters_of (look names.text name)))) (result_type (look names.text name)))
called names locals at name es facts fit =
    good_by names at (node.Call name (map (infer names) es)) _ (λ p o.
    let arguments : Expressions = passed (resolved_each names locals es) (parameters_of (look names.text name)) in
    let clean = arguments_clean (meaning_of names name) (map (infer names) es) p in
    let each = passed_each names.text (resolved_each names locals es) (parameters_of (look names.text name)) (arguments_each names locals es fit clean) in
    call_good names.text at (length (map (infer names) es)) name (innermost names.scopes name) (meaning_of names name) (made.Call name arguments)
    facts refl (λ there. joined names.text (of_expressions arguments) (kind.Call name ∷ kind.CheckIn check_in.Call ∷ []) each (there, (tt, tt))) o)

pub printed : (names : Names) (locals : List BareBinding) (at place : ℕ) (format : List ℕ) (es : List Expr) → EachFits names locals es →
    Fits names.text (part names at (node.Print place format (map (infer names) es))) (value (made.Print format (resolved_each names locals es)) int)
printed names locals at place format es fit =
    good_by names at (node.Print place format (map (infer names) es)) _ (λ p o.
    by (fits_format format (map (infer names) es)) o
    (joined names.text (of_expressions (resolved_each names locals es)) (kind.Print ∷ [])
    (arguments_each names locals es fit (printed_clean (map (infer names) es) p)) (tt, tt)))
  where
    r : Resolved
    r = value (made.Print format (resolved_each names locals es)) int

    found_if : Bool → Found
    found_if b = if b then Nothing else wrong BadFormat place

    by : (b : Bool) → Clean (found_if b) → Each (Named names.text) (of_expression r.tree) → Good names.text (found_if b) r
    by true clean each = value_good names.text Nothing _ _ tt each
    by false clean each = cc
