-- The same of the forms that name something.
use Rattle.std.proofs.Common.{◌≡◌, ℕ, ◌==◌, Bool, true, false, IsTrue, ◌&&◌, List, [], ◌∷◌, map, length, Option, Some, None, is_some, option_map, option_and_then, refl, sym, ap, subst, ◌∙◌, arith, rules, tests, if◌then◌else◌}
use Rattle.std.specs.Option.{option_map_or}
use Rattle.c_ints.specs.declared.kind.Kind.{Kind}
use Rattle.c_ints.specs.Kind.{promoted}
use Rattle.c_format.specs.declared.reading.Reading.TheVariants.{Text}
use Rattle.c_format.specs.Formats.{kinds}
use Rattle.c_tree.specs.BareExpr.{Bytes, BareType, BareExpr, BareExprs}
use Rattle.c_tree.specs.BareExpr as bare
use Rattle.c_tree.specs.BareDef.{BareBinding}
use Rattle.c_tree.specs.Bare.{bare_binding, bare_expr, bare_type}
use Rattle.c_tree.specs.declared.name.Name.{Name}
use Rattle.c_tree.specs.declared.name.CType.{CType}
use Rattle.c_tree.specs.declared.name.CType.TheVariants.{Integer, Handle, Thread}
use Rattle.c_tree.specs.declared.expr.Expr.{Expr}
use Rattle.c_tree.specs.declared.expr.ExprNode.TheVariants as node
use Rattle.c_tree.specs.declared.def.Binding.{Binding}
use Rattle.c_tree.specs.declared.def.Def.{Def}
use Rattle.c_scope.specs.Tables.{innermost}
use Rattle.c_expr_types.specs.declared.fault.Fault.{Fault}
use Rattle.c_expr_types.specs.declared.fault.TypeKind.TheVariants.{BadFormat, UnknownName, WrongCount, WrongType}
use Rattle.c_expr_types.specs.declared.found.Found.TheVariants.{Place, Value, Nothing, Designator}
use Rattle.c_expr_types.specs.declared.found.Part.{Part}
use Rattle.c_definitions.specs.Lookup.{Meaning, Names, defined, hidden_by, is_tag, meaning_of, members_of, types_of}
use Rattle.c_definitions.specs.Lookup.Meaning.{AVariable, AnArray, AFunction, AMutex}
use Rattle.c_expr_types.specs.Found as found
use Rattle.c_expr_types.specs.Found.{converts, has_value, is_evaluated, is_handle, is_integer, is_scalar, is_value, kind_of_type, place_required, required, same_kind, same_type, type_of, value_of_type, wrong}
use Rattle.c_expr_types.specs.Formats.{are_taken, fits_format, is_promoted_to, take_all}
use Rattle.c_expr_types.specs.Expressions.{argument_faults, call_type, conversion_faults, element_type, field_of, field_type, infer, is_int, is_thread, is_thread_argument, mutex_call_type, name_type, part, print_faults, spawn_type, thread_parameter, value_faults}
use Rattle.c_definitions.specs.Lookup.{member}
use Rattle.c_semantics.specs.Names.{struct_name}
use Rattle.c_semantics.specs.Texts.{bound, bound_type, global_type, int, parameters_of, result_type}
use Rattle.c_semantics.specs.Texts as texts
use Rattle.c_semantics.specs.Resolved.{Expression, Expressions, NoExpressions, ExpressionThen}
use Rattle.c_semantics.specs.Resolved as made
use Rattle.c_semantics.specs.Resolution.{Resolved, field, handed, located, passed, resolved, tag_of, value, variable}
use Rattle.typed_uses.proofs.Faultless.{Clean, none_after, none_before}
use Rattle.typed_uses.proofs.SoundTexts.{Facts}
use Rattle.typed_uses.proofs.Lookups.{look}
use Rattle.typed_uses.proofs.Definitions.{struct_members}
use Rattle.typed_uses.proofs.Locals.{InStep}
use Rattle.typed_uses.proofs.Agreement.{TypeFits, handle_is}
use Rattle.typed_uses.proofs.NamedNodes.{resolved_each}
use Rattle.typed_trees.specs.ValueTypes.{Environment, in_scope}
use Rattle.typed_trees.specs.ExpressionTypes.{ArePrinted, AreTyped, FitFormat, IsFunction, IsInteger, IsPlaced, IsTyped, Runs, parameter_types, place_type, types_of as tree_types}
use Rattle.typed_trees.specs.ExpressionTypes as tree
use Rattle.typed_texts.proofs.FoundTypes.{Fits, both, convert, evaluated, integer_found, never, one_kind, one_type, same_found, valued}
use Rattle.typed_texts.proofs.Meanings.{array_named, function_named, member_bound, mutex_named, outer_named, struct_named, variable_named}
use Rattle.typed_texts.proofs.Nodes.{Has, IfClean, fits_by, of_type_plain, part_meets, part_placed, plain}

-- the variables in scope have the same types by resolution and in the environment
abbrev pub InEnvironment : List BareBinding → Environment → Type 0
InEnvironment locals env =
    (name : Bytes) → option_map (λ b. b.declared) (bound locals name) ≡ option_map (λ b. b.declared) (bound (in_scope env) name)

-- a place that is found
pub placed_fits : (text : List Def) (env : Environment) (t : CType) (place : made.Place) (type : BareType) → IsPlaced (look text) env place
    → place_type (look text) env place ≡ type → Fits text env (Place t) (located place type)
placed_fits text env t place type p e =
    record { typed = λ _. p; type = λ _. e; placed = λ u _. (p, e); null = λ x. absurd (never x) }

-- ---- a name by itself

designator_fits : (text : List Def) (env : Environment) (r : Resolved) → Fits text env Designator r
designator_fits text env r =
    record { typed = λ e. absurd (never e); type = λ e. absurd (never e); placed = λ t e. absurd (other t e); null = λ e. absurd (never e) }
  where
    other : (t : CType) → Designator ≡ Place t → ⊥
    other t e = cc

name_fits : (text : List Def) (env : Environment) (at : ℕ) (name : Bytes) (i : Option CType) (b c : Option BareBinding) (m : Option Meaning)
    → Facts text → option_map (λ x. x.declared) b ≡ option_map bare_type i → option_map (λ x. x.declared) b ≡ option_map (λ x. x.declared) c
    → bound (in_scope env) name ≡ c → defined text name ≡ m → Clean (name_type (hidden_by i m) at)
    → Fits text env (name_type (hidden_by i m) at) (variable (look text) name b)
name_fits text env at name (Some t) (Some b) (Some c) m facts same within is e clean =
    placed_fits text env t (made.Local name) b.declared (subst (λ o. IsTrue (is_some o)) (sym is) refl)
    (subst (λ o. option_map_or (λ x. x.declared) o int ≡ b.declared) (sym is) (declared_is within))
  where
    declared_is : Some b.declared ≡ Some c.declared → c.declared ≡ b.declared
    declared_is e = cc
name_fits text env at name (Some t) (Some b) None m facts same within is e clean = cc
name_fits text env at name (Some t) None c m facts same within is e clean = cc
name_fits text env at name None (Some b) c m facts same within is e clean = cc
name_fits text env at name None None c None facts same within is e clean = cc
name_fits text env at name None None c (Some (AVariable t)) facts same within is e clean =
    placed_fits text env t (made.Global name) (global_type (look text name)) (variable_named text name t facts e) refl
name_fits text env at name None None c (Some (AnArray t)) facts same within is e clean = designator_fits text env _
name_fits text env at name None None c (Some (AFunction r ts)) facts same within is e clean = designator_fits text env _
name_fits text env at name None None c (Some AMutex) facts same within is e clean = designator_fits text env _

pub variable_fits : (names : Names) (locals : List BareBinding) (env : Environment) (at : ℕ) (name : Bytes) → Facts names.text
    → InStep names.text names.scopes locals → InEnvironment locals env → Clean (part names at (node.Variable name)).found
    → Fits names.text env (part names at (node.Variable name)).found (variable (look names.text) name (bound locals name))
variable_fits names locals env at name facts s within = fits_by names env at (node.Variable name) _ (λ p o.
    name_fits names.text env at name (innermost names.scopes name) (bound locals name) (bound (in_scope env) name) (defined names.text name) facts
    (s.same name) (within name) refl refl o)

-- ---- elements and fields

no_variable_array : (t u : CType) → AnArray t ≡ AVariable u → ⊥
no_variable_array t u e = cc

no_variable_function : (r : Option CType) (ts : List CType) (u : CType) → AFunction r ts ≡ AVariable u → ⊥
no_variable_function r ts u e = cc

no_variable_mutex : (u : CType) → AMutex ≡ AVariable u → ⊥
no_variable_mutex u e = cc

pub element_fits : (names : Names) (env : Environment) (at : ℕ) (name : Bytes) (a : Part) (x : Resolved) → Facts names.text → IfClean names.text env a x
    → Clean (part names at (node.Element name a)).found
    → Fits names.text env (part names at (node.Element name a)).found (located (made.Element name x.tree) (global_type (look names.text name)))
element_fits names env at name a x facts f = fits_by names env at (node.Element name a) _ (λ p o.
    let m = part_meets names.text env (has_value is_integer a.found) a x f p in
    let ev = evaluated is_integer a.found m.holds in
    by (meaning_of names name) refl o (m.has.fits.typed ev)
    (subst IsInteger (sym (m.has.fits.type ev)) (integer_found names.text a.found x.type m.holds m.has.good.type)))
  where
    by : (m : Option Meaning) → meaning_of names name ≡ m → Clean (element_type m at) → IsTyped (look names.text) env x.tree
        → IsInteger (tree.type_of (look names.text) env x.tree)
        → Fits names.text env (element_type m at) (located (made.Element name x.tree) (global_type (look names.text name)))
    by None is clean t i = cc
    by (Some (AVariable u)) is clean t i = cc
    by (Some (AnArray u)) is clean t i =
        let there = array_named names.text name u facts (outer_named names name (AnArray u) (no_variable_array u) is) in
        placed_fits names.text env u (made.Element name x.tree) (global_type (look names.text name)) (t, i, there) refl
    by (Some (AFunction r ts)) is clean t i = cc
    by (Some AMutex) is clean t i = cc

field_fits : (text : List Def) (env : Environment) (at : ℕ) (tag : Name) (name : Bytes) (x : Resolved) (members : Option (List Binding)) → Facts text
    → members_of text tag.text ≡ members → IsTyped (look text) env x.tree → tree.type_of (look text) env x.tree ≡ bare.Handle tag.text
    → Clean (field_type (option_and_then (λ ms. member ms name) members) at)
    → Fits text env (field_type (option_and_then (λ ms. member ms name) members) at)
    (located (made.Field tag.text x.tree name) (bound_type (texts.members_of (look text (struct_name tag.text))) name))
field_fits text env at tag name x None facts is t e clean = cc
field_fits text env at tag name x (Some members) facts is t e clean = by (member members name) refl clean
  where
    by : (o : Option CType) → member members name ≡ o → Clean (field_type o at)
        → Fits text env (field_type o at)
        (located (made.Field tag.text x.tree name) (bound_type (texts.members_of (look text (struct_name tag.text))) name))
    by None m clean = cc
    by (Some u) m clean =
        let all = struct_members text tag.text members facts is in
        placed_fits text env u (made.Field tag.text x.tree name) _
        (t, e, subst (λ ms. IsTrue (is_some (bound ms name))) (sym all.0) (member_bound members name u m)) refl

pub arrow_fits : (names : Names) (env : Environment) (at : ℕ) (a : Part) (name : Name) (x : Resolved) → Facts names.text → IfClean names.text env a x
    → Clean (part names at (node.Arrow a name)).found
    → Fits names.text env (part names at (node.Arrow a name)).found (field (look names.text) x name.text)
arrow_fits names env at a name x facts f = fits_by names env at (node.Arrow a name) _ (λ p o.
    let m = part_meets names.text env (has_value is_handle a.found) a x f p in
    let h = handle_is names.text a.found x.type m.holds m.has.good.type in
    let ev = evaluated is_handle a.found m.holds in
    let F = λ (o : Option CType). field_type (field_of names.text o name.text) name.place in
    let R = λ (type : BareType).
    located (made.Field (tag_of type) x.tree name.text)
    (bound_type (texts.members_of (look names.text (struct_name (tag_of type)))) name.text) in
    let g : Fits names.text env (F (Some (Handle h.tag))) (R (bare.Handle h.tag.text)) =
    field_fits names.text env name.place h.tag name.text x (members_of names.text h.tag.text) facts refl (m.has.fits.typed ev)
    (m.has.fits.type ev ∙ h.has.is) (subst (λ t. Clean (F t)) h.of o) in
    subst (λ t. Fits names.text env (F t) (R x.type)) (sym h.of)
    (subst (λ type. Fits names.text env (F (Some (Handle h.tag))) (R type)) (sym h.has.is) g))

pub dot_fits : (names : Names) (env : Environment) (at : ℕ) (a : Part) (name : Name) (r : Resolved) → Clean (part names at (node.Dot a name)).found
    → Fits names.text env (part names at (node.Dot a name)).found r
dot_fits names env at a name r = fits_by names env at (node.Dot a name) r (λ p o. cc)

-- ---- objects

pub calloc_fits : (names : Names) (env : Environment) (at : ℕ) (tag : Name) → Facts names.text → Clean (part names at (node.Calloc tag)).found
    → Fits names.text env (part names at (node.Calloc tag)).found (value (made.New tag.text) (bare.Handle tag.text))
calloc_fits names env at tag facts = fits_by names env at (node.Calloc tag) _ (λ p o. by (is_tag names.text tag.text) refl o)
  where
    by : (b : Bool) → is_tag names.text tag.text ≡ b → Clean (if b then Value (Handle tag) else wrong UnknownName tag.place)
        → Fits names.text env (if b then Value (Handle tag) else wrong UnknownName tag.place) (value (made.New tag.text) (bare.Handle tag.text))
    by true e clean = plain names.text env (Value (Handle tag)) _ tt (struct_named names.text tag.text facts e) refl
    by false e clean = cc

pub free_fits : (names : Names) (env : Environment) (at : ℕ) (a : Part) (x : Resolved) → IfClean names.text env a x
    → Clean (part names at (node.Free a)).found
    → Fits names.text env (part names at (node.Free a)).found (value (made.Free (tag_of x.type) x.tree) int)
free_fits names env at a x f = fits_by names env at (node.Free a) _ (λ p o.
    let m = part_meets names.text env (has_value is_handle a.found) a x f p in
    let h = handle_is names.text a.found x.type m.holds m.has.good.type in
    let ev = evaluated is_handle a.found m.holds in
    subst (λ type. Fits names.text env Nothing (value (made.Free (tag_of type) x.tree) int)) (sym h.has.is)
    (plain names.text env Nothing _ tt (m.has.fits.typed ev, m.has.fits.type ev ∙ h.has.is) refl))

-- ---- threads

-- a function that a thread can run, as it is found
record ThreadFunction (m : Meaning) (t : CType) : Type 0 where
  result : CType
  is : m ≡ AFunction (Some result) (t ∷ [])
  returns : bare_type result ≡ int

thread_function : (m : Meaning) (o : Option CType) (t : CType) → thread_parameter (Some m) ≡ o → o ≡ Some t → ThreadFunction m t
thread_function (AVariable u) o t e s = cc
thread_function (AnArray u) o t e s = cc
thread_function AMutex o t e s = cc
thread_function (AFunction None ts) o t e s = cc
thread_function (AFunction (Some r) []) o t e s = cc
thread_function (AFunction (Some r) (u ∷ [])) o t e s = by (is_int r && is_scalar u) refl (e ∙ s)
  where
    by : (b : Bool) → (is_int r && is_scalar u) ≡ b → (if b then Some u else None) ≡ Some t → ThreadFunction (AFunction (Some r) (u ∷ [])) t
    by true h e =
        let same : u ≡ t = cc in
        record {
          result = r;
          is = ap (λ x. AFunction (Some r) (x ∷ [])) same;
          returns = sym (one_type found.int r (both (is_int r) (is_scalar u) h).0);
        }
    by false h e = cc
thread_function (AFunction (Some r) (u ∷ v ∷ ts)) o t e s = cc

pub create_fits : (names : Names) (env : Environment) (at : ℕ) (a b : Part) (name : Name) (x y : Resolved) → Facts names.text → IfClean names.text env a x
    → IfClean names.text env b y → Clean (part names at (node.Create a name b)).found
    → Fits names.text env (part names at (node.Create a name b)).found
    (value (made.Create x.place name.text (handed (parameters_of (look names.text name.text)) y.tree)) int)
create_fits names env at a b name x y facts f g = fits_by names env at (node.Create a name b) _ (λ p o.
    let m = part_placed names.text env (has_value is_thread a.found) a x f (none_before (place_required (has_value is_thread a.found) a) _ p) in
    let n = part_meets names.text env (is_thread_argument (thread_parameter (meaning_of names name.text)) b.found) b y g
    (none_after (place_required (has_value is_thread a.found) a) _ p) in
    let thread : place_type (look names.text) env x.place ≡ bare.Thread =
    m.of ∙ same_found names.text Thread (Place m.type) x.type (subst (λ u. has_value is_thread u ≡ true) m.found_is m.holds) (record { is = m.is; known = m.known }) in
    by (meaning_of names name.text) refl o n.holds n.has m.placed thread)
  where
    R : Resolved
    R = value (made.Create x.place name.text (handed (parameters_of (look names.text name.text)) y.tree)) int

    named : (m : Meaning) (t : CType) → ThreadFunction m t → meaning_of names name.text ≡ Some m → converts t b.found ≡ true → Has names.text env b.found y
        → IsPlaced (look names.text) env x.place → place_type (look names.text) env x.place ≡ bare.Thread → IsTyped (look names.text) env R.tree
    named m t tf is c h placed thread =
        let d = look names.text name.text in
        let n = function_named names.text name.text (Some tf.result) (t ∷ []) facts
        (outer_named names name.text (AFunction (Some tf.result) (t ∷ [])) (no_variable_function (Some tf.result) (t ∷ [])) (is ∙ ap Some tf.is)) in
        of_bindings n.bindings n.types n.parameters n.function (n.result tf.result refl ∙ tf.returns)
      where
        of_bindings : (bs : List Binding) → (t ∷ []) ≡ types_of bs → parameters_of (look names.text name.text) ≡ map bare_binding bs
            → IsFunction (look names.text name.text) → result_type (look names.text name.text) ≡ int → IsTyped (look names.text) env R.tree
        of_bindings [] e ps fn res = cc
        of_bindings (q ∷ []) e ps fn res =
            let same : t ≡ q.declared = cc in
            subst (λ qs. IsTyped (look names.text) env (made.Create x.place name.text (handed qs y.tree))) (sym ps) (
              placed,
              subst (λ u. IsTyped (look names.text) env (made.Convert (bare_type u) y.tree)) same (convert names.text env t b.found y c h.good.type h.fits),
              thread,
              (fn, ap (map (λ z. z.declared)) ps, res),
            )
        of_bindings (q ∷ r ∷ qs) e ps fn res = cc

    by : (m : Option Meaning) → meaning_of names name.text ≡ m → Clean (spawn_type m name.place at)
        → is_thread_argument (thread_parameter m) b.found ≡ true → Has names.text env b.found y
        → IsPlaced (look names.text) env x.place → place_type (look names.text) env x.place ≡ bare.Thread
        → Fits names.text env (spawn_type m name.place at) R
    by None is clean c h placed thread = cc
    by (Some m) is clean c h placed thread = given (thread_parameter (Some m)) refl clean c
      where
        given : (o : Option CType) → thread_parameter (Some m) ≡ o → Clean (if is_some o then Value found.int else wrong WrongType at)
            → is_thread_argument o b.found ≡ true → Fits names.text env (if is_some o then Value found.int else wrong WrongType at) R
        given (Some t) e clean c =
            plain names.text env (Value found.int) R tt
            (named m t (thread_function m (Some t) t e refl) is c h placed thread) refl
        given None e clean c = cc

pub join_fits : (names : Names) (env : Environment) (at : ℕ) (a : Part) (x : Resolved) → IfClean names.text env a x
    → Clean (part names at (node.Join a)).found → Fits names.text env (part names at (node.Join a)).found (value (made.Join x.tree) int)
join_fits names env at a x f = fits_by names env at (node.Join a) _ (λ p o.
    let m = part_meets names.text env (has_value is_thread a.found) a x f p in
    let ev = evaluated is_thread a.found m.holds in
    plain names.text env _ _ tt (m.has.fits.typed ev, m.has.fits.type ev ∙ same_found names.text Thread a.found x.type m.holds m.has.good.type) refl)

pub join_into_fits : (names : Names) (env : Environment) (at : ℕ) (a b : Part) (x y : Resolved) → IfClean names.text env a x → IfClean names.text env b y
    → Clean (part names at (node.JoinInto a b)).found
    → Fits names.text env (part names at (node.JoinInto a b)).found (value (made.JoinInto x.tree y.place) int)
join_into_fits names env at a b x y f g = fits_by names env at (node.JoinInto a b) _ (λ p o.
    let m = part_meets names.text env (has_value is_thread a.found) a x f (none_before (required (has_value is_thread a.found) a) _ p) in
    let n = part_placed names.text env (has_value is_int b.found) b y g (none_after (required (has_value is_thread a.found) a) _ p) in
    let ev = evaluated is_thread a.found m.holds in
    let whole : place_type (look names.text) env y.place ≡ int =
    n.of ∙ same_found names.text found.int (Place n.type) y.type (subst (λ u. has_value is_int u ≡ true) n.found_is n.holds) (record { is = n.is; known = n.known }) in
    plain names.text env _ _ tt
    (m.has.fits.typed ev, n.placed, m.has.fits.type ev ∙ same_found names.text Thread a.found x.type m.holds m.has.good.type, whole) refl)

-- ---- mutexes

mutex_fits : (names : Names) (env : Environment) (at : ℕ) (name : Name) (m : Option Meaning) (r : Resolved) → Facts names.text
    → meaning_of names name.text ≡ m → (tree.IsMutex (look names.text name.text) → Fits names.text env (Value found.int) r)
    → Clean (mutex_call_type m name.place at) → Fits names.text env (mutex_call_type m name.place at) r
mutex_fits names env at name None r facts is fit clean = cc
mutex_fits names env at name (Some (AVariable t)) r facts is fit clean = cc
mutex_fits names env at name (Some (AnArray t)) r facts is fit clean = cc
mutex_fits names env at name (Some (AFunction q ts)) r facts is fit clean = cc
mutex_fits names env at name (Some AMutex) r facts is fit clean =
    fit (mutex_named names.text name.text facts (outer_named names name.text AMutex no_variable_mutex is))

pub init_fits : (names : Names) (env : Environment) (at : ℕ) (name : Name) → Facts names.text → Clean (part names at (node.InitMutex name)).found
    → Fits names.text env (part names at (node.InitMutex name)).found (value (made.InitMutex name.text) int)
init_fits names env at name facts = fits_by names env at (node.InitMutex name) _ (λ p o.
    mutex_fits names env at name (meaning_of names name.text) _ facts refl (λ there. plain names.text env (Value found.int) _ tt there refl) o)

pub lock_fits : (names : Names) (env : Environment) (at : ℕ) (name : Name) → Facts names.text → Clean (part names at (node.Lock name)).found
    → Fits names.text env (part names at (node.Lock name)).found (value (made.Lock name.text) int)
lock_fits names env at name facts = fits_by names env at (node.Lock name) _ (λ p o.
    mutex_fits names env at name (meaning_of names name.text) _ facts refl (λ there. plain names.text env (Value found.int) _ tt there refl) o)

pub unlock_fits : (names : Names) (env : Environment) (at : ℕ) (name : Name) → Facts names.text → Clean (part names at (node.Unlock name)).found
    → Fits names.text env (part names at (node.Unlock name)).found (value (made.Unlock name.text) int)
unlock_fits names env at name facts = fits_by names env at (node.Unlock name) _ (λ p o.
    mutex_fits names env at name (meaning_of names name.text) _ facts refl (λ there. plain names.text env (Value found.int) _ tt there refl) o)

-- ---- calls

-- each of some expressions has a typed tree, where it has no faults
abbrev pub HasIn : Names → List BareBinding → Environment → Expr → Type 0
HasIn names locals env e = IfClean names.text env (infer names e) (resolved (look names.text) locals (bare_expr e))

abbrev pub EachHas : Names → List BareBinding → Environment → List Expr → Type 0
EachHas names locals env [] = Unit {0}
EachHas names locals env (e ∷ es) = HasIn names locals env e × EachHas names locals env es

-- converted arguments
record Passed (names : Names) (locals : List BareBinding) (env : Environment) (bs : List Binding) (es : List Expr) : Type 0 where
  typed : AreTyped (look names.text) env (passed (resolved_each names locals es) (map bare_binding bs))
  types : tree_types (look names.text) env (passed (resolved_each names locals es) (map bare_binding bs)) ≡ map (λ p. p.declared) (map bare_binding bs)

all_passed : (names : Names) (locals : List BareBinding) (env : Environment) (bs : List Binding) (es : List Expr) → EachHas names locals env es
    → length (types_of bs) ≡ length (map (infer names) es) → conversion_faults (types_of bs) (map (infer names) es) ≡ [] → Passed names locals env bs es
all_passed names locals env [] [] h same e = record { typed = tt; types = refl }
all_passed names locals env [] (x ∷ es) h same e = absurd (omega (arith, same))
all_passed names locals env (b ∷ bs) [] h same e = absurd (omega (arith, same))
all_passed names locals env (b ∷ bs) (x ∷ es) h same e =
    let own : List Fault = required (converts b.declared (infer names x).found) (infer names x) in
    let m = part_meets names.text env (converts b.declared (infer names x).found) (infer names x) _ h.0 (none_before own _ e) in
    let c = convert names.text env b.declared (infer names x).found (resolved (look names.text) locals (bare_expr x)) m.holds m.has.good.type m.has.fits in
    let more = all_passed names locals env bs es h.1 (omega (arith, same)) (none_after own _ e) in
    record { typed = (c, more.typed); types = ap (λ ts. bare_type b.declared ∷ ts) more.types }

pub call_fits : (names : Names) (locals : List BareBinding) (env : Environment) (at : ℕ) (name : Bytes) (es : List Expr) → Facts names.text
    → EachHas names locals env es → Clean (part names at (node.Call name (map (infer names) es))).found
    → Fits names.text env (part names at (node.Call name (map (infer names) es))).found
    (value (made.Call name (passed (resolved_each names locals es) (parameters_of (look names.text name)))) (result_type (look names.text name)))
call_fits names locals env at name es facts h = fits_by names env at (node.Call name (map (infer names) es)) _ (λ p o.
    by (meaning_of names name) refl p o)
  where
    R : Resolved
    R = value (made.Call name (passed (resolved_each names locals es) (parameters_of (look names.text name)))) (result_type (look names.text name))

    function : (r : Option CType) (ts : List CType) → defined names.text name ≡ Some (AFunction r ts) → length ts ≡ length (map (infer names) es)
        → conversion_faults ts (map (infer names) es) ≡ [] → IsTyped (look names.text) env R.tree
    function r ts is same e =
        let n = function_named names.text name r ts facts is in
        let g = all_passed names locals env n.bindings es h (ap length (sym n.types) ∙ same)
        (subst (λ us. conversion_faults us (map (infer names) es) ≡ []) n.types e) in
        subst (λ ps. AreTyped (look names.text) env (passed (resolved_each names locals es) ps) × IsFunction (look names.text name)
        × (tree_types (look names.text) env (passed (resolved_each names locals es) ps) ≡ map (λ q. q.declared) ps)) (sym n.parameters)
        (g.typed, n.function, g.types)

    by : (m : Option Meaning) → meaning_of names name ≡ m → argument_faults m (map (infer names) es) ≡ []
        → Clean (call_type m at (length (map (infer names) es))) → Fits names.text env (call_type m at (length (map (infer names) es))) R
    by None is p o = cc
    by (Some (AVariable t)) is p o = cc
    by (Some (AnArray t)) is p o = cc
    by (Some AMutex) is p o = cc
    by (Some (AFunction r ts)) is p o = counted (length ts == length (map (infer names) es)) refl p o
      where
        counted : (b : Bool) → (length ts == length (map (infer names) es)) ≡ b
            → (if b then conversion_faults ts (map (infer names) es) else value_faults (map (infer names) es)) ≡ []
            → Clean (if b then value_of_type r else wrong WrongCount at)
            → Fits names.text env (if b then value_of_type r else wrong WrongCount at) R
        counted true same p o =
            plain names.text env (value_of_type r) R (of_type_plain r)
            (function r ts (outer_named names name (AFunction r ts) (no_variable_function r ts) is) (search (rules, tests, same)) p) refl
        counted false same p o = cc

-- ---- printf

printed_more : (k j : Kind) (ks : List Kind) (type : BareType) (ts : List BareType) → type ≡ bare.Integer j → promoted j ≡ k → ArePrinted ks ts
    → ArePrinted (k ∷ ks) (type ∷ ts)
printed_more k j ks type ts is e h = subst (λ t. ArePrinted (k ∷ ks) (t ∷ ts)) (sym is) (e, h)

record Promoted (k : Kind) (type : BareType) : Type 0 where
  of : Kind
  is : type ≡ bare.Integer of
  to : promoted of ≡ k

promoted_found : (text : List Def) (k : Kind) (p : Part) (type : BareType) → is_promoted_to k p ≡ true → TypeFits text p.found type → Promoted k type
promoted_found text k p type e fits =
    let v = valued text (λ t. is_integer t && same_kind (promoted (kind_of_type (Some t))) k) p.found type e fits in by v.of v.holds v.is
  where
    by : (t : CType) → (is_integer t && same_kind (promoted (kind_of_type (Some t))) k) ≡ true → type ≡ bare_type t → Promoted k type
    by (Integer j) e is = record { of = j; is = is; to = one_kind (promoted j) k e }
    by (Handle tag) e is = absurd (never e)
    by Thread e is = absurd (never e)

record PrintedAll (names : Names) (locals : List BareBinding) (env : Environment) (ks : List Kind) (es : List Expr) : Type 0 where
  typed : AreTyped (look names.text) env (resolved_each names locals es)
  types : ArePrinted ks (tree_types (look names.text) env (resolved_each names locals es))

all_printed : (names : Names) (locals : List BareBinding) (env : Environment) (ks : List Kind) (es : List Expr) → EachHas names locals env es
    → print_faults (map (infer names) es) ≡ [] → are_taken ks (map (infer names) es) ≡ true → PrintedAll names locals env ks es
all_printed names locals env [] [] h p e = record { typed = tt; types = tt }
all_printed names locals env [] (x ∷ es) h p e = absurd (never e)
all_printed names locals env (k ∷ ks) [] h p e = absurd (never e)
all_printed names locals env (k ∷ ks) (x ∷ es) h p e =
    let own : List Fault = required (is_evaluated (infer names x).found) (infer names x) in
    let m = part_meets names.text env (is_evaluated (infer names x).found) (infer names x) _ h.0 (none_before own _ p) in
    let taken = both (is_promoted_to k (infer names x)) (are_taken ks (map (infer names) es)) e in
    let more = all_printed names locals env ks es h.1 (none_after own _ p) taken.1 in
    let w = promoted_found names.text k (infer names x) (resolved (look names.text) locals (bare_expr x)).type taken.0 m.has.good.type in
    record {
      typed = (m.has.fits.typed m.holds, more.typed);
      types = printed_more k w.of ks _ _ (m.has.fits.type m.holds ∙ w.is) w.to more.types;
    }

pub print_fits : (names : Names) (locals : List BareBinding) (env : Environment) (at place : ℕ) (format : List ℕ) (es : List Expr)
    → EachHas names locals env es → Clean (part names at (node.Print place format (map (infer names) es))).found
    → Fits names.text env (part names at (node.Print place format (map (infer names) es))).found (value (made.Print format (resolved_each names locals es)) int)
print_fits names locals env at place format es h = fits_by names env at (node.Print place format (map (infer names) es)) _ (λ p o.
    by (fits_format format (map (infer names) es)) refl o p)
  where
    R : Resolved
    R = value (made.Print format (resolved_each names locals es)) int

    of_kinds : (o : Option (List Kind)) → take_all o (map (infer names) es) ≡ true → print_faults (map (infer names) es) ≡ []
        → AreTyped (look names.text) env (resolved_each names locals es) × FitFormat o (tree_types (look names.text) env (resolved_each names locals es))
    of_kinds None e p = absurd (never e)
    of_kinds (Some ks) e p = let a = all_printed names locals env ks es h p e in (a.typed, a.types)

    by : (b : Bool) → fits_format format (map (infer names) es) ≡ b → Clean (if b then Nothing else wrong BadFormat place)
        → print_faults (map (infer names) es) ≡ [] → Fits names.text env (if b then Nothing else wrong BadFormat place) R
    by true e o p = plain names.text env Nothing R tt (of_kinds (kinds Text format) e p) refl
    by false e o p = cc
