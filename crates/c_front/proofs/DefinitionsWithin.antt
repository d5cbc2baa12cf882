-- What the grammar reads as a text from tokens that begin at most at a number has its faults there, if it ends there too.
use Rattle.std.proofs.Common.{◌≡◌, ℕ, ◌≤◌, Bool, true, false, not, List, [], ◌∷◌, ◌++◌, map, length, Option, Some, None, subst, if◌then◌else◌}
use Rattle.std.specs.Prelude.{is_some, is_none, nat_le, codes, ◌&&◌}
use Rattle.std.specs.List.{AllByRecursion, flat_map, find, list_any}
use Rattle.std.specs.Str.{bytes_eq}
use Rattle.c_tree.specs.BareExpr.{Bytes}
use Rattle.c_tree.specs.declared.name.Name.{Name}
use Rattle.c_tree.specs.declared.name.CType.{CType}
use Rattle.c_tree.specs.declared.expr.Expr.{Expr}
use Rattle.c_tree.specs.declared.stmt.Declaration.{Declaration}
use Rattle.c_tree.specs.declared.stmt.Stmt.{Stmt}
use Rattle.c_tree.specs.declared.def.Binding.{Binding}
use Rattle.c_tree.specs.declared.def.Parameters.{Parameters}
use Rattle.c_tree.specs.declared.def.Parameters.TheVariants.{Named, Unnamed}
use Rattle.c_tree.specs.declared.def.Prototype.{Prototype}
use Rattle.c_tree.specs.declared.def.Function.{Function}
use Rattle.c_tree.specs.declared.def.Array.{Array}
use Rattle.c_tree.specs.declared.def.StructTransform.{StructTransform}
use Rattle.c_tree.specs.declared.def.Def.{Def}
use Rattle.c_tree.specs.declared.def.DefKind.{DefKind}
use Rattle.c_tree.specs.declared.def.DefKind.TheVariants as kind
use Rattle.c_tree.specs.declared.def.Program.{Program}
use Rattle.c_expr_parser.specs.Placed.{Placed, at, start}
use Rattle.c_expr_parser.specs.TypeNames.{TypeName}
use Rattle.c_expr_parser.specs.Expressions.{Conditional}
use Rattle.c_expr_parser.specs.Declarations.{Member, Members}
use Rattle.c_expr_parser.specs.Definitions.{defs, ResultType, Parameter, ParameterList, FunctionDefinition, PrototypeParameters, PrototypeDeclaration, GlobalDeclarator, Item, ItemList}
use Rattle.c_expr_types.specs.declared.fault.TypeKind.TheVariants.{DeclaredTwice, WrongType, NoMain, OverLimit, BadTransformer}
use Rattle.c_expr_types.specs.declared.fault.Fault.{Fault}
use Rattle.c_definitions.specs.declared.lookup.Position.TheVariants.{InInitialiser}
use Rattle.c_expr_types.specs.Faults.{unless}
use Rattle.c_expr_types.specs.Found.{required}
use Rattle.c_definitions.specs.Lookup.{name_of, is_named, definition_of, defined, members_of}
use Rattle.c_expr_types.specs.Expressions.{fits, unknown_tag}
use Rattle.c_expr_types.specs.Need.{need, optional_need, greatest}
use Rattle.c_types.specs.Statements.{in_order, walk}
use Rattle.c_types.specs.TransformSyntax.{transforms_struct, is_transforming, is_global, of_struct, of_global}
use Rattle.name_sets.specs.Limit.{most_names}
use Rattle.c_types.specs.Definitions.{max_need, max_fields, max_cells, names_of, cells_of, bindings, parameters, parameter_types, initialiser, initialiser_faults, initial, initialisers_of, inside, result_faults, named_twice, tagged_twice, many_names, many_cells, struct_faults, is_small, function_faults, agrees, prototype_faults, global_faults, is_small_array, array_faults, struct_transform_faults, global_transform_faults, kind_faults, all_faults, defines_main, name_place, main_faults, faults_in}
use Rattle.c_front.proofs.FaultsWithin.{Within, within_append, within_unless, within_hiding, required_within}
use Rattle.c_front.proofs.ExpressionFaultsWithin.{TypeWithin, unknown_tag_within}
use Rattle.c_front.proofs.ExpressionsWithin.{Below, front, rear, past, begins, start_below, type_within, conditional_within}
use Rattle.c_front.proofs.StatementsWithin.{each_append, commas_within, declarators_within, ExpressionWithin, OptionalWithin, DeclarationWithin, StatementWithin, in_order_within, items_within}

module _ (n : ℕ) where
  -- Where the places of a definition are.

  abbrev pub BindingWithin : Binding → Type 0
  BindingWithin b = TypeWithin n b.declared × (b.name.place ≤ n)

  abbrev pub ResultWithin : Option CType → Type 0
  ResultWithin None = Unit {0}
  ResultWithin (Some t) = TypeWithin n t

  abbrev pub ParametersWithin : Parameters → Type 0
  ParametersWithin (Named bs) = AllByRecursion BindingWithin bs
  ParametersWithin (Unnamed types) = AllByRecursion (TypeWithin n) types

  abbrev pub FunctionWithin : Function → Type 0
  FunctionWithin f =
      ResultWithin f.result × (f.name.place ≤ n) × AllByRecursion BindingWithin f.parameters
      × AllByRecursion (StatementWithin n) f.body

  abbrev pub PrototypeWithin : Prototype → Type 0
  PrototypeWithin p = ResultWithin p.result × ParametersWithin p.parameters

  abbrev pub ArrayWithin : Array → Type 0
  ArrayWithin a =
      TypeWithin n a.element × (a.name.place ≤ n) × AllByRecursion (ExpressionWithin n) (initialisers_of a.initial)

  abbrev pub KindWithin : DefKind → Type 0
  KindWithin (kind.Struct tag members) = (tag.place ≤ n) × AllByRecursion BindingWithin members
  KindWithin (kind.Mutex name) = name.place ≤ n
  KindWithin (kind.Function f) = FunctionWithin f
  KindWithin (kind.Prototype p) = PrototypeWithin p
  KindWithin (kind.Global d) = DeclarationWithin n d
  KindWithin (kind.Array a) = ArrayWithin a
  KindWithin _ = Unit {0}

  abbrev pub DefWithin : Def → Type 0
  DefWithin d = (d.place ≤ n) × KindWithin d.kind

  -- The faults of such a definition.

  of_bindings : (text : List Def) (before : List Bytes) (bs : List Binding) → AllByRecursion BindingWithin bs
      → Within n (bindings text before bs)
  of_bindings text before [] h = tt
  of_bindings text before (b ∷ bs) (h, k) =
      let once : Bool = not (list_any (bytes_eq b.name.text) before) in
      let more = bindings text (b.name.text ∷ before) bs in
      within_append n (unknown_tag text b.declared) (unless once DeclaredTwice b.name.place ++ more)
      (unknown_tag_within n text b.declared h.0)
      (within_append n (unless once DeclaredTwice b.name.place) more (within_unless n once DeclaredTwice b.name.place h.1)
      (of_bindings text (b.name.text ∷ before) bs k))

  of_types : (text : List Def) (types : List CType) → AllByRecursion (TypeWithin n) types
      → Within n (flat_map (unknown_tag text) types)
  of_types text [] h = tt
  of_types text (t ∷ types) (h, k) =
      within_append n (unknown_tag text t) (flat_map (unknown_tag text) types) (unknown_tag_within n text t h) (of_types text types k)

  of_parameters : (text : List Def) (p : Parameters) → ParametersWithin p → Within n (parameters text p)
  of_parameters text (Named bs) h = of_bindings text [] bs h
  of_parameters text (Unnamed types) h = of_types text types h

  of_result : (text : List Def) (o : Option CType) → ResultWithin o → Within n (result_faults text o)
  of_result text None h = tt
  of_result text (Some t) h = unknown_tag_within n text t h

  of_initialiser : (text : List Def) (t : CType) (e : Expr) → ExpressionWithin n e → Within n (initialiser_faults text t e)
  of_initialiser text t e h =
      required_within n (fits text t (initialiser text e).found) (initialiser text e)
      (h (record { text = text; scopes = [] ∷ []; position = InInitialiser }))

  of_initial : (text : List Def) (t : CType) (o : Option Expr) → OptionalWithin n o → Within n (initial text t o)
  of_initial text t None h = tt
  of_initial text t (Some e) h = of_initialiser text t e h

  of_initialisers : (text : List Def) (t : CType) (es : List Expr) → AllByRecursion (ExpressionWithin n) es
      → Within n (flat_map (initialiser_faults text t) es)
  of_initialisers text t [] h = tt
  of_initialisers text t (e ∷ es) (h, k) =
      within_append n (initialiser_faults text t e) (flat_map (initialiser_faults text t) es) (of_initialiser text t e h)
      (of_initialisers text t es k)

  of_name : (before : List Def) (name : Name) → name.place ≤ n → Within n (named_twice before name)
  of_name before name h = within_unless n (is_none (definition_of before name.text)) DeclaredTwice name.place h

  of_limit : (test : Bool) (d : Def) → d.place ≤ n → Within n (unless test OverLimit d.place)
  of_limit test d h = within_unless n test OverLimit d.place h

  of_names : (before : List Def) (d : Def) → d.place ≤ n → Within n (many_names before d)
  of_names before d h = of_limit (nat_le (names_of (before ++ d ∷ [])) most_names) d h

  of_cells : (before : List Def) (d : Def) → d.place ≤ n → Within n (many_cells before d)
  of_cells before d h = of_limit (nat_le (cells_of (before ++ d ∷ [])) max_cells) d h

  -- a limit and the number of names
  limit_and_names : (test : Bool) (before : List Def) (d : Def) → d.place ≤ n
      → Within n (unless test OverLimit d.place ++ many_names before d)
  limit_and_names test before d h =
      within_append n (unless test OverLimit d.place) (many_names before d) (of_limit test d h) (of_names before d h)

  -- a limit, the number of names and that of cells
  limit_names_and_cells : (test : Bool) (before : List Def) (d : Def) → d.place ≤ n
      → Within n (unless test OverLimit d.place ++ (many_names before d ++ many_cells before d))
  limit_names_and_cells test before d h =
      within_append n (unless test OverLimit d.place) (many_names before d ++ many_cells before d) (of_limit test d h)
      (within_append n (many_names before d) (many_cells before d) (of_names before d h) (of_cells before d h))

  of_struct_definition : (text before : List Def) (d : Def) (tag : Name) (members : List Binding) → d.place ≤ n → tag.place ≤ n
      → AllByRecursion BindingWithin members → Within n (struct_faults text before d tag members)
  of_struct_definition text before d tag members h k l =
      let few : Bool = nat_le (length members) max_fields in
      within_hiding n (bindings text [] members)
      (tagged_twice before tag ++ (unless few OverLimit d.place ++ many_names before d))
      (of_bindings text [] members l)
      (within_append n (tagged_twice before tag) (unless few OverLimit d.place ++ many_names before d)
      (within_unless n (is_none (members_of before tag.text)) DeclaredTwice tag.place k) (limit_and_names few before d h))

  of_function : (text before : List Def) (d : Def) (f : Function) → d.place ≤ n → FunctionWithin f
      → Within n (function_faults text before d f)
  of_function text before d f h k =
      let of_body = (in_order (map walk f.body) (inside text f)).faults in
      let rest = unless (is_small f) OverLimit d.place ++ many_names before d in
      within_hiding n (bindings text [] f.parameters ++ of_body)
      (result_faults text f.result ++ (named_twice before f.name ++ rest))
      (within_append n (bindings text [] f.parameters) of_body (of_bindings text [] f.parameters k.2)
      (in_order_within n f.body k.3 (inside text f)))
      (within_append n (result_faults text f.result) (named_twice before f.name ++ rest) (of_result text f.result k.0)
      (within_append n (named_twice before f.name) rest (of_name before f.name k.1) (limit_and_names (is_small f) before d h)))

  of_prototype : (text : List Def) (d : Def) (p : Prototype) → d.place ≤ n → PrototypeWithin p → Within n (prototype_faults text d p)
  of_prototype text d p h k =
      let same : Bool = agrees (defined text p.name.text) p.result (parameter_types p.parameters) in
      within_hiding n (parameters text p.parameters) (result_faults text p.result ++ unless same WrongType d.place)
      (of_parameters text p.parameters k.1)
      (within_append n (result_faults text p.result) (unless same WrongType d.place) (of_result text p.result k.0)
      (within_unless n same WrongType d.place h))

  of_variable : (text before : List Def) (d : Def) (v : Declaration) → d.place ≤ n → DeclarationWithin n v
      → Within n (global_faults text before d v)
  of_variable text before d v h k =
      let small : Bool = nat_le (optional_need v.initial) max_need in
      let rest = unless small OverLimit d.place ++ (many_names before d ++ many_cells before d) in
      within_hiding n (initial text v.declared v.initial) (unknown_tag text v.declared ++ (named_twice before v.name ++ rest))
      (of_initial text v.declared v.initial k.2)
      (within_append n (unknown_tag text v.declared) (named_twice before v.name ++ rest) (unknown_tag_within n text v.declared k.0)
      (within_append n (named_twice before v.name) rest (of_name before v.name k.1) (limit_names_and_cells small before d h)))

  of_array : (text before : List Def) (d : Def) (a : Array) → d.place ≤ n → ArrayWithin a → Within n (array_faults text before d a)
  of_array text before d a h k =
      let rest = unless (is_small_array a) OverLimit d.place ++ (many_names before d ++ many_cells before d) in
      within_hiding n (flat_map (initialiser_faults text a.element) (initialisers_of a.initial))
      (unknown_tag text a.element ++ (named_twice before a.name ++ rest))
      (of_initialisers text a.element (initialisers_of a.initial) k.2)
      (within_append n (unknown_tag text a.element) (named_twice before a.name ++ rest) (unknown_tag_within n text a.element k.0)
      (within_append n (named_twice before a.name) rest (of_name before a.name k.1) (limit_names_and_cells (is_small_array a) before d h)))

  -- a transformer has its faults at its first token
  of_transformer : (test small : Bool) (d : Def) → d.place ≤ n
      → Within n (unless test BadTransformer d.place ++ unless small OverLimit d.place)
  of_transformer test small d h =
      within_append n (unless test BadTransformer d.place) (unless small OverLimit d.place)
      (within_unless n test BadTransformer d.place h) (of_limit small d h)

  of_kind : (text before : List Def) (d : Def) (made : DefKind) → d.place ≤ n → KindWithin made → Within n (kind_faults text before d made)
  of_kind text before d (kind.Struct tag members) h k = of_struct_definition text before d tag members h k.0 k.1
  of_kind text before d (kind.Forward tag) h k = within_unless n (is_some (members_of text tag.text)) WrongType d.place h
  of_kind text before d (kind.Mutex name) h k =
      within_append n (named_twice before name) (many_names before d) (of_name before name k) (of_names before d h)
  of_kind text before d (kind.Function f) h k = of_function text before d f h k
  of_kind text before d (kind.Prototype p) h k = of_prototype text d p h k
  of_kind text before d (kind.Global v) h k = of_variable text before d v h k
  of_kind text before d (kind.Array a) h k = of_array text before d a h k
  of_kind text before d (kind.TransformStruct t) h k =
      of_transformer (not (list_any (λ d'. of_struct t.name.text d'.kind) before)
      && transforms_struct text (members_of text t.name.text) t.values)
      (nat_le (greatest (map (λ v. need v.value) t.values)) max_need) d h
  of_kind text before d (kind.TransformGlobal name e) h k =
      of_transformer (not (list_any (λ d'. of_global name.text d'.kind) before)
      && is_global (defined text name.text) && is_transforming text e)
      (nat_le (need e) max_need) d h

  of_all : (text before ds : List Def) → AllByRecursion DefWithin ds → Within n (all_faults text before ds)
  of_all text before [] h = tt
  of_all text before (d ∷ ds) (h, k) =
      within_append n (kind_faults text before d d.kind) (all_faults text (before ++ d ∷ []) ds)
      (of_kind text before d d.kind h.0 h.1) (of_all text (before ++ d ∷ []) ds k)

  -- What has the name of main.

  MayBeDefWithin : Option Def → Type 0
  MayBeDefWithin None = Unit {0}
  MayBeDefWithin (Some d) = DefWithin d

  chosen_within : (test : Bool) (d : Def) (o : Option Def) → DefWithin d → MayBeDefWithin o
      → MayBeDefWithin (if test then Some d else o)
  unfolding MayBeDefWithin
  chosen_within true d o h k = h
  chosen_within false d o h k = k

  found_within : (test : Def → Bool) (ds : List Def) → AllByRecursion DefWithin ds → MayBeDefWithin (find test ds)
  unfolding MayBeDefWithin
  found_within test [] h = tt
  found_within test (d ∷ ds) (h, k) = chosen_within (test d) d (find test ds) h (found_within test ds k)

  named_within : (end : ℕ) (made : DefKind) → end ≤ n → KindWithin made → name_place end (name_of made) ≤ n
  named_within end (kind.Mutex name) h k = k
  named_within end (kind.Function f) h k = k.1
  named_within end (kind.Global v) h k = k.1
  named_within end (kind.Array a) h k = k.1
  named_within end _ h k = h

  of_main : (end : ℕ) (o : Option Def) → end ≤ n → MayBeDefWithin o → Within n (main_faults end o)
  unfolding MayBeDefWithin
  of_main end None h k = (h, tt)
  of_main end (Some d) h k = within_unless n (defines_main d.kind) NoMain (name_place end (name_of d.kind)) (named_within end d.kind h k.1)

  pub of_program : (p : Program) → p.end ≤ n → AllByRecursion DefWithin p.definitions → Within n (faults_in p)
  of_program p h k =
      within_hiding n (all_faults p.definitions [] p.definitions) (main_faults p.end (definition_of p.definitions (codes "main")))
      (of_all p.definitions [] p.definitions k)
      (of_main p.end (definition_of p.definitions (codes "main")) h
      (found_within (λ d. is_named (codes "main") (name_of d.kind)) p.definitions k))

  -- What is read.

  conditional_read : {d : ℕ} {ts : List Placed} {e : Expr} → Conditional d ts e → Below n ts → ExpressionWithin n e
  conditional_read c h names = conditional_within n names c h

  conditional_of : (d : ℕ) (ts : List Placed) (e : Expr) → Conditional d ts e → Below n ts → ExpressionWithin n e
  conditional_of d ts e c h = conditional_read c h

  type_of : (d : ℕ) (ts : List Placed) (t : CType) → TypeName d ts t → Below n ts → TypeWithin n t
  type_of d ts t ty h = type_within n ty h

  result_within : {ts : List Placed} {r : Option CType} → ResultType ts r → Below n ts → ResultWithin r
  result_within (ResultType.nothing w) h = tt
  result_within (ResultType.value ty) h = type_within n ty h

  member_within : (d : ℕ) (t : CType) → TypeWithin n t → (ts : List Placed) (b : Binding) → Member d t ts b → Below n ts → BindingWithin b
  member_within d t k ts b (Member.member i) h = (k, h.0)

  members_within : {d : ℕ} {ts : List Placed} {members : List Binding} → Members d ts members → Below n ts
      → AllByRecursion BindingWithin members
  members_within {d} (Members.last {ts} {names} {semicolon} {t} ty ds s) h =
      declarators_within n BindingWithin (member_within d t (type_within n ty (front n ts (names ++ semicolon ∷ []) h))) ds
      (front n names (semicolon ∷ []) (rear n ts (names ++ semicolon ∷ []) h))
  members_within {d} (Members.more {ts} {names} {rest} {semicolon} {t} {members} {others} ty ds s ms) h =
      let after_type = rear n ts (names ++ semicolon ∷ rest) h in
      each_append BindingWithin members others
      (declarators_within n BindingWithin (member_within d t (type_within n ty (front n ts (names ++ semicolon ∷ rest) h))) ds
      (front n names (semicolon ∷ rest) after_type))
      (members_within ms (past n names semicolon rest after_type))

  parameter_within : (d : ℕ) (ts : List Placed) (b : Binding) → Parameter d ts b → Below n ts → BindingWithin b
  parameter_within d _ b (Parameter.parameter {ts} {t} {variable} ty i) h =
      (type_within n ty (front n ts (variable ∷ []) h), (rear n ts (variable ∷ []) h).0)

  parameters_within : {d : ℕ} {ts : List Placed} {bs : List Binding} → ParameterList d ts bs → Below n ts
      → AllByRecursion BindingWithin bs
  parameters_within ParameterList.nothing h = tt
  parameters_within (ParameterList.void w) h = tt
  parameters_within {d} (ParameterList.some cs) h = commas_within n BindingWithin (parameter_within d) cs h

  prototype_parameters : {d : ℕ} {ts : List Placed} {p : Parameters} → PrototypeParameters d ts p → Below n ts → ParametersWithin p
  prototype_parameters (PrototypeParameters.named ps) h = parameters_within ps h
  prototype_parameters {d} (PrototypeParameters.unnamed cs) h = commas_within n (TypeWithin n) (type_of d) cs h

  function_within : {ts : List Placed} {f : Function} → FunctionDefinition ts f → Below n ts → FunctionWithin f
  function_within (FunctionDefinition.function {result} {parameters} {body} {function} {paren} {close} {brace} {final} r i p ps c b ss e is) h =
      let inner = close ∷ brace ∷ body ++ final ∷ [] in
      let whole : Below n (result ++ (function ∷ paren ∷ parameters ++ inner)) = subst {A = List Placed} (Below n) is h in
      let named = rear n result (function ∷ paren ∷ parameters ++ inner) whole in (
        result_within r (front n result (function ∷ paren ∷ parameters ++ inner) whole),
        named.0,
        parameters_within ps (front n parameters inner named.1.1),
        items_within n ss (front n body (final ∷ []) (rear n parameters inner named.1.1).1.1),
      )

  prototype_within : {ts : List Placed} {p : Prototype} → PrototypeDeclaration ts p → Below n ts → PrototypeWithin p
  prototype_within (PrototypeDeclaration.prototype {result} {parameters} {function} {paren} {close} {semicolon} r i p ps c s) h = (
    result_within r (front n result (function ∷ paren ∷ parameters ++ close ∷ semicolon ∷ []) h),
    prototype_parameters ps
        (front n parameters (close ∷ semicolon ∷ []) (rear n result (function ∷ paren ∷ parameters ++ close ∷ semicolon ∷ []) h).1.1),
  )

  global_within : (t : CType) → TypeWithin n t → (ts : List Placed) (made : DefKind) → GlobalDeclarator t ts made → Below n ts
      → KindWithin made
  global_within t k _ made (GlobalDeclarator.plain i) h = (k, h.0, tt)
  global_within t k _ made (GlobalDeclarator.initialised i s c) h = (k, h.0, conditional_read c h.1.1)
  global_within t k _ made (GlobalDeclarator.array i b l c) h = (k, h.0, tt)
  global_within t k _ made (GlobalDeclarator.initialised_array {final} {ts} {trailing} i b l c s o cs tr f) h =
      (k, h.0, commas_within n (ExpressionWithin n) (conditional_of 1) cs (front n ts (trailing ++ final ∷ []) h.1.1.1.1.1.1))

  defs_within : (place : ℕ) (made : List DefKind) → place ≤ n → AllByRecursion KindWithin made → AllByRecursion DefWithin (defs place made)
  defs_within place [] h k = tt
  defs_within place (x ∷ made) h (k, l) = ((h, k), defs_within place made h l)

  item_within : {ts : List Placed} {made : List Def} → Item ts made → Below n ts → AllByRecursion DefWithin made
  item_within (Item.forward w i s) h = ((h.0, tt), tt)
  item_within (Item.struct {final} {semicolon} {ts} w i b ms f s) h =
      ((h.0, (h.1.0, members_within ms (front n ts (final ∷ semicolon ∷ []) h.1.1.1))), tt)
  item_within (Item.mutex {static} {word} {variable} {semicolon} st w i s) h =
      let from_word = rear n static (word ∷ variable ∷ semicolon ∷ []) h in
      ((from_word.0, from_word.1.0), tt)
  item_within (Item.function {static} {ts} st f) h =
      let own = rear n static ts h in
      ((start_below n ts own, function_within f own), tt)
  item_within (Item.prototype {static} {ts} st p) h =
      let own = rear n static ts h in
      ((start_below n ts own, prototype_within p own), tt)
  item_within (Item.global {static} {ts} {names} {semicolon} {t} {globals} st ty ds s) h =
      let own = rear n static (ts ++ (names ++ semicolon ∷ [])) h in
      let typed = front n ts (names ++ semicolon ∷ []) own in
      defs_within (start ts) globals (start_below n ts typed)
      (declarators_within n KindWithin (global_within t (type_within n ty typed)) ds
      (front n names (semicolon ∷ []) (rear n ts (names ++ semicolon ∷ []) own)))
  item_within (Item.transform_struct w s i b u f) h = ((h.0, tt), tt)
  item_within (Item.transform_global w i s c e) h = ((h.0, tt), tt)

  pub items_of_text : {ts : List Placed} {made : List Def} → ItemList ts made → Below n ts → AllByRecursion DefWithin made
  items_of_text ItemList.none h = tt
  items_of_text (ItemList.more {ts} {rest} {made} {others} x xs) h =
      each_append DefWithin made others (item_within x (front n ts rest h)) (items_of_text xs (rear n ts rest h))
