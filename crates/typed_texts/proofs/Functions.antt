-- The body of each function of an accepted text is typed.
use Rattle.std.proofs.Common.{◌≡◌, ℕ, suc, Bool, true, false, List, [], ◌∷◌, ◌++◌, map, Option, Some, None, is_some, cond, find, option_map, unwrap_or, bytes_eq, refl, sym, ap, subst, ◌∙◌, inl, inr, if◌then◌else◌}
use Rattle.std.specs.Prelude.{◌⊎◌}
use Rattle.std.specs.Option.{option_or}
use Rattle.c_tree.specs.BareExpr.{Bytes, BareType}
use Rattle.c_tree.specs.BareStmt.{BareStmts}
use Rattle.c_tree.specs.BareDef.{BareBinding, BareDef}
use Rattle.c_tree.specs.BareDef as bare_d
use Rattle.c_tree.specs.Bare.{bare_binding, bare_block, bare_def, bare_kind, bare_stmt, bare_type}
use Rattle.c_tree.specs.declared.name.CType.{CType}
use Rattle.c_tree.specs.declared.def.Binding.{Binding}
use Rattle.c_tree.specs.declared.def.Def.{Def}
use Rattle.c_tree.specs.declared.def.DefKind.{DefKind}
use Rattle.c_tree.specs.declared.def.DefKind.TheVariants as kind
use Rattle.c_scope.specs.Tables.{innermost, look_up}
use Rattle.c_definitions.specs.Lookup.{member}
use Rattle.c_types.specs.Definitions.{inside, result_faults, with_parameters}
use Rattle.c_semantics.specs.Texts.{bound, defines, definition, int, parameters_of, result_type}
use Rattle.c_semantics.specs.Resolved.{Statement, Statements, Block, Empty, Evaluate, Declare, If, IfElse, While, DoWhile, For, Break, Continue, Return, UpdatePoint, Transaction, NoStatements, StatementThen}
use Rattle.c_semantics.specs.Resolution.{as_locals, resolved_body, statements}
use Rattle.c_semantics.specs.Leaving.{all_stay, leaves_at_ends, stays}
use Rattle.typed_uses.proofs.SoundTexts.{AllSound, Facts, Sound, known}
use Rattle.typed_uses.proofs.Lookups.{look, same_bytes}
use Rattle.typed_uses.proofs.Locals.{InStep, with_all}
use Rattle.frame_bodies.proofs.AcceptedFacts.{bare_of, facts_in}
use Rattle.frame_bodies.proofs.TypedStatements.{fine_body}
use Rattle.typed_trees.specs.StatementTypes.{BodyTyped, StatementsTyped, jumps, some_jump}
use Rattle.typed_texts.specs.TypedTexts.{FunctionsAreTyped}
use Rattle.typed_texts.proofs.FoundTypes.{both, either, never}
use Rattle.typed_texts.proofs.NamedNodes.{InEnvironment}
use Rattle.typed_texts.proofs.Parts.{ProperBodies, ProperBody, bodies_proper}
use Rattle.typed_texts.proofs.Statements.{all_follow, each_typed}

-- ---- no jump leads out of a body

mutual
  out_of : (s : Statement) (d : ℕ) (looped : Bool) → stays d looped s ≡ true → jumps s ≡ true → looped ≡ true
  out_of (Block ss) d looped h e = out_of_all ss d looped h e
  out_of Empty d looped h e = absurd (never e)
  out_of (Evaluate x) d looped h e = absurd (never e)
  out_of (Declare type name initial) d looped h e = absurd (never e)
  out_of (If c s) d looped h e = out_of s d looped h e
  out_of (IfElse c s t) d looped h e =
      let g = both (stays d looped s) (stays d looped t) h in
      by (either (jumps s) (jumps t) e) (out_of s d looped g.0) (out_of t d looped g.1)
    where
      by : (jumps s ≡ true) ⊎ (jumps t ≡ true) → (jumps s ≡ true → looped ≡ true) → (jumps t ≡ true → looped ≡ true) → looped ≡ true
      by (inl e) f g = f e
      by (inr e) f g = g e
  out_of (While c s) d looped h e = absurd (never e)
  out_of (DoWhile s c) d looped h e = absurd (never e)
  out_of (For first test step s) d looped h e = out_of_all first d looped (both (all_stay d looped first) (stays d true s) h).0 e
  out_of Break d looped h e = h
  out_of Continue d looped h e = h
  out_of (Return x) d looped h e = absurd (never e)
  out_of UpdatePoint d looped h e = absurd (never e)
  out_of (Transaction ss) d looped h e = absurd (never (out_of_all ss (suc d) false h e))

  out_of_all : (ss : Statements) (d : ℕ) (looped : Bool) → all_stay d looped ss ≡ true → some_jump ss ≡ true → looped ≡ true
  out_of_all NoStatements d looped h e = absurd (never e)
  out_of_all (StatementThen s ss) d looped h e =
      let g = both (stays d looped s) (all_stay d looped ss) h in
      by (either (jumps s) (some_jump ss) e) (out_of s d looped g.0) (out_of_all ss d looped g.1)
    where
      by : (jumps s ≡ true) ⊎ (some_jump ss ≡ true) → (jumps s ≡ true → looped ≡ true) → (some_jump ss ≡ true → looped ≡ true) → looped ≡ true
      by (inl e) f g = f e
      by (inr e) f g = g e

no_jump : (body : Statements) → leaves_at_ends body ≡ true → some_jump body ≡ false
no_jump body h = by (some_jump body) (out_of_all body 0 false h)
  where
    by : (b : Bool) → (b ≡ true → false ≡ true) → b ≡ false
    by true f = absurd (never (f refl))
    by false f = refl

-- ---- parameters in their order

more_looked_up : (table : List (Bytes × CType)) (name : Bytes) (t : CType) (n : Bytes)
    → look_up (table ++ (name, t) ∷ []) n ≡ option_or (look_up table n) (if bytes_eq n name then Some t else None)
more_looked_up [] name t n = refl
more_looked_up (d ∷ table) name t n = by (bytes_eq n d.0) (more_looked_up table name t n)
  where
    by : (b : Bool) → look_up (table ++ (name, t) ∷ []) n ≡ option_or (look_up table n) (if bytes_eq n name then Some t else None)
        → (if b then Some d.1 else look_up (table ++ (name, t) ∷ []) n)
        ≡ option_or (if b then Some d.1 else look_up table n) (if bytes_eq n name then Some t else None)
    by true rest = refl
    by false rest = rest

innermost_is : (bs : List Binding) (table : List (Bytes × CType)) (name : Bytes)
    → innermost (with_parameters bs (table ∷ [])) name ≡ option_or (look_up table name) (member bs name)
innermost_is [] table name = refl
innermost_is (b ∷ bs) table name =
    by (is_some (look_up table b.name.text)) refl (innermost_is bs table name) (innermost_is bs (table ++ (b.name.text, b.declared) ∷ []) name)
  where
    first : Option CType → Bool → Option CType
    first rest x = option_map (λ c. c.declared) (cond x (Some b) (find (λ c. bytes_eq name c.name.text) bs))

    of_some : (o rest other : Option CType) → is_some o ≡ true → option_or o rest ≡ option_or o other
    of_some (Some t) rest other e = refl
    of_some None rest other e = absurd (never e)

    again : is_some (look_up table b.name.text) ≡ true → (x : Bool) → bytes_eq name b.name.text ≡ x
        → option_or (look_up table name) (member bs name)
        ≡ option_or (look_up table name) (option_map (λ c. c.declared) (cond x (Some b) (find (λ c. bytes_eq name c.name.text) bs)))
    again e true same =
        of_some (look_up table name) _ _ (subst (λ n. is_some (look_up table n) ≡ true) (sym (same_bytes name b.name.text same)) e)
    again e false same = refl

    new : (x : Bool) (o : Option CType)
        → option_or (option_or o (if x then Some b.declared else None)) (member bs name)
        ≡ option_or o (option_map (λ c. c.declared) (cond x (Some b) (find (λ c. bytes_eq name c.name.text) bs)))
    new true None = refl
    new false None = refl
    new true (Some t) = refl
    new false (Some t) = refl

    by : (x : Bool) → is_some (look_up table b.name.text) ≡ x
        → innermost (with_parameters bs (table ∷ [])) name ≡ option_or (look_up table name) (member bs name)
        → innermost (with_parameters bs ((table ++ (b.name.text, b.declared) ∷ []) ∷ [])) name
        ≡ option_or (look_up (table ++ (b.name.text, b.declared) ∷ []) name) (member bs name)
        → innermost (with_parameters bs (if x then table ∷ [] else (table ++ (b.name.text, b.declared) ∷ []) ∷ [])) name
        ≡ option_or (look_up table name) (member (b ∷ bs) name)
    by true e same more = same ∙ again e (bytes_eq name b.name.text) refl
    by false e same more =
        more ∙ ap (λ o. option_or o (member bs name)) (more_looked_up table b.name.text b.declared name)
        ∙ new (bytes_eq name b.name.text) (look_up table name)

bound_is : (bs : List Binding) (name : Bytes)
    → option_map (λ b. b.declared) (bound (map bare_binding bs ++ []) name) ≡ option_map bare_type (member bs name)
bound_is [] name = refl
bound_is (b ∷ bs) name = by (bytes_eq name b.name.text) (bound_is bs name)
  where
    by : (x : Bool) → option_map (λ c. c.declared) (bound (map bare_binding bs ++ []) name) ≡ option_map bare_type (member bs name)
        → option_map (λ c. c.declared) (cond x (Some (bare_binding b)) (bound (map bare_binding bs ++ []) name))
        ≡ option_map bare_type (option_map (λ c. c.declared) (cond x (Some b) (find (λ c. bytes_eq name c.name.text) bs)))
    by true rest = refl
    by false rest = rest

parameters_within : (text : List Def) (bs : List Binding) → InStep text (with_parameters bs ([] ∷ [])) (as_locals (map bare_binding bs))
    → InEnvironment (as_locals (map bare_binding bs)) (map bare_binding bs ∷ [])
parameters_within text bs s name = s.same name ∙ ap (option_map bare_type) (innermost_is bs [] name) ∙ sym (bound_is bs name)

-- ---- functions

result_is : (r : Option BareType) (name : Bytes) (ps : List BareBinding) (body : BareStmts)
    → unwrap_or r int ≡ result_type (Some (bare_d.Function r name ps body))
result_is None name ps body = refl
result_is (Some t) name ps body = refl

-- the statements of a definition's body
abbrev Typed : List Def → Option BareDef → Type 0
Typed text d = StatementsTyped (look text) (result_type d) (parameters_of d ∷ []) (resolved_body (look text) d)

of_kind : (text : List Def) → Facts text → (k : DefKind) → Sound text k → ProperBody k → Typed text (Some (bare_kind k))
of_kind text facts (kind.Struct tag members) s p = tt
of_kind text facts (kind.Forward tag) s p = tt
of_kind text facts (kind.Mutex name) s p = tt
of_kind text facts (kind.Function f) s p =
    let ps = map bare_binding f.parameters in
    let step = with_all text f.parameters s.parameters in
    let all = all_follow f.body (each_typed f.body) (inside text f) (as_locals ps) (ps ∷ []) facts step (parameters_within text f.parameters step)
    (λ t is. known text t (subst (λ r. result_faults text r ≡ []) is s.result)) p s.body in
    let r = option_map bare_type f.result in
    subst (λ t. StatementsTyped (look text) t (ps ∷ []) (statements (look text) (unwrap_or r int) (as_locals ps) (bare_block (map bare_stmt f.body))))
    (result_is r f.name.text ps (bare_block (map bare_stmt f.body))) all.typed
of_kind text facts (kind.Prototype q) s p = tt
of_kind text facts (kind.Global d) s p = tt
of_kind text facts (kind.Array a) s p = tt
of_kind text facts (kind.TransformStruct t) s p = tt
of_kind text facts (kind.TransformGlobal name v) s p = tt

of_found : (text ds : List Def) (name : Bytes) → Facts text → AllSound text ds → ProperBodies ds → Typed text (find (defines name) (map bare_def ds))
of_found text [] name facts s p = tt
of_found text (d ∷ ds) name facts s p = by (defines name (bare_def d)) (of_found text ds name facts s.1 p.1)
  where
    by : (b : Bool) → Typed text (find (defines name) (map bare_def ds))
        → Typed text (cond b (Some (bare_def d)) (find (defines name) (map bare_def ds)))
    by true rest = of_kind text facts d.kind s.0 p.0
    by false rest = rest

abbrev TypedIn : Bytes → List BareDef → Type 0
TypedIn name ds =
    BodyTyped (definition ds) (result_type (definition ds name)) (parameters_of (definition ds name)) (resolved_body (definition ds) (definition ds name))

pub functions_are_typed : FunctionsAreTyped
functions_are_typed text function a =
    let ds = text.tree.definitions in
    let facts = facts_in text a in
    subst (TypedIn function) (bare_of text a) (record {
      statements = of_found ds ds function facts facts.sound (bodies_proper a.bytes text.tree a.accepted.is_read);
      stays = no_jump (resolved_body (look ds) (look ds function)) ((fine_body ds function facts).leaves (look ds));
    })
