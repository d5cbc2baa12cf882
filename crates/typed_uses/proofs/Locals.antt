-- The variables in scope are the same by types and by resolution, and so are the members of a struct.
use Rattle.std.proofs.Common.{◌≡◌, Bool, true, false, not, cond, IsTrue, List, [], ◌∷◌, ◌++◌, map, reverse, Option, Some, None, is_some, option_map, find, bytes_eq, refl, sym, ap, subst, ◌∙◌, append_assoc, append-nil, if◌then◌else◌}
use Rattle.std.specs.Option.{option_or, option_map_or}
use Rattle.std.specs.List.{list_any}
use Rattle.std.proofs.lemmas.List.{reverse-append}
use Rattle.c_scope.specs.Tables.{look_up, innermost}
use Rattle.c_tree.specs.BareExpr.{Bytes}
use Rattle.c_tree.specs.BareDef.{BareBinding}
use Rattle.c_tree.specs.Bare.{bare_type, bare_binding}
use Rattle.c_tree.specs.declared.name.CType.{CType}
use Rattle.c_tree.specs.declared.def.Binding.{Binding}
use Rattle.c_tree.specs.declared.def.Def.{Def}
use Rattle.c_expr_types.specs.declared.fault.Fault.{Fault}
use Rattle.c_expr_types.specs.declared.fault.TypeKind.TheVariants.{DeclaredTwice}
use Rattle.c_expr_types.specs.Faults.{unless}
use Rattle.c_definitions.specs.Lookup.{Scopes, declare, is_known, is_repeated}
use Rattle.c_definitions.specs.Lookup.{member}
use Rattle.c_expr_types.specs.Expressions.{unknown_tag}
use Rattle.c_types.specs.Definitions.{bindings, with_parameters}
use Rattle.c_types.proofs.Bindings.{binding_faults, bound_by, bound_behind_none}
use Rattle.c_semantics.specs.Texts.{bound, bound_type, int}
use Rattle.c_semantics.specs.Resolution.{as_locals}
use Rattle.typed_uses.proofs.Faultless.{none_before, none_after, passes}
use Rattle.typed_uses.proofs.SoundTexts.{known}
use Rattle.typed_uses.proofs.Lookups.{same_bytes}
use Rattle.typed_uses.proofs.Definitions.{HasType}

-- there is a block
abbrev pub Within : Scopes → Type 0
Within [] = ⊥
Within (table ∷ outer) = Unit {0}

-- each variable has one type, whose tag is declared
pub record InStep (text : List Def) (scopes : Scopes) (locals : List BareBinding) : Type 0 where
  pub within : Within scopes
  pub same : (name : Bytes) → option_map (λ b. b.declared) (bound locals name) ≡ option_map bare_type (innermost scopes name)
  pub known : (name : Bytes) (t : CType) → innermost scopes name ≡ Some t → IsTrue (is_known text t)

first_block : (text : List Def) → InStep text ([] ∷ []) []
first_block text = record { within = tt; same = λ name. refl; known = λ name t e. cc }

-- in a block of its own
pub inner_block : (text : List Def) (scopes : Scopes) (locals : List BareBinding) → InStep text scopes locals → InStep text ([] ∷ scopes) locals
inner_block text scopes locals s = record { within = tt; same = s.same; known = s.known }

-- with one variable more
look_up_one_more : (table : List (Bytes × CType)) (name : Bytes) (t : CType) (n : Bytes) →
    look_up (table ++ (name, t) ∷ []) n ≡ option_or (look_up table n) (if bytes_eq n name then Some t else None)
look_up_one_more [] name t n = refl
look_up_one_more (d ∷ table) name t n = by (bytes_eq n d.0) (look_up_one_more table name t n)
  where
    by : (b : Bool) → look_up (table ++ (name, t) ∷ []) n ≡ option_or (look_up table n) (if bytes_eq n name then Some t else None) →
        (if b then Some d.1 else look_up (table ++ (name, t) ∷ []) n)
        ≡ option_or (if b then Some d.1 else look_up table n) (if bytes_eq n name then Some t else None)
    by true rest = refl
    by false rest = rest

or_none : {T : Type 0} (o : Option T) → option_or o None ≡ o
or_none None = refl
or_none (Some x) = refl

unfound : {T : Type 0} (o : Option T) → not (is_some o) ≡ true → o ≡ None
unfound None e = refl
unfound (Some x) e = cc

innermost_more : (table : List (Bytes × CType)) (outer : Scopes) (name : Bytes) (t : CType) (n : Bytes) → look_up table name ≡ None →
    innermost ((table ++ (name, t) ∷ []) ∷ outer) n ≡ (if bytes_eq n name then Some t else innermost (table ∷ outer) n)
innermost_more table outer name t n new =
    ap (λ o. option_or o (innermost outer n)) (look_up_one_more table name t n) ∙ by (bytes_eq n name) refl
  where
    by : (b : Bool) → bytes_eq n name ≡ b →
        option_or (option_or (look_up table n) (if b then Some t else None)) (innermost outer n)
        ≡ (if b then Some t else option_or (look_up table n) (innermost outer n))
    by true e =
        ap (λ o. option_or (option_or o (Some t)) (innermost outer n)) (ap (look_up table) (same_bytes n name e) ∙ new)
    by false e = ap (λ o. option_or o (innermost outer n)) (or_none (look_up table n))

if_same : (b : Bool) (t : CType) (own : BareBinding) (x : Option BareBinding) (y : Option CType) → own.declared ≡ bare_type t →
    option_map (λ c. c.declared) x ≡ option_map bare_type y →
    option_map (λ c. c.declared) (cond b (Some own) x) ≡ option_map bare_type (if b then Some t else y)
if_same true t own x y is rest = ap Some is
if_same false t own x y is rest = rest

if_known : (text : List Def) (b : Bool) (t u : CType) (y : Option CType) → IsTrue (is_known text t) →
    (y ≡ Some u → IsTrue (is_known text u)) → (if b then Some t else y) ≡ Some u → IsTrue (is_known text u)
if_known text true t u y k rest e = let same : t ≡ u = cc in subst (λ x. IsTrue (is_known text x)) same k
if_known text false t u y k rest e = rest e

pub one_more : (text : List Def) (scopes : Scopes) (locals : List BareBinding) (name : Bytes) (t : CType) → InStep text scopes locals →
    not (is_repeated name scopes) ≡ true → IsTrue (is_known text t) →
    InStep text (declare name t scopes) (record { declared = bare_type t; name = name } ∷ locals)
one_more text [] locals name t s new k = absurd s.within
one_more text (table ∷ outer) locals name t s new k =
    let none : look_up table name ≡ None = unfound (look_up table name) new in
    let own : BareBinding = record { declared = bare_type t; name = name } in
    let more : Scopes = (table ++ (name, t) ∷ []) ∷ outer in
    let is = λ (n : Bytes). innermost_more table outer name t n none in
    subst (λ scopes. InStep text scopes (own ∷ locals))
    (sym (ap (λ o. if is_some o then table ∷ outer else more) none))
    (record {
      within = tt;
      same = λ n.
          if_same (bytes_eq n name) t own (bound locals n) (innermost (table ∷ outer) n) refl (s.same n)
          ∙ ap (option_map bare_type) (sym (is n));
      known = λ n u e. if_known text (bytes_eq n name) t u (innermost (table ∷ outer) n) k (s.known n u) (sym (is n) ∙ e);
    })

-- with the parameters of a function
with_each : (text : List Def) (bs : List Binding) (scopes : Scopes) (locals : List BareBinding) → InStep text scopes locals →
    bound_by text scopes bs ≡ [] → InStep text (with_parameters bs scopes) (reverse (map bare_binding bs) ++ locals)
with_each text [] scopes locals s e = s
with_each text (b ∷ bs) scopes locals s e =
    let turned = reverse-append (bare_binding b ∷ []) (map bare_binding bs) in
    let own : List Fault = unless (not (is_repeated b.name.text scopes)) DeclaredTwice b.name.place in
    let of_b : binding_faults text scopes b ≡ [] = none_before (binding_faults text scopes b) _ e in
    let k = known text b.declared (none_before (unknown_tag text b.declared) own of_b) in
    let new = passes (not (is_repeated b.name.text scopes)) DeclaredTwice b.name.place (none_after (unknown_tag text b.declared) own of_b) in
    let rest = with_each text bs (declare b.name.text b.declared scopes) (bare_binding b ∷ locals)
    (one_more text scopes locals b.name.text b.declared s new k) (none_after (binding_faults text scopes b) _ e) in
    subst (InStep text (with_parameters (b ∷ bs) scopes))
    (sym (ap (λ xs. xs ++ locals) turned ∙ append_assoc (reverse (map bare_binding bs)) (bare_binding b ∷ []) locals)) rest

pub with_all : (text : List Def) (bs : List Binding) → bindings text [] bs ≡ [] →
    InStep text (with_parameters bs ([] ∷ [])) (as_locals (map bare_binding bs))
with_all text bs e =
    subst (InStep text (with_parameters bs ([] ∷ []))) (append-nil (reverse (map bare_binding bs)))
    (with_each text bs ([] ∷ []) [] (first_block text) (bound_behind_none text bs ∙ e))

-- a member of a struct has the type that it is declared with
pub member_type : (text : List Def) (before : List Bytes) (members : List Binding) (name : Bytes) (t : CType) →
    bindings text before members ≡ [] → member members name ≡ Some t → HasType text (bound_type (map bare_binding members) name) t
member_type text before [] name t e is = cc
member_type text before (b ∷ bs) name t e is =
    by (bytes_eq name b.name.text) is (member_type text (b.name.text ∷ before) bs name t (none_after own _ (none_after (unknown_tag text b.declared) _ e)))
  where
    own : List Fault
    own = unless (not (list_any (bytes_eq b.name.text) before)) DeclaredTwice b.name.place

    by : (x : Bool) → option_map (λ c. c.declared) (cond x (Some b) (find (λ c. bytes_eq name c.name.text) bs)) ≡ Some t →
        (member bs name ≡ Some t → HasType text (bound_type (map bare_binding bs) name) t) →
        HasType text (option_map_or (λ c. c.declared) (cond x (Some (bare_binding b)) (bound (map bare_binding bs) name)) int) t
    by true is rest =
        let same : b.declared ≡ t = cc in
        record {
          is = ap bare_type same;
          known = subst (λ u. IsTrue (is_known text u)) same (known text b.declared (none_before (unknown_tag text b.declared) _ e));
        }
    by false is rest = rest is
