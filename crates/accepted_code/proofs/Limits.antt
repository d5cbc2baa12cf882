-- What the limits of a text mean for the bodies of its functions.
use Rattle.std.proofs.Common.{◌≡◌, ◌≤◌, ℕ, suc, ◌+◌, Bool, true, false, ◌&&◌, nat_le, List, [], ◌∷◌, ◌++◌, map, length, Option, Some, None, find, cond, unwrap_or, option_map, refl, sym, subst, arith, length-append}
use Rattle.std.proofs.lemmas.Bool.{leb-true}
use Rattle.std.proofs.lemmas.List.{length-map}
use Rattle.c_tree.specs.Bare.{bare_binding, bare_block, bare_def, bare_kind, bare_stmt, bare_type}
use Rattle.c_tree.specs.BareDef.{BareBinding, BareDef}
use Rattle.c_tree.specs.BareExpr.{Bytes}
use Rattle.c_tree.specs.declared.def.Def.{Def}
use Rattle.c_tree.specs.declared.def.DefKind.{DefKind}
use Rattle.c_tree.specs.declared.def.DefKind.TheVariants as kind
use Rattle.c_tree.specs.declared.def.Function.{Function as FunctionTree}
use Rattle.c_expr_types.specs.declared.fault.TypeKind.TheVariants.{OverLimit}
use Rattle.c_expr_types.specs.Faults.{unless}
use Rattle.c_expr_types.specs.Need.{body_need}
use Rattle.c_types.specs.Statements.{in_order, total, variables, walk}
use Rattle.c_types.specs.Definitions.{Types, all_faults, bindings, inside, is_small, kind_faults, max_need, max_parameters, max_tokens, max_variables, named_twice, result_faults}
use Rattle.c_semantics.specs.Texts.{Definitions, defines, definition, int, parameters_of}
use Rattle.c_semantics.specs.Resolved.{Statements}
use Rattle.c_semantics.specs.Resolution.{as_locals, resolved_body, statements}
use Rattle.c_semantics.specs.SourceTexts.{Text}
use Rattle.typed_uses.proofs.Faultless.{none_after, none_before, none_hidden, passes}
use Rattle.frame_bodies.specs.AcceptedTexts.{IsAccepted}
use Rattle.frame_bodies.proofs.AcceptedFacts.{bare_of}
use Rattle.tree_code.specs.Code.{HaveRoom}
use Rattle.code_kinds.specs.WellFormed.{deepest, most_variables}
use Rattle.formed_code.specs.Depths.{depth_stmts}
use Rattle.tree_limits.specs.LimitLaws.{RoomIsEnough, WordsAreFew}

-- ---- a text's functions are within their limits

abbrev IsSmall : DefKind → Type 0
IsSmall (kind.Function f) = is_small f ≡ true
IsSmall _ = Unit {0}

abbrev AreSmall : List Def → Type 0
AreSmall [] = Unit {0}
AreSmall (d ∷ ds) = IsSmall d.kind × AreSmall ds

small_kind : (text before : List Def) (d : Def) (k : DefKind) → kind_faults text before d k ≡ [] → IsSmall k
small_kind text before d (kind.Struct tag members) e = tt
small_kind text before d (kind.Forward tag) e = tt
small_kind text before d (kind.Mutex name) e = tt
small_kind text before d (kind.Function f) e =
    let whole = (none_hidden (bindings text [] f.parameters ++ (in_order (map walk f.body) (inside text f)).faults) _ e).1 in
    passes (is_small f) OverLimit d.place
    (none_before (unless (is_small f) OverLimit d.place) _
    (none_after (named_twice before f.name) _ (none_after (result_faults text f.result) _ whole)))
small_kind text before d (kind.Prototype p) e = tt
small_kind text before d (kind.Global v) e = tt
small_kind text before d (kind.Array a) e = tt
small_kind text before d (kind.TransformStruct t) e = tt
small_kind text before d (kind.TransformGlobal name v) e = tt

all_small : (text before ds : List Def) → all_faults text before ds ≡ [] → AreSmall ds
all_small text before [] e = tt
all_small text before (d ∷ ds) e =
    let own = kind_faults text before d d.kind in
    (small_kind text before d d.kind (none_before own _ e), all_small text (before ++ d ∷ []) ds (none_after own _ e))

-- ---- what they mean

-- a definition's body has room for its variables, and few words on the stack
pub record Limited (look : Definitions) (d : Option BareDef) : Type 0 where
  pub few : length (parameters_of d) ≤ most_variables
  pub room : HaveRoom most_variables (parameters_of d ∷ []) (resolved_body look d)
  pub shallow : depth_stmts (resolved_body look d) ≤ deepest

last_two : (a b c d : Bool) → (a && b && c && d) ≡ true → (c ≡ true) × (d ≡ true)
last_two true true true d e = (refl, e)
last_two true true false d e = absurd (no e)
  where
    no : false ≡ true → ⊥
    no e = cc
last_two true false c d e = absurd (no e)
  where
    no : false ≡ true → ⊥
    no e = cc
last_two false b c d e = absurd (no e)
  where
    no : false ≡ true → ⊥
    no e = cc

module _ (few : WordsAreFew) (enough : RoomIsEnough) (look : Definitions) where
  nothing : (d : Option BareDef) → parameters_of d ≡ [] → resolved_body look d ≡ Statements.NoStatements → Limited look d
  nothing d p b = record {
    few = subst (λ ps. length ps ≤ most_variables) (sym p) (omega arith);
    room = subst (λ ss. HaveRoom most_variables (parameters_of d ∷ []) ss) (sym b) tt;
    shallow = subst (λ ss. depth_stmts ss ≤ deepest) (sym b) (omega arith);
  }

  of_function : (f : FunctionTree) → is_small f ≡ true → Limited look (Some (bare_kind (kind.Function f)))
  of_function f h =
      let ps = map bare_binding f.parameters in
      let result = unwrap_or (option_map bare_type f.result) int in
      let parts = last_two (nat_le f.tokens max_tokens) (nat_le (length f.parameters) max_parameters)
      (nat_le (length f.parameters + total (map variables f.body)) max_variables) (nat_le (body_need f.body) max_need) h in
      let declared : length f.parameters + total (map variables f.body) ≤ 64 = leb-true _ 64 parts.0 in
      let need : body_need f.body ≤ 64 = leb-true _ 64 parts.1 in
      let many : length (ps ++ []) ≡ length f.parameters = omega (arith, length-append ps [], length-map f.parameters bare_binding) in
      let held : length (ps ++ []) + total (map variables f.body) ≤ 64 = omega (arith, declared, many) in
      record {
        few = omega (arith, declared, length-map f.parameters bare_binding);
        room = enough look result (as_locals ps) (ps ∷ []) most_variables f.body held;
        shallow = omega (arith, need, few look result (as_locals ps) f.body);
      }

  of_kind : (k : DefKind) → IsSmall k → Limited look (Some (bare_kind k))
  of_kind (kind.Struct tag members) h = nothing _ refl refl
  of_kind (kind.Forward tag) h = nothing _ refl refl
  of_kind (kind.Mutex name) h = nothing _ refl refl
  of_kind (kind.Function f) h = of_function f h
  of_kind (kind.Prototype p) h = nothing _ refl refl
  of_kind (kind.Global v) h = nothing _ refl refl
  of_kind (kind.Array a) h = nothing _ refl refl
  of_kind (kind.TransformStruct t) h = nothing _ refl refl
  of_kind (kind.TransformGlobal name v) h = nothing _ refl refl

  of_found : (ds : List Def) (name : Bytes) → AreSmall ds → Limited look (find (defines name) (map bare_def ds))
  of_found [] name h = nothing None refl refl
  of_found (d ∷ ds) name h = by (defines name (bare_def d)) (of_found ds name h.1)
    where
      by : (b : Bool) → Limited look (find (defines name) (map bare_def ds))
          → Limited look (cond b (Some (bare_def d)) (find (defines name) (map bare_def ds)))
      by true rest = of_kind d.kind h.0
      by false rest = rest

abbrev LimitedIn : Bytes → List BareDef → Type 0
LimitedIn name ds = Limited (definition ds) (definition ds name)

pub limited : WordsAreFew → RoomIsEnough → (text : Text) (function : Bytes) → IsAccepted text → LimitedIn function text.definitions
limited few enough text function a =
    let ds = text.tree.definitions in
    subst (LimitedIn function) (bare_of text a)
    (of_found few enough (definition (map bare_def ds)) ds function (all_small ds [] ds (none_hidden _ _ a.accepted.types).0))
