-- Functions of a text, in order.
use Rattle.std.proofs.Common.{◌≡◌, ℕ, ◌+◌, ◌<◌, List, [], ◌∷◌, ◌++◌, length, map, take, reverse, get_or, Option, Some, None, refl, sym, ap, subst, ◌∙◌}
use Rattle.std.specs.Prelude.{Result, Ok, Err, IfOk, Vec}
use Rattle.std.specs.declared.alloc.Global.{Global}
use Rattle.std.specs.List.{filter_map, cons_option}
use Rattle.std.proofs.lemmas.List.{append-nil, map-append, reverse-append, reverse-reverse, take_more}
use Rattle.std.proofs.lemmas.List.Elements.{filter_map-append}
use Rattle.c_tree.specs.declared.def.Def.{Def}
use Rattle.c_tree.specs.Bare.{bare_def}
use Rattle.c_tree.specs.BareExpr.{Bytes, BareType}
use Rattle.c_tree.specs.BareDef.{BareBinding}
use Rattle.c_semantics.specs.Resolved.{Statements}
use Rattle.resolved_tree.specs.Nodes.{Table}
use Rattle.expr_gen.specs.declared.context.Variable.{Variable}
use Rattle.expr_gen.specs.Scope.{binding_of, variables_of}
use Rattle.name_resolution.specs.Known.{known_of}
use Rattle.name_resolution.specs.Found.{Grows}
use Rattle.text_code.specs.declared.body.Body.{Body}
use Rattle.text_code.specs.declared.outline.Outline.{Outline}
use Rattle.text_code.specs.Bodies.{ResolvedFunction, CodedFunction, body_of, code_of_text, coded, outlined, outlines_of}
use Rattle.tree_code.specs.Code.{Code}

-- a function's parts, one by one
abbrev function : Bytes → List BareBinding → BareType → Statements → ResolvedFunction
function name parameters result body = record { name = name; parameters = parameters; result = result; body = body }

pub same_function : {n m : Bytes} {ps qs : List BareBinding} {r s : BareType} {b c : Statements} → n ≡ m → ps ≡ qs → r ≡ s → b ≡ c
    → Some (function n ps r b) ≡ Some (function m qs s c)
same_function {n} {m} {ps} {qs} {r} {s} {b} {c} named parameters result body =
    ap (λ x. Some (function x ps r b)) named ∙ ap (λ x. Some (function m x r b)) parameters
    ∙ ap (λ x. Some (function m qs x b)) result ∙ ap (λ x. Some (function m qs s x)) body

-- its code, and how many parameters it has
abbrev coded_function : Bytes → ℕ → Code → CodedFunction
coded_function name parameters code = record { name = name; parameters = parameters; code = code }

pub same_code : {n : Bytes} {k l : ℕ} {a b : Code} → k ≡ l → a ≡ b → coded_function n k a ≡ coded_function n l b
same_code {n} {k} {l} {a} {b} parameters code =
    ap (λ x. coded_function n x a) parameters ∙ ap (λ x. coded_function n l x) code

-- parameters that are kept with the last one first
map_reversed : {A B : Type 0} (f : A → B) (xs : List A) → map f (reverse xs) ≡ reverse (map f xs)
map_reversed f [] = refl
map_reversed f (x ∷ xs) =
    ap (map f) (reverse-append (x ∷ []) xs) ∙ map-append f (reverse xs) (x ∷ [])
    ∙ ap (λ ys. ys ++ f x ∷ []) (map_reversed f xs) ∙ sym (reverse-append (f x ∷ []) (map f xs))

pub in_their_order : (t : Table) (vs ws : List Variable) → ws ≡ reverse vs → variables_of t ws ≡ map (binding_of t) vs
in_their_order t vs ws e =
    ap (variables_of t) e ∙ ap reverse (map_reversed (binding_of t) vs) ∙ reverse-reverse (map (binding_of t) vs)

-- what one more item of a list gives
more_given : {B C D : Type 0} (h : B → Option D) (g : C → B) (ys : List C) (i : ℕ) (y : C) → i < length ys → y ≡ get_or ys i y
    → filter_map h (map g (take (i + 1) ys)) ≡ filter_map h (map g (take i ys)) ++ cons_option (h (g y)) []
more_given h g ys i y l is =
    ap (λ zs. filter_map h (map g zs)) (take_more ys i y l ∙ ap (λ z. take i ys ++ z ∷ []) (sym is))
    ∙ ap (filter_map h) (map-append g (take i ys) (y ∷ [])) ∙ filter_map-append h (map g (take i ys)) (g y ∷ [])

pub given_some : {A B C D : Type 0} (f : A → D) (h : B → Option D) (g : C → B) (xs more : List A) (x : A) (ys : List C) (i : ℕ) (y : C)
    → more ≡ xs ++ x ∷ [] → i < length ys → y ≡ get_or ys i y → map f xs ≡ filter_map h (map g (take i ys)) → Some (f x) ≡ h (g y)
    → map f more ≡ filter_map h (map g (take (i + 1) ys))
given_some f h g xs more x ys i y e l is before here =
    ap (map f) e ∙ map-append f xs (x ∷ []) ∙ ap (λ zs. zs ++ f x ∷ []) before
    ∙ ap (λ o. filter_map h (map g (take i ys)) ++ cons_option o []) here ∙ sym (more_given h g ys i y l is)

pub given_none : {A B C D : Type 0} (f : A → D) (h : B → Option D) (g : C → B) (xs more : List A) (ys : List C) (i : ℕ) (y : C)
    → more ≡ xs → i < length ys → y ≡ get_or ys i y → map f xs ≡ filter_map h (map g (take i ys)) → None ≡ h (g y)
    → map f more ≡ filter_map h (map g (take (i + 1) ys))
given_none f h g xs more ys i y e l is before here =
    ap (map f) e ∙ before ∙ sym (append-nil (filter_map h (map g (take i ys))))
    ∙ ap (λ o. filter_map h (map g (take i ys)) ++ cons_option o []) here ∙ sym (more_given h g ys i y l is)

-- the functions by the definitions that are known, which are the text's own
pub outlined_by_text : {E : Type 0} (now : Table) (known text : List Def) (r : Result (Vec Outline Global) E) → known ≡ text
    → IfOk r (λ made. (u : Table) → Grows now u → map (outlined u) made.items ≡ outlines_of (known_of known) (map bare_def text))
    → IfOk r (λ made. (u : Table) → Grows now u → map (outlined u) made.items ≡ outlines_of (known_of text) (map bare_def text))
outlined_by_text now known text r same h =
    let P : List Def → Type 0 = λ k. IfOk r (λ made.
    (u : Table) → Grows now u → map (outlined u) made.items ≡ outlines_of (known_of k) (map bare_def text)) in
    subst P same h

-- their code
pub coded_by_text : {E : Type 0} (t : Table) (known text : List Def) (outlines : List Outline) (r : Result (Vec Body Global) E) → known ≡ text
    → IfOk r (λ bodies. map (body_of t) bodies.items ≡ map (coded (known_of known)) (map (outlined t) outlines))
    → IfOk r (λ bodies. map (outlined t) outlines ≡ outlines_of (known_of text) (map bare_def text)
    → map (body_of t) bodies.items ≡ code_of_text (known_of text) (map bare_def text))
coded_by_text t known text outlines (Ok bodies) same h = λ e.
    h ∙ ap (λ (k : List Def). map (coded (known_of k)) (map (outlined t) outlines)) same ∙ ap (map (coded (known_of text))) e
coded_by_text t known text outlines (Err e) same h = h

-- what holds where something does that holds
pub where_it_holds : {A E : Type 0} (r : Result A E) (P : Type 0) (Q : A → Type 0) → IfOk r (λ x. P → Q x) → P → IfOk r Q
where_it_holds (Ok x) P Q h p = h p
where_it_holds (Err e) P Q h p = h
