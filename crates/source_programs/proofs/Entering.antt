-- What a function begins with: its parameters as variables, and its body.
use Rattle.std.proofs.Common.{◌≡◌, ℕ, zero, suc, ◌-◌, ◌<◌, ◌≤◌, List, [], ◌∷◌, ◌++◌, length, get_or, drop, refl, sym, ap, ◌∙◌, arith}
use Rattle.std.specs.Prelude.{slice_get, unwrap_or, Result, Ok, Err, OnOk}
use Rattle.std.proofs.lemmas.List.{drop_all, length-map}
use Rattle.c_semantics.specs.Values.{Value, zero_of}
use Rattle.c_semantics.specs.Pieces.{Scopes, Variable}
use Rattle.c_semantics.specs.Evaluation.{declared}
use Rattle.c_semantics.specs.Threads.{bind}
use Rattle.source_programs.specs.declared.definition.Binding.{Binding}
use Rattle.local_evaluation.specs.declared.work.Local.{Local}
use Rattle.local_evaluation.specs.declared.work.Local.TheVariants.{Block, Variable as VariableIs}
use Rattle.local_evaluation.specs.declared.value.Value.{Value as Held}
use Rattle.resolved_tree.specs.Nodes.{Table, word, type_of}
use Rattle.local_evaluation.specs.Values.{seen}
use Rattle.local_evaluation.specs.Work.{scopes_of}
use Rattle.source_programs.specs.Definitions.{binding_of, bindings_of}
use Rattle.local_evaluation.proofs.Variables.{scopes_push}

drop_none : (i : ℕ) → drop {A = Value} i [] ≡ []
drop_none zero = refl
drop_none (suc i) = refl

-- a parameter with its argument, or with zero
abbrev pub variable : Table → Binding → List Value → ℕ → Variable
variable t p vs k = record { name = word t p.name; value = unwrap_or (slice_get vs k) (zero_of (type_of t p.declared)) }

bind_at : (t : Table) (ps : List Binding) (vs : List Value) (k : ℕ) (d : Binding) → k < length ps
    → bind (drop k (bindings_of t ps)) (drop k vs) ≡ variable t (get_or ps k d) vs k ∷ bind (drop (suc k) (bindings_of t ps)) (drop (suc k) vs)
bind_at t [] vs k d l = absurd (omega arith)
bind_at t (p ∷ ps) [] zero d l = refl
bind_at t (p ∷ ps) (v ∷ vs) zero d l = refl
bind_at t (p ∷ ps) [] (suc k) d l = ap (bind (drop k (bindings_of t ps))) (sym (drop_none k)) ∙ bind_at t ps [] k d (omega arith)
bind_at t (p ∷ ps) (v ∷ vs) (suc k) d l = bind_at t ps vs k d (omega arith)

-- after the last parameter there is none
pub bound_none : (t : Table) (ls more : List Local) (ps : List Binding) (vs : List Value) → more ≡ ls ++ Block ∷ []
    → scopes_of t more ≡ bind (drop (length ps) (bindings_of t ps)) (drop (length ps) vs) ∷ scopes_of t ls
bound_none t ls more ps vs e =
    let n = length-map ps (binding_of t) in
    let none : drop (length ps) (bindings_of t ps) ≡ [] = drop_all (length ps) (bindings_of t ps) (omega (arith, n)) in
    ap (scopes_of t) e ∙ scopes_push t ls Block ∙ ap (λ bs. bind bs (drop (length ps) vs) ∷ scopes_of t ls) (sym none)

-- one parameter more
pub bound_more : (t : Table) (ls more : List Local) (ps : List Binding) (vs : List Value) (left : ℕ) (d : Binding) (v : Held) (below : Scopes)
    → more ≡ ls ++ VariableIs (get_or ps (left - 1) d).name v ∷ [] → 0 < left → left ≤ length ps
    → seen v ≡ unwrap_or (slice_get vs (left - 1)) (zero_of (type_of t (get_or ps (left - 1) d).declared))
    → scopes_of t ls ≡ bind (drop left (bindings_of t ps)) (drop left vs) ∷ below
    → scopes_of t more ≡ bind (drop (left - 1) (bindings_of t ps)) (drop (left - 1) vs) ∷ below
bound_more t ls more ps vs left d v below e some within is before =
    let p = get_or ps (left - 1) d in
    let next : left ≡ suc (left - 1) = omega arith in
    let named : Value → Variable = λ x. record { name = word t p.name; value = x } in
    ap (scopes_of t) e
    ∙ scopes_push t ls (VariableIs p.name v)
    ∙ ap (declared (word t p.name) (seen v)) before
    ∙ ap (λ x. (named x ∷ bind (drop left (bindings_of t ps)) (drop left vs)) ∷ below) is
    ∙ ap (λ n. (variable t p vs (left - 1) ∷ bind (drop n (bindings_of t ps)) (drop n vs)) ∷ below) next
    ∙ sym (ap (λ xs. xs ∷ below) (bind_at t ps vs (left - 1) d (omega arith)))

-- what follows from what is reported of a success
pub ok_as : {A E : Type 0} {P Q : Type 0} (r : Result A E) → OnOk r P → (P → Q) → OnOk r Q
ok_as (Ok x) p f = f p
ok_as (Err e) p f = tt
