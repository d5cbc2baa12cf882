-- Recorded names stay known where a thread goes on.
use Rattle.std.proofs.Common.{◌≡◌, ℕ, zero, suc, ◌+◌, ◌<◌, ◌⊎◌, inl, inr, List, ◌∷◌, Option, Some, None, refl, ap, subst, ◌∙◌, arith, option_map}
use Rattle.std.specs.Prelude.{nat_lt}
use Rattle.std.proofs.lemmas.Bool.{lt-ltb}
use Rattle.std.proofs.lemmas.Option.{none-some, same_Some}
use Rattle.run_types.specs.Skeleton.{Point}
use Rattle.run_types.specs.Skeleton as kind
use Rattle.c_tree.specs.BareExpr.{Bytes}
use Rattle.c_semantics.specs.Store.{Body}
use Rattle.c_semantics.specs.Threads.{Enter}
use Rattle.effects.specs.Sites.{Site, IsOf, IsCall, IsEntry, Next, Passes, Uses, point_in, after_call, is_enclosed}
use Rattle.effects.specs.Standard.{Standard, Adds}
use Rattle.effects.specs.Standard as standard
use Rattle.effects.specs.Nested.{Nested, Inside}
use Rattle.effects.specs.Nested as nested
use Rattle.effects.specs.Contextual.{Prior}
use Rattle.effects.specs.Contextual as contextual
use Rattle.effects.proofs.Points.{one_function}
use Rattle.admission_laws.specs.Stacks.{Level, AtCall, Stacked}
use Rattle.admission_laws.specs.Stacks as stacks
use Rattle.admission_laws.specs.Transactions.{HasDepth, Depth, Known, KnownBelow}
use Rattle.admission_laws.specs.Transactions as transaction
use Rattle.admission_laws.proofs.PointFacts.{uses_by_kind}
use Rattle.admission_laws.proofs.StackUses.{above_of}

-- a point of positive depth is enclosed
enclosed : (bodies : List Body) (p : Site) (d : ℕ) → HasDepth bodies p d → 0 < d → Passes bodies p is_enclosed
enclosed bodies p d x h = by (point_in bodies p) refl x.has_depth
  where
    by : (o : Option Point) → point_in bodies p ≡ o → option_map (λ at. at.depth) o ≡ Some d → Passes bodies p is_enclosed
    by None e is = absurd (none-some d is)
    by (Some at) e is = record {
      passes = ap (option_map is_enclosed) e ∙ ap (λ n. Some (nat_lt 0 n)) (same_Some _ _ is) ∙ ap Some (lt-ltb 0 d h);
    }

-- one of two is positive where their sum is
either_positive : (d n : ℕ) → 0 < d + n → (0 < d) ⊎ (0 < n)
either_positive zero n h = inr (omega (arith, h))
either_positive (suc d) n h = inl (omega arith)

-- the function of a call that is in a transaction is nested
pub nested_by : (bodies : List Body) (c : Site) (below : List Level) (n : ℕ) (f : Bytes) → Depth bodies c below n → 0 < n
    → Stacked bodies c below → IsCall bodies c f → Nested bodies f
nested_by bodies _ _ _ f (transaction.bottom c d has) h stacked call = nested.in_transaction f c call (enclosed bodies c d has h)
nested_by bodies _ _ _ f (transaction.above c d b below n has rest) h stacked call =
    let a = above_of bodies c b below stacked in
    elim (either_positive d n h) [
      | inl positive ↦ nested.in_transaction f c call (enclosed bodies c d has positive)
      | inr positive ↦
          nested.Nested.in_nested f a.function c call a.is_of (nested_by bodies b.site below n a.function rest positive a.under a.call.call)
    ]

-- a thread that is in a transaction stands inside
pub inside_by : (bodies : List Body) (p : Site) (below : List Level) (n : ℕ) → Depth bodies p below n → 0 < n → Stacked bodies p below
    → Inside bodies p
inside_by bodies _ _ _ (transaction.bottom p d has) h stacked = nested.enclosed p (enclosed bodies p d has h)
inside_by bodies _ _ _ (transaction.above p d c below n has rest) h stacked =
    let a = above_of bodies p c below stacked in
    elim (either_positive d n h) [
      | inl positive ↦ nested.enclosed p (enclosed bodies p d has positive)
      | inr positive ↦ nested.Inside.in_nested p a.function a.is_of (nested_by bodies c.site below n a.function rest positive a.under a.call.call)
    ]

-- the function in which a stack stands
pub function_at : (bodies : List Body) (p : Site) (below : List Level) → Stacked bodies p below → (f : Bytes) × IsOf bodies p f
function_at bodies _ _ (stacks.bottom p f is_of) = (f, is_of)
function_at bodies _ _ (stacks.above p f c below is_of call under) = (f, is_of)

-- what a function may use is known at each call below it
pub known_under : (bodies : List Body) (p : Site) (below : List Level) (f name : Bytes) → Stacked bodies p below → IsOf bodies p f
    → Standard bodies f name → KnownBelow bodies below name
known_under bodies _ _ f name (stacks.bottom p g is_of) at s = tt
known_under bodies _ _ f name (stacks.above p g c below is_of call under) at s =
    let s' = subst (λ x. Standard bodies x name) (one_function bodies p f g at is_of) s in
    let h = function_at bodies c.site below under in (
      λ n depth positive. inr (standard.Adds.called c.site g name call.call s'),
      known_under bodies c.site below h.0 name under h.1 (standard.Standard.called h.0 g name c.site h.1 call.call s'),
    )

-- the name that a frame uses at its point
pub used_here : (bodies : List Body) (p : Site) (below : List Level) (f name : Bytes) → Stacked bodies p below → IsOf bodies p f
    → Uses bodies p name → Known bodies p None below name
used_here bodies p below f name stacked is_of uses =
    record { here = inr (refl, uses); under = known_under bodies p below f name stacked is_of (standard.used f name p is_of uses) }

-- a known name was used before the next point of the same body
pub prior_next : (bodies : List Body) (p q : Site) (below : List Level) (name : Bytes) → Inside bodies q → Next bodies p q
    → Known bodies p None below name → Prior bodies q name
prior_next bodies p q below name inside next k = by k.here
  where
    by : Prior bodies p name ⊎ ((◌≡◌ {A = Option Enter} None None) × Uses bodies p name) → Prior bodies q name
    by (inl x) = contextual.before p q name inside next x
    by (inr (same, x)) = contextual.Prior.added p q name inside next (standard.direct p name x)

-- so it stays known there
pub known_next : (bodies : List Body) (p q : Site) (due : Option Enter) (below : List Level) (name : Bytes) → Inside bodies q
    → Next bodies p q → Known bodies p None below name → Known bodies q due below name
known_next bodies p q due below name inside next k =
    record { here = inl (prior_next bodies p q below name inside next k); under = k.under }

-- at a call whose enter is due it was used before
before_call : (bodies : List Body) (c : Site) (e : Enter) (below : List Level) (name : Bytes) → Known bodies c (Some e) below name → Prior bodies c name
before_call bodies c e below name k = by k.here
  where
    by : Prior bodies c name ⊎ ((Some e ≡ None) × Uses bodies c name) → Prior bodies c name
    by (inl x) = x
    by (inr (same, x)) = cc

-- into the function that is called
pub known_entered : (bodies : List Body) (c : Level) (at : Site) (e : Enter) (below : List Level) (name : Bytes) → Inside bodies c.site
    → Nested bodies e.function → IsCall bodies c.site e.function → IsEntry bodies at e.function
    → Known bodies c.site (Some e) below name → Known bodies at None (c ∷ below) name
known_entered bodies c at e below name inside nested call entry k =
    let x = before_call bodies c.site e below name k in record {
      here = inl (contextual.before_call at c.site e.function name entry nested call inside x);
      under = (λ n depth positive. inl x, k.under);
    }

-- the called function is recorded at its enter
pub known_function : (bodies : List Body) (c : Level) (at : Site) (e : Enter) (below : List Level) (f : Bytes) → Nested bodies e.function
    → IsCall bodies c.site e.function → IsEntry bodies at e.function → Stacked bodies c.site below → IsOf bodies c.site f
    → Known bodies at None (c ∷ below) e.function
known_function bodies c at e below f nested call entry stacked is_of =
    let uses = uses_by_kind bodies c.site (kind.Call e.function) e.function call refl in record {
      here = inl (contextual.entered at e.function entry nested);
      under = (
        λ n depth positive. inr (standard.direct c.site e.function uses),
        known_under bodies c.site below f e.function stacked is_of (standard.used f e.function c.site is_of uses),
      );
    }

-- and back to the caller, where the call was in a transaction
pub known_returned : (bodies : List Body) (r : Site) (c : Level) (below : List Level) (n : ℕ) (name : Bytes) → Depth bodies c.site below n
    → 0 < n → Inside bodies (after_call c.site) → Next bodies c.site (after_call c.site) → Known bodies r None (c ∷ below) name
    → Known bodies (after_call c.site) None below name
known_returned bodies r c below n name depth positive inside next k =
    record { here = inl (by (k.under.0 n depth positive)); under = k.under.1 }
  where
    by : Prior bodies c.site name ⊎ Adds bodies c.site name → Prior bodies (after_call c.site) name
    by (inl x) = contextual.before c.site (after_call c.site) name inside next x
    by (inr x) = contextual.Prior.added c.site (after_call c.site) name inside next x
