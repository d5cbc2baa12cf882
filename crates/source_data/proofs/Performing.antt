-- How a stop is made of a thread with what is shared.
use Rattle.std.proofs.Common.{◌≡◌, ℕ, ◌==◌, true, false, List, Result, IfOk, sym, ap, subst, ◌∙◌, rules, tests}
use Rattle.c_tree.specs.BareDef.{BareDef}
use Rattle.c_semantics.specs.Stops.{Stop}
use Rattle.c_semantics.specs.Values.{Value as Seen}
use Rattle.source_model.specs.Worlds.{World}
use Rattle.source_model.specs.Moves.{Standing, goes_on, perform}
use Rattle.local_evaluation.specs.declared.value.Value.{Value}
use Rattle.source_data.specs.declared.store.Store.{Store}
use Rattle.source_data.specs.declared.shared_stops.Did.{Did}
use Rattle.source_data.specs.declared.shared_stops.Did.TheVariants.{On}
use Rattle.resolved_tree.specs.Nodes.{Table}
use Rattle.local_evaluation.specs.Work.{newest}
use Rattle.source_data.specs.Stores.{Performs, SeesLayouts, standing_with, with_store}

-- the thread goes on: what is shared changes as the stop says, and so do the values
pub goes : (t : Table) (text : List BareDef) (slot : ℕ) (stop : Stop) (old new : Store) (values after : List Value)
    (change : World → World) (more : List Seen)
    → ((s : Standing) → s.slot ≡ slot → SeesLayouts text s.world
    → perform stop (standing_with t old s) (newest values) ≡ goes_on (standing_with t old s) (change (with_store t old s.world)) more)
    → ((w : World) → SeesLayouts text w → with_store t new w ≡ change (with_store t old w))
    → newest after ≡ more
    → Performs t text slot stop old values On new after
goes t text slot stop old new values after change more made changed left = λ s at defined.
    made s at defined
    ∙ ap (λ w. goes_on (standing_with t new s) w more) (sym (changed s.world defined))
    ∙ ap (λ vs. goes_on (standing_with t new s) (with_store t new s.world) vs) (sym left)

-- a test of two numbers
pub same_number : (a b : ℕ) → a ≡ b → (a == b) ≡ true
same_number a b h = search (rules, tests)

pub other_number : (a b : ℕ) → (a ≡ b → ⊥) → (a == b) ≡ false
other_number a b h = search (rules, tests)

-- what is performed, as told of equal things
pub performs_same : {E : Type 0} (r : Result Did E) (t u : Table) (text : List BareDef) (slot : ℕ) (stop other : Stop) (old new : Store)
    (values before after left : List Value)
    → t ≡ u → stop ≡ other → values ≡ before → after ≡ left
    → IfOk r (λ did. Performs t text slot stop old values did new after)
    → IfOk r (λ did. Performs u text slot other old before did new left)
performs_same r t u text slot stop other old new values before after left same is was now h =
    subst (λ x. IfOk r (λ did. Performs u text slot other old before did new x)) now
    (subst (λ x. IfOk r (λ did. Performs u text slot other old x did new after)) was
    (subst (λ x. IfOk r (λ did. Performs u text slot x old values did new after)) is
    (subst (λ x. IfOk r (λ did. Performs x text slot stop old values did new after)) same h)))
