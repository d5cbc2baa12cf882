-- Faults whose places are at most a number: lists of them, the first of them, and what is said of an expression.
use Rattle.std.proofs.Common.{ℕ, ◌≤◌, Bool, true, false, List, [], ◌∷◌, ◌++◌, Option, Some, None, if◌then◌else◌}
use Rattle.c_expr_types.specs.declared.fault.Fault.{Fault}
use Rattle.c_expr_types.specs.declared.fault.TypeKind.{TypeKind}
use Rattle.c_expr_types.specs.declared.fault.TypeKind.TheVariants.{WrongType}
use Rattle.c_expr_types.specs.declared.found.Found.{Found}
use Rattle.c_expr_types.specs.declared.found.Found.TheVariants.{Wrong, Place}
use Rattle.c_expr_types.specs.declared.found.Part.{Part}
use Rattle.c_expr_types.specs.Faults.{unless, is_before, earlier, first}
use Rattle.c_expr_types.specs.Found.{faults_of, unless_wrong, after, misfit, required, misplaced, place_required}
use Rattle.c_types.specs.Statements.{hiding}

module _ (n : ℕ) where
  -- each fault has a place of at most n
  abbrev pub Within : List Fault → Type 0
  Within [] = Unit {0}
  Within (f ∷ fs) = (f.place ≤ n) × Within fs

  pub within_append : (fs gs : List Fault) → Within fs → Within gs → Within (fs ++ gs)
  within_append [] gs h k = k
  within_append (f ∷ fs) gs (p, h) k = (p, within_append fs gs h k)

  pub within_unless : (test : Bool) (kind : TypeKind) (place : ℕ) → place ≤ n → Within (unless test kind place)
  within_unless true kind place h = tt
  within_unless false kind place h = (h, tt)

  pub within_hiding : (parts whole : List Fault) → Within parts → Within whole → Within (hiding parts whole)
  within_hiding [] whole h k = k
  within_hiding (f ∷ more) whole h k = h

  -- a fault that may be there has such a place
  abbrev pub MayBeWithin : Option Fault → Type 0
  MayBeWithin None = Unit {0}
  MayBeWithin (Some f) = f.place ≤ n

  chosen_within : (test : Bool) (a b : Fault) → a.place ≤ n → b.place ≤ n → (if test then b else a).place ≤ n
  chosen_within true a b h k = k
  chosen_within false a b h k = h

  earlier_within : (a : Fault) (o : Option Fault) → a.place ≤ n → MayBeWithin o → (earlier a o).place ≤ n
  earlier_within a None h k = h
  earlier_within a (Some b) h k = chosen_within (is_before b a) a b h k

  pub first_within : (fs : List Fault) → Within fs → MayBeWithin (first fs)
  first_within [] h = tt
  first_within (f ∷ fs) (p, h) = earlier_within f (first fs) p (first_within fs h)

  -- what an expression is found to be: where it is a fault, it has such a place
  abbrev pub FoundWithin : Found → Type 0
  FoundWithin found = Within (faults_of found)

  unless_wrong_within : (o : Option Fault) (found : Found) → MayBeWithin o → FoundWithin found → FoundWithin (unless_wrong o found)
  unless_wrong_within None found h k = k
  unless_wrong_within (Some f) found h k = (h, tt)

  pub after_within : (fs : List Fault) (found : Found) → Within fs → FoundWithin found → FoundWithin (after fs found)
  after_within fs found h k = unless_wrong_within (first fs) found (first_within fs h) k

  -- an expression begins at such a place, and so has its fault
  abbrev pub PartWithin : Part → Type 0
  PartWithin part = (part.place ≤ n) × FoundWithin part.found

  misfit_within : (holds : Bool) (at : ℕ) (found : Found) → at ≤ n → FoundWithin found → Within (misfit holds at found)
  misfit_within holds at (Wrong f) h k = k
  misfit_within holds at _ h k = within_unless holds WrongType at h

  misplaced_within : (holds : Bool) (at : ℕ) (found : Found) → at ≤ n → FoundWithin found → Within (misplaced holds at found)
  misplaced_within holds at (Wrong f) h k = k
  misplaced_within holds at (Place t) h k = within_unless holds WrongType at h
  misplaced_within holds at _ h k = (h, tt)

  pub required_within : (holds : Bool) (part : Part) → PartWithin part → Within (required holds part)
  required_within holds part h = misfit_within holds part.place part.found h.0 h.1

  pub place_required_within : (holds : Bool) (part : Part) → PartWithin part → Within (place_required holds part)
  place_required_within holds part h = misplaced_within holds part.place part.found h.0 h.1
