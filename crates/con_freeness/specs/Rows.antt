-- When the rows in force admit a patch.
use Rattle.std.specs.Prelude.{ℕ, suc, Bool, true, false, not, ◌&&◌, ◌||◌, List, [], ◌∷◌, find, Option, Some, None, option_map}
use Rattle.std.specs.Option.{option_or}
use Rattle.std.specs.List.{list_any}
use Rattle.name_sets.specs.NameLists.{is_among, name_set}
use Rattle.con_freeness.specs.Verdicts.{Effect, Concrete, Both, Pinned, Verdict, Admitted, Refused}

-- some names, each as its text
abbrev pub Names : Type 0
Names = List (List ℕ)

-- the row of a thread: what its outermost transaction in progress may have used so far, what it may still use, callees
-- included, and what the code still to run in its active frames may use directly
pub record Row : Type 0 where
  pub prior : Names
  pub future : Names
  pub concrete : Names

-- the row of a slot without a live thread
abbrev pub empty_row : Row
empty_row = record { prior = []; future = []; concrete = [] }

-- whether two sets have a name in common
abbrev pub meets : Names → Names → Bool
meets a b = list_any (is_among b) a

-- whether a row admits a patch that changes some names, among these the interface of some: no active code uses a name
-- in its old shape, and the transaction in progress uses changed names only before the patch or only after it; that of
-- a pinned thread has used names before it
abbrev pub admits : Row → Bool → Names → Names → Bool
admits row pinned changed interface =
    not (meets interface row.concrete)
    && (not (meets changed row.future) || (not pinned && not (meets changed row.prior)))

-- the least name by bytes that two sets have in common
abbrev pub least_common : Names → Names → Option (List ℕ)
least_common a b = find (is_among b) (name_set a)

-- two names, where both are there
abbrev pub both : Option (List ℕ) → Option (List ℕ) → Option Effect
both (Some y) (Some z) = Some (Both y z)
both _ _ = None

-- the effect by which a transaction doesn't admit changed names, that of a pinned thread first
abbrev pub across : Row → Bool → Names → Option Effect
across row true changed = option_map Pinned (least_common changed row.future)
across row false changed = both (least_common changed row.prior) (least_common changed row.future)

-- the effect by which a row doesn't admit a patch, if it doesn't: `Concrete` before the others
abbrev pub obstacle : Row → Bool → Names → Names → Option Effect
obstacle row pinned changed interface =
    option_or (option_map Concrete (least_common interface row.concrete)) (across row pinned changed)

-- a slot as the test sees it: the row in force, and whether its thread is pinned
pub record InForce : Type 0 where
  pub row : Row
  pub pinned : Bool

-- the verdict where slot n has that obstacle and the later slots have that verdict
abbrev pub first_of : ℕ → Option Effect → Verdict → Verdict
first_of n None later = later
first_of n (Some effect) later = Refused (record { slot = n; effect = effect })

abbrev pub verdict_from : ℕ → List InForce → Names → Names → Verdict
verdict_from n [] changed interface = Admitted
verdict_from n (s ∷ slots) changed interface =
    first_of n (obstacle s.row s.pinned changed interface) (verdict_from (suc n) slots changed interface)

-- the verdict on a patch, by the slots in order: the refusal of the least one whose row doesn't admit it
abbrev pub verdict : List InForce → Names → Names → Verdict
verdict = verdict_from 0
