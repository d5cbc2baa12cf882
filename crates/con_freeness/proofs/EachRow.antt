-- The obstacle of a row, from the least common names that are found or aren't.
use Rattle.std.proofs.Common.{◌≡◌, Bool, true, false, List, ℕ, Option, Some, None, refl, ap, ◌∙◌}
use Rattle.std.specs.Prelude.{option_map}
use Rattle.std.specs.Option.{option_or}
use Rattle.con_freeness.specs.Verdicts.{Concrete, Both, Pinned}
use Rattle.con_freeness.specs.Rows.{Names, Row, least_common, both, across, obstacle}

without_second : (a : Option (List ℕ)) → None ≡ both a None
without_second None = refl
without_second (Some y) = refl

without_first : (b : Option (List ℕ)) → None ≡ both None b
without_first None = refl
without_first (Some z) = refl

pub no_future : (row : Row) (pinned : Bool) (changed : Names) → None ≡ least_common changed row.future → None ≡ across row pinned changed
no_future row true changed e = ap (option_map Pinned) e
no_future row false changed e =
    without_second (least_common changed row.prior) ∙ ap (both (least_common changed row.prior)) e

pub no_prior : (row : Row) (pinned : Bool) (changed : Names) → pinned ≡ false → None ≡ least_common changed row.prior
    → None ≡ across row pinned changed
no_prior row true changed loose e = cc
no_prior row false changed loose e =
    without_first (least_common changed row.future) ∙ ap (λ a. both a (least_common changed row.future)) e

pub pinned_future : (row : Row) (pinned : Bool) (changed : Names) (z : List ℕ) → pinned ≡ true → Some z ≡ least_common changed row.future
    → Some (Pinned z) ≡ across row pinned changed
pinned_future row true changed z fast e = ap (option_map Pinned) e
pinned_future row false changed z fast e = cc

pub both_sides : (row : Row) (pinned : Bool) (changed : Names) (y z : List ℕ) → pinned ≡ false → Some y ≡ least_common changed row.prior
    → Some z ≡ least_common changed row.future → Some (Both y z) ≡ across row pinned changed
both_sides row true changed y z loose e f = cc
both_sides row false changed y z loose e f =
    ap (λ a. both a (Some z)) e ∙ ap (both (least_common changed row.prior)) f

pub concrete_first : (row : Row) (pinned : Bool) (changed interface : Names) (z : List ℕ) → Some z ≡ least_common interface row.concrete
    → Some (Concrete z) ≡ obstacle row pinned changed interface
concrete_first row pinned changed interface z e = ap (λ o. option_or (option_map Concrete o) (across row pinned changed)) e

pub across_next : (row : Row) (pinned : Bool) (changed interface : Names) → None ≡ least_common interface row.concrete
    → across row pinned changed ≡ obstacle row pinned changed interface
across_next row pinned changed interface e = ap (λ o. option_or (option_map Concrete o) (across row pinned changed)) e
