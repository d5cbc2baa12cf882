-- What an admitted patch leaves of the rows in force.
use Rattle.std.proofs.Common.{◌≡◌, ℕ, ◌<◌, ◌⊎◌, inl, inr, Bool, true, false, not, ◌&&◌, ◌||◌, List, [], ◌∷◌, map, length, get_or, bytes_eq, Some, refl, sym, ap, subst, ◌∙◌}
use Rattle.std.specs.List.{list_any}
use Rattle.std.proofs.lemmas.Bool.{false≢true, and_parts, not-true, or_cases, or_left, or_right, false_from_ne_true}
use Rattle.std.proofs.lemmas.List.{get_or-map, length-map}
use Rattle.std.proofs.lemmas.List.Elements.{All-get_or}
use Rattle.std.proofs.lemmas.Slice.Eq.{bytes_eq-Decides}
use Rattle.c_tree.specs.BareExpr.{Bytes}
use Rattle.c_semantics.specs.Store.{Body, Mark}
use Rattle.con_freeness.specs.Verdicts.{Admitted}
use Rattle.con_freeness.specs.Laws.{Admits, IsVerdict, LeastSlotRefuses}
use Rattle.con_freeness.specs.Rows.{Names, Row, admits, meets, verdict}
use Rattle.name_sets.specs.NameLists.{is_among}
use Rattle.effects.specs.Rows.{InPrior, InFuture, InConcrete, AreRows}
use Rattle.source_model.specs.Guards.{Seat, Rules, empty_seat, in_force, row_in_force}

-- a name that is among some and passes a test
any_passes : (test : Bytes → Bool) (xs : Names) (name : Bytes) → is_among xs name ≡ true → test name ≡ true → list_any test xs ≡ true
any_passes test [] name h t = h
any_passes test (x ∷ xs) name h t = by (bytes_eq name x) refl h (any_passes test xs name)
  where
    by : (b : Bool) → bytes_eq name x ≡ b → (b || is_among xs name) ≡ true → (is_among xs name ≡ true → test name ≡ true → list_any test xs ≡ true)
        → (test x || list_any test xs) ≡ true
    by true e i rest = or_left (test x) _ (ap test (sym ((bytes_eq-Decides name x).0 e)) ∙ t)
    by false e i rest = or_right (test x) _ (rest i t)

-- sets that don't meet have no name in common
pub apart : (a b : Names) (name : Bytes) → meets a b ≡ false → is_among b name ≡ true → is_among a name ≡ false
apart a b name h has =
    false_from_ne_true (is_among a name) (λ also. false≢true (sym h ∙ any_passes (is_among b) a name also has))

-- each seat's row admits
pub each_admits : (least : LeastSlotRefuses) (rules : Rules) (bodies : List Body) (seats : List Seat) (changed interface : Names)
    → verdict (map (in_force rules bodies) seats) changed interface ≡ Admitted → (k : ℕ) → k < length seats
    → let s = in_force rules bodies (get_or seats k empty_seat) in admits s.row s.pinned changed interface ≡ true
each_admits least rules bodies seats changed interface e k inside =
    let all = subst (IsVerdict (map (in_force rules bodies) seats) changed interface) e (least (map (in_force rules bodies) seats) changed interface) in
    subst (Admits changed interface) (get_or-map (in_force rules bodies) seats k empty_seat (in_force rules bodies empty_seat) inside)
    (All-get_or (Admits changed interface) (map (in_force rules bodies) seats) k (in_force rules bodies empty_seat)
    (subst (λ n. k < n) (sym (length-map seats (in_force rules bodies))) inside) all)

-- a name of the concrete set of a seat's mark isn't among the interface set
pub concrete_left : (least : LeastSlotRefuses) (rules : Rules) → AreRows rules.row → (bodies : List Body) (seats : List Seat)
    (changed interface : Names) → verdict (map (in_force rules bodies) seats) changed interface ≡ Admitted → (k : ℕ) → k < length seats
    → (mark : Mark) → (get_or seats k empty_seat).mark ≡ Some mark → (name : Bytes) → InConcrete bodies mark name
    → is_among interface name ≡ false
concrete_left least rules rows bodies seats changed interface e k inside mark is name concrete =
    let both = and_parts _ _ (each_admits least rules bodies seats changed interface e k inside) in
    let none : meets interface (row_in_force rules bodies (get_or seats k empty_seat).mark).concrete ≡ false = not-true _ both.0 in
    apart interface (rules.row bodies mark).concrete name
    (ap (λ m. meets interface (row_in_force rules bodies m).concrete) (sym is) ∙ none) (((rows bodies mark).concrete.same name).1 concrete)

-- what an admitted patch leaves of the names of a mark's future and prior sets
pub record OthersLeft (bodies : List Body) (mark : Mark) (pinned meets_prior : Bool) (changed : Names) : Type 0 where
  pub either : ((name : Bytes) → InFuture bodies mark name → is_among changed name ≡ false) ⊎ ((pinned ≡ false) × (meets_prior ≡ false))
  pub prior : meets_prior ≡ false → (name : Bytes) → InPrior bodies mark name → is_among changed name ≡ false

pub others_left : (least : LeastSlotRefuses) (rules : Rules) → AreRows rules.row → (bodies : List Body) (seats : List Seat)
    (changed interface : Names) → verdict (map (in_force rules bodies) seats) changed interface ≡ Admitted → (k : ℕ) → k < length seats
    → (mark : Mark) → (get_or seats k empty_seat).mark ≡ Some mark
    → OthersLeft bodies mark (get_or seats k empty_seat).pinned
    (meets changed (row_in_force rules bodies (get_or seats k empty_seat).mark).prior) changed
others_left least rules rows bodies seats changed interface e k inside mark is = record {
  either = by (or_cases _ _ (and_parts _ _ (each_admits least rules bodies seats changed interface e k inside)).1);
  prior = λ none name x.
      apart changed (rules.row bodies mark).prior name
      (ap (λ m. meets changed (row_in_force rules bodies m).prior) (sym is) ∙ none) (((rows bodies mark).prior.same name).1 x);
}
  where
    seat : Seat
    seat = get_or seats k empty_seat

    row : Row
    row = row_in_force rules bodies (get_or seats k empty_seat).mark

    by : (not (meets changed row.future) ≡ true) ⊎ ((not seat.pinned && not (meets changed row.prior)) ≡ true)
        → ((name : Bytes) → InFuture bodies mark name → is_among changed name ≡ false) ⊎ ((seat.pinned ≡ false) × (meets changed row.prior ≡ false))
    by (inl h) =
        inl (λ name x.
        apart changed (rules.row bodies mark).future name
        (ap (λ m. meets changed (row_in_force rules bodies m).future) (sym is) ∙ not-true _ h) (((rows bodies mark).future.same name).1 x))
    by (inr h) = let both = and_parts _ _ h in inr (not-true _ both.0, not-true _ both.1)
