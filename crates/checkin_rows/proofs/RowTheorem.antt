-- The rows that are kept are those of the check-ins and of the starts of the store.
use Rattle.std.proofs.Common.{◌≡◌, ◌↔◌, ℕ, zero, suc, ◌+◌, ◌<◌, ◌≤◌, ◌⊎◌, inl, inr, Bool, true, false, List, [], ◌∷◌, ◌++◌, map, Some, length, get_or, refl, sym, ap, subst, ◌∙◌, arith, if◌then◌else◌}
use Rattle.std.specs.Prelude.{Contains, slice_get, slice_index}
use Rattle.std.specs.List.{list_any}
use Rattle.std.specs.Option.{option_and_then, option_map, unwrap_or}
use Rattle.std.proofs.lemmas.Map.Views.{Contains-from_any}
use Rattle.std.proofs.lemmas.Option.{same_Some, slice_get_within, slice_get-get_or, slice_get-map}
use Rattle.name_sets.specs.IdSet.{Holds}
use Rattle.c_tree.specs.BareExpr.{Bytes}
use Rattle.c_semantics.specs.Store.{Body}
use Rattle.effects.specs.Sites.{Site, IsEntry}
use Rattle.effects.specs.Concrete.{Concrete}
use Rattle.effect_flow.specs.Parts.{Contents as FlowContents}
use Rattle.effect_flow.proofs.FlowPoints.{place_if_passes}
use Rattle.contextual_effects.specs.Effects.{Sets, HasNames, AreEffectsOf}
use Rattle.contextual_effects.proofs.EdgeLists.{place_in, contains_at}
use Rattle.effects.proofs.MarkEquations.{prior_of_check_in, future_of_check_in, concrete_of_check_in, prior_of_start, future_of_start, concrete_of_start}
use Rattle.contextual_effects.proofs.NodesOfPoints.{Setting}
use Rattle.contextual_effects.proofs.Numbering as code
use Rattle.effects.proofs.RowEquations.{From, Starts, RowFlows}
use Rattle.con_freeness.specs.declared.row.Row.{Row}
use Rattle.checkin_rows.specs.declared.row.Mark.{Mark}
use Rattle.checkin_rows.specs.declared.row.Mark.TheVariants as mark
use Rattle.checkin_rows.specs.declared.entries.Entry.{Entry}
use Rattle.checkin_rows.specs.Marks.{entries_of, same_mark, with_mark, with_marks}
use Rattle.checkin_rows.specs.Rows.{Contents, IsNumber, row_of, IsEmptyRow, AreRowsOf}
use Rattle.checkin_rows.specs.Steps.{SetsOfNodes, AreSetsOf, IsFound, IsEntered, IsRowOfMark, AreRowsOfMarks, AreKept}
use Rattle.checkin_rows.proofs.Lists.{at_front, contains_push}
use Rattle.checkin_rows.proofs.MarkLemmas.{marks_same}
use Rattle.checkin_rows.proofs.OwnSeeds.{own_seeds}
use Rattle.checkin_rows.proofs.RowSystem.{node_has}
use Rattle.checkin_rows.proofs.RowsOfStore.{check_in_names, check_is_among, start_found, start_is_among, start_is_below}

-- ---- the marks of entries are among the marks

with_mark_keeps : (marks : List Mark) (m n : Mark) → Contains marks n → Contains (with_mark marks m) n
with_mark_keeps marks m n c = by (list_any (same_mark m) marks)
  where
    by : (b : Bool) → Contains (if b then marks else marks ++ m ∷ []) n
    by true = c
    by false = let k = place_in marks n c in contains_at (marks ++ m ∷ []) k.0 n (at_front marks (m ∷ []) k.0 n k.1)

with_mark_has : (marks : List Mark) (m : Mark) → Contains (with_mark marks m) m
with_mark_has marks m = by (list_any (same_mark m) marks) refl
  where
    by : (b : Bool) → list_any (same_mark m) marks ≡ b → Contains (if b then marks else marks ++ m ∷ []) m
    by true e = Contains-from_any marks_same.same m marks e
    by false e = contains_push marks m

with_marks_keep : (ms marks : List Mark) (n : Mark) → Contains marks n → Contains (with_marks marks ms) n
with_marks_keep [] marks n c = c
with_marks_keep (m ∷ ms) marks n c = with_marks_keep ms (with_mark marks m) n (with_mark_keeps marks m n c)

with_marks_have : (ms marks : List Mark) (k : ℕ) (n : Mark) → slice_get ms k ≡ Some n → Contains (with_marks marks ms) n
with_marks_have [] marks k n at = cc
with_marks_have (m ∷ ms) marks zero n at =
    with_marks_keep ms (with_mark marks m) n (subst (Contains (with_mark marks m)) (same_Some m n at) (with_mark_has marks m))
with_marks_have (m ∷ ms) marks (suc k) n at = with_marks_have ms (with_mark marks m) k n at

in_marks : (es : List Entry) (e : Entry) (m : Mark) → Contains es e → e.mark ≡ m → Contains (with_marks [] (map (λ e. e.mark) es)) m
in_marks es e m c same =
    let k = place_in es e c in
    with_marks_have (map (λ e. e.mark) es) [] k.0 m (slice_get-map (λ e. e.mark) es k.0 ∙ ap (λ o. option_map (λ e. e.mark) o) k.1 ∙ ap Some same)

-- ---- the row of a number

no_row : {es : List Entry} {sets : SetsOfNodes} (m : Mark) {row : Row} → IsEmptyRow row → ((e : Entry) → Contains es e → e.mark ≡ m → ⊥) → IsRowOfMark es sets m row
no_row m empty absent = record {
  prior = λ id. (λ h. absurd (empty.prior id h), λ f. absurd (absent f.entry f.among f.of_mark));
  future = λ id. (λ h. absurd (empty.future id h), λ f. absurd (absent f.entry f.among f.of_mark));
  concrete = λ id. (
    λ h. absurd (empty.concrete id h),
    λ s. elim s [ inl f ↦ absurd (absent f.entry f.among f.of_mark) | inr f ↦ absurd (absent f.entry f.among f.of_mark) ],
  );
}

row_at : (es : List Entry) (sets : SetsOfNodes) (rows : List Row) (r : Contents) → r.marks ≡ with_marks [] (map (λ e. e.mark) es)
    → AreRowsOfMarks es sets r.marks rows → AreKept rows r.index r.kept → IsEmptyRow r.empty
    → (m : Mark) (n : ℕ) → IsNumber r.marks m n → IsRowOfMark es sets m (row_of r n)
row_at es sets rows r marks are kept empty m zero absent =
    no_row m empty (λ e c same. absent (subst (λ ms. Contains ms m) (sym marks) (in_marks es e m c same)))
row_at es sets rows r marks are kept empty m (suc k) at =
    let l : k < length r.marks = slice_get_within r.marks k m at in
    let many : length rows ≡ length r.marks = are.many in
    let found : slice_get rows k ≡ Some (get_or rows k r.empty) = slice_get-get_or rows k r.empty (omega arith) in
    let x = kept.at k (get_or rows k r.empty) found in
    subst (IsRowOfMark es sets m)
    (sym (ap (λ o. unwrap_or (option_and_then (slice_get r.kept) o) r.empty) x.1 ∙ ap (λ o. unwrap_or o r.empty) x.2))
    (are.row k m (get_or rows k r.empty) at found)

-- ---- names

other_names : {names : List Bytes} {set : ℕ} {In Other : Bytes → Type 0} → HasNames names set In → ((z : Bytes) → Other z ↔ In z) → HasNames names set Other
other_names has same = record {
  only = λ id h. let x = has.only id h in (x.0, x.1, (same x.0).1 x.2);
  all = λ z x. has.all z ((same z).0 x);
}

other_set : {names : List Bytes} {set other : ℕ} {In : Bytes → Type 0} → HasNames names set In → ((id : ℕ) → Holds other id ↔ Holds set id) → HasNames names other In
other_set has same = record {
  only = λ id h. has.only id ((same id).0 h);
  all = λ z x. let y = has.all z x in (y.0, y.1, (same y.0).1 y.2);
}

pub rows_of_store : {names : List Bytes} {bodies : List Body} {flow : FlowContents} {points ids : ℕ} {effects : Sets} (sets : SetsOfNodes) (rows : List Row) (r : Contents)
    → Setting names bodies flow points ids → AreEffectsOf names bodies effects
    → AreSetsOf points ids flow effects.prior sets.prior → AreSetsOf points ids flow effects.future sets.future → AreSetsOf points ids flow effects.concrete sets.concrete
    → r.marks ≡ with_marks [] (map (λ e. e.mark) (entries_of points ids flow.points flow.points))
    → AreRowsOfMarks (entries_of points ids flow.points flow.points) sets r.marks rows → AreKept rows r.index r.kept → IsEmptyRow r.empty
    → AreRowsOf names bodies r
rows_of_store {names} {bodies} {flow} {points} {ids} {effects} sets rows r s e prior future concrete marks are kept empty = record {
  check_in = λ f id generation number n named at.
      let row = row_of_number (mark.CheckIn id generation number) n at in
      record {
        prior = other_names (check_in_names points ids id generation number sets.prior (row_of r n).prior s.is_flow named
            (λ p i place. node_has sets.prior s (own_seeds s e.prior prior.are_seeds) prior.least (From p) i (code.of_from p i place)) row.prior)
            (prior_of_check_in bodies f generation number);
        future = other_names (check_in_names points ids id generation number sets.future (row_of r n).future s.is_flow named
            (λ p i place. node_has sets.future s (own_seeds s e.future future.are_seeds) future.least (From p) i (code.of_from p i place)) row.future)
            (future_of_check_in bodies f generation number);
        concrete = other_names (check_in_names points ids id generation number sets.concrete (row_of r n).concrete s.is_flow named
            (λ p i place. node_has sets.concrete s (own_seeds s e.concrete concrete.are_seeds) concrete.least (From p) i (code.of_from p i place))
            (λ i. (
              λ h. elim ((row.concrete i).0 h) [ inl x ↦ x | inr x ↦ absurd x.started ],
              λ x. (row.concrete i).1 (inl x),
            )))
            (concrete_of_check_in bodies f generation number);
      };
  no_check_in = λ f id generation number p named at none.
      let place = place_if_passes at.is_check_in in
      none (subst (λ ms. Contains ms (mark.CheckIn id generation number)) (sym marks)
      (in_marks (entries_of points ids flow.points flow.points) (record { mark = mark.CheckIn id generation number; node = place.0 }) (mark.CheckIn id generation number)
      (check_is_among points ids id generation number p place.0 s.is_flow named at place.1) refl));
  start = λ f id n entry named at number.
      let row = row_of_number (mark.Start id) n number in
      let node = code.of_starts f (points + points + ids + id) (record { id = id; named = named; below = start_is_below id entry s named at; number = refl }) in
      record {
        prior = other_names
            (other_set (node_has sets.prior s (own_seeds s e.prior prior.are_seeds) prior.least (Starts f) (points + points + ids + id) node)
            (λ i. let x = start_found points ids id entry sets.prior i s.is_flow named at in (λ h. x.0 ((row.prior i).0 h), λ h. (row.prior i).1 (x.1 h))))
            (prior_of_start bodies f);
        future = other_names
            (other_set (node_has sets.future s (own_seeds s e.future future.are_seeds) future.least (Starts f) (points + points + ids + id) node)
            (λ i. let x = start_found points ids id entry sets.future i s.is_flow named at in (λ h. x.0 ((row.future i).0 h), λ h. (row.future i).1 (x.1 h))))
            (future_of_start bodies f);
        concrete = other_names
            (concrete_names f id entry (row_of r n).concrete named at
            (node_has sets.concrete s (own_seeds s e.concrete concrete.are_seeds) concrete.least (Starts f) (points + points + ids + id) node) row.concrete)
            (concrete_of_start bodies f);
      };
  no_start = λ f id entry named at none.
      none (subst (λ ms. Contains ms (mark.Start id)) (sym marks)
      (in_marks (entries_of points ids flow.points flow.points) (record { mark = mark.Start id; node = points + points + ids + id }) (mark.Start id)
      (start_is_among points ids id entry s.is_flow named at) refl));
}
  where
    row_of_number : (m : Mark) (n : ℕ) → IsNumber r.marks m n → IsRowOfMark (entries_of points ids flow.points flow.points) sets m (row_of r n)
    row_of_number = row_at (entries_of points ids flow.points flow.points) sets rows r marks are kept empty

    concrete_names : (f : Bytes) (id : ℕ) (entry : Site) (set : ℕ) → slice_get names id ≡ Some f → IsEntry bodies entry f
        → HasNames names (slice_index sets.concrete (points + points + ids + id)) (RowFlows bodies (Concrete bodies) (Starts f))
        → ((i : ℕ) → Holds set i ↔ (IsFound (entries_of points ids flow.points flow.points) sets.concrete (mark.Start id) i
        ⊎ IsEntered (entries_of points ids flow.points flow.points) (mark.Start id) i))
        → HasNames names set (λ z. (f ≡ z) ⊎ RowFlows bodies (Concrete bodies) (Starts f) z)
    concrete_names f id entry set named at has holds = record {
      only = λ i h. elim ((holds i).0 h) [
        | inl x ↦
            let y = has.only i ((start_found points ids id entry sets.concrete i s.is_flow named at).0 x) in
            (y.0, y.1, inr y.2)
        | inr x ↦ (f, ap (slice_get names) x.started.0 ∙ named, inl refl)
      ];
      all = λ z x. elim x [
        | inl same ↦ (
          id,
          named ∙ ap Some same,
          (holds id).1 (inr (record {
            entry = record { mark = mark.Start id; node = points + points + ids + id };
            among = start_is_among points ids id entry s.is_flow named at;
            of_mark = refl;
            started = (refl, few);
          })),
        )
        | inr flows ↦
            let y = has.all z flows in
            (y.0, y.1, (holds y.0).1 (inl ((start_found points ids id entry sets.concrete y.0 s.is_flow named at).1 y.2)))
      ];
    }
      where
        few : id < 2048
        few =
            let l : id < length names = slice_get_within names id f named in
            let most : length names ≤ 2048 = s.is_flow.table.few in
            omega arith
