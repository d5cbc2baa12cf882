-- What the rows of marks have after one entry more.
use Rattle.std.proofs.Common.{◌≡◌, ◌↔◌, ℕ, zero, suc, ◌+◌, ◌⊎◌, inl, inr, List, [], ◌∷◌, ◌++◌, Some, length, take, refl, sym, ap, subst, ◌∙◌}
use Rattle.std.specs.Prelude.{slice_get, slice_set, slice_index}
use Rattle.std.proofs.lemmas.Bool.{cases_eq}
use Rattle.std.proofs.lemmas.List.{length-set}
use Rattle.std.proofs.lemmas.Option.{same_Some, none-some}
use Rattle.name_sets.specs.IdSet.{Holds}
use Rattle.con_freeness.specs.declared.row.Row.{Row}
use Rattle.checkin_rows.specs.declared.row.Mark.{Mark}
use Rattle.checkin_rows.specs.declared.entries.Entry.{Entry}
use Rattle.checkin_rows.specs.Rows.{AreDifferent}
use Rattle.checkin_rows.specs.Steps.{SetsOfNodes, IsFound, IsStarted, IsEntered, IsRowOfMark, AreRowsOfMarks, AddsEntry, AreKept, AreSame}
use Rattle.checkin_rows.proofs.Lists.{take_more, pushed, at_push, at_front, in_pushed, contains_push, contains_front}

found_before : {es : List Entry} {sets : List ℕ} {m : Mark} {id : ℕ} (e : Entry) → IsFound es sets m id → IsFound (es ++ e ∷ []) sets m id
found_before {es} e f = record { entry = f.entry; among = contains_front es e f.entry f.among; of_mark = f.of_mark; holds = f.holds }

found_here : (es : List Entry) (sets : List ℕ) (m : Mark) (id : ℕ) (e : Entry) → e.mark ≡ m → Holds (slice_index sets e.node) id → IsFound (es ++ e ∷ []) sets m id
found_here es sets m id e same h = record { entry = e; among = contains_push es e; of_mark = same; holds = h }

found_cases : {es : List Entry} {sets : List ℕ} {m : Mark} {id : ℕ} (e : Entry) → IsFound (es ++ e ∷ []) sets m id
    → IsFound es sets m id ⊎ ((e.mark ≡ m) × Holds (slice_index sets e.node) id)
found_cases {es} {sets} {m} {id} e f =
    elim (in_pushed es e f.entry f.among) [
      | inl h ↦ inl (record { entry = f.entry; among = h; of_mark = f.of_mark; holds = f.holds })
      | inr h ↦ inr (ap (λ e. e.mark) h ∙ f.of_mark, subst (λ e. Holds (slice_index sets e.node) id) (sym h) f.holds)
    ]

entered_before : {es : List Entry} {m : Mark} {id : ℕ} (e : Entry) → IsEntered es m id → IsEntered (es ++ e ∷ []) m id
entered_before {es} e f = record { entry = f.entry; among = contains_front es e f.entry f.among; of_mark = f.of_mark; started = f.started }

entered_cases : {es : List Entry} {m : Mark} {id : ℕ} (e : Entry) → IsEntered (es ++ e ∷ []) m id → IsEntered es m id ⊎ ((e.mark ≡ m) × IsStarted m id)
entered_cases {es} {m} {id} e f =
    elim (in_pushed es e f.entry f.among) [
      | inl h ↦ inl (record { entry = f.entry; among = h; of_mark = f.of_mark; started = f.started })
      | inr h ↦ inr (ap (λ e. e.mark) h ∙ f.of_mark, f.started)
    ]

-- the row of another mark
row_of_other : {es : List Entry} {sets : SetsOfNodes} {m : Mark} {row : Row} (e : Entry) → (e.mark ≡ m → ⊥)
    → IsRowOfMark es sets m row → IsRowOfMark (es ++ e ∷ []) sets m row
row_of_other {es} {sets} {m} {row} e other r = record {
  prior = λ id. (λ h. found_before e ((r.prior id).0 h), λ f. elim (found_cases e f) [ inl g ↦ (r.prior id).1 g | inr g ↦ absurd (other g.0) ]);
  future = λ id. (λ h. found_before e ((r.future id).0 h), λ f. elim (found_cases e f) [ inl g ↦ (r.future id).1 g | inr g ↦ absurd (other g.0) ]);
  concrete = λ id. (
    λ h. elim ((r.concrete id).0 h) [ inl f ↦ inl (found_before e f) | inr f ↦ inr (entered_before e f) ],
    λ s. elim s [
      | inl f ↦ elim (found_cases e f) [ inl g ↦ (r.concrete id).1 (inl g) | inr g ↦ absurd (other g.0) ]
      | inr f ↦ elim (entered_cases e f) [ inl g ↦ (r.concrete id).1 (inr g) | inr g ↦ absurd (other g.0) ]
    ],
  );
}

-- that of the entry's mark
row_of_same : {es : List Entry} {sets : SetsOfNodes} {m : Mark} {old row : Row} (e : Entry) → e.mark ≡ m
    → IsRowOfMark es sets m old → AddsEntry sets e old row → IsRowOfMark (es ++ e ∷ []) sets m row
row_of_same {es} {sets} {m} {old} {row} e same r adds = record {
  prior = λ id. (
    λ h. elim ((adds.prior id).0 h) [ inl f ↦ found_before e ((r.prior id).0 f) | inr g ↦ found_here es sets.prior m id e same g ],
    λ f. (adds.prior id).1 (elim (found_cases e f) [ inl g ↦ inl ((r.prior id).1 g) | inr g ↦ inr g.1 ]),
  );
  future = λ id. (
    λ h. elim ((adds.future id).0 h) [ inl f ↦ found_before e ((r.future id).0 f) | inr g ↦ found_here es sets.future m id e same g ],
    λ f. (adds.future id).1 (elim (found_cases e f) [ inl g ↦ inl ((r.future id).1 g) | inr g ↦ inr g.1 ]),
  );
  concrete = λ id. (
    λ h. elim ((adds.concrete id).0 h) [
      | inl g ↦ elim g [
        | inl f ↦ elim ((r.concrete id).0 f) [ inl f ↦ inl (found_before e f) | inr f ↦ inr (entered_before e f) ]
        | inr f ↦ inl (found_here es sets.concrete m id e same f)
      ]
      | inr s ↦ inr (record { entry = e; among = contains_push es e; of_mark = same; started = subst (λ m. IsStarted m id) same s })
    ],
    λ s. (adds.concrete id).1 (elim s [
      | inl f ↦ elim (found_cases e f) [ inl g ↦ inl (inl ((r.concrete id).1 (inl g))) | inr g ↦ inl (inr g.1) ]
      | inr f ↦ elim (entered_cases e f) [ inl g ↦ inl (inl ((r.concrete id).1 (inr g))) | inr g ↦ inr (subst (λ m. IsStarted m id) (sym same) g.1) ]
    ]),
  );
}

set_here : {A : Type 0} (xs : List A) (k : ℕ) (y x : A) → slice_get (slice_set xs k y) k ≡ Some x → y ≡ x
set_here [] k y x at = absurd (none-some x at)
set_here (z ∷ xs) zero y x at = same_Some y x at
set_here (z ∷ xs) (suc k) y x at = set_here xs k y x at

set_there : {A : Type 0} (xs : List A) (k j : ℕ) (y x : A) → (j ≡ k → ⊥) → slice_get (slice_set xs k y) j ≡ Some x → slice_get xs j ≡ Some x
set_there [] k j y x other at = at
set_there (z ∷ xs) zero zero y x other at = absurd (other refl)
set_there (z ∷ xs) zero (suc j) y x other at = at
set_there (z ∷ xs) (suc k) zero y x other at = at
set_there (z ∷ xs) (suc k) (suc j) y x other at = set_there xs k j y x (λ e. other (ap suc e)) at

pub rows_more : (es : List Entry) (sets : SetsOfNodes) (marks : List Mark) (rows new : List Row) (k : ℕ) (e : Entry) (old row : Row)
    → AreDifferent marks → AreRowsOfMarks es sets marks rows → slice_get marks k ≡ Some e.mark → slice_get rows k ≡ Some old
    → new ≡ slice_set rows k row → AddsEntry sets e old row → AreRowsOfMarks (es ++ e ∷ []) sets marks new
rows_more es sets marks rows new k e old row different are at_mark at_row is adds = record {
  many = ap length is ∙ length-set rows k row ∙ are.many;
  row = λ j m r mark_at row_at. by j m r mark_at (ap (λ rows. slice_get rows j) (sym is) ∙ row_at) (cases_eq j k);
}
  where
    by : (j : ℕ) (m : Mark) (r : Row) → slice_get marks j ≡ Some m → slice_get (slice_set rows k row) j ≡ Some r
        → (j ≡ k) ⊎ (j ≡ k → ⊥) → IsRowOfMark (es ++ e ∷ []) sets m r
    by j m r mark_at row_at (inl here) =
        let same : e.mark ≡ m = same_Some e.mark m (sym at_mark ∙ ap (slice_get marks) (sym here) ∙ mark_at) in
        let is_row : row ≡ r = set_here rows k row r (ap (slice_get (slice_set rows k row)) (sym here) ∙ row_at) in
        subst (IsRowOfMark (es ++ e ∷ []) sets m) is_row (row_of_same e same (are.row k m old (at_mark ∙ ap Some same) at_row) adds)
    by j m r mark_at row_at (inr there) =
        row_of_other e (λ same. there (different j k m mark_at (at_mark ∙ ap Some same)))
        (are.row j m r mark_at (set_there rows k j row r there row_at))

pub rows_same : (es : List Entry) (sets : SetsOfNodes) (marks : List Mark) (rows : List Row) (e : Entry)
    → ((k : ℕ) → slice_get marks k ≡ Some e.mark → ⊥) → AreRowsOfMarks es sets marks rows → AreRowsOfMarks (es ++ e ∷ []) sets marks rows
rows_same es sets marks rows e absent are = record {
  many = are.many;
  row = λ j m r mark_at row_at. row_of_other e (λ same. absent j (mark_at ∙ ap Some (sym same))) (are.row j m r mark_at row_at);
}

pub rows_more_at : (es : List Entry) (i : ℕ) (sets : SetsOfNodes) (marks : List Mark) (rows new : List Row) (k : ℕ) (e : Entry) (old row : Row)
    → AreDifferent marks → AreRowsOfMarks (take i es) sets marks rows → slice_get es i ≡ Some e
    → slice_get marks k ≡ Some e.mark → slice_get rows k ≡ Some old
    → new ≡ slice_set rows k row → AddsEntry sets e old row → AreRowsOfMarks (take (i + 1) es) sets marks new
rows_more_at es i sets marks rows new k e old row different are at_entry at_mark at_row is adds =
    subst (λ es. AreRowsOfMarks es sets marks new) (sym (take_more es i e at_entry))
    (rows_more (take i es) sets marks rows new k e old row different are at_mark at_row is adds)

pub rows_same_at : (es : List Entry) (i : ℕ) (sets : SetsOfNodes) (marks : List Mark) (rows new : List Row) (e : Entry) → slice_get es i ≡ Some e
    → ((k : ℕ) → slice_get marks k ≡ Some e.mark → ⊥) → new ≡ rows → AreRowsOfMarks (take i es) sets marks rows
    → AreRowsOfMarks (take (i + 1) es) sets marks new
rows_same_at es i sets marks rows new e at_entry absent is are =
    subst (λ es. AreRowsOfMarks es sets marks new) (sym (take_more es i e at_entry))
    (subst (λ rows. AreRowsOfMarks (take i es ++ e ∷ []) sets marks rows) (sym is) (rows_same (take i es) sets marks rows e absent are))

-- one row more is kept
pub kept_more : (rows : List Row) (index new_index : List ℕ) (kept new : List Row) (row : Row) (place : ℕ)
    → AreKept rows index kept → new_index ≡ index ++ place ∷ []
    → ((j : ℕ) (r : Row) → slice_get kept j ≡ Some r → slice_get new j ≡ Some r) → slice_get new place ≡ Some row
    → AreKept (rows ++ row ∷ []) new_index new
kept_more rows index new_index kept new row place are is stay at = record {
  many = ap length is ∙ one_more index place ∙ ap suc are.many ∙ sym (one_more rows row);
  at = λ k r row_at. elim (pushed rows row r k row_at) [
    | inl h ↦ let x = are.at k r h in (x.0, ap (λ xs. slice_get xs k) is ∙ at_front index (place ∷ []) k x.0 x.1, stay x.0 r x.2)
    | inr h ↦ (
      place,
      ap (λ xs. slice_get xs k) is ∙ ap (slice_get (index ++ place ∷ [])) (h.0 ∙ sym are.many) ∙ at_push index place,
      at ∙ ap Some h.1,
    )
  ];
}
  where
    one_more : {A : Type 0} (xs : List A) (x : A) → length (xs ++ x ∷ []) ≡ suc (length xs)
    one_more [] x = refl
    one_more (y ∷ ys) x = ap suc (one_more ys x)

-- a row that gets the names of the sets of a node, and no function
pub adds_sets : (sets : SetsOfNodes) (e : Entry) (old new : Row) (p f c : ℕ)
    → AreSame p (slice_index sets.prior e.node) → AreSame f (slice_index sets.future e.node) → AreSame c (slice_index sets.concrete e.node)
    → ((id : ℕ) → Holds new.prior id ↔ (Holds old.prior id ⊎ Holds p id)) → ((id : ℕ) → Holds new.future id ↔ (Holds old.future id ⊎ Holds f id))
    → ((id : ℕ) → Holds new.concrete id ↔ (Holds old.concrete id ⊎ Holds c id)) → ((id : ℕ) → IsStarted e.mark id → ⊥) → AddsEntry sets e old new
adds_sets sets e old new p f c same_p same_f same_c united_p united_f united_c none = record {
  prior = λ id. join old.prior new.prior p (slice_index sets.prior e.node) id same_p united_p;
  future = λ id. join old.future new.future f (slice_index sets.future e.node) id same_f united_f;
  concrete = λ id.
      let j = join old.concrete new.concrete c (slice_index sets.concrete e.node) id same_c united_c in
      (λ h. inl (j.0 h), λ s. elim s [ inl g ↦ j.1 g | inr g ↦ absurd (none id g) ]);
}
  where
    join : (old new part set id : ℕ) → AreSame part set → ((id : ℕ) → Holds new id ↔ (Holds old id ⊎ Holds part id))
        → Holds new id ↔ (Holds old id ⊎ Holds set id)
    join old new part set id same united = (
      λ h. elim ((united id).0 h) [ inl g ↦ inl g | inr g ↦ inr ((same id).0 g) ],
      λ s. (united id).1 (elim s [ inl g ↦ inl g | inr g ↦ inr ((same id).1 g) ]),
    )
