-- The rows of the marks at the decisions.
use Rattle.std.proofs.Common.{ℕ, List, [], ◌∷◌, refl}
use Rattle.std.specs.Prelude.{bytes_eq, codes, slice_index_or, if◌then◌else◌}
use Rattle.name_sets.specs.NameLists.{is_among}
use Rattle.con_freeness.specs.Rows.{Names}
use Rattle.c_semantics.specs.Store.{Body, Mark, CheckInOf, store, brought_bodies}
use Rattle.effects.specs.Sites.{Site}
use Rattle.effects.specs.Standard as standard
use Rattle.effects.specs.Nested.{Nested}
use Rattle.effects.specs.Nested as nested
use Rattle.effects.specs.Contextual.{Prior, Future}
use Rattle.effects.specs.Contextual as contextual
use Rattle.effects.specs.Concrete.{Concrete}
use Rattle.effects.specs.Concrete as concrete
use Rattle.effects.specs.Rows.{Covers, Covered, IsCheckIn, InPrior, InFuture, InConcrete, IsRowOf}
use Rattle.effects.specs.Rows as rows
use Rattle.effects.specs.GrowthLaws.{RowsGrow}
use Rattle.effects.specs.LeastLaws.{EachHasARow}
use Rattle.effects.proofs.Tables.{Table, Passed}
use Rattle.journal_examples.specs.PinnedTexts.{first, second}
use Rattle.journal_examples.specs.PinnedRun.{row_inside, row_outside}
use Rattle.journal_examples.proofs.RowTests.{Within, IsOrdered, each_is_in, is_row, still_within}
use Rattle.journal_examples.proofs.Straight.{next_by, concrete_onward, future_onward}

-- the bodies before and after the first install
abbrev pub first_bodies : List Body
first_bodies = store (first ∷ [])

abbrev pub second_bodies : List Body
second_bodies = store (first ∷ second ∷ [])

-- ---- the points: f, g and main of the first text, and f of the second one
abbrev f : ℕ → Site
f n = record { body = 0; point = n }

abbrev g : ℕ → Site
g n = record { body = 1; point = n }

abbrev m : ℕ → Site
m n = record { body = 2; point = n }

abbrev new_f : ℕ → Site
new_f n = record { body = 3; point = n }

-- the check-in after the first call of f, which covers the points up to that of the update point; and that of the
-- transaction's end, which covers those up to the entry of f
abbrev pub after_f : Mark
after_f = CheckInOf (codes "main") 1 2

abbrev pub after_end : Mark
after_end = CheckInOf (codes "main") 1 5

abbrev to_update : List Site
to_update = m 4 ∷ m 5 ∷ m 6 ∷ m 7 ∷ []

abbrev to_old_f : List Site
to_old_f = m 12 ∷ m 13 ∷ m 14 ∷ f 0 ∷ []

abbrev to_each_f : List Site
to_each_f = m 12 ∷ m 13 ∷ m 14 ∷ f 0 ∷ new_f 0 ∷ []

-- ---- the names of the effects, by body and point
abbrev only_f : Names
only_f = codes "f" ∷ []

abbrev only_g : Names
only_g = codes "g" ∷ []

abbrev f_g : Names
f_g = codes "f" ∷ codes "g" ∷ []

abbrev rows_of : List (List Names) → Site → Names
rows_of rows p = slice_index_or (slice_index_or rows p.body []) p.point []

abbrev prior_of_f : List Names
prior_of_f = only_f ∷ only_f ∷ [] ∷ []

abbrev future_of_f : List Names
future_of_f = only_g ∷ only_g ∷ only_g ∷ []

abbrev concrete_of_f : List Names
concrete_of_f = f_g ∷ f_g ∷ f_g ∷ []

abbrev table : Table
table = record {
  nested = is_among f_g;
  standard = λ name. if bytes_eq name (codes "main") then f_g else [];
  prior = rows_of
      (prior_of_f ∷ (f_g ∷ f_g ∷ [] ∷ [])
      ∷ ([] ∷ [] ∷ [] ∷ [] ∷ only_f ∷ only_f ∷ only_f ∷ only_f ∷ only_f ∷ f_g ∷ f_g ∷ f_g ∷ [])
      ∷ prior_of_f ∷ []);
  future = rows_of
      (future_of_f ∷ []
      ∷ (f_g ∷ f_g ∷ f_g ∷ f_g ∷ only_g ∷ only_g ∷ only_g ∷ only_g ∷ only_g ∷ [] ∷ [] ∷ [] ∷ f_g ∷ f_g ∷ f_g ∷ only_g ∷ only_g ∷ [])
      ∷ future_of_f ∷ []);
  concrete = rows_of
      (concrete_of_f ∷ concrete_of_f
      ∷ (f_g ∷ f_g ∷ f_g ∷ f_g ∷ f_g ∷ f_g ∷ f_g ∷ f_g ∷ f_g ∷ f_g ∷ f_g ∷ f_g ∷ f_g ∷ f_g ∷ f_g ∷ only_g ∷ only_g ∷ [])
      ∷ concrete_of_f ∷ []);
}

first_passed : Passed first_bodies table
first_passed = record {
  nested = refl;
  standard = refl;
  before = refl;
  entries = refl;
  future = refl;
  future_returns = refl;
  concrete = refl;
  concrete_returns = refl;
}

second_passed : Passed second_bodies table
second_passed = record {
  nested = refl;
  standard = refl;
  before = refl;
  entries = refl;
  future = refl;
  future_returns = refl;
  concrete = refl;
  concrete_returns = refl;
}

-- ---- each name of the rows is there
is_after_f : IsCheckIn first_bodies (m 4) (codes "main") 1 2
is_after_f = record { body = _; stored = refl; function = refl; of_generation = refl; is_check_in = record { passes = refl }; counted = refl }

is_after_end : IsCheckIn first_bodies (m 12) (codes "main") 1 5
is_after_end = record { body = _; stored = refl; function = refl; of_generation = refl; is_check_in = record { passes = refl }; counted = refl }

here : Covered first_bodies after_f (m 4)
here = rows.passed (codes "main") 1 2 (m 4) (m 4) is_after_f rows.itself

there : Covered first_bodies after_end (m 12)
there = rows.passed (codes "main") 1 5 (m 12) (m 12) is_after_end rows.itself

-- the transaction has used f, and will use g; main uses both directly, also after the transaction
prior_f : Prior first_bodies (m 4) (codes "f")
prior_f =
    contextual.Prior.added (m 3) (m 4) (codes "f") (nested.enclosed (m 4) (record { passes = refl })) (next_by first_bodies (m 3) refl)
    (standard.direct (m 3) (codes "f") (record { uses = refl }))

future_g : Future first_bodies (m 4) (codes "g")
future_g =
    future_onward first_bodies (codes "g") 4 (m 4) refl refl
    (contextual.Future.added (m 8) (codes "g") (nested.no_outer_end (m 8) (record { passes = refl }))
    (standard.direct (m 8) (codes "g") (record { uses = refl })))

concrete_f : Concrete first_bodies (m 4) (codes "f")
concrete_f = concrete_onward first_bodies (codes "f") 10 (m 4) refl (concrete.used (m 14) (codes "f") (record { uses = refl }))

concrete_g : Concrete first_bodies (m 4) (codes "g")
concrete_g = concrete_onward first_bodies (codes "g") 4 (m 4) refl (concrete.used (m 8) (codes "g") (record { uses = refl }))

inside_within : Within first_bodies after_f row_inside
inside_within = record {
  prior = each_is_in (InPrior first_bodies after_f) row_inside.prior (record { site = m 4; covered = here; prior = prior_f }, tt);
  future = each_is_in (InFuture first_bodies after_f) row_inside.future (record { site = m 4; covered = here; future = future_g }, tt);
  concrete = each_is_in (InConcrete first_bodies after_f) row_inside.concrete
      (rows.InConcrete.covered after_f (m 4) (codes "f") here concrete_f, (rows.InConcrete.covered after_f (m 4) (codes "g") here concrete_g, tt));
}

-- after the transaction both are used, and f is entered, which is nested: the transaction calls it
nested_f : Nested first_bodies (codes "f")
nested_f = nested.in_transaction (codes "f") (m 3) (record { is_kind = refl }) (record { passes = refl })

entered_f : Prior first_bodies (f 0) (codes "f")
entered_f = contextual.entered (f 0) (codes "f") (record { is_entry = refl; is_of = record { is_of = refl } }) nested_f

to_entry : Covers first_bodies (m 12) (f 0)
to_entry =
    rows.then (m 14) (f 0)
    (rows.then (m 13) (m 14)
    (rows.first (m 13) (rows.on (m 12) (m 13) (record { passes = refl }) (next_by first_bodies (m 12) refl))) (record { passes = refl })
    (rows.on (m 13) (m 14) (record { passes = refl }) (next_by first_bodies (m 13) refl)))
    (record { passes = refl })
    (rows.call (m 14) (f 0) (codes "f") (record { is_kind = refl }) (record { is_entry = refl; is_of = record { is_of = refl } }))

future_f_later : Future first_bodies (m 12) (codes "f")
future_f_later =
    future_onward first_bodies (codes "f") 2 (m 12) refl refl
    (contextual.Future.added (m 14) (codes "f") (nested.no_outer_end (m 14) (record { passes = refl }))
    (standard.direct (m 14) (codes "f") (record { uses = refl })))

future_g_later : Future first_bodies (m 12) (codes "g")
future_g_later =
    future_onward first_bodies (codes "g") 4 (m 12) refl refl
    (contextual.Future.added (m 16) (codes "g") (nested.no_outer_end (m 16) (record { passes = refl }))
    (standard.direct (m 16) (codes "g") (record { uses = refl })))

concrete_f_later : Concrete first_bodies (m 12) (codes "f")
concrete_f_later = concrete_onward first_bodies (codes "f") 2 (m 12) refl (concrete.used (m 14) (codes "f") (record { uses = refl }))

concrete_g_later : Concrete first_bodies (m 12) (codes "g")
concrete_g_later = concrete_onward first_bodies (codes "g") 4 (m 12) refl (concrete.used (m 16) (codes "g") (record { uses = refl }))

outside_within : Within first_bodies after_end row_outside
outside_within = record {
  prior = each_is_in (InPrior first_bodies after_end) row_outside.prior
      (record { site = f 0; covered = rows.passed (codes "main") 1 5 (m 12) (f 0) is_after_end to_entry; prior = entered_f }, tt);
  future = each_is_in (InFuture first_bodies after_end) row_outside.future
      (record { site = m 12; covered = there; future = future_f_later }, (record { site = m 12; covered = there; future = future_g_later }, tt));
  concrete = each_is_in (InConcrete first_bodies after_end) row_outside.concrete
      (rows.InConcrete.covered after_end (m 12) (codes "f") there concrete_f_later, (rows.InConcrete.covered after_end (m 12) (codes "g") there concrete_g_later, tt));
}

inside_ordered : IsOrdered row_inside
inside_ordered = record { prior = refl; future = refl; concrete = refl }

outside_ordered : IsOrdered row_outside
outside_ordered = record { prior = refl; future = refl; concrete = refl }

-- ---- the rows, before the install and after it
pub first_inside : IsRowOf first_bodies after_f row_inside
first_inside =
    is_row first_bodies (codes "main") 1 2 to_update table row_inside (record { begin = refl; further = refl }) first_passed
    (record { prior = refl; future = refl; concrete = refl }) inside_ordered inside_within

first_outside : IsRowOf first_bodies after_end row_outside
first_outside =
    is_row first_bodies (codes "main") 1 5 to_old_f table row_outside (record { begin = refl; further = refl }) first_passed
    (record { prior = refl; future = refl; concrete = refl }) outside_ordered outside_within

-- the body that the second text brings
abbrev brought : List Body
brought = brought_bodies 2 first.definitions second

pub second_inside : EachHasARow → RowsGrow → IsRowOf second_bodies after_f row_inside
second_inside exists grow =
    is_row second_bodies (codes "main") 1 2 to_update table row_inside (record { begin = refl; further = refl }) second_passed
    (record { prior = refl; future = refl; concrete = refl }) inside_ordered
    (still_within exists grow first_bodies brought after_f row_inside first_inside)

pub second_outside : EachHasARow → RowsGrow → IsRowOf second_bodies after_end row_outside
second_outside exists grow =
    is_row second_bodies (codes "main") 1 5 to_each_f table row_outside (record { begin = refl; further = refl }) second_passed
    (record { prior = refl; future = refl; concrete = refl }) outside_ordered
    (still_within exists grow first_bodies brought after_end row_outside first_outside)
