-- Sets of ids as lists of names.
use Rattle.std.proofs.Common.{◌≡◌, ℕ, ◌<◌, ◌↔◌, Bool, true, false, ◌||◌, List, [], ◌∷◌, Option, Some, None, length, refl, sym, subst, ◌∙◌, bytes_eq}
use Rattle.std.specs.Prelude.{IsTrue, slice_get, option_map}
use Rattle.std.specs.Option.{ForSome}
use Rattle.std.specs.List.{list_any}
use Rattle.std.proofs.lemmas.Option.{slice_get-get_or, slice_get_within}
use Rattle.std.proofs.lemmas.Slice.Eq.{bytes_eq-Decides}
use Rattle.name_sets.specs.IdSet.{Holds, IsCommon}
use Rattle.name_sets.specs.NameLists.{is_among}
use Rattle.name_sets.specs.Texts.{IsTable, text_of}
use Rattle.c_tree.specs.BareExpr.{Bytes}
use Rattle.c_semantics.specs.Store.{Body, Mark}
use Rattle.con_freeness.specs.declared.row.Row.{Row as RowOfIds}
use Rattle.con_freeness.specs.Decisions.{IsListOf, IsRowOf, HasCommonIn}
use Rattle.con_freeness.specs.Rows.{Names, meets}
use Rattle.effects.specs.Rows.{IsSet, InPrior, InFuture, InConcrete}
use Rattle.contextual_effects.specs.Effects.{HasNames}
use Rattle.source_model.specs.Guards.{Rules, row_in_force}
use Rattle.effects.specs.Rows.{AreRows}
use Rattle.rows_in_force.specs.declared.origin.Origin.{Origin}
use Rattle.rows_in_force.specs.Origins.{function_of, mark_of}
use Rattle.sorted_names.proofs.Order.{first_among}
use Rattle.offer_decision.specs.Steps.{HasRow}

same_some : {A : Type 0} (x y : A) → Some x ≡ Some y → x ≡ y
same_some x y e = cc

none_among : (z : Bytes) → is_among [] z ≡ true → ⊥
none_among z e = cc

-- ---- the sets of a row

-- a set of ids has the names of a list that has exactly the names of a family, where its names are those of the family
pub list_of_family : (names : List Bytes) (set : ℕ) (list : Names) (In : Bytes → Type 0)
    → HasNames names set In → IsSet list In → IsListOf names set list
list_of_family names set list In has is = record {
  same = λ z. (
    λ e. has.all z ((is.same z).0 e),
    λ c. let own = has.only c.0 c.2 in (is.same z).1 (subst In (same_some own.0 z (sym own.1 ∙ c.1)) own.2),
  );
}

list_of_none : (names : List Bytes) (set : ℕ) → ((id : ℕ) → Holds set id → ⊥) → IsListOf names set []
list_of_none names set none = record { same = λ z. (λ e. absurd (none_among z e), λ c. absurd (none c.0 c.2)) }

-- the row of ids of an origin has the names of the row in force by its mark
pub row_is : (rules : Rules) (names : List Bytes) (bodies : List Body) (origin : Option Origin) (mark : Option Mark) (row : RowOfIds)
    → AreRows rules.row → mark ≡ option_map (mark_of names bodies) origin → ForSome origin (λ o. function_of o < length names)
    → HasRow names bodies origin row → IsRowOf names row (row_in_force rules bodies mark)
row_is rules names bodies None mark row are is known has =
    subst (λ m. IsRowOf names row (row_in_force rules bodies m)) (sym is) (record {
      prior = list_of_none names row.prior has.prior;
      future = list_of_none names row.future has.future;
      concrete = list_of_none names row.concrete has.concrete;
    })
row_is rules names bodies (Some o) mark row are is known has =
    let m = mark_of names bodies o in
    let own = are bodies m in
    let ids = has (known o refl) in
    subst (λ m. IsRowOf names row (row_in_force rules bodies m)) (sym is) (record {
      prior = list_of_family names row.prior (rules.row bodies m).prior (InPrior bodies m) ids.prior own.prior;
      future = list_of_family names row.future (rules.row bodies m).future (InFuture bodies m) ids.future own.future;
      concrete = list_of_family names row.concrete (rules.row bodies m).concrete (InConcrete bodies m) ids.concrete own.concrete;
    })

-- ---- the ids of a set that a table has

-- a set has the ids of another one that are in a table
abbrev pub IsWithin : List Bytes → ℕ → ℕ → Type 0
IsWithin names set ids = (id : ℕ) → Holds ids id ↔ (Holds set id × (id < length names))

pub list_within : (names : List Bytes) (set ids : ℕ) (list : Names) → IsWithin names set ids → IsListOf names set list
    → IsListOf names ids list
list_within names set ids list within is = record {
  same = λ z. (
    λ e. let c = (is.same z).0 e in (c.0, c.1, (within c.0).1 (c.2, slice_get_within names c.0 z c.1)),
    λ c. (is.same z).1 (c.0, c.1, ((within c.0).0 c.2).0),
  );
}

pub common_within : (names : List Bytes) (changed interface c i : ℕ) (row : RowOfIds)
    → IsWithin names changed c → IsWithin names interface i → HasCommonIn names c i row
common_within names changed interface c i row in_c in_i = record {
  prior = λ id both. ((in_c id).0 both.0).1;
  future = λ id both. ((in_c id).0 both.0).1;
  concrete = λ id both. ((in_i id).0 both.0).1;
}

-- ---- whether two sets have a name in common

first_or : (a b : Bool) → a ≡ true → (a || b) ≡ true
first_or true b e = refl
first_or false b e = cc

second_or : (a b : Bool) → b ≡ true → (a || b) ≡ true
second_or true b e = refl
second_or false b e = e

-- some item of a list passes a test
abbrev HasOne : (Bytes → Bool) → Names → Type 0
HasOne p xs = (z : Bytes) × (is_among xs z ≡ true) × (p z ≡ true)

one_or_later : (p : Bytes → Bool) (x : Bytes) (xs : Names) (b : Bool) → p x ≡ b → (list_any p xs ≡ true → HasOne p xs)
    → (b || list_any p xs) ≡ true → HasOne p (x ∷ xs)
one_or_later p x xs true is later e = (x, first_among x xs, is)
one_or_later p x xs false is later e =
    let rest = later e in (rest.0, second_or (bytes_eq rest.0 x) (is_among xs rest.0) rest.1, rest.2)

any_at : (p : Bytes → Bool) (xs : Names) → list_any p xs ≡ true → HasOne p xs
any_at p [] e = cc
any_at p (x ∷ xs) e = one_or_later p x xs (p x) refl (any_at p xs) e

here_or_later : (p : Bytes → Bool) (x z : Bytes) (xs : Names) (b : Bool) → bytes_eq z x ≡ b
    → (is_among xs z ≡ true → list_any p xs ≡ true) → (b || is_among xs z) ≡ true → p z ≡ true → list_any p (x ∷ xs) ≡ true
here_or_later p x z xs true is later e passes =
    first_or (p x) (list_any p xs) (subst (λ y. p y ≡ true) ((bytes_eq-Decides z x).0 is) passes)
here_or_later p x z xs false is later e passes = second_or (p x) (list_any p xs) (later e)

any_from : (p : Bytes → Bool) (xs : Names) (z : Bytes) → is_among xs z ≡ true → p z ≡ true → list_any p xs ≡ true
any_from p [] z e passes = cc
any_from p (x ∷ xs) z e passes =
    here_or_later p x z xs (bytes_eq z x) refl (λ there. any_from p xs z there passes) e passes

-- two lists have a name in common exactly if the sets of ids have an id in common, where such an id is in the table
pub meets_is : (names : List Bytes) (a b : ℕ) (xs ys : Names) → IsTable names → IsListOf names a xs → IsListOf names b ys
    → ((id : ℕ) → IsCommon a b id → id < length names)
    → IsTrue (meets xs ys) ↔ ((id : ℕ) × IsCommon a b id)
meets_is names a b xs ys table in_a in_b known = (
  λ e.
      let z = any_at (is_among ys) xs e in
      let i = (in_a.same z.0).0 z.1 in
      let j = (in_b.same z.0).0 z.2 in
      (i.0, (i.2, subst (Holds b) (table.distinct j.0 i.0 z.0 j.1 i.1) j.2)),
  λ c.
      let z = text_of names c.0 in
      let at : slice_get names c.0 ≡ Some z = slice_get-get_or names c.0 [] (known c.0 c.1) in
      any_from (is_among ys) xs z ((in_a.same z).1 (c.0, at, c.1.0)) ((in_b.same z).1 (c.0, at, c.1.1)),
)
