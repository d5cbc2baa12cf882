-- Which functions have a body with an entry, and the row of a start by that.
use Rattle.std.proofs.Common.{◌≡◌, ℕ, ◌<◌, List, [], map, length, Option, Some, None, refl, sym, ap, subst, ◌∙◌, Bor, true, false}
use Rattle.std.specs.Prelude.{slice_get, option_map}
use Rattle.std.specs.Option.{option_and_then, is_some, option_copied}
use Rattle.std.proofs.lemmas.Bool.{true≢false}
use Rattle.std.proofs.lemmas.Option.{same_Some, slice_get-map, slice_get_within, get_or_from_slice_get, slice_get-get_or}
use Rattle.std.proofs.lemmas.List.Elements.{All-get_or}
use Rattle.name_sets.specs.Texts.{text_of}
use Rattle.run_types.specs.Skeleton.{Point, point_at, entry}
use Rattle.c_tree.specs.BareExpr.{Bytes}
use Rattle.c_semantics.specs.Store.{Body, Start}
use Rattle.effects.specs.Sites.{Site, IsEntry, function_in}
use Rattle.effects.specs.Rows.{Covered, started, InConcrete, entering, covered}
use Rattle.skeletons.specs.declared.point.Point.{Point as CodePoint}
use Rattle.skeletons.specs.Meaning.{point_of}
use Rattle.code_store.specs.declared.body.StoredBody.{StoredBody}
use Rattle.code_store.specs.Stored.{meant_body, IsNamed, IsStoreOf}
use Rattle.con_freeness.specs.declared.row.Row.{Row}
use Rattle.checkin_rows.specs.Rows.{IsRow}
use Rattle.rows_in_force.specs.Steps.{IsEntering}
use Rattle.rows_in_force.proofs.BodiesByIds.{same_id}

-- a body of a function that has a first point, by the function's id
pub record HasEntry (stored : List StoredBody) (id : ℕ) : Type 0 where
  pub place : ℕ
  pub body : StoredBody
  pub point : CodePoint
  pub stored_at : slice_get stored place ≡ Some body
  pub of_function : body.function ≡ id
  pub first : slice_get body.skeleton.points.items 0 ≡ Some point

-- the body in a place of a store
body_at : (names : List Bytes) (all : List Body) (stored : List StoredBody) (place : ℕ) → IsStoreOf names all stored
    → slice_get all place ≡ option_map (meant_body names) (slice_get stored place)
body_at names all stored place store =
    ap (λ bs. slice_get bs place) (sym store.meaning) ∙ slice_get-map (meant_body names) stored place

-- whose function it is, if the first point is there
abbrev function_at : Option Body → Option Bytes
function_at b = option_and_then (λ b. option_map (λ at. b.function) (point_at b.skeleton 0)) b

pub entry_by_id : (names : List Bytes) (all : List Body) (stored : List StoredBody) (id : ℕ) → IsStoreOf names all stored
    → HasEntry stored id → (e : Site) × IsEntry all e (text_of names id)
entry_by_id names all stored id store h =
    let points = h.body.skeleton.points.items in
    let there : slice_get all h.place ≡ Some (meant_body names h.body) =
    body_at names all stored h.place store ∙ ap (option_map (meant_body names)) h.stored_at in
    let first : point_at (meant_body names h.body).skeleton 0 ≡ Some (point_of names h.point) =
    slice_get-map (point_of names) points 0 ∙ ap (option_map (point_of names)) h.first in
    let is_of : function_in all (record { body = h.place; point = entry }) ≡ Some (text_of names id) =
    ap function_at there ∙ ap (option_map (λ at. text_of names h.body.function)) first ∙ ap (λ n. Some (text_of names n)) h.of_function in
    (record { body = h.place; point = entry }, record { is_entry = refl; is_of = record { is_of = is_of } })

pub id_by_entry : (names : List Bytes) (all : List Body) (stored : List StoredBody) (id : ℕ) → IsStoreOf names all stored
    → id < length names → (e : Site) → IsEntry all e (text_of names id) → HasEntry stored id
id_by_entry names all stored id store known e is_entry = by_body (slice_get stored e.body) refl
  where
    Found : Option Body → Type 0
    Found o = function_at o ≡ Some (text_of names id)

    found : Found (slice_get all e.body)
    found =
        subst (λ n. option_and_then (λ b. option_map (λ at. b.function) (point_at b.skeleton n)) (slice_get all e.body) ≡ Some (text_of names id))
        is_entry.is_entry is_entry.is_of.is_of

    none : Found None → ⊥
    none f = cc

    by_body : (o : Option StoredBody) → slice_get stored e.body ≡ o → HasEntry stored id
    by_body None is = absurd (none (subst Found (body_at names all stored e.body store ∙ ap (option_map (meant_body names)) is) found))
    by_body (Some b) is = by_point (slice_get b.skeleton.points.items 0) refl
      where
        First : Option Point → Type 0
        First o = option_map (λ at. text_of names b.function) o ≡ Some (text_of names id)

        first : First (slice_get (map (point_of names) b.skeleton.points.items) 0)
        first = subst Found (body_at names all stored e.body store ∙ ap (option_map (meant_body names)) is) found

        nothing : First None → ⊥
        nothing f = cc

        named : IsNamed names b
        named =
            subst (IsNamed names) (get_or_from_slice_get stored e.body b b is)
            (All-get_or (IsNamed names) stored e.body b (slice_get_within stored e.body b is) store.named)

        by_point : (o : Option CodePoint) → slice_get b.skeleton.points.items 0 ≡ o → HasEntry stored id
        by_point None at =
            absurd (nothing (subst First (slice_get-map (point_of names) b.skeleton.points.items 0 ∙ ap (option_map (point_of names)) at) first))
        by_point (Some p) at = record {
          place = e.body;
          body = b;
          point = p;
          stored_at = is;
          of_function =
              same_id names b.function id store.table named.named_function known
              (same_Some (text_of names b.function) (text_of names id)
              (subst First (slice_get-map (point_of names) b.skeleton.points.items 0 ∙ ap (option_map (point_of names)) at) first));
          first = at;
        }

-- where no body of the function has a first point
pub without_entry : (stored : List StoredBody) (id : ℕ)
    → ((i : ℕ) (b : StoredBody) → i < length stored → slice_get stored i ≡ Some b → b.function ≡ id
    → slice_get b.skeleton.points.items 0 ≡ None)
    → HasEntry stored id → ⊥
without_entry stored id none h =
    let empty : slice_get h.body.skeleton.points.items 0 ≡ None =
    none h.place h.body (slice_get_within stored h.place h.body h.stored_at) h.stored_at h.of_function in
    let first = h.first in
    cc

-- what is said of an item that a reference is to
pub seen_some : {A : Type 0} (o : Option (Bor A)) → is_some o ≡ true → (x : A) × (option_copied o ≡ Some x)
seen_some (Some x) e = (x.now, refl)
seen_some None e = absurd (true≢false (sym e))

pub seen_none : {A : Type 0} (o : Option (Bor A)) → is_some o ≡ false → option_copied o ≡ None
seen_none (Some x) e = absurd (true≢false e)
seen_none None e = refl

-- what a started thread covers are entries of its function
entry_of : (bodies : List Body) (f : Bytes) (p : Site) → Covered bodies (Start f) p → IsEntry bodies p f
entry_of bodies _ _ (started f p h) = h

-- where the function has no entry, the row of its start has the function alone
pub entering_is_row : (names : List Bytes) (all : List Body) (id : ℕ) (row : Row) → id < length names
    → ((e : Site) → IsEntry all e (text_of names id) → ⊥) → IsEntering id row
    → IsRow names all (Start (text_of names id)) row
entering_is_row names all id row known none alone = record {
  prior = record {
    only = λ other h. absurd (alone.prior other h);
    all = λ z h. absurd (uncovered h.site h.covered);
  };
  future = record {
    only = λ other h. absurd (alone.future other h);
    all = λ z h. absurd (uncovered h.site h.covered);
  };
  concrete = record {
    only = λ other h. (
      text_of names id,
      ap (slice_get names) ((alone.concrete other).0 h) ∙ at_id,
      entering (text_of names id),
    );
    all = λ z h. (id, at_id ∙ ap Some (its h), (alone.concrete id).1 refl);
  };
}
  where
    f : Bytes
    f = text_of names id

    at_id : slice_get names id ≡ Some f
    at_id = slice_get-get_or names id [] known

    uncovered : (p : Site) → Covered all (Start f) p → ⊥
    uncovered p c = none p (entry_of all f p c)

    its : {z : Bytes} → InConcrete all (Start f) z → f ≡ z
    its (entering g) = refl
    its (covered mark p z c u) = absurd (uncovered p c)
