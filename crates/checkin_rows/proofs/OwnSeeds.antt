-- The lists of seeds have what `Seeds` asks for.
use Rattle.std.proofs.Common.{◌≡◌, ◌↔◌, ℕ, ◌+◌, ◌-◌, ◌<◌, ◌≤◌, inl, inr, List, ◌++◌, Some, length, get_or, subst, sym, ap, ◌∙◌, arith}
use Rattle.std.specs.Prelude.{replicate, slice_get, slice_index}
use Rattle.std.proofs.lemmas.List.{length-append, length-replicate, get_or-replicate, get_or_append_left, get_or-append-add, get_or_past}
use Rattle.std.proofs.lemmas.Bool.{cases_lt}
use Rattle.name_sets.specs.IdSet.{Holds}
use Rattle.name_sets.proofs.SetLemmas.{Holds-none}
use Rattle.c_tree.specs.BareExpr.{Bytes}
use Rattle.c_semantics.specs.Store.{Body}
use Rattle.effects.specs.Sites.{Site}
use Rattle.effect_flow.specs.Parts.{Contents}
use Rattle.effect_flow.specs.Flows.{place_of}
use Rattle.effect_flow.proofs.FlowPoints.{places_are_all}
use Rattle.contextual_effects.specs.Effects.{HasNames}
use Rattle.contextual_effects.proofs.NodesOfPoints.{Place, Setting, places}
use Rattle.contextual_effects.proofs.Seeds.{AreOwnSeeds}
use Rattle.checkin_rows.specs.Steps.{AreSeeds}

-- past the end of a list there are no names
none_past : (sets : List ℕ) (n id : ℕ) → length sets ≤ n → Holds (slice_index sets n) id → ⊥
none_past sets n id l holds = Holds-none id (subst (λ set. Holds set id) (get_or_past sets n 0 l) holds)

pub own_seeds : {names : List Bytes} {bodies : List Body} {flow : Contents} {points ids : ℕ} {own seeds : List ℕ} {Own : Site → Bytes → Type 0}
    → Setting names bodies flow points ids → ((p : Site) (i : ℕ) → place_of bodies p ≡ Some i → HasNames names (slice_index own i) (Own p))
    → AreSeeds points ids own seeds → AreOwnSeeds (Place bodies) Own names points seeds
own_seeds {names} {bodies} {flow} {points} {ids} {own} {seeds} {Own} s has k = record {
  own_stand = λ i id l h. stand i id l ((same i id l).0 h);
  own_taken = λ p i z place x.
      let t = (has p i place).all z x in
      (t.0, t.1, (same i t.0 ((places s).below p i place)).1 t.2);
  again = λ i id l. (
    λ h. subst (λ set. Holds set id) (again i l ∙ sym (front i l)) h,
    λ h. subst (λ set. Holds set id) (front i l ∙ sym (again i l)) h,
  );
  none_after = after;
}
  where
    many : length k.first ≡ points
    many = k.are_first.many

    rest : List ℕ
    rest = replicate (ids + ids + ids) k.empty

    front : (i : ℕ) → i < points → slice_index seeds i ≡ slice_index k.first i
    front i l =
        ap (λ xs. get_or xs i 0) k.seeds_are
        ∙ get_or_append_left (k.first ++ k.first) (replicate (ids + ids + ids) k.empty) 0 i (omega (arith, length-append k.first k.first, many))
        ∙ get_or_append_left k.first k.first 0 i (omega (arith, many))

    again : (i : ℕ) → i < points → slice_index seeds (points + i) ≡ slice_index k.first i
    again i l =
        let place : points + i ≡ length k.first + i = omega (arith, many) in
        ap (λ xs. get_or xs (points + i) 0) k.seeds_are
        ∙ get_or_append_left (k.first ++ k.first) (replicate (ids + ids + ids) k.empty) 0 (points + i) (omega (arith, length-append k.first k.first, many))
        ∙ ap (λ n. get_or (k.first ++ k.first) n 0) place
        ∙ get_or-append-add k.first k.first i 0

    same : (i id : ℕ) → i < points → Holds (slice_index seeds i) id ↔ Holds (slice_index own i) id
    same i id l = (
      λ h. (k.are_first.same i l id).0 (subst (λ set. Holds set id) (front i l) h),
      λ h. subst (λ set. Holds set id) (sym (front i l)) ((k.are_first.same i l id).1 h),
    )

    stand : (i id : ℕ) → i < points → Holds (slice_index own i) id
        → (p : Site) × (z : Bytes) × Place bodies p i × (slice_get names id ≡ Some z) × Own p z
    stand i id l h =
        let count : length flow.points ≡ points = s.numbers.many in
        let p = (places_are_all s.is_flow i).0 (omega arith) in
        let x = (has p.0 i p.1).only id h in
        (p.0, x.0, p.1, x.1, x.2)

    last : (j : ℕ) → j < ids + ids + ids → slice_index seeds (points + points + j) ≡ k.empty
    last j l =
        let place : points + points + j ≡ length (k.first ++ k.first) + j = omega (arith, length-append k.first k.first, many) in
        ap (λ xs. get_or xs (points + points + j) 0) k.seeds_are
        ∙ ap (λ n. get_or ((k.first ++ k.first) ++ replicate (ids + ids + ids) k.empty) n 0) place
        ∙ get_or-append-add (k.first ++ k.first) (replicate (ids + ids + ids) k.empty) j 0
        ∙ get_or-replicate (ids + ids + ids) j k.empty 0 l

    all : length seeds ≡ points + points + (ids + ids + ids)
    all =
        ap length k.seeds_are
        ∙ length-append (k.first ++ k.first) (replicate (ids + ids + ids) k.empty)
        ∙ omega (arith, length-append k.first k.first, many, length-replicate (ids + ids + ids) k.empty)

    after : (n id : ℕ) → points + points ≤ n → Holds (slice_index seeds n) id → ⊥
    after n id l holds =
        elim (cases_lt n (points + points + (ids + ids + ids))) [
          | inl first ↦ in_rest n (n - (points + points)) (omega arith) (omega arith) holds
          | inr second ↦ none_past seeds n id (omega (arith, all)) holds
        ]
      where
        in_rest : (n j : ℕ) → j < ids + ids + ids → n ≡ points + points + j → Holds (slice_index seeds n) id → ⊥
        in_rest n j l e holds =
            k.is_empty id (subst (λ set. Holds set id) (last j l) (subst (λ n. Holds (slice_index seeds n) id) e holds))
