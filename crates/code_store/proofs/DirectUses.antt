-- The ids that a function's bodies use are those of the names that they use directly.
use Rattle.std.proofs.Common.{◌≡◌, ℕ, ◌<◌, ◌↔◌, ◌⊎◌, inl, inr, Bool, true, false, List, [], ◌∷◌, ◌++◌, Option, Some, None, All, map, length, refl, sym, ap, subst, ◌∙◌, arith}
use Rattle.std.specs.Prelude.{Contains, IfSome, ◌==◌, if◌then◌else◌, option_map}
use Rattle.std.specs.List.{cons_option}
use Rattle.std.proofs.lemmas.Option.{same_Some, slice_get-get_or}
use Rattle.std.proofs.lemmas.Bool.Decides.{Decides-eqb}
use Rattle.std.proofs.lemmas.List.Elements.{All-head, All-tail, Contains-push, Contains-push_cases, Contains-append_left, Contains-append_right, Contains-append_cases}
use Rattle.name_sets.specs.Texts.{IsTable, text_of}
use Rattle.run_types.specs.Skeleton.{direct_use}
use Rattle.skeletons.specs.Meaning.{used_at, point_of}
use Rattle.skeletons.specs.declared.point.Point.{Point as CodePoint}
use Rattle.c_tree.specs.BareExpr.{Bytes}
use Rattle.effect_flow.proofs.PointKinds.{used_name}
use Rattle.code_store.specs.declared.body.StoredBody.{StoredBody}
use Rattle.code_store.specs.Stored.{meant_body, IsNamed}
use Rattle.code_store.specs.Uses.{used_ids, ids_used_if, ids_used_by}
use Rattle.code_store.specs.StoreLaws.{IsUsedAmong, UsesDirectly, UsesAreDirect}
use Rattle.code_store.proofs.UsedIds.{ids_if_of}

-- the items of a list with one more in front
nothing : {A : Type 0} (x : A) → Contains [] x → ⊥
nothing x h = let l : h.0 < 0 = h.1 in omega arith

first : {A : Type 0} (x : A) (xs : List A) → Contains (x ∷ xs) x
first x xs = Contains-append_left (x ∷ []) xs x (Contains-push [] x)

later : {A : Type 0} (x y : A) (xs : List A) → Contains xs y → Contains (x ∷ xs) y
later x y xs h = Contains-append_right (x ∷ []) xs y h

first_or_later : {A : Type 0} (x y : A) (xs : List A) → Contains (x ∷ xs) y → (x ≡ y) ⊎ Contains xs y
first_or_later x y xs h = by (Contains-append_cases (x ∷ []) xs y h)
  where
    one : Contains [] y ⊎ (x ≡ y) → x ≡ y
    one (inl h) = absurd (nothing y h)
    one (inr e) = e

    by : Contains (x ∷ []) y ⊎ Contains xs y → (x ≡ y) ⊎ Contains xs y
    by (inl h) = inl (one (Contains-push_cases [] x y h))
    by (inr h) = inr h

-- two ids of one name are the same
same_id : (names : List Bytes) (a b : ℕ) → IsTable names → a < length names → b < length names
    → text_of names a ≡ text_of names b → a ≡ b
same_id names a b table la lb e =
    table.distinct a b (text_of names b) (slice_get-get_or names a [] la ∙ ap Some e) (slice_get-get_or names b [] lb)

-- from ids to names: points, and bodies
points_use : (names : List Bytes) (id : ℕ) (ps : List CodePoint) → Contains (used_ids ps) id
    → IsUsedAmong (map (point_of names) ps) (text_of names id)
points_use names id [] h = absurd (nothing id h)
points_use names id (p ∷ ps) h = by (used_at p.kind) refl (points_use names id ps) h
  where
    Used : List CodePoint → Type 0
    Used ps = IsUsedAmong (map (point_of names) ps) (text_of names id)

    after : Used ps → Used (p ∷ ps)
    after u = record { point = u.point; among = later (point_of names p) u.point (map (point_of names) ps) u.among; uses = u.uses }

    here : (n : ℕ) → used_at p.kind ≡ Some n → n ≡ id → Used (p ∷ ps)
    here n e same = record {
      point = point_of names p;
      among = first (point_of names p) (map (point_of names) ps);
      uses = used_name names p.kind ∙ ap (option_map (text_of names)) e ∙ ap (λ n. Some (text_of names n)) same;
    }

    cases : (n : ℕ) → used_at p.kind ≡ Some n → (Contains (used_ids ps) id → Used ps) → (n ≡ id) ⊎ Contains (used_ids ps) id → Used (p ∷ ps)
    cases n e rest (inl same) = here n e same
    cases n e rest (inr h) = after (rest h)

    by : (o : Option ℕ) → used_at p.kind ≡ o → (Contains (used_ids ps) id → Used ps)
        → Contains (cons_option o (used_ids ps)) id → Used (p ∷ ps)
    by None e rest h = after (rest h)
    by (Some n) e rest h = cases n e rest (first_or_later n id (used_ids ps) h)

bodies_use : (names : List Bytes) (function id : ℕ) (stored : List StoredBody) → Contains (ids_used_by function stored) id
    → UsesDirectly (map (meant_body names) stored) (text_of names function) (text_of names id)
bodies_use names function id [] h = absurd (nothing id h)
bodies_use names function id (b ∷ bs) h =
    cases (bodies_use names function id bs) (Contains-append_cases (ids_used_if function b) (ids_used_by function bs) id h)
  where
    Used : List StoredBody → Type 0
    Used bs = UsesDirectly (map (meant_body names) bs) (text_of names function) (text_of names id)

    after : Used bs → Used (b ∷ bs)
    after u = record {
      body = u.body;
      stored = later (meant_body names b) u.body (map (meant_body names) bs) u.stored;
      of_function = u.of_function;
      uses = u.uses;
    }

    by : (t : Bool) → (b.function == function) ≡ t → Contains (if t then used_ids b.skeleton.points.items else []) id → Used (b ∷ bs)
    by true e h = record {
      body = meant_body names b;
      stored = first (meant_body names b) (map (meant_body names) bs);
      of_function = ap (text_of names) ((Decides-eqb b.function function).0 e);
      uses = points_use names id b.skeleton.points.items h;
    }
    by false e h = absurd (nothing id h)

    cases : (Contains (ids_used_by function bs) id → Used bs)
        → Contains (ids_used_if function b) id ⊎ Contains (ids_used_by function bs) id → Used (b ∷ bs)
    cases rest (inl h) = by (b.function == function) refl h
    cases rest (inr h) = after (rest h)

-- from names to ids
used_by_points : (names : List Bytes) (id : ℕ) (ps : List CodePoint) → IsTable names → id < length names
    → All (λ p. IfSome (used_at p.kind) (λ id. id < length names)) ps
    → IsUsedAmong (map (point_of names) ps) (text_of names id) → Contains (used_ids ps) id
used_by_points names id [] table l known u = absurd (nothing u.point u.among)
used_by_points names id (p ∷ ps) table l known u =
    by (used_at p.kind) refl (All-head Known p ps known) (used_by_points names id ps table l (All-tail Known p ps known))
    (first_or_later (point_of names p) u.point (map (point_of names) ps) u.among)
  where
    Known : CodePoint → Type 0
    Known p = IfSome (used_at p.kind) (λ id. id < length names)

    Rest : Type 0
    Rest = IsUsedAmong (map (point_of names) ps) (text_of names id) → Contains (used_ids ps) id

    rest_of : Contains (map (point_of names) ps) u.point → IsUsedAmong (map (point_of names) ps) (text_of names id)
    rest_of m = record { point = u.point; among = m; uses = u.uses }

    use_of : (o : Option ℕ) → used_at p.kind ≡ o → point_of names p ≡ u.point → option_map (text_of names) o ≡ Some (text_of names id)
    use_of o e same =
        ap (option_map (text_of names)) (sym e) ∙ sym (used_name names p.kind) ∙ ap (λ q. direct_use q.kind) same ∙ u.uses

    by : (o : Option ℕ) → used_at p.kind ≡ o → IfSome o (λ id. id < length names) → Rest
        → (point_of names p ≡ u.point) ⊎ Contains (map (point_of names) ps) u.point → Contains (cons_option o (used_ids ps)) id
    by None e k rest (inl same) = let no = use_of None e same in cc
    by None e k rest (inr m) = rest (rest_of m)
    by (Some n) e k rest (inl same) =
        let texts = same_Some (text_of names n) (text_of names id) (use_of (Some n) e same) in
        subst (λ i. Contains (n ∷ used_ids ps) i) (same_id names n id table k l texts) (first n (used_ids ps))
    by (Some n) e k rest (inr m) = later n id (used_ids ps) (rest (rest_of m))

used_by_bodies : (names : List Bytes) (function id : ℕ) (stored : List StoredBody) → IsTable names
    → function < length names → id < length names → All (IsNamed names) stored
    → UsesDirectly (map (meant_body names) stored) (text_of names function) (text_of names id)
    → Contains (ids_used_by function stored) id
used_by_bodies names function id [] table f l named u = absurd (nothing u.body u.stored)
used_by_bodies names function id (b ∷ bs) table f l named u =
    by (All-head (IsNamed names) b bs named) (used_by_bodies names function id bs table f l (All-tail (IsNamed names) b bs named))
    (first_or_later (meant_body names b) u.body (map (meant_body names) bs) u.stored)
  where
    Rest : Type 0
    Rest = UsesDirectly (map (meant_body names) bs) (text_of names function) (text_of names id) → Contains (ids_used_by function bs) id

    here : IsNamed names b → meant_body names b ≡ u.body → Contains (ids_used_if function b) id
    here n same =
        let texts : text_of names b.function ≡ text_of names function = ap (λ x. x.function) same ∙ u.of_function in
        let own = same_id names b.function function table n.named_function f texts in
        let uses : IsUsedAmong (map (point_of names) b.skeleton.points.items) (text_of names id) =
        subst (λ x. IsUsedAmong x.skeleton.points (text_of names id)) (sym same) u.uses in
        subst (λ ids. Contains ids id) (sym (ids_if_of function b own))
        (used_by_points names id b.skeleton.points.items table l n.named_uses uses)

    by : IsNamed names b → Rest → (meant_body names b ≡ u.body) ⊎ Contains (map (meant_body names) bs) u.body
        → Contains (ids_used_if function b ++ ids_used_by function bs) id
    by n rest (inl same) = Contains-append_left (ids_used_if function b) (ids_used_by function bs) id (here n same)
    by n rest (inr m) =
        Contains-append_right (ids_used_if function b) (ids_used_by function bs) id
        (rest (record { body = u.body; stored = m; of_function = u.of_function; uses = u.uses }))

pub uses_are_direct : UsesAreDirect
uses_are_direct names bodies stored s function id f l =
    subst (λ bodies. Contains (ids_used_by function stored) id ↔ UsesDirectly bodies (text_of names function) (text_of names id)) s.meaning
    (bodies_use names function id stored, used_by_bodies names function id stored s.table f l s.named)
