-- The ways of some bodies lead between places as `Next` does between sites.
use Rattle.std.proofs.Common.{◌≡◌, ℕ, zero, suc, ◌+◌, ◌<◌, ◌⊎◌, inl, inr, Bool, true, false, List, [], ◌∷◌, ◌++◌, length, Some, refl, sym, ap, ◌∙◌, subst, arith}
use Rattle.std.specs.Prelude.{Contains, nat_lt, slice_get, slice_index_or, if◌then◌else◌}
use Rattle.std.proofs.lemmas.Bool.Decides.{nat_tests}
use Rattle.std.proofs.lemmas.List.Elements.{Contains-append_left, Contains-append_right, Contains-append_cases}
use Rattle.std.proofs.lemmas.Option.{slice_get_within, same_Some}
use Rattle.run_types.specs.Skeleton.{successors}
use Rattle.c_semantics.specs.Store.{Body}
use Rattle.effects.specs.Sites.{Site, Next}
use Rattle.effect_flow.specs.declared.flow.Way.{Way}
use Rattle.effect_flow.specs.Parts.{ways_to, ways_from}
use Rattle.effect_flow.specs.Flows.{points_before, ways_after}
use Rattle.effect_flow.proofs.Places.{site, item_at}

none_contained : {A : Type 0} {x : A} → Contains [] x → ⊥
none_contained h = let l = h.1 in omega arith

contained_cases : {A : Type 0} (y : A) (xs : List A) (x : A) → Contains (y ∷ xs) x → (y ≡ x) ⊎ Contains xs x
contained_cases y xs x (zero, l, e) = inl e
contained_cases y xs x (suc k, l, e) = inr (k, omega arith, e)

contained_first : {A : Type 0} (y : A) (xs : List A) (x : A) → y ≡ x → Contains (y ∷ xs) x
contained_first y xs x e = (0, omega arith, e)

contained_rest : {A : Type 0} (y : A) (xs : List A) (x : A) → Contains xs x → Contains (y ∷ xs) x
contained_rest y xs x h = (suc h.0, let l = h.1 in omega arith, h.2)

abbrev pub way : ℕ → ℕ → Way
way i j = record { from = i; to = j }

not_below : {n size : ℕ} → nat_lt n size ≡ false → n < size → ⊥
not_below test l = grind (arith, nat_tests)

-- a way to one of some targets
record LeadsTo (before size from : ℕ) (ts : List ℕ) (w : Way) : Type 0 where
  target : ℕ
  listed : Contains ts target
  within : target < size
  from_is : w.from ≡ from
  to_is : w.to ≡ before + target

later_target : (before size from t : ℕ) (ts : List ℕ) (w : Way) → LeadsTo before size from ts w → LeadsTo before size from (t ∷ ts) w
later_target before size from t ts w x = record {
  target = x.target;
  listed = contained_rest t ts x.target x.listed;
  within = x.within;
  from_is = x.from_is;
  to_is = x.to_is;
}

leads_to : (before size from : ℕ) (ts : List ℕ) (w : Way) → Contains (ways_to before size from ts) w → LeadsTo before size from ts w
leads_to before size from [] w h = absurd (none_contained h)
leads_to before size from (t ∷ ts) w h = by (nat_lt t size) refl (leads_to before size from ts w) h
  where
    first : t < size → (record { from = from; to = before + t } ≡ w) → LeadsTo before size from (t ∷ ts) w
    first l e = record {
      target = t;
      listed = contained_first t ts t refl;
      within = l;
      from_is = ap (λ w. w.from) (sym e);
      to_is = ap (λ w. w.to) (sym e);
    }

    by : (b : Bool) → nat_lt t size ≡ b → (Contains (ways_to before size from ts) w → LeadsTo before size from ts w)
        → Contains (if b then record { from = from; to = before + t } ∷ ways_to before size from ts else ways_to before size from ts) w
        → LeadsTo before size from (t ∷ ts) w
    by true e rest h =
        elim (contained_cases (record { from = from; to = before + t }) (ways_to before size from ts) w h) [
          | inl same ↦ first (grind (arith, nat_tests)) same
          | inr h ↦ later_target before size from t ts w (rest h)
        ]
    by false e rest h = later_target before size from t ts w (rest h)

-- back: each of the targets that is a point
way_to : (before size from : ℕ) (ts : List ℕ) (t i j : ℕ) → Contains ts t → t < size → i ≡ from → j ≡ before + t
    → Contains (ways_to before size from ts) (way i j)
way_to before size from [] t i j h l e f = absurd (none_contained h)
way_to before size from (s ∷ ts) t i j h l e f =
    by (nat_lt s size) refl (contained_cases s ts t h) (λ h. way_to before size from ts t i j h l e f)
  where
    by : (b : Bool) → nat_lt s size ≡ b → (s ≡ t) ⊎ Contains ts t
        → (Contains ts t → Contains (ways_to before size from ts) (way i j))
        → Contains (if b then way from (before + s) ∷ ways_to before size from ts else ways_to before size from ts) (way i j)
    by true test (inl same) rest =
        let to : before + s ≡ j = omega arith in
        contained_first (way from (before + s)) (ways_to before size from ts) (way i j) (ap (λ k. way k (before + s)) (sym e) ∙ ap (way i) to)
    by true test (inr h) rest = contained_rest (way from (before + s)) (ways_to before size from ts) (way i j) (rest h)
    by false test (inl same) rest = absurd (not_below test (omega arith))
    by false test (inr h) rest = rest h

-- a way from point n, n + 1, ..
record LeadsFrom (before size n : ℕ) (next : List (List ℕ)) (w : Way) : Type 0 where
  point : ℕ
  target : ℕ
  listed : Contains (slice_index_or next point []) target
  from_within : n + point < size
  to_within : target < size
  from_is : w.from ≡ before + (n + point)
  to_is : w.to ≡ before + target

leads_from : (before size n : ℕ) (next : List (List ℕ)) (w : Way) → Contains (ways_from before size n next) w
    → LeadsFrom before size n next w
leads_from before size n [] w h = absurd (none_contained h)
leads_from before size n (ts ∷ next) w h = by (nat_lt n size) refl (leads_from before size (suc n) next w) h
  where
    here : n < size → LeadsTo before size (before + n) ts w → LeadsFrom before size n (ts ∷ next) w
    here l x = record {
      point = 0;
      target = x.target;
      listed = x.listed;
      from_within = omega arith;
      to_within = x.within;
      from_is = let e = x.from_is in omega arith;
      to_is = x.to_is;
    }

    later : LeadsFrom before size (suc n) next w → LeadsFrom before size n (ts ∷ next) w
    later x = record {
      point = suc x.point;
      target = x.target;
      listed = x.listed;
      from_within = let l = x.from_within in omega arith;
      to_within = x.to_within;
      from_is = let e = x.from_is in omega arith;
      to_is = x.to_is;
    }

    by : (b : Bool) → nat_lt n size ≡ b → (Contains (ways_from before size (suc n) next) w → LeadsFrom before size (suc n) next w)
        → Contains (if b then ways_to before size (before + n) ts ++ ways_from before size (suc n) next else []) w
        → LeadsFrom before size n (ts ∷ next) w
    by true e rest h =
        elim (Contains-append_cases (ways_to before size (before + n) ts) (ways_from before size (suc n) next) w h) [
          | inl h ↦ here (grind (arith, nat_tests)) (leads_to before size (before + n) ts w h)
          | inr h ↦ later (rest h)
        ]
    by false e rest h = absurd (none_contained h)

way_from : (before size n : ℕ) (next : List (List ℕ)) (m t i j : ℕ) → Contains (slice_index_or next m []) t → n + m < size → t < size
    → i ≡ before + (n + m) → j ≡ before + t → Contains (ways_from before size n next) (way i j)
way_from before size n [] m t i j h l k e f = absurd (none_contained h)
way_from before size n (ts ∷ next) zero t i j h l k e f = by (nat_lt n size) refl
  where
    by : (b : Bool) → nat_lt n size ≡ b
        → Contains (if b then ways_to before size (before + n) ts ++ ways_from before size (suc n) next else []) (way i j)
    by true test =
        Contains-append_left (ways_to before size (before + n) ts) (ways_from before size (suc n) next) (way i j)
        (way_to before size (before + n) ts t i j h k (omega arith) f)
    by false test = absurd (not_below test (omega arith))
way_from before size n (ts ∷ next) (suc m) t i j h l k e f =
    by (nat_lt n size) refl (way_from before size (suc n) next m t i j h (omega arith) k (omega arith) f)
  where
    by : (b : Bool) → nat_lt n size ≡ b → Contains (ways_from before size (suc n) next) (way i j)
        → Contains (if b then ways_to before size (before + n) ts ++ ways_from before size (suc n) next else []) (way i j)
    by true test rest =
        Contains-append_right (ways_to before size (before + n) ts) (ways_from before size (suc n) next) (way i j) rest
    by false test rest = absurd (not_below test (omega arith))

-- a way of the bodies, before which there are so many points
pub record LeadsAmong (before : ℕ) (bodies : List Body) (w : Way) : Type 0 where
  pub p : Site
  pub q : Site
  pub next : Next bodies p q
  pub from_is : w.from ≡ before + (points_before bodies p.body + p.point)
  pub to_is : w.to ≡ before + (points_before bodies q.body + q.point)

pub leads_among : (before : ℕ) (bodies : List Body) (w : Way) → Contains (ways_after before bodies) w → LeadsAmong before bodies w
leads_among before [] w h = absurd (none_contained h)
leads_among before (b ∷ bs) w h =
    by (leads_among (before + size) bs w) (Contains-append_cases (ways_from before size 0 b.skeleton.next) (ways_after (before + size) bs) w h)
  where
    size : ℕ
    size = length b.skeleton.points

    here : LeadsFrom before (length b.skeleton.points) 0 b.skeleton.next w → LeadsAmong before (b ∷ bs) w
    here x =
        let from = item_at b.skeleton.points x.point (let l = x.from_within in omega arith) in
        let to = item_at b.skeleton.points x.target x.to_within in
        record {
          p = site 0 x.point;
          q = site 0 x.target;
          next = record {
            body = b;
            stored = refl;
            same = refl;
            leads = record { leads = x.listed };
            from = from.0;
            to = to.0;
            is_from = from.1;
            is_to = to.1;
          };
          from_is = x.from_is;
          to_is = let e = x.to_is in omega arith;
        }

    later : LeadsAmong (before + length b.skeleton.points) bs w → LeadsAmong before (b ∷ bs) w
    later x = record {
      p = site (suc x.p.body) x.p.point;
      q = site (suc x.q.body) x.q.point;
      next = record {
        body = x.next.body;
        stored = x.next.stored;
        same = ap suc x.next.same;
        leads = x.next.leads;
        from = x.next.from;
        to = x.next.to;
        is_from = x.next.is_from;
        is_to = x.next.is_to;
      };
      from_is = let e = x.from_is in omega arith;
      to_is = let e = x.to_is in omega arith;
    }

    by : (Contains (ways_after (before + size) bs) w → LeadsAmong (before + size) bs w)
        → Contains (ways_from before size 0 b.skeleton.next) w ⊎ Contains (ways_after (before + size) bs) w
        → LeadsAmong before (b ∷ bs) w
    by rest (inl h) = here (leads_from before (length b.skeleton.points) 0 b.skeleton.next w h)
    by rest (inr h) = later (rest h)

way_among : (before : ℕ) (bodies : List Body) (k n m i j : ℕ) (b : Body) → slice_get bodies k ≡ Some b
    → Contains (successors b.skeleton n) m → n < length b.skeleton.points → m < length b.skeleton.points
    → i ≡ before + (points_before bodies k + n) → j ≡ before + (points_before bodies k + m)
    → Contains (ways_after before bodies) (way i j)
way_among before [] k n m i j b s h l o e f = cc
way_among before (a ∷ bs) zero n m i j b s h l o e f =
    let Here : Body → Type 0 = λ b. Contains (ways_from before (length b.skeleton.points) 0 b.skeleton.next) (way i j) in
    Contains-append_left (ways_from before (length a.skeleton.points) 0 a.skeleton.next)
    (ways_after (before + length a.skeleton.points) bs) (way i j)
    (subst Here (sym (same_Some a b s))
    (way_from before (length b.skeleton.points) 0 b.skeleton.next n m i j h (omega arith) o (omega arith) (omega arith)))
way_among before (a ∷ bs) (suc k) n m i j b s h l o e f =
    Contains-append_right (ways_from before (length a.skeleton.points) 0 a.skeleton.next)
    (ways_after (before + length a.skeleton.points) bs) (way i j)
    (way_among (before + length a.skeleton.points) bs k n m i j b s h l o (omega arith) (omega arith))

-- each next pair of points has its way
pub way_of_next : (bodies : List Body) (p q : Site) (i j : ℕ) → Next bodies p q
    → i ≡ points_before bodies p.body + p.point → j ≡ points_before bodies q.body + q.point
    → Contains (ways_after 0 bodies) (way i j)
way_of_next bodies p q i j next e f =
    let l = slice_get_within next.body.skeleton.points p.point next.from next.is_from in
    let o = slice_get_within next.body.skeleton.points q.point next.to next.is_to in
    let same : points_before bodies q.body ≡ points_before bodies p.body = ap (points_before bodies) next.same in
    way_among 0 bodies p.body p.point q.point i j next.body next.stored next.leads.leads l o (omega arith) (omega arith)
