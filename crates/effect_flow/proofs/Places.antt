-- Each place of a flow is that of one site.
use Rattle.std.proofs.Common.{◌≡◌, ℕ, zero, suc, ◌+◌, ◌-◌, ◌<◌, ◌≤◌, ◌⊎◌, inl, inr, List, [], ◌∷◌, ◌++◌, length, Option, Some, None, refl, sym, ap, ◌∙◌, arith}
use Rattle.std.specs.Prelude.{slice_get, option_map}
use Rattle.std.proofs.lemmas.Bool.{cases_lt}
use Rattle.std.proofs.lemmas.List.{length-append}
use Rattle.std.proofs.lemmas.Option.{slice_get_within, same_Some}
use Rattle.run_types.specs.Skeleton.{Point, point_at}
use Rattle.c_tree.specs.BareExpr.{Bytes}
use Rattle.c_semantics.specs.Store.{Body}
use Rattle.effects.specs.Sites.{Site, point_in}
use Rattle.effect_flow.specs.Flows.{spots_from, spots, points_before, place_of}
use Rattle.effect_flow.proofs.Bodies.{length-spots_from}

abbrev pub site : ℕ → ℕ → Site
site k n = record { body = k; point = n }

-- the place of a point, which is known to be one
pub place_of_point : (bodies : List Body) (p : Site) (at : Point) → point_in bodies p ≡ Some at
    → place_of bodies p ≡ Some (points_before bodies p.body + p.point)
place_of_point bodies p at e = ap (option_map (λ _. points_before bodies p.body + p.point)) e

some_of : {A B : Type 0} (f : A → B) (o : Option A) (y : B) → option_map f o ≡ Some y → (x : A) × (o ≡ Some x) × (f x ≡ y)
some_of f None y e = cc
some_of f (Some x) y e = (x, refl, cc)

-- what has a place is a point
pub point_of_place : (bodies : List Body) (p : Site) (i : ℕ) → place_of bodies p ≡ Some i
    → (at : Point) × (point_in bodies p ≡ Some at) × (points_before bodies p.body + p.point ≡ i)
point_of_place bodies p i e = some_of (λ _. points_before bodies p.body + p.point) (point_in bodies p) i e

pub item_at : {A : Type 0} (xs : List A) (i : ℕ) → i < length xs → (x : A) × (slice_get xs i ≡ Some x)
item_at [] i l = absurd (omega arith)
item_at (x ∷ xs) zero l = (x, refl)
item_at (x ∷ xs) (suc i) l = item_at xs i (omega arith)

get_left : {A : Type 0} (xs ys : List A) (i : ℕ) (x : A) → slice_get xs i ≡ Some x → slice_get (xs ++ ys) i ≡ Some x
get_left [] ys i x e = cc
get_left (y ∷ xs) ys zero x e = e
get_left (y ∷ xs) ys (suc i) x e = get_left xs ys i x e

get_right : {A : Type 0} (xs ys : List A) (i j : ℕ) → j ≡ length xs + i → slice_get (xs ++ ys) j ≡ slice_get ys i
get_right [] ys i j e = let f : j ≡ i = omega arith in ap (slice_get ys) f
get_right (x ∷ xs) ys i zero e = absurd (omega arith)
get_right (x ∷ xs) ys i (suc j) e = get_right xs ys i j (omega arith)

spot_from : (function : Bytes) (generation m : ℕ) (ps : List Point) (n : ℕ) (at : Point) → slice_get ps n ≡ Some at
    → slice_get (spots_from function generation m ps) n
    ≡ Some (record { function = function; generation = generation; number = m + n; at = at })
spot_from function generation m [] n at e = cc
spot_from function generation m (p ∷ ps) zero at e = let f : m ≡ m + 0 = omega arith in let g : p ≡ at = same_Some p at e in cc
spot_from function generation m (p ∷ ps) (suc n) at e =
    let f : suc m + n ≡ m + suc n = omega arith in
    spot_from function generation (suc m) ps n at e
    ∙ ap (λ k. Some (record { function = function; generation = generation; number = k; at = at })) f

-- the spot at the place of a point
pub spot_at : (bodies : List Body) (k n : ℕ) (b : Body) (at : Point) (i : ℕ)
    → slice_get bodies k ≡ Some b → point_at b.skeleton n ≡ Some at → i ≡ points_before bodies k + n
    → slice_get (spots bodies) i
    ≡ Some (record { function = b.function; generation = b.generation; number = n; at = at })
spot_at [] k n b at i e f g = cc
spot_at (a ∷ bodies) zero n b at i e f g =
    let same : a ≡ b = same_Some a b e in
    let here : i ≡ n = omega arith in
    let from_none : 0 + n ≡ n = omega arith in
    let found : point_at a.skeleton n ≡ Some at = ap (λ b. point_at b.skeleton n) same ∙ f in
    ap (slice_get (spots (a ∷ bodies))) here
    ∙ get_left (spots_from a.function a.generation 0 a.skeleton.points) (spots bodies) n
    (record { function = a.function; generation = a.generation; number = 0 + n; at = at })
    (spot_from a.function a.generation 0 a.skeleton.points n at found)
    ∙ ap (λ b. Some (record { function = b.function; generation = b.generation; number = 0 + n; at = at })) same
    ∙ ap (λ k. Some (record { function = b.function; generation = b.generation; number = k; at = at })) from_none
spot_at (a ∷ bodies) (suc k) n b at i e f g =
    get_right (spots_from a.function a.generation 0 a.skeleton.points) (spots bodies) (points_before bodies k + n) i
    (omega (arith, length-spots_from a.function a.generation 0 a.skeleton.points))
    ∙ spot_at bodies k n b at (points_before bodies k + n) e f refl

place_after : (a : Body) (bodies : List Body) (p : Site) (i j : ℕ) → place_of bodies p ≡ Some i → j ≡ length a.skeleton.points + i
    → place_of (a ∷ bodies) (site (suc p.body) p.point) ≡ Some j
place_after a bodies p i j e f =
    let found = point_of_place bodies p i e in
    let g : length a.skeleton.points + points_before bodies p.body + p.point ≡ j =
    omega (arith, found.2) in
    place_of_point (a ∷ bodies) (site (suc p.body) p.point) found.0 found.1 ∙ ap Some g

-- each place below the number of points is that of a site
pub site_of : (bodies : List Body) (i : ℕ) → i < length (spots bodies) → (p : Site) × (place_of bodies p ≡ Some i)
site_of [] i l = absurd (omega arith)
site_of (a ∷ bodies) i l =
    by (cases_lt i (length a.skeleton.points)) (λ later. site_of bodies (i - length a.skeleton.points) (omega (arith, size)))
  where
    size : length (spots (a ∷ bodies)) ≡ length a.skeleton.points + length (spots bodies)
    size = omega
        (arith, length-append (spots_from a.function a.generation 0 a.skeleton.points) (spots bodies), length-spots_from a.function a.generation 0 a.skeleton.points)

    by : (i < length a.skeleton.points) ⊎ (length a.skeleton.points ≤ i)
        → (length a.skeleton.points ≤ i → (p : Site) × (place_of bodies p ≡ Some (i - length a.skeleton.points)))
        → (p : Site) × (place_of (a ∷ bodies) p ≡ Some i)
    by (inl here) rest =
        let found = item_at a.skeleton.points i here in
        let g : 0 + i ≡ i = omega arith in
        (site 0 i, place_of_point (a ∷ bodies) (site 0 i) found.0 found.1 ∙ ap Some g)
    by (inr later) rest =
        let p = rest later in (
          site (suc p.0.body) p.0.point,
          place_after a bodies p.0 (i - length a.skeleton.points) i p.1 (omega arith),
        )

-- two points with one place are one
same_numbers : (bodies : List Body) (k l n m : ℕ) (at to : Point)
    → point_in bodies (site k n) ≡ Some at → point_in bodies (site l m) ≡ Some to
    → points_before bodies k + n ≡ points_before bodies l + m → (k ≡ l) × (n ≡ m)
same_numbers [] k l n m at to e f g = cc
same_numbers (a ∷ bodies) zero zero n m at to e f g = (refl, omega arith)
same_numbers (a ∷ bodies) zero (suc l) n m at to e f g =
    let within : n < length a.skeleton.points = slice_get_within a.skeleton.points n at e in absurd (omega arith)
same_numbers (a ∷ bodies) (suc k) zero n m at to e f g =
    let within : m < length a.skeleton.points = slice_get_within a.skeleton.points m to f in absurd (omega arith)
same_numbers (a ∷ bodies) (suc k) (suc l) n m at to e f g =
    let rest = same_numbers bodies k l n m at to e f (omega arith) in (ap suc rest.0, rest.1)

pub one_site : (bodies : List Body) (p q : Site) (i : ℕ) → place_of bodies p ≡ Some i → place_of bodies q ≡ Some i → p ≡ q
one_site bodies p q i e f =
    let x = point_of_place bodies p i e in
    let y = point_of_place bodies q i f in
    let same = same_numbers bodies p.body q.body p.point q.point x.0 y.0 x.1 y.1 (x.2 ∙ sym y.2) in
    let body : p.body ≡ q.body = same.0 in
    let point : p.point ≡ q.point = same.1 in
    ap (λ k. site k p.point) body ∙ ap (site q.body) point
