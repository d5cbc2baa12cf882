-- Names are looked up from the last of the spots to the first.
use Rattle.std.proofs.Common.{◌≡◌, ℕ, suc, ◌-◌, ◌<◌, ◌≤◌, List, [], ◌∷◌, ◌++◌, length, map, reverse, get_or, drop, Contains, Err, sym, ap, ◌∙◌, subst, arith}
use Rattle.std.proofs.Math.Seq.{drop-cons}
use Rattle.std.proofs.lemmas.List.{reverse-append, length-reverse, length-map, map-append, get_or-map, get_or-reverse}
use Rattle.std.proofs.lemmas.List.Elements.{Contains-get_or}
use Rattle.run_types.specs.Skeleton as seen
use Rattle.c_semantics.specs.Points.{at_depth}
use Rattle.resolved_tree.specs.Nodes.{Table}
use Rattle.skeletons.specs.declared.point.PointKind.{PointKind}
use Rattle.skeletons.specs.declared.point.Point.{Point}
use Rattle.skeletons.specs.Meaning.{kind_of, point_of}
use Rattle.skeleton_gen.specs.declared.spot.Spot.{Spot}
use Rattle.skeleton_gen.specs.Drawn.{spot_of}
use Rattle.skeleton_gen.specs.Drawn as drawn
use Rattle.skeleton_gen.specs.declared.naming.SkeletonFault.{SkeletonFault}
use Rattle.skeleton_gen.specs.declared.naming.SkeletonFault.TheVariants.{Unknown, Memory}
use Rattle.skeleton_gen.specs.Naming.{UsesUnknown, HasUnknown, NamesKind, IfUnknown}

-- one element more
reversed_more : {A B C : Type 0} (f : A → C) (g : B → C) (xs new : List A) (x : A) (ys : List B) (left : ℕ) (d : B)
    → new ≡ xs ++ x ∷ [] → f x ≡ g (get_or ys (left - 1) d) → map f xs ≡ reverse (map g (drop left ys))
    → 0 < left → left ≤ length ys → map f new ≡ reverse (map g (drop (left - 1) ys))
reversed_more f g xs new x ys left d grown same so_far some within =
    let y = get_or ys (left - 1) d in
    let before : suc (left - 1) ≡ left = omega arith in
    let first : drop (left - 1) ys ≡ y ∷ drop left ys =
    drop-cons ys (left - 1) d (omega arith) ∙ ap (λ n. y ∷ drop n ys) before in
    ap (map f) grown ∙ map-append f xs (x ∷ []) ∙ ap (λ zs. zs ++ f x ∷ []) so_far
    ∙ ap (λ z. reverse (map g (drop left ys)) ++ z ∷ []) same
    ∙ sym (reverse-append (g y ∷ []) (map g (drop left ys)))
    ∙ ap (λ zs. reverse (map g zs)) (sym first)

pub named_more : (names : List (List ℕ)) (t : Table) (xs new : List Point) (k : PointKind) (spots : List Spot) (left : ℕ) (d : Spot)
    → new ≡ xs ++ record { kind = k; depth = (get_or spots (left - 1) d).depth } ∷ []
    → kind_of names k ≡ drawn.kind_of t (get_or spots (left - 1) d).kind
    → map (point_of names) xs ≡ reverse (map (spot_of t) (drop left spots)) → 0 < left → left ≤ length spots
    → map (point_of names) new ≡ reverse (map (spot_of t) (drop (left - 1) spots))
named_more names t xs new k spots left d grown same =
    reversed_more (point_of names) (spot_of t) xs new (record { kind = k; depth = (get_or spots (left - 1) d).depth }) spots left d
    grown (ap (at_depth (get_or spots (left - 1) d).depth) same)

-- what a list has, its reverse has
contains_reversed : {A : Type 0} (xs : List A) (i : ℕ) (d : A) → i < length xs → Contains (reverse xs) (get_or xs i d)
contains_reversed xs i d within =
    let k = length xs - 1 - i in
    let inside : k < length (reverse xs) = omega (arith, length-reverse xs) in
    let back : length xs - 1 - k ≡ i = omega arith in
    subst (Contains (reverse xs)) (get_or-reverse xs k d (omega arith) ∙ ap (λ n. get_or xs n d) back)
    (Contains-get_or (reverse xs) k d inside)

-- a spot's point is among those of all
pub has_unknown : {B : Type 0} (names : List (List ℕ)) (g : B → seen.Point) (ys : List B) (i : ℕ) (d : B) → i < length ys
    → UsesUnknown names (g (get_or ys i d)).kind → HasUnknown names (reverse (map g ys))
has_unknown names g ys i d within unknown = record {
  point = g (get_or ys i d);
  is_there =
      let many = length-map ys g in
      subst (Contains (reverse (map g ys))) (get_or-map g ys i d (g d) within)
      (contains_reversed (map g ys) i (g d) (omega arith));
  unknown = unknown;
}

pub unknown_name : {P : Type 0} (names : List (List ℕ)) (kind : seen.PointKind) (fault : SkeletonFault) → NamesKind names kind (Err fault)
    → (UsesUnknown names kind → P) → IfUnknown fault P
unknown_name names kind Unknown h f = f h
unknown_name names kind Memory h f = tt
