-- The check-ins among the points of a skeleton.
use Rattle.std.proofs.Common.{◌≡◌, ℕ, zero, suc, ◌+◌, ◌<◌, ◌≤◌, List, [], ◌∷◌, ◌++◌, length, map, get_or, Option, Some, None, slice_get, refl, sym, ap, ◌∙◌, subst, arith, add-one, append-nil, length-append}
use Rattle.std.specs.Prelude.{All, slice_index, is_some}
use Rattle.std.specs.Option.{option_map, option_and_then}
use Rattle.std.specs.List.Sorted.{IsNonDecreasingBy}
use Rattle.std.proofs.lemmas.List.{length-map, get_or-map}
use Rattle.std.proofs.lemmas.List.Elements.{All-nil, All-cons, All-append}
use Rattle.std.proofs.lemmas.List.Sums.{count_by_more_yes, count_by_more_no}
use Rattle.std.proofs.lemmas.Option.{slice_get-map, slice_get-get_or, get_or_from_slice_get}
use Rattle.run_types.specs.CheckIns.{CheckInKind}
use Rattle.run_types.specs.Skeleton.{check_in_of, check_in_at}
use Rattle.run_types.specs.Skeleton as meaning
use Rattle.c_semantics.specs.Skeletons.{is_check_in_kind}
use Rattle.skeletons.specs.declared.point.Point.{Point}
use Rattle.skeletons.specs.declared.skeleton.Skeleton.{Skeleton}
use Rattle.skeletons.specs.Meaning.{meant, kind_of, point_of}
use Rattle.check_in_places.specs.declared.section.Spot.{Spot}
use Rattle.check_in_places.specs.CheckIns.{CheckIn, check_in_if, check_ins_below, check_ins_in}
use Rattle.check_in_places.specs.Bodies.{shown, check_ins_before}

-- ---- one point more

-- which check-in a point is
check_in_meant : (names : List (List ℕ)) (s : Skeleton) (n : ℕ) (p : Point) → slice_get s.points.items n ≡ Some p
    → check_in_at (meant names s) n ≡ check_in_of (kind_of names p.kind)
check_in_meant names s n p at =
    ap (λ o. option_and_then check_in_of (option_map (λ q. q.kind) o))
    (slice_get-map (point_of names) s.points.items n ∙ ap (option_map (point_of names)) at)

pub check_ins_more : (names : List (List ℕ)) (s : Skeleton) (places : List ℕ) (n place : ℕ) (p : Point)
    → slice_get s.points.items n ≡ Some p → slice_get places n ≡ Some place
    → check_ins_below (meant names s) places (n + 1)
    ≡ check_ins_below (meant names s) places n ++ check_in_if (check_in_of (kind_of names p.kind)) n place
check_ins_more names s places n place p is_point is_place =
    ap (check_ins_below (meant names s) places) (add-one n)
    ∙ ap (λ o. check_ins_below (meant names s) places n ++ check_in_if o n (slice_index places n)) (check_in_meant names s n p is_point)
    ∙ ap (λ at. check_ins_below (meant names s) places n ++ check_in_if (check_in_of (kind_of names p.kind)) n at)
    (get_or_from_slice_get places n place 0 is_place)

pub check_ins_all : (names : List (List ℕ)) (s : Skeleton) (places : List ℕ) (n : ℕ) → n ≡ length s.points.items
    → check_ins_below (meant names s) places n ≡ check_ins_in (meant names s) places
check_ins_all names s places n all =
    ap (check_ins_below (meant names s) places) (all ∙ sym (length-map s.points.items (point_of names)))

-- ---- how many they are

one_more : (s : meaning.Skeleton) (before : List CheckIn) (n place : ℕ) (none : meaning.Point) (o : Option CheckInKind) → n < length s.points
    → check_in_of (get_or s.points n none).kind ≡ o → length before ≡ check_ins_before s n
    → length (before ++ check_in_if o n place) ≡ check_ins_before s (n + 1)
one_more s before n place none None within is many =
    ap length (append-nil before) ∙ many
    ∙ sym (count_by_more_no (λ p. is_check_in_kind p.kind) s.points n none within (ap is_some is))
one_more s before n place none (Some kind) within is many =
    length-append before (check_in_if (Some kind) n place) ∙ ap (λ k. k + 1) many
    ∙ sym (count_by_more_yes (λ p. is_check_in_kind p.kind) s.points n none within (ap is_some is))

many_below : (s : meaning.Skeleton) (at : List ℕ) (n : ℕ) → n ≤ length s.points → length (check_ins_below s at n) ≡ check_ins_before s n
many_below s at zero within = refl
many_below s at (suc n) within =
    let none : meaning.Point = record { kind = meaning.Print; depth = 0 } in
    let less : n < length s.points = omega (arith, within) in
    ap (λ o. length (check_ins_below s at n ++ check_in_if o n (slice_index at n)))
    (ap (λ o. option_and_then check_in_of (option_map (λ p. p.kind) o)) (slice_get-get_or s.points n none less))
    ∙ one_more s (check_ins_below s at n) n (slice_index at n) none (check_in_of (get_or s.points n none).kind) less refl
    (many_below s at n (omega (arith, within)))
    ∙ ap (check_ins_before s) (add-one n)

pub length_below : (names : List (List ℕ)) (s : Skeleton) (places : List ℕ) (n : ℕ) → n < length s.points.items
    → length (check_ins_below (meant names s) places n) ≡ check_ins_before (meant names s) n
length_below names s places n within =
    let same = length-map s.points.items (point_of names) in
    many_below (meant names s) places n (omega (arith, same, within))

-- ---- they are points of their body

one_check_in : (s : meaning.Skeleton) (n place : ℕ) (o : Option CheckInKind) → check_in_at s n ≡ o
    → All (λ c. check_in_at s c.point ≡ Some c.kind) (check_in_if o n place)
one_check_in s n place (Some kind) e = All-cons (λ c. check_in_at s c.point ≡ Some c.kind) _ [] e (All-nil (λ c. check_in_at s c.point ≡ Some c.kind))
one_check_in s n place None e = All-nil (λ c. check_in_at s c.point ≡ Some c.kind)

pub are_check_ins : (s : meaning.Skeleton) (at : List ℕ) (n : ℕ) → All (λ c. check_in_at s c.point ≡ Some c.kind) (check_ins_below s at n)
are_check_ins s at zero = All-nil (λ c. check_in_at s c.point ≡ Some c.kind)
are_check_ins s at (suc n) =
    All-append (λ c. check_in_at s c.point ≡ Some c.kind) (check_ins_below s at n) (check_in_if (check_in_at s n) n (slice_index at n))
    (are_check_ins s at n) (one_check_in s n (slice_index at n) (check_in_at s n) refl)

-- ---- those that are shown are in the order of their places

pub ascending_shown : (spots : List Spot) → IsNonDecreasingBy (λ spot. spot.at) spots → IsNonDecreasingBy (λ c. c.place) (map shown spots)
ascending_shown [] up = λ i j d less within. absurd (omega arith)
ascending_shown (spot ∷ spots) up = λ i j d less within.
    let all = spot ∷ spots in
    let last : j < length all = subst {A = ℕ} (λ n. j < n) (length-map all shown) within in
    let a : get_or (map shown all) i d ≡ shown (get_or all i spot) = get_or-map shown all i spot d (omega arith) in
    let b : get_or (map shown all) j d ≡ shown (get_or all j spot) = get_or-map shown all j spot d last in
    let fact : (get_or all i spot).at ≤ (get_or all j spot).at = up i j spot less last in
    subst {A = CheckIn} (λ c. c.place ≤ (get_or (map shown all) j d).place) (sym a)
    (subst {A = CheckIn} (λ c. (get_or all i spot).at ≤ c.place) (sym b) fact)
