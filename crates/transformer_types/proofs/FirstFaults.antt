-- The first by place of two lists of faults, one after the other, is the first of the first of each.
use Rattle.std.proofs.Common.{◌≡◌, ℕ, ◌+◌, ◌<◌, Bool, true, false, nat_lt, List, [], ◌∷◌, ◌++◌, length, get_or, drop, map, Option, Some, None, option_map, refl, ◌∙◌, sym, ap, arith}
use Rattle.std.specs.Prelude.{flat_map}
use Rattle.std.proofs.lemmas.List.{at_drop_more}
use Rattle.c_expr_types.specs.declared.found.Found.{Found}
use Rattle.c_expr_types.specs.declared.found.Found.TheVariants.{Wrong}
use Rattle.c_expr_types.specs.declared.found.Part.{Part}
use Rattle.c_expr_types.specs.Faults.{first as first_of_value}
use Rattle.c_expr_types.specs.Found.{misfit, required}
use Rattle.patch_faults.specs.declared.fault.TransformFault.{TransformFault}
use Rattle.patch_faults.specs.TransformFaults.{place_of, earlier, first, of_expression}
use Rattle.transformer_types.specs.Alone.{sooner}

less_in_turn : (p q r : ℕ) → nat_lt q p ≡ true → nat_lt r q ≡ true → nat_lt r p ≡ true
less_in_turn p q r x y = grind arith

not_less_in_turn : (p q r : ℕ) → nat_lt q p ≡ false → nat_lt r q ≡ false → nat_lt r p ≡ false
not_less_in_turn p q r x y = grind arith

-- of three faults, taken two by two
by_cases : (a b c : TransformFault) (x y z : Bool) →
    nat_lt (place_of b) (place_of a) ≡ x → nat_lt (place_of c) (place_of b) ≡ y → nat_lt (place_of c) (place_of a) ≡ z →
    earlier a (Some (earlier b (Some c))) ≡ earlier (earlier a (Some b)) (Some c)
by_cases a b c true true true ex ey ez = simp (ex, ey, ez) refl
by_cases a b c true true false ex ey ez =
    let h = less_in_turn (place_of a) (place_of b) (place_of c) ex ey in absurd (let k : true ≡ false = sym h ∙ ez in cc)
by_cases a b c true false z ex ey ez = simp (ex, ey) refl
by_cases a b c false true true ex ey ez = simp (ex, ey, ez) refl
by_cases a b c false true false ex ey ez = simp (ex, ey, ez) refl
by_cases a b c false false true ex ey ez =
    let h = not_less_in_turn (place_of a) (place_of b) (place_of c) ex ey in absurd (let k : true ≡ false = sym ez ∙ h in cc)
by_cases a b c false false false ex ey ez = simp (ex, ey, ez) refl

sooner_of_three : (a b c : Option TransformFault) → sooner a (sooner b c) ≡ sooner (sooner a b) c
sooner_of_three None b c = refl
sooner_of_three (Some a) None c = refl
sooner_of_three (Some a) (Some b) None = refl
sooner_of_three (Some a) (Some b) (Some c) =
    ap Some (by_cases a b c (nat_lt (place_of b) (place_of a)) (nat_lt (place_of c) (place_of b)) (nat_lt (place_of c) (place_of a)) refl refl refl)

first_both : (xs ys : List TransformFault) → first (xs ++ ys) ≡ sooner (first xs) (first ys)
first_both [] ys = refl
first_both (x ∷ xs) ys = ap (sooner (Some x)) (first_both xs ys) ∙ sooner_of_three (Some x) (first xs) (first ys)

-- one step along a list: what was found so far, with the first fault of the rest
pub faults_step : {A : Type 0} (f : A → List TransformFault) (xs : List A) (i : ℕ) (x : A) (now next : Option TransformFault) →
    i < length xs → x ≡ get_or xs i x → next ≡ sooner now (first (f x)) →
    sooner next (first (flat_map f (drop (i + 1) xs))) ≡ sooner now (first (flat_map f (drop i xs)))
faults_step f xs i x now next below is made =
    let rest : List TransformFault = flat_map f (drop (i + 1) xs) in
    ap (λ n. sooner n (first rest)) made
    ∙ sym (sooner_of_three now (first (f x)) (first rest))
    ∙ ap (sooner now)
    (sym (first_both (f x) rest)
    ∙ ap (λ y. first (f y ++ rest)) is
    ∙ sym (at_drop_more (λ ys. first (flat_map f ys)) xs i x below))

pub sooner_none : (a : Option TransformFault) → sooner a None ≡ a
sooner_none None = refl
sooner_none (Some a) = refl

-- a value has at most one fault
one_misfit : (test : Bool) (at : ℕ) (found : Found) →
    first (map of_expression (misfit test at found)) ≡ option_map of_expression (first_of_value (misfit test at found))
one_misfit test at (Wrong f) = refl
one_misfit true at _ = refl
one_misfit false at _ = refl

pub first_required : (test : Bool) (part : Part) →
    first (map of_expression (required test part)) ≡ option_map of_expression (first_of_value (required test part))
first_required test part = one_misfit test part.place part.found
