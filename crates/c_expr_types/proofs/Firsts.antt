-- The first of two lists of faults, one after the other, is the first of the first of each.
use Rattle.std.specs.Prelude.{◌≡◌, ℕ, Bool, true, false, nat_lt, ◌==◌, ◌&&◌, ◌||◌, List, [], ◌∷◌, ◌++◌, Option, Some, None}
use Rattle.std.proofs.Common.{◌+◌, ◌<◌, length, get_or, drop, refl, ◌∙◌, sym, ap, arith, ◌<◌}
use Rattle.std.specs.List.{flat_map}
use Rattle.std.proofs.lemmas.List.{at_drop_more}
use Rattle.c_tree.specs.declared.def.Binding.{Binding}
use Rattle.c_expr_types.specs.declared.fault.Fault.{Fault}
use Rattle.c_expr_types.specs.declared.found.Part.{Part}
use Rattle.c_definitions.specs.Lookup.{types_of}
use Rattle.c_expr_types.specs.Found.{converts, required}
use Rattle.std.specs.Option.{option_or}
use Rattle.c_expr_types.specs.Expressions.{conversion_faults}
use Rattle.c_expr_types.specs.Faults.{number_of, is_before, earlier, sooner, first}

-- places and numbers as numbers alone
before_in_turn : (p q r m n k : ℕ) →
    (nat_lt q p || (q == p && nat_lt n m)) ≡ true → (nat_lt r q || (r == q && nat_lt k n)) ≡ true
    → (nat_lt r p || (r == p && nat_lt k m)) ≡ true
before_in_turn p q r m n k x y = grind arith

not_before_in_turn : (p q r m n k : ℕ) →
    (nat_lt q p || (q == p && nat_lt n m)) ≡ false → (nat_lt r q || (r == q && nat_lt k n)) ≡ false
    → (nat_lt r p || (r == p && nat_lt k m)) ≡ false
not_before_in_turn p q r m n k x y = grind arith

-- of three faults, taken two by two
by_cases : (a b c : Fault) (x y z : Bool) → is_before b a ≡ x → is_before c b ≡ y → is_before c a ≡ z →
    earlier a (Some (earlier b (Some c))) ≡ earlier (earlier a (Some b)) (Some c)
by_cases a b c true true true ex ey ez = simp (ex, ey, ez) refl
by_cases a b c true true false ex ey ez =
    let h = before_in_turn a.place b.place c.place (number_of a.kind) (number_of b.kind) (number_of c.kind) ex ey in
    absurd (let k : true ≡ false = sym h ∙ ez in cc)
by_cases a b c true false z ex ey ez = simp (ex, ey) refl
by_cases a b c false true true ex ey ez = simp (ex, ey, ez) refl
by_cases a b c false true false ex ey ez = simp (ex, ey, ez) refl
by_cases a b c false false true ex ey ez =
    let h = not_before_in_turn a.place b.place c.place (number_of a.kind) (number_of b.kind) (number_of c.kind) ex ey in
    absurd (let k : true ≡ false = sym ez ∙ h in cc)
by_cases a b c false false false ex ey ez = simp (ex, ey, ez) refl

earlier_of_three : (a b c : Fault) → earlier a (Some (earlier b (Some c))) ≡ earlier (earlier a (Some b)) (Some c)
earlier_of_three a b c = by_cases a b c (is_before b a) (is_before c b) (is_before c a) refl refl refl

pub sooner_of_three : (a b c : Option Fault) → sooner a (sooner b c) ≡ sooner (sooner a b) c
sooner_of_three None b c = refl
sooner_of_three (Some a) None c = refl
sooner_of_three (Some a) (Some b) None = refl
sooner_of_three (Some a) (Some b) (Some c) = ap Some (earlier_of_three a b c)

pub first_append : (xs ys : List Fault) → first (xs ++ ys) ≡ sooner (first xs) (first ys)
first_append [] ys = refl
first_append (x ∷ xs) ys = ap (sooner (Some x)) (first_append xs ys) ∙ sooner_of_three (Some x) (first xs) (first ys)

pub sooner_none : (a : Option Fault) → sooner a None ≡ a
sooner_none None = refl
sooner_none (Some a) = refl

-- one step along a list: what was found so far, with the first fault of the rest
pub faults_step : {A : Type 0} (f : A → List Fault) (xs : List A) (i : ℕ) (x : A) (now next : Option Fault) → i < length xs →
    x ≡ get_or xs i x → next ≡ sooner now (first (f x)) →
    sooner next (first (flat_map f (drop (i + 1) xs))) ≡ sooner now (first (flat_map f (drop i xs)))
faults_step f xs i x now next below is made =
    let rest : List Fault = flat_map f (drop (i + 1) xs) in
    ap (λ n. sooner n (first rest)) made
    ∙ sym (sooner_of_three now (first (f x)) (first rest))
    ∙ ap (sooner now)
    (sym (first_append (f x) rest)
    ∙ ap (λ y. first (f y ++ rest)) is
    ∙ sym (at_drop_more (λ ys. first (flat_map f ys)) xs i x below))

-- the same along the parameters and arguments of a call
pub conversion_faults_step : (bs : List Binding) (xs : List Part) (i : ℕ) (b : Binding) (x : Part) (now next : Option Fault) →
    i < length bs → i < length xs → b ≡ get_or bs i b → x ≡ get_or xs i x →
    next ≡ sooner now (first (required (converts b.declared x.found) x)) →
    sooner next (first (conversion_faults (types_of (drop (i + 1) bs)) (drop (i + 1) xs)))
    ≡ sooner now (first (conversion_faults (types_of (drop i bs)) (drop i xs)))
conversion_faults_step bs xs i b x now next below within b_is x_is made =
    let faults : Binding → Part → List Fault = λ c y. required (converts c.declared y.found) y in
    let rest : List Fault = conversion_faults (types_of (drop (i + 1) bs)) (drop (i + 1) xs) in
    ap (λ n. sooner n (first rest)) made
    ∙ sym (sooner_of_three now (first (faults b x)) (first rest))
    ∙ ap (sooner now)
    (sym (first_append (faults b x) rest)
    ∙ ap (λ c. first (faults c x ++ rest)) b_is
    ∙ ap (λ y. first (faults (get_or bs i b) y ++ rest)) x_is
    ∙ sym (at_drop_more (λ cs. first (conversion_faults (types_of cs) (drop i xs))) bs i b below
    ∙ at_drop_more (λ ys. first (conversion_faults (types_of (get_or bs i b ∷ drop (i + 1) bs)) ys)) xs i x within))
