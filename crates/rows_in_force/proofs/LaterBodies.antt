-- Bodies of later versions change no mark of a frame.
use Rattle.std.proofs.Common.{◌≡◌, ℕ, ◌<◌, ◌≤◌, Bool, true, false, ◌&&◌, List, [], ◌∷◌, ◌++◌, All, Option, Some, None, refl, ap, ◌∙◌, arith}
use Rattle.std.specs.Prelude.{◌==◌, bytes_eq, max, nat_le, if◌then◌else◌}
use Rattle.std.specs.Option.{option_map_or}
use Rattle.std.proofs.lemmas.Bool.Decides.{nat_tests}
use Rattle.std.proofs.lemmas.List.Elements.{All-head, All-tail}
use Rattle.run_types.specs.Skeleton.{reached}
use Rattle.c_tree.specs.BareExpr.{Bytes}
use Rattle.c_semantics.specs.Store.{Body, CheckInOf, generation_by, body_in, check_in_number}
use Rattle.rows_in_force.specs.Origins.{MarksStay}

-- among bodies of later versions none is there by a version
later_bring_nothing : (f : Bytes) (version : ℕ) (more : List Body) → All (λ b. version < b.generation) more
    → generation_by f version more ≡ 0
later_bring_nothing f version [] all = refl
later_bring_nothing f version (b ∷ more) all =
    without (bytes_eq f b.function) b.generation (generation_by f version more)
    (All-head (λ b. version < b.generation) b more all)
    (later_bring_nothing f version more (All-tail (λ b. version < b.generation) b more all))
  where
    without : (t : Bool) (n rest : ℕ) → version < n → rest ≡ 0 → (if t && nat_le n version then max n rest else rest) ≡ 0
    without true n rest late none = grind (arith, nat_tests, late, none)
    without false n rest late none = none

generation_stays : (f : Bytes) (version : ℕ) (bodies more : List Body) → All (λ b. version < b.generation) more
    → generation_by f version (bodies ++ more) ≡ generation_by f version bodies
generation_stays f version [] more all = later_bring_nothing f version more all
generation_stays f version (b ∷ bodies) more all =
    ap (λ n. if bytes_eq f b.function && nat_le b.generation version then max b.generation n else n)
    (generation_stays f version bodies more all)

-- and the one that is in force is there by it
generation_is_there : (f : Bytes) (version : ℕ) (bodies : List Body) → generation_by f version bodies ≤ version
generation_is_there f version [] = omega arith
generation_is_there f version (b ∷ bodies) =
    step (bytes_eq f b.function) b.generation (generation_by f version bodies) (generation_is_there f version bodies)
  where
    step : (t : Bool) (n rest : ℕ) → rest ≤ version → (if t && nat_le n version then max n rest else rest) ≤ version
    step true n rest there = by (nat_le n version) refl
      where
        by : (u : Bool) → nat_le n version ≡ u → (if u then max n rest else rest) ≤ version
        by true e = grind (arith, nat_tests, e, there)
        by false e = there
    step false n rest there = there

not_among_later : (f : Bytes) (generation version : ℕ) (more : List Body) → generation ≤ version
    → All (λ b. version < b.generation) more → body_in more f generation ≡ None
not_among_later f generation version [] there all = refl
not_among_later f generation version (b ∷ more) there all =
    without (bytes_eq f b.function) b.generation (body_in more f generation) (All-head (λ b. version < b.generation) b more all)
    (not_among_later f generation version more there (All-tail (λ b. version < b.generation) b more all))
  where
    other : (n : ℕ) → version < n → (n == generation) ≡ false
    other n late = grind (arith, nat_tests, late, there)

    without : (t : Bool) (n : ℕ) (rest : Option Body) → version < n → rest ≡ None
        → (if t && n == generation then Some b else rest) ≡ None
    without true n rest late none = ap (λ t. if t then Some b else rest) (other n late) ∙ none
    without false n rest late none = none

body_stays : (f : Bytes) (generation version : ℕ) (bodies more : List Body) → generation ≤ version
    → All (λ b. version < b.generation) more → body_in (bodies ++ more) f generation ≡ body_in bodies f generation
body_stays f generation version [] more there all = not_among_later f generation version more there all
body_stays f generation version (b ∷ bodies) more there all =
    ap (λ o. if bytes_eq f b.function && b.generation == generation then Some b else o)
    (body_stays f generation version bodies more there all)

pub mark_stays : MarksStay
mark_stays bodies more f version point all =
    let generation = generation_by f version bodies in
    let number : Option Body → ℕ = λ o. option_map_or (λ b. check_in_number b (reached b.skeleton point)) o 0 in
    ap (λ n. CheckInOf f n (number (body_in (bodies ++ more) f n))) (generation_stays f version bodies more all)
    ∙ ap (λ o. CheckInOf f generation (number o))
    (body_stays f generation version bodies more (generation_is_there f version bodies) all)
