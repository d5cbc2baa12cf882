-- Tests that hold together.
use Rattle.std.proofs.Common.{◌≡◌, Bool, true, false, refl, ◌&&◌}

pub no : false ≡ true → ⊥
no e = cc

pub left_of : (a b : Bool) → (a && b) ≡ true → a ≡ true
left_of true b h = refl
left_of false b h = h

pub right_of : (a b : Bool) → (a && b) ≡ true → b ≡ true
right_of true b h = h
right_of false b h = absurd (no h)

pub both_hold : (a b : Bool) → a ≡ true → b ≡ true → (a && b) ≡ true
both_hold true b g h = h
both_hold false b g h = absurd (no g)
