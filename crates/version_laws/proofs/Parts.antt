-- What is made of equal parts is equal.
use Rattle.std.proofs.Common.{◌≡◌}

pub three : {A B C D : Type 0} (f : A → B → C → D) {a b : A} {x y : B} {v w : C} → a ≡ b → x ≡ y → v ≡ w → f a x v ≡ f b y w
three f p q r = cc

pub four : {A B C D E : Type 0} (f : A → B → C → D → E) {a b : A} {x y : B} {v w : C} {p q : D}
    → a ≡ b → x ≡ y → v ≡ w → p ≡ q → f a x v p ≡ f b y w q
four f p q r t = cc
