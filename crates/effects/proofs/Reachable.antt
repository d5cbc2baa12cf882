-- In a finite graph it is decided what is reached.
use Rattle.std.proofs.Common.{◌≡◌, Bool, true, false, cond, ◌||◌, List, [], ◌∷◌, refl, sym, ap, ◌∙◌, ◌⊎◌, inl, inr}
use Rattle.std.specs.Bool.{Decides}

-- x is in a list
abbrev pub Among : {A : Type 0} → List A → A → Type 0
Among [] x = ⊥
Among (y ∷ ys) x = (y ≡ x) ⊎ Among ys x

-- a way from one node to another
pub record Way (A : Type 0) : Type 0 where
  pub from : A
  pub to : A

abbrev pub way : {A : Type 0} → A → A → Way A
way x y = record { from = x; to = y }

pub data Reached {A : Type 0} (ways : List (Way A)) (root : A → Bool) : A → Type 0 where
  begins : (x : A) → root x ≡ true → Reached ways root x
  goes : (x y : A) → Among ways (way x y) → Reached ways root x → Reached ways root y

-- a set has the roots and is closed under the ways
record Closed {A : Type 0} (ways : List (Way A)) (root : A → Bool) (has : A → Bool) : Type 0 where
  roots : (x : A) → root x ≡ true → has x ≡ true
  on : (x y : A) → Among ways (way x y) → has x ≡ true → has y ≡ true

within : {A : Type 0} (ways : List (Way A)) (root has : A → Bool) → Closed ways root has
    → (x : A) → Reached ways root x → has x ≡ true
within ways root has k _ (begins x e) = k.roots x e
within ways root has k _ (goes x y a r) = k.on x y a (within ways root has k x r)

-- the roots with one more
abbrev and : {A : Type 0} → (A → A → Bool) → (A → Bool) → A → A → Bool
and same root a x = root x || same a x

-- whether a node is reached: a way counts only where its beginning is reached by the others
abbrev pub decide : {A : Type 0} → (A → A → Bool) → List (Way A) → (A → Bool) → A → Bool
decide same [] root x = root x
decide same (w ∷ ws) root x =
    cond (decide same ws root w.from) (decide same ws (and same root w.to) x) (decide same ws root x)

or_left : (a b : Bool) → a ≡ true → (a || b) ≡ true
or_left true b e = refl
or_left false b e = cc

or_right : (a b : Bool) → b ≡ true → (a || b) ≡ true
or_right true b e = refl
or_right false b e = e

or_cases : (a b : Bool) → (a || b) ≡ true → (a ≡ true) ⊎ (b ≡ true)
or_cases true b e = inl refl
or_cases false b e = inr e

closed_by : {A : Type 0} (same : A → A → Bool) → ((x y : A) → Decides (same x y) (x ≡ y))
    → (w : Way A) (ws : List (Way A)) (root : A → Bool) → ((r : A → Bool) → Closed ws r (decide same ws r))
    → (b : Bool) → decide same ws root w.from ≡ b
    → Closed (w ∷ ws) root (λ x. cond b (decide same ws (and same root w.to) x) (decide same ws root x))
closed_by {A} same decides w ws root less true e =
    let k = less (and same root w.to) in
    let on : (x y : A) → Among (w ∷ ws) (way x y) → decide same ws (and same root w.to) x ≡ true
    → decide same ws (and same root w.to) y ≡ true =
    λ x y a h. elim a [
      | inl p ↦ k.roots y (or_right (root y) (same w.to y) ((decides w.to y).1 (ap (λ v. v.to) p)))
      | inr q ↦ k.on x y q h
    ] in
    record { roots = λ x r. k.roots x (or_left (root x) (same w.to x) r); on = on }
closed_by {A} same decides w ws root less false e =
    let k = less root in
    let on : (x y : A) → Among (w ∷ ws) (way x y) → decide same ws root x ≡ true → decide same ws root y ≡ true =
    λ x y a h. elim a [
      | inl p ↦ absurd (never (sym e ∙ ap (λ v. decide same ws root v.from) p ∙ h))
      | inr q ↦ k.on x y q h
    ] in
    record { roots = k.roots; on = on }
  where
    never : false ≡ true → ⊥
    never e = cc

closed : {A : Type 0} (same : A → A → Bool) → ((x y : A) → Decides (same x y) (x ≡ y))
    → (ways : List (Way A)) (root : A → Bool) → Closed ways root (decide same ways root)
closed same decides [] root = record { roots = λ x e. e; on = λ x y a. absurd a }
closed same decides (w ∷ ws) root =
    closed_by same decides w ws root (λ r. closed same decides ws r) (decide same ws root w.from) refl

-- more ways reach more
wider : {A : Type 0} (w : Way A) (ws : List (Way A)) (root : A → Bool) (x : A) → Reached ws root x → Reached (w ∷ ws) root x
wider w ws root _ (begins x e) = begins x e
wider w ws root _ (goes x y a r) = goes x y (inr a) (wider w ws root x r)

-- what is reached from one more root is reached over the way to it
rooted : {A : Type 0} (same : A → A → Bool) → ((x y : A) → Decides (same x y) (x ≡ y))
    → (w : Way A) (ws : List (Way A)) (root : A → Bool) (x : A) → Reached (w ∷ ws) root w.from
    → Reached ws (and same root w.to) x → Reached (w ∷ ws) root x
rooted same decides w ws root _ start (begins x e) =
    elim (or_cases (root x) (same w.to x) e) [
      | inl r ↦ begins x r
      | inr s ↦ goes w.from x (inl (ap (way w.from) ((decides w.to x).0 s))) start
    ]
rooted same decides w ws root _ start (goes x y a r) = goes x y (inr a) (rooted same decides w ws root x start r)

sound_by : {A : Type 0} (same : A → A → Bool) → ((x y : A) → Decides (same x y) (x ≡ y))
    → (w : Way A) (ws : List (Way A)) (root : A → Bool) (x : A)
    → ((r : A → Bool) (y : A) → decide same ws r y ≡ true → Reached ws r y)
    → (b : Bool) → decide same ws root w.from ≡ b
    → cond b (decide same ws (and same root w.to) x) (decide same ws root x) ≡ true → Reached (w ∷ ws) root x
sound_by same decides w ws root x less true e h =
    rooted same decides w ws root x (wider w ws root w.from (less root w.from e)) (less (and same root w.to) x h)
sound_by same decides w ws root x less false e h = wider w ws root x (less root x h)

sound : {A : Type 0} (same : A → A → Bool) → ((x y : A) → Decides (same x y) (x ≡ y))
    → (ways : List (Way A)) (root : A → Bool) (x : A) → decide same ways root x ≡ true → Reached ways root x
sound same decides [] root x = λ e. begins x e
sound same decides (w ∷ ws) root x =
    sound_by same decides w ws root x (λ r y. sound same decides ws r y) (decide same ws root w.from) refl

pub decided : {A : Type 0} (same : A → A → Bool) → ((x y : A) → Decides (same x y) (x ≡ y))
    → (ways : List (Way A)) (root : A → Bool) (x : A) → Decides (decide same ways root x) (Reached ways root x)
decided same decides ways root x =
    (sound same decides ways root x, within ways root (decide same ways root) (closed same decides ways root) x)
