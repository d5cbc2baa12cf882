-- Bytes in pieces, some of which are known by equations.
use Rattle.std.proofs.Common.{◌≡◌, ℕ, List, [], ◌++◌, refl, ap, ◌∙◌, append_assoc, append-nil}

pub two : (a : List ℕ) {b b' : List ℕ} → b ≡ b' → a ++ (b ++ []) ≡ a ++ b'
two a {b} {b'} p = ap (λ x. a ++ x) (append-nil b ∙ p)

pub three : (a c : List ℕ) {b b' : List ℕ} → b ≡ b' → a ++ (b ++ c) ≡ a ++ b' ++ c
three a c {b} {b'} p =
    let flat : a ++ (b ++ c) ≡ a ++ b ++ c = simp append_assoc refl in
    let same : a ++ b ++ c ≡ a ++ b' ++ c = cc in
    flat ∙ same

pub four : (a c : List ℕ) {b b' d d' : List ℕ} → b ≡ b' → d ≡ d' → a ++ (b ++ (c ++ (d ++ []))) ≡ a ++ b' ++ c ++ d'
four a c {b} {b'} {d} {d'} p q =
    let flat : a ++ (b ++ (c ++ (d ++ []))) ≡ a ++ b ++ c ++ d = simp (append_assoc, append-nil) refl in
    let same : a ++ b ++ c ++ d ≡ a ++ b' ++ c ++ d' = cc in
    flat ∙ same
