-- Bytes that are written in pieces.
use Rattle.std.proofs.Common.{◌≡◌, ℕ, ◌+◌, ◌-◌, ◌<◌, Bor, List, [], ◌∷◌, ◌++◌, length, take, drop, get_or, None, Some, refl, sym, ◌∙◌, ap, subst, arith, append_assoc, append-nil, length-drop, length-append}
use Rattle.std.proofs.lemmas.List.{take_more, drop_more, take-append-drop, take-append-le}
use Rattle.dsu_io.specs.Sinks.{AppendsFront, joined}
use Rattle.std.specs.declared.option.Option.{Option}
use Rattle.std.specs.Io.KnownBytes.{Appends}
use Rattle.std.proofs.Math.Seq.{take-add, take-length, take-append-add}

-- what comes after a place, up to the end
pub take-rest : (bytes : List ℕ) (done : ℕ) → take (length bytes - done) (drop done bytes) ≡ drop done bytes
take-rest bytes done = ap (λ k. take k (drop done bytes)) (sym (length-drop done bytes)) ∙ take-length (drop done bytes)

-- a prefix, and then a prefix of what comes after it
pub Appends-more : (old mid new : Option (List ℕ)) (bytes : List ℕ) (done n : ℕ) → Appends old mid (take done bytes)
    → Appends mid new (take n (take (length bytes - done) (drop done bytes))) → Appends old new (take (done + n) bytes)
Appends-more None mid new bytes done n first second = tt
Appends-more (Some xs) None new bytes done n first second = absurd first
Appends-more (Some xs) (Some ys) None bytes done n first second = absurd second
Appends-more (Some xs) (Some ys) (Some zs) bytes done n first second =
    second ∙ ap (λ rest. ys ++ take n rest) (take-rest bytes done) ∙ ap (λ front. front ++ take n (drop done bytes)) first
    ∙ append_assoc xs (take done bytes) (take n (drop done bytes)) ∙ ap (λ front. xs ++ front) (sym (take-add done n bytes))

-- bytes, and then more of them
pub Appends-then : (old mid new : Option (List ℕ)) (xs ys : List ℕ) → Appends old mid xs → Appends mid new ys → Appends old new (xs ++ ys)
Appends-then None mid new xs ys first second = tt
Appends-then (Some os) None new xs ys first second = absurd first
Appends-then (Some os) (Some ms) None xs ys first second = absurd second
Appends-then (Some os) (Some ms) (Some ns) xs ys first second = second ∙ ap (λ zs. zs ++ ys) first ∙ append_assoc os xs ys

-- bytes, and then a shorter prefix of more of them
pub AppendsFront-then : (old mid new : Option (List ℕ)) (xs ys zs : List ℕ) → Appends old mid xs → AppendsFront mid new ys
    → AppendsFront old new (xs ++ (ys ++ zs))
AppendsFront-then old mid new xs ys zs first (n, within, second) =
    let longer : length xs + n < length (xs ++ (ys ++ zs)) =
    subst {A = ℕ} (λ k. length xs + n < k) (sym (length-append xs (ys ++ zs) ∙ ap (λ k. length xs + k) (length-append ys zs))) (omega (arith, within)) in (
      length xs + n,
      longer,
      subst {A = List ℕ} (λ bytes. Appends old new bytes)
          (sym (take-append-add xs (ys ++ zs) n ∙ ap (λ front. xs ++ front) (take-append-le n ys zs (omega (arith, within)))))
          (Appends-then old mid new xs (take n ys) first second),
    )

joined-append : (xs ys : List (Bor (List ℕ))) → joined (xs ++ ys) ≡ joined xs ++ joined ys
joined-append [] ys = refl
joined-append (x ∷ xs) ys = ap (λ rest. x.now ++ rest) (joined-append xs ys) ∙ sym (append_assoc x.now (joined xs) (joined ys))

-- the pieces up to a place, one more, and those after it
pub joined-more : (pieces : List (Bor (List ℕ))) (i : ℕ) (d : Bor (List ℕ)) → i < length pieces
    → joined (take (i + 1) pieces) ≡ joined (take i pieces) ++ (get_or pieces i d).now
joined-more pieces i d within =
    ap joined (take_more pieces i d within) ∙ joined-append (take i pieces) _ ∙ ap (λ bytes. joined (take i pieces) ++ bytes) (append-nil _)

pub joined-from : (pieces : List (Bor (List ℕ))) (i : ℕ) (d : Bor (List ℕ)) → i < length pieces
    → joined pieces ≡ joined (take i pieces) ++ ((get_or pieces i d).now ++ joined (drop (i + 1) pieces))
joined-from pieces i d within =
    ap joined (sym (take-append-drop i pieces)) ∙ joined-append (take i pieces) (drop i pieces)
    ∙ ap (λ rest. joined (take i pieces) ++ joined rest) (drop_more pieces i d within)

-- one more piece
pub pieces-more : (old mid new : Option (List ℕ)) (pieces : List (Bor (List ℕ))) (i : ℕ) (d : Bor (List ℕ)) → i < length pieces
    → Appends old mid (joined (take i pieces)) → Appends mid new (get_or pieces i d).now → Appends old new (joined (take (i + 1) pieces))
pieces-more old mid new pieces i d within first second =
    subst {A = List ℕ} (λ bytes. Appends old new bytes) (sym (joined-more pieces i d within))
    (Appends-then old mid new (joined (take i pieces)) (get_or pieces i d).now first second)

-- a shorter prefix of one more piece
pub pieces-front : (old mid new : Option (List ℕ)) (pieces : List (Bor (List ℕ))) (i : ℕ) (d : Bor (List ℕ)) → i < length pieces
    → Appends old mid (joined (take i pieces)) → AppendsFront mid new (get_or pieces i d).now → AppendsFront old new (joined pieces)
pieces-front old mid new pieces i d within first second =
    subst {A = List ℕ} (λ bytes. AppendsFront old new bytes) (sym (joined-from pieces i d within))
    (AppendsFront-then old mid new (joined (take i pieces)) (get_or pieces i d).now (joined (drop (i + 1) pieces)) first second)
