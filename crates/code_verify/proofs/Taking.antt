-- Words that stops take.
use Rattle.std.proofs.Common.{◌≡◌, ◌≢◌, ℕ, zero, suc, nat_eq, Bool, true, false, List, [], ◌∷◌, ◌++◌, map, reverse, replicate, length, is_some, Option, Some, None, option_map, option_and_then, if◌then◌else◌, refl, sym, ap, ◌∙◌, subst, arith, eqb-true, eq-eqb}
use Rattle.std.proofs.lemmas.List.{reverse-append, length-map}
use Rattle.c_ints.specs.declared.kind.Kind.{Kind}
use Rattle.code_kinds.specs.declared.kind.WordKind.{WordKind}
use Rattle.code_kinds.specs.declared.kind.WordKind.TheVariants.{Integer, Handle}
use Rattle.code_kinds.specs.StopKinds.{Words, integers, take_all, take_arguments}
use Rattle.code_verify.proofs.Below.{some_is, none_is_some, truth}
use Rattle.code_verify.proofs.Edges.{test_false}

replicate_more : (n : ℕ) (k : WordKind) → replicate n k ++ k ∷ [] ≡ k ∷ replicate n k
replicate_more zero k = refl
replicate_more (suc n) k = ap (λ xs. k ∷ xs) (replicate_more n k)

-- integers from the last on
pub integers_reversed : (ks : List Kind) → reverse (integers ks) ≡ replicate (length ks) Integer
integers_reversed [] = refl
integers_reversed (k ∷ ks) =
    reverse-append (Integer ∷ []) (integers ks) ∙ ap (λ xs. xs ++ Integer ∷ []) (integers_reversed ks) ∙ replicate_more (length ks) Integer

-- as many arguments as are expected, or not
pub arguments_taken : (n : ℕ) (ks stack : Words) (go : Words → Option Words) → length ks ≡ n
    → take_arguments n ks stack go ≡ take_all (reverse ks) stack go
arguments_taken n ks stack go e = ap (λ b. if b then take_all (reverse ks) stack go else None) (eq-eqb (length ks) n e)

pub arguments_differ : (n : ℕ) (ks stack : Words) (go : Words → Option Words) → length ks ≢ n → take_arguments n ks stack go ≡ None
arguments_differ n ks stack go h = ap (λ b. if b then take_all (reverse ks) stack go else None) (test_false (length ks) n h)

-- the arguments of a format
pub printed_none : (o : Option (List Kind)) (n : ℕ) (stack : Words) (go : Words → Option Words) → None ≡ option_map length o
    → None ≡ option_and_then (λ ks. take_arguments n (integers ks) stack go) o
printed_none None n stack go e = refl
printed_none (Some ks) n stack go e = absurd (none_is_some e)

pub printed_others : (o : Option (List Kind)) (m n : ℕ) (stack : Words) (go : Words → Option Words) → Some m ≡ option_map length o → m ≢ n
    → None ≡ option_and_then (λ ks. take_arguments n (integers ks) stack go) o
printed_others None m n stack go e h = absurd (none_is_some (sym e))
printed_others (Some ks) m n stack go e h =
    sym (arguments_differ n (integers ks) stack go (λ f. h (some_is e ∙ sym (length-map ks (λ (k : Kind). Integer)) ∙ f)))

pub printed : (o : Option (List Kind)) (n : ℕ) (stack : Words) (go : Words → Option Words) → Some n ≡ option_map length o
    → take_all (replicate n Integer) stack go ≡ option_and_then (λ ks. take_arguments n (integers ks) stack go) o
printed None n stack go e = absurd (none_is_some (sym e))
printed (Some ks) n stack go e =
    ap (λ m. take_all (replicate m Integer) stack go) (some_is e)
    ∙ ap (λ xs. take_all xs stack go) (sym (integers_reversed ks))
    ∙ sym (arguments_taken n (integers ks) stack go (length-map ks (λ (k : Kind). Integer) ∙ sym (some_is e)))

-- something where a struct is found
pub when_found : {A B : Type 0} (o : Option A) (x : B) → (if is_some o then Some x else None) ≡ option_map (λ a. x) o
when_found None x = refl
when_found (Some a) x = refl

pub only_found : {A B : Type 0} (o : Option A) (x : Option B) → (if is_some o then x else None) ≡ option_and_then (λ a. x) o
only_found None x = refl
only_found (Some a) x = refl
