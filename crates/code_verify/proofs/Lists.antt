-- Words that lists have in common.
use Rattle.std.proofs.Common.{◌≡◌, ℕ, zero, suc, ◌+◌, ◌≤◌, nat_le, Bool, true, false, ◌&&◌, List, [], ◌∷◌, ◌++◌, take, length, slice_get, Option, Some, None, refl, sym, ap, ◌∙◌, subst, arith, append-nil, length-append, eqb-true, eq-eqb, nat_eq, length-take-le, if◌then◌else◌}
use Rattle.std.proofs.lemmas.Bool.{false≢true}
use Rattle.std.proofs.lemmas.Bool.Decides.{nat_tests}
use Rattle.run_types.specs.CheckIns.{CheckInKind}
use Rattle.run_types.specs.CheckIns as check_in
use Rattle.code_kinds.specs.declared.kind.WordKind.{WordKind}
use Rattle.code_kinds.specs.declared.kind.WordKind.TheVariants.{Integer, Handle, Thread}
use Rattle.code_kinds.specs.WordKinds.{same_kind}
use Rattle.code_kinds.specs.StopKinds.{Words}
use Rattle.code_kinds.specs.Shapes.{Due, same_check_in}
use Rattle.code_verify.specs.Meeting.{common, same_words, same_due}

pub both : (a b : Bool) → (a && b) ≡ true → (a ≡ true) × (b ≡ true)
both true b e = (refl, e)
both false b e = absurd (false≢true e)

pub and_true : (a b : Bool) → a ≡ true → b ≡ true → (a && b) ≡ true
and_true true b e f = f
and_true false b e f = absurd (false≢true e)

pub same_kind_self : (a : WordKind) → same_kind a a ≡ true
same_kind_self Integer = refl
same_kind_self Handle = refl
same_kind_self Thread = refl

pub same_kind_is : (a b : WordKind) → same_kind a b ≡ true → a ≡ b
same_kind_is Integer Integer e = refl
same_kind_is Handle Handle e = refl
same_kind_is Thread Thread e = refl
same_kind_is _ _ e = absurd (false≢true e)

pub same_check_in_self : (a : CheckInKind) → same_check_in a a ≡ true
same_check_in_self check_in.Entry = refl
same_check_in_self check_in.Call = refl
same_check_in_self check_in.Begin = refl
same_check_in_self check_in.End = refl
same_check_in_self check_in.Update = refl

pub same_check_in_is : (a b : CheckInKind) → same_check_in a b ≡ true → a ≡ b
same_check_in_is check_in.Entry check_in.Entry e = refl
same_check_in_is check_in.Call check_in.Call e = refl
same_check_in_is check_in.Begin check_in.Begin e = refl
same_check_in_is check_in.End check_in.End e = refl
same_check_in_is check_in.Update check_in.Update e = refl
same_check_in_is _ _ e = absurd (false≢true e)

pub same_words_self : (xs : Words) → same_words xs xs ≡ true
same_words_self [] = refl
same_words_self (a ∷ xs) = and_true (same_kind a a) (same_words xs xs) (same_kind_self a) (same_words_self xs)

pub same_words_is : (xs ys : Words) → same_words xs ys ≡ true → xs ≡ ys
same_words_is [] [] e = refl
same_words_is (a ∷ xs) (b ∷ ys) e =
    let h = both (same_kind a b) (same_words xs ys) e in
    ap (λ x. x ∷ xs) (same_kind_is a b h.0) ∙ ap (λ x. b ∷ x) (same_words_is xs ys h.1)
same_words_is _ _ e = absurd (false≢true e)

pub same_number_self : (n : ℕ) → nat_eq n n ≡ true
same_number_self n = eq-eqb n n refl

pub same_due_self : (a : Option Due) → same_due a a ≡ true
same_due_self None = refl
same_due_self (Some a) =
    and_true (same_check_in a.kind a.kind) (nat_eq a.number a.number) (same_check_in_self a.kind) (same_number_self a.number)

pub same_due_is : (a b : Option Due) → same_due a b ≡ true → a ≡ b
same_due_is None None e = refl
same_due_is (Some a) (Some b) e =
    let h = both (same_check_in a.kind b.kind) (nat_eq a.number b.number) e in
    let kinds : a.kind ≡ b.kind = same_check_in_is a.kind b.kind h.0 in
    let numbers : a.number ≡ b.number = eqb-true a.number b.number h.1 in
    λ i. Some (record { kind = kinds i; number = numbers i })
same_due_is _ _ e = absurd (false≢true e)

-- what two lists have in common begins each of them
pub common_first : (xs ys : Words) → (f : Words) × (xs ≡ common xs ys ++ f)
common_first [] ys = ([], refl)
common_first (a ∷ xs) [] = (a ∷ xs, refl)
common_first (a ∷ xs) (b ∷ ys) =
    let h = common_first xs ys in
    elim (same_kind a b) as (λ t. (f : Words) × (a ∷ xs ≡ (if t then a ∷ common xs ys else []) ++ f)) [
      | true ↦ (h.0, ap (λ x. a ∷ x) h.1)
      | false ↦ (a ∷ xs, refl)
    ]

pub common_second : (xs ys : Words) → (f : Words) × (ys ≡ common xs ys ++ f)
common_second [] ys = (ys, refl)
common_second (a ∷ xs) [] = ([], refl)
common_second (a ∷ xs) (b ∷ ys) =
    let h = common_second xs ys in
    let inside : (t : Bool) → (t ≡ true → a ≡ b) → (f : Words) × (b ∷ ys ≡ (if t then a ∷ common xs ys else []) ++ f) = λ t e.
    elim t as (λ t. (t ≡ true → a ≡ b) → (f : Words) × (b ∷ ys ≡ (if t then a ∷ common xs ys else []) ++ f)) [
      | true ↦ λ e. (h.0, ap (λ x. b ∷ x) h.1 ∙ ap (λ x. x ∷ (common xs ys ++ h.0)) (sym (e refl)))
      | false ↦ λ e. (b ∷ ys, refl)
    ] e in
    inside (same_kind a b) (same_kind_is a b)

-- what begins both of two lists begins what they have in common
pub common_append : (t f g : Words) → common (t ++ f) (t ++ g) ≡ t ++ common f g
common_append [] f g = refl
common_append (a ∷ t) f g =
    ap (λ b. if b then a ∷ common (t ++ f) (t ++ g) else []) (same_kind_self a) ∙ ap (λ x. a ∷ x) (common_append t f g)

pub take_front : (t f : Words) → take (length t) (t ++ f) ≡ t
take_front [] f = refl
take_front (a ∷ t) f = ap (λ x. a ∷ x) (take_front t f)

pub take_rest : (v : ℕ) (xs : Words) → (f : Words) × (xs ≡ take v xs ++ f)
take_rest zero xs = (xs, refl)
take_rest (suc v) [] = ([], refl)
take_rest (suc v) (a ∷ xs) = let h = take_rest v xs in (h.0, ap (λ x. a ∷ x) h.1)

pub length_take : (v : ℕ) (xs : Words) → v ≤ length xs → length (take v xs) ≡ v
length_take v xs h = length-take-le v xs h

-- a list that begins another of its length is that
pub begins_all : (xs f : Words) → length (xs ++ f) ≡ length xs → xs ++ f ≡ xs
begins_all xs [] e = append-nil xs
begins_all xs (a ∷ f) e = absurd (omega (arith, length-append xs (a ∷ f)))

pub get_front : (t f : Words) (n : ℕ) (k : WordKind) → slice_get t n ≡ Some k → slice_get (t ++ f) n ≡ Some k
get_front [] f n k e = cc
get_front (a ∷ t) f zero k e = e
get_front (a ∷ t) f (suc n) k e = get_front t f n k e
