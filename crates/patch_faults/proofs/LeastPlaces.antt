-- The first fault by place is one of all, and none is before it; there is one where there are any.
use Rattle.std.proofs.Common.{◌≡◌, ℕ, ◌≤◌, Bool, true, false, List, [], ◌∷◌, refl, arith}
use Rattle.std.specs.Prelude.{nat_lt, None, IfSome, if◌then◌else◌}
use Rattle.std.proofs.lemmas.List.Elements.{All-nil, All-cons, All-weaker, Contains-push, Contains-append_left, Contains-append_right}
use Rattle.patch_faults.specs.declared.fault.TransformFault.{TransformFault}
use Rattle.patch_faults.specs.TransformFaults.{place_of, earlier, first, transform_faults}
use Rattle.patch_faults.specs.TransformLaws.{IsFirstOf, FirstIsLeast, NoneWhereNone}

not_after : (m n : ℕ) → nat_lt m n ≡ true → m ≤ n
not_after m n e = grind arith

not_before : (m n : ℕ) → nat_lt m n ≡ false → n ≤ m
not_before m n e = grind arith

in_turn : (l m n : ℕ) → l ≤ m → m ≤ n → l ≤ n
in_turn l m n a b = omega arith

-- what is before the first of a list is the first of both
by_test : (a told : TransformFault) (more : List TransformFault) → IsFirstOf more told
    → (t : Bool) → nat_lt (place_of told) (place_of a) ≡ t → IsFirstOf (a ∷ more) (if t then told else a)
by_test a told more is true e = record {
  among = Contains-append_right (a ∷ []) more told is.among;
  least = All-cons (λ f. place_of told ≤ place_of f) a more (not_after (place_of told) (place_of a) e) is.least;
}
by_test a told more is false e =
    let before : place_of a ≤ place_of told = not_before (place_of told) (place_of a) e in
    record {
      among = Contains-append_left (a ∷ []) more a (Contains-push [] a);
      least =
          All-cons (λ f. place_of a ≤ place_of f) a more (omega arith)
          (All-weaker (λ f. place_of told ≤ place_of f) (λ f. place_of a ≤ place_of f)
          (λ f after. in_turn (place_of a) (place_of told) (place_of f) before after) more is.least);
    }

pub first_is_least : (faults : List TransformFault) → IfSome (first faults) (IsFirstOf faults)
first_is_least [] = tt
first_is_least (a ∷ []) = record {
  among = Contains-push [] a;
  least = All-cons (λ f. place_of a ≤ place_of f) a [] (omega arith) (All-nil (λ f. place_of a ≤ place_of f));
}
first_is_least (a ∷ b ∷ more) =
    let told : TransformFault = earlier b (first more) in
    by_test a told (b ∷ more) (first_is_least (b ∷ more)) (nat_lt (place_of told) (place_of a)) refl

pub first_fault_is_least : FirstIsLeast
first_fault_is_least p q = first_is_least (transform_faults p q)

none_if_none : (faults : List TransformFault) → first faults ≡ None → faults ≡ []
none_if_none [] e = refl
none_if_none (a ∷ more) e = cc

pub none_where_none : NoneWhereNone
none_where_none p q = none_if_none (transform_faults p q)
