-- How a scanner's steps join, and how a form's longest prefix is a unit.
use Rattle.std.proofs.Common.{◌≡◌, ℕ, suc, zero, ◌+◌, ◌-◌, ◌<◌, ◌≤◌, Bool, true, false, cond, List, [], ◌∷◌, length, take, drop, get_or, Option, Some, None, refl, ap, ◌∙◌, subst, ⊎_elim, arith, length-drop, length-take, get_or-take}
use Rattle.std.proofs.lemmas.List.{drop-drop}
use Rattle.std.proofs.str.Laws.{order}
use Rattle.std.proofs.lemmas.List.Folds.{list_all_at}
use Rattle.std.specs.List.{list_all}
use Rattle.c_lexer.specs.declared.unit.Reading.{Reading}
use Rattle.c_lexer.specs.Units.{when, is_empty}
use Rattle.c_lexer.specs.Prefixes.{IsLongest, IsOnly, NonePasses, NoMorePasses, Passes, Skips}
use Rattle.c_lexer.specs.Cut.{IsUnit}

-- nothing is passed at the start
pub passes_none : {X : Type 0} (f : List ℕ → X) (bytes : List ℕ) → Passes f bytes 0
passes_none f bytes = record { within = omega arith; beyond = λ m. let same : 0 + m ≡ m = omega arith in ap (λ k. f (take k bytes)) same }

pub passes_more : {X : Type 0} (f : List ℕ → X) (bytes : List ℕ) (i n : ℕ) → Passes f bytes i → Passes f (drop i bytes) n → Passes f bytes (i + n)
passes_more f bytes i n one two = record {
  within = omega (arith, one.within, two.within, length-drop i bytes);
  beyond = λ m.
      let split : i + (n + m) ≡ i + n + m = omega arith in
      subst (λ k. f (take k bytes) ≡ f (take m (drop (i + n) bytes))) split
      (one.beyond (n + m) ∙ two.beyond m ∙ ap (λ l. f (take m l)) (drop-drop n i bytes));
}

pub skips_none : (test : List ℕ → Bool) (bytes : List ℕ) → Skips test bytes 0
skips_none test bytes = record { passed = passes_none test bytes; below = λ m less. absurd (omega arith) }

-- a longer prefix is split after what was passed
split_front : {X : Type 0} (f : List ℕ → X) (bytes : List ℕ) (i m : ℕ) (x : X) → Passes f bytes i → i ≤ m → f (take (m - i) (drop i bytes)) ≡ x → f (take m bytes) ≡ x
split_front f bytes i m x passed past h =
    let split : i + (m - i) ≡ m = omega arith in subst (λ k. f (take k bytes) ≡ x) split (passed.beyond (m - i) ∙ h)

pub skips_more : (test : List ℕ → Bool) (bytes : List ℕ) (i n : ℕ) → Skips test bytes i → Skips test (drop i bytes) n → Skips test bytes (i + n)
skips_more test bytes i n one two = record {
  passed = passes_more test bytes i n one.passed two.passed;
  below = λ m less. ⊎_elim (one.below m) (λ past. split_front test bytes i m false one.passed past (two.below (m - i) (omega arith))) (order m i);
}

-- the longest prefix after what was passed is the longest with it
pub longest_past : (test : List ℕ → Bool) (bytes : List ℕ) (i n : ℕ) → Passes test bytes i → IsLongest test (drop i bytes) n → IsLongest test bytes (i + n)
longest_past test bytes i n passed front = record {
  within = omega (arith, passed.within, front.within, length-drop i bytes);
  passes = passed.beyond n ∙ front.passes;
  longest = λ m more least. split_front test bytes i m false passed (omega arith) (front.longest (m - i) (omega arith) (omega (arith, length-drop i bytes)));
}

pub only_past : (test : List ℕ → Bool) (bytes : List ℕ) (i n : ℕ) → Skips test bytes i → IsOnly test (drop i bytes) n → IsOnly test bytes (i + n)
only_past test bytes i n skipped front = record {
  within = omega (arith, skipped.passed.within, front.within, length-drop i bytes);
  passes = skipped.passed.beyond n ∙ front.passes;
  others = λ m other least. ⊎_elim (skipped.below m)
      (λ past. split_front test bytes i m false skipped.passed past
      (front.others (m - i) (λ same. other (omega arith)) (omega (arith, length-drop i bytes)))) (order m i);
}

pub none_past : (test : List ℕ → Bool) (bytes : List ℕ) (i : ℕ) → Skips test bytes i → NonePasses test (drop i bytes) → NonePasses test bytes
none_past test bytes i skipped none = λ m least.
    ⊎_elim (skipped.below m) (λ past. split_front test bytes i m false skipped.passed past (none (m - i) (omega (arith, length-drop i bytes)))) (order m i)

-- where nothing more passes, what was passed is the longest prefix
pub stops_here : (test : List ℕ → Bool) (bytes : List ℕ) → test [] ≡ true → NoMorePasses test bytes → IsLongest test bytes 0
stops_here test bytes empty none = record { within = omega arith; passes = empty; longest = none }

pub none_at_end : (test : List ℕ → Bool) (bytes : List ℕ) → length bytes ≤ 0 → NoMorePasses test bytes
none_at_end test bytes empty = λ m some least. absurd (omega arith)

pub unit_past : (read : List ℕ → Option Reading) (bytes : List ℕ) (i n : ℕ) (r : Reading) → Passes read bytes i → IsUnit read (drop i bytes) n r → IsUnit read bytes (i + n) r
unit_past read bytes i n r passed unit = record {
  within = omega (arith, passed.within, unit.within, length-drop i bytes);
  is = passed.beyond n ∙ unit.is;
  longest = λ m more least. split_front read bytes i m None passed (omega arith) (unit.longest (m - i) (omega arith) (omega (arith, length-drop i bytes)));
}

-- a prefix that goes past a byte that fails fails
pub all_breaks : (test : ℕ → Bool) (bytes : List ℕ) (n m : ℕ) → n < m → n < length bytes → test (get_or bytes n 0) ≡ false → list_all test (take m bytes) ≡ false
all_breaks test bytes n m below within fails =
    list_all_at test (take m bytes) n 0 (omega (arith, length-take m bytes)) (ap test (get_or-take m bytes n 0 below) ∙ fails)

pub longest_run : (test : ℕ → Bool) (bytes : List ℕ) (n : ℕ) → n ≤ length bytes → list_all test (take n bytes) ≡ true → (n < length bytes → test (get_or bytes n 0) ≡ false)
    → IsLongest (list_all test) bytes n
longest_run test bytes n within all stops = record { within = within; passes = all; longest = λ m more least. all_breaks test bytes n m more (omega arith) (stops (omega arith)) }

-- a form that goes on as far as it can
pub when_unit : (test : List ℕ → Bool) (r : List ℕ → Reading) (bytes : List ℕ) (n : ℕ) → IsLongest test bytes n → IsUnit (λ s. when (test s) (r s)) bytes n (r (take n bytes))
when_unit test r bytes n front = record {
  within = front.within;
  is = rw front.passes refl;
  longest = λ m more least. let h = front.longest m more least in rw h refl;
}

pub not_empty : (bs : List ℕ) (n : ℕ) → 0 < n → n ≤ length bs → is_empty (take n bs) ≡ false
not_empty bs zero some within = absurd (omega arith)
not_empty [] (suc n) some within = absurd (omega arith)
not_empty (b ∷ bs) (suc n) some within = refl

-- a form after a first byte, which is a fault alone
abbrev pub read_formed : (List ℕ → Bool) → (List ℕ → Reading) → Reading → List ℕ → Option Reading
read_formed test r fault s = cond (test s) (Some (r s)) (when (is_empty s) fault)

pub formed_unit : (test : List ℕ → Bool) (r : List ℕ → Reading) (fault : Reading) (bytes : List ℕ) (n : ℕ) → IsLongest test bytes n → IsUnit (read_formed test r fault) bytes n (r (take n bytes))
formed_unit test r fault bytes n front = record {
  within = front.within;
  is = rw front.passes refl;
  longest = λ m more least. let h = front.longest m more least in let e = not_empty bytes m (omega arith) least in rw (h, e) refl;
}

pub broken_unit : (test : List ℕ → Bool) (r : List ℕ → Reading) (fault : Reading) (bytes : List ℕ) → NonePasses test bytes → IsUnit (read_formed test r fault) bytes 0 fault
broken_unit test r fault bytes none = record {
  within = omega arith;
  is = let h : test [] ≡ false = none 0 (omega arith) in rw h refl;
  longest = λ m more least. let h = none m least in let e = not_empty bytes m more least in rw (h, e) refl;
}

-- a unit after a byte, and after two
pub unit_behind : (f g : List ℕ → Option Reading) (b : ℕ) (bs : List ℕ) (n : ℕ) (r : Reading) → ((m : ℕ) → f (b ∷ take m bs) ≡ g (take m bs)) → IsUnit g bs n r → IsUnit f (b ∷ bs) (suc n) r
unit_behind f g b bs n r same unit = record { within = omega (arith, unit.within); is = same n ∙ unit.is; longest = longer }
  where
    longer : (m : ℕ) → suc n < m → m ≤ length (b ∷ bs) → f (take m (b ∷ bs)) ≡ None
    longer zero more least = absurd (omega arith)
    longer (suc m) more least = same m ∙ unit.longest m (omega arith) (omega arith)

pub unit_behind_two : (f g : List ℕ → Option Reading) (a b : ℕ) (bs : List ℕ) (n : ℕ) (r : Reading) → ((m : ℕ) → f (a ∷ b ∷ take m bs) ≡ g (take m bs)) → IsUnit g bs n r
    → IsUnit f (a ∷ b ∷ bs) (suc (suc n)) r
unit_behind_two f g a b bs n r same unit = record { within = omega (arith, unit.within); is = same n ∙ unit.is; longest = longer }
  where
    longer : (m : ℕ) → suc (suc n) < m → m ≤ length (a ∷ b ∷ bs) → f (take m (a ∷ b ∷ bs)) ≡ None
    longer zero more least = absurd (omega arith)
    longer (suc zero) more least = absurd (omega arith)
    longer (suc (suc m)) more least = same m ∙ unit.longest m (omega arith) (omega arith)

-- nothing goes on with a byte that is a unit alone
pub alone_unit : (r : Reading) (bs : List ℕ) → IsUnit (λ s. when (is_empty s) r) bs 0 r
alone_unit r bs = record { within = omega arith; is = refl; longest = λ m more least. let e = not_empty bs m more least in rw e refl }

-- a test of a whole spelling as a test of what follows its first byte
pub tail_longest : (test : List ℕ → Bool) (b : ℕ) (bs : List ℕ) (n : ℕ) → IsLongest test (b ∷ bs) (suc n) → IsLongest (λ cs. test (b ∷ cs)) bs n
tail_longest test b bs n front = record { within = omega (arith, front.within); passes = front.passes; longest = λ m more least. front.longest (suc m) (omega arith) (omega arith) }

pub tail_none : (test : List ℕ → Bool) (b : ℕ) (bs : List ℕ) → NonePasses test (b ∷ bs) → NonePasses (λ cs. test (b ∷ cs)) bs
tail_none test b bs none = λ m least. none (suc m) (omega arith)
