-- Verified code is sound.
use Rattle.std.proofs.Common.{◌≡◌, ℕ, zero, suc, ◌+◌, ◌≤◌, ◌<◌, List, [], ◌∷◌, map, length, slice_get, Contains, Option, Some, None, option_map, IfSome, refl, sym, ap, ◌∙◌, subst, arith}
use Rattle.bytecode.specs.Instructions.{Instruction, Constant, Load, Store, Copy, CopyUnder, Swap, Drop, Convert, Unary, Binary, IsZero, IsNotZero, Same, Different, Jump, JumpIfZero, JumpUnlessZero, Halt, Back, CheckIn}
use Rattle.code_kinds.specs.Shapes.{Shape, after, leads_to}
use Rattle.code_kinds.specs.WellFormed.{FunctionCode, Shapes, WellFormed}
use Rattle.code_verify.specs.Verified.{IsVerified}
use Rattle.thread_state.specs.Frames.{most_words}
use Rattle.thread_state.specs.Heights.{EachHasHeight, HasHeight, IsSoundAt, Sound, height_after, successors}
use Rattle.sound_code.proofs.Counts.{Counts, IsPrivate, counts}
use Rattle.sound_code.proofs.Places.{Stands, brought, few, fine, shallow, stands}

-- ---- the places to which control goes

contains_first : (q : ℕ) (qs : List ℕ) → Contains (q ∷ qs) q
contains_first q qs = (0, omega arith, refl)

contains_second : (q r : ℕ) (qs : List ℕ) → Contains (q ∷ r ∷ qs) r
contains_second q r qs = (1, omega arith, refl)

-- each place to which a private instruction leads has a height
one_has : (heights : List (Option ℕ)) (h k q : ℕ) → k ≡ h → ((r : ℕ) → Contains (q ∷ []) r → HasHeight heights r k) → EachHasHeight heights h (q ∷ [])
one_has heights h k q same has = (subst (λ n. HasHeight heights q n) same (has q (contains_first q [])), tt)

two_have : (heights : List (Option ℕ)) (h k q r : ℕ) → k ≡ h → ((x : ℕ) → Contains (q ∷ r ∷ []) x → HasHeight heights x k)
    → EachHasHeight heights h (q ∷ r ∷ [])
two_have heights h k q r same has = (
  subst (λ n. HasHeight heights q n) same (has q (contains_first q (r ∷ []))),
  (subst (λ n. HasHeight heights r n) same (has r (contains_second q r [])), tt),
)

pub goes_on : (heights : List (Option ℕ)) (i : Instruction) (p h k : ℕ) → (IsPrivate i → k ≡ h)
    → ((q : ℕ) → Contains (leads_to p i) q → HasHeight heights q k) → EachHasHeight heights h (successors i p)
goes_on heights (Halt stop n) p h k same has = tt
goes_on heights (Back d n v) p h k same has = tt
goes_on heights (CheckIn kind n) p h k same has = tt
goes_on heights (Jump d) p h k same has = one_has heights h k (suc p + d) (same tt) has
goes_on heights (JumpIfZero d) p h k same has = two_have heights h k (suc p) (suc p + d) (same tt) has
goes_on heights (JumpUnlessZero d) p h k same has = two_have heights h k (suc p) (suc p + d) (same tt) has
goes_on heights _ p h k same has = one_has heights h k (suc p) (same tt) has

-- ---- soundness

sound_at : (u : FunctionCode) (heights : List (Option ℕ)) (v : IsVerified u heights) (p h : ℕ) (i : Instruction) → HasHeight heights p h
    → slice_get u.code p ≡ Some i → IsSoundAt heights u.room i p h
sound_at u heights v p h i has is =
    let x = stands u heights v p h has in
    let f = fine u heights v p h x i is in
    let c = counts u.look u.result u.room i x.shape f.left (few u v.well_formed p x.shape x.inside x.has) f.leaves in
    subst (λ n. IsSoundAt heights u.room i p n) x.many
    record {
      takes = c.takes;
      uses = c.uses;
      goes = goes_on heights i p (height_after i (length x.shape.stack)) (length f.left.stack) c.leaves (λ q to. brought u heights v f.left q (f.goes q to));
    }

pub verified_is_sound : (u : FunctionCode) (heights : List (Option ℕ)) → IsVerified u heights → Sound u.code u.room heights
verified_is_sound u heights v = record {
  whole = v.many;
  low = λ p h has.
      let x = stands u heights v p h has in
      subst (λ n. n ≤ most_words) x.many (shallow u v.well_formed p x.shape x.inside x.has);
  each = λ p h i has is. sound_at u heights v p h i has is;
}
