-- Parts of skeletons, and the code that goes along them.
use Rattle.std.proofs.Common.{◌≡◌, ◌≢◌, ℕ, suc, ◌+◌, List, [], ◌∷◌, ◌++◌, length, refl, subst, arith, append-nil}
use Rattle.run_types.specs.CheckIns.{CheckInKind}
use Rattle.c_semantics.specs.Stops.{Stop}
use Rattle.run_types.specs.Skeleton as point_kind
use Rattle.c_semantics.specs.Stops as stop
use Rattle.c_semantics.specs.Skeletons.{Part, pass, point, last_point, ◌then_part◌}
use Rattle.c_semantics.specs.Skeletons as skeleton
use Rattle.bytecode.specs.Instructions.{Instruction, IsNotZero, Jump, JumpIfZero, JumpUnlessZero, Halt, CheckIn}
use Rattle.tree_code.specs.Code.{Code, int_code, either}
use Rattle.tree_code.proofs.CodePlaces.{Span, halves, next, nothing_between}
use Rattle.code_points.specs.CodePoints.{CodePoint}
use Rattle.code_points.proofs.Exact.{Along, Does, From, Private, Rests, Rows, arrived, at_point, check_row, done, forked, jumped, never, other_way, private, return_row, rows_behind, stop_row, straight}

-- ---- instructions

pub rests_at_stop : (s : Stop) (n : ℕ) → Rests (Halt s n) n
rests_at_stop s n = record {
  point = record { number = n; kind = stop.kind_of s };
  is_point = refl;
  numbered = refl;
  near = refl;
  stays = never;
}

module _ (code : Code) where
  -- ---- parts one after another

  -- nothing, and an instruction before some code
  pub nothing : Does code [] pass
  nothing p end to s h = record { first = subst (λ x. From code x to) (nothing_between code p end s) h; rows = done p }

  pub one_then : {is : Code} {f : Part} (i : Instruction) → Private i → Does code is f → Does code (i ∷ is) f
  one_then {is} {f} i k d p end to s h =
      let x = next code p i is end s in
      let a = d (suc p) end to x.later h in
      record { first = straight code i k x.stands a.first; rows = private p i is (f to).next k.none a.rows }

  -- the one and then the other
  pub and_then : {a b : Code} {f g : Part} → Does code a f → Does code b g → Does code (a ++ b) (f then_part g)
  and_then {a} {b} {f} {g} da db p end to s h =
      let x = halves code p a b end s in
      let v = db x.middle end to x.second h in
      let u = da p x.middle (g to).first x.first v.first in
      record { first = u.first; rows = rows_behind code x.first.ends u.rows v.rows }

  -- and code without points behind some
  pub then_pass : {a b : Code} {f : Part} → Does code a f → Does code b pass → Does code (a ++ b) f
  then_pass {a} {b} {f} da db p end to s h =
      let x = halves code p a b end s in
      let v = db x.middle end to x.second h in
      let u = da p x.middle to x.first v.first in
      record {
        first = u.first;
        rows = subst (λ r. Rows code p (a ++ b) r) (append-nil (f to).next) (rows_behind code x.first.ends u.rows v.rows);
      }

  pub recoded : {a b : Code} {f : Part} → a ≡ b → Does code a f → Does code b f
  recoded {a} {b} {f} e d = subst (λ x. Does code x f) e d

  -- ---- points

  pub stop_point : (s : Stop) (n : ℕ) → s ≢ stop.Return → Does code (Halt s n ∷ []) (point n)
  stop_point s n differs p end to sp h =
      let x = next code p (Halt s n) [] end sp in
      let after = subst (λ y. From code y to) (nothing_between code (suc p) end x.later) h in
      record {
        first = arrived code (Halt s n) (rests_at_stop s n) x.stands;
        rows = at_point p (Halt s n) (record { number = n; kind = stop.kind_of s }) [] to [] refl (stop_row code s n differs after) (done (suc p));
      }

  pub check_point : (k : CheckInKind) (n : ℕ) → Does code (CheckIn k n ∷ []) (point n)
  check_point k n p end to sp h =
      let x = next code p (CheckIn k n) [] end sp in
      let after = subst (λ y. From code y to) (nothing_between code (suc p) end x.later) h in
      record {
        first = arrived code (CheckIn k n) rests x.stands;
        rows = at_point p (CheckIn k n) check [] to [] refl (check_row code k n after) (done (suc p));
      }
    where
      check : CodePoint
      check = record { number = n; kind = point_kind.CheckIn k }

      rests : Rests (CheckIn k n) n
      rests = record { point = check; is_point = refl; numbered = refl; near = refl; stays = never }

  -- a return, wherever its code ends
  pub return_along : (n p end : ℕ) (to : List ℕ) → Span code p (Halt stop.Return n ∷ []) end
      → Along code p (Halt stop.Return n ∷ []) (last_point n to)
  return_along n p end to sp =
      let x = next code p (Halt stop.Return n) [] end sp in
      record {
        first = arrived code (Halt stop.Return n) (rests_at_stop stop.Return n) x.stands;
        rows = at_point p (Halt stop.Return n) (record { number = n; kind = stop.kind_of stop.Return }) [] [] [] refl (return_row code) (done (suc p));
      }

  pub return_point : (n : ℕ) → Does code (Halt stop.Return n ∷ []) (last_point n)
  return_point n p end to sp h = return_along n p end to sp

  -- ---- forks

  -- the tail of `&&` and `||`
  pub record Tail (m end i : ℕ) (to : List ℕ) : Type 0 where
    pub given : From code (suc (suc m)) to
    pub tested : From code m to
    pub rows : Rows code m (IsNotZero ∷ Jump 1 ∷ int_code i ∷ []) []

  private_int : (i : ℕ) → Private (int_code i)
  private_int i = record { none = refl; near = refl; on = refl }

  private_truth : Private IsNotZero
  private_truth = record { none = refl; near = refl; on = refl }

  after_jump : (m : ℕ) → suc (suc (suc m)) ≡ suc (suc m) + 1
  after_jump m = omega arith

  pub tail_of : (m end i : ℕ) (to : List ℕ) → Span code m (IsNotZero ∷ Jump 1 ∷ int_code i ∷ []) end → From code end to → Tail m end i to
  tail_of m end i to s h =
      let x = next code m IsNotZero (Jump 1 ∷ int_code i ∷ []) end s in
      let y = next code (suc m) (Jump 1) (int_code i ∷ []) end x.later in
      let z = next code (suc (suc m)) (int_code i) [] end y.later in
      let last = subst (λ q. From code q to) (nothing_between code (suc (suc (suc m))) end z.later) h in
      record {
        given = straight code (int_code i) (private_int i) z.stands last;
        tested = straight code IsNotZero private_truth x.stands (jumped code y.stands (subst (λ q. From code q to) (after_jump m) last));
        rows =
            private m IsNotZero (Jump 1 ∷ int_code i ∷ []) [] refl
            (private (suc m) (Jump 1) (int_code i ∷ []) [] refl (private (suc (suc m)) (int_code i) [] [] refl (done (suc (suc (suc m))))));
      }

  over : (p n m : ℕ) → m ≡ suc p + n → suc (suc m) ≡ suc p + (n + 2)
  over p n m e = omega (arith, e)

  -- the second side of `&&`, and of `||`
  pub and_side : {b : Code} {f : Part} → Does code b f
      → Does code (JumpIfZero (length b + 2) ∷ (b ++ IsNotZero ∷ Jump 1 ∷ int_code 0 ∷ [])) (skeleton.either f pass)
  and_side {b} {f} d p end to s h =
      let tail = IsNotZero ∷ Jump 1 ∷ int_code 0 ∷ [] in
      let jump = JumpIfZero (length b + 2) in
      let x = next code p jump (b ++ tail) end s in
      let y = halves code (suc p) b tail end x.later in
      let t = tail_of y.middle end 0 to y.second h in
      let u = d (suc p) y.middle to y.first t.tested in
      let target = subst (λ q. From code q to) (over p (length b) y.middle y.first.ends) t.given in
      record {
        first = forked code jump (record { none = refl; far = refl; on = refl }) x.stands u.first target;
        rows = private p jump (b ++ tail) ((f to).next ++ []) refl (rows_behind code y.first.ends u.rows t.rows);
      }

  pub or_side : {b : Code} {f : Part} → Does code b f
      → Does code (JumpUnlessZero (length b + 2) ∷ (b ++ IsNotZero ∷ Jump 1 ∷ int_code 1 ∷ [])) (skeleton.either pass f)
  or_side {b} {f} d p end to s h =
      let tail = IsNotZero ∷ Jump 1 ∷ int_code 1 ∷ [] in
      let jump = JumpUnlessZero (length b + 2) in
      let x = next code p jump (b ++ tail) end s in
      let y = halves code (suc p) b tail end x.later in
      let t = tail_of y.middle end 1 to y.second h in
      let u = d (suc p) y.middle to y.first t.tested in
      let target = subst (λ q. From code q to) (over p (length b) y.middle y.first.ends) t.given in
      record {
        first = other_way code (f to).first to (forked code jump (record { none = refl; far = refl; on = refl }) x.stands u.first target);
        rows = private p jump (b ++ tail) (f to).next refl
            (subst (λ r. Rows code (suc p) (b ++ tail) r) (append-nil (f to).next) (rows_behind code y.first.ends u.rows t.rows));
      }

  -- one or the other
  pub one_of : {a b : Code} {f g : Part} → Does code a f → Does code b g → Does code (either JumpIfZero a b) (skeleton.either f g)
  one_of {a} {b} {f} {g} da db p end to s h =
      let jump = JumpIfZero (suc (length a)) in
      let leave = Jump (length b) in
      let x = next code p jump (a ++ leave ∷ b) end s in
      let y = halves code (suc p) a (leave ∷ b) end x.later in
      let z = next code y.middle leave b end y.second in
      let v = db (suc y.middle) end to z.later h in
      let u = da (suc p) y.middle to y.first (jumped code z.stands (subst (λ q. From code q to) z.later.ends h)) in
      let target = subst (λ q. From code q (g to).first) (other p (length a) y.middle y.first.ends) v.first in
      record {
        first = forked code jump (record { none = refl; far = refl; on = refl }) x.stands u.first target;
        rows = private p jump (a ++ leave ∷ b) ((f to).next ++ (g to).next) refl
            (rows_behind code y.first.ends u.rows (private y.middle leave b (g to).next refl v.rows));
      }
    where
      other : (q n m : ℕ) → m ≡ suc q + n → suc m ≡ suc q + suc n
      other q n m e = omega (arith, e)
