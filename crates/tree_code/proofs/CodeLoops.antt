-- Loops in code: where their parts are.
use Rattle.std.proofs.Common.{◌≡◌, ℕ, suc, ◌+◌, [], ◌∷◌, ◌++◌, length, slice_get, Option, Some, None, refl, sym, subst, ◌∙◌, arith, length-append}
use Rattle.c_semantics.specs.Texts.{Definitions}
use Rattle.c_semantics.specs.Resolved.{Expression, Statement}
use Rattle.c_semantics.specs.Points.{size, size_stmt}
use Rattle.c_semantics.specs.Pieces.{Loop, back_at}
use Rattle.typed_trees.specs.ValueTypes.{Environment, in_scope}
use Rattle.bytecode.specs.Instructions.{Back}
use Rattle.tree_code.specs.Code.{Code, condition_code, guarded, looping, negated, turning, unless_jump}
use Rattle.tree_code.specs.CodedPieces.{HasAt, do_test, do_turn, edge_place, end_place, guard_length, loop_code, step_code, turn_code}
use Rattle.tree_code.proofs.CodePlaces.{Span, halves, next, whole}

-- a condition with its jump, before the code that it guards; the jump leads to `nt`
pub record Guard (code : Code) (look : Definitions) (env : Environment) (e : Expression) (n : ℕ) (inside : Code) (further p end : ℕ) : Type 0 where
  pub middle : ℕ
  pub condition : Span code p (condition_code look env e (negated e) n) middle
  pub jump : slice_get code middle ≡ Some (unless_jump (negated e) (length inside + further))
  pub far : suc middle + (length inside + further) ≡ end + further
  pub inner : Span code (suc middle) inside end
  pub starts : suc middle ≡ p + suc (length (condition_code look env e (negated e) n))

pub guard_of : (code : Code) (look : Definitions) (env : Environment) (e : Expression) (n : ℕ) (inside : Code) (further p end : ℕ)
    → Span code p (guarded look env e n inside further) end → Guard code look env e n inside further p end
guard_of code look env e n inside further p end s =
    let test = condition_code look env e (negated e) n in
    let jump = unless_jump (negated e) (length inside + further) in
    let h = halves code p test (jump ∷ inside) end s in
    let x = next code h.middle jump inside end h.second in
    record {
      middle = h.middle;
      condition = h.first;
      jump = x.stands;
      far = over h.middle (length inside) x.later.ends;
      inner = x.later;
      starts = on h.middle (length test) h.first.ends;
    }
  where
    over : (m l : ℕ) → end ≡ suc m + l → suc m + (l + further) ≡ end + further
    over m l e = omega (arith, e)

    on : (m l : ℕ) → m ≡ p + l → suc m ≡ p + suc l
    on m l e = omega (arith, e)

-- some code with a back edge to its beginning
pub record Round (code : Code) (env : Environment) (start : ℕ) (inside : Code) (b end : ℕ) : Type 0 where
  pub inner : Span code start inside end
  pub back : slice_get code end ≡ Some (Back (length inside) b (length (in_scope env)))

pub round_of : (code : Code) (env : Environment) (start : ℕ) (inside : Code) (b : ℕ) → HasAt code start (looping env inside b)
    → Round code env start inside b (start + length inside)
round_of code env start inside b has =
    let back = Back (length inside) b (length (in_scope env)) ∷ [] in
    let all = start + length (inside ++ back) in
    let h = halves code start inside back all (whole code start (inside ++ back) has) in
    record {
      inner = subst (Span code start inside) h.first.ends h.first;
      back = subst (λ x. slice_get code x ≡ Some (Back (length inside) b (length (in_scope env)))) h.first.ends h.second.has.0;
    }

-- the parts of a loop with its test
pub record Parts (code : Code) (look : Definitions) (env : Environment) (test : Option Expression) (n : ℕ) (body stepped : Code) (b start : ℕ) : Type 0 where
  pub body_is : Span code (start + guard_length look env test n) body (start + guard_length look env test n + length body)
  pub step_is :
      Span code (start + guard_length look env test n + length body) stepped (start + guard_length look env test n + length body + length stepped)
  pub distance : ℕ
  pub back : slice_get code (start + guard_length look env test n + length body + length stepped) ≡ Some (Back distance b (length (in_scope env)))
  pub round : start + distance ≡ start + guard_length look env test n + length body + length stepped

pub parts_of : (code : Code) (look : Definitions) (env : Environment) (test : Option Expression) (n : ℕ) (body stepped : Code) (b start : ℕ)
    → HasAt code start (turning look env test n body stepped b) → Parts code look env test n body stepped b start
parts_of code look env None n body stepped b start has =
    let r = round_of code env start (body ++ stepped) b has in
    let h = halves code start body stepped (start + length (body ++ stepped)) r.inner in
    let at = at_first (length body) h.first.ends in
    let stop = at_last (length body) (length stepped) h.middle h.first.ends h.second.ends in
    record {
      body_is = record { has = subst (λ x. HasAt code x body) (sym (none start)) h.first.has; ends = refl };
      step_is = record { has = subst (λ x. HasAt code x stepped) at h.second.has; ends = refl };
      distance = length (body ++ stepped);
      back = subst (λ x. slice_get code x ≡ Some (Back (length (body ++ stepped)) b (length (in_scope env)))) stop r.back;
      round = stop;
    }
  where
    none : (a : ℕ) → a + 0 ≡ a
    none a = omega arith

    at_first : (l : ℕ) {m : ℕ} → m ≡ start + l → m ≡ start + 0 + l
    at_first l e = omega (arith, e)

    at_last : (l k m : ℕ) {z : ℕ} → m ≡ start + l → z ≡ m + k → z ≡ start + 0 + l + k
    at_last l k m e f = omega (arith, e, f)
parts_of code look env (Some e) n body stepped b start has =
    let inside = guarded look env e n (body ++ stepped) 1 in
    let g = length (condition_code look env e (negated e) n) in
    let r = round_of code env start inside b has in
    let x = guard_of code look env e n (body ++ stepped) 1 start (start + length inside) r.inner in
    let h = halves code (suc x.middle) body stepped (start + length inside) x.inner in
    let at = at_first g (length body) (suc x.middle) x.starts h.first.ends in
    let stop = at_last g (length body) (length stepped) (suc x.middle) h.middle x.starts h.first.ends h.second.ends in
    record {
      body_is = record { has = subst (λ z. HasAt code z body) x.starts h.first.has; ends = refl };
      step_is = record { has = subst (λ z. HasAt code z stepped) at h.second.has; ends = refl };
      distance = length inside;
      back = subst (λ z. slice_get code z ≡ Some (Back (length inside) b (length (in_scope env)))) stop r.back;
      round = stop;
    }
  where
    at_first : (g l i : ℕ) {m : ℕ} → i ≡ start + suc g → m ≡ i + l → m ≡ start + suc g + l
    at_first g l i e f = omega (arith, e, f)

    at_last : (g l k i m : ℕ) {z : ℕ} → i ≡ start + suc g → m ≡ i + l → z ≡ m + k → z ≡ start + suc g + l + k
    at_last g l k i m e f h = omega (arith, e, f, h)

-- the test of a loop; its jump leads behind the back edge
pub record Guarded (code : Code) (look : Definitions) (env : Environment) (e : Expression) (n : ℕ) (body stepped : Code) (start : ℕ) : Type 0 where
  pub middle : ℕ
  pub distance : ℕ
  pub condition : Span code start (condition_code look env e (negated e) n) middle
  pub jump : slice_get code middle ≡ Some (unless_jump (negated e) distance)
  pub far : suc middle + distance ≡ suc (start + guard_length look env (Some e) n + length body + length stepped)
  pub starts : suc middle ≡ start + guard_length look env (Some e) n

pub guarded_of : (code : Code) (look : Definitions) (env : Environment) (e : Expression) (n : ℕ) (body stepped : Code) (b start : ℕ)
    → HasAt code start (turning look env (Some e) n body stepped b) → Guarded code look env e n body stepped start
guarded_of code look env e n body stepped b start has =
    let inside = guarded look env e n (body ++ stepped) 1 in
    let r = round_of code env start inside b has in
    let x = guard_of code look env e n (body ++ stepped) 1 start (start + length inside) r.inner in
    record {
      middle = x.middle;
      distance = length (body ++ stepped) + 1;
      condition = x.condition;
      jump = x.jump;
      far = over (suc x.middle) (length body) (length stepped) (length-append body stepped) x.starts;
      starts = x.starts;
    }
  where
    over : (i l k : ℕ) {z : ℕ} → z ≡ l + k → i ≡ start + guard_length look env (Some e) n
        → i + (z + 1) ≡ suc (start + guard_length look env (Some e) n + l + k)
    over i l k e f = omega (arith, e, f)

-- the parts of `do`
pub record DoParts (code : Code) (look : Definitions) (env : Environment) (s : Statement) (e : Expression) (n start : ℕ) : Type 0 where
  pub body_is : Span code start (do_turn look env s e n) (start + length (do_turn look env s e n))
  pub middle : ℕ
  pub condition : Span code (start + length (do_turn look env s e n)) (condition_code look env e (negated e) (n + size_stmt s)) middle
  pub jump : slice_get code middle ≡ Some (unless_jump (negated e) 1)
  pub edge : suc middle ≡ start + length (do_turn look env s e n) + length (do_test look env s e n)
  pub distance : ℕ
  pub back : slice_get code (start + length (do_turn look env s e n) + length (do_test look env s e n)) ≡ Some (Back distance (n + size_stmt s + size e) (length (in_scope env)))
  pub round : start + distance ≡ start + length (do_turn look env s e n) + length (do_test look env s e n)

pub do_parts_of : (code : Code) (look : Definitions) (env : Environment) (s : Statement) (e : Expression) (n start : ℕ)
    → HasAt code start (looping env (do_turn look env s e n ++ do_test look env s e n) (n + size_stmt s + size e)) → DoParts code look env s e n start
do_parts_of code look env s e n start has =
    let turn = do_turn look env s e n in
    let test = do_test look env s e n in
    let r = round_of code env start (turn ++ test) (n + size_stmt s + size e) has in
    let all = start + length (turn ++ test) in
    let h = halves code start turn test all r.inner in
    let condition = condition_code look env e (negated e) (n + size_stmt s) in
    let i = halves code (start + length turn) condition (unless_jump (negated e) 1 ∷ []) all (subst (λ x. Span code x test all) h.first.ends h.second) in
    let at = apart (length turn) (length test) (length-append turn test) in
    record {
      body_is = subst (Span code start turn) h.first.ends h.first;
      middle = i.middle;
      condition = i.first;
      jump = i.second.has.0;
      edge = after i.middle i.second.ends ∙ at;
      distance = length (turn ++ test);
      back = subst (λ x. slice_get code x ≡ Some (Back (length (turn ++ test)) (n + size_stmt s + size e) (length (in_scope env)))) at r.back;
      round = at;
    }
  where
    apart : (l k : ℕ) {z : ℕ} → z ≡ l + k → start + z ≡ start + l + k
    apart l k e = omega (arith, e)

    after : (m : ℕ) {z : ℕ} → z ≡ m + 1 → suc m ≡ z
    after m e = omega (arith, e)

-- the end of a loop, and of a `do` loop
pub loop_ends : (code : Code) (look : Definitions) (env : Environment) (l : Loop) (p end : ℕ) → Span code p (loop_code look env l) end
    → end ≡ end_place look env l p
loop_ends code look env l p end s =
    s.ends ∙ of_test l.test
  where
    inner : (is : Code) (b : ℕ) → length (looping env is b) ≡ suc (length is)
    inner is b = length-append is (Back (length is) b (length (in_scope env)) ∷ []) ∙ one_on (length is)
      where
        one_on : (a : ℕ) → a + 1 ≡ suc a
        one_on a = omega arith

    of_test : (test : Option Expression)
        → p + length (turning look env test l.first (turn_code look env l) (step_code look env l) (back_at l))
        ≡ suc (p + guard_length look env test l.first + length (turn_code look env l) + length (step_code look env l))
    of_test None =
        plain (length (turn_code look env l)) (length (step_code look env l)) (length-append (turn_code look env l) (step_code look env l))
        (inner (turn_code look env l ++ step_code look env l) (back_at l))
      where
        plain : (a b : ℕ) {y z : ℕ} → y ≡ a + b → z ≡ suc y → p + z ≡ suc (p + 0 + a + b)
        plain a b e f = omega (arith, e, f)
    of_test (Some e) =
        let inside = turn_code look env l ++ step_code look env l in
        let test = condition_code look env e (negated e) l.first in
        behind (length test) (length (turn_code look env l)) (length (step_code look env l)) (length-append (turn_code look env l) (step_code look env l))
        (length-append test (unless_jump (negated e) (length inside + 1) ∷ inside)) (inner (guarded look env e l.first inside 1) (back_at l))
      where
        behind : (g a b : ℕ) {x y z : ℕ} → x ≡ a + b → y ≡ g + suc x → z ≡ suc y → p + z ≡ suc (p + suc g + a + b)
        behind g a b d e f = omega (arith, d, e, f)

pub do_ends : (code : Code) (look : Definitions) (env : Environment) (s : Statement) (e : Expression) (n p end : ℕ)
    → Span code p (looping env (do_turn look env s e n ++ do_test look env s e n) (n + size_stmt s + size e)) end → end ≡ suc (edge_place look env s e n p)
do_ends code look env s e n p end x =
    let inside = do_turn look env s e n ++ do_test look env s e n in
    x.ends
    ∙ whole_is (length (do_turn look env s e n)) (length (do_test look env s e n)) (length-append (do_turn look env s e n) (do_test look env s e n))
    (length-append inside (Back (length inside) (n + size_stmt s + size e) (length (in_scope env)) ∷ []))
  where
    whole_is : (l k : ℕ) {y z : ℕ} → y ≡ l + k → z ≡ y + 1 → p + z ≡ suc (p + l + k)
    whole_is l k e f = omega (arith, e, f)
