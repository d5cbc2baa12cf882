-- The code of loops in front of a tail, from that of their parts.
use Rattle.std.proofs.Common.{◌≡◌, ℕ, ◌+◌, ◌-◌, suc, List, [], ◌∷◌, ◌++◌, length, Option, Some, None, sym, ap, ap₂, ◌∙◌, arith, append_assoc}
use Rattle.c_semantics.specs.Points.{size, size_if, size_stmt}
use Rattle.c_semantics.specs.Resolved.{Expression, Statement}
use Rattle.c_semantics.specs.Texts.{Definitions}
use Rattle.resolved_tree.specs.Nodes.{Table}
use Rattle.typed_trees.specs.ValueTypes.{Environment, in_scope}
use Rattle.bytecode.specs.declared.instr.Instr.{Instr}
use Rattle.bytecode.specs.Instructions.{Back}
use Rattle.tree_code.specs.Code.{Code, condition_code, effect_if, guarded_if, looping, negated, statement, unless_jump}
use Rattle.bytecode_gen.specs.declared.part.Jumps.{Jumps}
use Rattle.bytecode_gen.specs.Loops.{guard_code, turns_code, do_code}
use Rattle.bytecode_gen.specs.Tails.{Precedes, LeadsBack, statement_code, tail_of}
use Rattle.bytecode_gen.proofs.Preceding.{precedes_as, precedes_more, precedes_length, tail_length}
use Rattle.bytecode_gen.proofs.StatementCode.{guards}

-- a loop, once its back edge has been set
loops : {t : Table} {x y z w : List Instr} (env : Environment) (inside : Code) (point end after kept : ℕ) → point ≡ end
    → kept ≡ length (in_scope env) → after ≡ length x → Precedes t x y (Back 0 point kept ∷ []) → Precedes t y z inside
    → LeadsBack t z w after point kept → Precedes t x w (looping env inside end)
loops {t} {x} env inside point end after kept same all behind back body leads =
    record {
      code = leads.code inside (tail_of t x) (Back 0 point kept) (body.code ∙ ap (λ c. inside ++ c) back.code) (tail_length t x ∙ sym behind)
          ∙ sym (append_assoc inside (Back (length inside) point kept ∷ []) (tail_of t x))
          ∙ ap₂ (λ p v. (inside ++ Back (length inside) p v ∷ []) ++ tail_of t x) same all;
    }

guards_if : {t : Table} {x y z : List Instr} (look : Definitions) (env : Environment) (test : Option Expression) (n : ℕ) (inside : Code) (over : ℕ)
    → over ≡ length inside + 1 → Precedes t x y inside → Precedes t y z (guard_code look env test n over)
    → Precedes t x z (guarded_if look env test n inside 1)
guards_if look env None n inside over far body tested = precedes_more body tested
guards_if look env (Some c) n inside over far body tested = guards look env c n inside 1 over far body tested

-- a loop that begins with its test: its back edge, its step, its body, its test
pub emits_turns : {t : Table} {x y z w v u : List Instr} (look : Definitions) (env : Environment) (test step : Option Expression) (s : Statement)
    (n : ℕ) (jumps : Jumps) (m p point past kept : ℕ) → m ≡ n + size_if test → p ≡ m + size_stmt s → point ≡ p + size_if step
    → kept ≡ length (in_scope env) → past ≡ length x → jumps.broken ≡ past → jumps.continued ≡ length z
    → Precedes t x y (Back 0 point kept ∷ []) → Precedes t y z (effect_if look env step p) → Precedes t z w (statement_code look s m jumps z env)
    → Precedes t w v (guard_code look env test n (length w - past)) → LeadsBack t v u past point kept
    → Precedes t x u (turns_code look env test step s n)
emits_turns {t} {x} {y} {z} {w} look env test step s n jumps m p point past kept at_body at_step at_back all end broken continued back steps body tested leads =
    let q = n + size_if test + size_stmt s in
    let on : p ≡ q = at_step ∙ ap (λ k. k + size_stmt s) at_body in
    let stepped = effect_if look env step q in
    let stepping : Precedes t y z stepped = precedes_as (ap (effect_if look env step) on) steps in
    let a = precedes_length back in
    let b = precedes_length stepping in
    let inner = statement look env s (n + size_if test) (suc (length stepped)) 0 in
    let e : length z - jumps.broken ≡ suc (length stepped) = omega arith in
    let f : length z - jumps.continued ≡ 0 = omega arith in
    let walked : Precedes t z w inner =
    precedes_as (ap (λ k. statement_code look s k jumps z env) at_body ∙ ap₂ (statement look env s (n + size_if test)) e f) body in
    let both : Precedes t y w (inner ++ stepped) = precedes_more stepping walked in
    let l = precedes_length both in
    loops env (guarded_if look env test n (inner ++ stepped) 1) point (q + size_if step) past kept (at_back ∙ ap (λ k. k + size_if step) on) all end back
    (guards_if look env test n (inner ++ stepped) (length w - past) (omega arith) both tested) leads

-- a `do` loop: its back edge, its test, its body
pub emits_do : {t : Table} {x y z w u : List Instr} (look : Definitions) (env : Environment) (s : Statement) (c : Expression)
    (n : ℕ) (jumps : Jumps) (m point past kept : ℕ) → m ≡ n + size_stmt s → point ≡ m + size c → kept ≡ length (in_scope env) → past ≡ length x → jumps.broken ≡ past → jumps.continued ≡ length z
    → Precedes t x y (Back 0 point kept ∷ []) → Precedes t y z (condition_code look env c (negated c) m ++ unless_jump (negated c) 1 ∷ [])
    → Precedes t z w (statement_code look s n jumps z env) → LeadsBack t w u past point kept → Precedes t x u (do_code look env s c n)
emits_do {t} {x} {y} {z} {w} look env s c n jumps m point past kept at_test at_back all end broken continued back tests body leads =
    let q = n + size_stmt s in
    let test = condition_code look env c (negated c) q ++ unless_jump (negated c) 1 ∷ [] in
    let tested : Precedes t y z test = precedes_as (ap (λ k. condition_code look env c (negated c) k ++ unless_jump (negated c) 1 ∷ []) at_test) tests in
    let a = precedes_length back in
    let b = precedes_length tested in
    let inner = statement look env s n (suc (length test)) 0 in
    let e : length z - jumps.broken ≡ suc (length test) = omega arith in
    let f : length z - jumps.continued ≡ 0 = omega arith in
    let walked : Precedes t z w inner = precedes_as (ap₂ (statement look env s n) e f) body in
    loops env (inner ++ test) point (q + size c) past kept (at_back ∙ ap (λ k. k + size c) at_test) all end back (precedes_more tested walked) leads
