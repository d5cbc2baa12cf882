-- One of two parts of code, after a jump that is taken where the second is meant.
use Rattle.std.proofs.Common.{◌≡◌, ◌≤◌, ℕ, suc, ◌+◌, Bool, true, [], ◌∷◌, ◌++◌, length, Some, refl, sym, ◌∙◌, arith}
use Rattle.c_semantics.specs.Texts.{Definitions}
use Rattle.bytecode.specs.Instructions.{Instruction, Jump}
use Rattle.tree_code.specs.Code.{Code}
use Rattle.code_kinds.specs.declared.kind.WordKind.{WordKind}
use Rattle.code_kinds.specs.Shapes.{Shape, after, leads_to}
use Rattle.code_kinds.specs.WellFormed.{Shapes, deepest}
use Rattle.formed_code.proofs.Segments.{Edge, Segment, Targets, and_then, further, land, more, same_shape}
use Rattle.formed_code.proofs.Instructions.{fork, jump}

-- a jump that isn't always taken
pub record Forks (look : Definitions) (result : WordKind) (room : ℕ) (i : Instruction) (d : ℕ) : Type 0 where
  pub leads : (p : ℕ) → leads_to p i ≡ suc p ∷ (suc p + d) ∷ []
  pub edge : (shapes : Shapes) (p : ℕ) → Edge look result room shapes p i

module _ (look : Definitions) (result : WordKind) (room : ℕ) (k : Targets) (a b : Code) (s m t : Shape) where
  -- the end of both; the beginning of the second
  abbrev pub Ends : Targets
  Ends = more (record { far = 0; shape = t; real = true }) k

  abbrev pub Skips : Targets
  Skips = more (record { far = 0; shape = m; real = true }) (further (length b) Ends)

  abbrev pub first_code : Code
  first_code = a ++ Jump (length b) ∷ []

  none_on : (n : ℕ) → n + 0 ≡ n
  none_on n = omega arith

  pub passed : (r : Bool) → length t.stack ≤ deepest → ((d : ℕ) → after look result room (Jump d) t ≡ Some t)
      → ((q : Bool) → Segment look result room q (further 1 Skips) a m t) → Segment look result room r Skips first_code m m
  passed r shallow goes f =
      and_then look result room (f r)
      (λ q. jump look result room {r = q} {k = Skips} {s = t} {t = m} 1 (length b) (none_on (length b)) refl (same_shape t) (goes (length b)) shallow)

  pub branches : (r : Bool) (i : Instruction) (d : ℕ) → Forks look result room i d → d ≡ length first_code
      → after look result room i s ≡ Some m → length m.stack ≤ deepest → length t.stack ≤ deepest
      → ((d : ℕ) → after look result room (Jump d) t ≡ Some t)
      → ((q : Bool) → Segment look result room q (further 1 Skips) a m t) → ((q : Bool) → Segment look result room q Ends b m t)
      → Segment look result room r k ((i ∷ first_code) ++ b) s t
  branches r i d forks far leaves low shallow goes f g =
      land look result room (and_then look result room {m = m} (land look result room
      (and_then look result room
      (fork look result room {r = r} {k = further (length first_code) Skips} {s = s} {left = m} i 0 d forks.leads forks.edge
      (none_on (length first_code) ∙ sym far) refl (same_shape m) leaves low)
      (λ q. passed q shallow goes f))) g)
