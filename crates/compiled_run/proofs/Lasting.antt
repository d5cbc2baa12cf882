-- A run whose output is forgotten after each move wants no memory in its first 2^32 - 1 moves, whatever its texts are.
use Rattle.std.proofs.Common.{◌≡◌, ℕ, zero, suc, ◌+◌, ◌*◌, ◌≤◌, ◌<◌, List, [], ◌∷◌, length, map, slice_get, slice_index_or, Option, None, Some, refl, sym, ap, ◌∙◌, arith}
use Rattle.std.specs.Prelude.{◌^◌}
use Rattle.std.specs.Option.{SomeIff}
use Rattle.object_store.specs.Handles.{creation_limit}
use Rattle.code_runs.specs.CodeThreads.{CodeSlot, CodeThread}
use Rattle.code_runs.specs.CodeThreads as seen
use Rattle.word_data.specs.Lengths.{most_printed}
use Rattle.code_image.specs.declared.image.CodeImage.{CodeImage}
use Rattle.code_machine.specs.declared.machine.CodeMachine.{CodeMachine}
use Rattle.code_machine.specs.declared.running.Next.{Next}
use Rattle.code_machine.specs.declared.running.Next.TheVariants.{Continues, Enters, Stands}
use Rattle.code_machine.specs.declared.running.Running.{Running}
use Rattle.code_machine.specs.declared.running.Stand.{Stand}
use Rattle.code_machine.specs.declared.running.Stand.TheVariants.{Free, Live, Over}
use Rattle.code_machine.specs.Enough.{HasNumbers}
use Rattle.code_machine.specs.Seen.{code_world, slot_by, slot_of, thread_by}
use Rattle.code_machine.specs.Used.{HasUsed}

-- ---- numbers that are left

-- the transactions of the thread in a slot
abbrev depth_in : CodeSlot → ℕ
depth_in (seen.Live th) = th.depth
depth_in seen.Free = 0
depth_in (seen.Over serial w) = 0

depth_by : (image : CodeImage) (r : Running) (x : Next) → (thread_by image r x).depth ≡ r.depth
depth_by image r (Enters n count) = refl
depth_by image r Continues = refl
depth_by image r (Stands end) = refl

depth_of : (image : CodeImage) (r : Running) (s : Stand) (thread : CodeThread) → slot_by image r s ≡ seen.Live thread → thread.depth ≡ r.depth
depth_of image r Free thread e = cc
depth_of image r Live thread e = sym (ap depth_in e) ∙ depth_by image r r.next
depth_of image r (Over word) thread e = cc

depth_low : (image : CodeImage) (rs : List Running) (t most : ℕ) (thread : CodeThread)
    → ((n : ℕ) (r : Running) → slice_get rs n ≡ Some r → r.depth ≤ most)
    → slice_index_or (map (slot_of image) rs) t seen.Free ≡ seen.Live thread → thread.depth ≤ most
depth_low image [] t most thread low e = cc
depth_low image (r ∷ rs) zero most thread low e =
    let own = depth_of image r r.stand thread e in
    let lower = low 0 r refl in
    omega (arith, own, lower)
depth_low image (r ∷ rs) (suc t) most thread low e = depth_low image rs t most thread (λ n x is. low (suc n) x is) e

-- a run that has used few numbers has those for one move more
pub numbers_left : (moves : ℕ) (m : CodeMachine) (slot : ℕ) → HasUsed moves m.run → moves < creation_limit → HasNumbers (code_world m) slot
numbers_left moves m slot used few = record {
  creations = let created = used.creations in omega (arith, few, created);
  threads = let started = used.threads in omega (arith, few, started);
  depth = λ thread lives.
      let low = depth_low m.image.value m.run.slots.items slot moves thread used.depths lives in
      omega (arith, few, low);
}

-- ---- bytes that are counted

-- all bytes can be counted, with those of one move more
pub bytes_counted : (moves kept : ℕ) (out after : List ℕ) (longest : ℕ) → out ≡ [] → kept + length out ≤ moves * most_printed
    → moves < creation_limit → length after ≤ length out + longest → longest ≤ most_printed
    → (kept + length after < 2 ^ 64) × (kept + length after ≤ (1 + moves) * most_printed)
bytes_counted moves kept out after longest none short few long bound =
    let nothing : length out ≡ 0 = ap length none in
    (omega (arith, nothing, short, few, long, bound), omega (arith, nothing, short, few, long, bound))

pub bytes_few : (moves kept : ℕ) (out : List ℕ) (n : ℕ) → kept + length out ≤ moves * most_printed → moves + n ≤ creation_limit
    → kept + length out < 2 ^ 64
bytes_few moves kept out n short within = omega (arith, short, within)

-- a number that a sum doesn't have
pub none_counted : (o : Option ℕ) (P : Type 0) (v : ℕ) → SomeIff o P v → ((x : ℕ) → o ≡ Some x → ⊥) → P → ⊥
none_counted None P v isnt each has = isnt has
none_counted (Some x) P v is each has = each x refl
