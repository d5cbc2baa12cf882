use Rattle.std.proofs.Common.{◌≡◌, ◌+◌, [], ◌∷◌, ◌++◌, ℕ, List, length, map, Some, subst, ap, ◌∙◌, arith}
use Rattle.std.specs.Prelude.{slice_get}
use Rattle.std.proofs.lemmas.List.{length_push}
use Rattle.code_runs.specs.CodeThreads.{Live, starting}
use Rattle.code_machine.specs.declared.running.Running.{Running}
use Rattle.code_machine.specs.Kept.{FitsImage}
use Rattle.code_machine.specs.Seen.{name_at, slot_of}
use Rattle.code_machine.specs.Stops.{IsFresh}
use Rattle.code_machine.proofs.Beginning.{one_fits, one_more}
use Rattle.code_machine.proofs.calls.slots_of.Goals as goal

pub loop-preserved : goal.loop-preserved
loop-preserved c =
    let i = c.loop.invariant in
    let r = c.in_ok-new.field-0 in
    let e : c.push-in-loop.new.self.items ≡ c.loop.slots.items ++ c.in_ok-new.field-0 ∷ [] = c.in_ok-push-2.ensures.items in
    record {
      some = omega arith;
      few = omega (arith, c.loop-test.true, i.some);
      long = ap length e ∙ length_push c.loop.slots.items r ∙ ap (λ (n : ℕ). n + 1) i.long;
      fit = λ n x there.
          one_fits (FitsImage c.args.image.now) c.loop.slots.items r i.fit c.in_ok-new.ensures.fits n x
          (subst (λ (rs : List Running). slice_get rs n ≡ Some x) e there);
      fresh = λ n x there.
          one_fits (λ (y : Running). IsFresh y c.args.image.now.main) c.loop.slots.items r i.fresh c.in_ok-new.ensures.fresh n x
          (subst (λ (rs : List Running). slice_get rs n ≡ Some x) e there);
      seen =
          let image = c.args.image.now in
          ap (map (slot_of image)) e
          ∙ one_more image c.loop.slots.items (Live (starting 0 (record { function = name_at image image.main; arguments = []; version = 1 }))) r c.loop.counter i.some
          i.seen c.in_ok-new.ensures.free;
    }
