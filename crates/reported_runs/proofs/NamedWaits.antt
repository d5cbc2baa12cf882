-- In a deadlock the lines of the threads that wait name each thread that lives.
use Rattle.std.proofs.Common.{◌≡◌, ℕ, ◌+◌, ◌<◌, false, List, [], ◌++◌, take, drop, length, Some, None, get_or, sym, ap, ◌∙◌, arith, if◌then◌else◌}
use Rattle.std.specs.List.{flat_map, range_with_len}
use Rattle.std.specs.Option.{option_map_or}
use Rattle.std.proofs.lemmas.Grind.{flat_map-append}
use Rattle.std.proofs.lemmas.List.{drop_more, take-append-drop}
use Rattle.std.proofs.lemmas.List.Concat.{flat_map-cons}
use Rattle.std.proofs.lemmas.List.FromFn.{get_or-range_with_len, length-range_with_len}
use Rattle.run_types.specs.declared.run.Ending.TheVariants.{Deadlock}
use Rattle.c_semantics.specs.Threads.{Thread}
use Rattle.source_model.specs.Worlds.{World, Live, in_slot, is_over}
use Rattle.source_model.specs.Waits.{Waiting, waits_for}
use Rattle.source_model.specs.Guards.{Guard}
use Rattle.source_model.specs.Endings.{ending as ending_of, is_stuck}
use Rattle.typed_journals.proofs.Deadlocks.{deadlocked, not_over, within}
use Rattle.job_answers.specs.Reports.{DeadlockNamesEach, IsNamed, wait_in, wait_line, waits_text}

-- what is made of one element, among what is made of all
part : {X A : Type 0} (f : X → List A) (xs : List X) (i : ℕ) (d : X) → i < length xs
    → flat_map f xs ≡ flat_map f (take i xs) ++ (f (get_or xs i d) ++ flat_map f (drop (i + 1) xs))
part f xs i d h =
    ap (flat_map f) (sym (take-append-drop i xs)) ∙ flat_map-append f (take i xs) (drop i xs)
    ∙ ap (λ ys. flat_map f (take i xs) ++ flat_map f ys) (drop_more xs i d h)
    ∙ ap (λ ys. flat_map f (take i xs) ++ ys) (flat_map-cons f (get_or xs i d) (drop (i + 1) xs))

-- the line of a slot, among those of all
line_in : (w : World) (t : ℕ) → t < length w.slots
    → waits_text w ≡ flat_map (wait_in w) (take t (range_with_len 0 (length w.slots)))
    ++ (wait_in w t ++ flat_map (wait_in w) (drop (t + 1) (range_with_len 0 (length w.slots))))
line_in w t h =
    let slots = range_with_len 0 (length w.slots) in
    let count = length-range_with_len 0 (length w.slots) in
    let from_zero : 0 + t ≡ t = omega arith in
    part (wait_in w) slots t 0 (omega (arith, h, count))
    ∙ ap (λ n. flat_map (wait_in w) (take t slots) ++ (wait_in w n ++ flat_map (wait_in w) (drop (t + 1) slots)))
    (get_or-range_with_len 0 (length w.slots) t 0 h ∙ from_zero)

line_is : (w : World) (t : ℕ) (what : Waiting) → is_over w ≡ false → waits_for w t ≡ Some what → wait_in w t ≡ wait_line t what
line_is w t what going is =
    ap (λ o. option_map_or (wait_line t) o []) (ap (λ b. if b then None else waits_for w t) going ∙ is)

named : (w : World) (t : ℕ) (what : Waiting) → is_over w ≡ false → waits_for w t ≡ Some what → t < length w.slots → IsNamed w t
named w t what going is h = record {
  what = what;
  waits = is;
  above = flat_map (wait_in w) (take t (range_with_len 0 (length w.slots)));
  below = flat_map (wait_in w) (drop (t + 1) (range_with_len 0 (length w.slots)));
  named =
      line_in w t h
      ∙ ap (λ text. flat_map (wait_in w) (take t (range_with_len 0 (length w.slots)))
      ++ (text ++ flat_map (wait_in w) (drop (t + 1) (range_with_len 0 (length w.slots))))) (line_is w t what going is);
}

pub each_named : (g : Guard) → g.world.misused ≡ false
    → ((t : ℕ) (th : Thread) → ending_of g ≡ Deadlock → in_slot g.world t ≡ Live th → (what : Waiting) × (waits_for g.world t ≡ Some what))
    → DeadlockNamesEach g
each_named g right waits is t th there =
    let what = waits t th is there in
    named g.world t what.0 (not_over g.world right (deadlocked (is_stuck g) g.world.finish is).1) what.1 (within g.world t th there)
