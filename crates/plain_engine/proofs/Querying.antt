-- What is asked of an engine at a guard beside the trait's calls.
use Rattle.std.proofs.Common.{◌≡◌, ℕ, ◌<◌, ◌≤◌, Bool, true, false, ◌||◌, List, ◌++◌, ◌∷◌, [], slice_get, Some, option_map, refl, sym, ◌∙◌, ap, subst}
use Rattle.std.specs.Option.{is_some}
use Rattle.std.proofs.lemmas.Option.{same_Some, slice_get-map}
use Rattle.c_tree.specs.declared.def.Program.{Program}
use Rattle.c_semantics.specs.SourceTexts.{text_of}
use Rattle.c_semantics.specs.Store.{Body}
use Rattle.source_model.specs.Worlds.{is_over}
use Rattle.source_model.specs.Guards.{Guard, Setup, bodies_of, empty_seat, has_ended, seat_of}
use Rattle.source_model.specs.Guards as guard
use Rattle.resolved_tree.specs.Nodes.{Table}
use Rattle.run_machine.specs.Machines.{Shown}
use Rattle.installed_versions.specs.declared.installed.Installed.{Installed}
use Rattle.plain_engine.specs.declared.asked.RowOf.{RowOf}
use Rattle.plain_engine.specs.declared.seat.Seat.{Seat}
use Rattle.plain_engine.specs.Kept.{empty, mark_of}
use Rattle.plain_engine.specs.Plain.{AreInstalled, AreSeats, IsRunAt}
use Rattle.plain_engine.specs.Asked.{IsHeld, IsInForce, IsRowAt, all_texts}
use Rattle.plain_engine.proofs.Standing.{outside, seat_at}

-- the texts of a run are those of its setup
pub text_at : (setup : Setup) (g : Guard) (run : Shown) (number : ℕ) → IsRunAt setup g run
    → option_map text_of (slice_get run.trees number) ≡ slice_get (all_texts setup) number
text_at setup g run number at =
    sym (slice_get-map text_of run.trees number) ∙ ap (λ ts. slice_get ts number) at.trees

-- the text in force
pub in_force : (setup : Setup) (g : Guard) (run : Shown) (i : Installed) (last : ℕ) → IsRunAt setup g run → AreInstalled g run i last
    → IsInForce setup g last
in_force setup g run i last at are = record {
  before = are.before;
  text = text_of are.tree;
  numbered = sym (text_at setup g run last at) ∙ ap (option_map text_of) are.numbered;
  last = are.last_is;
}

pub last_is : (g : Guard) (run : Shown) (i : Installed) (last : ℕ) (tree : Program) → (are : AreInstalled g run i last)
    → Some tree ≡ slice_get run.trees last → g.versions ≡ are.before ++ text_of tree ∷ []
last_is g run i last tree are e =
    are.last_is ∙ ap (λ t. are.before ++ text_of t ∷ []) (sym (same_Some tree are.tree (e ∙ are.numbered)))

-- a slot, and one that isn't there
pub held_inside : (g : Guard) (run : Shown) (seats : List Seat) (n : ℕ) (kept : Seat) → AreSeats g run seats → has_ended g ≡ false
    → n < 16 → slice_get seats n ≡ Some kept
    → IsHeld run.words (bodies_of g) (is_over g.world) kept (seat_of g n)
held_inside g run seats n kept are going below at =
    let is = are.each going n kept (seat_of g n) at (seat_at g n are.many below) in record { pinned = sym is.pinned; mark = is.mark }

pub held_outside : (g : Guard) (run : Shown) (seats : List Seat) (n : ℕ) → AreSeats g run seats → 16 ≤ n
    → IsHeld run.words (bodies_of g) (is_over g.world) empty (seat_of g n)
held_outside g run seats n are past =
    subst (IsHeld run.words (bodies_of g) (is_over g.world) empty) (sym (outside g.seats n (subst (λ m. m ≤ n) (sym are.many) past)))
    (record { pinned = refl; mark = λ on. refl })

-- a run that isn't over hasn't ended
neither : (a b : Bool) → (a || b) ≡ false → b ≡ false
neither false b e = e
neither true b e = cc

pub not_ended : (g : Guard) → is_over g.world ≡ false → has_ended g ≡ false
not_ended g e = neither g.world.misused (is_some g.world.finish) e

-- the row of a slot
pub row_is : (t : Table) (bodies : List Body) (over : Bool) (kept : Seat) (own : guard.Seat) (row : RowOf)
    → IsHeld t bodies over kept own → over ≡ false → IsRowAt t bodies (mark_of t bodies kept.kept) row → IsRowAt t bodies own.mark row
row_is t bodies over kept own row held going is = subst (λ m. IsRowAt t bodies m row) (sym (held.mark going)) is
