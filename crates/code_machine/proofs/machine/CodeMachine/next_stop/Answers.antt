use Rattle.std.proofs.Common.{◌≡◌, ℕ, List, subst}
use Rattle.std.specs.Prelude.{MatchOption}
use Rattle.c_tree.specs.BareDef.{BareDef}
use Rattle.code_runs.specs.CodeThreads.{CodeWorld, Live}
use Rattle.code_runs.specs.CodeWaits.{in_slot}
use Rattle.code_image.specs.declared.image.CodeImage.{CodeImage}
use Rattle.code_image.specs.Images.{names_in}
use Rattle.code_machine.specs.declared.running.Next.TheVariants.{Continues}
use Rattle.code_machine.specs.Queries.{HasNoStop, IsNextStop}
use Rattle.code_machine.specs.Seen.{code_world, thread_of}
use Rattle.code_machine.specs.Versions.{RunsCode, texts_by}
use Rattle.code_machine.proofs.Going.{runs_there}
use Rattle.code_machine.proofs.machine.CodeMachine.next_stop.Goals as goal

pub returns-in-Some : goal.returns-in-Some
returns-in-Some c = λ settled all is.
    let m = c.args.self.now in
    let l = c.in-Some.ensures in
    let r = c.in-Some.running.now in
    let said =
    subst (λ (i : CodeImage). (r.next ≡ Continues → ⊥) → (all : List (List BareDef)) (versions : List ℕ) → RunsCode all versions i r
    → (w : CodeWorld) (slot : ℕ) → in_slot w slot ≡ Live (thread_of i r)
    → MatchOption c.next_stop.result (HasNoStop (texts_by all versions) w slot) (IsNextStop (texts_by all versions) (names_in all) i w slot))
    c.deref.ensures c.next_stop.ensures in
    said (λ e. settled (record { running = r; there = l.there; due = e })) all m.run.versions.items
    (runs_there all m.image.value m.run c.args.slot r is l.there) (code_world m) c.args.slot l.lives
