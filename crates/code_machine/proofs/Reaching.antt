-- A live thread at the stop that its function has at the place of its innermost frame.
use Rattle.std.proofs.Common.{◌≡◌, ℕ, List, Option, Some, None, refl, sym, ap, ◌∙◌}
use Rattle.std.specs.Prelude.{slice_get}
use Rattle.std.specs.Option.{option_flatten}
use Rattle.thread_state.specs.declared.steps.End.TheVariants.{Rests as RestsThere}
use Rattle.word_frames.specs.declared.frame.Frame.{Frame}
use Rattle.word_frames.specs.Seen.{innermost}
use Rattle.code_image.specs.declared.act.Act.{Act}
use Rattle.code_image.specs.declared.act.Act.TheVariants.{Shared, Spawn, Join, Call, Return, Begin, End, Pass}
use Rattle.code_image.specs.declared.act.StopPlace.{StopPlace}
use Rattle.code_image.specs.declared.function.CodeFunction.{CodeFunction}
use Rattle.code_machine.specs.declared.running.Next.TheVariants.{Stands}
use Rattle.code_machine.specs.declared.running.Running.{Running}
use Rattle.code_machine.specs.declared.running.Stand.TheVariants.{Live}
use Rattle.code_machine.specs.declared.state.RunState.{RunState}
use Rattle.code_machine.specs.Kept.{Fits}
use Rattle.code_machine.specs.Stops.{IsAlone, LivesAt}
use Rattle.code_machine.proofs.Lists.{one}

flattened : {X : Type 0} (o : Option (Option X)) (x : X) → option_flatten o ≡ Some x → o ≡ Some (Some x)
flattened None x e = absurd (cc)
flattened (Some None) x e = absurd (cc)
flattened (Some (Some y)) x e = ap Some e

pub lives_at : (functions : List CodeFunction) (callees : ℕ) (run : RunState) (slot : ℕ) (r : Running) (frame : Frame) (g : CodeFunction) (x : StopPlace)
    → slice_get run.slots.items slot ≡ Some r → Fits functions callees r → r.stand ≡ Live → r.next ≡ Stands RestsThere → run.finish ≡ None
    → frame ≡ innermost r.frames → slice_get functions frame.unit ≡ Some g → option_flatten (slice_get g.stops.items frame.place) ≡ Some x
    → LivesAt functions callees run slot x
lives_at functions callees run slot r frame g x there fits live next going is found stops = record {
  running = r;
  there = there;
  rests = record {
    fits = fits;
    live = live;
    next = next;
    there = λ k at.
        let same : g ≡ k = one (slice_get functions frame.unit) g k found (ap (λ (f : Frame). slice_get functions f.unit) is ∙ at) in
        ap (λ (f : Frame). slice_get k.stops.items f.place) (sym is)
        ∙ ap (λ (h : CodeFunction). slice_get h.stops.items frame.place) (sym same)
        ∙ flattened (slice_get g.stops.items frame.place) x stops;
  };
  going = going;
}

-- an act that neither starts nor joins a thread
pub is_alone : (act : Act) → ((n : ℕ) → act ≡ Spawn n → ⊥) → (act ≡ Join → ⊥) → IsAlone act
is_alone (Shared stop) spawn join = tt
is_alone (Spawn n) spawn join = absurd (spawn n refl)
is_alone Join spawn join = absurd (join refl)
is_alone (Call n count) spawn join = tt
is_alone Return spawn join = tt
is_alone Begin spawn join = tt
is_alone End spawn join = tt
is_alone Pass spawn join = tt

-- none found
pub none_left : {X : Type 0} (o : Option X) → ((x : X) → o ≡ Some x → ⊥) → o ≡ None
none_left None h = refl
none_left (Some x) h = absurd (h x refl)
