-- The slots after a thread started, and after one was joined.
use Rattle.std.proofs.Common.{◌≡◌, ℕ, ◌+◌, ◌-◌, ◌<◌, List, ◌∷◌, length, map, Some, refl, sym, subst, ap, ◌∙◌, add-one, arith}
use Rattle.std.specs.Prelude.{IfSome, Vec, option_map, slice_get, slice_index_or, slice_set}
use Rattle.std.specs.declared.alloc.Global.{Global}
use Rattle.std.proofs.lemmas.List.{map-set}
use Rattle.std.proofs.lemmas.Option.{slice_get_read}
use Rattle.c_tree.specs.BareDef.{BareDef}
use Rattle.thread_state.specs.Frames.{downward}
use Rattle.code_runs.specs.CodeData.{thread_word}
use Rattle.code_runs.specs.CodeThreads.{CodeSlot, Live, starting}
use Rattle.word_frames.specs.Seen.{innermost, stack_base}
use Rattle.code_image.specs.declared.act.Act.{Act}
use Rattle.code_image.specs.declared.act.Act.TheVariants.{Spawn}
use Rattle.code_image.specs.declared.act.StopPlace.{StopPlace}
use Rattle.code_image.specs.StopHeights.{LeadsTo, act_takes, callee}
use Rattle.code_image.specs.declared.function.CodeFunction.{CodeFunction}
use Rattle.code_image.specs.declared.image.CodeImage.{CodeImage}
use Rattle.code_machine.specs.declared.running.Running.{Running}
use Rattle.code_machine.specs.declared.running.Stand.TheVariants.{Free as FreeStand, Live as LiveStand, Over as OverStand}
use Rattle.code_machine.specs.declared.state.RunState.{RunState}
use Rattle.code_machine.specs.Kept.{FitsImage}
use Rattle.code_machine.specs.Seen.{finish_of, slot_of, world_of}
use Rattle.code_machine.specs.Stops.{Answered, RestsAt, SameThread}
use Rattle.code_machine.specs.ThreadStops.{StartedIn, Took, first_enter}
use Rattle.code_machine.proofs.Lists.{get_set_other, inside, one, some}
use Rattle.code_machine.proofs.Resuming.{frame_there, words_there}

-- what was read at a place is what is there
pub there_read : (rs : List Running) (len i : ℕ) (r : Running) → len ≡ length rs → i < length rs → r ≡ slice_index_or rs i r → slice_get rs i ≡ Some r
there_read rs len i r long inside is = slice_get_read rs len i r long (omega (arith, long, inside)) is

pub there_as : (rs : List Running) (i : ℕ) (r x : Running) → slice_get rs i ≡ Some r → x ≡ slice_index_or rs i x → r ≡ x
there_as rs i r x there is = one (slice_get rs i) r x there (there_read rs (length rs) i x refl (inside rs i r there) is)

-- a word is the newest one of its stack, over these
abbrev pub newest_rest : Running → List ℕ
newest_rest r = downward r.frames.words.items (stack_base r.frames) ((innermost r.frames).height - 1)

abbrev pub HasNewest : Running → ℕ → Type 0
HasNewest r word = downward r.frames.words.items (stack_base r.frames) (innermost r.frames).height ≡ word ∷ newest_rest r

-- a stop that takes a word finds it
pub newest_there : (functions : List CodeFunction) (callees : ℕ) (r : Running) (x : StopPlace) → RestsAt functions callees r x → act_takes x.act ≡ 1
    → 0 < (innermost r.frames).height
newest_there functions callees r x rests one = omega (arith, words_there functions callees r x rests, one)

-- ---- a start

-- the function of the thread that starts has a name
pub function_inside : (image : CodeImage) (r : Running) (x : StopPlace) (n : ℕ) → RestsAt image.functions.items (length image.callees.items) r x
    → x.act ≡ Spawn n → n < length image.callees.items
function_inside image r x n rests act =
    let functions = image.functions.items in
    let callees = length image.callees.items in
    let found : (g : CodeFunction) × (slice_get functions (innermost r.frames).unit ≡ Some g) =
    some functions (innermost r.frames).unit (frame_there functions callees r x rests).inside in
    let leads : LeadsTo callees x.act =
    image.leads (innermost r.frames).unit found.0 found.1 (innermost r.frames).place x (rests.there found.0 found.1) in
    subst (λ (a : Act). IfSome (callee a) (λ k. k < callees)) act leads.within

pub started_in : (image : CodeImage) (old : RunState) (slots : Vec Running Global) (version function argument place : ℕ) (r : Running)
    → slots.items ≡ slice_set old.slots.items place r → slot_of image r ≡ Live (starting old.threads (first_enter image version function argument))
    → ((x : Running) → slice_get old.slots.items place ≡ Some x → x.stand ≡ FreeStand)
    → (word : ℕ) → word ≡ thread_word (record { slot = place; serial = old.threads })
    → StartedIn image old (record old { slots = slots; threads = old.threads + 1 }) version function argument place word
started_in image old slots version function argument place r set seen free word is = record {
  world =
      ap (λ (ss : List CodeSlot). record {
        shared = old.shared;
        slots = ss;
        threads = old.threads + 1;
        finish = option_map finish_of old.finish;
      })
      (ap (map (slot_of image)) set ∙ map-set (slot_of image) old.slots.items place r ∙ ap (slice_set (world_of image old).slots place) seen)
      ∙ ap (λ (n : ℕ). record {
        shared = old.shared;
        slots = slice_set (world_of image old).slots place (Live (starting old.threads (first_enter image version function argument)));
        threads = n;
        finish = option_map finish_of old.finish;
      }) (add-one old.threads);
  word_is = is;
  others = λ n differs. ap (λ (rs : List Running). slice_get rs n) set ∙ get_set_other old.slots.items place n r differs;
  free = free;
  finish = refl;
  output = refl;
  versions = record { versions = refl; in_force = refl; layouts = refl };
}

-- ---- a join

apart : (r : Running) (left : ℕ) → r.stand ≡ LiveStand → r.stand ≡ OverStand left → ⊥
apart r left live over = cc

pub fits_free : (image : CodeImage) (r : Running) → FitsImage image r → FitsImage image (record r { stand = FreeStand })
fits_free image r fits = record { kept = fits.kept; serial = fits.serial; frames = fits.frames; due = fits.due; owes = fits.owes; leaves = fits.leaves; stood = fits.stood; stacks = fits.stacks }

-- a slot is freed, of which the thread ended; the thread that joins it goes on
module _ (image : CodeImage) (old : RunState) (place slot left : ℕ) (over joins : Running) (there : slice_get old.slots.items place ≡ Some over)
    (ended : over.stand ≡ OverStand left) (here : slice_get old.slots.items slot ≡ Some joins) (live : joins.stand ≡ LiveStand) where
  abbrev pub freed : List Running
  freed = slice_set old.slots.items place (record over { stand = FreeStand })

  pub differs : slot ≡ place → ⊥
  differs same =
      apart joins left live
      (subst (λ (x : Running). x.stand ≡ OverStand left) (one (slice_get old.slots.items place) over joins there (ap (slice_get old.slots.items) (sym same) ∙ here)) ended)

  pub still_here : slice_get freed slot ≡ Some joins
  still_here = get_set_other old.slots.items place slot (record over { stand = FreeStand }) differs ∙ here

  pub took : (texts : List (List BareDef)) (x : StopPlace) (after : Running) (slots : Vec Running Global) → slots.items ≡ slice_set freed slot after
      → SameThread joins after → Answered texts image joins after x left → Took texts image joins old (record old { slots = slots }) slot x place left
  took texts x after slots set same answered = record {
    after = after;
    stand = same.stand;
    answered = answered;
    world =
        ap (λ (ss : List CodeSlot). record {
          shared = old.shared;
          slots = ss;
          threads = old.threads;
          finish = option_map finish_of old.finish;
        })
        (ap (map (slot_of image)) set ∙ map-set (slot_of image) freed slot after
        ∙ ap (λ (ss : List CodeSlot). slice_set ss slot (slot_of image after)) (map-set (slot_of image) old.slots.items place (record over { stand = FreeStand })));
    output = refl;
  }
