-- What a machine's slot has of the thread in it.
use Rattle.std.proofs.Common.{◌≡◌, ℕ, zero, suc, ◌-◌, ◌<◌, ◌≤◌, true, false, List, [], ◌∷◌, map, length, drop, inl, inr, option_map, slice_get, Option, Some, None, refl, sym, ap, subst, ◌∙◌, arith}
use Rattle.std.specs.Prelude.{MatchOption, slice_index_or, unwrap_or}
use Rattle.std.specs.Option.{option_flatten}
use Rattle.std.proofs.lemmas.Option.{get_or_from_slice_get, slice_get-map}
use Rattle.run_types.specs.declared.trap.TrapKind.{TrapKind}
use Rattle.c_tree.specs.BareDef.{BareDef}
use Rattle.version_laws.specs.Histories.{text_in}
use Rattle.resolved_tree.specs.declared.words.Word.{Word}
use Rattle.resolved_tree.specs.Nodes.{Table, word}
use Rattle.local_evaluation.specs.Pieces.{stop_of}
use Rattle.bytecode.specs.Instructions.{Instruction}
use Rattle.bytecode.specs.Meaning.{Traps, step}
use Rattle.bytecode.specs.Seen.{code_of}
use Rattle.tree_code.specs.CodedPieces.{Stops}
use Rattle.thread_state.specs.declared.steps.End.{End}
use Rattle.thread_state.specs.declared.steps.End.TheVariants.{Rests as RestsThere, Traps as TrapsThere}
use Rattle.code_runs.specs.CodeThreads.{CodeEnter, CodeFrame, CodeSlot, CodeThread, CodeWorld}
use Rattle.code_runs.specs.CodeThreads as seen
use Rattle.code_runs.specs.CodeMoves.{frame_code}
use Rattle.code_runs.specs.CodeWaits.{in_slot}
use Rattle.word_frames.specs.declared.frame.Frame.{Frame}
use Rattle.word_frames.specs.Seen.{depth_of, frame_of, frames_below, frames_of, innermost, stack_of}
use Rattle.word_frames.specs.Seen as frames
use Rattle.word_frames.proofs.FrameLists.{innermost_first}
use Rattle.code_image.specs.declared.act.StopPlace.{StopPlace}
use Rattle.code_image.specs.declared.function.CodeFunction.{CodeFunction}
use Rattle.code_image.specs.declared.image.CodeImage.{CodeImage}
use Rattle.code_image.specs.Acts.{Acts, IsStopPlace, named}
use Rattle.code_image.specs.Images.{IsFunctionOf, names_in}
use Rattle.code_machine.specs.declared.running.Next.{Next}
use Rattle.code_machine.specs.declared.running.Next.TheVariants.{Continues, Enters, Stands}
use Rattle.code_machine.specs.declared.running.Running.{Running}
use Rattle.code_machine.specs.Kept.{FitsImage, IsFrame, Stood, end_of}
use Rattle.code_machine.specs.Queries.{HasNoStop, IsNextStop, RestsIn, entered_by, entering_in, frames_by, frames_in, in_transaction, is_live, place_of}
use Rattle.code_machine.specs.Seen.{code_at, enter_of, no_frame, settled_first, thread_by, thread_of, words_of}
use Rattle.code_machine.specs.Versions.{RunsCode, texts_by}
use Rattle.code_machine.proofs.Fitting.{traps_is}
use Rattle.code_machine.proofs.Going.{code_is, function_of, own_text}

-- ---- what is in a slot

pub in_there : (f : Running → CodeSlot) (slots : List Running) (t : ℕ) (r : Running) → slice_get slots t ≡ Some r
    → slice_index_or (map f slots) t seen.Free ≡ f r
in_there f slots t r e =
    get_or_from_slice_get (map f slots) t (f r) seen.Free (slice_get-map f slots t ∙ ap (option_map f) e)

pub none_in : (f : Running → CodeSlot) (slots : List Running) (t : ℕ) → slice_get slots t ≡ None
    → slice_index_or (map f slots) t seen.Free ≡ seen.Free
none_in f [] t e = refl
none_in f (s ∷ slots) zero e = cc
none_in f (s ∷ slots) (suc t) e = none_in f slots t e

pub some_at : {X : Type 0} (xs : List X) (i : ℕ) → i < length xs → (x : X) × (slice_get xs i ≡ Some x)
some_at [] i h = absurd (omega (arith, h))
some_at (x ∷ xs) zero h = (x, refl)
some_at (x ∷ xs) (suc i) h = let within : i < length xs = omega (arith, h) in some_at xs i within

-- where no thread lives
pub no_frames : (x : CodeSlot) → is_live x ≡ false → frames_in x ≡ []
no_frames seen.Free e = refl
no_frames (seen.Live th) e = cc
no_frames (seen.Over serial w) e = refl

pub no_enter : (x : CodeSlot) → is_live x ≡ false → entering_in x ≡ None
no_enter seen.Free e = refl
no_enter (seen.Live th) e = cc
no_enter (seen.Over serial w) e = refl

pub no_transaction : (x : CodeSlot) → is_live x ≡ false → in_transaction x ≡ false
no_transaction seen.Free e = refl
no_transaction (seen.Live th) e = cc
no_transaction (seen.Over serial w) e = refl

pub rests_nowhere : (texts : List (List BareDef)) (w : CodeWorld) (slot : ℕ) → is_live (in_slot w slot) ≡ false → HasNoStop texts w slot
rests_nowhere texts w slot e f h = absurd (no (sym (ap is_live h.lives) ∙ e))
  where
    no : true ≡ false → ⊥
    no e = cc

pub never_rests : (w : CodeWorld) (slot : ℕ) (f : CodeFrame) → is_live (in_slot w slot) ≡ false → RestsIn w slot f → ⊥
never_rests w slot f e h = no (sym (ap is_live h.lives) ∙ e)
  where
    no : true ≡ false → ⊥
    no e = cc

-- ---- frames by how many calls they are above the innermost

module _ (t : Table) (highest : ℕ) (words : List ℕ) (all : List Frame) where
  abbrev numbered : ℕ → CodeFrame
  numbered k = frame_of t highest words k (slice_index_or all k frames.no_frame)

  pub frame_up_is : (n up : ℕ) → up < n → slice_get (frames_below t highest words all n) up ≡ Some (numbered (n - 1 - up))
  frame_up_is zero up h = absurd (omega (arith, h))
  frame_up_is (suc n) zero h = let same : n ≡ suc n - 1 - 0 = omega arith in ap (λ k. Some (numbered k)) same
  frame_up_is (suc n) (suc up) h =
      let within : up < n = omega (arith, h) in
      let same : n - 1 - up ≡ suc n - 1 - suc up = omega (arith, h) in
      frame_up_is n up within ∙ ap (λ k. Some (numbered k)) same

  pub no_frame_up : (n up : ℕ) → n ≤ up → slice_get (frames_below t highest words all n) up ≡ None
  no_frame_up zero up h = refl
  no_frame_up (suc n) zero h = absurd (omega (arith, h))
  no_frame_up (suc n) (suc up) h = let past : n ≤ up = omega (arith, h) in no_frame_up n up past

-- ---- the innermost frame

found : (o : Option (Option StopPlace)) (x : StopPlace) → option_flatten o ≡ Some x → o ≡ Some (Some x)
found None x e = cc
found (Some None) x e = cc
found (Some (Some y)) x e = ap Some e

-- ---- a thread, by what it does next

pub depth_is : (image : CodeImage) (r : Running) → (thread_of image r).depth ≡ r.depth
depth_is image r = by r.next
  where
    by : (x : Next) → (thread_by image r x).depth ≡ r.depth
    by (Enters n count) = refl
    by Continues = refl
    by (Stands end) = refl

pub enters_name : (image : CodeImage) (r : Running) (n count : ℕ) → FitsImage image r → r.next ≡ Enters n count
    → option_map (word (words_of image)) (slice_get image.callees.items n) ≡ entered_by (thread_of image r).next
enters_name image r n count fits is =
    let name : (w : Word) × (slice_get image.callees.items n ≡ Some w) = some_at image.callees.items n (fits.due n count is).inside in
    ap (option_map (word (words_of image))) name.1
    ∙ sym (ap (λ x. entered_by (thread_by image r x).next) is
    ∙ ap (λ (o : Option Word). Some (unwrap_or (option_map (word (words_of image)) o) [])) name.1)

pub stands_none : (image : CodeImage) (r : Running) (end : End) → r.next ≡ Stands end → entered_by (thread_of image r).next ≡ None
stands_none image r end is = ap (λ x. entered_by (thread_by image r x).next) is

pub continues_none : (image : CodeImage) (r : Running) → r.next ≡ Continues → entered_by (thread_of image r).next ≡ None
continues_none image r is = ap (λ x. entered_by (thread_by image r x).next) is

module _ (image : CodeImage) (r : Running) (fits : FitsImage image r) where
  abbrev t : Table
  t = words_of image

  abbrev all_frames : List CodeFrame
  all_frames = frames_of t r.frames

  -- its frames, whatever it does next
  whole : 0 < depth_of r.frames → slice_index_or all_frames 0 no_frame ∷ drop 1 all_frames ≡ all_frames
  whole some =
      let first = innermost_first t r.frames.highest_stack r.frames.words.items r.frames.frames.items (depth_of r.frames) some in
      ap (λ fs. slice_index_or fs 0 no_frame ∷ drop 1 fs) first ∙ sym first

  pub thread_frames : (end : End) → r.next ≡ Stands end → frames_by (thread_of image r).next (thread_of image r).below ≡ all_frames
  thread_frames end is = ap (λ x. frames_by (thread_by image r x).next (thread_by image r x).below) is ∙ whole (fits.stood end is).some

  -- they are at the same places, whatever the innermost one has still to execute
  settled_place : (code : List Instruction) (up : ℕ) (fs : List CodeFrame)
      → option_map place_of (slice_get (settled_first code fs) up) ≡ option_map place_of (slice_get fs up)
  settled_place code up [] = refl
  settled_place code zero (f ∷ fs) = refl
  settled_place code (suc up) (f ∷ fs) = refl

  settled_whole : (code : List Instruction) → 0 < depth_of r.frames
      → slice_index_or (settled_first code all_frames) 0 no_frame ∷ drop 1 (settled_first code all_frames) ≡ settled_first code all_frames
  settled_whole code some =
      let first = innermost_first t r.frames.highest_stack r.frames.words.items r.frames.frames.items (depth_of r.frames) some in
      ap (λ fs. slice_index_or (settled_first code fs) 0 no_frame ∷ drop 1 (settled_first code fs)) first
      ∙ sym (ap (settled_first code) first)

  pub place_up_is : (up : ℕ) → option_map place_of (slice_get (frames_by (thread_of image r).next (thread_of image r).below) up)
      ≡ option_map place_of (slice_get all_frames up)
  place_up_is up = by r.next refl
    where
      by : (x : Next) → r.next ≡ x → option_map place_of (slice_get (frames_by (thread_by image r x).next (thread_by image r x).below) up)
          ≡ option_map place_of (slice_get all_frames up)
      by (Enters n count) is = refl
      by Continues is =
          let code : List Instruction = code_at image (innermost r.frames).unit in
          ap (λ fs. option_map place_of (slice_get fs up)) (settled_whole code (fits.owes is).some) ∙ settled_place code up all_frames
      by (Stands end) is = ap (λ fs. option_map place_of (slice_get fs up)) (whole (fits.stood end is).some)

  -- the innermost one, where it doesn't enter
  module _ (end : End) (stands : r.next ≡ Stands end) where
    stood : Stood image.functions.items r.frames end
    stood = fits.stood end stands

    pub some_frame : 0 < depth_of r.frames
    some_frame = stood.some

    abbrev pub last : CodeFrame
    last = frame_of t r.frames.highest_stack r.frames.words.items (depth_of r.frames - 1) (innermost r.frames)

    abbrev pub under : List CodeFrame
    under = frames_below t r.frames.highest_stack r.frames.words.items r.frames.frames.items (depth_of r.frames - 1)

    all_are : all_frames ≡ last ∷ under
    all_are = innermost_first t r.frames.highest_stack r.frames.words.items r.frames.frames.items (depth_of r.frames) some_frame

    pub rests : (thread_of image r).next ≡ seen.Rests last
    rests = ap (λ x. (thread_by image r x).next) stands ∙ ap (λ fs. seen.Rests (slice_index_or fs 0 no_frame)) all_are

    here : IsFrame image.functions.items (innermost r.frames)
    here = let some = some_frame in fits.frames (depth_of r.frames - 1) (omega (arith, some))

    module _ (all : List (List BareDef)) (versions : List ℕ) (runs : RunsCode all versions image r) (g : CodeFunction)
        (there : slice_get image.functions.items (innermost r.frames).unit ≡ Some g) where
      pub function : IsFunctionOf t all image.callees.items g
      function = function_of all versions image r g last under runs some_frame there all_are

      pub same_text : text_in (texts_by all versions) last.version ≡ function.text
      unfolding function
      same_text = own_text all versions image r g last under runs some_frame there all_are

      pub same_code : frame_code (texts_by all versions) last ≡ code_of t g.verified.body.code.items
      same_code = code_is all versions image r g last under runs some_frame there all_are here

      -- how its private instructions ended
      pub ended : end_of (step (frame_code (texts_by all versions) last) last.state) ≡ Some end
      ended = subst (λ code. end_of (step code last.state) ≡ Some end) (sym same_code) (stood.ends t g last under there all_are)

  -- ---- where it rests

  module _ (w : CodeWorld) (slot : ℕ) (lives : in_slot w slot ≡ seen.Live (thread_of image r)) where
    -- the thread there, and its innermost frame, are these
    same_thread : (th other : CodeThread) → seen.Live th ≡ seen.Live other → th ≡ other
    same_thread th other e = cc

    same_frame : (f other : CodeFrame) → seen.Rests f ≡ seen.Rests other → f ≡ other
    same_frame f other e = cc

    enters_not : (e : CodeEnter) (f : CodeFrame) → seen.Enters e ≡ seen.Rests f → ⊥
    enters_not e f is = cc

    next_of_it : (f : CodeFrame) → RestsIn w slot f → (thread_of image r).next ≡ seen.Rests f
    next_of_it f h =
        ap (λ (th : CodeThread). th.next) (same_thread (thread_of image r) h.thread (sym lives ∙ h.lives)) ∙ h.next

    pub last_is : (end : End) (stands : r.next ≡ Stands end) (f : CodeFrame) → RestsIn w slot f → last end stands ≡ f
    last_is end stands f h = same_frame (last end stands) f (sym (rests end stands) ∙ next_of_it f h)

    -- it rests nowhere where it enters
    pub never_enters : (n count : ℕ) → r.next ≡ Enters n count → (f : CodeFrame) → RestsIn w slot f → ⊥
    never_enters n count enters f h =
        enters_not (enter_of image r n count) f (sym (ap (λ x. (thread_by image r x).next) enters) ∙ next_of_it f h)

    -- the stack of the frame that rests
    pub stack_is : (r.next ≡ Continues → ⊥) → (f : CodeFrame) → RestsIn w slot f → (0 < depth_of r.frames) × (f.state.stack ≡ stack_of r.frames (innermost r.frames).height)
    stack_is settled f h = by r.next refl
      where
        by : (x : Next) → r.next ≡ x → (0 < depth_of r.frames) × (f.state.stack ≡ stack_of r.frames (innermost r.frames).height)
        by (Enters n count) is = absurd (never_enters n count is f h)
        by Continues is = absurd (settled is)
        by (Stands end) is = (some_frame end is, ap (λ (g : CodeFrame). g.state.stack) (sym (last_is end is f h)))

    module _ (all : List (List BareDef)) (versions : List ℕ) (runs : RunsCode all versions image r) where
      abbrev texts : List (List BareDef)
      texts = texts_by all versions

      module _ (g : CodeFunction) (there : slice_get image.functions.items (innermost r.frames).unit ≡ Some g) where
        -- a stop is there
        pub next_stop_is : r.next ≡ Stands RestsThere → (x : StopPlace)
            → option_flatten (slice_get g.stops.items (innermost r.frames).place) ≡ Some x → IsNextStop texts (names_in all) image w slot x
        next_stop_is stands x e =
            let own = function RestsThere stands all versions runs g there in
            let at : IsStopPlace t (names_in all) own.text image.callees.items (code_of t g.verified.body.code.items) (innermost r.frames).place x =
            own.stops (innermost r.frames).place x (found (slice_get g.stops.items (innermost r.frames).place) x e) in
            record {
              frame = last RestsThere stands;
              rests = record { thread = thread_of image r; lives = lives; next = rests RestsThere stands };
              stops =
                  subst (λ code. Stops code (stop_of t x.stop) x.point (innermost r.frames).place x.after)
                  (sym (same_code RestsThere stands all versions runs g there)) at.stops;
              acts =
                  subst (λ (text : List BareDef). Acts t (names_in all) text (named t image.callees.items) (stop_of t x.stop) x.act)
                  (sym (same_text RestsThere stands all versions runs g there)) at.acts;
            }

        -- none is
        pub none_there : r.next ≡ Stands RestsThere → option_flatten (slice_get g.stops.items (innermost r.frames).place) ≡ None
            → HasNoStop texts w slot
        none_there stands e f h =
            inr (λ s n after stops.
            (function RestsThere stands all versions runs g there).others (innermost r.frames).place s n after e
            (subst (λ code. Stops code s n (innermost r.frames).place after) (same_code RestsThere stands all versions runs g there)
            (subst (λ y. Stops (frame_code texts y) s n y.state.place after) (sym (last_is RestsThere stands f h)) stops)))

        pub stop_or_none : r.next ≡ Stands RestsThere → (o : Option StopPlace) → o ≡ option_flatten (slice_get g.stops.items (innermost r.frames).place)
            → MatchOption o (HasNoStop texts w slot) (IsNextStop texts (names_in all) image w slot)
        stop_or_none stands None e = none_there stands (sym e)
        stop_or_none stands (Some x) e = next_stop_is stands x (sym e)

        -- an operator traps
        pub traps_there : (kind : TrapKind) → r.next ≡ Stands (TrapsThere kind) → HasNoStop texts w slot
        traps_there kind stands f h =
            inl (
              kind,
              subst (λ y. step (frame_code texts y) y.state ≡ Traps kind) (last_is (TrapsThere kind) stands f h)
                  (traps_is (step (frame_code texts (last (TrapsThere kind) stands)) (last (TrapsThere kind) stands).state) kind
                  (ended (TrapsThere kind) stands all versions runs g there)),
            )

      -- the same, of a function that is there
      pub none_traps : (kind : TrapKind) → r.next ≡ Stands (TrapsThere kind) → HasNoStop texts w slot
      none_traps kind stands =
          let own = here (TrapsThere kind) stands in
          let g = some_at image.functions.items (innermost r.frames).unit own.inside in traps_there g.0 g.1 kind stands

    -- it rests at no stop where it enters
    pub none_enters : (n count : ℕ) → r.next ≡ Enters n count → (history : List (List BareDef)) → HasNoStop history w slot
    none_enters n count enters history f h = absurd (never_enters n count enters f h)
