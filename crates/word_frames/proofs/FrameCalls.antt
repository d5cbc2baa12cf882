-- What calls do to frames, by what they write.
use Rattle.std.proofs.Common.{◌≡◌, inl, ℕ, suc, ◌+◌, ◌-◌, ◌<◌, ◌≤◌, List, [], ◌∷◌, ◌++◌, length, vec_capacity, take, drop, reverse, refl, subst, sym, ap, ◌∙◌, arith}
use Rattle.std.specs.Prelude.{slice_index, slice_index_or, slice_set}
use Rattle.std.proofs.lemmas.List.{get_or-set_other, get_or-take, get_or_read_under, length-take-le}
use Rattle.resolved_tree.specs.declared.words.Word.{Word}
use Rattle.resolved_tree.specs.Nodes.{Table}
use Rattle.bytecode.specs.declared.instr.Instr.{Instr}
use Rattle.bytecode.specs.Instructions.{Instruction}
use Rattle.bytecode.specs.Meaning.{Runs, State, step}
use Rattle.bytecode.specs.Seen.{code_of}
use Rattle.code_kinds.specs.WellFormed.{most_variables}
use Rattle.source_model.specs.Moves.{frame_count}
use Rattle.thread_state.specs.declared.steps.End.{End}
use Rattle.thread_state.specs.declared.steps.End.TheVariants.{Rests as RestsThere, Traps as TrapsThere}
use Rattle.thread_state.specs.Bursts.{Bursts}
use Rattle.thread_state.specs.Frames.{IsSameOutside, downward, most_words, state_at, upward}
use Rattle.thread_state.specs.Turns.{ended}
use Rattle.thread_state.proofs.FrameWords.{length-upward, put_on, same_upward}
use Rattle.code_runs.specs.CodeThreads.{CodeFrame}
use Rattle.code_runs.specs.CodeMoves.{Ends, rests, traps}
use Rattle.word_frames.specs.declared.frame.Frame.{Frame}
use Rattle.word_frames.specs.declared.frames.Frames.{Frames}
use Rattle.word_frames.specs.Blocks.{base_of, block, low_of, room}
use Rattle.word_frames.specs.Seen.{HasArguments, IsKept, arguments_at, arguments_of, depth_of, frame_at, frame_of, frames_below, frames_of, innermost, innermost_state, no_frame, stack_base, stack_of}
use Rattle.word_frames.specs.Laws.{StackChangesAlone, with_stack}
use Rattle.word_frames.specs.Changes.{Enters, Leaves, PutOff, StateSet, Waits, WentOn, new_frame, put_at, waiting, with_innermost, with_word}
use Rattle.word_frames.proofs.WordRows.{copied_state, drop_newest, newest_in_order, upward_append}
use Rattle.word_frames.proofs.FrameLists.{Replaces, changed_last, innermost_first, later, popped, pushed, replaced, room_is}

-- how a burst ends is how a frame's private instructions do
pub ends_so : (code : List Instruction) (s : State) (end : End) → step code s ≡ ended end → Ends code s
ends_so code s RestsThere e = rests e
ends_so code s (TrapsThere kind) e = traps kind e

-- the innermost frame changed: all frames
pub changed_innermost : (old new : Frames) (f : Frame) → 0 < depth_of old → new.frames.items ≡ with_innermost old f → Replaces old.frames.items new.frames.items (depth_of old - 1) f
changed_innermost old new f some frames =
    let long : length old.frames.items ≡ suc (depth_of old - 1) = omega arith in
    rw frames (changed_last old.frames.items f (depth_of old - 1) long)

-- the innermost frame, read
pub read_innermost : (fs : List Frame) (i : ℕ) (f : Frame) → f ≡ slice_index_or fs i f → 0 < length fs → i ≡ length fs - 1 → f ≡ slice_index_or fs (length fs - 1) no_frame
read_innermost fs i f read some last =
    get_or_read_under fs i (length fs) f no_frame read (omega arith) refl ∙ ap (λ (k : ℕ). slice_index_or fs k no_frame) last

-- arguments above the stack of the innermost frame
pub arguments_there : (highest n : ℕ) (fs : List Frame) (f : Frame) → length fs ≡ suc n → slice_index_or fs n no_frame ≡ f
    → arguments_at highest (length fs) fs ≡ low_of highest n + f.height
arguments_there highest n fs f long last = rw long (ap (λ (g : Frame). low_of highest n + g.height) last)

-- the highest stack of a thread stays
same_highest : (t : Table) (old new : Frames) → new.highest_stack ≡ old.highest_stack
    → frames_of t new ≡ frames_below t old.highest_stack new.words.items new.frames.items (depth_of new)
same_highest t old new same = ap (λ (k : ℕ). frames_below t k new.words.items new.frames.items (depth_of new)) same

-- the innermost frame's block, and what is after it
pub block_there : (s : Frames) → IsKept s → 0 < depth_of s
    → base_of s.highest_stack (depth_of s - 1) + block s.highest_stack + most_words < length s.words.items
block_there s kept some = omega (arith, kept.words, later s.highest_stack (depth_of s - 1) (depth_of s) (omega arith))

-- there is memory for one frame more
pub block_fits : (s : Frames) → IsKept s → depth_of s < frame_count
    → base_of s.highest_stack (depth_of s) + block s.highest_stack + most_words < vec_capacity s.words
block_fits s kept few = omega (arith, kept.words_fit, later s.highest_stack (depth_of s) frame_count few)

-- a frame that stopped at a point, in a state
abbrev stopped_in : CodeFrame → ℕ → State → CodeFrame
stopped_in f point s = record f { standing = point; state = s }

-- a burst of the innermost frame
pub went_on : (t : Table) (code : List Instr) (old new : Frames) (point place height p h : ℕ) (end : End) (base many : ℕ) (ws after : List ℕ)
    → IsKept old → 0 < depth_of old → new.highest_stack ≡ old.highest_stack
    → ws ≡ old.words.items → after ≡ new.words.items → base ≡ base_of old.highest_stack (depth_of old - 1) → many ≡ room
    → Bursts (code_of t code) (state_at ws base many place height) end (state_at after base many p h)
    → IsSameOutside base (base + many + most_words) ws after
    → new.frames.items ≡ with_innermost old (record (innermost old) { point = point; place = p; height = h })
    → WentOn t code old new point place height end
went_on t code old new point place height p h end base many ws after kept some high row changed there as_many bursts elsewhere frames =
    let n = depth_of old - 1 in
    let k = old.highest_stack in
    let from = base_of old.highest_stack (depth_of old - 1) in
    let g : Frame = record (innermost old) { point = point; place = p; height = h } in
    let made : Replaces old.frames.items new.frames.items (depth_of old - 1) g = changed_innermost old new g some frames in
    let burst : Bursts (code_of t code) (state_at old.words.items from room place height) end (state_at new.words.items from room p h) =
    subst (λ (ys : List ℕ). Bursts (code_of t code) (state_at old.words.items from room place height) end (state_at ys from room p h)) changed
    (subst (λ (xs : List ℕ). Bursts (code_of t code) (state_at xs from room place height) end (state_at after from room p h)) row
    (subst (λ (m : ℕ). Bursts (code_of t code) (state_at ws from m place height) end (state_at after from m p h)) as_many
    (subst (λ (b : ℕ). Bursts (code_of t code) (state_at ws b many place height) end (state_at after b many p h)) there bursts))) in
    record {
      frame = frame_of t k old.words.items n (innermost old);
      next = frame_of t k new.words.items n g;
      below = frames_below t k old.words.items old.frames.items n;
      before = innermost_first t k old.words.items old.frames.items (depth_of old) some;
      after =
          same_highest t old new high
          ∙ replaced t k new.words.items old.words.items made (λ i p. kept.low i (omega arith))
          (λ i p. ap (λ (xs : List ℕ). slice_index xs i) (sym changed) ∙ elsewhere i (inl (omega arith)) ∙ ap (λ (xs : List ℕ). slice_index xs i) row);
      goes = λ texts code_is. record {
        function = refl;
        version = refl;
        stood = refl;
        runs = subst (λ (c : List Instruction). Runs c (state_at old.words.items from room place height) (state_at new.words.items from room p h)) (sym code_is) burst.runs;
        ends = subst (λ (c : List Instruction). Ends c (state_at new.words.items from room p h)) (sym code_is) (ends_so (code_of t code) (state_at new.words.items from room p h) end burst.ends);
      };
      bursts = burst;
      function = refl;
      version = refl;
      standing = refl;
    }

-- the innermost frame is to go on elsewhere
pub put_off : (t : Table) (old new : Frames) (point place height : ℕ) → IsKept old → 0 < depth_of old
    → new.highest_stack ≡ old.highest_stack → new.words ≡ old.words
    → new.frames.items ≡ with_innermost old (record (innermost old) { point = point; place = place; height = height })
    → PutOff t old new point place height
put_off t old new point place height kept some high same frames =
    let n = depth_of old - 1 in
    let k = old.highest_stack in
    let g : Frame = record (innermost old) { point = point; place = place; height = height } in
    let ws = old.words.items in
    let row : new.words.items ≡ old.words.items = ap (λ v. v.items) same in
    let made : Replaces old.frames.items new.frames.items (depth_of old - 1) g = changed_innermost old new g some frames in
    record {
      frame = frame_of t k ws n (innermost old);
      below = frames_below t k ws old.frames.items n;
      before = innermost_first t k ws old.frames.items (depth_of old) some;
      after =
          same_highest t old new high
          ∙ replaced t k new.words.items ws made (λ i p. kept.low i (omega arith)) (λ i p. ap (λ (xs : List ℕ). slice_index xs i) row)
          ∙ ap (λ (xs : List ℕ). frame_of t k xs n g ∷ frames_below t k ws old.frames.items n) row;
    }

-- a row has the words of the innermost frame
pub copied_out : (s : Frames) (row ws : List ℕ) (base many height : ℕ) → ws ≡ s.words.items → base ≡ base_of s.highest_stack (depth_of s - 1) → many ≡ room
    → height ≡ (innermost s).height → ((i : ℕ) → i < many + height → slice_index row (0 + i) ≡ slice_index ws (base + i))
    → (place : ℕ) → state_at row 0 room place (innermost s).height ≡ innermost_state s place (innermost s).height
copied_out s row ws base many height words there as_many high copied place =
    subst (λ (h : ℕ). state_at row 0 room place h ≡ innermost_state s place h) high
    (subst (λ (m : ℕ). state_at row 0 m place height ≡ state_at s.words.items (base_of s.highest_stack (depth_of s - 1)) m place height) as_many
    (subst (λ (b : ℕ). state_at row 0 many place height ≡ state_at s.words.items b many place height) there
    (subst (λ (xs : List ℕ). state_at row 0 many place height ≡ state_at xs base many place height) words
    (copied_state ws row base 0 many height copied place))))

-- the innermost frame has the words of a row
pub state_set : (t : Table) (old new : Frames) (point place height base many : ℕ) (ws after copy : List ℕ) → IsKept old → 0 < depth_of old
    → new.highest_stack ≡ old.highest_stack → ws ≡ old.words.items → after ≡ new.words.items
    → base ≡ base_of old.highest_stack (depth_of old - 1) → many ≡ room → point ≡ (innermost old).point
    → ((i : ℕ) → i < many + height → slice_index after (base + i) ≡ slice_index copy (0 + i))
    → IsSameOutside base (base + (many + height)) ws after
    → new.frames.items ≡ with_innermost old (record (innermost old) { point = point; place = place; height = height })
    → StateSet t old new (state_at copy 0 room place height)
state_set t old new point place height base many ws after copy kept some high row changed there as_many stopped copied elsewhere frames =
    let n = depth_of old - 1 in
    let k = old.highest_stack in
    let from = base_of old.highest_stack (depth_of old - 1) in
    let g : Frame = record (innermost old) { point = point; place = place; height = height } in
    let made : Replaces old.frames.items new.frames.items (depth_of old - 1) g = changed_innermost old new g some frames in
    let state : state_at new.words.items from room place height ≡ state_at copy 0 room place height =
    subst (λ (ys : List ℕ). state_at ys from room place height ≡ state_at copy 0 room place height) changed
    (subst (λ (m : ℕ). state_at after from m place height ≡ state_at copy 0 m place height) as_many
    (subst (λ (b : ℕ). state_at after b many place height ≡ state_at copy 0 many place height) there
    (copied_state copy after 0 base many height copied place))) in
    let here : frame_of t k new.words.items n g ≡ record (frame_of t k old.words.items n (innermost old)) { state = state_at copy 0 room place height } =
    ap (λ (s : State). stopped_in (frame_of t k old.words.items n (innermost old)) point s) state
    ∙ ap (λ (p : ℕ). stopped_in (frame_of t k old.words.items n (innermost old)) p (state_at copy 0 room place height)) stopped in
    record {
      frame = frame_of t k old.words.items n (innermost old);
      below = frames_below t k old.words.items old.frames.items n;
      before = innermost_first t k old.words.items old.frames.items (depth_of old) some;
      after =
          same_highest t old new high
          ∙ replaced t k new.words.items old.words.items made (λ i p. kept.low i (omega arith))
          (λ i p. ap (λ (xs : List ℕ). slice_index xs i) (sym changed) ∙ elsewhere i (inl (omega arith)) ∙ ap (λ (xs : List ℕ). slice_index xs i) row)
          ∙ ap (λ (x : CodeFrame). x ∷ frames_below t k old.words.items old.frames.items n) here;
    }

-- a frame with other words of its variables
abbrev with_locals : List ℕ → CodeFrame → CodeFrame
with_locals ls f = record f { state = record f.state { locals = ls } }

-- words of the innermost frame's stack changed
pub stack_changed : StackChangesAlone
stack_changed t old new kept some frames high elsewhere =
    let n = depth_of old - 1 in
    let k = old.highest_stack in
    let f = innermost old in
    let long : length old.frames.items ≡ suc (depth_of old - 1) = omega arith in
    let made : Replaces old.frames.items new.frames.items (depth_of old - 1) (innermost old) =
    rw frames record { long = long; last = refl; others = λ i p. refl } in
    let locals : upward new.words.items (base_of k n) room ≡ upward old.words.items (base_of k n) room =
    same_upward new.words.items old.words.items (base_of k n) room (λ i p q. elsewhere i (inl (omega arith))) in
    let same : ◌≡◌ {A = Frame} (innermost new) (innermost old) = ap (λ (fs : List Frame). slice_index_or fs (length fs - 1) no_frame) frames in
    let deep : depth_of new - 1 ≡ depth_of old - 1 = ap (λ (fs : List Frame). length fs - 1) frames in
    let stack : stack_of new (innermost new).height ≡ downward new.words.items (low_of k n) f.height =
    ap (λ (g : Frame). stack_of new g.height) same
    ∙ ap (λ (m : ℕ). downward new.words.items (low_of new.highest_stack m) f.height) deep
    ∙ ap (λ (m : ℕ). downward new.words.items (low_of m (depth_of old - 1)) f.height) high in
    let here : frame_of t k new.words.items n f ≡ with_stack (stack_of new (innermost new).height) (frame_of t k old.words.items n f) =
    ap (λ (ls : List ℕ). with_locals ls (frame_of t k new.words.items n f)) locals
    ∙ ap (λ (ws : List ℕ). with_stack ws (frame_of t k old.words.items n f)) (sym stack) in
    record {
      frame = frame_of t k old.words.items n f;
      below = frames_below t k old.words.items old.frames.items n;
      before = innermost_first t k old.words.items old.frames.items (depth_of old) some;
      after =
          same_highest t old new high
          ∙ replaced t k new.words.items old.words.items made (λ i p. kept.low i (omega arith)) (λ i p. elsewhere i (inl (omega (arith, room_is))))
          ∙ ap (λ (x : CodeFrame). x ∷ frames_below t k old.words.items old.frames.items n) here;
    }

-- a frame that waits
pub waited : (t : Table) (old new : Frames) (count point place : ℕ) → IsKept old → 0 < depth_of old → count ≤ (innermost old).height
    → new.highest_stack ≡ old.highest_stack → new.words ≡ old.words
    → new.frames.items ≡ with_innermost old (record (innermost old) { point = point; place = place; height = (innermost old).height - count })
    → Waits t old new count point place
waited t old new count point place kept some words high same frames =
    let n = depth_of old - 1 in
    let k = old.highest_stack in
    let f = innermost old in
    let g : Frame = record f { point = point; place = place; height = f.height - count } in
    let ws = old.words.items in
    let row : new.words.items ≡ old.words.items = ap (λ v. v.items) same in
    let made : Replaces old.frames.items new.frames.items (depth_of old - 1) g = changed_innermost old new g some frames in
    let tall : f.height ≡ f.height - count + count = omega arith in
    let stack : drop count (downward ws (low_of k n) f.height) ≡ downward ws (low_of k n) (f.height - count) =
    drop_newest ws (low_of k n) (f.height - count) count f.height tall in
    let here : frame_of t k ws n g ≡ waiting count point place (frame_of t k ws n f) = rw stack refl in
    record {
      frame = frame_of t k ws n f;
      below = frames_below t k ws old.frames.items n;
      before = innermost_first t k ws old.frames.items (depth_of old) some;
      after =
          same_highest t old new high
          ∙ replaced t k new.words.items ws made (λ i p. kept.low i (omega arith)) (λ i p. ap (λ (xs : List ℕ). slice_index xs i) row)
          ∙ ap (λ (xs : List ℕ). frame_of t k xs n g ∷ frames_below t k ws old.frames.items n) row
          ∙ ap (λ (x : CodeFrame). x ∷ frames_below t k ws old.frames.items n) here;
      arguments =
          ap (λ (m : ℕ). upward new.words.items (arguments_at m (length new.frames.items) new.frames.items) count) high
          ∙ ap (λ (at : ℕ). upward new.words.items at count) (arguments_there k n new.frames.items g made.long made.last)
          ∙ ap (λ (xs : List ℕ). upward xs (low_of k n + (f.height - count)) count) row
          ∙ newest_in_order ws (low_of k n) (f.height - count) count f.height tall;
    }

pub waits_there : (old new : Frames) (count point place : ℕ) → IsKept old → 0 < depth_of old → count ≤ (innermost old).height
    → new.highest_stack ≡ old.highest_stack
    → new.frames.items ≡ with_innermost old (record (innermost old) { point = point; place = place; height = (innermost old).height - count })
    → count ≤ most_variables → HasArguments new count
waits_there old new count point place kept some words high frames few =
    let n = depth_of old - 1 in
    let k = old.highest_stack in
    let f = innermost old in
    let g : Frame = record f { point = point; place = place; height = f.height - count } in
    let made : Replaces old.frames.items new.frames.items (depth_of old - 1) g = changed_innermost old new g some frames in
    let at : arguments_at k (length new.frames.items) new.frames.items ≡ low_of k n + (f.height - count) =
    arguments_there k n new.frames.items g made.long made.last in
    let low : f.height ≤ old.highest_stack = kept.low n (omega arith) in
    let inside : arguments_at k (length new.frames.items) new.frames.items + count ≤ base_of k (length new.frames.items) =
    omega (arith, room_is, at, later k n (length new.frames.items) (omega (arith, made.long))) in
    record {
      few = few;
      inside = subst (λ (m : ℕ). arguments_at m (length new.frames.items) new.frames.items + count ≤ base_of m (length new.frames.items)) (sym high) inside;
    }

-- a frame that returns its newest word
pub left : (t : Table) (old new : Frames) (word at : ℕ) → IsKept old → 2 ≤ depth_of old → 0 < (innermost old).height
    → (frame_at old (depth_of old - 2)).height < old.highest_stack
    → downward old.words.items (stack_base old) (innermost old).height ≡ word ∷ downward old.words.items (stack_base old) ((innermost old).height - 1)
    → at ≡ low_of old.highest_stack (depth_of old - 2) + (frame_at old (depth_of old - 2)).height
    → new.highest_stack ≡ old.highest_stack → new.words.items ≡ slice_set old.words.items at word
    → (let f = frame_at old (depth_of old - 2) in new.frames.items ≡ slice_set (take (depth_of old - 1) old.frames.items) (depth_of old - 2) (record f { height = f.height + 1 }))
    → Leaves t old new
left t old new word at kept two some space newest there same row frames =
    let n = depth_of old - 2 in
    let k = old.highest_stack in
    let f = frame_at old (depth_of old - 2) in
    let g : Frame = record f { height = f.height + 1 } in
    let ws = old.words.items in
    let fs = old.frames.items in
    let high : depth_of old - 1 ≡ suc n = omega arith in
    let deep : suc n ≤ length fs = omega arith in
    let made : Replaces fs new.frames.items n g = rw (frames, high) (popped fs g n deep) in
    let block_ends : base_of k n + block k ≤ base_of k (depth_of old) = later k n (depth_of old) (omega arith) in
    let inside : low_of k n + f.height < length ws = omega (arith, kept.words, room_is, block_ends) in
    let one : f.height + 1 ≡ suc f.height = omega arith in
    let here : frame_of t k new.words.items n g ≡ with_word word (frame_of t k ws n f) =
    ap (λ (xs : List ℕ). frame_of t k xs n g) row
    ∙ ap (λ (a : ℕ). frame_of t k (slice_set ws a word) n g) there
    ∙ ap (λ (h : ℕ). frame_of t k (slice_set ws (low_of k n + f.height) word) n (record f { height = h })) one
    ∙ ap (λ (s : State). record (frame_of t k ws n f) { state = s }) (put_on ws (base_of k n) room f.place f.height word inside) in
    record {
      frame = frame_of t k ws (depth_of old - 1) (innermost old);
      next = frame_of t k ws n f;
      below = frames_below t k ws fs n;
      word = word;
      under = downward ws (stack_base old) ((innermost old).height - 1);
      before =
          innermost_first t k ws fs (depth_of old) (omega arith)
          ∙ ap (λ (m : ℕ). frame_of t k ws (depth_of old - 1) (innermost old) ∷ frames_below t k ws fs m) high;
      newest = newest;
      after =
          same_highest t old new same
          ∙ replaced t k new.words.items ws made (λ i p. kept.low i (omega arith)) (λ i p. ap (λ (xs : List ℕ). slice_index xs i) row ∙ get_or-set_other ws at i word 0 (omega arith))
          ∙ ap (λ (x : CodeFrame). x ∷ frames_below t k ws fs n) here;
    }

-- the next frame, where the innermost was taken away
pub left_frames : (fs popped gs : List Frame) (f : Frame) → 2 ≤ length fs → popped ≡ take (length fs - 1) fs
    → f ≡ slice_index_or popped (length popped - 1) no_frame
    → gs ≡ slice_set popped (length popped - 1) (record (slice_index_or popped (length popped - 1) no_frame) { point = f.point; place = f.place; height = f.height + 1 })
    → (f ≡ slice_index_or fs (length fs - 2) no_frame)
    × (let g = slice_index_or fs (length fs - 2) no_frame in gs ≡ slice_set (take (length fs - 1) fs) (length fs - 2) (record g { height = g.height + 1 }))
left_frames fs popped gs f two rest read set =
    let few : length popped ≡ length fs - 1 = ap length rest ∙ length-take-le (length fs - 1) fs (omega arith) in
    let at : length popped - 1 ≡ length fs - 2 = omega arith in
    let old : Frame = slice_index_or popped (length popped - 1) no_frame in
    let g : Frame = slice_index_or fs (length fs - 2) no_frame in
    let there : slice_index_or popped (length popped - 1) no_frame ≡ slice_index_or fs (length fs - 2) no_frame =
    ap (λ (k : ℕ). slice_index_or popped k no_frame) at
    ∙ ap (λ (ps : List Frame). slice_index_or ps (length fs - 2) no_frame) rest
    ∙ get_or-take (length fs - 1) fs (length fs - 2) no_frame (omega arith) in
    let one : (a b : Frame) → Frame = λ (a b : Frame). record a { point = b.point; place = b.place; height = b.height + 1 } in (
      read ∙ there,
      set
          ∙ ap (λ (b : Frame). slice_set popped (length popped - 1) (one (slice_index_or popped (length popped - 1) no_frame) b)) read
          ∙ ap (λ (a : Frame). slice_set popped (length popped - 1) (one a a)) there
          ∙ ap (λ (k : ℕ). slice_set popped k (one (slice_index_or fs (length fs - 2) no_frame) (slice_index_or fs (length fs - 2) no_frame))) at
          ∙ ap (λ (ps : List Frame). slice_set ps (length fs - 2) (one (slice_index_or fs (length fs - 2) no_frame) (slice_index_or fs (length fs - 2) no_frame))) rest,
    )

-- a function that is entered
pub entered : (t : Table) (old new : Frames) (function : Word) (version unit count : ℕ) (filled after : List ℕ) (from to : ℕ)
    → IsKept old → HasArguments old count
    → from ≡ arguments_at old.highest_stack (depth_of old) old.frames.items → to ≡ base_of old.highest_stack (depth_of old)
    → ((i : ℕ) → i < length old.words.items → slice_index filled i ≡ slice_index old.words.items i)
    → new.highest_stack ≡ old.highest_stack → after ≡ new.words.items
    → upward after to count ≡ reverse (upward filled from count)
    → IsSameOutside to (to + count) filled after
    → new.frames.items ≡ old.frames.items ++ new_frame function version unit ∷ []
    → Enters t old new function version count
entered t old new function version unit count filled after from to kept there from_is to_is same high after_is copied elsewhere frames =
    let n = depth_of old in
    let k = old.highest_stack in
    let base = base_of old.highest_stack (depth_of old) in
    let g = new_frame function version unit in
    let ws = new.words.items in
    let made : Replaces old.frames.items new.frames.items n g = rw frames (pushed old.frames.items g) in
    let long : room ≡ count + (room - count) = omega (arith, room_is, there.few) in
    let inside : from + count ≤ length old.words.items = omega (arith, kept.words, there.inside) in
    let arguments : upward filled from count ≡ arguments_of old count =
    same_upward filled old.words.items from count (λ i p q. same i (omega arith))
    ∙ ap (λ (at : ℕ). upward old.words.items at count) from_is in
    let first : upward ws base count ≡ reverse (arguments_of old count) =
    ap (λ (at : ℕ). upward ws at count) (sym to_is) ∙ ap (λ (xs : List ℕ). upward xs to count) (sym after_is) ∙ copied ∙ ap reverse arguments in
    let locals : upward ws base room ≡ reverse (arguments_of old count) ++ upward ws (base + count) (room - count) =
    upward_append ws base count (room - count) room long
    ∙ ap (λ (xs : List ℕ). xs ++ upward ws (base + count) (room - count)) first in
    record {
      frame = frame_of t k ws n g;
      frames =
          same_highest t old new high
          ∙ replaced t k ws old.words.items made (λ i p. kept.low i p)
          (λ i p. ap (λ (xs : List ℕ). slice_index xs i) (sym after_is) ∙ elsewhere i (inl (omega arith)) ∙ same i (omega (arith, kept.words)));
      standing = refl;
      place = refl;
      stack = refl;
      entered = λ texts e function_is arguments_are version_is. record {
        function = sym function_is;
        version = version_is;
        others = upward ws (base + count) (room - count);
        locals = locals ∙ ap (λ (xs : List ℕ). reverse xs ++ upward ws (base + count) (room - count)) (sym arguments_are);
        room = length-upward ws base room ∙ room_is;
      };
    }
