-- A spawn, a join and a call of code are those of the source machine.
use Rattle.std.proofs.Common.{◌≡◌, ℕ, zero, suc, ◌==◌, Bool, true, false, List, [], ◌∷◌, ◌++◌, length, map, take, drop, reverse, Option, Some, None, refl, sym, ap, subst, ◌∙◌, arith, if◌then◌else◌}
use Rattle.std.specs.Prelude.{position, slice_index_or}
use Rattle.std.proofs.lemmas.List.{length-reverse, map-append, reverse-append, reverse-reverse}
use Rattle.run_types.specs.declared.trap.TrapKind.TheVariants.{Join as NotJoined}
use Rattle.c_ints.specs.declared.kind.Kind.TheVariants.{I32}
use Rattle.c_ints.specs.declared.int.Int.{Int}
use Rattle.c_ints.specs.Number.{kind_of, value_of}
use Rattle.c_ints.specs.Kind.{InRange}
use Rattle.c_ints.proofs.Reduction.{reduced_same}
use Rattle.c_tree.specs.BareExpr.{Bytes, BareType, Thread as ThreadType}
use Rattle.c_tree.specs.BareDef.{BareDef}
use Rattle.c_semantics.specs.Texts.{Definitions, int, result_type}
use Rattle.c_semantics.specs.Values.{ThreadRef, Value, Number, Reference, Started}
use Rattle.c_semantics.specs.Stops.{Stop}
use Rattle.c_semantics.specs.Threads.{Enter, started}
use Rattle.source_model.specs.Worlds.{World, Slot, Live, Over, Finished, in_slot, with_slot as with_source_slot, with_thread as with_source_thread}
use Rattle.source_model.specs.Worlds as world
use Rattle.source_model.specs.Moves.{Standing, begin_at, call, end_at, finish_thread, gone_on, goes_on, join, join_slot, number_of, return, return_to, spawn, start_in}
use Rattle.source_model.specs.Moves as source
use Rattle.typed_trees.specs.ValueTypes.{HasType, HaveTypes}
use Rattle.typed_trees.specs.ExpressionTypes.{IsFunction, Runs, parameter_types}
use Rattle.typed_trees.specs.PieceTypes.{Pops, Stack, Top}
use Rattle.typed_runs.specs.TypedFrames.{result_in, version_in}
use Rattle.typed_runs.specs.TypedWorlds.{tags_of}
use Rattle.typed_runs.proofs.Arguments.{reversed_have, taken_of}
use Rattle.bytecode.specs.Words.{Naming, integer_word, number_at, word_of}
use Rattle.tree_code.specs.Ranges.{AllRanged, Ranged}
use Rattle.tree_code.proofs.WordValues.{word_back}
use Rattle.code_runs.specs.CodeData.{Names, thread_word}
use Rattle.code_runs.specs.CodeThreads.{CodeEnter, CodeFrame, CodeSlot, CodeThread, CodeWorld, Free as CodeFree, Live as CodeLive, Over as CodeOver, starting}
use Rattle.code_runs.specs.SharedStops.{One}
use Rattle.code_runs.specs.CodeMoves.{At as CodeAt, Continues, Joined, Spawned, called, is_free, left_from, left_in, trapped, with_place, with_thread}
use Rattle.code_run_laws.specs.ThreadMatches.{SlotMatches}
use Rattle.code_run_laws.specs.WorldMatches.{WorldMatches}
use Rattle.code_run_laws.proofs.SlotsMatching.{first_free_alike, slot_matching}
use Rattle.code_run_laws.proofs.SlotWords.{left_at, none_left, word_test}
use Rattle.code_run_laws.proofs.Between.{Between, changed, counted, done}
use Rattle.code_run_laws.proofs.ThreadAtStop.{AtStop, KnownLaws, MadeAlike, On, Running, at, goes_alike, here, silent, traps_alike}

-- the newest value with its word, where a stop takes it
pub newest : (tags : List Bytes) (naming : Naming) (P : BareType → Stack → Type 0) (K : ℕ → List ℕ → Type 0) (Q : List Value → Type 0)
    → ((t : BareType) (under : Stack) (v : Value) (left : List Value)
    → P t under → HasType tags t v → HaveTypes tags under left → Ranged v → AllRanged left
    → K (word_of naming v) (map (word_of naming) left) → Q (v ∷ left))
    → (stack : Stack) (values : List Value) → Top stack P → HaveTypes tags stack values → AllRanged values
    → One (map (word_of naming) values) K → Q values
newest tags naming P K Q k [] values p h r one = absurd p
newest tags naming P K Q k (t ∷ under) [] p h r one = absurd h
newest tags naming P K Q k (t ∷ under) (v ∷ left) p h r one = k t under v left p h.0 h.1 r.0 r.1 one

-- ---- values in order

ranged_append : (xs ys : List Value) → AllRanged xs → AllRanged ys → AllRanged (xs ++ ys)
ranged_append [] ys h g = g
ranged_append (x ∷ xs) ys h g = (h.0, ranged_append xs ys h.1 g)

ranged_reverse : (vs : List Value) → AllRanged vs → AllRanged (reverse vs)
ranged_reverse [] h = tt
ranged_reverse (v ∷ vs) h =
    subst AllRanged (sym (reverse-append (v ∷ []) vs)) (ranged_append (reverse vs) (v ∷ []) (ranged_reverse vs h.1) (h.0, tt))

ranged_take : (n : ℕ) (vs : List Value) → AllRanged vs → AllRanged (take n vs)
ranged_take zero vs h = tt
ranged_take (suc n) [] h = tt
ranged_take (suc n) (v ∷ vs) h = (h.0, ranged_take n vs h.1)

ranged_drop : (n : ℕ) (vs : List Value) → AllRanged vs → AllRanged (drop n vs)
ranged_drop zero vs h = h
ranged_drop (suc n) [] h = tt
ranged_drop (suc n) (v ∷ vs) h = ranged_drop n vs h.1

words_take : (f : Value → ℕ) (n : ℕ) (vs : List Value) → take n (map f vs) ≡ map f (take n vs)
words_take f zero vs = refl
words_take f (suc n) [] = refl
words_take f (suc n) (v ∷ vs) = ap (λ ws. f v ∷ ws) (words_take f n vs)

words_drop : (f : Value → ℕ) (n : ℕ) (vs : List Value) → drop n (map f vs) ≡ map f (drop n vs)
words_drop f zero vs = refl
words_drop f (suc n) [] = refl
words_drop f (suc n) (v ∷ vs) = words_drop f n vs

words_reverse : (f : Value → ℕ) (vs : List Value) → reverse (map f vs) ≡ map f (reverse vs)
words_reverse f [] = refl
words_reverse f (v ∷ vs) =
    reverse-append (f v ∷ []) (map f vs) ∙ ap (λ ws. ws ++ f v ∷ []) (words_reverse f vs) ∙ sym (map-append f (reverse vs) (v ∷ []))
    ∙ ap (map f) (sym (reverse-append (v ∷ []) vs))

-- the word of an int is read as its value
pub int_back : (n : Int) → kind_of n ≡ I32 → InRange (kind_of n) (value_of n) → number_at I32 (integer_word (value_of n)) ≡ value_of n
int_back n is within =
    word_back I32 (value_of n) ∙ reduced_same I32 (value_of n) (subst (λ k. InRange k (value_of n)) is within)

module _ (laws : KnownLaws) (texts : List (List BareDef)) (names : Names) (s : Standing) (own : CodeWorld) (r : Running texts names s.world own)
    (th : CodeThread) (f : CodeFrame) (after : ℕ) where
  abbrev tags : List Bytes
  tags = tags_of s.world.objects

  abbrev naming : Naming
  naming = r.matches.naming

  abbrev look : Definitions
  look = version_in texts s.frame.version

  abbrev result : BareType
  result = result_in texts s.frame.version s.frame.function

  abbrev own_at : CodeAt
  own_at = at laws texts names s own r th f after

  abbrev start : Between texts names s.world naming s.world own
  start = here laws texts names s own r th f after

  abbrev Ready : Stop → List Value → Type 0
  Ready = AtStop laws texts names s own r th f after

  abbrev Alike : Option World → CodeWorld → List ℕ → Type 0
  Alike = MadeAlike texts names s.world

  module _ (x : Stop) (values : List Value) (h : Ready x values) (new : CodeWorld) (printed : List ℕ) (none : printed ≡ []) where
    abbrev Then : Stack → Type 0
    Then = On laws texts names s own r th f after x values h

    abbrev went_on : (under : Stack) (left : List Value) (stack : List ℕ) → Then under → HaveTypes tags under left → AllRanged left
        → stack ≡ map (word_of naming) left → Continues texts own_at th stack own new → Alike (goes_on s s.world left) new printed
    went_on under left stack on have ranged words goes =
        goes_alike laws texts names s own r th f after x values h s.world own start under left stack printed new
        (silent s.world.output printed none) on have ranged words goes

    -- ---- a spawn

    start_alike : (name : Bytes) (t : BareType) (under : Stack) (v : Value) (left : List Value) (place : Option ℕ)
        → Runs (look name) t → Then (ThreadType ∷ under) → HasType tags t v → HaveTypes tags under left → Ranged v → AllRanged left
        → Spawned texts own_at own (record { function = name; arguments = word_of naming v ∷ []; version = f.version })
        (map (word_of naming) left) place new
        → Alike (start_in s (record { function = name; arguments = v ∷ []; version = s.frame.version }) left place) new printed
    start_alike name t under v left None runs on hv have rv ranged spawned =
        went_on (ThreadType ∷ under) (Started None ∷ left) (0 ∷ map (word_of naming) left) on (tt, have) (tt, ranged) refl spawned
    start_alike name t under v left (Some slot) runs on hv have rv ranged spawned =
        let enter : Enter = record { function = name; arguments = v ∷ []; version = s.frame.version } in
        let due : CodeEnter = record { function = name; arguments = word_of naming v ∷ []; version = f.version } in
        let ref : ThreadRef = record { slot = slot; serial = s.world.threads } in
        goes_alike laws texts names s own r th f after x values h _ _
        (changed texts names s.world naming _ _
        (counted texts names s.world naming s.world own start (suc s.world.threads) (suc own.threads) s.world.closed (ap suc r.matches.threads))
        slot (Live (started s.world.threads enter)) (CodeLive (starting own.threads due))
        (record {
          serial = r.matches.threads;
          depth = refl;
          next = (
            record {
              function = refl;
              version = h.version;
              typed = record { known = h.known; function = runs.0; arguments = subst (λ ts. HaveTypes tags ts (v ∷ [])) (sym runs.1) (hv, tt) };
              arguments = refl;
              ranged = (rv, tt);
            },
            runs.2,
          );
        }))
        (ThreadType ∷ under) (Started (Some ref) ∷ left)
        (thread_word (record { slot = slot; serial = own.threads }) ∷ map (word_of naming) left) printed new
        (silent s.world.output printed none) on (tt, have) (tt, ranged)
        (ap (λ w. w ∷ map (word_of naming) left)
        (ap (λ k. thread_word (record { slot = slot; serial = k })) r.matches.threads ∙ sym (r.matches.threads_named ref))) spawned

    pub spawn_alike : (name : Bytes) → Top h.matches.stack (λ t under. Runs (look name) t × Then (ThreadType ∷ under))
        → One f.state.stack (λ v under.
        Spawned texts own_at own (record { function = name; arguments = v ∷ []; version = f.version }) under (position is_free own.slots) new)
        → Alike (spawn s name values) new printed
    spawn_alike name typed one =
        newest tags naming (λ t under. Runs (look name) t × Then (ThreadType ∷ under))
        (λ v under. Spawned texts own_at own (record { function = name; arguments = v ∷ []; version = f.version }) under (position is_free own.slots) new)
        (λ vs. Alike (spawn s name vs) new printed)
        (λ t under v left p hv have rv ranged spawned.
        start_alike name t under v left (position source.is_free s.world.slots) p.0 p.1 hv have rv ranged
        (subst (λ place. Spawned texts own_at own (record { function = name; arguments = word_of naming v ∷ []; version = f.version })
        (map (word_of naming) left) place new)
        (sym (first_free_alike texts tags naming s.world.slots own.slots (r.matches.slots r.going))) spawned))
        h.matches.stack values typed h.matches.values_have h.matches.ranged
        (subst (λ ws. One ws (λ v under.
        Spawned texts own_at own (record { function = name; arguments = v ∷ []; version = f.version }) under (position is_free own.slots) new))
        h.matches.words one)

    -- ---- a join

    not_joined : new ≡ trapped NotJoined s.slot own → Alike (source.traps s NotJoined) new printed
    not_joined is = traps_alike laws texts names s own r th f after x values h NotJoined printed new none is

    over_alike : (ref : ThreadRef) (under : Stack) (left : List Value) (serial own_serial w : ℕ) (v : Value) (b : Bool)
        → (thread_word (record { slot = ref.slot; serial = own_serial }) == thread_word ref) ≡ b → (serial == ref.serial) ≡ b
        → w ≡ word_of naming v → Ranged v → HasType tags int v → Then (int ∷ under) → HaveTypes tags under left → AllRanged left
        → Joined texts own_at own (map (word_of naming) left)
        (with_place ref.slot (if thread_word (record { slot = ref.slot; serial = own_serial }) == thread_word ref then Some w else None)) new
        → Alike (if serial == ref.serial then goes_on s (with_source_slot ref.slot world.Free s.world) (v ∷ left) else source.traps s NotJoined) new printed
    over_alike ref under left serial own_serial w v true found is word rv hv on have ranged joined =
        subst (λ b. Alike (if b then goes_on s (with_source_slot ref.slot world.Free s.world) (v ∷ left) else source.traps s NotJoined) new printed)
        (sym is)
        (goes_alike laws texts names s own r th f after x values h _ _
        (changed texts names s.world naming s.world own start ref.slot world.Free CodeFree tt)
        (int ∷ under) (v ∷ left) (w ∷ map (word_of naming) left) printed new (silent s.world.output printed none) on (hv, have) (rv, ranged)
        (ap (λ k. k ∷ map (word_of naming) left) word)
        (subst (λ b. Joined texts own_at own (map (word_of naming) left) (with_place ref.slot (if b then Some w else None)) new) found joined))
    over_alike ref under left serial own_serial w v false found is word rv hv on have ranged joined =
        subst (λ b. Alike (if b then goes_on s (with_source_slot ref.slot world.Free s.world) (v ∷ left) else source.traps s NotJoined) new printed)
        (sym is)
        (not_joined
        (subst (λ b. Joined texts own_at own (map (word_of naming) left) (with_place ref.slot (if b then Some w else None)) new) found joined))

    slot_joined : (ref : ThreadRef) (under : Stack) (left : List Value) (y : Slot) (own_y : CodeSlot) → SlotMatches texts tags naming y own_y
        → Then (int ∷ under) → HaveTypes tags under left → AllRanged left
        → Joined texts own_at own (map (word_of naming) left) (with_place ref.slot (left_in (thread_word ref) ref.slot own_y)) new
        → Alike (join_slot s ref left y) new printed
    slot_joined ref under left world.Free CodeFree m on have ranged joined = not_joined joined
    slot_joined ref under left world.Free (CodeLive own_th) m on have ranged joined = absurd m
    slot_joined ref under left world.Free (CodeOver serial w) m on have ranged joined = absurd m
    slot_joined ref under left (Live other) CodeFree m on have ranged joined = absurd m
    slot_joined ref under left (Live other) (CodeLive own_th) m on have ranged joined = not_joined joined
    slot_joined ref under left (Live other) (CodeOver serial w) m on have ranged joined = absurd m
    slot_joined ref under left (Over serial v) CodeFree m on have ranged joined = absurd m
    slot_joined ref under left (Over serial v) (CodeLive own_th) m on have ranged joined = absurd m
    slot_joined ref under left (Over serial v) (CodeOver own_serial w) m on have ranged joined =
        over_alike ref under left serial own_serial w v (serial == ref.serial)
        (word_test ref.slot own_serial ref refl ∙ ap (λ k. k == ref.serial) m.0) refl m.1.0 m.1.1.0 m.1.1.1 on have ranged joined

    thread_joined : (o : Option ThreadRef) (under : Stack) (left : List Value) → Then (int ∷ under) → HaveTypes tags under left → AllRanged left
        → Joined texts own_at own (map (word_of naming) left) (left_from (word_of naming (Started o)) 0 own.slots) new
        → Alike (join s (Started o ∷ left)) new printed
    thread_joined None under left on have ranged joined =
        not_joined (subst (λ o. Joined texts own_at own (map (word_of naming) left) o new) (none_left own.slots 0) joined)
    thread_joined (Some ref) under left on have ranged joined =
        slot_joined ref under left (in_slot s.world ref.slot) (slice_index_or own.slots ref.slot CodeFree)
        (slot_matching texts tags naming s.world.slots own.slots ref.slot (r.matches.slots r.going)) on have ranged
        (subst (λ o. Joined texts own_at own (map (word_of naming) left) o new)
        (ap (λ w. left_from w 0 own.slots) (r.matches.threads_named ref) ∙ left_at ref own.slots 0 ref.slot (omega arith)) joined)

    a_thread : (t : BareType) (under : Stack) (v : Value) (left : List Value) → t ≡ ThreadType → HasType tags t v
        → ((o : Option ThreadRef) → v ≡ Started o → Alike (join s (v ∷ left)) new printed) → Alike (join s (v ∷ left)) new printed
    a_thread t under v left is hv k = by v (subst (λ u. HasType tags u v) is hv) k
      where
        by : (v : Value) → HasType tags ThreadType v → ((o : Option ThreadRef) → v ≡ Started o → Alike (join s (v ∷ left)) new printed)
            → Alike (join s (v ∷ left)) new printed
        by (Number n) h k = absurd h
        by (Reference o) h k = absurd h
        by (Started o) h k = k o refl

    pub join_alike : Top h.matches.stack (λ t under. (t ≡ ThreadType) × Then (int ∷ under))
        → One f.state.stack (λ v under. Joined texts own_at own under (left_from v 0 own.slots) new) → Alike (join s values) new printed
    join_alike typed one =
        newest tags naming (λ t under. (t ≡ ThreadType) × Then (int ∷ under)) (λ v under. Joined texts own_at own under (left_from v 0 own.slots) new)
        (λ vs. Alike (join s vs) new printed)
        (λ t under v left p hv have rv ranged joined.
        a_thread t under v left p.0 hv (λ o is.
        subst (λ u. Alike (join s (u ∷ left)) new printed) (sym is)
        (thread_joined o under left p.1 have ranged
        (subst (λ u. Joined texts own_at own (map (word_of naming) left) (left_from (word_of naming u) 0 own.slots) new) is joined))))
        h.matches.stack values typed h.matches.values_have h.matches.ranged
        (subst (λ ws. One ws (λ v under. Joined texts own_at own under (left_from v 0 own.slots) new)) h.matches.words one)

    -- ---- a call

    pub call_alike : (name : Bytes) (n : ℕ) → IsFunction (look name) → length (parameter_types (look name)) ≡ n
        → Pops (reverse (parameter_types (look name))) h.matches.stack (λ under. Then (result_type (look name) ∷ under))
        → new ≡ with_thread s.slot (called own_at name n) own → Alike (call s name n values) new printed
    call_alike name n function count pops is =
        let types = parameter_types (look name) in
        let both = taken_of tags (reverse types) h.matches.stack (λ under. Then (result_type (look name) ∷ under)) values pops h.matches.values_have in
        let long : length (reverse types) ≡ n = length-reverse types ∙ count in
        let enter : Enter = record { function = name; arguments = reverse (take n values); version = s.frame.version } in
        record {
          after = with_source_thread s.slot (record (gone_on s (drop n values)) { entering = Some enter }) s.world;
          is = refl;
          output = silent s.world.output printed none;
          matches =
              subst (WorldMatches texts names (with_source_thread s.slot (record (gone_on s (drop n values)) { entering = Some enter }) s.world)) (sym is)
              (done texts names s.world naming _ (with_thread s.slot (called own_at name n) own)
              (changed texts names s.world naming s.world own start s.slot (Live (record (gone_on s (drop n values)) { entering = Some enter }))
              (CodeLive (called own_at name n))
              (record {
                serial = h.serial;
                depth = h.depth;
                next = (
                  record {
                    function = refl;
                    version = h.version;
                    typed = record {
                      known = h.known;
                      function = function;
                      arguments = subst (λ ts. HaveTypes tags ts (reverse (take n values))) (reverse-reverse types)
                          (reversed_have tags (reverse types) (take n values)
                          (subst (λ m. HaveTypes tags (reverse types) (take m values)) long both.taken));
                    };
                    arguments =
                        ap (λ ws. reverse (take n ws)) h.matches.words ∙ ap reverse (words_take (word_of naming) n values)
                        ∙ words_reverse (word_of naming) (take n values);
                    ranged = ranged_reverse (take n values) (ranged_take n values h.matches.ranged);
                  },
                  (
                    (
                      record { function = h.function; version = h.version; standing = refl; known = h.known },
                      record {
                        stack = both.left.under;
                        env = h.matches.env;
                        coded = both.left.holds;
                        values_have = subst (λ m. HaveTypes tags both.left.under (drop m values)) long both.left.have;
                        scopes_have = h.matches.scopes_have;
                        ranged = ranged_drop n values h.matches.ranged;
                        words = ap (drop n) h.matches.words ∙ words_drop (word_of naming) n values;
                        variables = h.matches.variables;
                        room = h.matches.room;
                      },
                    ),
                    h.below,
                  ),
                );
              })));
        }
