-- Marks whose functions aren't among the names of the versions: their rows decide nothing.
use Rattle.std.proofs.Common.{◌≡◌, ℕ, zero, suc, ◌<◌, ◌≤◌, Bool, true, false, List, [], ◌∷◌, All, Contains, map, slice_get, Option, Some, None, refl, sym, ◌∙◌, ap, subst, length, bytes_eq}
use Rattle.std.specs.Prelude.{◌&&◌, ◌||◌, find, option_map, if◌then◌else◌}
use Rattle.std.specs.Option.{option_and_then, option_or}
use Rattle.std.specs.List.{list_any}
use Rattle.std.proofs.lemmas.List.Elements.{All-contains}
use Rattle.std.proofs.lemmas.Option.{get_or_from_slice_get, none-some, same_Some, slice_get-get_or, slice_get_within}
use Rattle.name_sets.specs.NameLists.{is_among, name_set}
use Rattle.name_sets.specs.Texts.{text_of}
use Rattle.run_types.specs.Skeleton.{Point, point_at}
use Rattle.c_tree.specs.BareExpr.{Bytes}
use Rattle.c_semantics.specs.Store.{Body, Mark, Start}
use Rattle.con_freeness.specs.Rows.{Names, Row, across, both, empty_row, first_of, least_common, meets, obstacle, verdict_from}
use Rattle.con_freeness.specs.Verdicts.{Concrete, Pinned}
use Rattle.source_model.specs.Guards.{Rules, in_force, in_transaction, pinned_from, row_in_force}
use Rattle.source_model.specs.Guards as guard
use Rattle.source_model.specs.Worlds.{World, alive_in}
use Rattle.effects.specs.Sites.{Site, IsEntry}
use Rattle.effects.specs.Rows.{AreRows, Covered, InConcrete, InFuture, InPrior, IsSet, covered, entering, passed, started}
use Rattle.sorted_names.proofs.Order.{among_set, first_among}
use Rattle.code_store.specs.Stored.{IsStoreOf, meant_body}
use Rattle.code_store.specs.declared.body.StoredBody.{StoredBody}
use Rattle.patch_build.proofs.Tables.{among, found}
use Rattle.offer_decision.proofs.Slots.{map_at}
use Rattle.resolved_tree.specs.Nodes.{Table, word}
use Rattle.resolved_tree.specs.declared.words.Word.{Word}
use Rattle.rows_in_force.specs.Origins as origin
use Rattle.rows_in_force.specs.declared.origin.Origin.TheVariants as origin_of
use Rattle.source_runner.specs.declared.queries.FrameAt.{FrameAt}
use Rattle.plain_engine.specs.declared.seat.Kept.TheVariants.{Empty, Started, Passed}
use Rattle.plain_engine.specs.Kept.{mark_in_frame, name_of}
use Rattle.plain_engine.specs.Seen.{IsOriginOf, mark_among, marked}

-- a slot of a guard, its mark by some names
abbrev pub seat_among : List Bytes → guard.Seat → guard.Seat
seat_among names s = record s { mark = mark_among names s.mark }

-- ---- whether a name is among some

later_among : (b c : Bool) → c ≡ true → (b || c) ≡ true
later_among true c e = refl
later_among false c e = e

untrue : (b : Bool) → (b ≡ true → ⊥) → b ≡ false
untrue true never = absurd (never refl)
untrue false never = refl

among_at : (names : List Bytes) (id : ℕ) (f : Bytes) → slice_get names id ≡ Some f → is_among names f ≡ true
among_at [] id f e = absurd (none-some f e)
among_at (n ∷ ns) zero f e = subst (λ z. is_among (n ∷ ns) z ≡ true) (same_Some n f e) (first_among n ns)
among_at (n ∷ ns) (suc id) f e = later_among (bytes_eq f n) (is_among ns f) (among_at ns id f e)

not_among : (names : List Bytes) (f : Bytes) → ¬ Contains names f → is_among names f ≡ false
not_among names f none = untrue (is_among names f) (λ e. none (found names f e))

-- ---- where the row of a slot comes from

module _ (t : Table) (names : List Bytes) (versions : ℕ) where
  pub start_known : (function : Option Word) (id : ℕ) → slice_get names id ≡ Some (name_of t function)
      → IsOriginOf t names versions (Started function) (Some (origin_of.Start id))
  start_known function id at = record {
    mark = λ bodies early.
        ap (λ b. if b then Some (Start (name_of t function)) else None) (among_at names id (name_of t function) at)
        ∙ ap (λ f. Some (Start f)) (sym (get_or_from_slice_get names id (name_of t function) [] at));
    known = λ o e. subst (λ o. origin.function_of o < length names) (same_Some (origin_of.Start id) o e)
        (slice_get_within names id (name_of t function) at);
  }

  pub start_unknown : (function : Option Word) → ¬ Contains names (name_of t function)
      → IsOriginOf t names versions (Started function) None
  start_unknown function none = record {
    mark = λ bodies early.
        ap (λ b. if b then Some (Start (name_of t function)) else None) (not_among names (name_of t function) none);
    known = λ o e. absurd (none-some o e);
  }

  pub frame_known : (f : FrameAt) (id version : ℕ) → slice_get names id ≡ Some (word t f.function)
      → (f.version ≤ versions → version ≡ f.version)
      → IsOriginOf t names versions (Passed (Some f)) (Some (origin_of.Passed id version f.point))
  frame_known f id version at same = record {
    mark = λ bodies early.
        ap (λ b. if b then Some (mark_in_frame t bodies f) else None) (among_at names id (word t f.function) at)
        ∙ ap (λ name. Some (origin.mark_at bodies name f.version f.point)) (sym (get_or_from_slice_get names id (word t f.function) [] at))
        ∙ ap (λ v. Some (origin.mark_at bodies (text_of names id) v f.point)) (sym (same early));
    known = λ o e. subst (λ o. origin.function_of o < length names) (same_Some (origin_of.Passed id version f.point) o e)
        (slice_get_within names id (word t f.function) at);
  }

  pub frame_unknown : (f : FrameAt) → ¬ Contains names (word t f.function) → IsOriginOf t names versions (Passed (Some f)) None
  frame_unknown f none = record {
    mark = λ bodies early.
        ap (λ b. if b then Some (mark_in_frame t bodies f) else None) (not_among names (word t f.function) none);
    known = λ o e. absurd (none-some o e);
  }

  pub nothing_kept : IsOriginOf t names versions Empty None
  nothing_kept = record { mark = λ bodies early. refl; known = λ o e. absurd (none-some o e) }

-- ---- the functions of the bodies are among the names

-- each body's function is
abbrev pub AreNamed : List Bytes → List Body → Type 0
AreNamed names bodies = (n : ℕ) (b : Body) → slice_get bodies n ≡ Some b → is_among names b.function ≡ true

pub stored_named : (names : List Bytes) (bodies : List Body) (stored : List StoredBody) → IsStoreOf names bodies stored → AreNamed names bodies
stored_named names bodies stored is n b at =
    let x = map_at (meant_body names) stored n b (ap (λ bs. slice_get bs n) is.meaning ∙ at) in
    let id = x.0.function in
    let own = is.named n x.0 (slice_get_within stored n x.0 x.1) in
    let known : id < length names =
    subst (λ (s : StoredBody). s.function < length names) (get_or_from_slice_get stored n x.0 x.0 x.1) own.named_function in
    subst (λ (b : Body). is_among names b.function ≡ true) x.2
    (among_at names id (text_of names id) (slice_get-get_or names id [] known))

-- two lists have the same of some names
abbrev Agree : List Bytes → Names → Names → Type 0
Agree names xs ys = (z : Bytes) → is_among names z ≡ true → is_among xs z ≡ is_among ys z

-- so have the sets of two rows
record Agrees (names : List Bytes) (a b : Row) : Type 0 where
  prior : Agree names a.prior b.prior
  future : Agree names a.future b.future
  concrete : Agree names a.concrete b.concrete

module _ (names : List Bytes) (bodies : List Body) (named : AreNamed names bodies) where
  -- so is that of a mark which covers something
  entry_named : (f : Bytes) (p : Site) → IsEntry bodies p f → is_among names f ≡ true
  entry_named f p e = by (slice_get bodies p.body) refl e.is_of.is_of
    where
      of_body : (b : Body) (o : Option Point) → option_map (λ at. b.function) o ≡ Some f → b.function ≡ f
      of_body b None is = absurd (none-some f is)
      of_body b (Some at) is = same_Some b.function f is

      by : (o : Option Body) → slice_get bodies p.body ≡ o
          → option_and_then (λ b. option_map (λ at. b.function) (point_at b.skeleton p.point)) o ≡ Some f → is_among names f ≡ true
      by None at is = absurd (none-some f is)
      by (Some b) at is =
          subst (λ z. is_among names z ≡ true) (of_body b (point_at b.skeleton p.point) is) (named p.body b at)

  covers_named : (m : Mark) (p : Site) → Covered bodies m p → is_among names (marked m) ≡ true
  covers_named _ _ (started f p e) = entry_named f p e
  covers_named _ _ (passed f generation number c p is covers) =
      subst (λ z. is_among names z ≡ true) is.function (named c.body is.body is.stored)

  same_row : (a : Row) → Agrees names a a
  same_row a = record { prior = λ z e. refl; future = λ z e. refl; concrete = λ z e. refl }

  none_of : (list : Names) (In : Bytes → Type 0) → IsSet list In → ((z : Bytes) → is_among names z ≡ true → In z → ⊥) → Agree names list []
  none_of list In is none z e = untrue (is_among list z) (λ there. none z e ((is.same z).0 there))

  module _ (rules : Rules) (are : AreRows rules.row) where
    unknown_row : (m : Mark) → is_among names (marked m) ≡ false → Agrees names (rules.row bodies m) empty_row
    unknown_row m unknown =
        let row = are bodies m in
        record {
          prior = none_of (rules.row bodies m).prior (InPrior bodies m) row.prior (λ z e h. never h.site h.covered);
          future = none_of (rules.row bodies m).future (InFuture bodies m) row.future (λ z e h. never h.site h.covered);
          concrete = none_of (rules.row bodies m).concrete (InConcrete bodies m) row.concrete (λ z e h. direct m z unknown e h never);
        }
      where
        never : (p : Site) → Covered bodies m p → ⊥
        never p c = let e = covers_named m p c in cc

        direct : (m : Mark) (z : Bytes) → is_among names (marked m) ≡ false → is_among names z ≡ true → InConcrete bodies m z
            → ((p : Site) → Covered bodies m p → ⊥) → ⊥
        direct _ _ unknown e (entering f) none = cc
        direct _ _ unknown e (covered m p z c u) none = none p c

    among_row : (m : Option Mark) → Agrees names (row_in_force rules bodies m) (row_in_force rules bodies (mark_among names m))
    among_row None = same_row empty_row
    among_row (Some m) = by (is_among names (marked m)) refl
      where
        by : (b : Bool) → is_among names (marked m) ≡ b
            → Agrees names (row_in_force rules bodies (Some m)) (row_in_force rules bodies (if b then Some m else None))
        by true e = same_row (rules.row bodies m)
        by false e = unknown_row m e

    -- ---- so the decision on changed names is the same without such marks

    find_same : (xs : Names) (p q : Bytes → Bool) → ((z : Bytes) → is_among xs z ≡ true → p z ≡ q z) → find p xs ≡ find q xs
    find_same [] p q h = refl
    find_same (x ∷ xs) p q h =
        ap (λ b. if b then Some x else find p xs) (h x (first_among x xs))
        ∙ ap (λ o. if q x then Some x else o)
        (find_same xs p q (λ z e. h z (later_among (bytes_eq z x) (is_among xs z) e)))

    any_same : (xs : Names) (p q : Bytes → Bool) → ((z : Bytes) → is_among xs z ≡ true → p z ≡ q z) → list_any p xs ≡ list_any q xs
    any_same [] p q h = refl
    any_same (x ∷ xs) p q h =
        ap (λ b. b || list_any p xs) (h x (first_among x xs))
        ∙ ap (λ b. q x || b) (any_same xs p q (λ z e. h z (later_among (bytes_eq z x) (is_among xs z) e)))

    known_of : (list : Names) → All (Contains names) list → (z : Bytes) → is_among list z ≡ true → is_among names z ≡ true
    known_of list all z e = among names z (All-contains (Contains names) list z all (found list z e))

    least_same : (list xs ys : Names) → All (Contains names) list → Agree names xs ys → least_common list xs ≡ least_common list ys
    least_same list xs ys all same =
        find_same (name_set list) (is_among xs) (is_among ys)
        (λ z e. same z (known_of list all z (sym (among_set z list) ∙ e)))

    meets_same : (list xs ys : Names) → All (Contains names) list → Agree names xs ys → meets list xs ≡ meets list ys
    meets_same list xs ys all same = any_same list (is_among xs) (is_among ys) (λ z e. same z (known_of list all z e))

    module _ (changed interface : Names) (changed_known : All (Contains names) changed) (interface_known : All (Contains names) interface) where
      across_same : (pinned : Bool) (a b : Row) → Agrees names a b → across a pinned changed ≡ across b pinned changed
      across_same true a b same = ap (option_map Pinned) (least_same changed a.future b.future changed_known same.future)
      across_same false a b same =
          ap (λ o. both o (least_common changed a.future)) (least_same changed a.prior b.prior changed_known same.prior)
          ∙ ap (both (least_common changed b.prior)) (least_same changed a.future b.future changed_known same.future)

      obstacle_same : (pinned : Bool) (a b : Row) → Agrees names a b → obstacle a pinned changed interface ≡ obstacle b pinned changed interface
      obstacle_same pinned a b same =
          ap (λ o. option_or (option_map Concrete o) (across a pinned changed))
          (least_same interface a.concrete b.concrete interface_known same.concrete)
          ∙ ap (option_or (option_map Concrete (least_common interface b.concrete))) (across_same pinned a b same)

      pub verdict_same : (n : ℕ) (ss : List guard.Seat)
          → verdict_from n (map (in_force rules bodies) (map (seat_among names) ss)) changed interface
          ≡ verdict_from n (map (in_force rules bodies) ss) changed interface
      verdict_same n [] = refl
      verdict_same n (s ∷ ss) =
          let known = row_in_force rules bodies (mark_among names s.mark) in
          let own = row_in_force rules bodies s.mark in
          ap (λ o. first_of n o (verdict_from (suc n) (map (in_force rules bodies) (map (seat_among names) ss)) changed interface))
          (sym (obstacle_same s.pinned own known (among_row s.mark)))
          ∙ ap (first_of n (obstacle own s.pinned changed interface)) (verdict_same (suc n) ss)

      pub pins_same : (w : World) (n : ℕ) (ss : List guard.Seat)
          → map (λ (s : guard.Seat). s.pinned) (pinned_from rules bodies changed w n (map (seat_among names) ss))
          ≡ map (λ (s : guard.Seat). s.pinned) (pinned_from rules bodies changed w n ss)
      pins_same w n [] = refl
      pins_same w n (s ∷ ss) =
          let rest = map (λ (x : guard.Seat). x.pinned) (pinned_from rules bodies changed w (suc n) (map (seat_among names) ss)) in
          let own = row_in_force rules bodies s.mark in
          ap (λ m. (s.pinned || (in_transaction (alive_in w n) && m)) ∷ rest)
          (sym (meets_same changed own.prior (row_in_force rules bodies (mark_among names s.mark)).prior changed_known (among_row s.mark).prior))
          ∙ ap (λ ps. (s.pinned || (in_transaction (alive_in w n) && meets changed own.prior)) ∷ ps) (pins_same w (suc n) ss)
