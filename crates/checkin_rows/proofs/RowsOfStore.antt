-- The rows of the marks are those of the check-ins and of the starts of the store.
use Rattle.std.proofs.Common.{◌≡◌, ◌↔◌, ℕ, zero, suc, ◌+◌, ◌<◌, ◌⊎◌, inl, inr, Bool, true, false, List, [], ◌∷◌, Option, Some, None, length, get_or, refl, sym, ap, subst, ◌∙◌, arith, if◌then◌else◌}
use Rattle.std.specs.Prelude.{Contains, ◌==◌, slice_get, slice_index}
use Rattle.std.specs.Option.{option_and_then}
use Rattle.std.proofs.lemmas.Bool.Decides.{nat_tests}
use Rattle.std.proofs.lemmas.List.Elements.{Contains-append_left, Contains-append_right, Contains-append_cases}
use Rattle.std.proofs.lemmas.List.Sums.{count_by_more_no, count_by_more_yes}
use Rattle.std.proofs.lemmas.Option.{same_Some, slice_get_within, slice_get-get_or, get_or_from_slice_get}
use Rattle.name_sets.specs.IdSet.{Holds}
use Rattle.name_sets.specs.Texts.{text_of}
use Rattle.run_types.specs.Skeleton.{Point, point_at}
use Rattle.c_tree.specs.BareExpr.{Bytes}
use Rattle.c_semantics.specs.Skeletons.{is_check_in_kind}
use Rattle.c_semantics.specs.Store.{Body, check_in_number}
use Rattle.skeletons.specs.Meaning.{kind_of}
use Rattle.skeletons.specs.Meaning as meaning
use Rattle.effects.specs.Sites.{Site, IsEntry, point_in}
use Rattle.effects.specs.Rows.{IsCheckIn}
use Rattle.effect_flow.specs.declared.flow.FlowPoint.{FlowPoint}
use Rattle.effect_flow.specs.Parts.{Contents}
use Rattle.effect_flow.specs.Flows.{IsFlowOf, place_of, points_before}
use Rattle.effect_flow.proofs.Places.{site, item_at, place_of_point, point_of_place}
use Rattle.effect_flow.proofs.FlowPoints.{IsAt, point_at_place, site_at, entry_at, place_if_of, place_if_passes}
use Rattle.contextual_effects.specs.Effects.{HasNames}
use Rattle.contextual_effects.proofs.Concatenations.{contained_in_parts, parts_contain}
use Rattle.contextual_effects.proofs.NodesOfPoints.{Setting, here}
use Rattle.effects.proofs.RowEquations.{From, RowFlows}
use Rattle.effects.proofs.MarkEquations.{OfCheckIn}
use Rattle.checkin_rows.specs.declared.row.Mark.TheVariants as mark
use Rattle.checkin_rows.specs.declared.entries.Entry.{Entry}
use Rattle.checkin_rows.specs.Edges.{is_check_in}
use Rattle.checkin_rows.specs.Marks.{check_ins_here, check_ins_to, check_ins_before, start_at, check_in_at, there, entries_at, entries_of}
use Rattle.checkin_rows.specs.Steps.{IsFound}
use Rattle.checkin_rows.proofs.RowSystem.{Code}
use Rattle.checkin_rows.proofs.RowSystem as system

num : (n : ℕ) → (n == 0) ≡ true ↔ (n ≡ 0)
num n = (λ e. to n e, λ e. from n e)
  where
    to : (n : ℕ) → (n == 0) ≡ true → n ≡ 0
    to n e = grind (arith, nat_tests)

    from : (n : ℕ) → n ≡ 0 → (n == 0) ≡ true
    from n e = grind (arith, nat_tests)

not_zero : (n : ℕ) → (n ≡ 0 → ⊥) → (n == 0) ≡ false
not_zero n e = grind (arith, nat_tests)

-- ---- the numbers of check-ins

-- the test of a point of a flow is that of its body's point
test_at : {names : List Bytes} {bodies : List Body} {flow : Contents} {p : Site} {i : ℕ} {x : FlowPoint} → IsAt names bodies flow p i x
    → is_check_in_kind (kind_of names x.point.kind) ≡ is_check_in x.point.kind
test_at {names} {x = x} a = system.same_test names x.point.kind

-- a check-in has the number that the points before it give it
counted : {names : List Bytes} {bodies : List Body} {flow : Contents} → IsFlowOf names bodies flow
    → (n : ℕ) (p : Site) (i : ℕ) (x : FlowPoint) → p.point ≡ n → (a : IsAt names bodies flow p i x)
    → check_ins_here (check_ins_before flow.points i) x ≡ check_in_number a.body n
counted {flow = flow} f zero p i x first a =
    ap (λ b. if b then 0 else check_ins_before flow.points i) ((num x.number).1 (a.number ∙ first))
counted {names} {bodies} {flow} f (suc n) p i x next a =
    let here : point_at a.body.skeleton (suc n) ≡ Some (meaning.point_of names x.point) = ap (λ n. point_at a.body.skeleton n) (sym next) ∙ a.is_point in
    let l : suc n < length a.body.skeleton.points = slice_get_within a.body.skeleton.points (suc n) (meaning.point_of names x.point) here in
    let one = item_at a.body.skeleton.points n (omega arith) in
    let before : point_in bodies (site p.body n) ≡ Some one.0 = ap (option_and_then (λ b. point_at b.skeleton n)) a.stored ∙ one.1 in
    let place = place_of_point bodies (site p.body n) one.0 before in
    let y = point_at_place {p = site p.body n} {i = points_before bodies p.body + n} f place in
    let sum = point_of_place bodies p i a.place in
    let total : points_before bodies p.body + p.point ≡ i = sum.2 in
    let at : suc (points_before bodies p.body + n) ≡ i = omega arith in
    let same_body : y.1.body ≡ a.body = same_Some y.1.body a.body (sym y.1.stored ∙ a.stored) in
    let before_count = counted f n (site p.body n) (points_before bodies p.body + n) y.0 refl y.1 in
    by (points_before bodies p.body + n) y.0 y.1.found y.1.body same_body y.1.is_point before_count (test_at y.1) at l
  where
    by : (j : ℕ) (y : FlowPoint) → slice_get flow.points j ≡ Some y → (b : Body) → b ≡ a.body
        → point_at b.skeleton n ≡ Some (meaning.point_of names y.point)
        → check_ins_here (check_ins_before flow.points j) y ≡ check_in_number b n
        → is_check_in_kind (kind_of names y.point.kind) ≡ is_check_in y.point.kind → suc j ≡ i
        → suc n < length a.body.skeleton.points
        → check_ins_here (check_ins_before flow.points i) x ≡ check_in_number a.body (suc n)
    by j y found b same its_point before test at l =
        ap (λ t. if t then 0 else check_ins_before flow.points i) (not_zero x.number (λ z. differ (sym next ∙ sym a.number ∙ z)))
        ∙ ap (check_ins_before flow.points) (sym at)
        ∙ ap (check_ins_to (check_ins_before flow.points j)) found
        ∙ last (is_check_in y.point.kind) refl
      where
        differ : suc n ≡ 0 → ⊥
        differ e = cc

        points : List Point
        points = a.body.skeleton.points

        item : get_or a.body.skeleton.points n (meaning.point_of names y.point) ≡ meaning.point_of names y.point
        item = get_or_from_slice_get a.body.skeleton.points n (meaning.point_of names y.point) (meaning.point_of names y.point)
            (ap (λ b. point_at b.skeleton n) (sym same) ∙ its_point)

        before_here : check_ins_here (check_ins_before flow.points j) y ≡ check_in_number a.body n
        before_here = before ∙ ap (λ b. check_in_number b n) same

        more : suc n ≡ n + 1
        more = omega arith

        last : (t : Bool) → is_check_in y.point.kind ≡ t
            → check_ins_to (check_ins_before flow.points j) (Some y) ≡ check_in_number a.body (suc n)
        last true e =
            ap (λ t. if t then check_ins_here (check_ins_before flow.points j) y + 1 else check_ins_here (check_ins_before flow.points j) y) e
            ∙ ap (λ n. n + 1) before_here
            ∙ sym (ap (check_in_number a.body) more ∙ count_by_more_yes (λ p. is_check_in_kind p.kind) a.body.skeleton.points n (meaning.point_of names y.point) (omega arith)
            (ap (λ p. is_check_in_kind p.kind) item ∙ test ∙ e))
        last false e =
            ap (λ t. if t then check_ins_here (check_ins_before flow.points j) y + 1 else check_ins_here (check_ins_before flow.points j) y) e
            ∙ before_here
            ∙ sym (ap (check_in_number a.body) more ∙ count_by_more_no (λ p. is_check_in_kind p.kind) a.body.skeleton.points n (meaning.point_of names y.point) (omega arith)
            (ap (λ p. is_check_in_kind p.kind) item ∙ test ∙ e))

-- ---- the entries of marks

is_start : (points ids : ℕ) (x : FlowPoint) (e : Entry) → start_at points ids x ≡ Some e
    → (x.number ≡ 0) × (record { mark = mark.Start x.function; node = points + points + ids + x.function } ≡ e)
is_start points ids x e is = by (x.number == 0) refl is
  where
    by : (b : Bool) → (x.number == 0) ≡ b
        → (if b then Some (record { mark = mark.Start x.function; node = points + points + ids + x.function }) else None) ≡ Some e
        → (x.number ≡ 0) × (record { mark = mark.Start x.function; node = points + points + ids + x.function } ≡ e)
    by true z is = ((num x.number).0 z, same_Some (record { mark = mark.Start x.function; node = points + points + ids + x.function }) e is)
    by false z is = cc

is_check : (n i : ℕ) (x : FlowPoint) (e : Entry) → check_in_at n i x ≡ Some e
    → (is_check_in x.point.kind ≡ true) × (record { mark = mark.CheckIn x.function x.generation n; node = i } ≡ e)
is_check n i x e is = by (is_check_in x.point.kind) refl is
  where
    by : (b : Bool) → is_check_in x.point.kind ≡ b
        → (if b then Some (record { mark = mark.CheckIn x.function x.generation n; node = i }) else None) ≡ Some e
        → (is_check_in x.point.kind ≡ true) × (record { mark = mark.CheckIn x.function x.generation n; node = i } ≡ e)
    by true z is = (z, same_Some (record { mark = mark.CheckIn x.function x.generation n; node = i }) e is)
    by false z is = cc

in_there : (o : Option Entry) (e : Entry) → Contains (there o) e → o ≡ Some e
in_there None e c = absurd (none c.0 c.1)
  where
    none : (k : ℕ) → k < 0 → ⊥
    none k l = omega arith
in_there (Some x) e c = ap Some (only c.0 c.1 c.2)
  where
    only : (k : ℕ) → k < 1 → get_or (x ∷ []) k e ≡ e → x ≡ e
    only k l same = let zero : 0 ≡ k = omega arith in ap (λ n. get_or (x ∷ []) n e) zero ∙ same

there_in : (o : Option Entry) (e : Entry) → o ≡ Some e → Contains (there o) e
there_in o e is = subst (λ o. Contains (there o) e) (sym is) (0, omega arith, refl)

-- an entry is that of a point, a start or a check-in
record OfPlace (points ids : ℕ) (xs : List FlowPoint) (e : Entry) : Type 0 where
  place : ℕ
  point : FlowPoint
  at : slice_get xs place ≡ Some point
  is : (start_at points ids point ≡ Some e) ⊎ (check_in_at (check_ins_here (check_ins_before xs place) point) place point ≡ Some e)

of_place : (points ids : ℕ) (xs : List FlowPoint) (e : Entry) → Contains (entries_of points ids xs xs) e → OfPlace points ids xs e
of_place points ids xs e c =
    let y = contained_in_parts (entries_at points ids xs) 0 xs e c in
    let at : Contains (entries_at points ids xs y.place y.item) e = subst (λ i. Contains (entries_at points ids xs i y.item) e) (omega arith) y.contains in
    record {
      place = y.place;
      point = y.item;
      at = y.at;
      is = elim (Contains-append_cases (there (start_at points ids y.item)) (there (check_in_at (check_ins_here (check_ins_before xs y.place) y.item) y.place y.item)) e at) [
        | inl h ↦ inl (in_there (start_at points ids y.item) e h)
        | inr h ↦ inr (in_there (check_in_at (check_ins_here (check_ins_before xs y.place) y.item) y.place y.item) e h)
      ];
    }

among : (points ids : ℕ) (xs : List FlowPoint) (e : Entry) → OfPlace points ids xs e → Contains (entries_of points ids xs xs) e
among points ids xs e y =
    parts_contain (entries_at points ids xs) 0 xs e (record {
      place = y.place;
      item = y.point;
      at = y.at;
      contains = subst (λ i. Contains (entries_at points ids xs i y.point) e) (omega arith) here_it;
    })
  where
    here_it : Contains (entries_at points ids xs y.place y.point) e
    here_it = elim y.is [
      | inl h ↦ Contains-append_left (there (start_at points ids y.point)) (there (check_in_at (check_ins_here (check_ins_before xs y.place) y.point) y.place y.point)) e (there_in (start_at points ids y.point) e h)
      | inr h ↦ Contains-append_right (there (start_at points ids y.point)) (there (check_in_at (check_ins_here (check_ins_before xs y.place) y.point) y.place y.point)) e (there_in (check_in_at (check_ins_here (check_ins_before xs y.place) y.point) y.place y.point) e h)
    ]

-- ---- starts

start_mark : (f g : ℕ) → mark.Start f ≡ mark.Start g → f ≡ g
start_mark f g e = cc

not_check : (f g n h : ℕ) → mark.CheckIn f g n ≡ mark.Start h → ⊥
not_check f g n h e = cc

-- an entry of a start's mark has the node of the starts
start_entry : (points ids : ℕ) (xs : List FlowPoint) (id : ℕ) (e : Entry) → Contains (entries_of points ids xs xs) e → e.mark ≡ mark.Start id
    → e.node ≡ points + points + ids + id
start_entry points ids xs id e c same = by (of_place points ids xs e c)
  where
    by : OfPlace points ids xs e → e.node ≡ points + points + ids + id
    by y = elim y.is [
      | inl h ↦
          let k = is_start points ids y.point e h in
          let f : y.point.function ≡ id = start_mark y.point.function id (ap (λ e. e.mark) k.1 ∙ same) in
          sym (ap (λ e. e.node) k.1) ∙ ap (λ f. points + points + ids + f) f
      | inr h ↦
          let k = is_check (check_ins_here (check_ins_before xs y.place) y.point) y.place y.point e h in
          absurd (not_check y.point.function y.point.generation (check_ins_here (check_ins_before xs y.place) y.point) id (ap (λ e. e.mark) k.1 ∙ same))
    ]

-- a function with an entry has an entry of its start's mark
pub start_is_among : {names : List Bytes} {bodies : List Body} {flow : Contents} (points ids : ℕ) {f : Bytes} (id : ℕ) (e : Site) → IsFlowOf names bodies flow
    → slice_get names id ≡ Some f → IsEntry bodies e f
    → Contains (entries_of points ids flow.points flow.points) (record { mark = mark.Start id; node = points + points + ids + id })
start_is_among {names} {bodies} {flow} points ids {f} id e is_flow named at =
    let place = place_if_of at.is_of in
    let x = point_at_place {p = e} {i = place.0} is_flow place.1 in
    let k = (entry_at f x.1).0 at in
    let same : x.0.function ≡ id = is_flow.table.distinct x.0.function id f k.1 named in
    among points ids flow.points (record { mark = mark.Start id; node = points + points + ids + id }) (record {
      place = place.0;
      point = x.0;
      at = x.1.found;
      is = inl (ap (λ b. if b then Some (record { mark = mark.Start x.0.function; node = points + points + ids + x.0.function }) else None) ((num x.0.number).1 k.0)
          ∙ ap (λ f. Some (record { mark = mark.Start f; node = points + points + ids + f })) same);
    })

-- ---- check-ins

record SameCheck (f g n h k m : ℕ) : Type 0 where
  function : f ≡ h
  generation : g ≡ k
  number : n ≡ m

same_check : (f g n h k m : ℕ) → mark.CheckIn f g n ≡ mark.CheckIn h k m → SameCheck f g n h k m
same_check f g n h k m e = record { function = cc; generation = cc; number = cc }

-- an entry of a check-in's mark has the place of that check-in
record CheckEntry (bodies : List Body) (f : Bytes) (generation number i : ℕ) : Type 0 where
  site : Site
  place : place_of bodies site ≡ Some i
  is_check_in : IsCheckIn bodies site f generation number

check_entry : {names : List Bytes} {bodies : List Body} {flow : Contents} (points ids : ℕ) {f : Bytes} (id generation number : ℕ) (e : Entry)
    → IsFlowOf names bodies flow → slice_get names id ≡ Some f → Contains (entries_of points ids flow.points flow.points) e
    → e.mark ≡ mark.CheckIn id generation number → CheckEntry bodies f generation number e.node
check_entry {names} {bodies} {flow} points ids {f} id generation number e is_flow named c same = by (of_place points ids flow.points e c)
  where
    by : OfPlace points ids flow.points e → CheckEntry bodies f generation number e.node
    by y = elim y.is [
      | inl h ↦
          let k = is_start points ids y.point e h in
          absurd (not_check id generation number y.point.function (sym same ∙ sym (ap (λ e. e.mark) k.1)))
      | inr h ↦
          let k = is_check (check_ins_here (check_ins_before flow.points y.place) y.point) y.place y.point e h in
          let m = same_check y.point.function y.point.generation (check_ins_here (check_ins_before flow.points y.place) y.point) id generation number (ap (λ e. e.mark) k.1 ∙ same) in
          let q = site_at is_flow y.at in
          record {
            site = q.0;
            place = q.1.place ∙ ap (λ e. Some e.node) k.1;
            is_check_in = record {
              body = q.1.body;
              stored = q.1.stored;
              function = sym q.1.function ∙ ap (text_of names) m.function ∙ get_or_from_slice_get names id f [] named;
              of_generation = sym q.1.generation ∙ m.generation;
              is_check_in = (system.check_in_at q.1).1 k.0;
              counted = sym (counted is_flow q.0.point q.0 y.place y.point refl q.1) ∙ m.number;
            };
          }
    ]

-- a check-in has an entry of its mark
pub check_is_among : {names : List Bytes} {bodies : List Body} {flow : Contents} (points ids : ℕ) {f : Bytes} (id generation number : ℕ) (p : Site) (i : ℕ)
    → IsFlowOf names bodies flow → slice_get names id ≡ Some f → IsCheckIn bodies p f generation number → place_of bodies p ≡ Some i
    → Contains (entries_of points ids flow.points flow.points) (record { mark = mark.CheckIn id generation number; node = i })
check_is_among {names} {bodies} {flow} points ids {f} id generation number p i is_flow named is place =
    let x = point_at_place {p = p} {i = i} is_flow place in
    let body : x.1.body ≡ is.body = same_Some x.1.body is.body (sym x.1.stored ∙ is.stored) in
    let own : slice_get names x.0.function ≡ Some f = slice_get-get_or names x.0.function [] x.1.known.function ∙ ap Some (x.1.function ∙ ap (λ b. b.function) body ∙ is.function) in
    let function : x.0.function ≡ id = is_flow.table.distinct x.0.function id f own named in
    let its_generation : x.0.generation ≡ generation = x.1.generation ∙ ap (λ b. b.generation) body ∙ is.of_generation in
    let its_number : check_ins_here (check_ins_before flow.points i) x.0 ≡ number = counted is_flow p.point p i x.0 refl x.1 ∙ ap (λ b. check_in_number b p.point) body ∙ is.counted in
    among points ids flow.points (record { mark = mark.CheckIn id generation number; node = i }) (record {
      place = i;
      point = x.0;
      at = x.1.found;
      is = inr (ap (λ b. if b then Some (record { mark = mark.CheckIn x.0.function x.0.generation (check_ins_here (check_ins_before flow.points i) x.0); node = i }) else None) ((system.check_in_at x.1).0 is.is_check_in)
          ∙ ap (λ f. Some (record { mark = mark.CheckIn f x.0.generation (check_ins_here (check_ins_before flow.points i) x.0); node = i })) function
          ∙ ap (λ g. Some (record { mark = mark.CheckIn id g (check_ins_here (check_ins_before flow.points i) x.0); node = i })) its_generation
          ∙ ap (λ n. Some (record { mark = mark.CheckIn id generation n; node = i })) its_number);
    })

-- ---- the names of a component

-- what the entries of a check-in have
pub check_in_names : {names : List Bytes} {bodies : List Body} {flow : Contents} (points ids : ℕ) {f : Bytes} (id generation number : ℕ) {Own : Site → Bytes → Type 0}
    (sets : List ℕ) (set : ℕ) → IsFlowOf names bodies flow → slice_get names id ≡ Some f
    → ((p : Site) (i : ℕ) → place_of bodies p ≡ Some i → HasNames names (slice_index sets i) (RowFlows bodies Own (From p)))
    → ((i : ℕ) → Holds set i ↔ IsFound (entries_of points ids flow.points flow.points) sets (mark.CheckIn id generation number) i)
    → HasNames names set (OfCheckIn bodies Own f generation number)
check_in_names {names} {bodies} {flow} points ids {f} id generation number sets set is_flow named has found = record {
  only = λ i h.
      let x = (found i).0 h in
      let c = check_entry points ids id generation number x.entry is_flow named x.among x.of_mark in
      let y = (has c.site x.entry.node c.place).only i x.holds in
      (y.0, y.1, record { site = c.site; is_check_in = c.is_check_in; comes = y.2 });
  all = λ z x.
      let place = place_if_passes x.is_check_in.is_check_in in
      let y = (has x.site place.0 place.1).all z x.comes in (
        y.0,
        y.1,
        (found y.0).1 (record {
          entry = record { mark = mark.CheckIn id generation number; node = place.0 };
          among = check_is_among points ids id generation number x.site place.0 is_flow named x.is_check_in place.1;
          of_mark = refl;
          holds = y.2;
        }),
      );
}

-- what those of a start have
pub start_found : {names : List Bytes} {bodies : List Body} {flow : Contents} (points ids : ℕ) {f : Bytes} (id : ℕ) (e : Site) (sets : List ℕ) (i : ℕ)
    → IsFlowOf names bodies flow → slice_get names id ≡ Some f → IsEntry bodies e f
    → IsFound (entries_of points ids flow.points flow.points) sets (mark.Start id) i ↔ Holds (slice_index sets (points + points + ids + id)) i
start_found {flow = flow} points ids id e sets i is_flow named at = (
  λ x. subst (λ n. Holds (slice_index sets n) i) (start_entry points ids flow.points id x.entry x.among x.of_mark) x.holds,
  λ h. record {
    entry = record { mark = mark.Start id; node = points + points + ids + id };
    among = start_is_among points ids id e is_flow named at;
    of_mark = refl;
    holds = h;
  },
)

pub start_is_below : {names : List Bytes} {bodies : List Body} {flow : Contents} {points ids : ℕ} {f : Bytes} (id : ℕ) (e : Site)
    → Setting names bodies flow points ids → slice_get names id ≡ Some f → IsEntry bodies e f → id < ids
start_is_below {ids = ids} {f = f} id e s named at =
    let place = place_if_of at.is_of in
    let x = point_at_place {p = e} {i = place.0} s.is_flow place.1 in
    let k = (entry_at f x.1).0 at in
    let same : x.0.function ≡ id = s.is_flow.table.distinct x.0.function id f k.1 named in
    let l : x.0.function < ids = (here s x.1).known.function in
    omega arith
