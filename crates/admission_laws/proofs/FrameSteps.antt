-- Where a thread stands after its stop.
use Rattle.std.proofs.Common.{◌≡◌, ◌≢◌, ℕ, true, false, not, ◌&&◌, List, [], ◌∷◌, Contains, is_some, slice_get, Option, Some, None, refl, sym, ap, subst, ◌∙◌}
use Rattle.std.specs.Option.{option_and_then}
use Rattle.std.specs.Prelude.{nat_lt}
use Rattle.std.proofs.lemmas.Bool.{false≢true}
use Rattle.std.proofs.lemmas.List.Elements.{Contains-push}
use Rattle.std.proofs.lemmas.Option.{none-some, same_Some}
use Rattle.run_types.specs.CheckIns.{CheckInKind}
use Rattle.run_types.specs.CheckIns as check_in
use Rattle.run_types.specs.Skeleton.{Skeleton, Point, PointKind, CheckIn, Leads, after, reached, reached_by, point_at, kind_at, check_in_at, check_in_of, check_in_after, successors, depth_after}
use Rattle.run_types.specs.Skeleton as kind
use Rattle.c_tree.specs.BareExpr.{Bytes}
use Rattle.c_semantics.specs.Values.{Value}
use Rattle.c_semantics.specs.Stops.{Stop, Call, Return, Join, kind_of}
use Rattle.c_semantics.specs.Pieces.{Piece, Scopes, Stopped}
use Rattle.c_semantics.specs.Skeletons.{skeleton, is_check_in_kind}
use Rattle.c_semantics.specs.SkeletonLaws.{GoesAlong, StopsAt, stopped}
use Rattle.c_semantics.specs.SourceTexts.{Text}
use Rattle.c_semantics.specs.Store.{Body, store}
use Rattle.c_semantics.specs.Threads.{Frame, Enter, Record, next_of}
use Rattle.effects.specs.Sites.{Site, IsKind, Next, Passes, after_call, stays}
use Rattle.effects.proofs.Points.{IsPoint, kind_is_point, of_is_point, passes_is_point}
use Rattle.source_model.specs.Versions.{Table}
use Rattle.source_model.specs.Guards.{Seat, leads}
use Rattle.source_model.specs.Uses.{is_right}
use Rattle.admission_laws.specs.SoundTexts.{AllShaped}
use Rattle.admission_laws.specs.Stacks.{Level, AtCall, Stacked, MayUse}
use Rattle.admission_laws.specs.Stacks as stacks
use Rattle.admission_laws.specs.Standing.{Sits, Wait, Behind, Placed, StandsAt}
use Rattle.admission_laws.specs.Standing as standing
use Rattle.admission_laws.specs.InTransactions.{InTransaction, keeps_depth}
use Rattle.admission_laws.proofs.Outcomes.{goes_along}
use Rattle.admission_laws.proofs.Turns.{at_stop}
use Rattle.admission_laws.proofs.PointFacts.{has_kind, point_of, is_kind_at, kind_of_site, passes_kind, next_at}
use Rattle.admission_laws.proofs.StackUses.{above_of, stacked_at}
use Rattle.admission_laws.proofs.Covering.{onward, further, out_of, covered_of}
use Rattle.admission_laws.proofs.Depths.{check_in_still, depth_next, return_depth}
use Rattle.admission_laws.proofs.TransactionSteps.{depth_parts, returns_there}
use Rattle.admission_laws.proofs.TransactionMoves.{Within, keeps_by}

-- ---- stops by kind

stop_is_no_check_in : (x : Stop) → not (is_check_in_kind (kind_of x)) ≡ true
stop_is_no_check_in Join = refl
stop_is_no_check_in _ = refl

stays_along : (x : Stop) → goes_along x ≡ true → stays (kind_of x) ≡ true
stays_along (Call name n) h = absurd (false≢true h)
stays_along Return h = absurd (false≢true h)
stays_along _ h = refl

leads_along : (x : Stop) (fs : List Frame) → goes_along x ≡ true → leads x fs ≡ is_some (check_in_after (kind_of x))
leads_along (Call name n) fs h = absurd (false≢true h)
leads_along Return fs h = absurd (false≢true h)
leads_along _ fs h = refl

no_return : (x : Stop) → goes_along x ≡ true → x ≢ Return
no_return x h e = false≢true (sym (ap goes_along e) ∙ h)

call_is_no_return : (name : Bytes) (n : ℕ) → Call name n ≢ Return
call_is_no_return name n e = cc

-- a check-in is a point of that kind
check_in_kind : (s : Skeleton) (n : ℕ) (k : CheckInKind) → check_in_at s n ≡ Some k → kind_at s n ≡ Some (CheckIn k)
check_in_kind s n k h = by (kind_at s n) h
  where
    of_kind : (p : PointKind) → check_in_of p ≡ Some k → p ≡ CheckIn k
    of_kind (CheckIn j) e = ap CheckIn (same_Some _ _ e)
    of_kind _ e = absurd (none-some k e)

    by : (o : Option PointKind) → option_and_then check_in_of o ≡ Some k → o ≡ Some (CheckIn k)
    by None e = absurd (none-some k e)
    by (Some p) e = ap Some (of_kind p e)

-- a point of a stored body
pub point_there : (bodies : List Body) (p : Site) (b : Body) → slice_get bodies p.body ≡ Some b → IsPoint bodies p
    → (at : Point) × (point_at b.skeleton p.point ≡ Some at)
point_there bodies p b stored x = (x.point, sym (point_of bodies p b stored) ∙ x.is_point)

pub is_point_of : (bodies : List Body) (p : Site) (below : List Level) → Stacked bodies p below → IsPoint bodies p
is_point_of bodies _ _ (stacks.bottom p f x) = of_is_point bodies p f x
is_point_of bodies _ _ (stacks.above p f c below x call under) = of_is_point bodies p f x

-- ---- the stop of a frame, as a site

-- the site of point n in the body of another site
abbrev pub at_point : Site → ℕ → Site
at_point p n = record { body = p.body; point = n }

pub record StopsThere (texts : List Text) (table : Table) (f : Frame) (fs : List Frame) (depth : ℕ) (uses : Record) (seat : Seat)
    (st : StandsAt texts table f fs None depth uses seat) (x : Stop) (n : ℕ) : Type 0 where
  pub stop : StopsAt st.sits.body.skeleton st.site.point x n
  pub next : Next (store texts) st.site (at_point st.site n)
  pub kind : IsKind (store texts) (at_point st.site n) (kind_of x)
  pub behind : Behind (store texts) st.mark (at_point st.site n)
  pub stacked : Stacked (store texts) (at_point st.site n) st.levels

module _ (goes : GoesAlong) (texts : List Text) (table : Table) (f : Frame) (fs : List Frame) (depth : ℕ) (uses : Record) (seat : Seat)
    (st : StandsAt texts table f fs None depth uses seat) (passed : seat.at_check_in ≡ false) (x : Stop) (n : ℕ) (rest : List Piece)
    (values : List Value) (scopes : Scopes) (halts : next_of f ≡ Stopped x n rest values scopes) where
  stops_at : StopsAt st.sits.body.skeleton st.site.point x n
  stops_at =
      subst (λ s. StopsAt s st.site.point x n) (sym st.sits.skeleton_is)
      (subst (λ a. StopsAt (skeleton st.sits.code) a x n) (sym st.point)
      (goes st.sits.code st.sits.result _ st.sits.depth f.pieces f.values f.scopes x n rest values scopes st.sits.comes halts))

  pub stops_there : StopsThere texts table f fs depth uses seat st x n
  stops_there =
      let bodies = store texts in
      let to = has_kind st.sits.body.skeleton n (kind_of x) stops_at.kind in
      let from = point_there bodies st.site st.sits.body st.sits.stored (is_point_of bodies st.site st.levels st.stacked) in
      let is_kind : IsKind bodies (at_point st.site n) (kind_of x) =
      is_kind_at bodies (at_point st.site n) st.sits.body (kind_of x) st.sits.stored stops_at.kind in
      let next : Next bodies st.site (at_point st.site n) =
      next_at bodies st.site (at_point st.site n) st.sits.body from.0 to.at st.sits.stored refl stops_at.leads from.1 to.here in
      record {
        stop = stops_at;
        next = next;
        kind = is_kind;
        behind = onward bodies st.mark st.site (at_point st.site n) f.version
            (subst (Placed bodies st.mark st.site f.version None) passed st.placed) next;
        stacked = stacked_at bodies st.site (at_point st.site n) st.levels st.stacked refl
            (kind_is_point bodies (at_point st.site n) (kind_of x) is_kind);
      }

-- the check-in that follows a stop
pub record FollowedBy (texts : List Text) (p : Site) (n : ℕ) : Type 0 where
  pub next : Next (store texts) (at_point p n) (at_point p (after n))
  pub check_in : Passes (store texts) (at_point p (after n)) (λ at. is_check_in_kind at.kind)

pub followed_by : (texts : List Text) (p : Site) (b : Body) (x : Stop) (n : ℕ) (k : CheckInKind) → slice_get (store texts) p.body ≡ Some b
    → StopsAt b.skeleton p.point x n → check_in_after (kind_of x) ≡ Some k → FollowedBy texts p n
followed_by texts p b x n k stored stop e =
    let bodies = store texts in
    let from = has_kind b.skeleton n (kind_of x) stop.kind in
    let is_check_in : kind_at b.skeleton (after n) ≡ Some (CheckIn k) = check_in_kind b.skeleton (after n) k (stop.check_in ∙ e) in
    let to = has_kind b.skeleton (after n) (CheckIn k) is_check_in in
    record {
      next = next_at bodies (at_point p n) (at_point p (after n)) b from.at to.at stored refl
          (record { leads = subst (λ ns. Contains ns (after n)) (sym (stop.passes k e)) (Contains-push [] (after n)) }) from.here to.here;
      check_in = passes_kind bodies (at_point p (after n)) (CheckIn k) is_check_in_kind
          (is_kind_at bodies (at_point p (after n)) b (CheckIn k) stored is_check_in) refl;
    }

-- ---- after the stop

-- the point to which a stop leads
reached_after : (s : Skeleton) (x : Stop) (n : ℕ) → kind_at s n ≡ Some (kind_of x) → reached s n ≡ reached_by (check_in_after (kind_of x)) n
reached_after s x n h = ap (λ o. reached_by (option_and_then check_in_after o) n) h

module _ (goes : GoesAlong) (texts : List Text) (table : Table) (f : Frame) (fs : List Frame) (depth : ℕ) (uses : Record) (seat : Seat)
    (st : StandsAt texts table f fs None depth uses seat) (passed : seat.at_check_in ≡ false) (x : Stop) (n : ℕ) (rest : List Piece)
    (values : List Value) (scopes : Scopes) (halts : next_of f ≡ Stopped x n rest values scopes) where
  -- the frame after a stop other than a return goes through the same body
  abbrev pub sits_after : (more : List Value) → x ≢ Return → Sits texts (record (at_stop f n rest values scopes) { values = more }) st.site.body
  sits_after more not_return =
      let s = st.sits in record {
        body = s.body;
        found = s.found;
        function_is = s.function_is;
        generation_is = s.generation_is;
        stored = s.stored;
        code = s.code;
        result = s.result;
        skeleton_is = s.skeleton_is;
        depth = depth_after (kind_of x) s.depth;
        comes = stopped _ s.depth f.pieces f.values f.scopes x n rest values scopes s.comes not_return halts;
        version = s.version;
        calls = s.calls;
        spawns = s.spawns;
      }

  abbrev there : StopsThere texts table f fs depth uses seat st x n
  there = stops_there goes texts table f fs depth uses seat st passed x n rest values scopes halts

  is_kind_in : kind_at (skeleton st.sits.code) n ≡ Some (kind_of x)
  is_kind_in = subst (λ s. kind_at s n ≡ Some (kind_of x)) st.sits.skeleton_is there.stop.kind

  -- in the transactions of which is known what they are there, by whether a check-in follows
  pub goes_stands : (more : List Value) (seat' : Seat) (depth' : ℕ) (uses' : Record) → goes_along x ≡ true → seat'.mark ≡ seat.mark
      → seat'.at_check_in ≡ leads x fs
      → (check_in_after (kind_of x) ≡ None → Within texts table depth' uses' seat'.pinned (at_point st.site n) None st.levels)
      → ((q : Site) → Stacked (store texts) q st.levels → Next (store texts) (at_point st.site n) q
      → Within texts table depth' uses' seat'.pinned q None st.levels)
      → StandsAt texts table (record (at_stop f n rest values scopes) { values = more }) fs None depth' uses' seat'
  goes_stands more seat' depth' uses' along same_mark leading remains led = by (check_in_after (kind_of x)) refl
    where
      by : (o : Option CheckInKind) → check_in_after (kind_of x) ≡ o
          → StandsAt texts table (record (at_stop f n rest values scopes) { values = more }) fs None depth' uses' seat'
      by None e = record {
        site = at_point st.site n;
        sits = sits_after more (no_return x along);
        point = sym (reached_after (skeleton st.sits.code) x n is_kind_in ∙ ap (λ o. reached_by o n) e);
        levels = st.levels;
        wait = st.wait;
        stacked = there.stacked;
        mark = st.mark;
        marked = same_mark ∙ st.marked;
        placed =
            subst (Placed (store texts) st.mark (at_point st.site n) f.version None)
            (sym (leading ∙ leads_along x fs along ∙ ap is_some e))
            (standing.stopped there.behind
            (passes_kind (store texts) (at_point st.site n) (kind_of x) (λ k. not (is_check_in_kind k)) there.kind (stop_is_no_check_in x))
            (passes_kind (store texts) (at_point st.site n) (kind_of x) stays there.kind (stays_along x along)));
        right = λ u name h. st.right u name (stacks.later st.site (at_point st.site n) f.version st.levels u name there.next h);
        still = passes_kind (store texts) (at_point st.site n) (kind_of x) keeps_depth there.kind (keeps_by (kind_of x) e);
        own = (remains e).0;
        transaction = (remains e).1;
      }
      by (Some k) e =
          let follows = followed_by texts st.site st.sits.body x n k st.sits.stored there.stop e in
          let stacked' = stacked_at (store texts) (at_point st.site n) (at_point st.site (after n)) st.levels there.stacked refl
          (passes_is_point (store texts) (at_point st.site (after n)) _ follows.check_in) in
          let within = led (at_point st.site (after n)) stacked' follows.next in
          record {
            site = at_point st.site (after n);
            sits = sits_after more (no_return x along);
            point = sym (reached_after (skeleton st.sits.code) x n is_kind_in ∙ ap (λ o. reached_by o n) e);
            levels = st.levels;
            wait = st.wait;
            stacked = stacked';
            mark = st.mark;
            marked = same_mark ∙ st.marked;
            placed =
                subst (Placed (store texts) st.mark (at_point st.site (after n)) f.version None)
                (sym (leading ∙ leads_along x fs along ∙ ap is_some e))
                (standing.coming
                (covered_of (store texts) st.mark (at_point st.site (after n))
                (further (store texts) st.mark (at_point st.site n) (at_point st.site (after n)) there.behind
                (passes_kind (store texts) (at_point st.site n) (kind_of x) (λ k. not (is_check_in_kind k)) there.kind (stop_is_no_check_in x))
                (passes_kind (store texts) (at_point st.site n) (kind_of x) stays there.kind (stays_along x along)) follows.next))
                follows.check_in);
            right = λ u name h.
                st.right u name
                (stacks.later st.site (at_point st.site n) f.version st.levels u name there.next
                (stacks.later (at_point st.site n) (at_point st.site (after n)) f.version st.levels u name follows.next h));
            still = check_in_still (store texts) (at_point st.site (after n)) follows.check_in;
            own = within.0;
            transaction = within.1;
          }

  -- a call: its enter is due, at the call
  pub calls_stands : (more : List Value) (seat' : Seat) (depth' : ℕ) (uses' : Record) (e : Enter) (k : ℕ) → x ≡ Call e.function k → e.version ≡ f.version
      → seat'.mark ≡ seat.mark → seat'.at_check_in ≡ leads x fs
      → Within texts table depth' uses' seat'.pinned (at_point st.site n) (Some e) st.levels
      → StandsAt texts table (record (at_stop f n rest values scopes) { values = more }) fs (Some e) depth' uses' seat'
  calls_stands more seat' depth' uses' e k is version same_mark leading within =
      let follows =
      followed_by texts st.site st.sits.body x n check_in.Call st.sits.stored there.stop (ap (λ y. check_in_after (kind_of y)) is) in
      record {
        site = at_point st.site n;
        sits = sits_after more (λ r. call_is_no_return e.function k (sym is ∙ r));
        point = refl;
        levels = st.levels;
        wait = st.wait;
        stacked = there.stacked;
        mark = st.mark;
        marked = same_mark ∙ st.marked;
        placed =
            subst (Placed (store texts) st.mark (at_point st.site n) f.version (Some e)) (sym (leading ∙ ap (λ y. leads y fs) is))
            (standing.calling e there.behind (record {
              call = subst (λ y. IsKind (store texts) (at_point st.site n) (kind_of y)) is there.kind;
              next = follows.next;
              check_in = follows.check_in;
            }) version);
        right = λ u name h. st.right u name (stacks.later st.site (at_point st.site n) f.version st.levels u name there.next h);
        still = passes_kind (store texts) (at_point st.site n) (kind_of x) keeps_depth there.kind (ap (λ y. keeps_depth (kind_of y)) is);
        own = within.0;
        transaction = within.1;
      }

-- the frame below, after the return to it
pub returns_stands : (texts : List Text) (shaped : AllShaped (store texts)) (table : Table) (f : Frame) (fs : List Frame) (depth : ℕ) (uses : Record)
    (seat : Seat) (st : StandsAt texts table f fs None depth uses seat) (x : Stop) (n : ℕ) → StopsThere texts table f fs depth uses seat st x n
    → x ≡ Return → (g : Frame) (gs : List Frame) → fs ≡ g ∷ gs → (more : List Value) (seat' : Seat) (depth' : ℕ) (uses' : Record)
    → seat'.mark ≡ seat.mark → seat'.at_check_in ≡ true → seat'.pinned ≡ (seat.pinned && nat_lt 0 depth')
    → InTransaction texts table depth' uses' seat.pinned (at_point st.site n) st.own None st.levels
    → StandsAt texts table (record g { values = more }) gs None depth' uses' seat'
returns_stands texts shaped table f fs depth uses seat st x n there is g gs below more seat' depth' uses' same_mark coming_there same_pin transaction =
    by st.levels (subst (λ gs. Wait texts gs st.levels) below st.wait) there.stacked
    (λ u name h. st.right u name (stacks.later st.site (at_point st.site n) f.version st.levels u name there.next h)) transaction
  where
    is_return : IsKind (store texts) (at_point st.site n) kind.Return
    is_return = subst (λ y. IsKind (store texts) (at_point st.site n) (kind_of y)) is there.kind

    by : (ls : List Level) → Wait texts (g ∷ gs) ls → Stacked (store texts) (at_point st.site n) ls
        → ((u : ℕ) (name : Bytes) → MayUse (store texts) (at_point st.site n) f.version ls u name → is_right table u name ≡ true)
        → InTransaction texts table depth' uses' seat.pinned (at_point st.site n) st.own None ls
        → StandsAt texts table (record g { values = more }) gs None depth' uses' seat'
    by _ (standing.one _ _ place ls sits waiting) stacked right inside =
        let bodies = store texts in
        let c = standing.level_of g place in
        let a = above_of bodies (at_point st.site n) c ls stacked in
        let is_call : kind_at (skeleton sits.code) g.standing ≡ Some (kind.Call a.function) =
        subst (λ s. kind_at s g.standing ≡ Some (kind.Call a.function)) sits.skeleton_is
        (kind_of_site bodies c.site sits.body (kind.Call a.function) sits.stored a.call.call) in
        let stacked' = stacked_at bodies c.site (after_call c.site) ls a.under refl (passes_is_point bodies (after_call c.site) _ a.call.check_in) in
        let in_caller = depth_parts bodies c.site ls inside.lower inside.lower_is in
        let in_none = subst (λ m. InTransaction texts table depth' uses' seat.pinned (at_point st.site n) m None (c ∷ ls))
        (return_depth bodies shaped (at_point st.site n) st.own is_return inside.here) inside in
        let after_it = returns_there texts table depth' uses' seat.pinned (at_point st.site n) c in_caller.own ls in_none stacked' a.call.next is_return
        in_caller.here (depth_next bodies shaped c.site (after_call c.site) (kind.Call a.function) in_caller.own a.call.next a.call.call in_caller.here) in
        record {
          site = after_call c.site;
          sits = record {
            body = sits.body;
            found = sits.found;
            function_is = sits.function_is;
            generation_is = sits.generation_is;
            stored = sits.stored;
            code = sits.code;
            result = sits.result;
            skeleton_is = sits.skeleton_is;
            depth = sits.depth;
            comes = sits.comes;
            version = sits.version;
            calls = sits.calls;
            spawns = sits.spawns;
          };
          point = sym (ap (λ o. reached_by (option_and_then check_in_after o) g.standing) is_call);
          levels = ls;
          wait = waiting;
          stacked = stacked';
          mark = st.mark;
          marked = same_mark ∙ st.marked;
          placed =
              subst (Placed bodies st.mark (after_call c.site) g.version None) (sym coming_there)
              (standing.coming
              (covered_of bodies st.mark (after_call c.site)
              (out_of bodies st.mark (at_point st.site n) c.site a.function there.behind
              (record { is_return = is_return; is_of = a.is_of }) a.call.call))
              a.call.check_in);
          right = λ u name h. right u name (stacks.returned (at_point st.site n) f.version c ls u name is_return h);
          still = check_in_still bodies (after_call c.site) a.call.check_in;
          own = in_caller.own;
          transaction = subst (λ b. InTransaction texts table depth' uses' b (after_call c.site) in_caller.own None ls) (sym same_pin) after_it;
        }
