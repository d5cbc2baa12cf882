-- Where a thread stands after an enter.
use Rattle.std.proofs.Common.{◌≡◌, ℕ, inl, inr, Bool, true, false, ◌&&◌, List, [], ◌∷◌, slice_get, le_refl, is_some, option_map, Some, None, refl, sym, ap, subst, ◌∙◌}
use Rattle.std.specs.Option.{option_and_then}
use Rattle.std.specs.Prelude.{nat_lt}
use Rattle.std.proofs.lemmas.List.{length-map}
use Rattle.run_types.specs.CheckIns as check_in
use Rattle.run_types.specs.Skeleton as kind
use Rattle.run_types.specs.Skeleton.{CheckIn, direct_use, kind_at, point_at, entry}
use Rattle.c_tree.specs.BareExpr.{Bytes}
use Rattle.c_semantics.specs.Texts.{result_type}
use Rattle.c_semantics.specs.Resolution.{resolved_body}
use Rattle.c_semantics.specs.Skeletons.{skeleton, is_check_in_kind}
use Rattle.c_semantics.specs.SkeletonLaws.{Comes}
use Rattle.c_semantics.specs.SkeletonLaws as along
use Rattle.c_semantics.specs.SourceTexts.{Text}
use Rattle.c_semantics.specs.Standing.{stands_at}
use Rattle.c_semantics.specs.Store.{Body, Mark, Start, store}
use Rattle.c_semantics.specs.Threads.{Frame, Enter, Record, entered}
use Rattle.c_semantics.specs.Values.{Value}
use Rattle.effects.specs.Sites.{Site, IsOf, IsEntry, Next, Passes, Uses, after_call}
use Rattle.effects.specs.Rows.{Covered}
use Rattle.effects.specs.Rows as rows
use Rattle.source_model.specs.Versions.{Table, current, in_version}
use Rattle.source_model.specs.Uses.{is_right, recorded_at, use_of}
use Rattle.source_model.specs.Worlds.{World, now}
use Rattle.source_model.specs.Moves.{frame_of}
use Rattle.source_model.specs.Guards.{Seat}
use Rattle.version_laws.specs.Histories.{Alike, IsHistory}
use Rattle.version_laws.proofs.EntersAlike.{enters_alike}
use Rattle.version_laws.proofs.TableHistories.{last_as_current}
use Rattle.admission_laws.specs.SoundTexts.{IsSound, IsInForce, is_function, definitions_of, newest, now_in}
use Rattle.admission_laws.specs.Stacks.{Level, AtCall, Stacked, MayUse}
use Rattle.admission_laws.specs.Stacks as stacks
use Rattle.admission_laws.specs.Standing.{Sits, Wait, Behind, Placed, StandsAt, Starting, FramesStand}
use Rattle.admission_laws.specs.Standing as standing
use Rattle.admission_laws.specs.Transactions.{HasDepth}
use Rattle.admission_laws.specs.InTransactions.{InTransaction, keeps_depth}
use Rattle.admission_laws.proofs.PointFacts.{point_of, is_of_at, is_kind_at, passes_kind, has_kind, place_of, use_of_kind}
use Rattle.admission_laws.proofs.StackUses.{UsedThere, own_or_below}
use Rattle.admission_laws.proofs.Covering.{into, covered_of}
use Rattle.admission_laws.proofs.RightUses.{last_by_name, current_right, defined_alike, function_defined}
use Rattle.admission_laws.proofs.Depths.{check_in_still, further_still}
use Rattle.admission_laws.proofs.TransactionSteps.{enters_there, starts_there}
use Rattle.admission_laws.proofs.TransactionMoves.{Within}

-- the frame of a function that is entered in the newest version
abbrev pub entered_now : List Text → Bytes → List Value → Frame
entered_now texts function arguments = entered (now_in texts) function (newest texts) arguments

-- it stands at the entry of its body
pub record AtEntry (texts : List Text) (function : Bytes) (arguments : List Value) : Type 0 where
  pub place : ℕ
  pub sits : Sits texts (entered_now texts function arguments) place
  pub code_is : sits.code ≡ resolved_body (now_in texts) (now_in texts function)

-- the site of an entry
abbrev pub entry_of : ℕ → Site
entry_of place = record { body = place; point = entry }

module _ (texts : List Text) (sound : IsSound texts) (function : Bytes) (arguments : List Value)
    (is : is_function (now_in texts function) ≡ true) where
  pub at_entry : AtEntry texts function arguments
  at_entry =
      let y = sound.in_force function is in
      let p = place_of (store texts) _ y.body y.found in
      record {
        place = p.0;
        sits = record {
          body = y.body;
          found = y.found;
          function_is = y.function_is;
          generation_is = y.generation_is;
          stored = p.1;
          code = resolved_body (now_in texts) (now_in texts function);
          result = result_type (now_in texts function);
          skeleton_is = y.skeleton_is;
          depth = 0;
          comes = along.entered;
          version = le_refl (newest texts);
          calls = λ n name h. sound.calls function name n h;
          spawns = λ n name h. sound.spawns function name n h;
        };
        code_is = refl;
      }

  -- the body that is in force
  pub entry_in_force : (a : AtEntry texts function arguments) → IsInForce texts function a.sits.body
  entry_in_force a = record { found = a.sits.found }

  -- in no transaction of its text
  pub entry_depth : (a : AtEntry texts function arguments) → HasDepth (store texts) (entry_of a.place) 0
  entry_depth a = record {
    has_depth = ap (option_map (λ at. at.depth))
        (point_of (store texts) (entry_of a.place) a.sits.body a.sits.stored ∙ ap (λ s. point_at s entry) a.sits.skeleton_is
        ∙ ap (λ c. point_at (skeleton c) entry) a.code_is);
  }

  -- its kind, and its function
  entry_kind : (a : AtEntry texts function arguments) → kind_at a.sits.body.skeleton entry ≡ Some (CheckIn check_in.Entry)
  entry_kind a = ap (λ s. kind_at s entry) a.sits.skeleton_is ∙ ap (λ c. kind_at (skeleton c) entry) a.code_is

  pub is_entry : (a : AtEntry texts function arguments) → IsEntry (store texts) (entry_of a.place) function
  is_entry a =
      let at = has_kind a.sits.body.skeleton entry (CheckIn check_in.Entry) (entry_kind a) in record {
        is_entry = refl;
        is_of = subst (IsOf (store texts) (entry_of a.place)) a.sits.function_is
            (is_of_at (store texts) (entry_of a.place) a.sits.body at.at a.sits.stored at.here);
      }

  pub is_check_in : (a : AtEntry texts function arguments) → Passes (store texts) (entry_of a.place) (λ at. is_check_in_kind at.kind)
  is_check_in a =
      passes_kind (store texts) (entry_of a.place) (CheckIn check_in.Entry) is_check_in_kind
      (is_kind_at (store texts) (entry_of a.place) a.sits.body (CheckIn check_in.Entry) a.sits.stored (entry_kind a)) refl

  -- each name that the body uses is defined now
  pub uses_defined : (a : AtEntry texts function arguments) (p : Site) (name : Bytes) → p.body ≡ a.place → Uses (store texts) p name
      → is_some (now_in texts name) ≡ true
  uses_defined a p name same x =
      sound.uses function name p.point
      (subst (λ s. option_and_then direct_use (kind_at s p.point) ≡ Some name)
      (a.sits.skeleton_is ∙ ap skeleton a.code_is)
      (use_of_kind (point_at a.sits.body.skeleton p.point) ∙ by_point))
    where
      by_point : option_and_then (λ at. direct_use at.kind) (point_at a.sits.body.skeleton p.point) ≡ Some name
      by_point =
          ap (option_and_then (λ at. direct_use at.kind))
          (sym (point_of (store texts) p a.sits.body (ap (slice_get (store texts)) same ∙ a.sits.stored)))
          ∙ x.uses

  -- so its own uses are right
  pub own_right : (table : Table) → IsHistory (definitions_of texts) table → (a : AtEntry texts function arguments) (u : ℕ) (name : Bytes)
      → UsedThere (store texts) (entry_of a.place) (newest texts) u name → is_right table u name ≡ true
  own_right table h a u name y =
      subst (λ v. is_right table v name ≡ true) (sym y.same_version)
      (current_right texts table h name (uses_defined a y.site name y.same_body y.uses))

-- ---- an enter that is due

-- the call whose enter is due
pub record Calls (bodies : List Body) (mark : Mark) (p : Site) (version : ℕ) (e : Enter) : Type 0 where
  pub behind : Behind bodies mark p
  pub call : AtCall bodies p e.function
  pub same_version : e.version ≡ version

pub calling_of : (bodies : List Body) (mark : Mark) (p : Site) (version : ℕ) (e : Enter) (b : Bool) → Placed bodies mark p version (Some e) b
    → Calls bodies mark p version e
calling_of bodies mark p version _ _ (standing.calling e behind call same) = record { behind = behind; call = call; same_version = same }

module _ (texts : List Text) (sound : IsSound texts) (table : Table) (h : IsHistory (definitions_of texts) table) (e : Enter)
    (is : is_function (now_in texts e.function) ≡ true) where
  entered_at : AtEntry texts e.function e.arguments
  entered_at = at_entry texts sound e.function e.arguments is

  -- a call's, above the frame that called
  pub call_entered : (f : Frame) (fs : List Frame) (place depth : ℕ) (uses : Record) (seat seat' : Seat) (levels : List Level) (mark : Mark)
      → (c : Site) → c ≡ (standing.level_of f place).site → Sits texts f place → Wait texts fs levels → Stacked (store texts) c levels
      → Behind (store texts) mark c → AtCall (store texts) c e.function
      → ((u : ℕ) (name : Bytes) → MayUse (store texts) c f.version levels u name → is_right table u name ≡ true)
      → seat'.mark ≡ Some mark → seat'.at_check_in ≡ true → seat'.pinned ≡ (seat.pinned && nat_lt 0 depth)
      → Within texts table depth uses seat.pinned c (Some e) levels
      → StandsAt texts table (entered_now texts e.function e.arguments) (f ∷ fs) None depth (recorded_at depth uses (use_of table e.function)) seat'
  call_entered f fs place depth uses seat seat' levels mark c here sits wait stacked behind call right marked coming_there same_pin within =
      let bodies = store texts in
      let lower = standing.level_of f place in
      let call' : AtCall bodies lower.site e.function = subst (λ s. AtCall bodies s e.function) here call in
      let a = entered_at in
      let is_defined = defined_alike texts table h e.function ∙ function_defined (now_in texts e.function) is in
      let within' = subst (λ s. Within texts table depth uses seat.pinned s (Some e) levels) here within in
      let stacked' = subst (λ s. Stacked bodies s levels) here stacked in
      record {
        site = entry_of a.place;
        sits = a.sits;
        point = sym (entry_stands a);
        levels = lower ∷ levels;
        wait = standing.one f fs place levels sits wait;
        stacked =
            stacks.above (entry_of a.place) e.function lower levels (is_entry texts sound e.function e.arguments is a).is_of call'
            stacked';
        mark = mark;
        marked = marked;
        placed =
            subst (Placed bodies mark (entry_of a.place) (newest texts) None) (sym coming_there)
            (standing.coming
            (covered_of bodies mark (entry_of a.place)
            (into bodies mark lower.site (entry_of a.place) e.function (subst (Behind bodies mark) here behind) call'.call
            (is_entry texts sound e.function e.arguments is a)))
            (is_check_in texts sound e.function e.arguments is a));
        right = λ u name x.
            elim (own_or_below bodies (entry_of a.place) (newest texts) (lower ∷ levels) u name x) [
              | inl y ↦ own_right texts sound e.function e.arguments is table h a u name y
              | inr y ↦ after_right lower.site call'.next (subst (λ s. (u : ℕ) (name : Bytes) → MayUse bodies s f.version levels u name → is_right table u name ≡ true) here right) u name y
            ];
        still = check_in_still bodies (entry_of a.place) (is_check_in texts sound e.function e.arguments is a);
        own = 0;
        transaction =
            subst (λ b. InTransaction texts table depth (recorded_at depth uses (use_of table e.function)) b (entry_of a.place) 0 None (lower ∷ levels))
            (sym same_pin)
            (enters_there texts table depth uses seat.pinned lower (entry_of a.place) within'.0 e a.sits.body levels within'.1 stacked' call'
            (further_still bodies lower.site levels (passes_kind bodies lower.site (kind.Call e.function) keeps_depth call'.call refl))
            (is_entry texts sound e.function e.arguments is a) (entry_depth texts sound e.function e.arguments is a)
            (entry_in_force texts sound e.function e.arguments is a) a.sits.stored is is_defined);
      }
    where
      entry_stands : (a : AtEntry texts e.function e.arguments)
          → stands_at (skeleton a.sits.code) None (entered_now texts e.function e.arguments) ≡ entry
      entry_stands a = ap (λ code. stands_at (skeleton code) None (entered_now texts e.function e.arguments)) a.code_is

      after_right : (s : Site) → Next (store texts) s (after_call s)
          → ((u : ℕ) (name : Bytes) → MayUse (store texts) s f.version levels u name → is_right table u name ≡ true)
          → (u : ℕ) (name : Bytes) → MayUse (store texts) (after_call s) f.version levels u name → is_right table u name ≡ true
      after_right s next right u name y = right u name (stacks.later s (after_call s) f.version levels u name next y)

  -- that of a thread that was started
  pub start_entered : (depth : ℕ) (uses : Record) (seat' : Seat) → seat'.mark ≡ Some (Start e.function) → seat'.at_check_in ≡ true
      → depth ≡ 0 → uses ≡ [] → seat'.pinned ≡ false
      → StandsAt texts table (entered_now texts e.function e.arguments) [] None depth uses seat'
  start_entered depth uses seat' marked coming_there outside none unpinned =
      let bodies = store texts in
      let a = entered_at in
      record {
        site = entry_of a.place;
        sits = a.sits;
        point = sym (ap (λ code. stands_at (skeleton code) None (entered_now texts e.function e.arguments)) a.code_is);
        levels = [];
        wait = standing.none;
        stacked = stacks.bottom (entry_of a.place) e.function (is_entry texts sound e.function e.arguments is a).is_of;
        mark = Start e.function;
        marked = marked;
        placed =
            subst (Placed bodies (Start e.function) (entry_of a.place) (newest texts) None) (sym coming_there)
            (standing.coming (rows.started e.function (entry_of a.place) (is_entry texts sound e.function e.arguments is a))
            (is_check_in texts sound e.function e.arguments is a));
        right = λ u name x.
            elim (own_or_below bodies (entry_of a.place) (newest texts) [] u name x) [
              | inl y ↦ own_right texts sound e.function e.arguments is table h a u name y
              | inr y ↦ absurd y
            ];
        still = check_in_still bodies (entry_of a.place) (is_check_in texts sound e.function e.arguments is a);
        own = 0;
        transaction =
            starts_there texts table depth uses seat'.pinned (entry_of a.place) outside none unpinned
            (entry_depth texts sound e.function e.arguments is a);
      }

-- the frame that a world gives an enter is that of the newest text
pub frame_is : (texts : List Text) (w : World) → IsHistory (definitions_of texts) w.table → (e : Enter)
    → frame_of w e ≡ entered_now texts e.function e.arguments
frame_is texts w h e =
    enters_alike (now w) (now_in texts)
    (λ name. subst (Alike (in_version w.table (current w.table) name)) (last_by_name texts name) (last_as_current (definitions_of texts) w.table h name))
    e.function (current w.table) e.arguments
    ∙ ap (λ v. entered (now_in texts) e.function v e.arguments) (h.count ∙ length-map texts (λ t. t.definitions))
