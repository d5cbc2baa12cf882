-- What a thread of code uses next is what the source machine's thread uses, so it has the interface of its version in the last text.
use Rattle.std.proofs.Common.{◌≡◌, ℕ, ◌||◌, Bool, true, false, List, [], ◌∷◌, Option, Some, None, is_some, refl, sym, ap, subst, ◌∙◌, if◌then◌else◌}
use Rattle.std.proofs.lemmas.Option.{none-some, same_Some}
use Rattle.c_tree.specs.BareExpr.{Bytes}
use Rattle.c_tree.specs.BareDef.{BareDef}
use Rattle.c_semantics.specs.Names.{struct_name}
use Rattle.c_semantics.specs.Pieces.{Halt, Stopped, Trapped, Nothing}
use Rattle.c_semantics.specs.SourceTexts.{Text}
use Rattle.c_semantics.specs.Stops.{Stop, ReadField, WriteField}
use Rattle.c_semantics.specs.Texts.{definition}
use Rattle.c_semantics.specs.Threads.{Enter, Frame, Thread, next_of}
use Rattle.source_model.specs.Moves.{behind, enter_with, in_frames, move, move_of, perform, thread_move, with_use}
use Rattle.source_model.specs.Uses.{is_right, marked, recorded, use_at, using}
use Rattle.source_model.specs.Waits.{must_wait, waits_for}
use Rattle.source_model.specs.Worlds.{World, Live, in_slot}
use Rattle.version_laws.specs.Histories.{last_text, text_in}
use Rattle.version_laws.proofs.TableHistories.{right_by_texts}
use Rattle.frame_bodies.specs.AcceptedTexts.{definitions_of}
use Rattle.typed_runs.specs.TypedFrames.{result_in, version_in}
use Rattle.typed_runs.specs.TypedWorlds.{tags_of}
use Rattle.typed_runs.proofs.SameUses.{SameUse, same_use}
use Rattle.bytecode.specs.Words.{Naming}
use Rattle.tree_code.specs.CodedPieces.{Stops}
use Rattle.code_runs.specs.CodeData.{Names}
use Rattle.code_runs.specs.CodeThreads.{CodeFrame, CodeNext, CodeThread, CodeWorld, Rests}
use Rattle.code_runs.specs.CodeThreads as code
use Rattle.code_runs.specs.CodeMoves.{code_in, frame_code}
use Rattle.code_runs.specs.CodeWaits.{Waits, WaitsNext, at_stop as waits_at, stopping}
use Rattle.code_runs.specs.CodeWaits as code_waits
use Rattle.code_run_laws.specs.MoveLaws.{CodeWaitsAlike, Stands, UsesWell}
use Rattle.code_run_laws.specs.ThreadMatches.{IsSame, NextMatches, RestsSo}
use Rattle.code_run_laws.proofs.OneEnd.{one_point, rests_at, rests_no_trap}
use Rattle.code_run_laws.proofs.SlotsMatching.{LivesAs, lives_as, slot_matching}
use Rattle.code_install_laws.specs.UsedNames.{FieldsStayAtTheirPlaces, UsedNamesStay, UsesNext, at_enter, at_stop}
use Rattle.code_runs.specs.Layouts.{field_tag}

no : true ≡ false → ⊥
no e = cc

-- what is made misuses nothing
abbrev IsWell : Option World → Type 0
IsWell made = (after : World) → made ≡ Some after → after.misused ≡ false

module _ (texts : List Text) (names : Names) (w : World) (own : CodeWorld) (s : Stands texts names w own) where
  abbrev defs : List (List BareDef)
  defs = definitions_of texts

  abbrev tags : List Bytes
  tags = tags_of w.objects

  abbrev naming : Naming
  naming = s.matches.naming

  abbrev Right : ℕ → Bytes → Type 0
  Right version name = is_right w.table version name ≡ true

  -- ---- uses of the source machine

  using_right : (th : Thread) (version : ℕ) (name : Bytes) (f : Thread → Option World) → IsWell (using w th version name f)
      → Right version name
  using_right th version name f = by (is_right w.table version name)
    where
      by : (b : Bool) → IsWell (if b then f (recorded w.table name th) else Some (marked w)) → b ≡ true
      by true well = refl
      by false well = absurd (no (well (marked w) refl))

  stop_right : (x : Stop) (t : ℕ) (th : Thread) (f : Frame) (below : List Frame) (name : Bytes) (o : Option Bytes) → o ≡ Some name
      → IsWell (with_use x w t th f below o) → Right f.version name
  stop_right x t th f below name None is well = absurd (none-some name is)
  stop_right x t th f below name (Some used) is well =
      subst (Right f.version) (same_Some used name is)
      (using_right th f.version used (λ user. perform x (record { world = w; slot = t; thread = user; frame = f; below = below }) f.values) well)

  -- ---- the stop at which a frame of code rests

  module _ (t : ℕ) (th : Thread) (f : Frame) (below : List Frame) (d : CodeFrame) (same : IsSame defs tags naming f d) (x : Stop)
      (point after : ℕ) (name : Bytes) (stops : Stops (frame_code defs d) x point d.state.place after) (uses : use_at x ≡ Some name) where
    here : Stops (code_in defs f.version f.function) x point d.state.place after
    here =
        subst (λ v. Stops (code_in defs v f.function) x point d.state.place after) same.version
        (subst (λ n. Stops (code_in defs d.version n) x point d.state.place after) same.function stops)

    rests_right : (h : Halt)
        → RestsSo (code_in defs f.version f.function) (version_in defs f.version) (result_in defs f.version f.function) tags naming h d.state
        → IsWell (behind w t th f below h) → Right f.version name
    rests_right (Stopped y n rest values scopes) r well =
        let one = one_point (code_in defs f.version f.function) y x n point d.state.place r.0 after r.1.0 here in
        stop_right y t th (record f { standing = n; pieces = rest; values = values; scopes = scopes }) below name (use_at y)
        (ap use_at one.stop_is ∙ uses) well
    rests_right (Trapped kind) r well =
        absurd (rests_no_trap _ kind (rests_at (code_in defs f.version f.function) x point after d.state here) r)
    rests_right Nothing r well = absurd r

  -- ---- what a thread does next

  next_right : (t : ℕ) (th : Thread) (e : Option Enter) (fs : List Frame) (x : CodeNext) (owns : List CodeFrame) (version : ℕ) (name : Bytes)
      → th.frames ≡ fs → NextMatches defs tags naming e fs x owns → IsWell (thread_move w t th e) → UsesNext defs x version name
      → Right version name
  next_right t th (Some e) fs x owns version name is m well (at_enter d) =
      subst (λ v. Right v d.function) (sym m.0.version)
      (subst (Right e.version) (sym m.0.function) (using_right th e.version e.function (enter_with w t e) well))
  next_right t th None [] x owns version name is m well (at_enter d) = absurd m
  next_right t th None (f ∷ below) x owns version name is m well (at_enter d) = absurd m
  next_right t th (Some e) fs x owns version name is m well (at_stop d y point after used stops uses) = absurd m
  next_right t th None [] x owns version name is m well (at_stop d y point after used stops uses) = absurd m
  next_right t th None (f ∷ below) x owns version name is m well (at_stop d y point after used stops uses) =
      subst (λ v. Right v used) (sym m.0.0.version)
      (rests_right t th f below d m.0.0 y point after used stops uses (next_of f) m.0.1
      (subst (λ gs. IsWell (in_frames w t th gs)) is well))

  -- ---- a slot

  module _ (alike : CodeWaitsAlike) (t : ℕ) (uses : UsesWell w t) (going : own.finish ≡ None) (th : CodeThread)
      (there : code_waits.in_slot own t ≡ code.Live th) (waiting : WaitsNext defs names own t th.next None) where
    waits_none : waits_for w t ≡ None
    waits_none = alike texts names w own t None s going (subst (λ x. Waits defs names own t x None) (sym there) waiting)

    move_is : (moving : Thread) → in_slot w t ≡ Live moving → move w t ≡ thread_move w t moving moving.entering
    move_is moving lives =
        ap (λ m. if (m || is_some w.finish) || must_wait w t then None else move_of w t (in_slot w t)) s.matches.used_well
        ∙ ap (λ f. if is_some f || must_wait w t then None else move_of w t (in_slot w t)) (sym s.matches.finish ∙ going)
        ∙ ap (λ o. if is_some o then None else move_of w t (in_slot w t)) waits_none ∙ ap (move_of w t) lives

    used_right : (version : ℕ) (name : Bytes) → UsesNext defs th.next version name → Right version name
    used_right version name next =
        by
        (lives_as defs tags naming (in_slot w t) (code_waits.in_slot own t) th there
        (slot_matching defs tags naming w.slots own.slots t (s.matches.slots (sym s.matches.finish ∙ going))))
      where
        by : LivesAs defs tags naming (in_slot w t) th → Right version name
        by l =
            next_right t l.thread l.thread.entering l.thread.frames th.next th.below version name refl l.matches.next
            (λ after e. uses after (move_is l.thread l.is ∙ e)) next

pub used_names_stay : CodeWaitsAlike → UsedNamesStay
used_names_stay alike texts names w own t th version name s uses going there waiting next =
    sym (right_by_texts (definitions_of texts) w.table s.of.history version name)
    ∙ used_right texts names w own s alike t uses going th there waiting version name next

-- ---- fields

-- a stop that uses a field uses its struct, and waits for nothing
struct_used : (s : Stop) (tag : Bytes) → field_tag s ≡ Some tag → use_at s ≡ Some (struct_name tag)
struct_used (ReadField tag name) other e = ap (λ t. Some (struct_name t)) (same_Some tag other e)
struct_used (WriteField tag name) other e = ap (λ t. Some (struct_name t)) (same_Some tag other e)
struct_used _ other e = absurd (none-some other e)

waits_for_none : (names : Names) (own : CodeWorld) (t : ℕ) (s : Stop) (stack : List ℕ) (tag : Bytes) → field_tag s ≡ Some tag
    → waits_at names own t s stack ≡ None
waits_for_none names own t (ReadField tag name) stack other e = refl
waits_for_none names own t (WriteField tag name) stack other e = refl
waits_for_none names own t _ stack other e = absurd (none-some other e)

pub fields_stay : UsedNamesStay → FieldsStayAtTheirPlaces
fields_stay stay texts names w own t th f s point after tag stands uses going there next stops is =
    let defs = definitions_of texts in
    let same : SameUse (definition (text_in defs f.version) (struct_name tag)) (definition (last_text defs) (struct_name tag)) =
    same_use _ _
    (stay texts names w own t th f.version (struct_name tag) stands uses going there
    (subst (λ x. WaitsNext defs names own t x None) (sym next)
    (subst (WaitsNext defs names own t (Rests f)) (waits_for_none names own t s f.state.stack tag is) (stopping f s point after stops)))
    (subst (λ x. UsesNext defs x f.version (struct_name tag)) (sym next) (at_stop f s point after (struct_name tag) stops (struct_used s tag is)))) in
    same.members_are
