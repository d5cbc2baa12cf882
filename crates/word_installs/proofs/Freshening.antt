-- The object that a stop uses is brought to the text in force.
use Rattle.std.proofs.Common.{◌≡◌, ℕ, zero, suc, ◌+◌, ◌-◌, ◌≤◌, List, [], ◌∷◌, length, Contains, Option, Some, None, option_map, refl, sym, ap, subst, ◌∙◌, arith}
use Rattle.std.specs.Prelude.{slice_index}
use Rattle.std.specs.FinMap.{get}
use Rattle.c_tree.specs.BareExpr.{Bytes}
use Rattle.c_tree.specs.BareDef.{BareDef}
use Rattle.c_semantics.specs.Stops.{Stop}
use Rattle.c_semantics.specs.Stops as seen_stop
use Rattle.version_laws.specs.Histories.{last_text}
use Rattle.object_store.specs.declared.object.Object.{Object}
use Rattle.object_store.specs.Stores.{with_object}
use Rattle.resolved_tree.specs.Nodes.{Table}
use Rattle.thread_state.specs.Frames.{downward}
use Rattle.code_runs.specs.CodeData.{Data, Names, number_of}
use Rattle.code_runs.specs.SharedStops.{with_objects}
use Rattle.code_runs.specs.Layouts.{Brings, Freshens, brings, newest, none_lives, used_object, uses_none}
use Rattle.word_data.specs.declared.stop.SharedStop.{SharedStop}
use Rattle.word_data.specs.declared.stop.SharedStop.TheVariants.{ReadGlobal, WriteGlobal, ReadElement, WriteElement, ReadField, WriteField, New, Free, Print, InitMutex, Lock, Unlock}
use Rattle.word_data.specs.Resolved.{Resolves}
use Rattle.word_installs.specs.Freshened.{HasLayouts, NumbersStructs, used_handle}

-- a stop uses the object that the one of the definitions uses
handle_is : (t : Table) (names : Names) (text : List BareDef) (seen : Stop) (stop : SharedStop) (stack : List ℕ) → Resolves t names text seen stop
    → option_map (λ p. p.1) (used_object seen stack) ≡ used_handle stop stack
handle_is t names text (seen_stop.ReadGlobal name) (ReadGlobal n) stack r = refl
handle_is t names text (seen_stop.WriteGlobal name) (WriteGlobal n) stack r = refl
handle_is t names text (seen_stop.ReadElement name) (ReadElement n) stack r = refl
handle_is t names text (seen_stop.WriteElement name) (WriteElement n) stack r = refl
handle_is t names text (seen_stop.ReadField tag name) (ReadField n) [] r = refl
handle_is t names text (seen_stop.ReadField tag name) (ReadField n) (h ∷ under) r = refl
handle_is t names text (seen_stop.WriteField tag name) (WriteField n) [] r = refl
handle_is t names text (seen_stop.WriteField tag name) (WriteField n) (w ∷ []) r = refl
handle_is t names text (seen_stop.WriteField tag name) (WriteField n) (w ∷ h ∷ under) r = refl
handle_is t names text (seen_stop.New tag) (New n) stack r = refl
handle_is t names text (seen_stop.Free tag) Free stack r = refl
handle_is t names text (seen_stop.Print format count) (Print name n) stack r = refl
handle_is t names text (seen_stop.InitMutex name) (InitMutex n) stack r = refl
handle_is t names text (seen_stop.Lock name) (Lock n) stack r = refl
handle_is t names text (seen_stop.Unlock name) (Unlock n) stack r = refl
handle_is t names text _ _ stack r = absurd r

-- that of a write is under the word that it writes
pub handle_under : (words : List ℕ) (low h n : ℕ) → 2 ≤ h
    → used_handle (WriteField n) (downward words low h) ≡ Some (slice_index words (low + h - 2))
handle_under words low zero n two = absurd (omega (arith, two))
handle_under words low (suc zero) n two = absurd (omega (arith, two))
handle_under words low (suc (suc k)) n two =
    let at : low + k ≡ low + suc (suc k) - 2 = omega arith in ap (λ (i : ℕ). Some (slice_index words i)) at

module _ (texts : List (List BareDef)) (names : Names) (seen : Stop) (stack : List ℕ) (old new : Data) where
  -- by what it uses
  fresh_by : (o : Option (Bytes × ℕ)) (handle : Option ℕ) → used_object seen stack ≡ o → option_map (λ p. p.1) o ≡ handle
      → (handle ≡ None → new ≡ old)
      → ((h : ℕ) (tag : Bytes) → handle ≡ Some h → used_object seen stack ≡ Some (tag, h) → Freshens texts names seen stack old new)
      → Freshens texts names seen stack old new
  fresh_by None handle uses is stays brought =
      subst (Freshens texts names seen stack old) (sym (stays (sym is))) (uses_none uses)
  fresh_by (Some (tag, h)) handle uses is stays brought = brought h tag (sym is) uses

  pub freshens : (t : Table) (text : List BareDef) (stop : SharedStop) → Resolves t names text seen stop
      → (used_handle stop stack ≡ None → new ≡ old)
      → ((h : ℕ) (tag : Bytes) → used_handle stop stack ≡ Some h → used_object seen stack ≡ Some (tag, h)
      → Freshens texts names seen stack old new)
      → Freshens texts names seen stack old new
  freshens t text stop r =
      fresh_by (used_object seen stack) (used_handle stop stack) refl (handle_is t names text seen stop stack r)

  module _ (tag : Bytes) (h : ℕ) (uses : used_object seen stack ≡ Some (tag, h)) where
    pub none_there : new ≡ old → get old.objects.live h ≡ None → Freshens texts names seen stack old new
    none_there same none = subst (Freshens texts names seen stack old) (sym same) (none_lives tag h uses none)

    pub new_enough : (own : Object) → new ≡ old → get old.objects.live h ≡ Some own → HasLayouts old → old.version ≤ own.layout
        → Freshens texts names seen stack old new
    new_enough own same there known above =
        let below = known h own there in
        subst (Freshens texts names seen stack old) (sym same) (newest tag h own uses there (omega (arith, below, above)))

    pub one_brought : (own after : Object) → get old.objects.live h ≡ Some own
        → new ≡ with_objects old (with_object old.objects h after) → after.tag ≡ own.tag → after.layout ≡ old.version
        → old.version + 1 ≡ length texts → NumbersStructs names (last_text texts)
        → (Contains names.tags tag → own.tag ≡ number_of names.tags tag → Brings texts tag own after)
        → Freshens texts names seen stack old new
    one_brought own after there changed tag_is layout last numbers made =
        subst (Freshens texts names seen stack old) (sym changed) (brings tag h own after uses there (λ is. record {
          tag_stays = tag_is;
          layout = ap suc layout ∙ (let e : suc old.version ≡ old.version + 1 = omega arith in e) ∙ last;
          words = λ naming tags fields apart struct are ranged begin.
              (made (numbers tag struct) is).words naming tags fields apart struct are ranged begin;
        }))
