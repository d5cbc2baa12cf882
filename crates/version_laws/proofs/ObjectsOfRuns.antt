-- Objects fit the layouts of their structs: a new one has their fields, a move leaves the names of fields, and an install
-- brings each object to its new layout.
use Rattle.std.proofs.Common.{◌≡◌, ℕ, zero, suc, Bool, true, false, ◌<◌, inl, inr, List, [], ◌∷◌, map, All, get_or, Option, Some, None, refl, sym, ap, subst, ◌∙◌, arith, if◌then◌else◌}
use Rattle.std.proofs.lemmas.List.{get_or-map, length-map}
use Rattle.std.proofs.lemmas.List.Elements.{All-nil, All-append, All-map}
use Rattle.std.proofs.lemmas.Option.{none-some, same_Some}
use Rattle.c_tree.specs.BareExpr.{Bytes}
use Rattle.c_tree.specs.BareDef.{BareBinding, BareDef}
use Rattle.c_semantics.specs.Names.{struct_name}
use Rattle.c_semantics.specs.Texts.{definition, members_of}
use Rattle.c_semantics.specs.Changes.{same_interface}
use Rattle.c_semantics.specs.Values.{Value, zero_of}
use Rattle.c_semantics.specs.Pieces.{Variable}
use Rattle.c_semantics.specs.Transformers.{transformed}
use Rattle.source_model.specs.Worlds.{World, Object, now}
use Rattle.source_model.specs.Moves.{move, new_object}
use Rattle.source_model.specs.Installs.{brought, brought_by}
use Rattle.version_laws.specs.Histories.{versions_by}
use Rattle.version_laws.specs.Fitting.{Fits}
use Rattle.version_laws.specs.HistoryLaws.{ObjectsAlwaysFit}
use Rattle.version_laws.proofs.SameDefinitions.{interface_members, members_alike}
use Rattle.version_laws.proofs.TableHistories.{last_as_current}
use Rattle.version_laws.proofs.MovesSustain.{shape, ObjectsAfter, moves_sustain}
use Rattle.version_laws.proofs.RunHistories.{IsOf, has_main_at, move_is_of, install_is_of, first_is_of, holds_in_runs}

-- an object fits by its shape
abbrev FitsShape : List BareDef → Bytes × List Bytes → Type 0
FitsShape text s =
    (d : BareDef) → definition text (struct_name s.0) ≡ Some d → s.1 ≡ map (λ (b : BareBinding). b.name) (members_of (Some d))

all_unmapped : {A B : Type 0} (P : B → Type 0) (f : A → B) (xs : List A) → All P (map f xs) → All (λ x. P (f x)) xs
all_unmapped P f xs h k d within =
    subst P (get_or-map f xs k d (f d) within) (h k (f d) (subst (λ n. k < n) (sym (length-map xs f)) within))

-- objects of the same shapes fit alike
same_shapes_fit : (text : List BareDef) (os ps : List Object) → map shape os ≡ map shape ps → All (Fits text) ps → All (Fits text) os
same_shapes_fit text os ps e h =
    all_unmapped (FitsShape text) shape os (subst (All (FitsShape text)) (sym e) (All-map (FitsShape text) shape ps h))

one_fits : (text : List BareDef) (o : Object) → Fits text o → All (Fits text) (o ∷ [])
one_fits text o h zero d within = h
one_fits text o h (suc k) d within = absurd (omega (arith, within))

-- the names of fields that are made for members are those of the members
names_made : (f : BareBinding → Value) (bs : List BareBinding)
    → map (λ (v : Variable). v.name) (map (λ b. record { name = b.name; value = f b }) bs) ≡ map (λ (b : BareBinding). b.name) bs
names_made f [] = refl
names_made f (b ∷ bs) = ap (λ ns. b.name ∷ ns) (names_made f bs)

-- a new object fits the current text
new_fits : (before : List (List BareDef)) (w : World) (tag : Bytes) → IsOf before w → Fits w.text (new_object w tag)
new_fits before w tag h d e =
    names_made (λ b. zero_of b.declared) (members_of (now w (struct_name tag)))
    ∙ ap (map (λ (b : BareBinding). b.name))
    (members_alike (now w (struct_name tag)) _ (last_as_current before w.table h.history (struct_name tag))
    ∙ ap (λ text. members_of (definition text (struct_name tag))) (sym h.last)
    ∙ ap members_of e)

after_fit : (before : List (List BareDef)) (w : World) (os : List Object) → IsOf before w → All (Fits w.text) w.objects
    → ObjectsAfter w os → All (Fits w.text) os
after_fit before w os h fit (inl same) = same_shapes_fit w.text os w.objects same fit
after_fit before w os h fit (inr (tag, e)) =
    subst (All (Fits w.text)) (sym e)
    (All-append (Fits w.text) w.objects (new_object w tag ∷ []) fit (one_fits w.text (new_object w tag) (new_fits before w tag h)))

-- ---- an install

brought_fits : (p q : List BareDef) (o : Object) (a b : Option BareDef) → definition p (struct_name o.tag) ≡ a
    → definition q (struct_name o.tag) ≡ b → Fits p o → Fits q (brought_by p q o a b)
brought_fits p q o a None before after h = λ d e. absurd (none-some d (sym after ∙ e))
brought_fits p q o None (Some b) before after h = λ d e.
    names_made (λ b. zero_of b.declared) (members_of (Some b))
    ∙ ap (λ x. map (λ (b : BareBinding). b.name) (members_of x)) (sym after ∙ e)
brought_fits p q o (Some a) (Some b) before after h = by (same_interface a b) refl
  where
    -- where the interface stays, so do the fields
    kept : (d : BareDef) → same_interface a d ≡ true
        → map (λ (f : Variable). f.name) o.fields ≡ map (λ (m : BareBinding). m.name) (members_of (Some d))
    kept d same = h a before ∙ ap (map (λ (m : BareBinding). m.name)) (interface_members a d same)

    by : (stays : Bool) → same_interface a b ≡ stays
        → Fits q (if stays then o else record o { fields = transformed p q o.tag o.fields })
    by true same d e = kept d (ap (same_interface a) (sym (same_Some b d (sym after ∙ e))) ∙ same)
    by false same d e =
        names_made _ (members_of (definition q (struct_name o.tag))) ∙ ap (λ x. map (λ (m : BareBinding). m.name) (members_of x)) e

all_of_each : {A : Type 0} (P Q : A → Type 0) (xs : List A) → ((x : A) → P x → Q x) → All P xs → All Q xs
all_of_each P Q xs each h k d within = each (get_or xs k d) (h k d within)

install_fits : (p q : List BareDef) (os : List Object) → All (Fits p) os → All (Fits q) (map (brought p q) os)
install_fits p q os h =
    All-map (Fits q) (brought p q) os
    (all_of_each (Fits p) (λ o. Fits q (brought p q o)) os
    (λ o. brought_fits p q o (definition p (struct_name o.tag)) (definition q (struct_name o.tag)) refl refl) h)

-- ---- runs

-- a world is that of some texts, and its objects fit
record FitsTexts (texts : List (List BareDef)) (w : World) : Type 0 where
  is_of : IsOf texts w
  fit : All (Fits w.text) w.objects

move_fits : (before : List (List BareDef)) (w after : World) (t : ℕ) → move w t ≡ Some after → FitsTexts before w → FitsTexts before after
move_fits before w after t e h =
    let kept = moves_sustain w after t e in
    record {
      is_of = move_is_of before w after t e h.is_of;
      fit = subst (λ text. All (Fits text) after.objects) (sym kept.same_text) (after_fit before w after.objects h.is_of h.fit kept.objects);
    }

pub objects_always_fit : ObjectsAlwaysFit
objects_always_fit texts limits ms w main e = record { each = along.fit }
  where
    along : FitsTexts (versions_by texts ms) w
    along =
        holds_in_runs texts limits FitsTexts
        (λ text is. record { is_of = first_is_of text limits (has_main_at texts 0 text main is); fit = All-nil (Fits text) }) move_fits
        (λ before v k q is h. record {
          is_of = install_is_of before v q (has_main_at texts k q main is) h.is_of;
          fit = install_fits v.text q v.objects h.fit;
        }) ms w e
