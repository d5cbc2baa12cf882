-- The text in force, and the functions that it gives names.
use Rattle.std.proofs.Common.{◌≡◌, ℕ, suc, ◌-◌, ◌<◌, Bool, true, false, List, [], length, map, Option, Some, None, refl, sym, ap, ◌∙◌, arith}
use Rattle.std.specs.Prelude.{IsTrue, option_map, slice_get, slice_index_or, unwrap_or}
use Rattle.std.specs.Option.{option_flatten}
use Rattle.std.proofs.lemmas.List.{length-map}
use Rattle.c_tree.specs.BareExpr.{Bytes}
use Rattle.c_tree.specs.BareDef.{BareDef}
use Rattle.c_semantics.specs.Texts.{definition}
use Rattle.version_laws.specs.Histories.{last_text, text_in}
use Rattle.resolved_tree.specs.declared.words.Word.{Word}
use Rattle.resolved_tree.specs.Nodes.{word}
use Rattle.code_runs.specs.CodeThreads.{Live}
use Rattle.code_image.specs.declared.image.CodeImage.{CodeImage}
use Rattle.code_image.specs.Acts.{named}
use Rattle.code_image.specs.Images.{AreBodiesOf, has_body}
use Rattle.code_machine.specs.declared.running.Next.TheVariants.{Enters}
use Rattle.code_machine.specs.declared.running.Running.{Running}
use Rattle.code_machine.specs.declared.running.Stand.TheVariants.{Live as LiveStand}
use Rattle.code_machine.specs.declared.state.RunState.{RunState}
use Rattle.code_machine.specs.Kept.{FitsImage}
use Rattle.code_machine.specs.Seen.{enter_of, entering_with, name_at, slot_by, thread_by, words_of, world_of}
use Rattle.word_frames.specs.Seen.{frames_of}
use Rattle.code_machine.specs.Steps.{EntersNone}
use Rattle.code_machine.specs.Versions.{IsInForce, IsRunOf, texts_by, texts_of}
use Rattle.code_machine.proofs.Lists.{all as at, read, seen, some}
use Rattle.code_machine.proofs.Worlds.{slot_is}

-- the function of a name with a number, in a row of bodies
abbrev pub body_of : CodeImage → ℕ → ℕ → Option ℕ
body_of image text n = option_flatten (slice_get (slice_index_or (map (λ v. v.items) image.bodies.items) text []) n)

flattened : (o : Option (Option ℕ)) (k : ℕ) → option_flatten o ≡ Some k → o ≡ Some (Some k)
flattened None k e = absurd (cc)
flattened (Some None) k e = absurd (cc)
flattened (Some (Some j)) k e = ap Some e

no_body : (o : Option (Option ℕ)) (k : ℕ) → option_flatten o ≡ None → o ≡ Some (Some k) → ⊥
no_body None k e is = cc
no_body (Some None) k e is = cc
no_body (Some (Some j)) k e is = cc

not_true : (b : Bool) → (IsTrue b → ⊥) → b ≡ false
not_true true h = absurd (h refl)
not_true false h = refl

-- the last text of some versions
pub last_by : (texts : List (List BareDef)) (versions : List ℕ) (last number : ℕ) → suc last ≡ length versions → slice_get versions last ≡ Some number
    → last_text (texts_by texts versions) ≡ slice_index_or texts number []
last_by texts versions last number count is =
    ap (text_in (texts_by texts versions)) (length-map versions (λ n. slice_index_or texts n []) ∙ sym count)
    ∙ seen (λ n. slice_index_or texts n []) versions last number [] is

module _ (all : List (List BareDef)) (image : CodeImage) (run : RunState) (is : IsRunOf all image run) where
  pub last_is : last_text (texts_of all run) ≡ slice_index_or all run.in_force []
  last_is = last_by all run.versions.items run.shared.version run.in_force is.version is.last

  inside : run.in_force < length all
  inside = at (λ n. n < length all) run.versions.items run.shared.version run.in_force is.known is.last

  -- its bodies
  row : (row : List (Option ℕ)) × (slice_get (map (λ v. v.items) image.bodies.items) run.in_force ≡ Some row)
  row =
      let long : length (map (λ v. v.items) image.bodies.items) ≡ length all = length-map image.bodies.items (λ v. v.items) ∙ is.image_is.many in
      some (map (λ v. v.items) image.bodies.items) run.in_force (omega (arith, inside, long))

  row_read : slice_index_or (map (λ v. v.items) image.bodies.items) run.in_force [] ≡ row.0
  row_read = read (map (λ v. v.items) image.bodies.items) run.in_force row.0 [] row.1

  text : (text : List BareDef) × (slice_get all run.in_force ≡ Some text)
  text = some all run.in_force inside

  pub text_is : slice_get all run.in_force ≡ Some (last_text (texts_of all run))
  text_is = text.1 ∙ ap Some (sym (last_is ∙ read all run.in_force text.0 [] text.1))

  bodies : AreBodiesOf image run.in_force text.0 row.0
  bodies = is.image_is.bodies run.in_force text.0 row.0 text.1 row.1

  -- one that is found is in force
  pub in_force : (n k : ℕ) → body_of image run.in_force n ≡ Some k → IsInForce image run.versions.items n k
  in_force n k found =
      let there : slice_get row.0 n ≡ Some (Some k) =
      flattened (slice_get row.0 n) k (ap (λ (r : List (Option ℕ)). option_flatten (slice_get r n)) (sym row_read) ∙ found) in
      let last : length run.versions.items - 1 ≡ run.shared.version = let count = is.version in omega (arith, count) in
      record {
        some = let count = is.version in omega (arith, count);
        named = λ g is_g. sym (ap (λ (o : Option Bytes). unwrap_or o []) (bodies.same n k g there is_g));
        last = λ g is_g.
            ap (slice_get run.versions.items) last ∙ is.last ∙ ap Some (sym (bodies.own n k g there is_g));
      }

  -- where none is found, the text has no such function
  pub none_defined : (n : ℕ) → n < length image.callees.items → body_of image run.in_force n ≡ None
      → has_body (definition (last_text (texts_of all run)) (name_at image n)) ≡ false
  none_defined n few none =
      let callee : (w : Word) × (slice_get image.callees.items n ≡ Some w) = some image.callees.items n few in
      let name : Bytes = word (words_of image) callee.0 in
      let is_named : named (words_of image) image.callees.items n ≡ Some name = ap (option_map (word (words_of image))) callee.1 in
      let seen_name : name_at image n ≡ name = ap (λ (o : Option Bytes). unwrap_or o []) is_named in
      let last : last_text (texts_of all run) ≡ text.0 = last_is ∙ read all run.in_force text.0 [] text.1 in
      ap (λ (t : List BareDef). has_body (definition t (name_at image n))) last
      ∙ ap (λ (f : Bytes). has_body (definition text.0 f)) seen_name
      ∙ not_true (has_body (definition text.0 name)) (λ has.
      let body = bodies.each n name is_named has in
      no_body (slice_get row.0 n) body.0 (ap (λ (r : List (Option ℕ)). option_flatten (slice_get r n)) (sym row_read) ∙ none) body.1)

  -- so a thread that would enter it is lost
  pub enters_none : (slot n count : ℕ) (r : Running) → FitsImage image r → slice_get run.slots.items slot ≡ Some r → r.stand ≡ LiveStand
      → r.next ≡ Enters n count → body_of image run.in_force n ≡ None → EntersNone (texts_of all run) (world_of image run) slot
  enters_none slot n count r fits there live next none = record {
    thread = entering_with r (enter_of image r n count) (frames_of (words_of image) r.frames);
    enter = enter_of image r n count;
    lives = slot_is image run slot r there ∙ ap (slot_by image r) live ∙ ap Live (ap (thread_by image r) next);
    next = refl;
    none = none_defined n (fits.due n count next).inside none;
  }
