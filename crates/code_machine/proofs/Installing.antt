-- A run after an install.
use Rattle.std.proofs.Common.{◌≡◌, ℕ, zero, suc, ◌+◌, ◌<◌, List, [], ◌∷◌, ◌++◌, length, Some, refl, sym, subst, ap, ◌∙◌, arith}
use Rattle.std.specs.Prelude.{◌^◌, All, Err, Ok, OnErr, Result, Vec, slice_get, slice_index_or}
use Rattle.std.specs.declared.alloc.Global.{Global}
use Rattle.std.proofs.lemmas.List.{length-append, map-append}
use Rattle.std.proofs.lemmas.List.Elements.{All-push, All-weaker}
use Rattle.c_tree.specs.BareDef.{BareDef}
use Rattle.code_runs.specs.CodeData.{Data, with_row}
use Rattle.code_runs.specs.SharedStops.{with_holders}
use Rattle.std.specs.Prelude.{None, slice_set}
use Rattle.word_frames.specs.declared.frame.Frame.{Frame}
use Rattle.word_installs.specs.declared.rows.NewRow.{NewRow}
use Rattle.word_installs.specs.NewRows.{with_rows}
use Rattle.word_installs.specs.Prepared.{installed, without_holders}
use Rattle.word_installs.proofs.Installed.{version_stays}
use Rattle.word_layouts.specs.WordChanges.{StandFor}
use Rattle.code_image.specs.declared.function.CodeFunction.{CodeFunction}
use Rattle.code_image.specs.declared.image.CodeImage.{CodeImage}
use Rattle.code_image.specs.Images.{names_in}
use Rattle.code_machine.specs.declared.running.Running.{Running}
use Rattle.code_machine.specs.declared.state.RunState.{RunState}
use Rattle.code_machine.specs.Kept.{AreKept, IsKeptRun}
use Rattle.code_machine.specs.Versions.{IsOfVersion, IsRunOf, texts_by, texts_of}
use Rattle.code_machine.proofs.Lists.{inside, read}

-- ---- what threads share

rows_objects : (rows : List NewRow) (d : Data) → (with_rows rows d).objects ≡ d.objects
rows_objects [] d = refl
rows_objects (r ∷ rows) d = rows_objects rows (with_row d r.number r.words.items)

gone_objects : (gone : List ℕ) (d : Data) → (without_holders gone d).objects ≡ d.objects
gone_objects [] d = refl
gone_objects (n ∷ gone) d = gone_objects gone (with_holders d (slice_set d.holders n None))

-- objects stay
pub objects_stay : (rows : List NewRow) (gone : List ℕ) (d new : Data) → new ≡ installed rows gone d → new.objects ≡ d.objects
objects_stay rows gone d new is =
    ap (λ (e : Data). e.objects) is ∙ gone_objects gone (with_rows rows d) ∙ rows_objects rows d

-- and the version is the next one
pub version_next : (rows : List NewRow) (gone : List ℕ) (d new : Data) → new ≡ installed rows gone d → new.version ≡ suc d.version
version_next rows gone d new is =
    let more : (without_holders gone (with_rows rows d)).version + 1 ≡ suc (without_holders gone (with_rows rows d)).version = omega arith in
    ap (λ (e : Data). e.version) is ∙ more ∙ ap suc (version_stays rows gone d)

-- ---- one version more

pub get_front : {X : Type 0} (xs ys : List X) (n : ℕ) (x : X) → slice_get xs n ≡ Some x → slice_get (xs ++ ys) n ≡ Some x
get_front [] ys n x e = absurd (cc)
get_front (y ∷ xs) ys zero x e = e
get_front (y ∷ xs) ys (suc n) x e = get_front xs ys n x e

pub get_last : {X : Type 0} (xs : List X) (x : X) (n : ℕ) → n ≡ length xs → slice_get (xs ++ x ∷ []) n ≡ Some x
get_last [] x zero e = refl
get_last [] x (suc n) e = absurd (omega (arith, e))
get_last (y ∷ xs) x zero e = absurd (omega (arith, e))
get_last (y ∷ xs) x (suc n) e = get_last xs x n (omega (arith, e))

-- frames of some versions are of more
more_versions : (functions : List CodeFunction) (versions more : List ℕ) (fs : List Frame) → All (IsOfVersion functions versions) fs
    → All (IsOfVersion functions (versions ++ more)) fs
more_versions functions versions more fs all =
    All-weaker (IsOfVersion functions versions) (IsOfVersion functions (versions ++ more))
    (λ f of. record { before = of.before; version = of.version; text = λ g there. get_front versions more of.before g.text (of.text g there) }) fs all

-- the texts of one version more
pub texts_more : (texts : List (List BareDef)) (versions : List ℕ) (number : ℕ) (q : List BareDef) → slice_get texts number ≡ Some q
    → texts_by texts versions ++ q ∷ [] ≡ texts_by texts (versions ++ number ∷ [])
texts_more texts versions number q there =
    ap (λ (text : List BareDef). texts_by texts versions ++ text ∷ []) (sym (read texts number q [] there))
    ∙ sym (map-append (λ n. slice_index_or texts n []) versions (number ∷ []))

pub runs_newer : (all : List (List BareDef)) (image : CodeImage) (old new : RunState) (number : ℕ) (q : List BareDef) → IsRunOf all image old
    → slice_get all number ≡ Some q → new.versions.items ≡ old.versions.items ++ number ∷ [] → new.in_force ≡ number
    → new.shared.version ≡ suc old.shared.version → new.slots ≡ old.slots
    → StandFor (texts_of all old ++ q ∷ []) (names_in all).tags new.layouts.versions.items → IsRunOf all image new
runs_newer all image old new number q is there versions in_force version slots stand =
    let long : length (old.versions.items ++ number ∷ []) ≡ length old.versions.items + 1 = length-append old.versions.items (number ∷ []) in
    let count = is.version in
    let next : new.shared.version ≡ length old.versions.items = version ∙ count in
    record {
      image_is = is.image_is;
      known =
          subst (All (λ n. n < length all)) (sym versions)
          (All-push (λ n. n < length all) old.versions.items number is.known (inside all number q there));
      version = let longer : suc new.shared.version ≡ length (old.versions.items ++ number ∷ []) = omega (arith, next, long) in longer ∙ ap length (sym versions);
      last =
          ap (λ (vs : List ℕ). slice_get vs new.shared.version) versions
          ∙ get_last old.versions.items number new.shared.version next ∙ ap Some (sym in_force);
      stand =
          subst (λ (texts : List (List BareDef)). StandFor texts (names_in all).tags new.layouts.versions.items)
          (texts_more all old.versions.items number q there ∙ ap (texts_by all) (sym versions)) stand;
      frames = λ n r here.
          subst (λ (vs : List ℕ). All (IsOfVersion image.functions.items vs) r.frames.frames.items) (sym versions)
          (more_versions image.functions.items old.versions.items (number ∷ []) r.frames.frames.items
          (is.frames n r (ap (λ (v : Vec Running Global). slice_get v.items n) (sym slots) ∙ here)));
    }

-- its slots fit the code still, and its versions can be counted
pub kept_newer : (image : CodeImage) (old new : RunState) (number : ℕ) → IsKeptRun image old → new.versions.items ≡ old.versions.items ++ number ∷ []
    → length old.versions.items + 1 < 2 ^ 32 → new.shared.version ≡ suc old.shared.version → new.leaves_work ≡ old.leaves_work → AreKept image new.slots.items new.threads
    → new.slots.items ≡ old.slots.items → IsKeptRun image new
kept_newer image old new number kept versions few version leaves slots same =
    let long : length (old.versions.items ++ number ∷ []) ≡ length old.versions.items + 1 = length-append old.versions.items (number ∷ []) in
    let longer : length new.versions.items ≡ length old.versions.items + 1 = ap length versions ∙ long in
    record {
      slots = slots;
      versions = omega (arith, longer, few);
      version = omega (arith, longer, version, kept.version);
      leaves = λ e n r there. kept.leaves (sym leaves ∙ e) n r (sym (ap (λ (rs : List Running). slice_get rs n) same) ∙ there);
    }

-- what holds after an error
pub on_err : {T E P : Type 0} (r : Result T E) → P → OnErr r P
on_err (Ok x) p = tt
on_err (Err e) p = p
