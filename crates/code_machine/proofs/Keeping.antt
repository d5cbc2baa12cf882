-- What a step keeps of a run: slots that fit the code, its texts and versions, and how many of its numbers are used.
use Rattle.std.proofs.Common.{◌≡◌, inl, inr, ℕ, suc, ◌+◌, ◌<◌, ◌≤◌, Bool, true, false, List, length, Some, sym, subst, ap, ◌∙◌, arith}
use Rattle.std.specs.Prelude.{◌^◌, All, Vec, slice_get, slice_set}
use Rattle.std.specs.declared.alloc.Global.{Global}
use Rattle.std.proofs.lemmas.Bool.{cases_eq}
use Rattle.std.proofs.lemmas.List.{length-set}
use Rattle.c_tree.specs.BareDef.{BareDef}
use Rattle.code_runs.specs.CodeData.{Data}
use Rattle.word_layouts.specs.declared.layouts.WordLayouts.{WordLayouts}
use Rattle.word_layouts.specs.WordChanges.{StandFor}
use Rattle.code_image.specs.declared.image.CodeImage.{CodeImage}
use Rattle.code_image.specs.Images.{names_in}
use Rattle.code_machine.specs.declared.running.Running.{Running}
use Rattle.code_machine.specs.declared.state.RunState.{RunState}
use Rattle.code_machine.specs.Keeping.{Keeps, UsesNothing}
use Rattle.code_machine.specs.Kept.{AreKept, FitsImage, IsKeptRun, IsSettledRun, most_threads}
use Rattle.code_machine.specs.Used.{HasUsed}
use Rattle.code_machine.specs.Versions.{IsOfVersion, IsRunOf, RunsCode, SameVersions, texts_by}
use Rattle.code_machine.proofs.Lists.{get_set_other, get_set_same, inside, one}

pub not_both : (b : Bool) → b ≡ true → b ≡ false → ⊥
not_both b on off = cc

-- what holds of all slots, after one of them changed
pub all_set : (P : Running → Type 0) (slots : List Running) (i : ℕ) (r : Running)
    → ((n : ℕ) (x : Running) → slice_get slots n ≡ Some x → P x) → P r
    → (n : ℕ) (x : Running) → slice_get (slice_set slots i r) n ≡ Some x → P x
all_set P slots i r every changed n x is =
    elim (cases_eq n i) [
      | inl same ↦
          let within : n < length (slice_set slots i r) = inside (slice_set slots i r) n x is in
          let room : i < length slots = omega (arith, within, same, length-set slots i r) in
          let there : slice_get (slice_set slots i r) n ≡ Some r = ap (slice_get (slice_set slots i r)) same ∙ get_set_same slots i r room in
          subst P (one (slice_get (slice_set slots i r) n) r x there is) changed
      | inr differs ↦ every n x (sym (get_set_other slots i n r differs) ∙ is)
    ]

pub all_after : (P : Running → Type 0) (slots items : List Running) (i : ℕ) (r : Running) → items ≡ slice_set slots i r
    → ((n : ℕ) (x : Running) → slice_get slots n ≡ Some x → P x) → P r
    → (n : ℕ) (x : Running) → slice_get items n ≡ Some x → P x
all_after P slots items i r set every changed n x is =
    all_set P slots i r every changed n x (ap (λ (rs : List Running). slice_get rs n) (sym set) ∙ is)

-- a slot changed to one that fits
pub kept_set : (image : CodeImage) (slots items : List Running) (threads more i : ℕ) (r : Running) → items ≡ slice_set slots i r
    → AreKept image slots threads → FitsImage image r → more ≤ most_threads → AreKept image items more
kept_set image slots items threads more i r set kept fits few =
    let long : length items ≡ length slots = ap length set ∙ length-set slots i r in
    record { fit = all_after (FitsImage image) slots items i r set kept.fit fits; few = omega (arith, kept.few, long); counted = few }

-- a slot changed to one that leaves no work, where none does
pub leaves_set : (slots items : List Running) (i : ℕ) (r : Running) → items ≡ slice_set slots i r
    → ((n : ℕ) (x : Running) → slice_get slots n ≡ Some x → x.leaves_work ≡ false) → r.leaves_work ≡ false
    → (n : ℕ) (x : Running) → slice_get items n ≡ Some x → x.leaves_work ≡ false
leaves_set = all_after (λ (r : Running). r.leaves_work ≡ false)

-- ---- private work that is due

-- none is where moves leave none
pub none_due : (image : CodeImage) (run : RunState) → IsKeptRun image run → run.leaves_work ≡ false → IsSettledRun run
none_due image run kept leaves n d =
    let no : d.running.leaves_work ≡ false = kept.leaves leaves n d.running d.there in
    let yes : d.running.leaves_work ≡ true = (kept.slots.fit n d.running d.there).leaves d.due in
    absurd (not_both d.running.leaves_work yes no)

-- ---- runs in the same versions

-- a run whose slots changed, and whose versions are as before
pub stays_run : (all : List (List BareDef)) (image : CodeImage) (old new : RunState) → new.versions.items ≡ old.versions.items
    → new.in_force ≡ old.in_force → new.layouts.versions.items ≡ old.layouts.versions.items → new.shared.version ≡ old.shared.version
    → ((n : ℕ) (r : Running) → slice_get new.slots.items n ≡ Some r → All (IsOfVersion image.functions.items old.versions.items) r.frames.frames.items)
    → IsRunOf all image old → IsRunOf all image new
stays_run all image old new versions in_force layouts version frames is = record {
  image_is = is.image_is;
  known = subst (All (λ n. n < length all)) (sym versions) is.known;
  version = ap suc version ∙ is.version ∙ ap length (sym versions);
  last =
      ap (slice_get new.versions.items) version
      ∙ ap (λ (vs : List ℕ). slice_get vs old.shared.version) versions
      ∙ is.last ∙ ap Some (sym in_force);
  stand =
      subst (λ (vs : List ℕ). StandFor (texts_by all vs) (names_in all).tags new.layouts.versions.items) (sym versions)
      (subst (StandFor (texts_by all old.versions.items) (names_in all).tags) (sym layouts) is.stand);
  frames = λ n r there.
      subst (λ (vs : List ℕ). All (IsOfVersion image.functions.items vs) r.frames.frames.items) (sym versions) (frames n r there);
}

-- with the same slots, and as many threads and objects created, as many numbers are used
pub same_used : (old new : RunState) → new.slots ≡ old.slots → new.threads ≡ old.threads → new.shared.objects.created ≡ old.shared.objects.created
    → (n : ℕ) → HasUsed n old → HasUsed n new
same_used old new slots threads created n u = record {
  creations = omega (arith, u.creations, created);
  threads = omega (arith, u.threads, threads);
  depths = λ t r there. u.depths t r (ap (λ (v : Vec Running Global). slice_get v.items t) (sym slots) ∙ there);
}

module _ (image : CodeImage) (old new : RunState) (same : SameVersions old new) (leaves : new.leaves_work ≡ old.leaves_work) (version : new.shared.version ≡ old.shared.version) where
  abbrev Frames : RunState → Type 0
  Frames run =
      (n : ℕ) (r : Running) → slice_get run.slots.items n ≡ Some r → All (IsOfVersion image.functions.items old.versions.items) r.frames.frames.items

  still_run : (all : List (List BareDef)) → Frames new → IsRunOf all image old → IsRunOf all image new
  still_run all frames is =
      stays_run all image old new (ap (λ (vs : Vec ℕ Global). vs.items) same.versions) same.in_force
      (ap (λ (l : WordLayouts). l.versions.items) same.layouts) version frames is

  pub stays_kept : AreKept image new.slots.items new.threads
      → (old.leaves_work ≡ false → (n : ℕ) (r : Running) → slice_get new.slots.items n ≡ Some r → r.leaves_work ≡ false)
      → IsKeptRun image old → IsKeptRun image new
  stays_kept slots none kept = record {
    slots = slots;
    versions = subst (λ (vs : Vec ℕ Global). length vs.items < 2 ^ 32) (sym same.versions) kept.versions;
    version = ap suc version ∙ kept.version ∙ ap (λ (vs : Vec ℕ Global). length vs.items) (sym same.versions);
    leaves = λ e. none (sym leaves ∙ e);
  }

  -- no slot changed
  pub keeps_all : IsKeptRun image old → new.slots ≡ old.slots → new.threads ≡ old.threads → new.shared.objects.created ≡ old.shared.objects.created
      → Keeps image old new
  keeps_all kept slots threads created = record {
    kept =
        stays_kept
        (subst (λ (n : ℕ). AreKept image new.slots.items n) (sym threads)
        (subst (λ (v : Vec Running Global). AreKept image v.items old.threads) (sym slots) kept.slots))
        (λ e n r there. kept.leaves e n r (ap (λ (v : Vec Running Global). slice_get v.items n) (sym slots) ∙ there)) kept;
    run = λ all is.
        still_run all (λ n r there. is.frames n r (ap (λ (v : Vec Running Global). slice_get v.items n) (sym slots) ∙ there)) is;
    same = same;
    used = λ n u.
        let now = same_used old new slots threads created n u in
        record {
          creations = omega (arith, now.creations);
          threads = omega (arith, now.threads);
          depths = λ t r there. let deep = now.depths t r there in omega (arith, deep);
        };
    leaves = leaves;
  }

  -- the thread in a slot changed
  pub keeps_slot : IsKeptRun image old → (slot : ℕ) (after : Running) → new.slots.items ≡ slice_set old.slots.items slot after
      → FitsImage image after
      → ((all : List (List BareDef)) → IsRunOf all image old → All (IsOfVersion image.functions.items old.versions.items) after.frames.frames.items)
      → ((n : ℕ) → HasUsed n old → after.depth ≤ 1 + n) → new.threads ≤ most_threads → new.threads ≤ suc old.threads
      → ((n : ℕ) → old.shared.objects.created ≤ n → new.shared.objects.created ≤ 1 + n)
      → (old.leaves_work ≡ false → after.leaves_work ≡ false) → Keeps image old new
  keeps_slot kept slot after set fits frames depth few threads created none = record {
    kept =
        stays_kept (kept_set image old.slots.items new.slots.items old.threads new.threads slot after set kept.slots fits few)
        (λ e. leaves_set old.slots.items new.slots.items slot after set (kept.leaves e) (none e)) kept;
    run = λ all is.
        still_run all
        (all_after (λ (r : Running). All (IsOfVersion image.functions.items old.versions.items) r.frames.frames.items) old.slots.items new.slots.items slot after set
        is.frames (frames all is)) is;
    same = same;
    used = λ n u. record {
      creations = created n u.creations;
      threads = omega (arith, u.threads, threads);
      depths =
          all_after (λ (r : Running). r.depth ≤ 1 + n) old.slots.items new.slots.items slot after set
          (λ t r there. let deep = u.depths t r there in omega (arith, deep)) (depth n u);
    };
    leaves = leaves;
  }

-- then the thread in a slot changed, and is in as many transactions as before
pub keeps_also : (image : CodeImage) (old mid new : RunState) → Keeps image old mid → SameVersions mid new → new.leaves_work ≡ mid.leaves_work → new.shared ≡ mid.shared
    → new.threads ≡ mid.threads → (slot : ℕ) (before after : Running) → slice_get mid.slots.items slot ≡ Some before
    → new.slots.items ≡ slice_set mid.slots.items slot after → FitsImage image after
    → ((all : List (List BareDef)) (versions : List ℕ) → RunsCode all versions image before → RunsCode all versions image after)
    → after.depth ≡ before.depth → after.leaves_work ≡ before.leaves_work → Keeps image old new
keeps_also image old mid new keeps same mode shared threads slot before after there set fits runs depth leaves =
    let version : new.shared.version ≡ mid.shared.version = ap (λ (d : Data). d.version) shared in
    let created : new.shared.objects.created ≡ mid.shared.objects.created = ap (λ (d : Data). d.objects.created) shared in
    let few : new.threads ≤ most_threads = omega (arith, keeps.kept.slots.counted, threads) in
    record {
      kept =
          stays_kept image mid new same mode version
          (kept_set image mid.slots.items new.slots.items mid.threads new.threads slot after set keeps.kept.slots fits few)
          (λ e. leaves_set mid.slots.items new.slots.items slot after set (keeps.kept.leaves e) (leaves ∙ keeps.kept.leaves e slot before there)) keeps.kept;
      run = λ all is.
          let now = keeps.run all is in
          let code : RunsCode all mid.versions.items image after =
          runs all mid.versions.items (record { image_is = now.image_is; frames = now.frames slot before there }) in
          still_run image mid new same mode version all
          (all_after (λ (r : Running). All (IsOfVersion image.functions.items mid.versions.items) r.frames.frames.items) mid.slots.items new.slots.items slot after set
          now.frames code.frames) now;
      same = record {
        versions = same.versions ∙ keeps.same.versions;
        in_force = same.in_force ∙ keeps.same.in_force;
        layouts = same.layouts ∙ keeps.same.layouts;
      };
      used = λ n u.
          let now = keeps.used n u in
          let deep = now.depths slot before there in
          record {
            creations = omega (arith, now.creations, created);
            threads = omega (arith, now.threads, threads);
            depths = all_after (λ (r : Running). r.depth ≤ 1 + n) mid.slots.items new.slots.items slot after set now.depths (omega (arith, deep, depth));
          };
      leaves = mode ∙ keeps.leaves;
    }

-- ---- a stop of the thread in a slot, which changes no other thread

module _ (image : CodeImage) (old new : RunState) (slot : ℕ) (before after : Running) (there : slice_get old.slots.items slot ≡ Some before)
    (set : new.slots.items ≡ slice_set old.slots.items slot after) (threads : new.threads ≡ old.threads) where
  pub keeps_thread : IsKeptRun image old → SameVersions old new → new.leaves_work ≡ old.leaves_work → new.shared.version ≡ old.shared.version → FitsImage image after
      → ((all : List (List BareDef)) (versions : List ℕ) → RunsCode all versions image before → RunsCode all versions image after)
      → after.depth ≤ 1 + before.depth
      → ((n : ℕ) → old.shared.objects.created ≤ n → new.shared.objects.created ≤ 1 + n)
      → after.leaves_work ≡ before.leaves_work → Keeps image old new
  keeps_thread kept same mode version fits runs depth created leaves =
      keeps_slot image old new same mode version kept slot after set fits
      (λ all is. (runs all old.versions.items (record { image_is = is.image_is; frames = is.frames slot before there })).frames)
      (λ n u. let deep = u.depths slot before there in omega (arith, deep, depth))
      (omega (arith, kept.slots.counted, threads)) (omega (arith, threads)) created (λ e. leaves ∙ kept.leaves e slot before there)

  pub uses_nothing : new.shared.objects.created ≡ old.shared.objects.created → new.output ≡ old.output → after.depth ≡ before.depth
      → UsesNothing old new
  uses_nothing created output depth = record {
    output = output;
    used = λ n u. record {
      creations = omega (arith, u.creations, created);
      threads = omega (arith, u.threads, threads);
      depths =
          all_after (λ (r : Running). r.depth ≤ n) old.slots.items new.slots.items slot after set u.depths
          (let deep = u.depths slot before there in omega (arith, deep, depth));
    };
  }
