-- A later text adds bodies to the store and leaves those in force in the versions so far.
use Rattle.std.proofs.Common.{◌≡◌, ℕ, suc, ◌+◌, ◌<◌, ◌≤◌, max, Bool, true, false, List, [], ◌∷◌, ◌++◌, length, append-nil, append_assoc, filter_map, find, slice_get, bytes_eq, Option, Some, None, refl, sym, ap, ◌∙◌, subst, arith, if◌then◌else◌, cond}
use Rattle.std.specs.Prelude.{◌&&◌, nat_le}
use Rattle.std.specs.List.{cons_option}
use Rattle.std.proofs.lemmas.Bool.{and_right, cond-false}
use Rattle.std.proofs.lemmas.Bool.Decides.{nat_tests}
use Rattle.std.proofs.lemmas.List.{length-map, map-append}
use Rattle.std.proofs.lemmas.Option.{none-some, cond_some}
use Rattle.c_tree.specs.BareExpr.{Bytes}
use Rattle.c_tree.specs.BareDef.{BareDef, Function}
use Rattle.c_semantics.specs.Texts.{definition}
use Rattle.c_semantics.specs.SourceTexts.{Text}
use Rattle.c_semantics.specs.Store.{Body, store, bodies_from, brought_bodies, body_of, generation_by, body_in}
use Rattle.c_semantics.specs.Threads.{Frame}
use Rattle.version_laws.specs.Histories.{text_in}
use Rattle.version_laws.proofs.TableHistories.{text_as_before}
use Rattle.admission_laws.specs.SoundTexts.{is_function, definitions_of, version_in}
use Rattle.admission_laws.specs.Stacks.{Level}
use Rattle.admission_laws.specs.Standing.{Sits, Wait, none, one}
use Rattle.admission_laws.proofs.LargerStores.{body_kept}

-- the bodies that a version brings are of this generation
generation_of_brought : (m : ℕ) (p : List BareDef) (q : Text) (d : BareDef) (b : Body) → body_of m p q d ≡ Some b → b.generation ≡ m
generation_of_brought m p q (Function result name parameters body) b e = sym (ap (λ x. x.generation) (cond_some _ _ _ e).1)
generation_of_brought m p q _ b e = absurd (none-some b e)

above_limit : (g m v : ℕ) → g ≡ m → v < m → nat_le g v ≡ false
above_limit g m v e less = grind (arith, nat_tests, e, less)

none_by : (f : Bytes) (v m : ℕ) (p : List BareDef) (q : Text) (ds : List BareDef) → v < m
    → generation_by f v (filter_map (body_of m p q) ds) ≡ 0
none_by f v m p q [] less = refl
none_by f v m p q (d ∷ ds) less = by (body_of m p q d) refl (none_by f v m p q ds less)
  where
    by : (o : Option Body) → body_of m p q d ≡ o → generation_by f v (filter_map (body_of m p q) ds) ≡ 0
        → generation_by f v (cons_option o (filter_map (body_of m p q) ds)) ≡ 0
    by None e rest = rest
    by (Some b) e rest =
        cond-false (bytes_eq f b.function && nat_le b.generation v) _ _
        (and_right (bytes_eq f b.function) _ (above_limit b.generation m v (generation_of_brought m p q d b e) less))
        ∙ rest

generation_kept : (f : Bytes) (v : ℕ) (xs ys : List Body) → generation_by f v ys ≡ 0 → generation_by f v (xs ++ ys) ≡ generation_by f v xs
generation_kept f v [] ys e = e
generation_kept f v (b ∷ xs) ys e =
    ap (λ g. if bytes_eq f b.function && nat_le b.generation v then max b.generation g else g) (generation_kept f v xs ys e)

found_kept : (test : Body → Bool) (xs ys : List Body) (b : Body) → find test xs ≡ Some b → find test (xs ++ ys) ≡ Some b
found_kept test [] ys b e = absurd (none-some b e)
found_kept test (x ∷ xs) ys b e = by (test x) e (found_kept test xs ys b)
  where
    by : (t : Bool) → cond t (Some x) (find test xs) ≡ Some b → (find test xs ≡ Some b → find test (xs ++ ys) ≡ Some b)
        → cond t (Some x) (find test (xs ++ ys)) ≡ Some b
    by true h rest = h
    by false h rest = rest h

-- the bodies that the last text brings
pub record Brings (n : ℕ) (p : List BareDef) (texts : List Text) (q : Text) : Type 0 where
  pub before : List BareDef
  pub grows : bodies_from n p (texts ++ q ∷ []) ≡ bodies_from n p texts ++ brought_bodies (n + length texts) before q

plus_zero : (n : ℕ) → n ≡ n + 0
plus_zero n = omega arith

plus_one : (n m : ℕ) → suc n + m ≡ n + suc m
plus_one n m = omega arith

brings : (n : ℕ) (p : List BareDef) (texts : List Text) (q : Text) → Brings n p texts q
brings n p [] q = record {
  before = p;
  grows = append-nil (brought_bodies n p q) ∙ ap (λ m. brought_bodies m p q) (plus_zero n);
}
brings n p (t ∷ ts) q =
    let rest = brings (suc n) t.definitions ts q in record {
      before = rest.before;
      grows =
          ap (λ bodies. brought_bodies n p t ++ bodies) rest.grows
          ∙ sym (append_assoc (brought_bodies n p t) (bodies_from (suc n) t.definitions ts) _)
          ∙ ap (λ m. (brought_bodies n p t ++ bodies_from (suc n) t.definitions ts) ++ brought_bodies m rest.before q) (plus_one n (length ts));
    }

-- the store with one text more
pub record Grows (texts : List Text) (q : Text) : Type 0 where
  pub more : List Body
  pub grows : store (texts ++ q ∷ []) ≡ store texts ++ more
  pub later : (f : Bytes) (v : ℕ) → v ≤ length texts → generation_by f v more ≡ 0

one_above : (v n : ℕ) → v ≤ n → v < 1 + n
one_above v n h = omega (arith, h)

pub grows : (texts : List Text) (q : Text) → Grows texts q
grows texts q =
    let b = brings 1 [] texts q in record {
      more = brought_bodies (1 + length texts) b.before q;
      grows = b.grows;
      later = λ f v h. none_by f v (1 + length texts) b.before q q.definitions (one_above v (length texts) h);
    }

-- the versions so far stay
pub definitions_more : (texts : List Text) (q : Text) → definitions_of (texts ++ q ∷ []) ≡ definitions_of texts ++ q.definitions ∷ []
definitions_more texts q = map-append (λ t. t.definitions) texts (q ∷ [])

pub version_kept : (texts : List Text) (q : Text) (n : ℕ) (name : Bytes) → n ≤ length texts
    → version_in (texts ++ q ∷ []) n name ≡ version_in texts n name
version_kept texts q n name h =
    ap (λ ts. definition (text_in ts n) name) (definitions_more texts q)
    ∙ ap (λ text. definition text name)
    (text_as_before (definitions_of texts) q.definitions n (subst (λ m. n ≤ m) (sym (length-map texts (λ t. t.definitions))) h))

-- the frames sit as they did
pub generation_later : (texts : List Text) (q : Text) (f : Bytes) (v : ℕ) → v ≤ length texts
    → generation_by f v (store (texts ++ q ∷ [])) ≡ generation_by f v (store texts)
generation_later texts q f v h =
    let g = grows texts q in ap (generation_by f v) g.grows ∙ generation_kept f v (store texts) g.more (g.later f v h)

pub body_later : (texts : List Text) (q : Text) (f : Bytes) (generation : ℕ) (b : Body) → body_in (store texts) f generation ≡ Some b
    → body_in (store (texts ++ q ∷ [])) f generation ≡ Some b
body_later texts q f generation b e =
    let g = grows texts q in
    ap (λ bodies. body_in bodies f generation) g.grows ∙ found_kept _ (store texts) g.more b e

more_versions : (v n : ℕ) → v ≤ n → v ≤ suc n
more_versions v n h = omega (arith, h)

pub longer : (texts : List Text) (q : Text) → length (texts ++ q ∷ []) ≡ suc (length texts)
longer [] q = refl
longer (t ∷ texts) q = ap suc (longer texts q)

pub version_within : (texts : List Text) (q : Text) (v : ℕ) → v ≤ length texts → v ≤ length (texts ++ q ∷ [])
version_within texts q v h = subst (λ n. v ≤ n) (sym (longer texts q)) (more_versions v (length texts) h)

abbrev pub sits_later : (texts : List Text) (q : Text) (f : Frame) (place : ℕ) → Sits texts f place → Sits (texts ++ q ∷ []) f place
sits_later texts q f place s = record {
  body = s.body;
  found = ap (body_in (store (texts ++ q ∷ [])) f.function) (generation_later texts q f.function f.version s.version)
      ∙ body_later texts q f.function _ s.body s.found;
  function_is = s.function_is;
  generation_is = s.generation_is ∙ sym (generation_later texts q f.function f.version s.version);
  stored = ap (λ bodies. slice_get bodies place) (grows texts q).grows ∙ body_kept (store texts) (grows texts q).more place s.body s.stored;
  code = s.code;
  result = s.result;
  skeleton_is = s.skeleton_is;
  depth = s.depth;
  comes = s.comes;
  version = version_within texts q f.version s.version;
  calls = λ n name h. ap is_function (version_kept texts q f.version name s.version) ∙ s.calls n name h;
  spawns = λ n name h. ap is_function (version_kept texts q f.version name s.version) ∙ s.spawns n name h;
}

pub wait_later : (texts : List Text) (q : Text) (fs : List Frame) (ls : List Level) → Wait texts fs ls → Wait (texts ++ q ∷ []) fs ls
wait_later texts q _ _ none = none
wait_later texts q _ _ (one f fs place ls sits rest) = one f fs place ls (sits_later texts q f place sits) (wait_later texts q fs ls rest)
