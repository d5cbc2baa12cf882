-- The passes of a lock, one taken after the other.
use Rattle.std.proofs.Common.{◌≡◌, ℕ, zero, suc, ◌+◌, ◌<◌, ◌≤◌, List, [], ◌∷◌, ◌++◌, All, length, get_or, refl, sym, ◌∙◌, ap, subst, arith, length-append}
use lib.ListN.{set}
use Rattle.std.proofs.lemmas.List.Elements.{All-push, All-set, All-weaker}
use Rattle.std.proofs.Math.ListN.{get_or-append}
use Rattle.std.proofs.Math.Seq.{get_or-append_seam}
use Rattle.atomic_table.specs.Seated.{TableId}
use Rattle.pass_lock.specs.Passes.{IsFreeAt, Known, fresh, fresh_from}
use Rattle.threaded_vm.specs.declared.notes.Note.{Note}
use Rattle.threaded_vm.specs.Crews.{AreFree, AreFresh}

-- the last one, and those before
pub last_fresh : (table : TableId) (all xs : List (Known Note)) (p : Known Note) → all ≡ xs ++ p ∷ [] → AreFresh table all
    → IsFreeAt table p × (p.number ≡ length xs)
last_fresh table all xs p is fresh =
    let at : IsFreeAt table (get_or all (length xs) p) × ((get_or all (length xs) p).number ≡ length xs) = fresh (length xs) p (let n = ap length is ∙ length-append xs (p ∷ []) in omega (arith, n)) in
    subst (λ q. IsFreeAt table q × (q.number ≡ length xs)) (ap (λ l. get_or l (length xs) p) is ∙ get_or-append_seam xs p [] p) at

pub others_fresh : (table : TableId) (all xs : List (Known Note)) (p : Known Note) → all ≡ xs ++ p ∷ [] → AreFresh table all → AreFresh table xs
others_fresh table all xs p is fresh k d below =
    let at : IsFreeAt table (get_or all k d) × ((get_or all k d).number ≡ k) = fresh k d (let n = ap length is ∙ length-append xs (p ∷ []) in omega (arith, n, below)) in
    subst (λ q. IsFreeAt table q × (q.number ≡ k)) (ap (λ l. get_or l k d) is ∙ get_or-append xs (p ∷ []) d k below) at

pub fresh_count : (table : TableId) (n count : ℕ) → length (fresh_from {E = Note} table n count) ≡ count
fresh_count table n zero = refl
fresh_count table n (suc count) = ap suc (fresh_count table (suc n) count)

fresh_at : (table : TableId) (n count k : ℕ) (d : Known Note) → k < count → get_or (fresh_from table n count) k d ≡ fresh table (n + k)
fresh_at table n zero k d h = absurd (omega (arith, h))
fresh_at table n (suc count) zero d h = ap (λ (z : ℕ). fresh {E = Note} table z) (let e : n ≡ n + 0 = omega arith in e)
fresh_at table n (suc count) (suc k) d h =
    fresh_at table (suc n) count k d (omega (arith, h)) ∙ ap (λ (z : ℕ). fresh {E = Note} table z) (let e : suc n + k ≡ n + suc k = omega arith in e)

pub fresh_ready : (table : TableId) (count : ℕ) (xs : List (Known Note)) → xs ≡ fresh_from table 0 count → AreFresh table xs × (length xs ≡ count)
fresh_ready table count xs is = (
  λ k d h.
      let at : get_or xs k d ≡ fresh table (0 + k) =
      ap (λ (l : List (Known Note)). get_or l k d) is
      ∙ fresh_at table 0 count k d (let n = ap length is ∙ fresh_count table 0 count in omega (arith, n, h)) in
      let number : 0 + k ≡ k = omega arith in
      ((ap (λ (p : Known Note). p.table) at, ap (λ (p : Known Note). p.turn) at), ap (λ (p : Known Note). p.number) at ∙ number),
  ap length is ∙ fresh_count table 0 count,
)

pub none_free : (table : TableId) (xs : List (Known Note)) → xs ≡ [] → AreFree table xs
none_free table xs none = subst (AreFree table) (sym none) (λ k d below. absurd (omega (arith, below)))

-- a worker has one seat more, and one pass is left less
module _ {W : Type 0} (seats : W → List (Known Note)) (capacity : W → ℕ) (table : TableId) where
  abbrev pub Seated : ℕ → W → Type 0
  Seated left w = AreFree table (seats w) × (length (seats w) + left ≤ capacity w)

  pub one_seated : (workers : List W) (place left : ℕ) (d before after : W) (p : Known Note) → All (Seated (left + 1)) workers
      → place < length workers → before ≡ get_or workers place d → seats after ≡ seats before ++ p ∷ [] → capacity after ≡ capacity before
      → IsFreeAt table p → All (Seated left) (set workers place after)
  one_seated workers place left d before after p all below is more same free =
      let was : Seated (left + 1) before = subst (Seated (left + 1)) (sym is) (all place d below) in
      let count = ap length more ∙ length-append (seats before) (p ∷ []) in
      All-set (Seated left) workers place after
      (subst (AreFree table) (sym more) (All-push (IsFreeAt table) (seats before) p was.0 free), (let room = was.1 in omega (arith, count, room, same)))
      (All-weaker (Seated (left + 1)) (Seated left) (λ w s. (s.0, (let room = s.1 in omega (arith, room)))) workers all)
