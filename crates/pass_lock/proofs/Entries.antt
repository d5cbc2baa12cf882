-- Facts about histories and the entries of one pass.
use Rattle.std.proofs.Common.{◌≡◌, ◌≢◌, ◌==◌, ℕ, eq-eqb, ne_eqb, Bool, true, false, cond, List, [], ◌∷◌, ◌++◌, map, sym, refl, ap, ◌∙◌}
use Rattle.std.proofs.Math.Seq.{drop-append_seam}
use Rattle.std.proofs.lemmas.List.{append_assoc, append-nil}
use Rattle.pass_lock.specs.declared.notes.Entry.{Entry}
use Rattle.pass_lock.specs.Histories.{StartsWith, entry, entries_of}
use Rattle.pass_lock.specs.Steps.{what, added_since}

module _ {E : Type 0} where
  cond_append : (b : Bool) (x : E) (p q r : List E) → r ≡ p ++ q → cond b (x ∷ r) r ≡ cond b (x ∷ p) p ++ q
  cond_append true x p q r e = ap (λ (l : List E). x ∷ l) e
  cond_append false x p q r e = e

  pub entries_append : (n : ℕ) (a b : List (Entry E)) → entries_of n (a ++ b) ≡ entries_of n a ++ entries_of n b
  entries_append n [] b = refl
  entries_append n (e ∷ es) b = cond_append (e.pass == n) e.what (entries_of n es) (entries_of n b) (entries_of n (es ++ b)) (entries_append n es b)

  pub entries_own : (n : ℕ) (xs : List E) → entries_of n (map (entry n) xs) ≡ xs
  entries_own n [] = refl
  entries_own n (x ∷ xs) = ap (λ (b : Bool). cond b (x ∷ entries_of n (map (entry n) xs)) (entries_of n (map (entry n) xs))) (eq-eqb n n refl) ∙ ap (λ (l : List E). x ∷ l) (entries_own n xs)

  pub entries_else : (n k : ℕ) (xs : List E) → n ≢ k → entries_of k (map (entry n) xs) ≡ []
  entries_else n k [] other = refl
  entries_else n k (x ∷ xs) other = ap (λ (b : Bool). cond b (x ∷ entries_of k (map (entry n) xs)) (entries_of k (map (entry n) xs))) (ne_eqb n k other) ∙ entries_else n k xs other

  what_entries : (n : ℕ) (xs : List E) → map what (map (entry n) xs) ≡ xs
  what_entries n [] = refl
  what_entries n (x ∷ xs) = ap (λ (l : List E). x ∷ l) (what_entries n xs)

  -- what was added is what the later history says after the earlier one
  pub added_is : (n : ℕ) (log later : List (Entry E)) (added : List E) → later ≡ log ++ map (entry n) added → added_since log later ≡ added
  added_is n log later added e = ap (λ (l : List (Entry E)). added_since log l) e ∙ (ap (map what) (drop-append_seam log (map (entry n) added)) ∙ what_entries n added)

  pub starts_longer : (log seen more : List (Entry E)) → StartsWith log seen → StartsWith (log ++ more) seen
  starts_longer log seen more s = (s.0 ++ more, ap (λ (l : List (Entry E)). l ++ more) s.1 ∙ append_assoc seen s.0 more)

  pub starts_itself : (log : List (Entry E)) → StartsWith log log
  starts_itself log = ([], sym (append-nil log))
