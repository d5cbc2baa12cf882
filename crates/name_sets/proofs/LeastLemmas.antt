-- How the least name is kept while ids are looked at one by one.
use Rattle.std.proofs.Common.{◌≡◌, ◌≢◌, ℕ, ◌+◌, ◌*◌, ◌-◌, ◌/◌, ◌%◌, ◌^◌, ◌<◌, ◌≤◌, ◌⊎◌, inl, inr, List, length, get_or, Option, Some, None, bit_and, refl, sym, ap, subst, ◌∙◌, arith}
use Rattle.std.specs.Option.{ForSome, IfSome}
use Rattle.std.proofs.lemmas.Option.{same_Some, none-some}
use Rattle.name_sets.specs.Row.{word_common}
use Rattle.std.specs.Int.{bit_at, bit_not, trailing_zeros, w64}
use Rattle.std.proofs.lemmas.Bool.{cases_eq, cases_lt}
use Rattle.std.proofs.lemmas.Nat.{and_le_l}
use Rattle.std.proofs.lemmas.Nat.Bits.{bit_at-zero, bit_at-trailing_zeros, bit_at_above, bit_at_clear_same, bit_at_clear_other}
use Rattle.name_sets.specs.Texts.{IsBefore}
use Rattle.name_sets.specs.IdSet.{Holds}
use Rattle.name_sets.specs.Least.{IsLeastOf, TellsLeast}
use Rattle.name_sets.specs.Search.{ShowEight, ShowCommon, TellsLeastBelow, IsLesser, Shows}
use Rattle.name_sets.proofs.SetLemmas.{Holds-and}
use Rattle.name_sets.proofs.TextLemmas.{before_trans}

module _ (texts : List (List ℕ)) (P Q : ℕ → Type 0) where
  -- the same ids have the same least one
  pub least_same : (answer : Option ℕ) → ((id : ℕ) → P id → Q id) → ((id : ℕ) → Q id → P id) → TellsLeast texts P answer → TellsLeast texts Q answer
  least_same None to back none = λ id there. none id (back id there)
  least_same (Some r) to back first = record { member = to r first.member; least = λ other there apart. first.least other (back other there) apart }

  -- one more id
  pub least_step : (old : Option ℕ) (id r : ℕ) → ((j : ℕ) → Q j → P j ⊎ (j ≡ id)) → ((j : ℕ) → P j → Q j) → Q id → TellsLeast texts P old → IsLesser texts old id r → IsLeastOf texts Q r
  least_step None id r cases to there none is = record {
    member = subst Q (sym is) there;
    least = λ other here apart. elim (cases other here) [ inl earlier ↦ absurd (none other earlier) | inr same ↦ absurd (apart (same ∙ sym is)) ];
  }
  least_step (Some o) id r cases to there first (inl new) = record {
    member = subst Q (sym new.0) there;
    least = λ other here apart. subst (λ n. IsBefore texts n other) (sym new.0) (by other (cases other here) (λ e. apart (e ∙ sym new.0)) (cases_eq other o));
  }
    where
      by : (other : ℕ) → P other ⊎ (other ≡ id) → other ≢ id → (other ≡ o) ⊎ (other ≡ o → ⊥) → IsBefore texts id other
      by other (inr same) apart which = absurd (apart same)
      by other (inl earlier) apart (inl same) = subst (IsBefore texts id) (sym same) new.1
      by other (inl earlier) apart (inr later) = before_trans texts id o other new.1 (first.least other earlier later)
  least_step (Some o) id r cases to there first (inr kept) = record {
    member = subst Q (sym kept.0) (to o first.member);
    least = λ other here apart. subst (λ n. IsBefore texts n other) (sym kept.0) (by other (cases other here) (λ e. apart (e ∙ sym kept.0)) kept.1);
  }
    where
      by : (other : ℕ) → P other ⊎ (other ≡ id) → other ≢ o → (id ≡ o) ⊎ IsBefore texts o id → IsBefore texts o other
      by other (inl earlier) apart which = first.least other earlier apart
      by other (inr same) apart (inl one) = absurd (apart (same ∙ one))
      by other (inr same) apart (inr before) = subst (IsBefore texts o) (sym same) before

-- the lowest bit is taken out of a word
pub record TakesOut (left bit next : ℕ) : Type 0 where
  pub small : bit < 64
  pub here : Holds left bit
  pub gone : Holds next bit → ⊥
  pub stay : (k : ℕ) → k ≢ bit → Holds left k → Holds next k
  pub back : (k : ℕ) → Holds next k → Holds left k
  pub less : next < left

below_width : (left k : ℕ) → left < 2 ^ 64 → Holds left k → k < 64
below_width left k fits there = by (cases_lt k 64)
  where
    by : (k < 64) ⊎ (64 ≤ k) → k < 64
    by (inl small) = small
    by (inr above) = let e = sym there ∙ bit_at_above left 64 k fits above in absurd (omega (arith, e))

pub takes_out : (left bit : ℕ) → 0 < left → left < 2 ^ 64 → bit ≡ trailing_zeros w64 left → TakesOut left bit (bit_and left (bit_not w64 (1 * 2 ^ bit % 2 ^ 64)))
takes_out left bit some fits is =
    let lowest = bit_at-trailing_zeros w64 left some fits in
    let small : bit < 64 = omega (arith, is, lowest.0) in
    let here : Holds left bit = ap (bit_at left) is ∙ lowest.1 in
    let gone : Holds (bit_and left (bit_not w64 (1 * 2 ^ bit % 2 ^ 64))) bit → ⊥
    = λ h. let e = sym h ∙ bit_at_clear_same w64 left bit small in omega (arith, e) in
    let apart : bit_and left (bit_not w64 (1 * 2 ^ bit % 2 ^ 64)) ≢ left = λ e. gone (ap (λ n. bit_at n bit) e ∙ here) in
    record {
      small = small;
      here = here;
      gone = gone;
      stay = λ k other there. bit_at_clear_other w64 left bit small k (below_width left k fits there) other ∙ there;
      back = λ k there. ((Holds-and left (bit_not w64 (1 * 2 ^ bit % 2 ^ 64)) k).0 there).0;
      less = omega (arith, and_le_l left (bit_not w64 (1 * 2 ^ bit % 2 ^ 64)));
    }

-- the ids of the set that were looked at: those below the word's end, but for those of the bits that are left
abbrev pub IsDone : ℕ → ℕ → ℕ → ℕ → Type 0
IsDone set base left id = Holds set id × (id < base + 64) × ((j : ℕ) → Holds left j → id ≢ base + j)

module _ (texts : List (List ℕ)) (set base : ℕ) where
  pub done_at_first : (word : ℕ) (answer : Option ℕ) → Shows word set base → TellsLeastBelow texts set base answer → TellsLeast texts (IsDone set base word) answer
  done_at_first word answer shows = least_same texts (λ id. Holds set id × (id < base)) (IsDone set base word) answer
      (λ id h. (h.0, omega (arith, h.1), λ j there e. omega (arith, h.1, e)))
      (λ id h. (h.0, by id h (cases_lt id base)))
    where
      by : (id : ℕ) → IsDone set base word id → (id < base) ⊎ (base ≤ id) → id < base
      by id h (inl below) = below
      by id h (inr from) =
          let place : id ≡ base + (id - base) = omega arith in
          absurd (h.2 (id - base) ((shows (id - base) (omega (arith, h.1))).1 (subst (Holds set) place h.0)) place)

  pub done_at_last : (left : ℕ) (answer : Option ℕ) → left ≡ 0 → TellsLeast texts (IsDone set base left) answer → TellsLeastBelow texts set (base + 64) answer
  done_at_last left answer none = least_same texts (IsDone set base left) (λ id. Holds set id × (id < base + 64)) answer
      (λ id h. (h.0, h.1))
      (λ id h. (h.0, h.1, λ j there e. let p = sym there ∙ ap (λ n. bit_at n j) none ∙ bit_at-zero j in omega (arith, p)))

  pub done_step : (word left bit next r : ℕ) (answer : Option ℕ) → Shows word set base → ((j : ℕ) → Holds left j → Holds word j) → TakesOut left bit next
      → TellsLeast texts (IsDone set base left) answer → IsLesser texts answer (base + bit) r → IsLeastOf texts (IsDone set base next) r
  done_step word left bit next r answer shows part out = least_step texts (IsDone set base left) (IsDone set base next) answer (base + bit) r
      (λ j h. by j h (cases_eq j (base + bit)))
      (λ j h. (h.0, h.1, λ k there. h.2 k (out.back k there)))
      ((shows bit out.small).0 (part bit out.here), omega (arith, out.small), λ k there e. let same : k ≡ bit = omega arith in out.gone (subst (Holds next) same there))
    where
      by : (j : ℕ) → IsDone set base next j → (j ≡ base + bit) ⊎ (j ≡ base + bit → ⊥) → IsDone set base left j ⊎ (j ≡ base + bit)
      by j h (inl same) = inr same
      by j h (inr apart) = inl (h.0, h.1, λ k there e. h.2 k (out.stay k (λ same. apart (e ∙ ap (λ n. base + n) same)) there) e)

-- the lesser of two ids of a table is an id of it
pub lesser_known : (texts : List (List ℕ)) (old : Option ℕ) (id r : ℕ) → ForSome old (λ o. o < length texts) → id < length texts → IsLesser texts old id r → ForSome (Some r) (λ n. n < length texts)
lesser_known texts old id r known within lesser = by old known lesser
  where
    bound : r < length texts → ForSome (Some r) (λ n. n < length texts)
    bound h = λ n e. subst (λ m. m < length texts) (same_Some r n e) h

    by : (old : Option ℕ) → ForSome old (λ o. o < length texts) → IsLesser texts old id r → ForSome (Some r) (λ n. n < length texts)
    by None known is = bound (omega arith)
    by (Some o) known (inl new) = bound (omega (arith, new.0))
    by (Some o) known (inr kept) = bound (let h = known o refl in omega (arith, kept.0))

pub if_some_from_for : (o : Option ℕ) (P : ℕ → Type 0) → ForSome o P → IfSome o P
if_some_from_for None P h = tt
if_some_from_for (Some x) P h = h x refl

-- eight words of 0 add no id
pub eight_empty : (texts : List (List ℕ)) (set base : ℕ) (words : List ℕ) (answer : Option ℕ) → ((k : ℕ) → get_or words k 0 ≡ 0) → ShowEight words set base → TellsLeastBelow texts set base answer → TellsLeastBelow texts set (base + 512) answer
eight_empty texts set base words answer empty show = least_same texts (λ id. Holds set id × (id < base)) (λ id. Holds set id × (id < base + 512)) answer
    (λ id h. (h.0, omega (arith, h.1)))
    (λ id h. (h.0, by id h (cases_lt id base)))
  where
    by : (id : ℕ) → Holds set id × (id < base + 512) → (id < base) ⊎ (base ≤ id) → id < base
    by id h (inl below) = below
    by id h (inr from) =
        let limit = h.1 in
        let i = (id - base) / 64 in
        let j = (id - base) % 64 in
        let place : id ≡ base + 64 * i + j = omega arith in
        let there = (show i (omega arith) j (omega arith)).1 (subst (Holds set) place h.0) in
        let e = sym there ∙ ap (λ n. bit_at n j) (empty i) ∙ bit_at-zero j in
        absurd (omega (arith, e))

-- what the words of two rows say, eight of them say of their part
pub eight_common : (words other lanes : List ℕ) (set block : ℕ) → block < 4 → ((k : ℕ) → k < 8 → get_or lanes k 0 ≡ word_common words other (8 * block + k)) → ShowCommon words other set → ShowEight lanes set (512 * block)
eight_common words other lanes set block within loaded show = λ i small.
    let place : 64 * (8 * block + i) ≡ 512 * block + 64 * i = omega arith in
    subst (λ base. Shows (get_or lanes i 0) set base) place (subst (λ word. Shows word set (64 * (8 * block + i))) (sym (loaded i small)) (show (8 * block + i) (omega arith)))

pub for_some_from_if : (o : Option ℕ) (P : ℕ → Type 0) → IfSome o P → ForSome o P
for_some_from_if None P h = λ x e. absurd (none-some x e)
for_some_from_if (Some y) P h = λ x e. subst P (same_Some y x e) h
