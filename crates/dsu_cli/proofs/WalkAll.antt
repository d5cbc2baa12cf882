-- What `clap` makes of all words that are known items.
use Rattle.std.proofs.Common.{◌≡◌, ◌∙◌, ℕ, suc, arith, length, true, false, true≢false, List, [], ◌∷◌, Option, Some, None, refl, sym, ap, subst, codes, cond, inl, inr}
use Rattle.std.specs.List.{fold, list_all}
use Rattle.std.specs.Option.{option_map_or}
use Rattle.std.specs.Str.{bytes_eq}
use Rattle.std.proofs.lemmas.Bool.{and_from, and_parts, cases_Bool}
use Rattle.std.proofs.lemmas.Option.{none-some, same_Some}
use Rattle.clap.specs.Lexer.{long_of}
use Rattle.clap.specs.Walk.{Row, Walk, Waiting, idle, option as waits_for, positional as takes_more, walked}
use Rattle.clap.specs.Takes.{walk_passes}
use Rattle.dsu_cli.specs.declared.setting.Setting.{Setting}
use Rattle.dsu_cli.specs.declared.setting.Setting.TheVariants.{Offer, Workers, Moves, Objects, Engine}
use Rattle.dsu_cli.specs.Words.{Text, Item, positional, option, switch, behind_dashes, is_switch, items, name_and_value, then_items}
use Rattle.dsu_cli.specs.Fit.{name_of, switch_name}
use Rattle.dsu_cli.specs.Sorted.{is_known}
use Rattle.dsu_cli.proofs.Names.{setting_is, switch_is}
use Rattle.dsu_cli.proofs.App.{rules, shape}
use Rattle.dsu_cli.proofs.Words.{behind_dashes_is, long_pair, long_whole}
use Rattle.dsu_cli.proofs.Walk.{Pending, last, Resting, idle_rests, more_rests, file, nothing, Turns, at, base, put, put_item, turn_name, turn_pair, turn_positional, turn_switch, turn_value}

pub record Walked (words : List Text) (its : List Item) (start : List Row) (from : Walk) : Type 0 where
  pub rows : List Row
  pub last_read : Option (Text × List Text)
  pub waiting : Waiting
  pub pending : Pending last_read
  pub ends : fold (walked rules []) from words ≡ at rows last_read waiting
  pub holds : base rows last_read ≡ fold put_item start its
  pub passes : walk_passes shape [] from words ≡ true

walk_on : (word : Text) (words : List Text) (its : List Item) (start : List Row) (from to : Walk) → Turns from word to → Walked words its start to → Walked (word ∷ words) its start from
unfolding walk_passes
walk_on word words its start from to t h = record {
  rows = h.rows;
  last_read = h.last_read;
  waiting = h.waiting;
  pending = h.pending;
  ends = ap (λ x. fold (walked rules []) x words) t.leads ∙ h.ends;
  holds = h.holds;
  passes = and_from _ _ t.passes (ap (λ x. walk_passes shape [] x words) t.leads ∙ h.passes);
}

-- where a walk may stand, by the option that waits for its value
pub data State : Option Text → List Row → Walk → Type 0 where
  resting : (rows : List Row) (p : Option (Text × List Text)) (w : Waiting) → Pending p → Resting w → State None (base rows p) (at rows p w)
  waiting_for : (rows : List Row) (s : Setting) → State (Some (name_of s)) rows (at rows (Some (name_of s, [])) (waits_for (name_of s)))

-- the words after this place can be walked over
abbrev pub Goes : List Text → Type 0
Goes words = (its : List Item) (name : Option Text) (start : List Row) (from : Walk) → State name start from → items name words ≡ Some its
    → list_all is_known its ≡ true → Walked words its start from

first_item : (item : Item) (o : Option (List Item)) (its : List Item) → then_items item o ≡ Some its → (rest : List Item) × (o ≡ Some rest) × (its ≡ item ∷ rest)
first_item item None its e = absurd (none-some its e)
first_item item (Some rest) its e = (rest, refl, sym (same_Some _ _ e))

-- what is found after an item counts with it
with_item : (words : List Text) (item : Item) (rest : List Item) (start : List Row) (to : Walk) → Walked words rest (put_item start item) to → Walked words (item ∷ rest) start to
with_item words item rest start to h = record {
  rows = h.rows;
  last_read = h.last_read;
  waiting = h.waiting;
  pending = h.pending;
  ends = h.ends;
  holds = h.holds;
  passes = h.passes;
}

-- one item is read, and then the rest
go_on : (word : Text) (words : List Text) (its : List Item) (item : Item) (start : List Row) (from to : Walk) → Goes words
    → then_items item (items None words) ≡ Some its → list_all is_known its ≡ true
    → (is_known item ≡ true → Turns from word to × State None (put_item start item) to) → Walked (word ∷ words) its start from
go_on word words its item start from to goes e k turns =
    let found = first_item item (items None words) its e in
    let all = and_parts _ _ (subst (λ (xs : List Item). list_all is_known xs ≡ true) found.2 k) in
    let t = turns all.0 in
    let h = goes found.0 None (put_item start item) to t.1 found.1 all.1 in
    subst (λ (xs : List Item). Walked (word ∷ words) xs start from) (sym found.2)
    (walk_on word words (item ∷ found.0) start from to t.0 (with_item words item found.0 start to h))

-- an option that waits for its value is known
opened : (text : Text) (words : List Text) (its : List Item) → items (Some text) words ≡ Some its → list_all is_known its ≡ true → (s : Setting) × (text ≡ name_of s)
opened text [] its e k = absurd (none-some its e)
opened text (v ∷ words) its e k =
    let found = first_item (option text v) (items None words) its e in
    let all = and_parts _ _ (subst (λ (xs : List Item). list_all is_known xs ≡ true) found.2 k) in
    setting_is text (and_parts _ _ all.0).0

last_value : (rows : List Row) (s : Setting) (word : Text) → base rows (Some (name_of s, word ∷ [])) ≡ put (name_of s) word rows
last_value rows Offer word = refl
last_value rows Workers word = refl
last_value rows Moves word = refl
last_value rows Objects word = refl
last_value rows Engine word = refl

not_dashes : (word text : Text) → word ≡ 45 ∷ 45 ∷ text → (text ≡ [] → ⊥) → bytes_eq word (45 ∷ 45 ∷ []) ≡ false
not_dashes word [] is some = absurd (some refl)
not_dashes word (c ∷ cs) is some = ap (λ w. bytes_eq w (45 ∷ 45 ∷ [])) is

pair_is_some : (text : Text) (parts : Text × Text) → name_and_value text ≡ Some parts → text ≡ [] → ⊥
pair_is_some text parts e none = none-some parts (sym (ap name_and_value none) ∙ e)

nil_cons : (c : ℕ) (cs : Text) → [] ≡ c ∷ cs → ⊥
nil_cons c cs e =
    let long : 0 ≡ suc (length cs) = ap length e in
    absurd (omega arith)

name_is_some : (s : Setting) (text : Text) → text ≡ name_of s → text ≡ [] → ⊥
name_is_some Offer text e none = nil_cons _ _ (sym none ∙ e)
name_is_some Workers text e none = nil_cons _ _ (sym none ∙ e)
name_is_some Moves text e none = nil_cons _ _ (sym none ∙ e)
name_is_some Objects text e none = nil_cons _ _ (sym none ∙ e)
name_is_some Engine text e none = nil_cons _ _ (sym none ∙ e)

whole_long : (word text : Text) → word ≡ 45 ∷ 45 ∷ text → (text ≡ [] → ⊥) → name_and_value text ≡ None → long_of word ≡ Some (text, None)
whole_long word [] is some e = absurd (some refl)
whole_long word (c ∷ cs) is some e = ap long_of is ∙ long_whole c cs e

module _ (word : Text) (words : List Text) (its : List Item) (rows : List Row) (p : Option (Text × List Text)) (w : Waiting) (pending : Pending p) (rests : Resting w)
    (goes : Goes words) (k : list_all is_known its ≡ true) where
  abbrev start : List Row
  start = base rows p

  at_pair : (text : Text) (parts : Text × Text) → word ≡ 45 ∷ 45 ∷ text → name_and_value text ≡ Some parts
      → then_items (option parts.0 parts.1) (items None words) ≡ Some its → Walked (word ∷ words) its start (at rows p w)
  at_pair text parts is pair e =
      let no_dashes = not_dashes word text is (pair_is_some text parts pair) in
      let to = at (put parts.0 parts.1 start) None idle in
      go_on word words its (option parts.0 parts.1) start (at rows p w) to goes e k (λ known.
      let s = setting_is parts.0 (and_parts _ _ known).0 in
      let long : long_of word ≡ Some (name_of s.0, Some parts.1) =
      ap long_of is ∙ long_pair text parts.0 parts.1 pair ∙ ap (λ (n : Text). Some (n, Some parts.1)) s.1 in (
        subst (λ (n : Text). Turns (at rows p w) word (at (put n parts.1 start) None idle)) (sym s.1) (turn_pair rows p w word pending rests no_dashes s.0 parts.1 long),
        resting (put parts.0 parts.1 start) None idle nothing idle_rests,
      ))

  at_whole : (text : Text) → word ≡ 45 ∷ 45 ∷ text → name_and_value text ≡ None
      → cond (is_switch text) (then_items (switch text) (items None words)) (items (Some text) words) ≡ Some its
      → Walked (word ∷ words) its start (at rows p w)
  at_whole text is whole e = elim (cases_Bool (is_switch text)) [
    | inl no_value ↦
        let s = switch_is text no_value in
        let some : text ≡ [] → ⊥ = λ none. true≢false (sym no_value ∙ ap is_switch none) in
        let long : long_of word ≡ Some (switch_name s.0, None) = whole_long word text is some whole ∙ ap (λ (n : Text). Some (n, None)) s.1 in
        go_on word words its (switch text) start (at rows p w) (at (put text (codes "true") start) None idle) goes (rw no_value at e) k (λ known. (
          subst (λ (n : Text). Turns (at rows p w) word (at (put n (codes "true") start) None idle)) (sym s.1)
              (turn_switch rows p w word pending rests (not_dashes word text is some) s.0 long),
          resting (put text (codes "true") start) None idle nothing idle_rests,
        ))
    | inr isnt ↦
        let waits : items (Some text) words ≡ Some its = rw isnt at e in
        let s = opened text words its waits k in
        let some = name_is_some s.0 text s.1 in
        let long : long_of word ≡ Some (name_of s.0, None) = whole_long word text is some whole ∙ ap (λ (n : Text). Some (n, None)) s.1 in
        let to = at start (Some (name_of s.0, [])) (waits_for (name_of s.0)) in
        walk_on word words its start (at rows p w) to (turn_name rows p w word pending rests (not_dashes word text is some) s.0 long)
        (goes its (Some (name_of s.0)) start to (waiting_for start s.0) (sym (ap (λ (n : Text). items (Some n) words) s.1) ∙ waits) k)
  ]

  at_word : items None (word ∷ words) ≡ Some its → Walked (word ∷ words) its start (at rows p w)
  at_word e = go (behind_dashes word) refl e
    where
      parts_go : (text : Text) (parts : Option (Text × Text)) → word ≡ 45 ∷ 45 ∷ text → name_and_value text ≡ parts
          → option_map_or (λ q. then_items (option q.0 q.1) (items None words)) parts (cond (is_switch text) (then_items (switch text) (items None words)) (items (Some text) words)) ≡ Some its
          → Walked (word ∷ words) its start (at rows p w)
      parts_go text (Some parts) is pair e = at_pair text parts is pair e
      parts_go text None is whole e = at_whole text is whole e

      go : (d : Option Text) → behind_dashes word ≡ d
          → option_map_or (λ text. option_map_or (λ q. then_items (option q.0 q.1) (items None words)) (name_and_value text)
          (cond (is_switch text) (then_items (switch text) (items None words)) (items (Some text) words))) d (then_items (positional word) (items None words)) ≡ Some its
          → Walked (word ∷ words) its start (at rows p w)
      go (Some text) dashes e = parts_go text (name_and_value text) (behind_dashes_is word text dashes) refl e
      go None plain e = go_on word words its (positional word) start (at rows p w) (at start (Some (codes "files", word ∷ [])) takes_more) goes e k
          (λ known. (turn_positional rows p w word pending rests known, resting start (Some (codes "files", word ∷ [])) takes_more (file word) more_rests))

pub walk_all : (words : List Text) → Goes words
unfolding walk_passes
walk_all [] its _ _ _ (resting rows p w pending rests) e k = record {
  rows = rows;
  last_read = p;
  waiting = w;
  pending = pending;
  ends = refl;
  holds = ap (fold put_item (base rows p)) (same_Some [] its e);
  passes = refl;
}
walk_all [] its _ _ _ (waiting_for rows s) e k = absurd (none-some its e)
walk_all (word ∷ words) its _ _ _ (resting rows p w pending rests) e k = at_word word words its rows p w pending rests (walk_all words) k e
walk_all (word ∷ words) its _ _ _ (waiting_for rows s) e k =
    let to = at rows (Some (name_of s, word ∷ [])) idle in
    go_on word words its (option (name_of s) word) rows (at rows (Some (name_of s, [])) (waits_for (name_of s))) to (walk_all words) e k (λ known. (
      turn_value rows s word (and_parts _ _ known).1,
      subst (λ (r : List Row). State None r to) (last_value rows s word) (resting rows (Some (name_of s, word ∷ [])) idle (last s word) idle_rests),
    ))
