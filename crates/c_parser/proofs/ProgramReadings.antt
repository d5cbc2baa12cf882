-- The walk through a whole text, item by item, says what the grammar says of its tokens.
use Rattle.std.specs.Prelude.{◌≡◌, ◌<◌, ◌≤◌, ◌+◌, ◌⊎◌, ℕ, suc, List, [], ◌∷◌, ◌++◌, length, take}
use Rattle.std.proofs.Common.{inl, inr, refl, sym, ap, ◌∙◌, subst, arith, append_assoc, append-nil}
use Rattle.std.proofs.lemmas.List.{length-append, take_at}
use Rattle.std.proofs.lemmas.List.Elements.{All-nil, All-append}
use Rattle.c_lexer.specs.declared.token.Token.{Token}
use Rattle.c_tree.specs.declared.def.Def.{Def}
use Rattle.c_tree.specs.declared.def.Program.{Program}
use Rattle.c_expr_parser.specs.Placed.{Placed, tokens, end}
use Rattle.c_expr_parser.specs.Readings.{most_depth, IsShallow, Begins, IsFront, IsWhole, FaultAt, TooDeepAt}
use Rattle.c_expr_parser.specs.Definitions.{Item, ItemList, TranslationUnit}
use Rattle.c_parser.specs.Programs.{ReadsProgram}
use Rattle.c_parser.specs.TextPlans.{Found, TextTrace, TextParsed, run_text, text_remaining, text_parsed, item, ItemsRead}
use Rattle.c_parser.specs.TextPlans.Found.{made}
use Rattle.c_parser.specs.TextPlans.TextTrace.{Next, Gave, Stopped}
use Rattle.c_parser.specs.TextPlans.TextParsed.{found, stuck_at, deep_at}
use Rattle.c_parser.proofs.JoinedTraces.{nexts, text_placed}
use Rattle.c_parser.proofs.TraceMeaning.{From, TextExplained, remaining_text}
use Rattle.c_parser.proofs.SoundDeclarations.{Made}
use Rattle.c_parser.proofs.CompleteItems.{item_yields}
use Rattle.c_parser.proofs.ProgramLaws.{reads_item, has_token, program_depth}
use Rattle.c_parser.proofs.SoundItems.{AsItem, IsItem, sound_item}
use Rattle.c_parser.proofs.OnlyAnswers.{length_tokens, tokens_append, front_length, take_front, deep_before_fault, deep_behind}
use Rattle.c_parser.proofs.TraceCuts.{IsCut, was_cut, remaining_nexts, explained_nexts, explained_begins, first_of, run_first, beyond, beyond_is, gave_same, stopped_differs, nothing_gives}

-- what a plan gives says how it was carried out
answer : (ts : List Token) {m : TextParsed} → text_parsed item ts ≡ m → IsCut (run_text ts item) m
unfolding text_parsed
answer ts e = subst (IsCut (run_text ts item)) e (was_cut (run_text ts item))

-- what an item's trace means after its first tokens
item_explained : (ts : List Token) (ps : List Placed) (tr : TextTrace) → run_text ts item ≡ nexts ps tr → TextExplained (From ps AsItem) tr
item_explained ts ps tr e = explained_nexts AsItem ps tr (subst (TextExplained AsItem) e (sound_item ts))

tokens_nexts : (ts : List Token) (ps : List Placed) (tr : TextTrace) → run_text ts item ≡ nexts ps tr → tokens ps ++ text_remaining tr ≡ ts
tokens_nexts ts ps tr e = sym (remaining_nexts ps tr) ∙ (ap text_remaining (sym e) ∙ remaining_text ts item)

-- an item that was found
record FoundItem (ts : List Token) (f : ℕ → List Def) (rest : List Token) : Type 0 where
  pub placed : List Placed
  pub trace : run_text ts item ≡ nexts placed (Gave (made f) rest)
  pub are : tokens placed ++ rest ≡ ts
  pub item_of : Item placed (f (length placed))
  pub shallow : IsShallow placed

by_made : {ps : List Placed} {f : ℕ → List Def} {rest : List Token} → AsItem ps (made f) rest → IsItem f ps
by_made (Made.it_is x) = x

found_item : (ts : List Token) {f : ℕ → List Def} {rest : List Token} → text_parsed item ts ≡ found (made f) rest → FoundItem ts f rest
found_item ts {f} {rest} e =
    let c = answer ts e in record {
      placed = c.0;
      trace = c.2;
      are = tokens_nexts ts c.0 (Gave (made f) rest) c.2;
      item_of = subst (λ ps. Item ps (f (length ps))) (append-nil c.0) (by_made (item_explained ts c.0 (Gave (made f) rest) c.2));
      shallow = c.1;
    }

is_made : {ps : List Placed} {g : Found} {rest : List Token} → AsItem ps g rest → (f : ℕ → List Def) × (g ≡ made f)
is_made (Made.it_is {a = f} x) = (f, refl)

-- what is found as an item makes definitions
pub item_made : (ts : List Token) {g : Found} {rest : List Token} → text_parsed item ts ≡ found g rest → (f : ℕ → List Def) × (g ≡ made f)
item_made ts {g} {rest} e = let c = answer ts e in is_made (item_explained ts c.0 (Gave g rest) c.2)

-- and takes a token at least
not_empty : (ps : List Placed) → ¬ (tokens (ps ++ []) ≡ []) → 0 < length ps
not_empty [] none = absurd (none refl)
not_empty (t ∷ ps) none = omega arith

found_token : {ts rest : List Token} {f : ℕ → List Def} (x : FoundItem ts f rest) → 0 < length x.placed
found_token x = not_empty x.placed (has_token x.placed [] _ (item_yields x.item_of))

found_length : {ts rest : List Token} {f : ℕ → List Def} (x : FoundItem ts f rest) → length x.placed + length rest ≡ length ts
found_length {rest} x = omega (arith, ap length x.are, length-append (tokens x.placed) rest, length_tokens x.placed)

pub item_shortens : (ts : List Token) {g : Found} {rest : List Token} → text_parsed item ts ≡ found g rest → length rest < length ts
item_shortens ts {g} {rest} e =
    let m = item_made ts e in
    let x = found_item ts {f = m.0} (e ∙ ap (λ g. found g rest) m.1) in
    omega (arith, found_token x, found_length x)

-- the items that were read are items of the grammar
record Walked (ts : List Token) (ds : List Def) (rest : List Token) : Type 0 where
  pub placed : List Placed
  pub are : tokens placed ++ rest ≡ ts
  pub items : ItemList placed ds
  pub shallow : IsShallow placed

moved : {ps qs : List Placed} {ds es : List Def} → ps ≡ qs → ds ≡ es → ItemList ps ds → ItemList qs es
moved {qs} {ds} e f xs = subst (ItemList qs) f (subst (λ l. ItemList l ds) e xs)

items_append : {ps qs : List Placed} {ds es : List Def} → ItemList ps ds → Item qs es → ItemList (ps ++ qs) (ds ++ es)
items_append {qs} {es} ItemList.none x = moved (append-nil qs) (append-nil es) (ItemList.more x ItemList.none)
items_append {qs} {es} (ItemList.more {ts} {rest} {made = first} {others} y ys) x =
    moved (sym (append_assoc ts rest qs)) (sym (append_assoc first others es)) (ItemList.more y (items_append ys x))

both_tokens : (ps qs : List Placed) (ts us rest : List Token) → tokens ps ++ us ≡ ts → tokens qs ++ rest ≡ us → tokens (ps ++ qs) ++ rest ≡ ts
both_tokens ps qs ts us rest e h =
    ap (λ l. l ++ rest) (tokens_append ps qs) ∙ (append_assoc (tokens ps) (tokens qs) rest ∙ (ap (λ l. tokens ps ++ l) h ∙ e))

walked : {ts : List Token} {ds : List Def} {rest : List Token} → ItemsRead ts ds rest → Walked ts ds rest
walked ItemsRead.none = record { placed = []; are = refl; items = ItemList.none; shallow = All-nil (λ t. t.depth ≤ most_depth) }
walked {ts} (ItemsRead.more {ds} {f} {rest} {behind} n r e c) =
    let w = walked r in
    let x = found_item rest e in
    let count : length x.placed ≡ n = omega (arith, c, found_length x) in
    record {
      placed = w.placed ++ x.placed;
      are = both_tokens w.placed x.placed ts rest behind w.are x.are;
      items = subst (λ k. ItemList (w.placed ++ x.placed) (ds ++ f k)) count (items_append w.items x.item_of);
      shallow = All-append (λ t. t.depth ≤ most_depth) w.placed x.placed w.shallow x.shallow;
    }

walked_length : {ts : List Token} {ds : List Def} {rest : List Token} (w : Walked ts ds rest) → length w.placed + length rest ≡ length ts
walked_length {rest} w = omega (arith, ap length w.are, length-append (tokens w.placed) rest, length_tokens w.placed)

-- where no token is left, all are a program
pub program_read : (ts : List Token) (ds : List Def) (place : ℕ) → ItemsRead ts ds [] → ReadsProgram ts place (record { definitions = ds; end = place })
program_read ts ds place r =
    let w = walked r in
    record {
      read = record { definitions = ds; end = end w.placed };
      reads = record {
        placed = w.placed;
        are = sym (append-nil (tokens w.placed)) ∙ w.are;
        phrase = TranslationUnit.program w.items;
        shallow = w.shallow;
      };
      ends = refl;
    }

-- a text that begins as one of which items were read begins with the same items
record Behind (rest : List Token) (n : ℕ) : Type 0 where
  pub placed : List Placed
  pub definitions : List Def
  pub items : ItemList placed definitions
  pub are : take (suc n) (tokens placed) ≡ take (suc n) rest

behind_item : {qs : List Placed} {es : List Def} {rest behind : List Token} {f : ℕ → List Def} (x : FoundItem rest f behind) (n : ℕ)
    → ItemList qs es → take (beyond x.placed n) (tokens qs) ≡ take (beyond x.placed n) rest → Behind behind n
behind_item {rest} {behind} {f} x n ItemList.none e =
    absurd (nothing_gives x.placed (made f) behind n
    (run_first (beyond x.placed n) [] rest item e ∙ ap (first_of (beyond x.placed n)) x.trace))
behind_item {rest} {behind} {f} x n (ItemList.more {ts} {rest = others} y ys) e =
    let z = item_yields y in
    let same = gave_same x.placed ts (made f) (made z.by_count) behind (tokens others) n
    (ap (first_of (beyond x.placed n)) (sym x.trace)
    ∙ (run_first (beyond x.placed n) rest (tokens (ts ++ others)) item (sym e) ∙ ap (first_of (beyond x.placed n)) (reads_item z others))) in
    record { placed = others; definitions = _; items = ys; are = sym same.1 }

behind_items : {ts : List Token} {ds : List Def} {rest : List Token} {qs : List Placed} {es : List Def} → ItemsRead ts ds rest
    → (c n : ℕ) → c + length rest ≡ length ts → ItemList qs es → take (c + n + 1) (tokens qs) ≡ take (c + n + 1) ts → Behind rest n
behind_items {ts} {qs = qs} ItemsRead.none c n h xs e =
    let count : c + n + 1 ≡ suc n = omega (arith, h) in
    record { placed = qs; definitions = _; items = xs; are = subst (λ k. take k (tokens qs) ≡ take k ts) count e }
behind_items {ts} {qs = qs} (ItemsRead.more {rest} {behind} m r i count) c n h xs e =
    let x = found_item rest i in
    let w = walked r in
    let all : c + n + 1 ≡ length w.placed + (length x.placed + n) + 1 =
    omega (arith, h, count, found_length x, walked_length w) in
    let b = behind_items r (length w.placed) (length x.placed + n) (walked_length w) xs (subst (λ k. take k (tokens qs) ≡ take k ts) all e) in
    let next : suc (length x.placed + n) ≡ beyond x.placed n = omega (arith, beyond_is x.placed n) in
    behind_item x n b.items (subst (λ k. take k (tokens b.placed) ≡ take k rest) next b.are)

-- where nothing fits, no text begins so
no_item : (rest left : List Token) (ps : List Placed) {qs : List Placed} {es : List Def} → 0 < length rest
    → run_text rest item ≡ nexts ps (Stopped left) → ItemList qs es → ¬ (take (beyond ps 0) (tokens qs) ≡ take (beyond ps 0) rest)
no_item [] left ps h t xs e = absurd (omega arith)
no_item (u ∷ us) left [] h t ItemList.none e = absurd (cc)
no_item (u ∷ us) left (p ∷ ps) h t ItemList.none e = absurd (cc)
no_item (u ∷ us) left ps h t (ItemList.more {ts} {rest = others} y ys) e =
    let z = item_yields y in
    stopped_differs ps ts (made z.by_count) left (tokens others) 0
    (ap (first_of (beyond ps 0)) (sym t)
    ∙ (run_first (beyond ps 0) (u ∷ us) (tokens (ts ++ others)) item (sym e) ∙ ap (first_of (beyond ps 0)) (reads_item z others)))

no_text : {ts : List Token} {ds : List Def} {rest : List Token} (left : List Token) (ps : List Placed) {qs : List Placed} {es : List Def}
    → ItemsRead ts ds rest → 0 < length rest → run_text rest item ≡ nexts ps (Stopped left) → ItemList qs es
    → (k : ℕ) → k + length left ≡ length ts → ¬ (take (k + 1) (tokens qs) ≡ take (k + 1) ts)
no_text {ts} {rest} left ps {qs} r h t xs k c e =
    let w = walked r in
    let took : length ps + length left ≡ length rest =
    omega (arith, ap length (tokens_nexts rest ps (Stopped left) t), length-append (tokens ps) left, length_tokens ps) in
    let all : k + 1 ≡ length w.placed + length ps + 1 = omega (arith, c, took, walked_length w) in
    let b = behind_items r (length w.placed) (length ps) (walked_length w) xs (subst (λ n. take n (tokens qs) ≡ take n ts) all e) in
    let next : suc (length ps) ≡ beyond ps 0 = omega (arith, beyond_is ps 0) in
    no_item rest left ps {qs = b.placed} {es = b.definitions} h t b.items (subst (λ n. take n (tokens b.placed) ≡ take n rest) next b.are)

-- the items that were read and the tokens that an item took after them begin a text
text_begins : {ps : List Placed} {ds es : List Def} (qs more : List Placed) → ItemList ps ds → Item (qs ++ more) es
    → Begins TranslationUnit (ps ++ qs)
text_begins {ps} {ds} {es} qs more xs x =
    let whole : Program = record { definitions = ds ++ es; end = end (ps ++ (qs ++ more)) } in
    (more, whole, subst (λ l. TranslationUnit l whole) (sym (append_assoc ps qs more)) (TranslationUnit.program (items_append xs x)))

began : {ps : List Placed} {ds : List Def} (qs more : List Placed) → ItemList ps ds → {f : Found} {rest : List Token} → AsItem (qs ++ more) f rest
    → Begins TranslationUnit (ps ++ qs)
began qs more xs (Made.it_is x) = text_begins qs more xs x

-- where nothing fits, and tokens are left
pub program_stuck : (ts : List Token) (ds : List Def) (rest : List Token) (left : ℕ) → ItemsRead ts ds rest → 0 < length rest
    → text_parsed item rest ≡ stuck_at left
    → (k : ℕ) × FaultAt TranslationUnit ts k × (k + left ≡ length ts) × ((j : ℕ) → TooDeepAt TranslationUnit ts j → k ≤ j)
program_stuck ts ds rest left r h e =
    let w = walked r in
    let c = answer rest e in
    let x = item_explained rest c.0 (Stopped c.1) c.3 in
    let begins : Begins TranslationUnit (w.placed ++ c.0) = began c.0 x.0 w.items x.2 in
    let are : tokens (w.placed ++ c.0) ++ c.1 ≡ ts = both_tokens w.placed c.0 ts rest c.1 w.are (tokens_nexts rest c.0 (Stopped c.1) c.3) in
    let shallow : IsShallow (w.placed ++ c.0) = All-append (λ t. t.depth ≤ most_depth) w.placed c.0 w.shallow c.2 in
    let k = length (w.placed ++ c.0) in
    let count : k + length c.1 ≡ length ts = omega (arith, ap length are, length-append (tokens (w.placed ++ c.0)) c.1, length_tokens (w.placed ++ c.0)) in
    let first : tokens (w.placed ++ c.0) ≡ take k ts =
    sym (take_at (tokens (w.placed ++ c.0)) c.1 k (length_tokens (w.placed ++ c.0))) ∙ ap (take k) are in
    let no_whole : ¬ IsWhole TranslationUnit ts = λ q. not_whole c.1 c.0 r h c.3 k count q.2 q.3 in (
      k,
      (record { within = omega (arith, count); front = (w.placed ++ c.0, first, begins); ends = ended c.1 c.0 r h c.3 k count }, inr no_whole),
      omega (arith, count, c.4),
      λ j d. deep_behind TranslationUnit program_depth ts k (w.placed ++ c.0) (omega (arith, count)) first begins shallow j d,
    )
  where
    not_whole : {rest : List Token} (behind : List Token) (ps : List Placed) {qs : List Placed} {p : Program} → ItemsRead ts ds rest → 0 < length rest
        → run_text rest item ≡ nexts ps (Stopped behind) → (k : ℕ) → k + length behind ≡ length ts → tokens qs ≡ ts
        → ¬ TranslationUnit qs p
    not_whole behind ps r h t k c e (TranslationUnit.program xs) = no_text behind ps r h t xs k c (ap (take (k + 1)) e)

    ended : {rest : List Token} (behind : List Token) (ps : List Placed) → ItemsRead ts ds rest → 0 < length rest
        → run_text rest item ≡ nexts ps (Stopped behind) → (k : ℕ) → k + length behind ≡ length ts
        → (k ≡ length ts) ⊎ ¬ IsFront TranslationUnit (take (k + 1) ts)
    ended [] ps r h t k c = inl (omega (arith, c))
    ended (u ∷ us) ps r h t k c = inr (λ f. no_front f.0 f.2.0 f.1 f.2.2)
      where
        no_front : (front more : List Placed) {p : Program} → tokens front ≡ take (k + 1) ts → ¬ TranslationUnit (front ++ more) p
        no_front front more e (TranslationUnit.program xs) =
            let n : length front ≡ k + 1 = front_length (k + 1) front ts (omega (arith, c)) e in
            no_text (u ∷ us) ps r h t xs k c (take_front (k + 1) front more n ∙ e)

-- where the first token is that is too deep
pub program_deep : (ts : List Token) (ds : List Def) (rest : List Token) (left : ℕ) → ItemsRead ts ds rest → text_parsed item rest ≡ deep_at left
    → (k : ℕ) × TooDeepAt TranslationUnit ts k × (k + left ≡ length ts) × ((j : ℕ) → FaultAt TranslationUnit ts j → k ≤ j)
program_deep ts ds rest left r e =
    let w = walked r in
    let c = answer rest e in
    let last = c.1 in
    let more = text_remaining c.2 in
    let x = explained_begins (λ ts f rest. AsItem (c.0 ++ last ∷ ts) f rest) c.2 (item_explained rest c.0 (Next last c.2) c.5) in
    let above = w.placed ++ c.0 in
    let behind = text_placed c.2 ++ x.0 in
    let whole : AsItem ((c.0 ++ last ∷ []) ++ behind) x.1 x.2 = subst (λ l. AsItem l x.1 x.2) (sym (append_assoc c.0 (last ∷ []) behind)) x.3 in
    let begins : Begins TranslationUnit (w.placed ++ (c.0 ++ last ∷ [])) = began (c.0 ++ last ∷ []) behind w.items whole in
    let are : tokens above ++ last.token ∷ more ≡ ts =
    both_tokens w.placed c.0 ts rest (last.token ∷ more) w.are (tokens_nexts rest c.0 (Next last c.2) c.5) in
    let shallow : IsShallow above = All-append (λ t. t.depth ≤ most_depth) w.placed c.0 w.shallow c.3 in
    let k = length above in
    let count : k + suc (length more) ≡ length ts =
    omega (arith, ap length are, length-append (tokens above) (last.token ∷ more), length_tokens above) in
    let placed : tokens (above ++ last ∷ []) ≡ take (k + 1) ts =
    sym (take_at (tokens (above ++ last ∷ [])) more (k + 1) (omega (arith, length_tokens (above ++ last ∷ []), length-append above (last ∷ []))))
    ∙ ap (take (k + 1)) (ap (λ l. l ++ more) (tokens_append above (last ∷ [])) ∙ (append_assoc (tokens above) (last.token ∷ []) more ∙ are)) in
    let deep : TooDeepAt TranslationUnit ts k = (
      omega (arith, count),
      above ++ last ∷ [],
      placed,
      subst (Begins TranslationUnit) (sym (append_assoc w.placed c.0 (last ∷ []))) begins,
      record { above = above; last = last; are = refl; shallow = shallow; deep = c.4 },
    ) in
    (k, deep, omega (arith, count, c.6), λ j f. let before : k < j = deep_before_fault TranslationUnit ts k j deep f in omega arith)
