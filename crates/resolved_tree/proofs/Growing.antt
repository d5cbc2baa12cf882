-- A table that grows keeps its trees, and each tree is made of its node.
use Rattle.std.proofs.Common.{◌⊎◌, inl, inr, ◌≡◌, ℕ, zero, suc, ◌+◌, ◌<◌, ◌≤◌, Bool, true, false, IsTrue, List, [], ◌∷◌, ◌++◌, length, get_or, if◌then◌else◌, refl, sym, ap, subst, ◌∙◌, arith, length-append}
use Rattle.std.specs.Prelude.{bytes_eq, Result, Ok, Err, OnOk, OnErr}
use Rattle.std.specs.Result.{is_ok}
use Rattle.std.specs.List.{list_any}
use Rattle.std.proofs.lemmas.List.{get_or_append_left, get_or_at}
use Rattle.name_sets.specs.Texts.{with_text}
use Rattle.c_tree.specs.BareExpr.{Bytes}
use Rattle.resolved_tree.specs.declared.node.Entry.{Entry}
use Rattle.resolved_tree.specs.declared.node.Node.{Node}
use Rattle.resolved_tree.specs.declared.node.NodeId.{NodeId}
use Rattle.resolved_tree.specs.declared.words.Word.{Word}
use Rattle.resolved_tree.specs.Words.{text_of}
use Rattle.resolved_tree.specs.Nodes.{Tree, Table, expression, zero_constant, tree_at, made, points_of}
use Rattle.resolved_tree.specs.Parts.{is_within}
use Rattle.resolved_tree.specs.Grown.{grown, made_of, IsSound}
use Rattle.resolved_tree.proofs.Naming.{Agree, made_agrees, within_more}

-- the table with some trees
abbrev with_trees : List Bytes → List Tree → Table
with_trees words trees = record { words = words; trees = trees }

pub grown_count : (words : List Bytes) (trees : List Tree) (es : List Entry) → length (grown words trees es) ≡ length trees + length es
grown_count words trees [] = omega arith
grown_count words trees (e ∷ es) =
    let more = trees ++ made (with_trees words trees) e.node ∷ [] in
    omega (arith, grown_count words more es, length-append trees (made (with_trees words trees) e.node ∷ []))

-- the trees so far stay
grown_keeps : (words : List Bytes) (trees : List Tree) (es : List Entry) (d : Tree) (i : ℕ) → i < length trees
    → get_or trees i d ≡ get_or (grown words trees es) i d
grown_keeps words trees [] d i h = refl
grown_keeps words trees (e ∷ es) d i h =
    let m = made (with_trees words trees) e.node in
    sym (get_or_append_left trees (m ∷ []) d i h)
    ∙ grown_keeps words (trees ++ m ∷ []) es d i (omega (arith, length-append trees (m ∷ [])))

grown_agrees : (words : List Bytes) (trees : List Tree) (es : List Entry)
    → Agree (length words) (length trees) (with_trees words trees) (with_trees words (grown words trees es))
grown_agrees words trees es = record {
  words = λ x h. refl;
  trees = λ id h. grown_keeps words trees es (expression zero_constant) id.0 h;
}

-- one more node
pub grown_push : (words : List Bytes) (trees : List Tree) (es : List Entry) (e : Entry)
    → grown words trees (es ++ e ∷ []) ≡ grown words trees es ++ made (with_trees words (grown words trees es)) e.node ∷ []
grown_push words trees [] e = refl
grown_push words trees (f ∷ es) e = grown_push words (trees ++ made (with_trees words trees) f.node ∷ []) es e

-- each of some nodes is within limits, from a count of trees on
abbrev AllWithin : List Bytes → ℕ → List Entry → Type 0
AllWithin words n es = (k : ℕ) (e : Entry) → k < length es → IsTrue (is_within (length words) (n + k) (get_or es k e).node)

within_next : (words : List Bytes) (trees : List Tree) (m : Tree) (f : Entry) (es : List Entry)
    → AllWithin words (length trees) (f ∷ es) → AllWithin words (length (trees ++ m ∷ [])) es
within_next words trees m f es h k e l =
    let n : length trees + suc k ≡ length (trees ++ m ∷ []) + k = omega (arith, length-append trees (m ∷ [])) in
    let P : ℕ → Type 0 = λ i. IsTrue (is_within (length words) i (get_or es k e).node) in
    subst P n (h (suc k) e (omega arith))

-- a tree is made of its node
grown_at : (words : List Bytes) (trees : List Tree) (es : List Entry) (k : ℕ) (e : Entry) (d : Tree)
    → AllWithin words (length trees) es → k < length es
    → get_or (grown words trees es) (length trees + k) d ≡ made (with_trees words (grown words trees es)) (get_or es k e).node
grown_at words trees [] k e d h l = absurd (omega arith)
grown_at words trees (f ∷ es) zero e d h l =
    let t = with_trees words trees in
    let m = made t f.node in
    let here : length trees + 0 ≡ length trees = omega arith in
    let P : ℕ → Type 0 = λ i. IsTrue (is_within (length words) i f.node) in
    ap (λ i. get_or (grown words trees (f ∷ es)) i d) here
    ∙ sym (grown_keeps words (trees ++ m ∷ []) es d (length trees) (omega (arith, length-append trees (m ∷ []))))
    ∙ get_or_at trees m [] d (length trees) refl
    ∙ made_agrees (length words) (length trees) t (with_trees words (grown words trees (f ∷ es)))
    (grown_agrees words trees (f ∷ es)) f.node (subst P here (h 0 e (omega arith)))
grown_at words trees (f ∷ es) (suc k) e d h l =
    let m = made (with_trees words trees) f.node in
    let n : length trees + suc k ≡ length (trees ++ m ∷ []) + k = omega (arith, length-append trees (m ∷ [])) in
    ap (λ i. get_or (grown words trees (f ∷ es)) i d) n
    ∙ grown_at words (trees ++ m ∷ []) es k e d (within_next words trees m f es h) (omega arith)

-- the nodes of a sound list from the first on
from_none : (words : List Bytes) (es : List Entry) → IsSound words es → AllWithin words 0 es
from_none words es s k e l =
    let P : ℕ → Type 0 = λ i. IsTrue (is_within (length words) i (get_or es k e).node) in
    let n : k ≡ 0 + k = omega arith in
    subst P n (s.within k e l)

-- in a sound list each tree is made of its node
pub tree_of_node : (words : List Bytes) (es : List Entry) → IsSound words es → (id : NodeId) (e : Entry) → id.0 < length es
    → tree_at (made_of words es) id ≡ made (made_of words es) (get_or es id.0 e).node
tree_of_node words es s id e l =
    let n : id.0 ≡ 0 + id.0 = omega arith in
    ap (λ i. get_or (grown words [] es) i (expression zero_constant)) n
    ∙ grown_at words [] es id.0 e (expression zero_constant) (from_none words es s) l

-- after the last node there is no tree
pub no_tree : (words : List Bytes) (es : List Entry) (id : NodeId) → length es ≤ id.0
    → tree_at (made_of words es) id ≡ expression zero_constant
no_tree words es id l = past (grown words [] es) id.0 (omega (arith, grown_count words [] es))
  where
    past : (trees : List Tree) (i : ℕ) → length trees ≤ i → get_or trees i (expression zero_constant) ≡ expression zero_constant
    past [] i l = refl
    past (x ∷ xs) zero l = absurd (omega arith)
    past (x ∷ xs) (suc i) l = past xs i (omega arith)

-- ---- more words

-- the texts of the words so far stay
abbrev Keeps : List Bytes → List Bytes → Type 0
Keeps words more = (x : Word) → x.0 < length words → text_of words x ≡ text_of more x

grown_words : (words more : List Bytes) (trees : List Tree) (es : List Entry) → Keeps words more
    → AllWithin words (length trees) es → grown words trees es ≡ grown more trees es
grown_words words more trees [] g h = refl
grown_words words more trees (f ∷ es) g h =
    let t = with_trees words trees in
    let u = with_trees more trees in
    let here : length trees + 0 ≡ length trees = omega arith in
    let P : ℕ → Type 0 = λ i. IsTrue (is_within (length words) i f.node) in
    let same : made t f.node ≡ made u f.node =
    made_agrees (length words) (length trees) t u (record { words = g; trees = λ id l. refl }) f.node
    (subst P here (h 0 f (omega arith)))
    in
    grown_words words more (trees ++ made t f.node ∷ []) es g (within_next words trees (made t f.node) f es h)
    ∙ ap (λ m. grown more (trees ++ m ∷ []) es) same

push_keeps : (words : List Bytes) (text : Bytes) → Keeps words (words ++ text ∷ [])
push_keeps words text x l = sym (get_or_append_left words (text ∷ []) [] x.0 l)

pub with_text_keeps : (words : List Bytes) (text : Bytes) → Keeps words (with_text words text)
with_text_keeps words text = by (list_any (bytes_eq text) words)
  where
    by : (b : Bool) → Keeps words (if b then words else words ++ text ∷ [])
    by true x l = refl
    by false x l = push_keeps words text x l

pub with_text_more : (words : List Bytes) (text : Bytes) → length words ≤ length (with_text words text)
with_text_more words text = by (list_any (bytes_eq text) words)
  where
    by : (b : Bool) → length words ≤ length (if b then words else words ++ text ∷ [])
    by true = omega arith
    by false = omega (arith, length-append words (text ∷ []))

-- another word changes no tree
pub word_keeps_trees : (words : List Bytes) (text : Bytes) (es : List Entry) → IsSound words es
    → grown words [] es ≡ grown (with_text words text) [] es
word_keeps_trees words text es s =
    grown_words words (with_text words text) [] es (with_text_keeps words text) (from_none words es s)

-- and the list stays sound
pub word_keeps_sound : (words : List Bytes) (text : Bytes) (es : List Entry) → IsSound words es → IsSound (with_text words text) es
word_keeps_sound words text es s = record {
  within = λ k e l. within_more (length words) _ k _ (with_text_more words text) (s.within k e l);
  points = λ k e l. s.points k e l
      ∙ ap (λ trees. points_of (get_or trees k (expression zero_constant))) (word_keeps_trees words text es s);
}

-- ---- one more node

place_of_push : (n k : ℕ) → k < n + 1 → (k < n) ⊎ (k ≡ n)
place_of_push zero zero l = inr refl
place_of_push zero (suc k) l = absurd (omega arith)
place_of_push (suc n) zero l = inl (omega arith)
place_of_push (suc n) (suc k) l = elim (place_of_push n k (omega arith)) [ inl h ↦ inl (omega arith) | inr h ↦ inr (ap suc h) ]

pub push_keeps_sound : (words : List Bytes) (es : List Entry) (e : Entry) → IsSound words es
    → IsTrue (is_within (length words) (length es) e.node) → e.points ≡ points_of (made (made_of words es) e.node)
    → IsSound words (es ++ e ∷ [])
push_keeps_sound words es e s h p = record {
  within = λ k d l. within k d (place_of_push (length es) k (omega (arith, l, length-append es (e ∷ []))));
  points = λ k d l. points k d (place_of_push (length es) k (omega (arith, l, length-append es (e ∷ []))));
}
  where
    m : Tree
    m = made (made_of words es) e.node

    within : (k : ℕ) (d : Entry) → (k < length es) ⊎ (k ≡ length es)
        → IsTrue (is_within (length words) k (get_or (es ++ e ∷ []) k d).node)
    within k d (inl l) =
        let P : Entry → Type 0 = λ x. IsTrue (is_within (length words) k x.node) in
        subst P (sym (get_or_append_left es (e ∷ []) d k l)) (s.within k d l)
    within k d (inr l) =
        let P : Entry → Type 0 = λ x. IsTrue (is_within (length words) k x.node) in
        let Q : ℕ → Type 0 = λ i. IsTrue (is_within (length words) i e.node) in
        subst P (sym (get_or_at es e [] d k (sym l))) (subst Q (sym l) h)

    points : (k : ℕ) (d : Entry) → (k < length es) ⊎ (k ≡ length es)
        → (get_or (es ++ e ∷ []) k d).points ≡ points_of (get_or (grown words [] (es ++ e ∷ [])) k (expression zero_constant))
    points k d (inl l) =
        ap (λ x. x.points) (get_or_append_left es (e ∷ []) d k l) ∙ s.points k d l
        ∙ ap points_of (sym (get_or_append_left (grown words [] es) (m ∷ []) (expression zero_constant) k (omega (arith, grown_count words [] es))))
        ∙ ap (λ trees. points_of (get_or trees k (expression zero_constant))) (sym (grown_push words [] es e))
    points k d (inr l) =
        ap (λ x. x.points) (get_or_at es e [] d k (sym l)) ∙ p
        ∙ ap points_of (sym (get_or_at (grown words [] es) m [] (expression zero_constant) k (grown_count words [] es ∙ omega arith)))
        ∙ ap (λ trees. points_of (get_or trees k (expression zero_constant))) (sym (grown_push words [] es e))

-- the list stays sound whether or not the word was added
pub sound_after : {A E : Type 0} (words more : List Bytes) (text : Bytes) (es : List Entry) (r : Result A E)
    → OnOk r (more ≡ with_text words text) → OnErr r (more ≡ words) → IsSound words es → IsSound more es
sound_after words more text es (Ok a) h k s =
    let P : List Bytes → Type 0 = λ ws. IsSound ws es in subst P (sym h) (word_keeps_sound words text es s)
sound_after words more text es (Err e) h k s =
    let P : List Bytes → Type 0 = λ ws. IsSound ws es in subst P (sym k) s

-- and whether or not the node was
pub sound_after_push : {A E : Type 0} (words : List Bytes) (es more : List Entry) (e : Entry) (r : Result A E)
    → more ≡ (if is_ok r then es ++ e ∷ [] else es) → IsSound words es
    → IsTrue (is_within (length words) (length es) e.node) → e.points ≡ points_of (made (made_of words es) e.node)
    → IsSound words more
sound_after_push words es more e (Ok a) h s w p =
    let P : List Entry → Type 0 = λ x. IsSound words x in subst P (sym h) (push_keeps_sound words es e s w p)
sound_after_push words es more e (Err x) h s w p =
    let P : List Entry → Type 0 = λ x. IsSound words x in subst P (sym h) s

-- the tree of a node that was read
pub tree_of_read : (words : List Bytes) (es items : List Entry) (id : NodeId) (e : Entry) → IsSound words es → items ≡ es
    → id.0 < length items → e ≡ get_or items id.0 e → made (made_of words es) e.node ≡ tree_at (made_of words es) id
tree_of_read words es items id e s same l is =
    let here : e ≡ get_or es id.0 e = is ∙ ap (λ xs. get_or xs id.0 e) same in
    ap (λ (x : Entry). made (made_of words es) x.node) here
    ∙ sym (tree_of_node words es s id e (let P : List Entry → Type 0 = λ xs. id.0 < length xs in subst P same l))

-- as many trees as entries
pub within_entries : (words : List Bytes) (es : List Entry) (node : Node)
    → IsTrue (is_within (length words) (length (grown words [] es)) node) → IsTrue (is_within (length words) (length es) node)
within_entries words es node h =
    let n : length (grown words [] es) ≡ length es = omega (arith, grown_count words [] es) in
    let P : ℕ → Type 0 = λ i. IsTrue (is_within (length words) i node) in
    subst P n h
