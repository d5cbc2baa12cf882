-- What a number means in a table, it means in each table that this one grows to.
use Rattle.std.proofs.Common.{◌≡◌, ℕ, zero, suc, ◌+◌, ◌<◌, ◌≤◌, Bool, true, false, IsTrue, List, [], ◌∷◌, ◌++◌, length, map, take, get_or, refl, sym, ap, subst, ◌∙◌, if◌then◌else◌, arith, append_assoc, length-append}
use Rattle.std.proofs.lemmas.List.{append-nil}
use Rattle.std.specs.Prelude.{bytes_eq, Result, Ok, Err, IfOk, OnOk}
use Rattle.std.specs.List.{list_any}
use Rattle.std.proofs.lemmas.List.{get_or_append_left, get_or_at, take_more, map-append}
use Rattle.name_sets.specs.Texts.{with_text}
use Rattle.c_tree.specs.BareExpr.{Bytes}
use Rattle.resolved_tree.specs.declared.node.NodeId.{NodeId}
use Rattle.resolved_tree.specs.declared.node.Node.{Node}
use Rattle.resolved_tree.specs.declared.words.Word.{Word}
use Rattle.resolved_tree.specs.Nodes.{Table, expression, zero_constant, word, tree_at, made, with_node}
use Rattle.resolved_tree.specs.Parts.{Named, nothing, a_word, a_node, both, below, in_node, is_within}
use Rattle.name_resolution.specs.Found.{Grows, IsIn, each_node}
use Rattle.resolved_tree.proofs.Naming.{Agree, AllBelow, all_below, shown_all, below_more, left_below, right_below, both_hold, made_agrees}

-- nothing is added
pub grows_refl : (t : Table) → Grows t t
grows_refl t = record { words = ([], sym (append-nil _)); trees = ([], sym (append-nil _)) }

pub grows_trans : (t u v : Table) → Grows t u → Grows u v → Grows t v
grows_trans t u v g h = record {
  words = (g.words.0 ++ h.words.0, h.words.1 ∙ ap (λ ws. ws ++ h.words.0) g.words.1 ∙ append_assoc t.words g.words.0 h.words.0);
  trees = (g.trees.0 ++ h.trees.0, h.trees.1 ∙ ap (λ ts. ts ++ h.trees.0) g.trees.1 ∙ append_assoc t.trees g.trees.0 h.trees.0);
}

pub grows_same : (t u : Table) → u ≡ t → Grows t u
grows_same t u e = let P : Table → Type 0 = λ v. Grows t v in subst P (sym e) (grows_refl t)

more_words : (t u : Table) → Grows t u → length t.words ≤ length u.words
more_words t u g = omega (arith, ap length g.words.1, length-append t.words g.words.0)

more_trees : (t u : Table) → Grows t u → length t.trees ≤ length u.trees
more_trees t u g = omega (arith, ap length g.trees.1, length-append t.trees g.trees.0)

below_later : (m n : ℕ) (xs : List ℕ) → m ≤ n → IsTrue (below m xs) → IsTrue (below n xs)
below_later m n xs le h = shown_all n xs (below_more m n xs le (all_below m xs h))

-- what is there stays there
pub in_later : (t u : Table) (n : Named) → Grows t u → IsIn t n → IsIn u n
in_later t u n g h = record {
  words = below_later (length t.words) (length u.words) n.words (more_words t u g) h.words;
  nodes = below_later (length t.trees) (length u.trees) n.nodes (more_trees t u g) h.nodes;
}

-- ---- what is named by two

append_below : (limit : ℕ) (ms ns : List ℕ) → AllBelow limit ms → AllBelow limit ns → AllBelow limit (ms ++ ns)
append_below limit [] ns h k = k
append_below limit (m ∷ ms) ns h k = (h.0, append_below limit ms ns h.1 k)

pub both_in : (t : Table) (a b : Named) → IsIn t a → IsIn t b → IsIn t (both a b)
both_in t a b h k = record {
  words = shown_all _ _ (append_below (length t.words) a.words b.words (all_below _ _ h.words) (all_below _ _ k.words));
  nodes = shown_all _ _ (append_below (length t.trees) a.nodes b.nodes (all_below _ _ h.nodes) (all_below _ _ k.nodes));
}

pub left_in : (t : Table) (a b : Named) → IsIn t (both a b) → IsIn t a
left_in t a b h = record {
  words = shown_all _ _ (left_below (length t.words) a.words b.words (all_below _ _ h.words));
  nodes = shown_all _ _ (left_below (length t.trees) a.nodes b.nodes (all_below _ _ h.nodes));
}

pub right_in : (t : Table) (a b : Named) → IsIn t (both a b) → IsIn t b
right_in t a b h = record {
  words = shown_all _ _ (right_below (length t.words) a.words b.words (all_below _ _ h.words));
  nodes = shown_all _ _ (right_below (length t.trees) a.nodes b.nodes (all_below _ _ h.nodes));
}

-- and by one alone
pub alone_in : (t : Table) (a : Named) → IsIn t a → IsIn t (both a nothing)
alone_in t a h = both_in t a nothing h (record { words = refl; nodes = refl })

-- each of some nodes
each_at : (n : ℕ) (ids : List NodeId) (i : ℕ) (d : NodeId) → AllBelow n (map (λ id. id.0) ids) → i < length ids → (get_or ids i d).0 < n
each_at n [] i d h l = absurd (omega arith)
each_at n (x ∷ ids) zero d h l = h.0
each_at n (x ∷ ids) (suc i) d h l = each_at n ids i d h.1 (omega arith)

pub each_in : (t : Table) (ids : List NodeId) (i : ℕ) (d : NodeId) → IsIn t (each_node ids) → i < length ids → IsIn t (a_node (get_or ids i d))
each_in t ids i d h l =
    let below_all : AllBelow (length t.trees) ((get_or ids i d).0 ∷ []) = (each_at (length t.trees) ids i d (all_below _ _ h.nodes) l, tt) in
    record { words = refl; nodes = shown_all (length t.trees) ((get_or ids i d).0 ∷ []) below_all }

-- ---- what numbers mean

kept_at : {A : Type 0} (xs ys more : List A) (d : A) (i : ℕ) → ys ≡ xs ++ more → i < length xs → get_or xs i d ≡ get_or ys i d
kept_at xs ys more d i e l = rw e (sym (get_or_append_left xs more d i l))

agrees : (t u : Table) → Grows t u → Agree (length t.words) (length t.trees) t u
agrees t u g = record {
  words = λ x l. kept_at t.words u.words g.words.0 [] x.0 g.words.1 l;
  trees = λ id l. kept_at t.trees u.trees g.trees.0 (expression zero_constant) id.0 g.trees.1 l;
}

pub is_within_of : (t : Table) (node : Node) → IsIn t (in_node node) → IsTrue (is_within (length t.words) (length t.trees) node)
is_within_of t node h = both_hold _ _ h.words h.nodes

-- what a node makes of the trees that it names
pub made_later : (t u : Table) (node : Node) → Grows t u → IsIn t (in_node node) → made t node ≡ made u node
made_later t u node g h = made_agrees (length t.words) (length t.trees) t u (agrees t u g) node (is_within_of t node h)

-- ---- one more node

pub grows_push : (t now : Table) (node : Node) → now ≡ with_node t node → Grows t now
grows_push t now node e = rw e (record { words = ([], sym (append-nil _)); trees = (made t node ∷ [], refl) })

pub pushed_in : (t now : Table) (node : Node) (id : NodeId) → now ≡ with_node t node → id.0 ≡ length t.trees → IsIn now (a_node id)
pushed_in t now node id e n =
    let l : id.0 < length now.trees = omega (arith, ap (λ u. length u.trees) e, length-append t.trees (made t node ∷ [])) in
    let below_all : AllBelow (length now.trees) (id.0 ∷ []) = (l, tt) in
    record { words = refl; nodes = shown_all (length now.trees) (id.0 ∷ []) below_all }

-- the tree of a new node is made of the node, then and later
pub pushed : (t now u : Table) (node : Node) (id : NodeId) → IsIn t (in_node node) → now ≡ with_node t node → id.0 ≡ length t.trees
    → Grows now u → tree_at u id ≡ made u node
pushed t now u node id h e n g =
    let l : id.0 < length now.trees = omega (arith, ap (λ x. length x.trees) e, length-append t.trees (made t node ∷ [])) in
    sym ((agrees now u g).trees id l)
    ∙ ap (λ x. tree_at x id) e
    ∙ get_or_at t.trees (made t node) [] (expression zero_constant) id.0 (sym n)
    ∙ made_later t u node (grows_trans t now u (grows_push t now node e) g) h

-- ---- one more word

grows_word : (t : Table) (text : Bytes) → Grows t (record t { words = with_text t.words text })
grows_word t text = by (list_any (bytes_eq text) t.words)
  where
    by : (b : Bool) → Grows t (record t { words = if b then t.words else t.words ++ text ∷ [] })
    by true = grows_refl t
    by false = record { words = (text ∷ [], refl); trees = ([], sym (append-nil _)) }

pub grows_with_word : (t now : Table) (text : Bytes) → now ≡ record t { words = with_text t.words text } → Grows t now
grows_with_word t now text e = let P : Table → Type 0 = λ v. Grows t v in subst P (sym e) (grows_word t text)

pub word_in : (t : Table) (w : Word) → w.0 < length t.words → IsIn t (a_word w)
word_in t w l =
    let below_all : AllBelow (length t.words) (w.0 ∷ []) = (l, tt) in
    record { words = shown_all (length t.words) (w.0 ∷ []) below_all; nodes = refl }

pub word_later : (t u : Table) (w : Word) → w.0 < length t.words → Grows t u → word u w ≡ word t w
word_later t u w l g = sym ((agrees t u g).words w l)

-- a word that is there
pub word_kept : (t u : Table) (w : Word) → IsIn t (a_word w) → Grows t u → word u w ≡ word t w
word_kept t u w h g = let below_all = all_below (length t.words) (w.0 ∷ []) h.words in word_later t u w below_all.0 g

-- ---- what a call gives

-- what is reported of what a call gives, told in other words
pub later_as : {A B E : Type 0} (at : Table → A → B) (now : Table) (r : Result A E) (F G : Table → B)
    → IfOk r (λ x. (u : Table) → Grows now u → at u x ≡ F u) → ((u : Table) → Grows now u → F u ≡ G u)
    → IfOk r (λ x. (u : Table) → Grows now u → at u x ≡ G u)
later_as at now (Ok x) F G h e = λ u g. h u g ∙ e u g
later_as at now (Err x) F G h e = h

-- ---- more of them

append_all : (n : ℕ) (ids : List NodeId) (id : NodeId) → AllBelow n (map (λ x. x.0) ids) → id.0 < n → AllBelow n (map (λ x. x.0) (ids ++ id ∷ []))
append_all n [] id h l = (l, tt)
append_all n (x ∷ ids) id h l = (h.0, append_all n ids id h.1 l)

pub each_more : (t : Table) (ids more : List NodeId) (id : NodeId) → more ≡ ids ++ id ∷ [] → IsIn t (each_node ids) → IsIn t (a_node id)
    → IsIn t (each_node more)
each_more t ids more id e h k =
    let one : AllBelow (length t.trees) (id.0 ∷ []) = all_below (length t.trees) (id.0 ∷ []) k.nodes in
    rw e
    (record { words = refl; nodes = shown_all (length t.trees) (map (λ x. x.0) (ids ++ id ∷ [])) (append_all (length t.trees) ids id (all_below _ _ h.nodes) one.0) })

pub mapped_more : {A B C D : Type 0} (f : A → D) (g : C → D) (h : B → C) (xs more : List A) (x : A) (ys : List B) (i : ℕ) (y : B)
    → more ≡ xs ++ x ∷ [] → i < length ys → y ≡ get_or ys i y → map f xs ≡ map g (map h (take i ys)) → f x ≡ g (h y)
    → map f more ≡ map g (map h (take (i + 1) ys))
mapped_more f g h xs more x ys i y e l is before here =
    ap (map f) e ∙ map-append f xs (x ∷ []) ∙ ap (λ zs. zs ++ f x ∷ []) before
    ∙ ap (λ z. map g (map h (take i ys)) ++ z ∷ []) here
    ∙ sym (ap (map g) (ap (map h) (take_more ys i y l ∙ ap (λ z. take i ys ++ z ∷ []) (sym is)) ∙ map-append h (take i ys) (y ∷ []))
    ∙ map-append g (map h (take i ys)) (h y ∷ []))

pub mapped_once : {A B D : Type 0} (f : A → D) (g : B → D) (xs more : List A) (x : A) (ys : List B) (i : ℕ) (y : B)
    → more ≡ xs ++ x ∷ [] → i < length ys → y ≡ get_or ys i y → map f xs ≡ map g (take i ys) → f x ≡ g y
    → map f more ≡ map g (take (i + 1) ys)
mapped_once f g xs more x ys i y e l is before here =
    ap (map f) e ∙ map-append f xs (x ∷ []) ∙ ap (λ zs. zs ++ f x ∷ []) before
    ∙ ap (λ z. map g (take i ys) ++ z ∷ []) here
    ∙ sym (ap (map g) (take_more ys i y l ∙ ap (λ z. take i ys ++ z ∷ []) (sym is)) ∙ map-append g (take i ys) (y ∷ []))

-- what holds is reported where a call succeeds
pub told_ok : {A E : Type 0} {P : Type 0} (r : Result A E) → P → OnOk r P
told_ok (Ok x) p = p
told_ok (Err x) p = tt
