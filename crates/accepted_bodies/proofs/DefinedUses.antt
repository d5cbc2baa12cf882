-- No accepted text uses a name that it doesn't define.
use Rattle.std.proofs.Common.{◌≡◌, ◌<◌, Bool, true, false, List, [], ◌∷◌, Option, Some, Contains, find, cond, inl, inr, refl, sym, ap, subst, ◌∙◌, arith}
use Rattle.std.proofs.lemmas.Bool.{false≢true}
use Rattle.c_tree.specs.BareExpr.{Bytes, BareType}
use Rattle.c_tree.specs.BareStmt.{BareStmts}
use Rattle.c_tree.specs.BareDef.{BareBinding, BareDef, Function}
use Rattle.c_semantics.specs.Skeletons.{direct_uses, skeleton_of}
use Rattle.c_semantics.specs.Texts.{defines, definition, names}
use Rattle.name_sets.specs.NameLists.{name_set}
use Rattle.sorted_names.proofs.Order.{among_set}
use Rattle.typed_uses.proofs.Lookups.{itself}
use Rattle.typed_uses.proofs.Points.{either_of}
use Rattle.typed_uses.proofs.Uses.{accepted_texts_define_their_uses}
use Rattle.frame_bodies.proofs.AcceptedFacts.{bare_of}
use Rattle.frame_bodies.proofs.OnlyOnce.{Lone, NoFunction, NotNamed, alone_in}
use Rattle.brought_bodies.proofs.NamesUsed.{among_decides}
use Rattle.brought_bodies.proofs.Undefined.{undefined_use}
use Rattle.accepted_bodies.specs.DefinedUses.{AcceptedTextsDefineEachUse, AcceptedTextsAreKnown}

module _ (result : Option BareType) (name : Bytes) (parameters : List BareBinding) (body : BareStmts) where
  abbrev own : BareDef
  own = Function result name parameters body

  -- a function isn't among definitions without one of its name
  none_there : (ds : List BareDef) → NoFunction name ds → Contains ds own → ⊥
  none_there [] none there = let below : there.0 < 0 = there.1 in omega (arith, below)
  none_there (d ∷ ds) none there = elim (either_of d own ds there) [
    | inl is ↦ false≢true (sym (subst (NotNamed name) is none.0) ∙ itself name)
    | inr later ↦ none_there ds none.1 later
  ]

  -- a function that is the only one of its name is found by it
  found_there : (ds : List BareDef) → Lone ds → Contains ds own → find (defines name) ds ≡ Some own
  found_there [] lone there = let below : there.0 < 0 = there.1 in absurd (omega (arith, below))
  found_there (d ∷ ds) lone there = elim (either_of d own ds there) [
    | inl is ↦ subst (λ x. find (defines name) (x ∷ ds) ≡ Some own) (sym is) (ap (λ t. cond t (Some own) (find (defines name) ds)) (itself name))
    | inr later ↦ behind (defines name d) refl later (found_there ds lone.1 later)
  ]
    where
      behind : (t : Bool) → defines name d ≡ t → Contains ds own → find (defines name) ds ≡ Some own
          → cond t (Some d) (find (defines name) ds) ≡ Some own
      behind true is later rest = absurd (none_there ds (lone.0 name is) later)
      behind false is later rest = rest

abbrev Names : Bytes → List BareDef → Type 0
Names f ds = (used : Bytes) → Contains (direct_uses (skeleton_of (definition ds) (definition ds f))) used → Contains (names ds) used

pub accepted_texts_have_none : AcceptedTextsDefineEachUse
accepted_texts_have_none text a u =
    let ds = text.definitions in
    let named : Names u.name ds = subst (Names u.name) (bare_of text a) (accepted_texts_define_their_uses a.bytes text.tree a.accepted u.name) in
    let found = found_there u.result u.name u.parameters u.body ds (alone_in text a) u.is_there in
    u.undefined (named u.used (subst (λ o. Contains (direct_uses (skeleton_of (definition ds) o)) u.used) (sym found) u.uses))

-- a name is among the set of some names if it is one of them
pub in_name_set : (xs : List Bytes) (z : Bytes) → Contains xs z → Contains (name_set xs) z
in_name_set xs z there = (among_decides (name_set xs) z).0 (among_set z xs ∙ (among_decides xs z).1 there)

pub accepted_texts_are_known : AcceptedTextsAreKnown
accepted_texts_are_known table text a has u = accepted_texts_have_none text a (undefined_use table text.definitions has u)
