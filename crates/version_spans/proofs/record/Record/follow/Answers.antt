use Rattle.std.proofs.Common.{◌≡◌, ℕ, ◌-◌, Bool, true, false, not, length, List, [], ◌∷◌, ◌++◌, Option, Some, None, is_some, refl, sym, ap, ◌∙◌, arith}
use Rattle.std.proofs.lemmas.Bool.{false≢true}
use Rattle.c_tree.specs.BareDef.{BareDef}
use Rattle.version_laws.proofs.TableHistories.{one_longer}
use Rattle.version_spans.proofs.FollowedUses.{kept_changed, kept_ended, kept_unchanged}
use Rattle.version_spans.proofs.record.Record.follow.Goals.{else-is_none-via-then-is_none+else-has_changed, else-is_none-via-else-is_none}
use Rattle.version_spans.proofs.record.Record.follow.Goals as goal

none_where : (o : Option ℕ) (b : Bool) → is_some o ≡ not b → b ≡ true → o ≡ None
none_where None b e h = cc
none_where (Some n) b e h = cc

some_where : (o : Option ℕ) (b : Bool) → is_some o ≡ not b → b ≡ false → (l : ℕ) × (o ≡ Some l)
some_where None b e h = absurd (false≢true (e ∙ ap not h))
some_where (Some l) b e h = (l, refl)

the_version_before : (texts : List (List BareDef)) (q : List BareDef) (version before current : ℕ) → version ≡ length (texts ++ q ∷ []) → before ≡ version - 1
    → current ≡ length texts → before ≡ current
the_version_before texts q version before current is less count = let longer = one_longer texts q in omega (arith, is, less, count, longer)

pub returns-then-has_changed : goal.returns-then-has_changed
returns-then-has_changed c = λ texts q table uses h main began k.
    kept_changed texts q table h main uses c.args.self.now c.saturating_sub.result c.clear.new.self k
    (none_where c.args.self.now.last c.is_none.result c.is_none.ensures c.if-is_none.true)
    (sym (c.has_changed.ensures texts q began) ∙ c.if-has_changed.true)
    (the_version_before texts q c.version.result c.saturating_sub.result _ (c.version.ensures (texts ++ q ∷ []) began) c.saturating_sub.ensures h.history.count)

pub returns-else-is_none : goal.returns-else-is_none
returns-else-is_none c = λ texts q table uses h main began k.
    elim c.else-is_none.branch [
      | else-is_none-via-then-is_none+else-has_changed w ↦
          kept_unchanged texts q table h main uses c.args.self.now k
          (none_where c.args.self.now.last c.is_none.result c.is_none.ensures w.if-is_none.true)
          (sym (w.has_changed.ensures texts q began) ∙ w.if-has_changed.false)
      | else-is_none-via-else-is_none w ↦
          let some = some_where c.args.self.now.last c.is_none.result c.is_none.ensures w.if-is_none.false in
          kept_ended texts q table h main uses c.args.self.now some.0 k some.1
    ]
